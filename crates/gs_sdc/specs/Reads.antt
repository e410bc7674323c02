-- What the reader's values stand for. No public clause speaks of these.

use Rattle.std.specs.Prelude.{ℕ, List, [], ◌∷◌, map, length, not, ◌&&◌, Bool, Option, None, Some, ℤ}
use Rattle.std.specs.List.{All, list_any}
use Rattle.std.specs.Option.{option_map}
use denote.Ref.{Bor}
use Rattle.gs_amount.specs.Amount.{IsAmount, IsLimited}
use Rattle.gs_sdc.specs.Command as command
use Rattle.gs_sdc.specs.Front as front
use Rattle.gs_text.specs.Pieces.{LiesIn, text_of}
use Rattle.gs_text.specs.declared.kinds.Piece.{Piece}
use Rattle.gs_sdc.specs.Front.{Found, Words}
use Rattle.gs_sdc.specs.Parts as spec
use Rattle.gs_sdc.specs.Token.{token_of}
use Rattle.gs_sdc.specs.declared.command.Command.{Command}
use Rattle.gs_sdc.specs.declared.command.Quantity.{Quantity}
use Rattle.gs_sdc.specs.declared.command.Quantity.TheVariants.{InputDelay, OutputDelay, PortLoad}
use Rattle.gs_sdc.specs.declared.reading.Heading.{Heading}
use Rattle.gs_sdc.specs.declared.reading.Heading.TheVariants.{Unknown, Unbuilt, Heads}
use Rattle.gs_sdc.specs.declared.reading.Reading.{Reading}
use Rattle.gs_sdc.specs.declared.reading.Reading.TheVariants.{Passes, NotBuilt, Clocks, Gives, Drives}
use Rattle.gs_sdc.specs.declared.front.Names.{Names}
use Rattle.gs_sdc.specs.declared.front.Argument.{Argument}
use Rattle.gs_sdc.specs.declared.front.FoundPart.{FoundPart}
use Rattle.gs_sdc.specs.declared.parts.Part.{Part}
use Rattle.gs_sdc.specs.declared.parts.Part.TheVariants.{Value, Ports, Chosen}
use Rattle.gs_sdc.specs.declared.parts.Slot.{Slot}
use Rattle.gs_sdc.specs.declared.parts.Slot.TheVariants as slot

abbrev pub slot_is : Part → Slot
slot_is (Value w) = slot.Value
slot_is (Ports xs) = slot.Ports
slot_is (Chosen c w) = slot.Chosen c

-- the names of pieces
abbrev pub names_of : (bytes : List ℕ) → List Piece → Words
names_of bytes ps = map (text_of bytes) ps

abbrev pub part_of : (bytes : List ℕ) → Part → spec.Part
part_of bytes (Value w) = spec.value w.now
part_of bytes (Ports xs) = spec.ports (names_of bytes xs.now)
part_of bytes (Chosen c w) = spec.chosen c w.now

abbrev pub found_names : (bytes : List ℕ) → Names → Found Words
found_names bytes f = record { item = names_of bytes f.names.now; rest = map (token_of bytes) f.rest.now }

abbrev pub found_word : (bytes : List ℕ) → Argument → Found (List ℕ)
found_word bytes f = record { item = f.word.now; rest = map (token_of bytes) f.rest.now }

abbrev pub found_part : (bytes : List ℕ) → FoundPart → Found spec.Part
found_part bytes f = record { item = part_of bytes f.part; rest = map (token_of bytes) f.rest.now }

-- the pieces of a part's names lie in the text
abbrev pub HasInside : (bytes : List ℕ) → Part → Type 0
HasInside bytes (Value w) = Unit {0}
HasInside bytes (Ports xs) = All (LiesIn (length bytes)) xs.now
HasInside bytes (Chosen c w) = Unit {0}

-- ---- readings

abbrev pub word_is : Bor (List ℕ) → List ℕ
word_is w = w.now

abbrev pub names_at : (bytes : List ℕ) → Bor (List Piece) → Words
names_at bytes ps = names_of bytes ps.now

abbrev pub reading_is : (bytes : List ℕ) → Reading → command.Reading
reading_is bytes Passes = command.passes
reading_is bytes NotBuilt = command.not_built
reading_is bytes (Clocks period ps) = command.clocks period (names_at bytes ps)
reading_is bytes (Gives q amount ps) = command.gives q amount (names_at bytes ps)
reading_is bytes (Drives d ps) = command.drives d.cell.now (option_map word_is d.pin) d.rise d.fall (names_at bytes ps)

-- loads aren't negative; delays may be
abbrev pub IsOf : Quantity → ℤ → Type 0
IsOf InputDelay m = IsLimited m
IsOf OutputDelay m = IsLimited m
IsOf PortLoad m = IsAmount m

abbrev pub HasNumbers : Reading → Type 0
HasNumbers Passes = Unit {0}
HasNumbers NotBuilt = Unit {0}
HasNumbers (Clocks period ps) = IsLimited period
HasNumbers (Gives q amount ps) = IsOf q amount
HasNumbers (Drives d ps) = IsAmount d.rise × IsAmount d.fall

abbrev pub NamesInside : (bytes : List ℕ) → Reading → Type 0
NamesInside bytes Passes = Unit {0}
NamesInside bytes NotBuilt = Unit {0}
NamesInside bytes (Clocks period ps) = All (LiesIn (length bytes)) ps.now
NamesInside bytes (Gives q amount ps) = All (LiesIn (length bytes)) ps.now
NamesInside bytes (Drives d ps) = All (LiesIn (length bytes)) ps.now

abbrev pub heading_is : (bytes : List ℕ) → Heading → front.Heading
heading_is bytes Unknown = front.unknown
heading_is bytes Unbuilt = front.unbuilt
heading_is bytes (Heads c ps) = front.heads c (map (token_of bytes) ps.now)

-- a known command heads the tokens
abbrev pub IsHeaded : front.Heading → Type 0
IsHeaded front.unknown = ⊥
IsHeaded front.unbuilt = ⊥
IsHeaded (front.heads c ts) = Unit {0}

abbrev pub HeadingInside : (bytes : List ℕ) → Heading → Type 0
HeadingInside bytes Unknown = Unit {0}
HeadingInside bytes Unbuilt = Unit {0}
HeadingInside bytes (Heads c ps) = All (LiesIn (length bytes)) ps.now

-- a part is one of the command's, after these
abbrev pub fits_is : Command → List Part → Part → Bool
fits_is c ps p = command.has c (slot_is p) && not (list_any (λ q. command.same_slot (slot_is p) (slot_is q)) ps)
