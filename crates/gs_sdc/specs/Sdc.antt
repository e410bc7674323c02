-- The texts of SDC, as whole lists of commands: each is judged by those before it, of which the latest stands first.

use Rattle.std.specs.Prelude.{◌≡◌, ℕ, Bool, true, false, ◌||◌, List, [], ◌∷◌, ◌++◌, map, Option, None, Some, ℤ, if◌then◌else◌}
use Rattle.std.specs.List.{list_any}
use Rattle.std.specs.Option.{is_some}
use Rattle.std.specs.Str.{bytes_eq}
use Rattle.gs_design.specs.declared.units.Units.{Units}
use Rattle.gs_grammar.specs.Judged.{upon, AreGood, IsFirstFault}
use Rattle.gs_lines.specs.Lines.{Line, line_count, line_of, lines_in, lines_of}
use Rattle.gs_text.specs.declared.kinds.Piece.{Piece}
use Rattle.gs_text.specs.declared.kinds.Style.TheVariants.{Sdc}
use Rattle.gs_sdc.specs.Command.{Reading, passes, not_built, clocks, gives, drives, IsCommand}
use Rattle.gs_sdc.specs.Terms.{Terms, value_port, driver_port}
use Rattle.gs_sdc.specs.Token.{Token, token_of}
use Rattle.gs_sdc.specs.declared.command.Quantity.{Quantity}
use Rattle.gs_sdc.specs.declared.command.Quantity.TheVariants.{InputDelay, OutputDelay, PortLoad}
use Rattle.gs_sdc.specs.declared.constraints.Clock.{Clock}
use Rattle.gs_sdc.specs.declared.constraints.PortValue.{PortValue}
use Rattle.gs_sdc.specs.declared.constraints.DriverSpec.{DriverSpec}
use Rattle.gs_sdc.specs.declared.error.Fault.{Fault}
use Rattle.gs_sdc.specs.declared.error.Fault.TheVariants as faults
use Rattle.gs_sdc.specs.declared.error.SdcErr.{SdcErr}
use Rattle.gs_sdc.specs.declared.error.SdcErr.TheVariants.{NotBuilt, BadLine, TwoClocks, TwoValues, NoClock, Mem}

-- ---- commands and their readings

-- a command: the number of its first line, and what it says, where it is of a form
pub record Item : Type 0 where
  pub number : ℕ
  pub reading : Option Reading

-- the tokens say this, or they are no command
abbrev pub IsRead : Units → List Token → Option Reading → Type 0
IsRead u ts (Some r) = IsCommand u ts r
IsRead u ts None = (r : Reading) → IsCommand u ts r → ⊥

-- these are the commands of the lines
abbrev pub AreItems : Units → List (Line Token) → List Item → Type 0
AreItems u [] [] = Unit {0}
AreItems u [] (i ∷ items) = ⊥
AreItems u (l ∷ ls) [] = ⊥
AreItems u (l ∷ ls) (i ∷ items) = (i.number ≡ l.number) × IsRead u l.words i.reading × AreItems u ls items

-- ---- what commands give

abbrev pub same_quantity : Quantity → Quantity → Bool
same_quantity InputDelay InputDelay = true
same_quantity OutputDelay OutputDelay = true
same_quantity PortLoad PortLoad = true
same_quantity _ _ = false

-- the same value for each port
abbrev pub valued : ℤ → List (List ℕ) → List PortValue
valued amount [] = []
valued amount (x ∷ xs) = record { port = x; value = amount } ∷ valued amount xs

abbrev pub driven : List ℕ → Option (List ℕ) → ℤ → ℤ → List (List ℕ) → List DriverSpec
driven cell pin rise fall [] = []
driven cell pin rise fall (x ∷ xs) =
    record { port = x; cell = cell; pin = pin; rise = rise; fall = fall } ∷ driven cell pin rise fall xs

abbrev pub values_by : Quantity → Option Reading → List PortValue
values_by q (Some (gives k amount xs)) = if same_quantity q k then valued amount xs else []
values_by q _ = []

abbrev pub drivers_by : Option Reading → List DriverSpec
drivers_by (Some (drives cell pin rise fall xs)) = driven cell pin rise fall xs
drivers_by _ = []

-- the values of a quantity, in the order of the text
abbrev pub values : Quantity → List Item → List PortValue
values q [] = []
values q (i ∷ past) = values q past ++ values_by q i.reading

abbrev pub drivers : List Item → List DriverSpec
drivers [] = []
drivers (i ∷ past) = drivers past ++ drivers_by i.reading

-- the clock: its period, and its ports
abbrev pub clock_by : Option Reading → Option Clock → Option Clock
clock_by (Some (clocks period xs)) before = Some (record { period = period; names = xs })
clock_by _ before = before

abbrev pub clock : List Item → Option Clock
clock [] = None
clock (i ∷ past) = clock_by i.reading (clock past)

-- ---- faults

-- one of the ports is among those before, or is an earlier one of the ports
abbrev pub repeats : (before : List (List ℕ)) → List (List ℕ) → Bool
repeats before [] = false
repeats before (x ∷ xs) = list_any (λ y. bytes_eq y x) before || repeats (before ++ x ∷ []) xs

abbrev pub two_values : Bool → Option Fault
two_values again = if again then Some faults.TwoValues else None

-- the fault of a command after these
abbrev pub fault_by : List Item → Option Reading → Option Fault
fault_by past None = Some faults.BadLine
fault_by past (Some passes) = None
fault_by past (Some not_built) = Some faults.NotBuilt
fault_by past (Some (clocks period xs)) = if is_some (clock past) then Some faults.TwoClocks else None
fault_by past (Some (gives q amount xs)) = two_values (repeats (map value_port (values q past)) xs)
fault_by past (Some (drives cell pin rise fall xs)) = two_values (repeats (map driver_port (drivers past)) xs)

abbrev pub fault : List Item → Item → Option Fault
fault past i = fault_by past i.reading

-- ---- texts

-- the terms that commands with this clock give
abbrev pub terms : Clock → List Item → Terms
terms c past = record {
  period = c.period;
  clock_ports = c.names;
  inputs = values InputDelay past;
  outputs = values OutputDelay past;
  loads = values PortLoad past;
  drivers = drivers past;
  max_area = None;
}

-- commands without a fault, one of which is a clock, and which stand for these terms
pub record AreCommands (items : List Item) (t : Terms) : Type 0 where
  pub good : AreGood fault [] items
  pub clock_term : Clock
  pub clock_is : clock (upon [] items) ≡ Some clock_term
  pub terms_are : t ≡ terms clock_term (upon [] items)

-- lines of tokens that are such commands
pub record SdcText (u : Units) (ls : List (Line Token)) (t : Terms) : Type 0 where
  pub items : List Item
  pub are_items : AreItems u ls items
  pub commands : AreCommands items t

-- ---- refusals

-- the first command that has a fault has this one, and begins on line i
pub record IsFirstAt (items : List Item) (f : Fault) (i : ℕ) : Type 0 where
  pub item : Item
  pub first : IsFirstFault fault items item f
  pub number : item.number ≡ i

-- no command has a fault, and none is a clock; i is the number of the text's lines
pub record LacksClock (last : ℕ) (items : List Item) (i : ℕ) : Type 0 where
  pub good : AreGood fault [] items
  pub none : clock (upon [] items) ≡ None
  pub number : i ≡ last

abbrev pub CauseOf : (last : ℕ) → List Item → SdcErr → Type 0
CauseOf last items (NotBuilt i) = IsFirstAt items faults.NotBuilt i
CauseOf last items (BadLine i) = IsFirstAt items faults.BadLine i
CauseOf last items (TwoClocks i) = IsFirstAt items faults.TwoClocks i
CauseOf last items (TwoValues i) = IsFirstAt items faults.TwoValues i
CauseOf last items (NoClock i) = LacksClock last items i
CauseOf last items Mem = Unit {0}

-- the lines' commands have the cause of a refusal
pub record Cause (u : Units) (last : ℕ) (ls : List (Line Token)) (e : SdcErr) : Type 0 where
  pub items : List Item
  pub are_items : AreItems u ls items
  pub cause : CauseOf last items e

-- ---- bytes

-- the lines of tokens: each has those of one command, whose first line gives it its number
abbrev pub token_lines : (bytes : List ℕ) → List Piece → List (Line Token)
token_lines bytes ps = lines_of line_of (token_of bytes) ps

-- the lines of a text that have a token
abbrev pub text_lines : (bytes : List ℕ) → List (Line Token)
text_lines bytes = lines_in Sdc (token_of bytes) bytes

-- the text with these bytes is SDC, and stands for these terms
abbrev pub IsSdc : Units → (bytes : List ℕ) → Terms → Type 0
IsSdc u bytes t = SdcText u (text_lines bytes) t

-- the cause of a refusal of the text with these bytes
abbrev pub HasCause : Units → (bytes : List ℕ) → SdcErr → Type 0
HasCause u bytes e = Cause u (line_count bytes) (text_lines bytes) e
