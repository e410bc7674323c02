-- The texts of SPEF, as whole lists of lines: each line is judged by those before it, of which the latest stands first.

use Rattle.std.specs.Prelude.{◌≡◌, ℕ, Bool, true, false, ◌==◌, ◌&&◌, List, [], ◌∷◌, ◌++◌, Option, None, Some, ℤ, if◌then◌else◌}
use Rattle.std.specs.List.{list_any}
use Rattle.std.specs.Option.{option_map}
use Rattle.std.specs.Str.{bytes_eq}
use Rattle.gs_grammar.specs.Judged.{upon, AreGood}
use Rattle.gs_lines.specs.Lines.{Line, line_count}
use Rattle.gs_amount.specs.Amount.{amount_of}
use Rattle.gs_spef.specs.Format.{says, next, is_open, tens, femtofarad}
use Rattle.gs_spef.specs.Lines.{text_lines, word}
use Rattle.gs_spef.specs.Names.{is_index, unescaped}
use Rattle.gs_spef.specs.declared.error.Fault.{Fault}
use Rattle.gs_spef.specs.declared.error.Fault.TheVariants.{BadLine, Distributed, UnknownIndex, TwoNets}
use Rattle.gs_spef.specs.declared.format.Place.{Place}
use Rattle.gs_spef.specs.declared.format.Place.TheVariants as place
use Rattle.gs_spef.specs.declared.format.Says.{Says}
use Rattle.gs_spef.specs.declared.format.Says.TheVariants.{Passes, SetsUnit, OpensMap, Maps, BeginsNet, EndsNet, OpensSection, OpensResistance, Distributes, Wrong}
use Rattle.gs_spef.specs.declared.format.Unit.{Unit}
use Rattle.gs_spef.specs.declared.wires.Wire.{Wire}

abbrev pub Row : Type 0
Row = Line (List ℕ)

-- the place after a line at a place
abbrev pub after : Row → Place → Place
after l p = next p (says p l.words)

-- where the line stands that comes next
abbrev pub place_of : List Row → Place
place_of [] = place.Outside
place_of (l ∷ past) = after l (place_of past)

-- what a line says after these
abbrev pub said : List Row → Row → Says
said past l = says (place_of past) l.words

abbrev pub unit_by : Says → Unit → Unit
unit_by (SetsUnit u) before = u
unit_by _ before = before

-- the unit: that of the last line that sets one
abbrev pub unit_of : List Row → Unit
unit_of [] = femtofarad
unit_of (l ∷ past) = unit_by (said past l) (unit_of past)

abbrev pub mapped_by : Says → List (List ℕ) → (index : List ℕ) → Option (List ℕ) → Option (List ℕ)
mapped_by Maps ws index before = if bytes_eq (word ws 0) index then Some (unescaped (word ws 1)) else before
mapped_by _ ws index before = before

-- the name of an index: that of the last line that maps it
abbrev pub mapped : List Row → (index : List ℕ) → Option (List ℕ)
mapped [] index = None
mapped (l ∷ past) index = mapped_by (said past l) l.words index (mapped past index)

-- the net that a word refers to: the name of its index, or the word itself as a name
abbrev pub net_named : List Row → (ref : List ℕ) → Option (List ℕ)
net_named past ref = if is_index ref then mapped past ref else Some (unescaped ref)

-- a wire of this net and this total
abbrev pub wire_by : Option (List ℕ) → Option ℤ → List Wire
wire_by (Some net) (Some total) = record { net = net; total = total } ∷ []
wire_by (Some net) None = []
wire_by None total = []

-- the total that a line gives, in the unit
abbrev pub total_of : List Row → List (List ℕ) → Option ℤ
total_of past ws = amount_of (word ws 2) (tens (unit_of past))

abbrev pub wires_by : Says → List Row → List (List ℕ) → List Wire
wires_by BeginsNet past ws = wire_by (net_named past (word ws 1)) (total_of past ws)
wires_by _ past ws = []

-- the wires of these lines, in the order of the text
abbrev pub wires : List Row → List Wire
wires [] = []
wires (l ∷ past) = wires past ++ wires_by (said past l) past l.words

-- an earlier block has the net
abbrev pub is_named : List Row → (net : List ℕ) → Bool
is_named past net = list_any (λ w. bytes_eq w.net net) (wires past)

abbrev pub net_fault : List Row → Option (List ℕ) → Option Fault
net_fault past None = Some UnknownIndex
net_fault past (Some net) = if is_named past net then Some TwoNets else None

-- the fault of a line that begins a block, by its total
abbrev pub begin_fault : List Row → Option ℤ → (ref : List ℕ) → Option Fault
begin_fault past None ref = Some BadLine
begin_fault past (Some total) ref = net_fault past (net_named past ref)

abbrev pub fault_by : Says → List Row → List (List ℕ) → Option Fault
fault_by Wrong past ws = Some BadLine
fault_by Distributes past ws = Some Distributed
fault_by BeginsNet past ws = begin_fault past (total_of past ws) (word ws 1)
fault_by Passes past ws = None
fault_by (SetsUnit u) past ws = None
fault_by OpensMap past ws = None
fault_by Maps past ws = None
fault_by EndsNet past ws = None
fault_by OpensSection past ws = None
fault_by OpensResistance past ws = None

-- the fault of a line after these. The number of the text's last line is last: where that leaves a block open, it is bad whatever
-- else it says
abbrev pub fault : (last : ℕ) → List Row → Row → Option Fault
fault last past l =
    if l.number == last && is_open (place_of (l ∷ past)) then Some BadLine
    else fault_by (said past l) past l.words

-- a text whose last line has the number last, whose lines with words are these, and which stands for these wires
pub record SpefText (last : ℕ) (ls : List Row) (ws : List Wire) : Type 0 where
  -- no line has a fault,
  pub good : AreGood (fault last) [] ls
  -- no block is left open,
  pub closed : is_open (place_of (upon [] ls)) ≡ false
  -- and the wires are those of the blocks.
  pub wires_are : ws ≡ wires (upon [] ls)

-- the text with these bytes is SPEF, and stands for these wires
abbrev pub IsSpef : (bytes : List ℕ) → List Wire → Type 0
IsSpef bytes ws = SpefText (line_count bytes) (text_lines bytes) ws
