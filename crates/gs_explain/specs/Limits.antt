-- Where a port of the constraints and a net of the wires stand that the netlist lacks.
use Rattle.std.specs.Prelude.{◌≡◌, ◌⊎◌, ℕ, List, codes, Option, None, Some}
use Rattle.std.specs.List.{position_or_len}
use Rattle.std.specs.Str.{bytes_eq}
use Rattle.gs_locate.specs.Found.{IsLocated, IsNthLocated}
use Rattle.gs_locate.specs.Sdc.{is_constrained}
use Rattle.gs_locate.specs.Spef.{is_net_block}
use Rattle.gs_spef.specs.Spef.{IsSpef}
use Rattle.gs_spef.specs.declared.wires.Wire.{Wire}
use Rattle.gs_text.specs.declared.kinds.Style.TheVariants.{Sdc, Spef}

-- ---- constraints

-- the port in the first command of this word that names it
abbrev pub IsPortIn : (word port bytes : List ℕ) → Option ℕ → Type 0
IsPortIn word port bytes found = IsLocated (is_constrained word port) Sdc bytes found

abbrev pub first_given : Option ℕ → Option ℕ → Option ℕ
first_given None other = other
first_given (Some at) other = Some at

-- the same of one word, or, where no such command names it, of another
abbrev pub IsPortInEither : (word other port bytes : List ℕ) → Option ℕ → Type 0
IsPortInEither word other port bytes found =
    (one two : Option ℕ) × IsPortIn word port bytes one × IsPortIn other port bytes two × (found ≡ first_given one two)

-- the place in a command on inputs, or else on outputs, or else on either. Where both inputs and outputs name the port, the netlist alone tells which is wrong
abbrev pub at_fault : (input output either : Option ℕ) → Option ℕ
at_fault None None either = either
at_fault None (Some at) either = Some at
at_fault (Some at) None either = Some at
at_fault (Some at) (Some other) either = None

-- a port that the netlist doesn't have, or not in this direction
abbrev pub IsPortPlace : (port bytes : List ℕ) → Option ℕ → Type 0
IsPortPlace port bytes found =
    (input output either : Option ℕ) × IsPortInEither (codes "create_clock") (codes "set_input_delay") port bytes input
    × IsPortIn (codes "set_output_delay") port bytes output × IsPortInEither (codes "set_load") (codes "set_driving_cell") port bytes either
    × (found ≡ at_fault input output either)

-- ---- wires

-- the name, or the index that stands for it, in the block of the first of these wires that is of the net
abbrev pub IsBlockOf : (net : List ℕ) → List Wire → (bytes : List ℕ) → Option ℕ → Type 0
IsBlockOf net wires bytes found = IsNthLocated is_net_block (position_or_len (λ w. bytes_eq net w.net) wires) Spef bytes found

-- a net's block in a text that is read; another text has none
abbrev pub IsWirePlace : (net bytes : List ℕ) → Option ℕ → Type 0
IsWirePlace net bytes found =
    ((wires : List Wire) × IsSpef bytes wires × IsBlockOf net wires bytes found)
    ⊎ (((wires : List Wire) → IsSpef bytes wires → ⊥) × (found ≡ None))
