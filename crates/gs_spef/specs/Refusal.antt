-- Why a text isn't SPEF of this project's profile.

use Rattle.std.specs.Prelude.{◌≡◌, ℕ, ◌⊎◌, List, [], true}
use Rattle.gs_grammar.specs.Judged.{upon, AreGood, IsFirstFault}
use Rattle.gs_spef.specs.Format.{is_open}
use Rattle.gs_lines.specs.Lines.{line_count}
use Rattle.gs_spef.specs.Lines.{text_lines}
use Rattle.gs_spef.specs.Spef.{Row, fault, place_of}
use Rattle.gs_spef.specs.declared.error.Fault.{Fault}
use Rattle.gs_spef.specs.declared.error.Fault.TheVariants as faults
use Rattle.gs_spef.specs.declared.error.SpefErr.{SpefErr}
use Rattle.gs_spef.specs.declared.error.SpefErr.TheVariants.{BadLine, Distributed, UnknownIndex, TwoNets, Mem}

-- the first line that has a fault has this one, and the number i
pub record IsFirstAt (last : ℕ) (ls : List Row) (f : Fault) (i : ℕ) : Type 0 where
  pub line : Row
  pub first : IsFirstFault (fault last) ls line f
  pub number : line.number ≡ i

-- no line with words has a fault, and the text ends in a block: its last line is blank
pub record EndsOpen (last : ℕ) (ls : List Row) (i : ℕ) : Type 0 where
  pub good : AreGood (fault last) [] ls
  pub open_block : is_open (place_of (upon [] ls)) ≡ true
  pub number : i ≡ last

abbrev pub Cause : (last : ℕ) → List Row → SpefErr → Type 0
Cause last ls (BadLine i) = IsFirstAt last ls faults.BadLine i ⊎ EndsOpen last ls i
Cause last ls (Distributed i) = IsFirstAt last ls faults.Distributed i
Cause last ls (UnknownIndex i) = IsFirstAt last ls faults.UnknownIndex i
Cause last ls (TwoNets i) = IsFirstAt last ls faults.TwoNets i
Cause last ls Mem = Unit {0}

-- the cause of a refusal of the text with these bytes
abbrev pub HasCause : (bytes : List ℕ) → SpefErr → Type 0
HasCause bytes e = Cause (line_count bytes) (text_lines bytes) e
