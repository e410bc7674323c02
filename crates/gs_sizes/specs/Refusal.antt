-- Why a text gives a design no sizes.

use Rattle.std.specs.Prelude.{ℕ, ◌≡◌, ◌≢◌, ◌<◌, List, [], length, None}
use Rattle.gs_design.specs.Insts.{inst_at}
use Rattle.gs_design.specs.declared.parts.Parts.{Parts}
use Rattle.gs_grammar.specs.Judged.{AreGood, IsFirstFault, upon}
use Rattle.gs_sizes.specs.Lines.{Row, rows}
use Rattle.gs_sizes.specs.Sizes.{fault, given}
use Rattle.gs_sizes.specs.declared.error.Fault.{Fault}
use Rattle.gs_sizes.specs.declared.error.Fault.TheVariants as faults
use Rattle.gs_sizes.specs.declared.error.SizesErr.{SizesErr}
use Rattle.gs_sizes.specs.declared.error.SizesErr.TheVariants.{BadLine, Unknown, Twice, WrongCell, Absent, Mem}

-- the first line that has a fault has this one, and the number i
pub record IsFirstAt (d : Parts) (ls : List Row) (f : Fault) (i : ℕ) : Type 0 where
  pub line : Row
  pub first : IsFirstFault (fault d) ls line f
  pub number : line.number ≡ i

-- no line has a fault, and this is the name of the first instance that none names; i is the number of lines
pub record IsFirstAbsent (d : Parts) (ls : List Row) (name : List ℕ) (i : ℕ) : Type 0 where
  pub good : AreGood (fault d) [] ls
  pub inst : ℕ
  pub inst_in : inst < length d.insts
  pub absent : given d (upon [] ls) inst ≡ None
  pub earlier : (g : ℕ) → g < inst → given d (upon [] ls) g ≢ None
  pub name_is : name ≡ (inst_at d.insts inst).name
  pub number : i ≡ length ls

abbrev pub Cause : Parts → List Row → SizesErr → Type 0
Cause d ls (BadLine i) = IsFirstAt d ls faults.BadLine i
Cause d ls (Unknown i) = IsFirstAt d ls faults.Unknown i
Cause d ls (Twice i) = IsFirstAt d ls faults.Twice i
Cause d ls (WrongCell i) = IsFirstAt d ls faults.WrongCell i
Cause d ls (Absent name i) = IsFirstAbsent d ls name i
Cause d ls Mem = Unit {0}

-- the cause of a refusal of the text with these bytes
abbrev pub HasCause : Parts → (bytes : List ℕ) → SizesErr → Type 0
HasCause d bytes e = Cause d (rows bytes) e
