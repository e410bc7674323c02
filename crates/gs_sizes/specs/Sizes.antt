-- What a text of sizes says: each line gives one instance a cell, and is judged by the lines before it, of which the latest stands first.

use Rattle.std.specs.Prelude.{ℕ, ◌≡◌, ◌<◌, ◌==◌, Bool, false, List, [], ◌∷◌, length, slice_index, Option, None, Some, if◌then◌else◌}
use Rattle.std.specs.List.{position_from}
use Rattle.std.specs.Str.{bytes_eq}
use Rattle.gs_design.specs.Cells.{cell_at}
use Rattle.gs_design.specs.Insts.{inst_at}
use Rattle.gs_design.specs.declared.parts.Parts.{Parts}
use Rattle.gs_grammar.specs.Judged.{AreGood, upon}
use Rattle.gs_sizes.specs.Lines.{Row, rows}
use Rattle.gs_sizes.specs.declared.error.Fault.{Fault}
use Rattle.gs_sizes.specs.declared.error.Fault.TheVariants.{BadLine, Unknown, Twice, WrongCell}

-- the instance of this name: its place among the instances
abbrev pub inst_named : Parts → List ℕ → Option ℕ
inst_named d name = position_from (λ i. bytes_eq i.name name) 0 d.insts

-- the place of the cell of this name among the alternatives of an instance
abbrev pub place_named : Parts → ℕ → List ℕ → Option ℕ
place_named d g cell = position_from (λ c. bytes_eq cell (cell_at d.cells c).name) 0 (inst_at d.insts g).alts

abbrev pub is_at : ℕ → Option ℕ → Bool
is_at g None = false
is_at g (Some h) = h == g

-- a line of two words gives the instance that the first names the cell that the second names
abbrev pub given_by : Parts → List (List ℕ) → ℕ → (before : Option ℕ) → Option ℕ
given_by d (inst ∷ cell ∷ []) g before = if is_at g (inst_named d inst) then place_named d g cell else before
given_by d _ g before = before

-- the place that these lines give an instance, where they name it
abbrev pub given : Parts → List Row → ℕ → Option ℕ
given d [] g = None
given d (l ∷ past) g = given_by d l.words g (given d past g)

-- the cell isn't an alternative of the instance
abbrev pub cell_fault : (place : Option ℕ) → Option Fault
cell_fault None = Some WrongCell
cell_fault (Some p) = None

-- an earlier line names the instance, or else the cell is at fault
abbrev pub place_fault : Parts → (before : Option ℕ) → (inst : ℕ) → (cell : List ℕ) → Option Fault
place_fault d (Some p) g cell = Some Twice
place_fault d None g cell = cell_fault (place_named d g cell)

-- no instance has the name, or else the place is at fault
abbrev pub inst_fault : Parts → List Row → (inst : Option ℕ) → (cell : List ℕ) → Option Fault
inst_fault d past None cell = Some Unknown
inst_fault d past (Some g) cell = place_fault d (given d past g) g cell

-- a line without a word is passed over, and any other has two
abbrev pub words_fault : Parts → List Row → List (List ℕ) → Option Fault
words_fault d past [] = None
words_fault d past (inst ∷ cell ∷ []) = inst_fault d past (inst_named d inst) cell
words_fault d past _ = Some BadLine

-- the fault of a line after these
abbrev pub fault : Parts → List Row → Row → Option Fault
fault d past l = words_fault d past l.words

-- These lines give these sizes: none has a fault, and each instance is given its place.
pub record GivesSizes (d : Parts) (ls : List Row) (s : List ℕ) : Type 0 where
  pub good : AreGood (fault d) [] ls
  pub as_many : length s ≡ length d.insts
  pub each : (g : ℕ) → g < length d.insts → given d (upon [] ls) g ≡ Some (slice_index s g)

-- the text with these bytes stands for these sizes of the design
abbrev pub IsSizes : Parts → (bytes : List ℕ) → List ℕ → Type 0
IsSizes d bytes s = GivesSizes d (rows bytes) s
