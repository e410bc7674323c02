-- What the reader holds, and what its steps answer. No public clause speaks of these.

use Rattle.std.specs.Prelude.{ℕ, ◌≡◌, ◌<◌, Bool, true, false, List, [], ◌∷◌, map, length, slice_index_or, Option, None, Some, unwrap_or, Result, Ok, Err}
use Rattle.std.specs.List.{position_from, range_with_len}
use Rattle.gs_design.specs.Insts.{inst_at}
use Rattle.gs_design.specs.declared.parts.Parts.{Parts}
use Rattle.gs_grammar.specs.Judged.{first_fault, upon}
use Rattle.gs_names.specs.Names.{HasBuckets, find}
use Rattle.gs_names.specs.declared.names.NameMap.{NameMap}
use Rattle.gs_sizes.specs.Lines.{Row}
use Rattle.gs_sizes.specs.Sizes.{fault, given, given_by, inst_fault, inst_named}
use Rattle.gs_sizes.specs.declared.error.Fault.{Fault}
use Rattle.gs_sizes.specs.declared.error.Fault.TheVariants as faults
use Rattle.gs_sizes.specs.declared.error.SizesErr.{SizesErr}
use Rattle.gs_sizes.specs.declared.error.Stop.{Stop}
use Rattle.gs_sizes.specs.declared.error.Stop.TheVariants as stops

-- the map finds the instances of the design by their names
pub record Knows (d : Parts) (names : NameMap ℕ) : Type 0 where
  pub buckets : HasBuckets names
  pub finds : (q : List ℕ) → find names q ≡ inst_named d q

-- the places are those that the lines so far give
pub record Holds (d : Parts) (places : List (Option ℕ)) (past : List Row) : Type 0 where
  pub as_many : length places ≡ length d.insts
  pub each : (g : ℕ) → g < length d.insts → slice_index_or places g None ≡ given d past g

-- the places with the cell of a name for the instance of a name, which has no fault
pub record GivesPlace (d : Parts) (places : List (Option ℕ)) (past : List Row) (inst cell : List ℕ) : Type 0 where
  pub good : inst_fault d past (inst_named d inst) cell ≡ None
  pub as_many : length places ≡ length d.insts
  pub each : (g : ℕ) → g < length d.insts → slice_index_or places g None ≡ given_by d (inst ∷ cell ∷ []) g (given d past g)

-- a step stops for the fault, or for want of memory
abbrev pub Stops : Stop → Option Fault → Type 0
Stops (stops.At f) o = o ≡ Some f
Stops stops.Mem o = Unit {0}

-- the refusal of a fault at a line
abbrev pub refusal_of : ℕ → Fault → SizesErr
refusal_of i faults.BadLine = SizesErr.BadLine i
refusal_of i faults.Unknown = SizesErr.Unknown i
refusal_of i faults.Twice = SizesErr.Twice i
refusal_of i faults.WrongCell = SizesErr.WrongCell i

abbrev pub refused_at : ℕ → Stop → SizesErr
refused_at i (stops.At f) = refusal_of i f
refused_at i stops.Mem = SizesErr.Mem

abbrev pub is_none : Option ℕ → Bool
is_none None = true
is_none (Some p) = false

abbrev pub or_zero : Option ℕ → ℕ
or_zero o = unwrap_or o 0

-- the places that these lines give all instances
abbrev pub all_given : Parts → List Row → List (Option ℕ)
all_given d past = map (given d past) (range_with_len 0 (length d.insts))

-- what is said of a text, as one function of its lines
abbrev pub ended_by : Parts → (count : ℕ) → List (Option ℕ) → Option ℕ → Result (List ℕ) SizesErr
ended_by d count places None = Ok (map or_zero places)
ended_by d count places (Some g) = Err (SizesErr.Absent (inst_at d.insts g).name count)

abbrev pub ended : Parts → (count : ℕ) → List (Option ℕ) → Result (List ℕ) SizesErr
ended d count places = ended_by d count places (position_from is_none 0 places)

abbrev pub judged : Parts → List Row → Option (Row × Fault) → Result (List ℕ) SizesErr
judged d ls None = ended d (length ls) (all_given d (upon [] ls))
judged d ls (Some (l, f)) = Err (refusal_of l.number f)

abbrev pub reading : Parts → List Row → Result (List ℕ) SizesErr
reading d ls = judged d ls (first_fault (fault d) [] ls)
