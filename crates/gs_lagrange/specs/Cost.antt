-- What a place of an instance costs, all else as it is.

use Rattle.std.specs.Prelude.{ℕ, ◌==◌, Bool, not, List, map, filter, fold, length, slice_index, slice_set, take, ℤ, pos, ◌+ℤ◌, ◌*ℤ◌}
use Rattle.std.specs.Int.{int_max}
use Rattle.std.specs.List.{list_any, range_with_len}
use Rattle.gs_design.specs.Ends.{alt_cell}
use Rattle.gs_design.specs.Insts.{inst_at}
use Rattle.gs_design.specs.Limits.{is_within}
use Rattle.gs_design.specs.Timing.{local_of}
use Rattle.gs_design.specs.declared.design.Design.{Design}
use Rattle.gs_design.specs.declared.time.NetTime.{NetTime}

-- each number of a list once, in the order of their first places
abbrev pub is_first_at : List ℕ → ℕ → Bool
is_first_at xs i = not (list_any (λ x. x == slice_index xs i) (take i xs))

abbrev pub distinct : List ℕ → List ℕ
distinct xs = map (slice_index xs) (filter (is_first_at xs) (range_with_len 0 (length xs)))

-- the record of a net where one instance has another place, in the timing before
abbrev pub record_with : Design → List ℕ → List NetTime → (inst place : ℕ) → (net : ℕ) → NetTime
record_with d s t g p n = local_of d (slice_set s g p) t n

-- the greater arrival of a record
abbrev pub latest : NetTime → ℤ
latest r = int_max r.rise.arrival r.fall.arrival

-- a net's share: its weight times its greater arrival
abbrev pub share_of : Design → List ℕ → List NetTime → (weight : ℕ → ℕ) → (inst place : ℕ) → (net : ℕ) → ℤ
share_of d s t weight g p n = pos (weight n) *ℤ latest (record_with d s t g p n)

-- 2 ^ 20 times the leakage of the place's cell, and the shares of the output net and of each distinct input net
abbrev pub leak_cost : Design → (inst place : ℕ) → ℤ
leak_cost d g p = pos 1048576 *ℤ (alt_cell d.cells (inst_at d.insts g) p).leakage

abbrev pub cost_of : Design → List ℕ → List NetTime → (weight : ℕ → ℕ) → (inst place : ℕ) → ℤ
cost_of d s t weight g p =
    fold (λ cost n. cost +ℤ share_of d s t weight g p n) (leak_cost d g p +ℤ share_of d s t weight g p (inst_at d.insts g).output) (distinct (inst_at d.insts g).inputs)

-- whether a place's load bound is met by the load of the output net
abbrev pub is_allowed : Design → List ℕ → List NetTime → (inst place : ℕ) → Bool
is_allowed d s t g p = let r = record_with d s t g p (inst_at d.insts g).output in is_within r.load r.load_bound
