-- Counts of faults: one for each kind of call and each name, which never falls.
use Rattle.std.specs.Prelude.{◌≡◌, ℕ, ◌+◌, ◌-◌, ◌^◌, ◌≤◌, List, Result, IfErr, min}
use Rattle.gs_shelf.specs.declared.calls.Op.{Op}
use Rattle.gs_shelf.specs.declared.calls.ShelfErr.{ShelfErr}
use Rattle.gs_shelf.specs.declared.calls.ShelfErr.TheVariants.{Failed}

-- how often a call of this kind and this name failed
abbrev pub Counts : Type 0
Counts = Op → List ℕ → ℕ

-- the count after one more; at its last value it stays
abbrev pub next_count : ℕ → ℕ
next_count n = min (n + 1) (2 ^ 64 - 1)

-- the count is greater now, or stood at its last value and counts as risen
abbrev pub Rose : ℕ → ℕ → Type 0
Rose before now = next_count before ≤ now

-- no count is less than it was
abbrev pub NoneFell : Counts → Counts → Type 0
NoneFell old new = (op : Op) (name : List ℕ) → old op name ≤ new op name

-- no count changed
abbrev pub CountsStay : Counts → Counts → Type 0
CountsStay old new = (op : Op) (name : List ℕ) → new op name ≡ old op name

-- a call answers `Failed` only where its own count rose
abbrev pub HasCause : {T : Type 0} → ℕ → ℕ → Result T ShelfErr → Type 0
HasCause before now r = IfErr r (λ e. e ≡ Failed → Rose before now)
