-- A queue of ranks, seen as a list whose order and doubles say nothing.

use Rattle.std.specs.Prelude.{ℕ, ◌≡◌, ◌==◌, ◌<◌, Bool, List, map, length, slice_index_or}
use Rattle.std.specs.BinaryHeap.{IsHeap}
use Rattle.std.specs.List.{list_any}
use Rattle.std.specs.Ordering.{nat_cmp}
use Rattle.std.specs.declared.cmp.Reverse.{Reverse}

-- whether a rank is in the queue
abbrev pub has : List ℕ → ℕ → Bool
has ranks r = list_any (λ k. k == r) ranks

-- the ranks of a heap that has the least first
abbrev pub ranks_of : List (Reverse ℕ) → List ℕ
ranks_of items = map (λ (k : Reverse ℕ). k.0) items

abbrev pub IsLeastFirst : List (Reverse ℕ) → Type 0
IsLeastFirst items = IsHeap (λ (a b : Reverse ℕ). nat_cmp b.0 a.0) items

-- there is a first item, and it has this rank
pub record IsFirstRank (items : List (Reverse ℕ)) (r : ℕ) : Type 0 where
  pub some : 0 < length items
  pub first : (k : Reverse ℕ) → k ≡ slice_index_or items 0 k → k.0 ≡ r
