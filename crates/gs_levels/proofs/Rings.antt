-- Each list of numbers can be read backwards as a ring, from a least number on.
use Rattle.std.proofs.Common.{◌≡◌, ◌<◌, ◌≤◌, ◌-◌, ◌⊎◌, ℕ, suc, zero, List, map, length, slice_index, inl, inr, arith}
use Rattle.std.specs.List.{range_with_len}
use Rattle.std.proofs.lemmas.Bool.{cases_eq, cases_lt}
use Rattle.std.proofs.lemmas.List.FromFn.{get_or-map-range_with_len, length-map-range_with_len}
use Rattle.gs_levels.specs.Cycle.{back, IsBackwards}

-- a place up to k with a least number of those up to k
record IsLeast (xs : List ℕ) (k m : ℕ) : Type 0 where
  inside : m ≤ k
  least : (j : ℕ) → j ≤ k → slice_index xs m ≤ slice_index xs j

has_least : (xs : List ℕ) (k : ℕ) → (m : ℕ) × IsLeast xs k m
has_least xs zero = (0, record { inside = omega arith; least = λ j lj. let here : j ≡ 0 = omega arith in rw here (omega arith) })
has_least xs (suc k) = onward (has_least xs k)
  where
    onward : ((m : ℕ) × IsLeast xs k m) → (m : ℕ) × IsLeast xs (suc k) m
    onward (m, s) = by_order (cases_lt (slice_index xs (suc k)) (slice_index xs m))
      where
        by_order : (slice_index xs (suc k) < slice_index xs m) ⊎ (slice_index xs m ≤ slice_index xs (suc k)) → (m : ℕ) × IsLeast xs (suc k) m
        by_order (inl lower) = (suc k, record { inside = omega arith; least = λ j lj. lower_than j lj (cases_eq j (suc k)) })
          where
            lower_than : (j : ℕ) → j ≤ suc k → (j ≡ suc k) ⊎ (j ≡ suc k → ⊥) → slice_index xs (suc k) ≤ slice_index xs j
            lower_than j lj (inl here) = rw here (omega arith)
            lower_than j lj (inr ne) = omega (arith, s.least j (omega arith))
        by_order (inr higher) = (m, record { inside = omega (arith, s.inside); least = λ j lj. stays_least j lj (cases_eq j (suc k)) })
          where
            stays_least : (j : ℕ) → j ≤ suc k → (j ≡ suc k) ⊎ (j ≡ suc k → ⊥) → slice_index xs m ≤ slice_index xs j
            stays_least j lj (inl here) = rw here higher
            stays_least j lj (inr ne) = s.least j (omega arith)

pub has_ring : (xs : List ℕ) → 0 < length xs → (ring : List ℕ) × IsBackwards xs ring
has_ring xs some = from_least (has_least xs (length xs - 1))
  where
    from_least : ((m : ℕ) × IsLeast xs (length xs - 1) m) → (ring : List ℕ) × IsBackwards xs ring
    from_least (m, s) = (
      map (λ k. slice_index xs (back m (length xs) k)) (range_with_len 0 (length xs)),
      record {
        least = m;
        inside = omega (arith, s.inside);
        is_least = λ k lk. s.least k (omega arith);
        each = length-map-range_with_len (λ k. slice_index xs (back m (length xs) k)) 0 (length xs);
        nodes_are = λ k lk. get_or-map-range_with_len (λ k. slice_index xs (back m (length xs) k)) 0 (length xs) k k 0 lk (omega arith);
      },
    )
