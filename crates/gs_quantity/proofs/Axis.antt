-- Where a query falls on an axis.
use Rattle.std.proofs.Common.{ℕ, zero, suc, ◌+◌, ◌<◌, ◌≤◌, ◌≡◌, sym, inl, inr, true, false, List, length, ℤ, ◌≤ℤ◌, ◌<ℤ◌, int_lt, arith}
use Rattle.std.proofs.lemmas.Int.{ints}
use Rattle.std.proofs.lemmas.Bool.{cases_eq}
use Rattle.gs_quantity.specs.Lookup.{at, greatest_to, IsAxis}

not_under : (a b : ℤ) → b ≤ℤ a → int_lt a b ≡ false
not_under a b h = grind (arith, ints)

under : (a b : ℤ) → a <ℤ b → int_lt a b ≡ true
under a b h = grind (arith, ints)

-- a later point isn't below
mounts : (xs : List ℤ) → IsAxis xs → (j k : ℕ) → j ≤ k → k < length xs → at xs j ≤ℤ at xs k
mounts xs h j zero le lt = let e : j ≡ 0 = omega arith in rw e (omega (arith, ints))
mounts xs h j (suc k) le lt = elim (cases_eq j (suc k)) [
  | inl same ↦ rw same (omega (arith, ints))
  | inr apart ↦
      let before : at xs j ≤ℤ at xs k = mounts xs h j k (omega arith) (omega arith) in
      let e : k + 1 ≡ suc k = omega arith in
      let step : at xs k <ℤ at xs (suc k) = rw e at (h.rising k (omega arith)) in
      omega (arith, ints, before, step)
]

-- the place at which a search from below stops
pub stops : (xs : List ℤ) → IsAxis xs → (x : ℤ) (n i : ℕ) → n < length xs → i ≤ n
    → (0 < i → at xs i ≤ℤ x) → (i < n → x <ℤ at xs (i + 1)) → greatest_to xs x n ≡ i
stops xs h x zero i lt le low high = omega arith
stops xs h x (suc n) i lt le low high = elim (cases_eq i (suc n)) [
  | inl same ↦
      let here : at xs (suc n) ≤ℤ x = rw same at (low (omega arith)) in
      rw (not_under x (at xs (suc n)) here) (sym same)
  | inr apart ↦
      let above : x <ℤ at xs (i + 1) = high (omega arith) in
      let up : at xs (i + 1) ≤ℤ at xs (suc n) = mounts xs h (i + 1) (suc n) (omega arith) lt in
      let far : x <ℤ at xs (suc n) = omega (arith, ints, above, up) in
      rw (under x (at xs (suc n)) far) (stops xs h x n i (omega arith) (omega arith) low (λ less. above))
]

pub from_under : (a b : ℤ) → int_lt a b ≡ true → a <ℤ b
from_under a b h = grind (arith, ints)
