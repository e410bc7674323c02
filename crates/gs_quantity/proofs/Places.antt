-- The first place at which a test holds.
use Rattle.std.proofs.Common.{ℕ, zero, suc, ◌+◌, ◌-◌, ◌<◌, ◌≤◌, ◌≡◌, ap, refl, Bool, inl, inr, true, false, if◌then◌else◌, Option, Some, None, is_some, arith}
use Rattle.std.proofs.lemmas.Bool.{cases_eq, true≢false}
use Rattle.gs_quantity.specs.TableFault.{first_place}

-- a place at which it holds, reached with n - i places left
pub place_here : (test : ℕ → Bool) (i n : ℕ) → i < n → test i ≡ true → first_place test i (n - i) ≡ Some i
place_here test i n lt h = let e : n - i ≡ suc (n - i - 1) = omega arith in rw (e, h) refl

-- one at which it doesn't
pub place_skip : (test : ℕ → Bool) (i n : ℕ) → i < n → test i ≡ false → first_place test i (n - i) ≡ first_place test (i + 1) (n - (i + 1))
place_skip test i n lt h =
    let e : n - i ≡ suc (n - (i + 1)) = omega arith in rw (e, h) refl

pub place_end : (test : ℕ → Bool) (i n : ℕ) → n ≤ i → first_place test i (n - i) ≡ None
place_end test i n le = let e : n - i ≡ 0 = omega arith in rw e refl

pub some_none : {X : Type 0} (x : X) → Some x ≡ None → ⊥
some_none x h = true≢false (ap is_some h)

none_head : (b : Bool) (i : ℕ) (rest : Option ℕ) → (if b then Some i else rest) ≡ None → (b ≡ false) × (rest ≡ None)
none_head true i rest h = absurd (some_none i h)
none_head false i rest h = (refl, h)

-- no place: each test is false
pub place_none : (test : ℕ → Bool) (n i : ℕ) → first_place test i n ≡ None → (k : ℕ) → i ≤ k → k < i + n → test k ≡ false
place_none test zero i h k low high = absurd (omega arith)
place_none test (suc n) i h k low high =
    let parts = none_head (test i) i (first_place test (i + 1) n) h in
    elim (cases_eq k i) [
      | inl same ↦ rw same parts.0
      | inr apart ↦ place_none test n (i + 1) parts.1 k (omega arith) (omega arith)
    ]
