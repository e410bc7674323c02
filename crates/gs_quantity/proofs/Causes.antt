-- What the first cause of a refusal says.
use Rattle.std.proofs.Common.{ℕ, zero, suc, ◌+◌, ◌-◌, ◌<◌, ◌≤◌, ◌≡◌, ◌∙◌, ◌⊎◌, inl, inr, ap, subst, refl, Bool, true, false, if◌then◌else◌, List, length, Option, Some, None, ℤ, arith}
use Rattle.std.specs.Prelude.{unwrap_or}
use Rattle.std.proofs.lemmas.Bool.{cases_lt, cases_eq, lt-ltb, le-ltb}
use Rattle.std.proofs.lemmas.Option.{none-some}
use Rattle.gs_quantity.specs.TableFault.{falls, is_wide, first_place, bad_shape, fault_or, table_fault, joined, falls_in, wide_in, Nowhere, IsFirst, IsTableFault}
use Rattle.gs_quantity.specs.declared.lookup.fault.TableErr.{TableErr}
use Rattle.gs_quantity.specs.declared.lookup.fault.TableErr.TheVariants.{Shape, NotRising, TooWide}
use Rattle.gs_quantity.proofs.Places.{place_none}

some_same : {X : Type 0} (x y : X) → Some x ≡ Some y → x ≡ y
some_same x y h = ap (λ o. unwrap_or o x) h

some_head : (b : Bool) (i k : ℕ) (rest : Option ℕ) → (if b then Some i else rest) ≡ Some k → ((b ≡ true) × (i ≡ k)) ⊎ ((b ≡ false) × (rest ≡ Some k))
some_head true i k rest h = inl (refl, some_same i k h)
some_head false i k rest h = inr (refl, h)

first_from : (test : ℕ → Bool) (n i k : ℕ) → first_place test i n ≡ Some k
    → (i ≤ k) × (k < i + n) × (test k ≡ true) × ((j : ℕ) → i ≤ j → j < k → test j ≡ false)
first_from test zero i k h = absurd (none-some k h)
first_from test (suc n) i k h = elim (some_head (test i) i k (first_place test (i + 1) n) h) [
  | inl here ↦ (omega (arith, here.1), omega (arith, here.1), rw (← here.1) here.0, λ j low high. absurd (omega (arith, here.1)))
  | inr later ↦
      let r = first_from test n (i + 1) k later.1 in (
        omega (arith, r.0),
        omega (arith, r.1),
        r.2,
        λ j low high. elim (cases_eq j i) [
          | inl same ↦ rw same later.0
          | inr apart ↦ r.3 j (omega arith) high
        ],
      )
]

first_is : (test : ℕ → Bool) (n k : ℕ) → first_place test 0 n ≡ Some k → IsFirst test n k
first_is test n k h = let r = first_from test n 0 k h in record { within = omega (arith, r.1); holds = r.2; before = λ j lt. r.3 j (omega arith) lt }

nowhere_is : (test : ℕ → Bool) (n : ℕ) → first_place test 0 n ≡ None → Nowhere test n
nowhere_is test n h = λ k lt. place_none test n 0 h k (omega arith) (omega arith)

left_of : (p q : ℕ → Bool) (m k : ℕ) → k < m → joined p q m k ≡ p k
left_of p q m k h = rw (lt-ltb k m h) refl

right_of : (p q : ℕ → Bool) (m k : ℕ) → joined p q m (m + k) ≡ q k
right_of p q m k = let e : m + k - m ≡ k = omega arith in rw (le-ltb (m + k) m (omega arith), e) refl

first_left : (p q : ℕ → Bool) (m n i : ℕ) → IsFirst p m i → IsFirst (joined p q m) (m + n) i
first_left p q m n i h = record {
  within = omega (arith, h.within);
  holds = left_of p q m i h.within ∙ h.holds;
  before = λ k lt. left_of p q m k (omega (arith, h.within)) ∙ h.before k lt;
}

nowhere_joined : (p q : ℕ → Bool) (m n : ℕ) → Nowhere p m → Nowhere q n → Nowhere (joined p q m) (m + n)
nowhere_joined p q m n h g = λ k lt. elim (cases_lt k m) [
  | inl low ↦ left_of p q m k low ∙ h k low
  | inr high ↦ let e : k ≡ m + (k - m) = omega arith in ap (λ j. joined p q m j) e ∙ right_of p q m (k - m) ∙ g (k - m) (omega arith)
]

first_right : (p q : ℕ → Bool) (m n i : ℕ) → Nowhere p m → IsFirst q n i → IsFirst (joined p q m) (m + n) (m + i)
first_right p q m n i h g = record {
  within = omega (arith, g.within);
  holds = right_of p q m i ∙ g.holds;
  before = nowhere_joined p q m i h g.before;
}

fault_split : (why : ℕ → TableErr) (k : ℕ) (a : Option ℕ) (other : Option TableErr) (e : TableErr) → fault_or why k a other ≡ Some e
    → ((i : ℕ) × (a ≡ Some i) × (why (k + i) ≡ e)) ⊎ ((a ≡ None) × (other ≡ Some e))
fault_split why k None other e h = inr (refl, h)
fault_split why k (Some i) other e h = inl (i, refl, some_same (why (k + i)) e h)

shape_split : (bad : Bool) (rest : Option TableErr) (e : TableErr) → (if bad then Some Shape else rest) ≡ Some e → ((bad ≡ true) × (Shape ≡ e)) ⊎ ((bad ≡ false) × (rest ≡ Some e))
shape_split true rest e h = inl (refl, some_same Shape e h)
shape_split false rest e h = inr (refl, h)

zero_first : (test : ℕ → Bool) (n i : ℕ) → IsFirst test n i → IsFirst test n (0 + i)
zero_first test n i h = let e : i ≡ 0 + i = omega arith in subst (IsFirst test n) e h

wide_cause : (xs ys zs : List ℤ) (e : TableErr) → bad_shape xs ys zs ≡ false → Nowhere (falls_in xs ys) (length xs + length ys)
    → fault_or (λ i. TooWide i) 0 (first_place (is_wide xs) 0 (length xs))
    (fault_or (λ i. TooWide i) (length xs) (first_place (is_wide ys) 0 (length ys))
    (fault_or (λ i. TooWide i) (length xs + length ys) (first_place (is_wide zs) 0 (length zs)) None)) ≡ Some e
    → IsTableFault xs ys zs e
wide_cause xs ys zs e shape calm h = elim (fault_split (λ i. TooWide i) 0 (first_place (is_wide xs) 0 (length xs)) _ e h) [
  | inl at_x ↦ subst (IsTableFault xs ys zs) at_x.2 (
    shape,
    calm,
    zero_first (wide_in xs ys zs) (length xs + (length ys + length zs)) at_x.0
        (first_left (is_wide xs) (joined (is_wide ys) (is_wide zs) (length ys)) (length xs) (length ys + length zs) at_x.0 (first_is (is_wide xs) (length xs) at_x.0 at_x.1)),
  )
  | inr calm_x ↦ elim (fault_split (λ i. TooWide i) (length xs) (first_place (is_wide ys) 0 (length ys)) _ e calm_x.1) [
    | inl at_y ↦ subst (IsTableFault xs ys zs) at_y.2 (
      shape,
      calm,
      first_right (is_wide xs) (joined (is_wide ys) (is_wide zs) (length ys)) (length xs) (length ys + length zs) at_y.0
          (nowhere_is (is_wide xs) (length xs) calm_x.0)
          (first_left (is_wide ys) (is_wide zs) (length ys) (length zs) at_y.0 (first_is (is_wide ys) (length ys) at_y.0 at_y.1)),
    )
    | inr calm_y ↦ elim (fault_split (λ i. TooWide i) (length xs + length ys) (first_place (is_wide zs) 0 (length zs)) None e calm_y.1) [
      | inl at_z ↦
          let place : length xs + (length ys + at_z.0) ≡ length xs + length ys + at_z.0 = omega arith in
          subst (IsTableFault xs ys zs) (ap (λ i. TooWide i) place ∙ at_z.2) (
            shape,
            calm,
            first_right (is_wide xs) (joined (is_wide ys) (is_wide zs) (length ys)) (length xs) (length ys + length zs) (length ys + at_z.0)
                (nowhere_is (is_wide xs) (length xs) calm_x.0)
                (first_right (is_wide ys) (is_wide zs) (length ys) (length zs) at_z.0 (nowhere_is (is_wide ys) (length ys) calm_y.0) (first_is (is_wide zs) (length zs) at_z.0 at_z.1)),
          )
      | inr none ↦ absurd (none-some e none.1)
    ]
  ]
]

pub fault_cause : (xs ys zs : List ℤ) (e : TableErr) → table_fault xs ys zs ≡ Some e → IsTableFault xs ys zs e
fault_cause xs ys zs e h = elim (shape_split (bad_shape xs ys zs) _ e h) [
  | inl bad ↦ subst (IsTableFault xs ys zs) bad.1 bad.0
  | inr good ↦ elim (fault_split (λ i. NotRising i) 0 (first_place (falls xs) 0 (length xs)) _ e good.1) [
    | inl at_x ↦ subst (IsTableFault xs ys zs) at_x.2 (
      good.0,
      zero_first (falls_in xs ys) (length xs + length ys) at_x.0
          (first_left (falls xs) (falls ys) (length xs) (length ys) at_x.0 (first_is (falls xs) (length xs) at_x.0 at_x.1)),
    )
    | inr rise_x ↦ elim (fault_split (λ i. NotRising i) (length xs) (first_place (falls ys) 0 (length ys)) _ e rise_x.1) [
      | inl at_y ↦ subst (IsTableFault xs ys zs) at_y.2 (
        good.0,
        first_right (falls xs) (falls ys) (length xs) (length ys) at_y.0 (nowhere_is (falls xs) (length xs) rise_x.0)
            (first_is (falls ys) (length ys) at_y.0 at_y.1),
      )
      | inr rise_y ↦
          let calm : Nowhere (falls_in xs ys) (length xs + length ys) =
          nowhere_joined (falls xs) (falls ys) (length xs) (length ys) (nowhere_is (falls xs) (length xs) rise_x.0) (nowhere_is (falls ys) (length ys) rise_y.0) in
          wide_cause xs ys zs e good.0 calm rise_y.1
    ]
  ]
]
