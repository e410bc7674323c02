-- Classes by the first cell that has the key.

use Rattle.std.proofs.Common.{◌≡◌, ◌∙◌, ap, sym, refl, ℕ, suc, ◌+◌, ◌<◌, ◌==◌, List, [], ◌∷◌, ◌++◌, All, length, slice_index, filter, Bool, true, false, cond, ◌||◌, Option, None, Some, unwrap_or, if◌then◌else◌, arith, inl, inr}
use Rattle.std.specs.BTreeMap.{is_at}
use Rattle.std.proofs.lemmas.Bool.{cases_lt, eq-eqb, eqb-true}
use Rattle.std.proofs.lemmas.List.{get_or_append_left, get_or_push, length_push}
use Rattle.gs_design.specs.Alternatives.{alike, alternatives, is_sizable, ranked}
use Rattle.gs_design.specs.Cells.{cell_at}
use Rattle.gs_design.specs.declared.cell.Cell.{Cell}
use Rattle.gs_alternatives.specs.Classes.{AreClasses, Key, class_key, has, has_key, key_cmp, matches_by, same_key}
use Rattle.gs_alternatives.proofs.ClassLaws.{alike_key, at_key, key_exact, key_self, keyed_sizable, unkeyed}

-- what a map of keys and the classes of the first i cells say of each other
pub record IsMapped (cells : List Cell) (f : Key → Option ℕ) (classes : List ℕ) (i : ℕ) : Type 0 where
  pub many : length classes ≡ i
  pub below : (q : Key) (v : ℕ) → f q ≡ Some v → v < i
  pub known : (q : Key) (v : ℕ) → f q ≡ Some v → class_key (cell_at cells v) ≡ Some q
  pub keyed : (j : ℕ) (q : Key) → j < i → class_key (cell_at cells j) ≡ Some q → f q ≡ Some (slice_index classes j)
  pub lone : (j : ℕ) → j < i → class_key (cell_at cells j) ≡ None → slice_index classes j ≡ j

-- ---- one cell more

module _ (cells : List Cell) (f g : Key → Option ℕ) (classes : List ℕ) (i n : ℕ) (m : IsMapped cells f classes i) where
  stays : (j : ℕ) → j < i → slice_index (classes ++ n ∷ []) j ≡ slice_index classes j
  stays j lt = get_or_append_left classes (n ∷ []) 0 j (omega (arith, m.many))

  last : (j : ℕ) → j ≡ i → slice_index (classes ++ n ∷ []) j ≡ n
  last j e = get_or_push classes n 0 j (m.many ∙ sym e)

  more_many : length (classes ++ n ∷ []) ≡ i + 1
  more_many = omega (arith, length_push classes n, m.many)

  module _ (none : class_key (cell_at cells i) ≡ None) (own : n ≡ i) (unchanged : (q : Key) → g q ≡ f q) where
    none_keyed : (j : ℕ) (q : Key) → j < i + 1 → class_key (cell_at cells j) ≡ Some q → g q ≡ Some (slice_index (classes ++ n ∷ []) j)
    none_keyed j q lt e = elim (cases_lt j i) [
      | inl low ↦ unchanged q ∙ m.keyed j q low e ∙ ap (λ v. Some v) (sym (stays j low))
      | inr high ↦
          let here : j ≡ i = omega arith in
          let never : Some q ≡ None = sym e ∙ ap (λ k. class_key (cell_at cells k)) here ∙ none in
          absurd cc
    ]

    none_lone : (j : ℕ) → j < i + 1 → class_key (cell_at cells j) ≡ None → slice_index (classes ++ n ∷ []) j ≡ j
    none_lone j lt e = elim (cases_lt j i) [
      | inl low ↦ stays j low ∙ m.lone j low e
      | inr high ↦
          let here : j ≡ i = omega arith in
          last j here ∙ own ∙ sym here
    ]

    none_more : IsMapped cells g (classes ++ n ∷ []) (i + 1)
    none_more = record {
      many = more_many;
      below = λ q v e. omega (arith, m.below q v (sym (unchanged q) ∙ e));
      known = λ q v e. m.known q v (sym (unchanged q) ∙ e);
      keyed = none_keyed;
      lone = none_lone;
    }

  module _ (k : Key) (some : class_key (cell_at cells i) ≡ Some k) (number : n ≡ unwrap_or (f k) i) (updates : (q : Key) → g q ≡ cond (is_at (key_cmp k) q) (Some n) (f q)) where
    at : (q : Key) (b : Bool) → same_key k q ≡ b → g q ≡ cond b (Some n) (f q)
    at q b e = updates q ∙ ap (λ t. cond t (Some n) (f q)) (at_key k q ∙ e)

    here_below : (o : Option ℕ) → f k ≡ o → n < i + 1
    here_below None e = omega (arith, number ∙ ap (λ p. unwrap_or p i) e)
    here_below (Some w) e = omega (arith, number ∙ ap (λ p. unwrap_or p i) e, m.below k w e)

    here_known : (o : Option ℕ) → f k ≡ o → class_key (cell_at cells n) ≡ Some k
    here_known None e = ap (λ p. class_key (cell_at cells p)) (number ∙ ap (λ p. unwrap_or p i) e) ∙ some
    here_known (Some w) e = ap (λ p. class_key (cell_at cells p)) (number ∙ ap (λ p. unwrap_or p i) e) ∙ m.known k w e

    some_below : (q : Key) (v : ℕ) (b : Bool) → same_key k q ≡ b → g q ≡ Some v → v < i + 1
    some_below q v true e h =
        let both : Some n ≡ Some v = sym (at q true e) ∙ h in
        let same : n ≡ v = cc in
        omega (arith, same, here_below (f k) refl)
    some_below q v false e h = omega (arith, m.below q v (sym (at q false e) ∙ h))

    some_known : (q : Key) (v : ℕ) (b : Bool) → same_key k q ≡ b → g q ≡ Some v → class_key (cell_at cells v) ≡ Some q
    some_known q v true e h =
        let both : Some n ≡ Some v = sym (at q true e) ∙ h in
        let same : n ≡ v = cc in
        ap (λ p. class_key (cell_at cells p)) (sym same) ∙ here_known (f k) refl ∙ ap (λ p. Some p) (key_exact k q e)
    some_known q v false e h = m.known q v (sym (at q false e) ∙ h)

    old_keyed : (j : ℕ) (q : Key) (b : Bool) → same_key k q ≡ b → j < i → class_key (cell_at cells j) ≡ Some q → g q ≡ Some (slice_index classes j)
    old_keyed j q true e lt h =
        let same : k ≡ q = key_exact k q e in
        let found : f k ≡ Some (slice_index classes j) = ap f same ∙ m.keyed j q lt h in
        at q true e ∙ ap (λ v. Some v) (number ∙ ap (λ p. unwrap_or p i) found)
    old_keyed j q false e lt h = at q false e ∙ m.keyed j q lt h

    some_keyed : (j : ℕ) (q : Key) → j < i + 1 → class_key (cell_at cells j) ≡ Some q → g q ≡ Some (slice_index (classes ++ n ∷ []) j)
    some_keyed j q lt e = elim (cases_lt j i) [
      | inl low ↦ old_keyed j q (same_key k q) refl low e ∙ ap (λ v. Some v) (sym (stays j low))
      | inr high ↦
          let here : j ≡ i = omega arith in
          let both : Some k ≡ Some q = sym some ∙ ap (λ p. class_key (cell_at cells p)) (sym here) ∙ e in
          let same : k ≡ q = cc in
          at q true (ap (λ p. same_key k p) (sym same) ∙ key_self k) ∙ ap (λ v. Some v) (sym (last j here))
    ]

    some_lone : (j : ℕ) → j < i + 1 → class_key (cell_at cells j) ≡ None → slice_index (classes ++ n ∷ []) j ≡ j
    some_lone j lt e = elim (cases_lt j i) [
      | inl low ↦ stays j low ∙ m.lone j low e
      | inr high ↦
          let here : j ≡ i = omega arith in
          let never : Some k ≡ None = sym some ∙ ap (λ p. class_key (cell_at cells p)) (sym here) ∙ e in
          absurd cc
    ]

    some_more : IsMapped cells g (classes ++ n ∷ []) (i + 1)
    some_more = record {
      many = more_many;
      below = λ q v e. some_below q v (same_key k q) refl e;
      known = λ q v e. some_known q v (same_key k q) refl e;
      keyed = some_keyed;
      lone = some_lone;
    }

  pub mapped_more : (o : Option Key) → class_key (cell_at cells i) ≡ o
      → (class_key (cell_at cells i) ≡ None → n ≡ i)
      → (class_key (cell_at cells i) ≡ None → (q : Key) → g q ≡ f q)
      → ((k : Key) → class_key (cell_at cells i) ≡ Some k → n ≡ unwrap_or (f k) i)
      → ((k : Key) → class_key (cell_at cells i) ≡ Some k → (q : Key) → g q ≡ cond (is_at (key_cmp k) q) (Some n) (f q))
      → IsMapped cells g (classes ++ n ∷ []) (i + 1)
  mapped_more None e own unchanged number updates = none_more e (own e) (unchanged e)
  mapped_more (Some k) e own unchanged number updates = some_more k e (number k e) (updates k e)

-- ---- lists

filter_by : (p q : ℕ → Bool) (x : ℕ) (xs : List ℕ) → p x ≡ q x → filter p xs ≡ filter q xs → filter p (x ∷ xs) ≡ filter q (x ∷ xs)
filter_by p q x xs e h = ap (λ b. cond b (x ∷ filter p xs) (filter p xs)) e ∙ ap (λ ys. cond (q x) (x ∷ ys) ys) h

-- two tests that agree on the elements
pub filter_same : (p q : ℕ → Bool) (P : ℕ → Type 0) → ((x : ℕ) → P x → p x ≡ q x) → (xs : List ℕ) → All P xs → filter p xs ≡ filter q xs
filter_same p q P h [] all = refl
filter_same p q P h (x ∷ xs) all = filter_by p q x xs (h x (all 0 x (omega arith))) (filter_same p q P h xs (λ k d lt. all (suc k) d (omega arith)))

or_true : (a b : Bool) → (a || b) ≡ true → a ≡ false → b ≡ true
or_true true b h e = let never : true ≡ false = e in cc
or_true false b h e = h

passes_by : (p : ℕ → Bool) (x y : ℕ) (ys : List ℕ) (b e : Bool) → p y ≡ b → (y == x) ≡ e → (has (filter p ys) x ≡ true → p x ≡ true) → has (cond b (y ∷ filter p ys) (filter p ys)) x ≡ true → p x ≡ true
passes_by p x y ys true true eb ee rest h = ap p (sym (eqb-true y x ee)) ∙ eb
passes_by p x y ys true false eb ee rest h = rest (or_true (y == x) (has (filter p ys) x) h ee)
passes_by p x y ys false e eb ee rest h = rest h

-- what a filter holds passes its test
pub has_passes : (p : ℕ → Bool) (x : ℕ) (ys : List ℕ) → has (filter p ys) x ≡ true → p x ≡ true
has_passes p x [] h = let never : false ≡ true = h in cc
has_passes p x (y ∷ ys) h = passes_by p x y ys (p y) (y == x) refl refl (has_passes p x ys) h

-- ---- what the classes say

sizable_alternatives : (cells : List Cell) (c : ℕ) (b : Bool) → is_sizable (cell_at cells c) ≡ b → b ≡ true → alternatives cells c ≡ filter (λ x. alike (cell_at cells c) (cell_at cells x)) (ranked cells)
sizable_alternatives cells c true e h = ap (λ b. if b then filter (λ x. alike (cell_at cells c) (cell_at cells x)) (ranked cells) else c ∷ []) e
sizable_alternatives cells c false e h = absurd cc

-- the alternatives of a sizable cell
pub alternatives_sizable : (cells : List Cell) (c : ℕ) → is_sizable (cell_at cells c) ≡ true → alternatives cells c ≡ filter (λ x. alike (cell_at cells c) (cell_at cells x)) (ranked cells)
alternatives_sizable cells c e = sizable_alternatives cells c true e refl

-- and of another
pub alternatives_lone : (cells : List Cell) (c : ℕ) → is_sizable (cell_at cells c) ≡ false → alternatives cells c ≡ c ∷ []
alternatives_lone cells c e = ap (λ b. if b then filter (λ x. alike (cell_at cells c) (cell_at cells x)) (ranked cells) else c ∷ []) e

module _ (cells : List Cell) (f : Key → Option ℕ) (classes : List ℕ) (m : IsMapped cells f classes (length cells)) where
  alternatives_keyed : (c : ℕ) (k : Key) → class_key (cell_at cells c) ≡ Some k → alternatives cells c ≡ filter (λ x. has_key k (cell_at cells x)) (ranked cells)
  alternatives_keyed c k e =
      alternatives_sizable cells c (keyed_sizable (cell_at cells c) k e)
      ∙ filter_same (λ x. alike (cell_at cells c) (cell_at cells x)) (λ x. has_key k (cell_at cells x)) (λ x. Unit {0}) (λ x t. alike_key (cell_at cells c) (cell_at cells x) k e) (ranked cells) (λ i d lt. tt)

  below_by : (c : ℕ) (o : Option Key) → class_key (cell_at cells c) ≡ o → c < length cells → slice_index classes c < length cells
  below_by c None e lt = omega (arith, m.lone c lt e)
  below_by c (Some k) e lt = m.below k (slice_index classes c) (m.keyed c k lt e)

  -- the first cell of a class has its key
  lead_key : (c : ℕ) (k : Key) → class_key (cell_at cells c) ≡ Some k → c < length cells → class_key (cell_at cells (slice_index classes c)) ≡ Some k
  lead_key c k e lt = m.known k (slice_index classes c) (m.keyed c k lt e)

  -- cells of one key are of one class
  one_class : (c x : ℕ) (k : Key) → class_key (cell_at cells c) ≡ Some k → class_key (cell_at cells x) ≡ Some k → c < length cells → x < length cells → slice_index classes x ≡ slice_index classes c
  one_class c x k e h lt in_x =
      let both : Some (slice_index classes x) ≡ Some (slice_index classes c) = sym (m.keyed x k in_x h) ∙ m.keyed c k lt e in
      cc

  leads_by : (c : ℕ) (o : Option Key) → class_key (cell_at cells c) ≡ o → c < length cells → slice_index classes (slice_index classes c) ≡ slice_index classes c
  leads_by c None e lt = ap (slice_index classes) (m.lone c lt e)
  leads_by c (Some k) e lt = one_class c (slice_index classes c) k e (lead_key c k e lt) lt (below_by c (Some k) e lt)

  same_by : (c : ℕ) (o : Option Key) → class_key (cell_at cells c) ≡ o → c < length cells → alternatives cells (slice_index classes c) ≡ alternatives cells c
  same_by c None e lt = ap (alternatives cells) (m.lone c lt e)
  same_by c (Some k) e lt = alternatives_keyed (slice_index classes c) k (lead_key c k e lt) ∙ sym (alternatives_keyed c k e)

  has_key_by : (k : Key) (x : ℕ) (o : Option Key) → class_key (cell_at cells x) ≡ o → matches_by k o ≡ true → class_key (cell_at cells x) ≡ Some k
  has_key_by k x None e h = let never : false ≡ true = h in absurd cc
  has_key_by k x (Some l) e h = e ∙ ap (λ q. Some q) (sym (key_exact k l h))

  members_by : (c x : ℕ) (o : Option Key) → class_key (cell_at cells c) ≡ o → c < length cells → x < length cells → has (alternatives cells c) x ≡ true → slice_index classes x ≡ slice_index classes c
  members_by c x None e lt in_x h =
      let one : has (c ∷ []) x ≡ true = ap (λ cs. has cs x) (sym (alternatives_lone cells c (unkeyed (cell_at cells c) e))) ∙ h in
      ap (slice_index classes) (sym (only_one (c == x) refl one))
    where
      only_one : (b : Bool) → (c == x) ≡ b → (b || false) ≡ true → c ≡ x
      only_one true t g = eqb-true c x t
      only_one false t g = let never : false ≡ true = g in absurd cc
  members_by c x (Some k) e lt in_x h =
      let among : has (filter (λ y. has_key k (cell_at cells y)) (ranked cells)) x ≡ true = ap (λ cs. has cs x) (sym (alternatives_keyed c k e)) ∙ h in
      let passes : has_key k (cell_at cells x) ≡ true = has_passes (λ y. has_key k (cell_at cells y)) x (ranked cells) among in
      one_class c x k e (has_key_by k x (class_key (cell_at cells x)) refl passes) lt in_x

  -- two classes are one exactly where the keys are
  test_by : (c x : ℕ) (k : Key) (o : Option Key) (b t : Bool) → class_key (cell_at cells c) ≡ Some k → class_key (cell_at cells x) ≡ o → c < length cells → x < length cells
      → matches_by k o ≡ b → (slice_index classes x == slice_index classes c) ≡ t → t ≡ b
  test_by c x k o true true e h lt in_x eb et = refl
  test_by c x k o false false e h lt in_x eb et = refl
  test_by c x k o true false e h lt in_x eb et =
      let same : slice_index classes x ≡ slice_index classes c = one_class c x k e (has_key_by k x o h eb) lt in_x in
      sym et ∙ eq-eqb (slice_index classes x) (slice_index classes c) same
  test_by c x k None false true e h lt in_x eb et =
      let same : slice_index classes x ≡ slice_index classes c = eqb-true (slice_index classes x) (slice_index classes c) et in
      let never : Some k ≡ None = sym (lead_key c k e lt) ∙ ap (λ y. class_key (cell_at cells y)) (sym same ∙ m.lone x in_x h) ∙ h in
      absurd cc
  test_by c x k (Some l) false true e h lt in_x eb et =
      let same : slice_index classes x ≡ slice_index classes c = eqb-true (slice_index classes x) (slice_index classes c) et in
      let keys : Some k ≡ Some l = sym (lead_key c k e lt) ∙ ap (λ y. class_key (cell_at cells y)) (sym same) ∙ lead_key x l h in_x in
      let one : k ≡ l = cc in
      sym (key_self k) ∙ ap (same_key k) one ∙ eb

  tells_by : (c x : ℕ) (o : Option Key) → class_key (cell_at cells c) ≡ o → c < length cells → x < length cells → is_sizable (cell_at cells c) ≡ true
      → (slice_index classes x == slice_index classes c) ≡ alike (cell_at cells c) (cell_at cells x)
  tells_by c x None e lt in_x h = let never : false ≡ true = sym (unkeyed (cell_at cells c) e) ∙ h in absurd cc
  tells_by c x (Some k) e lt in_x h =
      test_by c x k (class_key (cell_at cells x)) (has_key k (cell_at cells x)) (slice_index classes x == slice_index classes c) e refl lt in_x refl refl
      ∙ sym (alike_key (cell_at cells c) (cell_at cells x) k e)

  pub classes_are : AreClasses cells classes
  classes_are = record {
    many = m.many;
    below = λ c lt. below_by c (class_key (cell_at cells c)) refl lt;
    leads = λ c lt. leads_by c (class_key (cell_at cells c)) refl lt;
    same = λ c lt. same_by c (class_key (cell_at cells c)) refl lt;
    members = λ c x lt in_x h. members_by c x (class_key (cell_at cells c)) refl lt in_x h;
    tells = λ c x lt in_x h. tells_by c x (class_key (cell_at cells c)) refl lt in_x h;
  }
