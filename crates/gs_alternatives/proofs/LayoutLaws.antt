-- Lists put one after another, and the stretch of each cell.

use Rattle.std.specs.Prelude.{not}
use Rattle.std.proofs.Common.{◌≡◌, ◌≢◌, ◌∙◌, ap, sym, subst, refl, ℕ, zero, suc, ◌+◌, ◌-◌, ◌*◌, ◌<◌, ◌≤◌, ◌==◌, List, [], ◌∷◌, ◌++◌, length, set, slice_index, slice_range, take, drop, Bool, true, false, cond, ◌||◌, AllPairs, arith, inl, inr}
use Rattle.std.specs.List.{position_or_len}
use Rattle.std.proofs.lemmas.Bool.{cases_lt, eq-eqb, eqb-true}
use Rattle.std.proofs.lemmas.List.{drop-append-le, get_or-set_other, get_or-set_same, length-append, length-drop, length-set, take-append-le, take_all}
use Rattle.std.proofs.lemmas.List.Folds.{list_any_more}
use Rattle.std.proofs.Math.Seq.{drop-append_seam, take-length}
use Rattle.gs_design.specs.Alternatives.{alternatives}
use Rattle.gs_design.specs.Class.{AreAlternativesOf}
use Rattle.gs_design.specs.declared.cell.Cell.{Cell}
use Rattle.gs_alternatives.specs.Choices.{AreChoices, AreShared, IsStretchOf, no_stretch, stretch_at}
use Rattle.gs_alternatives.specs.Classes.{AreClasses, IsPut, has}
use Rattle.gs_alternatives.specs.declared.choices.Stretch.{Stretch}

-- ---- the stretches of one group

-- the cells at the first p places of a group have their stretches, and the others keep theirs
pub record IsPutTo (group : List ℕ) (base p : ℕ) (old new : List Stretch) : Type 0 where
  pub many : length new ≡ length old
  pub members : (c : ℕ) → has (take p group) c ≡ true → IsPut group base c (stretch_at new c)
  pub others : (c : ℕ) → has (take p group) c ≡ false → stretch_at new c ≡ stretch_at old c

pub put_none : (group : List ℕ) (base : ℕ) (old : List Stretch) → IsPutTo group base 0 old old
put_none group base old = record {
  many = refl;
  members = λ c h. let never : false ≡ true = h in absurd cc;
  others = λ c h. refl;
}

or_left : (a b : Bool) → (a || b) ≡ true → b ≡ false → a ≡ true
or_left true b h e = refl
or_left false b h e = let never : false ≡ true = sym e ∙ h in cc

none_left : (a b : Bool) → (a || b) ≡ false → a ≡ false
none_left true b h = h
none_left false b h = refl

none_right : (a b : Bool) → (a || b) ≡ false → b ≡ false
none_right true b h = let never : true ≡ false = h in absurd cc
none_right false b h = h

module _ (group : List ℕ) (base p : ℕ) (old new : List Stretch) (so_far : IsPutTo group base p old new) (lt : p < length group) (x : ℕ) (is : x ≡ slice_index group p) (in_x : x < length new) where
  abbrev here : Stretch
  here = record { from = base; to = base + length group; first = p }

  more : (c : ℕ) → has (take (p + 1) group) c ≡ (has (take p group) c || x == c)
  more c = list_any_more (λ y. y == c) group p 0 lt ∙ ap (λ y. has (take p group) c || y == c) (sym is)

  at_x : stretch_at (set new x here) x ≡ here
  at_x = get_or-set_same new x here no_stretch in_x

  put_here : IsPut group base x here
  put_here = record { from = refl; to = refl; first_in = lt; itself = sym is }

  other : (c : ℕ) → (x == c) ≡ false → stretch_at (set new x here) c ≡ stretch_at new c
  other c e = get_or-set_other new x c here no_stretch (λ same. let never : true ≡ false = sym (eq-eqb x c (sym same)) ∙ e in absurd cc)

  members_by : (c : ℕ) (b : Bool) → (x == c) ≡ b → has (take (p + 1) group) c ≡ true → IsPut group base c (stretch_at (set new x here) c)
  members_by c true e h = subst (λ y. IsPut group base y (stretch_at (set new x here) y)) (eqb-true x c e) (subst (IsPut group base x) (sym at_x) put_here)
  members_by c false e h = subst (IsPut group base c) (sym (other c e)) (so_far.members c (or_left (has (take p group) c) (x == c) (sym (more c) ∙ h) e))

  pub put_more : IsPutTo group base (p + 1) old (set new x here)
  put_more = record {
    many = length-set new x here ∙ so_far.many;
    members = λ c h. members_by c (x == c) refl h;
    others = λ c h.
        other c (none_right (has (take p group) c) (x == c) (sym (more c) ∙ h))
        ∙ so_far.others c (none_left (has (take p group) c) (x == c) (sym (more c) ∙ h));
  }

module _ (group : List ℕ) (base p : ℕ) (old new : List Stretch) (so_far : IsPutTo group base p old new) (past : length group ≤ p) where
  all : take p group ≡ group
  all = take_all p group past

  pub put_members : (c : ℕ) → has group c ≡ true → IsPut group base c (stretch_at new c)
  put_members c h = so_far.members c (ap (λ g. has g c) all ∙ h)

  pub put_others : (c : ℕ) → has group c ≡ false → stretch_at new c ≡ stretch_at old c
  put_others c h = so_far.others c (ap (λ g. has g c) all ∙ h)

-- ---- the lists of classes

-- the choice at place i is in the stretch of a cell whose class is put
pub record IsTakenTo (cells : List Cell) (classes : List ℕ) (stretches : List Stretch) (n i : ℕ) : Type 0 where
  pub cell : ℕ
  pub inside : cell < length cells
  pub done : slice_index classes cell < n
  pub from : (stretch_at stretches cell).from ≤ i
  pub to : i < (stretch_at stretches cell).to

-- the classes of the first n cells are put
pub record IsLaid (cells : List Cell) (classes choices : List ℕ) (stretches : List Stretch) (n : ℕ) : Type 0 where
  pub many : length stretches ≡ length cells
  pub few : length choices ≤ 1024 * n
  pub rows : (c : ℕ) → c < length cells → slice_index classes c < n → IsStretchOf cells choices c (stretch_at stretches c)
  pub shared : (c x : ℕ) → c < length cells → x < length cells → slice_index classes c < n → slice_index classes x ≡ slice_index classes c → (stretch_at stretches x).from ≡ (stretch_at stretches c).from
  pub taken : (i : ℕ) → i < length choices → IsTakenTo cells classes stretches n i

pub laid_none : (cells : List Cell) (classes : List ℕ) (stretches : List Stretch) → length stretches ≡ length cells → IsLaid cells classes [] stretches 0
laid_none cells classes stretches many = record {
  many = many;
  few = omega arith;
  rows = λ c lt k. absurd (omega arith);
  shared = λ c x lt in_x k e. absurd (omega arith);
  taken = λ i k. absurd (omega arith);
}

-- what was put stays where more is put
range_stays : (xs ys : List ℕ) (from to : ℕ) → from ≤ to → to ≤ length xs → slice_range (xs ++ ys) from to ≡ slice_range xs from to
range_stays xs ys from to h k =
    let rest : length (drop from xs) ≡ length xs - from = length-drop from xs in
    ap (take (to - from)) (drop-append-le from xs ys (omega arith)) ∙ take-append-le (to - from) (drop from xs) ys (omega (arith, rest))

range_new : (xs ys : List ℕ) (from to : ℕ) → from ≡ length xs → to ≡ length xs + length ys → slice_range (xs ++ ys) from to ≡ ys
range_new xs ys from to h k =
    let many : to - from ≡ length ys = omega arith in
    ap (λ f. take (to - from) (drop f (xs ++ ys))) h ∙ ap (take (to - from)) (drop-append_seam xs ys) ∙ ap (λ n. take n ys) many ∙ take-length ys

-- the place of an element of a list whose elements differ
place_by : (c x : ℕ) (xs : List ℕ) (k : ℕ) (b : Bool) → (x == c) ≡ b → AllPairs (λ y z. y ≢ z) (x ∷ xs) → suc k < length (x ∷ xs) → slice_index xs k ≡ c → position_or_len (λ y. y == c) xs ≡ k
    → cond (not b) (1 + position_or_len (λ y. y == c) xs) 0 ≡ suc k
place_by c x xs k true e differ lt is rest =
    absurd (differ 0 (suc k) 0 (omega arith) lt (eqb-true x c e ∙ sym is))
place_by c x xs k false e differ lt is rest = omega (arith, rest)

place_is : (c : ℕ) (xs : List ℕ) (k : ℕ) → AllPairs (λ y z. y ≢ z) xs → k < length xs → slice_index xs k ≡ c → position_or_len (λ y. y == c) xs ≡ k
place_is c [] k differ lt is = absurd (omega arith)
place_is c (x ∷ xs) zero differ lt is = ap (λ b. cond (not b) (1 + position_or_len (λ y. y == c) xs) 0) (eq-eqb x c is)
place_is c (x ∷ xs) (suc k) differ lt is =
    place_by c x xs k (x == c) refl differ lt is
    (place_is c xs k (λ i j d ij jl. differ (suc i) (suc j) d (omega arith) (omega arith)) (omega arith) is)

module _ (cells : List Cell) (classes choices : List ℕ) (stretches : List Stretch) (n : ℕ) (kept : (c : ℕ) → c < length cells → AreAlternativesOf cells c (alternatives cells c)) (are : AreClasses cells classes)
    (laid : IsLaid cells classes choices stretches n) (lt : n < length cells) where
  skip_rows : slice_index classes n ≢ n → (c : ℕ) → c < length cells → slice_index classes c < n + 1 → IsStretchOf cells choices c (stretch_at stretches c)
  skip_rows apart c in_c le = elim (cases_lt (slice_index classes c) n) [
    | inl low ↦ laid.rows c in_c low
    | inr high ↦
        let same : slice_index classes c ≡ n = omega arith in
        absurd (apart (ap (slice_index classes) (sym same) ∙ are.leads c in_c ∙ same))
  ]

  skip_shared : slice_index classes n ≢ n → (c x : ℕ) → c < length cells → x < length cells → slice_index classes c < n + 1 → slice_index classes x ≡ slice_index classes c
      → (stretch_at stretches x).from ≡ (stretch_at stretches c).from
  skip_shared apart c x in_c in_x le e = elim (cases_lt (slice_index classes c) n) [
    | inl low ↦ laid.shared c x in_c in_x low e
    | inr high ↦
        let same : slice_index classes c ≡ n = omega arith in
        absurd (apart (ap (slice_index classes) (sym same) ∙ are.leads c in_c ∙ same))
  ]

  skip_taken : (i : ℕ) → i < length choices → IsTakenTo cells classes stretches (n + 1) i
  skip_taken i k =
      let t : IsTakenTo cells classes stretches n i = laid.taken i k in
      record { cell = t.cell; inside = t.inside; done = omega (arith, t.done); from = t.from; to = t.to }

  pub laid_skip : slice_index classes n ≢ n → IsLaid cells classes choices stretches (n + 1)
  laid_skip apart = record { many = laid.many; few = omega (arith, laid.few); rows = skip_rows apart; shared = skip_shared apart; taken = skip_taken }

  module _ (group : List ℕ) (new : List Stretch) (lead : slice_index classes n ≡ n) (is : group ≡ alternatives cells n) (many : length new ≡ length stretches)
      (members : (c : ℕ) → has group c ≡ true → IsPut group (length choices) c (stretch_at new c))
      (others : (c : ℕ) → has group c ≡ false → stretch_at new c ≡ stretch_at stretches c) where
    abbrev after : List ℕ
    after = choices ++ group

    after_many : length after ≡ length choices + length group
    after_many = length-append choices group

    old_row : (c : ℕ) → c < length cells → slice_index classes c < n → (b : Bool) → has group c ≡ b → IsStretchOf cells after c (stretch_at new c)
    old_row c in_c low true e =
        let one : slice_index classes c ≡ slice_index classes n = are.members n c lt in_c (ap (λ g. has g c) (sym is) ∙ e) in
        absurd (omega (arith, one, lead, low))
    old_row c in_c low false e =
        let row : IsStretchOf cells choices c (stretch_at stretches c) = laid.rows c in_c low in
        subst (IsStretchOf cells after c) (sym (others c e)) (record {
          order = row.order;
          within = omega (arith, row.within, after_many);
          alternatives_are = range_stays choices group (stretch_at stretches c).from (stretch_at stretches c).to row.order row.within ∙ row.alternatives_are;
          first_in = row.first_in;
          first_is = row.first_is;
        })

    new_row : (c : ℕ) → c < length cells → slice_index classes c ≡ n → IsStretchOf cells after c (stretch_at new c)
    new_row c in_c same =
        let own : group ≡ alternatives cells c = is ∙ ap (alternatives cells) (sym same) ∙ are.same c in_c in
        let put : IsPut group (length choices) c (stretch_at new c) = members c (ap (λ g. has g c) own ∙ (kept c in_c).itself) in
        record {
          order = omega (arith, put.from, put.to);
          within = omega (arith, put.to, after_many);
          alternatives_are = range_new choices group (stretch_at new c).from (stretch_at new c).to put.from put.to ∙ own;
          first_in = omega (arith, put.first_in, ap length own);
          first_is = sym (place_is c (alternatives cells c) (stretch_at new c).first (kept c in_c).differ (omega (arith, put.first_in, ap length own))
              (ap (λ g. slice_index g (stretch_at new c).first) (sym own) ∙ put.itself));
        }

    put_rows : (c : ℕ) → c < length cells → slice_index classes c < n + 1 → IsStretchOf cells after c (stretch_at new c)
    put_rows c in_c le = elim (cases_lt (slice_index classes c) n) [
      | inl low ↦ old_row c in_c low (has group c) refl
      | inr high ↦ new_row c in_c (omega arith)
    ]

    stays_by : (c : ℕ) → c < length cells → slice_index classes c < n → (b : Bool) → has group c ≡ b → stretch_at new c ≡ stretch_at stretches c
    stays_by c in_c low true e =
        let one : slice_index classes c ≡ slice_index classes n = are.members n c lt in_c (ap (λ g. has g c) (sym is) ∙ e) in
        absurd (omega (arith, one, lead, low))
    stays_by c in_c low false e = others c e

    stays : (c : ℕ) → c < length cells → slice_index classes c < n → stretch_at new c ≡ stretch_at stretches c
    stays c in_c low = stays_by c in_c low (has group c) refl

    put_at : (c : ℕ) → c < length cells → slice_index classes c ≡ n → IsPut group (length choices) c (stretch_at new c)
    put_at c in_c same =
        let own : group ≡ alternatives cells c = is ∙ ap (alternatives cells) (sym same) ∙ are.same c in_c in
        members c (ap (λ g. has g c) own ∙ (kept c in_c).itself)

    put_shared : (c x : ℕ) → c < length cells → x < length cells → slice_index classes c < n + 1 → slice_index classes x ≡ slice_index classes c
        → (stretch_at new x).from ≡ (stretch_at new c).from
    put_shared c x in_c in_x le e = elim (cases_lt (slice_index classes c) n) [
      | inl low ↦
          ap (λ (s : Stretch). s.from) (stays x in_x (omega (arith, e, low))) ∙ laid.shared c x in_c in_x low e ∙ sym (ap (λ (s : Stretch). s.from) (stays c in_c low))
      | inr high ↦
          let same : slice_index classes c ≡ n = omega arith in
          (put_at x in_x (e ∙ same)).from ∙ sym (put_at c in_c same).from
    ]

    put_taken : (i : ℕ) → i < length after → IsTakenTo cells classes new (n + 1) i
    put_taken i k = elim (cases_lt i (length choices)) [
      | inl low ↦
          let t : IsTakenTo cells classes stretches n i = laid.taken i low in
          let same : stretch_at new t.cell ≡ stretch_at stretches t.cell = stays t.cell t.inside t.done in
          record {
            cell = t.cell;
            inside = t.inside;
            done = omega (arith, t.done);
            from = subst (λ (s : Stretch). s.from ≤ i) (sym same) t.from;
            to = subst (λ (s : Stretch). i < s.to) (sym same) t.to;
          }
      | inr high ↦
          let put : IsPut group (length choices) n (stretch_at new n) = put_at n lt lead in
          record {
            cell = n;
            inside = lt;
            done = omega (arith, lead);
            from = omega (arith, put.from, high);
            to = omega (arith, put.to, after_many, k);
          }
    ]

    pub laid_put : IsLaid cells classes (choices ++ group) new (n + 1)
    laid_put = record {
      many = many ∙ laid.many;
      few = omega (arith, laid.few, after_many, (kept n lt).few, ap length is);
      rows = put_rows;
      shared = put_shared;
      taken = put_taken;
    }

pub laid_all : (cells : List Cell) (classes choices : List ℕ) (stretches : List Stretch) (n : ℕ) → AreClasses cells classes → IsLaid cells classes choices stretches n → n ≡ length cells → length cells ≤ 65535
    → AreChoices cells choices stretches
laid_all cells classes choices stretches n are laid whole few = record {
  many = laid.many;
  few = omega (arith, laid.few);
  each = λ c lt. laid.rows c lt (omega (arith, are.below c lt));
}

pub laid_shared : (cells : List Cell) (classes choices : List ℕ) (stretches : List Stretch) (n : ℕ) → ((c : ℕ) → c < length cells → AreAlternativesOf cells c (alternatives cells c)) → AreClasses cells classes
    → IsLaid cells classes choices stretches n → n ≡ length cells → AreShared cells choices stretches
laid_shared cells classes choices stretches n kept are laid whole = record {
  shared = λ c x in_c in_x e.
      laid.shared c x in_c in_x (omega (arith, are.below c in_c, whole)) (are.members c x in_c in_x (ap (λ g. has g x) (sym e) ∙ (kept x in_x).itself));
  taken = λ i k.
      let t : IsTakenTo cells classes stretches n i = laid.taken i k in
      record { cell = t.cell; inside = t.inside; from = t.from; to = t.to };
}
