-- The laws of items that are judged one after another.

use Rattle.std.proofs.Common.{◌≡◌, List, [], ◌∷◌, ◌++◌, Option, None, Some, refl, sym, ap, ◌∙◌}
use Rattle.gs_grammar.specs.Judged.{upon, AreGood, IsFirstFault, first_fault}

-- items in two parts
pub upon-append : {T : Type 0} (past xs ys : List T) → upon past (xs ++ ys) ≡ upon (upon past xs) ys
upon-append past [] ys = refl
upon-append past (x ∷ xs) ys = upon-append (x ∷ past) xs ys

module _ {T F : Type 0} (judge : List T → T → Option F) where
  pub no_fault : (past : List T) → first_fault judge past [] ≡ None
  unfolding first_fault
  no_fault past = refl

  -- an item without a fault is passed
  pub goes_on : (past : List T) (t : T) (ts : List T) → judge past t ≡ None → first_fault judge past (t ∷ ts) ≡ first_fault judge (t ∷ past) ts
  unfolding first_fault
  goes_on past t ts e = rw e refl

  -- an item with one ends the search
  pub halts : (past : List T) (t : T) (ts : List T) (f : F) → judge past t ≡ Some f → first_fault judge past (t ∷ ts) ≡ Some (t, f)
  unfolding first_fault
  halts past t ts f e = rw e refl

  -- good items are passed all at once
  pub passes : (past xs ys : List T) → AreGood judge past xs → first_fault judge past (xs ++ ys) ≡ first_fault judge (upon past xs) ys
  passes past [] ys good = refl
  passes past (x ∷ xs) ys good = goes_on past x (xs ++ ys) good.0 ∙ passes (x ∷ past) xs ys good.1

  -- good items in two parts
  pub good-append : (past xs ys : List T) → AreGood judge past xs → AreGood judge (upon past xs) ys → AreGood judge past (xs ++ ys)
  good-append past [] ys a b = b
  good-append past (x ∷ xs) ys a b = (a.0, good-append (x ∷ past) xs ys a.1 b)

  all_by : (past : List T) (t : T) (ts : List T) (o : Option F) → judge past t ≡ o
      → (first_fault judge (t ∷ past) ts ≡ None → AreGood judge (t ∷ past) ts)
      → first_fault judge past (t ∷ ts) ≡ None → AreGood judge past (t ∷ ts)
  all_by past t ts None e later h = (e, later (sym (goes_on past t ts e) ∙ h))
  all_by past t ts (Some f) e later h = let never : ◌≡◌ {A = Option (T × F)} (Some (t, f)) None = sym (halts past t ts f e) ∙ h in cc

  -- where no fault is found, all items are good
  pub all_good : (past ts : List T) → first_fault judge past ts ≡ None → AreGood judge past ts
  all_good past [] h = tt
  all_good past (t ∷ ts) h = all_by past t ts (judge past t) refl (all_good (t ∷ past) ts) h

  -- and the other way round
  pub good_none : (past ts : List T) → AreGood judge past ts → first_fault judge past ts ≡ None
  good_none past [] h = no_fault past
  good_none past (t ∷ ts) h = goes_on past t ts h.0 ∙ good_none (t ∷ past) ts h.1

  -- the parts in which a fault cuts the items after a past
  record Found (past ts : List T) (t : T) (f : F) : Type 0 where
    pub before : List T
    pub after : List T
    pub list_is : ts ≡ before ++ t ∷ after
    pub good : AreGood judge past before
    pub here : judge (upon past before) t ≡ Some f

  found_by : (past : List T) (x : T) (ts : List T) (t : T) (f : F) (o : Option F) → judge past x ≡ o
      → (first_fault judge (x ∷ past) ts ≡ Some (t, f) → Found (x ∷ past) ts t f)
      → first_fault judge past (x ∷ ts) ≡ Some (t, f) → Found past (x ∷ ts) t f
  found_by past x ts t f None e later h =
      let q = later (sym (goes_on past x ts e) ∙ h) in
      record { before = x ∷ q.before; after = q.after; list_is = ap (λ us. x ∷ us) q.list_is; good = (e, q.good); here = q.here }
  found_by past x ts t f (Some g) e later h =
      let both : ◌≡◌ {A = Option (T × F)} (Some (x, g)) (Some (t, f)) = sym (halts past x ts g e) ∙ h in
      let pair : ◌≡◌ {A = T × F} (x, g) (t, f) = cc in
      let item : x ≡ t = ap (λ p. p.0) pair in
      let fault : g ≡ f = ap (λ p. p.1) pair in
      record { before = []; after = ts; list_is = ap (λ y. y ∷ ts) item; good = tt; here = ap (judge past) (sym item) ∙ e ∙ ap Some fault }

  find : (past ts : List T) (t : T) (f : F) → first_fault judge past ts ≡ Some (t, f) → Found past ts t f
  find past [] t f h = let never : ◌≡◌ {A = Option (T × F)} None (Some (t, f)) = sym (no_fault past) ∙ h in cc
  find past (x ∷ ts) t f h = found_by past x ts t f (judge past x) refl (find (x ∷ past) ts t f) h

  -- the fault that is found is the first
  pub is_first : (ts : List T) (t : T) (f : F) → first_fault judge [] ts ≡ Some (t, f) → IsFirstFault judge ts t f
  is_first ts t f h =
      let q = find [] ts t f h in
      record { before = q.before; after = q.after; list_is = q.list_is; good = q.good; here = q.here }

  -- the first fault is found
  pub finds : (ts : List T) (t : T) (f : F) → IsFirstFault judge ts t f → first_fault judge [] ts ≡ Some (t, f)
  finds ts t f q =
      ap (first_fault judge []) q.list_is ∙ passes [] q.before (t ∷ q.after) q.good ∙ halts (upon [] q.before) t q.after f q.here

  -- so there is one first fault at most,
  pub one_fault : (ts : List T) (t u : T) (f g : F) → IsFirstFault judge ts t f → IsFirstFault judge ts u g → ◌≡◌ {A = T × F} (t, f) (u, g)
  one_fault ts t u f g a b =
      let both : ◌≡◌ {A = Option (T × F)} (Some (t, f)) (Some (u, g)) = sym (finds ts t f a) ∙ finds ts u g b in
      cc

  -- and none where all items are good.
  pub excludes : (ts : List T) (t : T) (f : F) → AreGood judge [] ts → IsFirstFault judge ts t f → ⊥
  excludes ts t f good q =
      let never : ◌≡◌ {A = Option (T × F)} None (Some (t, f)) = sym (good_none [] ts good) ∙ finds ts t f q in
      cc
