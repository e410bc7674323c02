-- Each kind of step keeps the rule of the lock, and the opening and the end.
use Rattle.std.proofs.Common.{◌≡◌, ◌≢◌, ℕ, ◌+◌, ◌≤◌, ◌==◌, Option, Some, None, List, [], ◌∷◌, length, get_or, set, sym, refl, ap, ◌∙◌, subst, arith, length-set, get_or-set_same}
use Rattle.std.proofs.lemmas.List.{set-get_or}
use mathlib.Core.Option.{some, none, some-injective}
use mathlib.Core.List.{IsPrefix}
use mathlib.Core.Logic.{dite}
use native.Mathlib.Decide.{ℕ_discrete}
use lib.ListN.{get_elem?}
use prog.Atomic.{either}
use Rattle.std.proofs.lemmas.List.Elements.{All-nil, All-append, All-cons}
use Rattle.std.specs.List.{range_with_len}
use Rattle.std.proofs.lemmas.List.FromFn.{length-range_with_len}
use Rattle.atomic_table.specs.Table.{State, Act, takes, gives, keeps, step, stepped, Valid, carried_after, Allows, Splits, Joins, opening, Seen, Final}
use Rattle.atomic_table.proofs.Lists.{exchanged, set_here, set_again, set_else, at_longer}
use Rattle.gs_turn.specs.declared.view.SeatView.{SeatView}
use Rattle.gs_turn.specs.Rule.{Kept, IsOut, GoesOn, Sits, total, opened, claimed, released, with_turn, after_turn, with_first, without_first, both_of, spent, first_of, rest_of}
use Rattle.gs_turn.proofs.Lists.{total-set, total-append, total-two, total-ones, each_set, each_fork, each_join, each_only, in_range, not_empty, prefix_itself, prefix_trans, prefixes_on}

some_not_none : {A : Type 0} (o : Option A) (x : A) → o ≡ Some x → o ≡ None → ⊥
some_not_none o x e n = let bad : Some x ≡ None = sym e ∙ n in cc

-- a list of numbers weighs what its first and the others do
cut_in_two : (f : ℕ → ℕ) (own : List ℕ) → total f own ≡ total f (first_of own) + total f (rest_of own)
cut_in_two f [] = refl
cut_in_two f (k ∷ ks) = omega arith

module _ {B T R : Type 0} (tag_of : B → T) (list_of : B → List R) (tag : T) (made : ℕ) where
  abbrev Rule : State (Option B) (SeatView T R) → Type 0
  Rule = Kept tag_of list_of tag made

  pub claims : (id : ℕ) (v : SeatView T R) → v.tag ≡ Some tag → v.count ≡ made → v.own ≢ []
      → Allows Rule 1 id (v, []) 0 (λ k. either (k == 0) 1 k) (claimed tag_of list_of (step 1 0 0 1 none) (v, []))
  claims id v marked counted some_own s r wide at small = let k : ℕ = get_or s.words 0 0 in let one = r.one in
      exchanged k 0 1 (λ new. (w : SeatView T R) × (a : Act (Option B)) × Valid s.homes [] a × Rule (stepped s 0 new id [] w a) × claimed tag_of list_of (step 1 0 0 1 none) (v, []) k (w, carried_after [] a))
      (λ is. let h = r.free is in let list : List R = list_of h.0 in let w : SeatView T R = with_turn v list in let now_one : get_or (set s.words 0 1) 0 0 ≡ 1 = get_or-set_same s.words 0 1 0 (omega arith) in (
        w,
        takes 0 (Some h.0),
        h.1,
        record {
          one = length-set s.words 0 1 ∙ one;
          free = λ z. absurd (omega arith);
          taken = λ _. (now_one, (id, list, set_here s.homes 0 none (omega arith), (w, set_here s.views id w (in_range s.views id v at), refl), each_set (λ j u. (j ≢ id → u.turn ≡ None) × GoesOn u list) s.views id w ((λ ne. absurd (ne refl)), (h.3 id v at).1) (λ j u _ e. ((λ _. (h.3 j u e).0), (h.3 j u e).1))));
          sits = each_set (λ j u. Sits tag made u) s.views id w ((λ _. (marked, counted)), λ empty. absurd (some_own empty)) (λ j u _ e. r.sits j u e);
          once = λ f. let t = total-set (λ (u : SeatView T R). total f u.own) s.views id v w at in omega (arith, r.once f);
        },
        ((λ _. (h.0, refl, ap Some h.2 ∙ sym marked, (h.3 id v at).1)), λ ne. absurd (ne is)),
      ))
      (λ ne. (v, keeps, tt, subst Rule (λ i. record { words = sym (set-get_or s.words 0 0) i; homes = s.homes; views = sym (set_again s.views id v at) i }) r, ((λ is. absurd (ne is)), λ _. refl)))

  -- a seat with the turn is the holder, and the list that it took is the holder's
  holds_it : (s : State (Option B) (SeatView T R)) → Rule s → (id : ℕ) (v : SeatView T R) (taken : List R) → get_elem? s.views id ≡ some v → v.turn ≡ Some taken
      → ((j : ℕ) (u : SeatView T R) → get_elem? s.views j ≡ some u → (j ≢ id → u.turn ≡ None) × GoesOn u taken)
  holds_it s r id v taken at turn = let o = (r.taken (λ z. some_not_none v.turn taken turn ((r.free z).3 id v at).0)).1 in
      let is : o.0 ≡ id = dite (ℕ_discrete id o.0) sym (λ ne. absurd (some_not_none v.turn taken turn ((o.4 id v at).0 ne))) in
      let same : o.3.0 ≡ v = some-injective o.3.0 v (sym o.3.1 ∙ (ap (get_elem? s.views) is ∙ at)) in
      let list : o.1 ≡ taken = let e : Some o.1 ≡ Some taken = sym o.3.2 ∙ (ap (λ (u : SeatView T R). u.turn) same ∙ turn) in cc in
      subst (λ (z : ℕ × List R). (j : ℕ) (u : SeatView T R) → get_elem? s.views j ≡ some u → (j ≢ z.0 → u.turn ≡ None) × GoesOn u z.1) (λ i. (is i, list i)) o.4

  pub releases : (id : ℕ) (v : SeatView T R) (book : B) (taken : List R) → v.tag ≡ Some tag → v.count ≡ made → v.own ≢ []
      → v.turn ≡ Some taken → tag_of book ≡ tag → IsPrefix taken (list_of book)
      → Allows Rule 1 id (v, (0, Some book) ∷ []) 0 (λ _. 0) (released tag_of list_of (step 1 0 0 0 none) (v, (0, Some book) ∷ []))
  releases id v book taken marked counted some_own turn tagged on s r wide at small = let one = r.one in let h = holds_it s r id v taken at turn in
      let list : List R = list_of book in let w : SeatView T R = after_turn v list in let now_zero : get_or (set s.words 0 0) 0 0 ≡ 0 = get_or-set_same s.words 0 0 0 (omega arith) in (
        w,
        gives,
        tt,
        record {
          one = length-set s.words 0 0 ∙ one;
          free = λ _. (book, set_here s.homes 0 (some (Some book)) (omega arith), tagged, each_set (λ j u. (u.turn ≡ None) × GoesOn u list) s.views id w (refl, (prefix_itself list, prefixes_on v.olds taken list on (h id v at).1.1)) (λ j u ne e. let g = h j u e in (g.0 ne, (prefix_trans u.seen taken list g.1.0 on, prefixes_on u.olds taken list on g.1.1))));
          taken = λ ne. absurd (ne now_zero);
          sits = each_set (λ j u. Sits tag made u) s.views id w ((λ _. (marked, counted)), λ empty. absurd (some_own empty)) (λ j u _ e. r.sits j u e);
          once = λ f. let t = total-set (λ (u : SeatView T R). total f u.own) s.views id v w at in omega (arith, r.once f);
        },
        refl,
      )

  -- a seat with no turn isn't the holder
  not_holder : (s : State (Option B) (SeatView T R)) (o : IsOut tag_of list_of s) (id : ℕ) (v : SeatView T R) → get_elem? s.views id ≡ some v → v.turn ≡ None → o.0 ≢ id
  not_holder s o id v at no_turn is = let same : o.3.0 ≡ v = some-injective o.3.0 v (sym o.3.1 ∙ (ap (get_elem? s.views) is ∙ at)) in
      some_not_none o.3.0.turn o.1 o.3.2 (ap (λ (u : SeatView T R). u.turn) same ∙ no_turn)

  pub splits : (id : ℕ) (v : SeatView T R) → v.tag ≡ Some tag → v.count ≡ made → v.turn ≡ None → Splits Rule id v (without_first v) (with_first v)
  splits id v marked counted no_turn s r at = let a : SeatView T R = without_first v in let b : SeatView T R = with_first v in record {
    one = r.one;
    free = λ z. let h = r.free z in let list : List R = list_of h.0 in let mine = h.3 id v at in (h.0, h.1, h.2, each_fork (λ j u. (u.turn ≡ None) × GoesOn u list) s.views id a b mine (λ _. (refl, (mine.1.0, All-nil (λ (old : List R). IsPrefix old list)))) h.3);
    taken = λ ne. let t = r.taken ne in let o = t.1 in let list : List R = o.1 in let mine = o.4 id v at in let apart = not_holder s o id v at no_turn in (
      t.0,
      (
        o.0,
        list,
        o.2,
        (o.3.0, at_longer (set s.views id a) (b ∷ []) o.0 o.3.0 (set_else s.views id o.0 a apart ∙ o.3.1), o.3.2),
        each_fork (λ j u. (j ≢ o.0 → u.turn ≡ None) × GoesOn u list) s.views id a b mine (λ _. ((λ _. refl), (mine.1.0, All-nil (λ (old : List R). IsPrefix old list)))) o.4,
      ),
    );
    sits = each_fork (λ j u. Sits tag made u) s.views id a b ((λ _. (marked, counted)), λ _. no_turn) (λ _. ((λ _. (marked, counted)), λ _. refl)) r.sits;
    once = λ f. let F : SeatView T R → ℕ = λ u. total f u.own in omega (arith, total-append F (set s.views id a) (b ∷ []), total-set F s.views id v a at, cut_in_two f v.own, r.once f);
  }

  pub joins : (id : ℕ) (v : SeatView T R) (other : ℕ) (w : SeatView T R) → v.own ≢ [] → v.turn ≡ None → w.turn ≡ None → Joins Rule id v other w (both_of v w) spent
  joins id v other w some_own no_turn none_either s r at apart at_set_other = let a : SeatView T R = both_of v w in let b : SeatView T R = spent in
      let at_other : get_elem? s.views other ≡ some w = sym (set_else s.views id other a apart) ∙ at_set_other in
      let on : (list : List R) → GoesOn v list → GoesOn w list → GoesOn a list = λ list p q. (p.0, All-append (λ old. IsPrefix old list) v.olds (w.seen ∷ w.olds) p.1 (All-cons (λ old. IsPrefix old list) w.seen w.olds q.0 q.1)) in
      let nothing : (list : List R) → GoesOn b list = λ list. ((list, refl), All-nil (λ (old : List R). IsPrefix old list)) in record {
        one = r.one;
        free = λ z. let h = r.free z in let list : List R = list_of h.0 in (h.0, h.1, h.2, each_join (λ j u. (u.turn ≡ None) × GoesOn u list) s.views id other a b (no_turn, on list (h.3 id v at).1 (h.3 other w at_other).1) (refl, nothing list) h.3);
        taken = λ ne. let t = r.taken ne in let o = t.1 in let list : List R = o.1 in let one_apart = not_holder s o id v at no_turn in let other_apart = not_holder s o other w at_other none_either in (
          t.0,
          (
            o.0,
            list,
            o.2,
            (o.3.0, set_else (set s.views id a) other o.0 b other_apart ∙ (set_else s.views id o.0 a one_apart ∙ o.3.1), o.3.2),
            each_join (λ j u. (j ≢ o.0 → u.turn ≡ None) × GoesOn u list) s.views id other a b ((λ _. no_turn), on list (o.4 id v at).1 (o.4 other w at_other).1) ((λ _. refl), nothing list) o.4,
          ),
        );
        sits = each_join (λ j u. Sits tag made u) s.views id other a b ((λ _. (r.sits id v at).0 some_own), λ _. no_turn) ((λ ne. absurd (ne refl)), λ _. refl) r.sits;
        once = λ f. let F : SeatView T R → ℕ = λ u. total f u.own in
            omega (arith, total-set F (set s.views id a) other w b at_set_other, total-set F s.views id v a at, total-append f v.own w.own, r.once f);
      }

  -- where one seat has all numbers and no turn, the slot is home
  pub ends : (id : ℕ) (v : SeatView T R) → made ≤ length v.own → v.turn ≡ None → (s : State (Option B) (SeatView T R)) → Seen Rule id v s
      → (book : B) × (get_elem? s.homes 0 ≡ some (some (Some book))) × (tag_of book ≡ tag) × GoesOn v (list_of book)
  ends id v whole no_turn s seen = let r = seen.0 in let at = seen.1 in dite (ℕ_discrete (get_or s.words 0 0) 0)
      (λ z. let h = r.free z in (h.0, h.1, h.2, (h.3 id v at).1))
      (λ ne. let o = (r.taken ne).1 in let u : SeatView T R = o.3.0 in let F : SeatView T R → ℕ = λ x. total (λ _. 1) x.own in
      let some_own = not_empty u.own (λ empty. some_not_none u.turn o.1 o.3.2 ((r.sits o.0 u o.3.1).1 empty)) in
      absurd (omega (arith, total-two F s.views id o.0 v u at o.3.1 (not_holder s o id v at no_turn), total-ones v.own, total-ones u.own, r.once (λ _. 1), total-ones (range_with_len 0 made), length-range_with_len 0 made)))

  -- the same of what a slot is found to hold once the table is closed
  pub found_at_end : (id : ℕ) (v : SeatView T R) → made ≤ length v.own → v.turn ≡ None → (words : List ℕ) (slots : List (Option B)) → Final (Seen Rule id v) words slots → (found : Option B) → get_elem? slots 0 ≡ some found
      → (book : B) × (found ≡ Some book) × (tag_of book ≡ tag) × GoesOn v (list_of book)
  found_at_end id v whole no_turn words slots f found at = let e = ends id v whole no_turn f.0 f.1 in (e.0, some-injective found (Some e.0) (sym at ∙ f.4 0 (Some e.0) e.1), e.2, e.3)

  pub book_at_end : (id : ℕ) (v : SeatView T R) → made ≤ length v.own → v.turn ≡ None → (words : List ℕ) (slots : List (Option B)) → Final (Seen Rule id v) words slots → (found : Option B) → get_elem? slots 0 ≡ some found
      → (book : B) → found ≡ Some book → (tag_of book ≡ tag) × GoesOn v (list_of book)
  book_at_end id v whole no_turn words slots f found at book is = let e = found_at_end id v whole no_turn words slots f found at in
      let same : e.0 ≡ book = let both : Some e.0 ≡ Some book = sym e.1 ∙ is in cc in (subst (λ (b : B). tag_of b ≡ tag) same e.2, subst (λ (b : B). GoesOn v (list_of b)) same e.3)

module _ {B T R : Type 0} (tag_of : B → T) (list_of : B → List R) where
  pub begins : (book : B) (made : ℕ) → 1 ≤ made → Kept tag_of list_of (tag_of book) made (opening (0 ∷ []) (Some book ∷ []) (opened tag_of list_of book made))
  begins book made one = let v : SeatView T R = opened tag_of list_of book made in let list : List R = list_of book in record {
    one = refl;
    free = λ _. (book, refl, refl, each_only (λ j u. (u.turn ≡ None) × GoesOn u list) v (refl, (prefix_itself list, All-nil (λ (old : List R). IsPrefix old list))));
    taken = λ ne. absurd (ne refl);
    sits = each_only (λ j u. Sits (tag_of book) made u) v ((λ _. (refl, refl)), λ _. refl);
    once = λ f. omega arith;
  }
