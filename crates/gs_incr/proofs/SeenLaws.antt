-- Laid over the timing before a move, what is seen of it is the timing after it.

use Rattle.std.proofs.Common.{◌≡◌, ℕ, ◌<◌, ◌==◌, Bool, true, false, ◌&&◌, ◌||◌, List, [], ◌∷◌, filter, map, length, get_or, slice_index, slice_set, cond, refl, sym, ◌∙◌, ap, subst, arith, ◌⊎◌, inl, inr}
use Rattle.std.specs.List.{list_any}
use Rattle.std.proofs.lemmas.Bool.{and_from, and_parts, cases_Bool, cases_eq, false_from_ne_true, ne_eqb}
use Rattle.std.proofs.lemmas.Bool.Decides.{Decides-eqb}
use Rattle.std.proofs.lemmas.List.{ext_get_or, get_or-set_other, get_or-set_same, length-set}
use Rattle.std.proofs.lemmas.List.Folds.{list_any_at}
use Rattle.gs_design.specs.Times.{no_time, time_at}
use Rattle.gs_design.specs.declared.design.Design.{Design}
use Rattle.gs_design.specs.declared.time.NetAt.{NetAt}
use Rattle.gs_design.specs.declared.time.NetTime.{NetTime}
use Rattle.gs_incr.specs.Seen.{has_seen, laid_over, net_with, seen_between}
use Rattle.gs_move.specs.Cone.{in_cone_of}
use Rattle.gs_move.specs.declared.moves.Move.{Move}
use Rattle.gs_incr.proofs.ConeLaws.{IsMoved, calm}
use Rattle.gs_incr.proofs.Lists.{any_elim, any_filter, any_map}

-- ---- the records of some nets, laid over a timing

length_laid : (u : List NetTime) (ns : List ℕ) (t : List NetTime) → length (laid_over t (map (net_with u) ns)) ≡ length t
length_laid u [] t = refl
length_laid u (k ∷ ns) t = length_laid u ns (slice_set t k (time_at u k)) ∙ length-set t k (time_at u k)

one_at : (u t : List NetTime) (k n : ℕ) → n < length t → (k ≡ n) ⊎ (k ≡ n → ⊥) → time_at (slice_set t k (time_at u k)) n ≡ cond (k == n) (time_at u n) (time_at t n)
one_at u t k n lt (inl e) =
    subst (λ j. time_at (slice_set t j (time_at u j)) n ≡ cond (j == n) (time_at u n) (time_at t n)) (sym e)
    (get_or-set_same t n (time_at u n) no_time lt ∙ ap (λ b. cond b (time_at u n) (time_at t n)) (sym ((Decides-eqb n n).1 refl)))
one_at u t k n lt (inr apart) =
    get_or-set_other t k n (time_at u k) no_time (λ e. apart (sym e)) ∙ ap (λ b. cond b (time_at u n) (time_at t n)) (sym (ne_eqb k n apart))

laid_at : (u : List NetTime) (ns : List ℕ) (t : List NetTime) (n : ℕ) → n < length t → time_at (laid_over t (map (net_with u) ns)) n ≡ cond (list_any (λ k. k == n) ns) (time_at u n) (time_at t n)
laid_at u [] t n lt = refl
laid_at u (k ∷ ns) t n lt =
    laid_at u ns (slice_set t k (time_at u k)) n (omega (arith, lt, length-set t k (time_at u k)))
    ∙ ap (λ r. cond (list_any (λ j. j == n) ns) (time_at u n) r) (one_at u t k n lt (cases_eq k n))
    ∙ join (k == n) (list_any (λ j. j == n) ns)
  where
    join : (a b : Bool) → cond b (time_at u n) (cond a (time_at u n) (time_at t n)) ≡ cond (a || b) (time_at u n) (time_at t n)
    join true true = refl
    join true false = refl
    join false true = refl
    join false false = refl

-- ---- which nets are among those of the order that pass a test

module _ (d : Design) (p : ℕ → Bool) (n : ℕ) (lt : n < length d.nets) where
  among_yes : p n ≡ true → list_any (λ k. k == n) (filter p d.order) ≡ true
  among_yes passes =
      let back : slice_index d.order (slice_index d.ranks n) ≡ n = d.well.order_kept.net_of_rank n lt in
      any_filter (λ k. k == n) p d.order
      ∙ list_any_at (λ k. p k && (k == n)) d.order (slice_index d.ranks n) 0 (omega (arith, d.well.order_kept.rank_in n lt, d.well.order_kept.ordered))
      (ap (λ k. p k && (k == n)) back ∙ and_from (p n) (n == n) passes ((Decides-eqb n n).1 refl))

  among_no : p n ≡ false → list_any (λ k. k == n) (filter p d.order) ≡ false
  among_no fails =
      false_from_ne_true (list_any (λ k. k == n) (filter p d.order))
      (λ any.
      any_elim (λ k. p k && (k == n)) ⊥ d.order
      (λ i e it both.
      let parts = and_parts (p (get_or d.order i e)) (get_or d.order i e == n) both in
      let same : get_or d.order i e ≡ n = (Decides-eqb (get_or d.order i e) n).0 parts.1 in
      absurd (let yes : p n ≡ true = ap p (sym same) ∙ parts.0 in cc))
      (sym (any_filter (λ k. k == n) p d.order) ∙ any))

  pub among : list_any (λ k. k == n) (filter p d.order) ≡ p n
  among = elim (cases_Bool (p n)) [ inl passes ↦ among_yes passes ∙ sym passes | inr fails ↦ among_no fails ∙ sym fails ]

-- ---- what is seen of a move

pub seen_exact : (d : Design) (m : Move) (t u : List NetTime) (n : ℕ) → n < length d.nets → has_seen (seen_between d m t u) n ≡ in_cone_of d m t u n
seen_exact d m t u n lt =
    any_map (λ (a : NetAt). a.net == n) (net_with u) (filter (in_cone_of d m t u) d.order) ∙ among d (in_cone_of d m t u) n lt

module _ (d : Design) (s : List ℕ) (m : Move) (t u : List NetTime) (h : IsMoved d s m t u) where
  either : (n : ℕ) → n < length d.nets → (b : Bool) → in_cone_of d m t u n ≡ b → cond b (time_at u n) (time_at t n) ≡ time_at u n
  either n lt true is = refl
  either n lt false is = calm d s m t u h n lt is

  pub laid_whole : laid_over t (seen_between d m t u) ≡ u
  laid_whole =
      let cone : List ℕ = filter (in_cone_of d m t u) d.order in
      let as_many : length (laid_over t (seen_between d m t u)) ≡ length d.nets = length_laid u (filter (in_cone_of d m t u) d.order) t ∙ h.before.as_many in
      ext_get_or no_time (laid_over t (seen_between d m t u)) u (as_many ∙ sym h.later.as_many)
      (λ n nt.
      let lt : n < length d.nets = omega (arith, nt, as_many) in
      laid_at u (filter (in_cone_of d m t u) d.order) t n (omega (arith, lt, h.before.as_many))
      ∙ ap (λ b. cond b (time_at u n) (time_at t n)) (among d (in_cone_of d m t u) n lt)
      ∙ either n lt (in_cone_of d m t u n) refl)
