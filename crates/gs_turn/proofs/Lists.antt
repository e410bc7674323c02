-- Lists of views: a sum after a change, what holds of each element after a change, and prefixes.
use Rattle.std.proofs.Common.{◌≡◌, ◌≢◌, ℕ, zero, suc, ◌+◌, ◌<◌, ◌≤◌, List, [], ◌∷◌, ◌++◌, All, length, set, sym, refl, ap, ◌∙◌, subst, ⊎_elim, arith}
use mathlib.Core.Option.{some, some-injective, some-ne-none}
use mathlib.Core.List.{IsPrefix, append-nil, append_assoc}
use lib.ListN.{get_elem?}
use Rattle.atomic_table.proofs.Lists.{at_set, at_snoc}
use Rattle.std.proofs.lemmas.List.Elements.{All-weaker}
use Rattle.gs_turn.specs.Rule.{total}

module _ {A : Type 0} (weight : A → ℕ) where
  pub total-set : (l : List A) (i : ℕ) (v w : A) → get_elem? l i ≡ some v → total weight (set l i w) + weight v ≡ total weight l + weight w
  total-set [] i v w e = absurd (some-ne-none v (sym e))
  total-set (x ∷ xs) zero v w e = let is : weight x ≡ weight v = ap weight (some-injective x v e) in omega arith
  total-set (x ∷ xs) (suc i) v w e = let r = total-set xs i v w e in omega arith

  pub total-append : (l m : List A) → total weight (l ++ m) ≡ total weight l + total weight m
  total-append [] m = omega arith
  total-append (x ∷ xs) m = let r = total-append xs m in omega arith

  pub total-at : (l : List A) (i : ℕ) (v : A) → get_elem? l i ≡ some v → weight v ≤ total weight l
  total-at [] i v e = absurd (some-ne-none v (sym e))
  total-at (x ∷ xs) zero v e = let is : weight x ≡ weight v = ap weight (some-injective x v e) in omega arith
  total-at (x ∷ xs) (suc i) v e = let r = total-at xs i v e in omega arith

  pub total-two : (l : List A) (i j : ℕ) (v w : A) → get_elem? l i ≡ some v → get_elem? l j ≡ some w → j ≢ i → weight v + weight w ≤ total weight l
  total-two [] i j v w e f ne = absurd (some-ne-none v (sym e))
  total-two (x ∷ xs) zero zero v w e f ne = absurd (ne refl)
  total-two (x ∷ xs) zero (suc j) v w e f ne = let is : weight x ≡ weight v = ap weight (some-injective x v e) in let r = total-at xs j w f in omega arith
  total-two (x ∷ xs) (suc i) zero v w e f ne = let is : weight x ≡ weight w = ap weight (some-injective x w f) in let r = total-at xs i v e in omega arith
  total-two (x ∷ xs) (suc i) (suc j) v w e f ne = let r = total-two xs i j v w e f (λ h. ne (ap suc h)) in omega arith

pub total-ones : (l : List ℕ) → total (λ _. 1) l ≡ length l
total-ones [] = refl
total-ones (x ∷ xs) = let r = total-ones xs in omega arith

module _ {A : Type 0} (P : ℕ → A → Type 0) where
  pub each_set : (l : List A) (i : ℕ) (w : A) → P i w → ((j : ℕ) (v : A) → j ≢ i → get_elem? l j ≡ some v → P j v) → (j : ℕ) (v : A) → get_elem? (set l i w) j ≡ some v → P j v
  each_set l i w here there j v e = ⊎_elim (λ t. subst (λ (z : ℕ × A). P z.0 z.1) (λ k. (sym t.0 k, t.1 k)) here) (λ t. there j v t.0 t.1) (at_set l i j w v e)

  pub each_new : (l : List A) (w : A) → ((j : ℕ) → P j w) → ((j : ℕ) (v : A) → get_elem? l j ≡ some v → P j v) → (j : ℕ) (v : A) → get_elem? (l ++ w ∷ []) j ≡ some v → P j v
  each_new l w here there j v e = ⊎_elim (λ t. there j v t) (λ t. subst (P j) t (here j)) (at_snoc l w v j e)

  pub each_fork : (l : List A) (i : ℕ) (a b : A) → P i a → ((j : ℕ) → P j b) → ((j : ℕ) (v : A) → get_elem? l j ≡ some v → P j v) → (j : ℕ) (v : A) → get_elem? (set l i a ++ b ∷ []) j ≡ some v → P j v
  each_fork l i a b here new there = each_new (set l i a) b new (each_set l i a here (λ j v _ e. there j v e))

  pub each_join : (l : List A) (i k : ℕ) (a b : A) → P i a → P k b → ((j : ℕ) (v : A) → get_elem? l j ≡ some v → P j v) → (j : ℕ) (v : A) → get_elem? (set (set l i a) k b) j ≡ some v → P j v
  each_join l i k a b here other there = each_set (set l i a) k b other (λ j v _ e. each_set l i a here (λ j' v' _ e'. there j' v' e') j v e)

  pub each_only : (a : A) → P 0 a → (j : ℕ) (v : A) → get_elem? (a ∷ []) j ≡ some v → P j v
  each_only a here zero v e = subst (P 0) (some-injective a v e) here
  each_only a here (suc j) v e = absurd (some-ne-none v (sym e))

pub in_range : {A : Type 0} (l : List A) (i : ℕ) (v : A) → get_elem? l i ≡ some v → i < length l
in_range [] i v e = absurd (some-ne-none v (sym e))
in_range (x ∷ xs) zero v e = omega arith
in_range (x ∷ xs) (suc i) v e = let r = in_range xs i v e in omega arith

pub not_empty : {A : Type 0} (l : List A) → l ≢ [] → 1 ≤ length l
not_empty [] ne = absurd (ne refl)
not_empty (x ∷ xs) ne = omega arith

module _ {R : Type 0} where
  pub prefix_itself : (l : List R) → IsPrefix l l
  prefix_itself l = ([], append-nil l)

  pub prefix_trans : (a b c : List R) → IsPrefix a b → IsPrefix b c → IsPrefix a c
  prefix_trans a b c h k = (h.0 ++ k.0, sym (append_assoc a h.0 k.0) ∙ (ap (λ (z : List R). z ++ k.0) h.1 ∙ k.1))

  pub prefixes_on : (olds : List (List R)) (a b : List R) → IsPrefix a b → All (λ old. IsPrefix old a) olds → All (λ old. IsPrefix old b) olds
  prefixes_on olds a b h all = All-weaker (λ old. IsPrefix old a) (λ old. IsPrefix old b) (λ old k. prefix_trans old a b k h) olds all

pub length_both : {A : Type 0} (xs ys : List A) → length (xs ++ ys) ≡ length xs + length ys
length_both [] ys = omega arith
length_both (x ∷ xs) ys = let r = length_both xs ys in omega arith
