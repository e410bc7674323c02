-- The places of refusals exclude each other, and whole texts: a list has at most one of them.

use Rattle.std.proofs.Common.{◌≡◌, ℕ, ◌+◌, ◌<◌, ◌≤◌, List, ◌++◌, take, drop, refl, sym, subst, Bool, true, false, nat_lt, arith, append_assoc, append-nil}
use Rattle.std.proofs.lemmas.Bool.Decides.{nat_tests}
use Rattle.std.proofs.lemmas.List.{take-append-drop, take-take}
use Rattle.gs_grammar.specs.Fronts.{IsFrontOf, IsFirstBad, IsFirstBroken}

-- a front of a front is a front
pub shorter : {T : Type 0} (P : List T → Type 0) (xs ys : List T) → IsFrontOf P (xs ++ ys) → IsFrontOf P xs
shorter P xs ys f = (ys ++ f.0, subst P (append_assoc xs ys f.0) f.1)

pub shorter_take : {T : Type 0} (P : List T → Type 0) (ts : List T) (m n : ℕ) → m ≤ n → IsFrontOf P (take n ts) → IsFrontOf P (take m ts)
shorter_take P ts m n le f =
    let split = take-append-drop m (take n ts) in
    subst (IsFrontOf P) (take-take m n ts le) (shorter P (take m (take n ts)) (drop m (take n ts)) (subst (IsFrontOf P) (sym split) f))

pub front_take : {T : Type 0} (P : List T → Type 0) (ts : List T) (m : ℕ) → IsFrontOf P ts → IsFrontOf P (take m ts)
front_take P ts m f = shorter P (take m ts) (drop m ts) (subst (IsFrontOf P) (sym (take-append-drop m ts)) f)

-- a whole list is a front
pub whole_front : {T : Type 0} (P : List T → Type 0) (ts : List T) → P ts → IsFrontOf P ts
whole_front P ts p = (_, subst P (sym (append-nil ts)) p)

-- one of two places is before the other, or they are the same
data Order (i j : ℕ) : Type 0 where
  less : i < j → Order i j
  same : i ≡ j → Order i j
  more : j < i → Order i j

order : (i j : ℕ) → Order i j
order i j = order_by i j (nat_lt i j) (nat_lt j i) refl refl
  where
    order_by : (i j : ℕ) (a b : Bool) → nat_lt i j ≡ a → nat_lt j i ≡ b → Order i j
    order_by i j true b e f = less (grind (arith, nat_tests, e))
    order_by i j false true e f = more (grind (arith, nat_tests, f))
    order_by i j false false e f = same (grind (arith, nat_tests, e, f))

module _ {T : Type 0} (Form Whole : List T → Type 0) (forms : (us : List T) → Whole us → Form us) where
  -- a front of a text is a front of the form
  pub front_form : (ts : List T) → IsFrontOf Whole ts → IsFrontOf Form ts
  front_form ts f = (f.0, forms (ts ++ f.0) f.1)

  pub bad_whole : (ts : List T) (i : ℕ) → IsFirstBad Form Whole ts i → IsFrontOf Whole ts → ⊥
  bad_whole ts i b w = b.here (front_form (take (i + 1) ts) (front_take Whole ts (i + 1) w))

  pub broken_whole : (ts : List T) (i : ℕ) → IsFirstBroken Form Whole ts i → IsFrontOf Whole ts → ⊥
  broken_whole ts i b w = b.here (front_take Whole ts (i + 1) w)

  bad_later : (ts : List T) (i j : ℕ) → i < j → IsFirstBad Form Whole ts i → IsFrontOf Whole (take j ts) → ⊥
  bad_later ts i j lt b w = b.here (front_form (take (i + 1) ts) (shorter_take Whole ts (i + 1) j (omega arith) w))

  broken_later : (ts : List T) (i j : ℕ) → i < j → IsFirstBroken Form Whole ts i → IsFrontOf Whole (take j ts) → ⊥
  broken_later ts i j lt b w = b.here (shorter_take Whole ts (i + 1) j (omega arith) w)

  pub bad_bad : (ts : List T) (i j : ℕ) → IsFirstBad Form Whole ts i → IsFirstBad Form Whole ts j → i ≡ j
  bad_bad ts i j a b = elim (order i j) [
    | less lt ↦ absurd (bad_later ts i j lt a b.before)
    | same e ↦ e
    | more lt ↦ absurd (bad_later ts j i lt b a.before)
  ]

  pub broken_broken : (ts : List T) (i j : ℕ) → IsFirstBroken Form Whole ts i → IsFirstBroken Form Whole ts j → i ≡ j
  broken_broken ts i j a b = elim (order i j) [
    | less lt ↦ absurd (broken_later ts i j lt a b.before)
    | same e ↦ e
    | more lt ↦ absurd (broken_later ts j i lt b a.before)
  ]

  pub bad_broken : (ts : List T) (i j : ℕ) → IsFirstBad Form Whole ts i → IsFirstBroken Form Whole ts j → ⊥
  bad_broken ts i j a b = elim (order i j) [
    | less lt ↦ bad_later ts i j lt a b.before
    | same e ↦ a.here (subst (λ k. IsFrontOf Form (take (k + 1) ts)) (sym e) b.form)
    | more lt ↦ broken_later ts j i lt b a.before
  ]
