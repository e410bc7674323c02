-- Looking for the last element that gives something, one by one.

use Rattle.std.proofs.Common.{◌≡◌, ℕ, ◌+◌, ◌<◌, option_copied, List, [], ◌∷◌, ◌++◌, length, get_or, drop, take, Bool, true, false, cond, if◌then◌else◌, refl, sym, ap, ◌∙◌, Option, None, Some, add-one, drop-cons}
use Rattle.std.specs.Option.{option_or}
use Rattle.std.specs.Cmp.Lexicographic.{slice_cmp}
use Rattle.std.specs.Ordering.{is_eq, nat_cmp}
use Rattle.std.specs.Str.{bytes_eq}
use Rattle.std.proofs.lemmas.Cmp.{nat_list_eq_equiv}
use Rattle.std.proofs.lemmas.List.{take_more}
use Rattle.std.proofs.lemmas.Map.Text.{is_eq-slice_cmp}
use denote.Ref.{Bor}
use Rattle.gs_libcell.specs.Attribute.{last_some}

or_assoc : {X : Type 0} (a b c : Option X) → option_or (option_or a b) c ≡ option_or a (option_or b c)
or_assoc None b c = refl
or_assoc (Some x) b c = refl

-- what the elements from place i on give, or else what was found before
abbrev pub rest_says : {T X : Type 0} → (T → Option X) → List T → ℕ → Option X → Option X
rest_says f items i found = option_or (last_some f (drop i items)) found

pub found_on : {T X : Type 0} (f : T → Option X) (items : List T) (i : ℕ) (d : T) (found next : Option X) → i < length items
    → next ≡ option_or (f (get_or items i d)) found
    → rest_says f items i found ≡ last_some f items → rest_says f items (i + 1) next ≡ last_some f items
found_on f items i d found next lt e h =
    let k : drop i items ≡ get_or items i d ∷ drop (i + 1) items = rw add-one (drop-cons items i d lt) in
    ap (option_or (last_some f (drop (i + 1) items))) e
    ∙ sym (or_assoc (last_some f (drop (i + 1) items)) (f (get_or items i d)) found)
    ∙ sym (ap (λ is. option_or (last_some f is) found) k)
    ∙ h

-- what is found, behind its reference
pub copied_or : {X : Type 0} (a b : Option (Bor X)) (x y : Option X) → option_copied a ≡ x → option_copied b ≡ y → option_copied (option_or a b) ≡ option_or x y
copied_or None b x y e f = f ∙ ap (λ o. option_or o y) e
copied_or (Some r) b x y e f = ap (λ o. option_or o y) e

or_none : {X : Type 0} (o : Option X) → o ≡ option_or o None
or_none None = refl
or_none (Some x) = refl

last_push : {T X : Type 0} (f : T → Option X) (xs : List T) (x : T) → last_some f (xs ++ x ∷ []) ≡ option_or (f x) (last_some f xs)
last_push f [] x = or_none (f x)
last_push f (y ∷ ys) x = ap (λ o. option_or o (f y)) (last_push f ys x) ∙ or_assoc (f x) (last_some f ys) (f y)

-- the last of one element more
pub last_more : {T X : Type 0} (f : T → Option X) (xs : List T) (i : ℕ) (d : T) → i < length xs
    → last_some f (take (i + 1) xs) ≡ option_or (f (get_or xs i d)) (last_some f (take i xs))
last_more f xs i d lt = ap (last_some f) (take_more xs i d lt) ∙ last_push f (take i xs) (get_or xs i d)

labelled_by : {X : Type 0} (b : Bool) (t : X) (o : Option X) → cond b (Some t) o ≡ option_or (if b then Some t else None) o
labelled_by true t o = refl
labelled_by false t o = refl

-- an entry put under a label
pub labelled : {X : Type 0} (name label : List ℕ) (t : X) (o : Option X)
    → cond (is_eq (slice_cmp nat_cmp label name)) (Some t) o ≡ option_or (if bytes_eq name label then Some t else None) o
labelled name label t o =
    ap (λ b. cond b (Some t) o) (is_eq-slice_cmp label name ∙ nat_list_eq_equiv.symm label name)
    ∙ labelled_by (bytes_eq name label) t o
