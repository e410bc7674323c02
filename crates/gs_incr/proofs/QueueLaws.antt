-- A heap that has the least rank first.

use Rattle.std.proofs.Common.{◌≡◌, ℕ, ◌<◌, ◌==◌, Bool, true, false, ◌||◌, List, [], ◌∷◌, length, get_or, refl, sym, ◌∙◌, ap, arith}
use Rattle.std.specs.BinaryHeap.{IsUpperBound}
use Rattle.std.specs.List.{list_any}
use Rattle.std.specs.List.Sorted.{IsPermutation}
use Rattle.std.specs.Ordering.{nat_cmp}
use Rattle.std.specs.declared.cmp.Reverse.{Reverse}
use Rattle.std.proofs.lemmas.Bool.{ne_eqb, or_from}
use Rattle.std.proofs.lemmas.Bool.Decides.{Decides-eqb}
use Rattle.std.proofs.lemmas.List.Folds.{list_any_at}
use Rattle.std.proofs.lemmas.List.Sorted.{list_any-IsPermutation}
use Rattle.std.proofs.lemmas.Map.Keys.{ge_from_not_lt}
use Rattle.gs_incr.specs.Queue.{IsFirstRank, has, ranks_of}
use Rattle.gs_incr.proofs.Lists.{any_map}

abbrev pub is_rank : ℕ → Reverse ℕ → Bool
is_rank q k = k.0 == q

has_items : (items : List (Reverse ℕ)) (q : ℕ) → has (ranks_of items) q ≡ list_any (is_rank q) items
has_items items q = any_map (λ k. k == q) (λ (k : Reverse ℕ). k.0) items

-- below a rank that no other is below
pub none_below : (x : Reverse ℕ) (items : List (Reverse ℕ)) → IsUpperBound (λ (a b : Reverse ℕ). nat_cmp b.0 a.0) x items → (q : ℕ) → q < x.0 → has (ranks_of items) q ≡ false
none_below x [] bound q lt = refl
none_below x (y ∷ items) bound q lt =
    let le = ge_from_not_lt y.0 x.0 bound.0 in
    or_from (y.0 == q) (has (ranks_of items) q) (ne_eqb y.0 q (λ e. omega (arith, e, le, lt))) (none_below x items bound.1 q lt)

-- the first item
pub has_first : (x : Reverse ℕ) (items : List (Reverse ℕ)) → 0 < length items → x ≡ get_or items 0 x → has (ranks_of items) x.0 ≡ true
has_first x items some is =
    has_items items x.0 ∙ list_any_at (is_rank x.0) items 0 x some (ap (is_rank x.0) (sym is) ∙ (Decides-eqb x.0 x.0).1 refl)

pub first_rank : (x : Reverse ℕ) (items : List (Reverse ℕ)) → 0 < length items → x ≡ get_or items 0 x → IsFirstRank items x.0
first_rank x [] some is = absurd (omega (arith, some))
first_rank x (y ∷ items) some is = record { some = some; first = λ k e. ap (λ (z : Reverse ℕ). z.0) (e ∙ sym is) }

-- an item of a smaller rank is taken out
pub has_popped : (x : Reverse ℕ) (old new : List (Reverse ℕ)) → IsPermutation old (x ∷ new) → (q : ℕ) → x.0 < q → has (ranks_of new) q ≡ has (ranks_of old) q
has_popped x old new moved q lt =
    has_items new q
    ∙ ap (λ b. b || list_any (is_rank q) new) (sym (ne_eqb x.0 q (λ e. omega (arith, e, lt))))
    ∙ sym (list_any-IsPermutation (is_rank q) old (x ∷ new) moved)
    ∙ sym (has_items old q)

or_swap : (a b : Bool) → (a || b) ≡ (b || a)
or_swap true true = refl
or_swap true false = refl
or_swap false true = refl
or_swap false false = refl

-- one is put in
pub has_pushed : (x : Reverse ℕ) (old new : List (Reverse ℕ)) → IsPermutation (x ∷ old) new → (q : ℕ) → has (ranks_of new) q ≡ (has (ranks_of old) q || (x.0 == q))
has_pushed x old new moved q =
    has_items new q
    ∙ sym (list_any-IsPermutation (is_rank q) (x ∷ old) new moved)
    ∙ or_swap (x.0 == q) (list_any (is_rank q) old)
    ∙ ap (λ b. b || (x.0 == q)) (sym (has_items old q))
