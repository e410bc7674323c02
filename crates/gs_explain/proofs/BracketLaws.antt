-- Counts of pieces from a place on, and one piece more before them.
use Rattle.std.proofs.Common.{◌≡◌, ◌∙◌, sym, ap, subst, ℕ, ◌+◌, ◌<◌, ◌≤◌, Bool, if◌then◌else◌, List, [], length, drop, get_or, suc, ◌⊎◌, inl, inr, arith}
use Rattle.std.specs.List.{count_by}
use Rattle.std.proofs.Math.Seq.{drop-cons}
use Rattle.std.proofs.lemmas.List.{drop_all}
use Rattle.std.proofs.lemmas.List.Sums.{sum_by-cons}
use Rattle.gs_text.specs.declared.kinds.Piece.{Piece}
use Rattle.gs_explain.specs.Pieces.{IsClosedFrom, closes, opens}

-- the count from a piece on
pub count_back : (p : Piece → Bool) (xs : List Piece) (i : ℕ) (d : Piece) → i < length xs
    → count_by p (drop i xs) ≡ (if p (get_or xs i d) then 1 else 0) + count_by p (drop (i + 1) xs)
count_back p xs i d inside =
    let next : suc i ≡ i + 1 = omega arith in
    ap (count_by p) (drop-cons xs i d inside) ∙ sum_by-cons (λ y. if p y then 1 else 0) (get_or xs i d) (drop (suc i) xs)
    ∙ ap (λ k. (if p (get_or xs i d) then 1 else 0) + count_by p (drop k xs)) next

-- past the last piece nothing is open
pub closed_past : (bytes : List ℕ) (ps : List Piece) (j : ℕ) → length ps ≤ j → IsClosedFrom bytes ps j
closed_past bytes ps j past =
    let none : drop j ps ≡ [] = drop_all j ps past in
    subst (λ xs. count_by (opens bytes) xs ≤ count_by (closes bytes) xs) (sym none) (omega arith)

at_or_past : (i j : ℕ) → i ≤ j → (i ≡ j) ⊎ (i + 1 ≤ j)
at_or_past i j h = grind arith

-- one piece more doesn't open
pub closed_back : (bytes : List ℕ) (ps : List Piece) (i : ℕ) → IsClosedFrom bytes ps i → ((j : ℕ) → i + 1 ≤ j → IsClosedFrom bytes ps j)
    → (j : ℕ) → i ≤ j → IsClosedFrom bytes ps j
closed_back bytes ps i here past j h = elim (at_or_past i j h) [ inl e ↦ subst (IsClosedFrom bytes ps) e here | inr k ↦ past j k ]

-- a tally goes on by a piece
pub counted : (p : Piece → Bool) (xs : List Piece) (i next : ℕ) (d : Piece) (n m : ℕ) (b : Bool) → next ≡ i + 1 → i < length xs → b ≡ p (get_or xs i d)
    → n ≡ (if b then 1 else 0) + m → m ≡ count_by p (drop next xs) → n ≡ count_by p (drop i xs)
counted p xs i next d n m b e inside is more so_far =
    more ∙ ap (λ a. (if a then 1 else 0) + m) is
    ∙ ap (λ k. (if p (get_or xs i d) then 1 else 0) + k) (so_far ∙ ap (λ k. count_by p (drop k xs)) e) ∙ sym (count_back p xs i d inside)
