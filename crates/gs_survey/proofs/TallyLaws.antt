-- Counts of numbers, as a further number is counted.

use Rattle.std.proofs.Common.{◌≡◌, ◌≢◌, ℕ, ◌+◌, ◌<◌, cond, eqb, min, List, [], ◌∷◌, ◌++◌, length, get_or, set, take, sym, ap, ◌∙◌, inl, inr, arith}
use Rattle.std.proofs.lemmas.Bool.{cases_eq, eq-eqb, ne_eqb}
use Rattle.std.proofs.lemmas.List.{get_or-set_other, get_or-set_same, take_more}
use Rattle.gs_list.specs.Keys.{count_of}

count_push : (xs : List ℕ) (x n : ℕ) → count_of (xs ++ x ∷ []) n ≡ count_of xs n + cond (eqb x n) 1 0
count_push [] x n = omega arith
count_push (y ∷ xs) x n = omega (arith, count_push xs x n)

pub tally_more : (counts numbers : List ℕ) (i : ℕ) → i < length numbers → get_or numbers i 0 < length counts
    → ((n : ℕ) → get_or counts n 0 ≡ min 255 (count_of (take i numbers) n))
    → (n : ℕ) → get_or (set counts (get_or numbers i 0) (min 255 (get_or counts (get_or numbers i 0) 0 + 1))) n 0 ≡ min 255 (count_of (take (i + 1) numbers) n)
tally_more counts numbers i lt inside each n = elim (cases_eq (get_or numbers i 0) n) [ inl e ↦ here e | inr ne ↦ there ne ]
  where
    counted : count_of (take (i + 1) numbers) n ≡ count_of (take i numbers) n + cond (eqb (get_or numbers i 0) n) 1 0
    counted = ap (λ xs. count_of xs n) (take_more numbers i 0 lt) ∙ count_push (take i numbers) (get_or numbers i 0) n

    here : get_or numbers i 0 ≡ n → get_or (set counts (get_or numbers i 0) (min 255 (get_or counts (get_or numbers i 0) 0 + 1))) n 0 ≡ min 255 (count_of (take (i + 1) numbers) n)
    here e =
        let more : count_of (take (i + 1) numbers) n ≡ count_of (take i numbers) n + 1 = counted ∙ ap (λ b. count_of (take i numbers) n + cond b 1 0) (eq-eqb (get_or numbers i 0) n e) in
        let n_in : n < length counts = omega (arith, inside, e) in
        let old : get_or counts n 0 ≡ min 255 (count_of (take i numbers) n) = each n in
        rw (e, get_or-set_same counts n (min 255 (get_or counts n 0 + 1)) 0 n_in, more, old) (omega arith)

    there : (get_or numbers i 0 ≡ n → ⊥) → get_or (set counts (get_or numbers i 0) (min 255 (get_or counts (get_or numbers i 0) 0 + 1))) n 0 ≡ min 255 (count_of (take (i + 1) numbers) n)
    there ne =
        let same : count_of (take (i + 1) numbers) n ≡ count_of (take i numbers) n = counted ∙ ap (λ b. count_of (take i numbers) n + cond b 1 0) (ne_eqb (get_or numbers i 0) n ne) ∙ omega arith in
        let apart : n ≢ get_or numbers i 0 = λ h. ne (sym h) in
        get_or-set_other counts (get_or numbers i 0) n _ 0 apart ∙ each n ∙ ap (min 255) (sym same)
