-- The lines and words of a text, from the front on.

use Rattle.std.proofs.Common.{◌≡◌, ◌≢◌, ℕ, suc, ◌+◌, ◌<◌, ◌==◌, Bool, true, false, cond, not, List, [], ◌∷◌, ◌++◌, drop, filter, length, map, take, if◌then◌else◌, refl, sym, ◌∙◌, ap, arith}
use Rattle.std.specs.List.{flat_map, prefix_len, range_with_len}
use Rattle.std.proofs.lemmas.List.{drop-drop, flat_map_more, length-drop}
use Rattle.std.proofs.lemmas.List.FromFn.{map-range_with_len_more}
use Rattle.gs_sizes.specs.Lines.{is_blank, is_empty, lines, parts, rows_from, runs, with_first}

abbrev pub to_newline : List ℕ → ℕ
to_newline l = prefix_len (λ c. not (c == 10)) l

abbrev pub to_blank : List ℕ → ℕ
to_blank l = prefix_len (λ c. not (is_blank c)) l

abbrev pub has_word : List ℕ → Bool
has_word w = not (is_empty w)

-- a list that isn't empty begins with its first line
first_line : (l : List ℕ) → 0 < length l → lines l ≡ take (to_newline l) l ∷ lines (drop (to_newline l + 1) l)
first_line [] lt = absurd (omega arith)
first_line (c ∷ cs) lt = by_test (c == 10) (later cs (first_line cs))
  where
    later : (ds : List ℕ) → (0 < length ds → lines ds ≡ take (to_newline ds) ds ∷ lines (drop (to_newline ds + 1) ds))
        → with_first c (lines ds) ≡ (c ∷ take (to_newline ds) ds) ∷ lines (drop (to_newline ds + 1) ds)
    later [] ih = refl
    later (d ∷ ds) ih = ap (with_first c) (ih (omega arith))

    by_test : (b : Bool) → with_first c (lines cs) ≡ (c ∷ take (to_newline cs) cs) ∷ lines (drop (to_newline cs + 1) cs)
        → (if b then [] ∷ lines cs else with_first c (lines cs)) ≡ take (cond (not b) (1 + to_newline cs) 0) (c ∷ cs) ∷ lines (drop (cond (not b) (1 + to_newline cs) 0 + 1) (c ∷ cs))
    by_test true h = refl
    by_test false h =
        let one : 1 + to_newline cs ≡ suc (to_newline cs) = omega arith in
        let two : suc (to_newline cs) + 1 ≡ suc (to_newline cs + 1) = omega arith in
        rw (one, two) h

pub next_line : (bytes : List ℕ) (at : ℕ) → at < length bytes
    → lines (drop at bytes) ≡ take (to_newline (drop at bytes)) (drop at bytes) ∷ lines (drop (at + (to_newline (drop at bytes) + 1)) bytes)
next_line bytes at lt =
    first_line (drop at bytes) (omega (arith, length-drop at bytes))
    ∙ ap (λ rest. take (to_newline (drop at bytes)) (drop at bytes) ∷ lines rest) (drop-drop (to_newline (drop at bytes) + 1) at bytes)

-- the same, where the line is at hand
pub next_is : (bytes line : List ℕ) (at : ℕ) → at < length bytes → line ≡ take (to_newline (drop at bytes)) (drop at bytes) → length line ≡ to_newline (drop at bytes)
    → lines (drop at bytes) ≡ line ∷ lines (drop (at + (length line + 1)) bytes)
next_is bytes line at lt is many =
    next_line bytes at lt
    ∙ ap (λ l. l ∷ lines (drop (at + (to_newline (drop at bytes) + 1)) bytes)) (sym is)
    ∙ ap (λ n. line ∷ lines (drop (at + (n + 1)) bytes)) (sym many)

-- bytes that hold no word
pub no_word : (l : List ℕ) → to_blank (drop (prefix_len is_blank l) l) ≡ 0 → runs l ≡ []
no_word [] h = refl
no_word (c ∷ cs) h = by_test (is_blank c) h (no_word cs) refl
  where
    by_test : (b : Bool) → prefix_len (λ x. not (is_blank x)) (drop (cond b (1 + prefix_len is_blank cs) 0) (c ∷ cs)) ≡ 0 → (to_blank (drop (prefix_len is_blank cs) cs) ≡ 0 → runs cs ≡ [])
        → is_blank c ≡ b → filter has_word (if b then [] ∷ parts cs else with_first c (parts cs)) ≡ []
    by_test true h later e =
        let one : 1 + prefix_len is_blank cs ≡ suc (prefix_len is_blank cs) = omega arith in
        later (rw one at h)
    by_test false h later e =
        let some : cond (not (is_blank c)) (1 + to_blank cs) 0 ≡ 0 = h in
        let more : 1 + to_blank cs ≡ 0 = rw e at some in
        absurd (omega arith)

abbrev rest_parts : List ℕ → List (List ℕ)
rest_parts [] = []
rest_parts (c ∷ cs) = parts cs

first_part : (l : List ℕ) → parts l ≡ take (to_blank l) l ∷ rest_parts (drop (to_blank l) l)
first_part [] = refl
first_part (c ∷ cs) = by_test (is_blank c) (first_part cs)
  where
    by_test : (b : Bool) → parts cs ≡ take (to_blank cs) cs ∷ rest_parts (drop (to_blank cs) cs)
        → (if b then [] ∷ parts cs else with_first c (parts cs)) ≡ take (cond (not b) (1 + to_blank cs) 0) (c ∷ cs) ∷ rest_parts (drop (cond (not b) (1 + to_blank cs) 0) (c ∷ cs))
    by_test true h = refl
    by_test false h =
        let one : 1 + to_blank cs ≡ suc (to_blank cs) = omega arith in
        rw one (ap (with_first c) h)

rest_runs : (l : List ℕ) → filter has_word (rest_parts (drop (to_blank l) l)) ≡ runs (drop (to_blank l) l)
rest_runs [] = refl
rest_runs (c ∷ cs) = by_test (is_blank c) refl (rest_runs cs)
  where
    by_test : (b : Bool) → is_blank c ≡ b → filter has_word (rest_parts (drop (to_blank cs) cs)) ≡ runs (drop (to_blank cs) cs)
        → filter has_word (rest_parts (drop (cond (not b) (1 + to_blank cs) 0) (c ∷ cs))) ≡ runs (drop (cond (not b) (1 + to_blank cs) 0) (c ∷ cs))
    by_test true e h = ap (λ b. filter has_word (if b then [] ∷ parts cs else with_first c (parts cs))) (sym e)
    by_test false e h =
        let one : 1 + to_blank cs ≡ suc (to_blank cs) = omega arith in
        rw one h

word_there : (l : List ℕ) → to_blank l ≢ 0 → is_empty (take (to_blank l) l) ≡ false
word_there [] some = absurd (some refl)
word_there (c ∷ cs) some = by_test (is_blank c) some
  where
    by_test : (b : Bool) → cond (not b) (1 + to_blank cs) 0 ≢ 0 → is_empty (take (cond (not b) (1 + to_blank cs) 0) (c ∷ cs)) ≡ false
    by_test true some = absurd (some refl)
    by_test false some =
        let one : 1 + to_blank cs ≡ suc (to_blank cs) = omega arith in
        rw one refl

first_run : (l : List ℕ) → to_blank l ≢ 0 → runs l ≡ take (to_blank l) l ∷ runs (drop (to_blank l) l)
first_run l some =
    ap (filter has_word) (first_part l)
    ∙ ap (λ b. cond (not b) (take (to_blank l) l ∷ filter has_word (rest_parts (drop (to_blank l) l))) (filter has_word (rest_parts (drop (to_blank l) l)))) (word_there l some)
    ∙ ap (λ ws. take (to_blank l) l ∷ ws) (rest_runs l)

past_blanks : (l : List ℕ) → runs l ≡ runs (drop (prefix_len is_blank l) l)
past_blanks [] = refl
past_blanks (c ∷ cs) = by_test (is_blank c) refl (past_blanks cs)
  where
    by_test : (b : Bool) → is_blank c ≡ b → runs cs ≡ runs (drop (prefix_len is_blank cs) cs) → runs (c ∷ cs) ≡ runs (drop (cond b (1 + prefix_len is_blank cs) 0) (c ∷ cs))
    by_test true e h =
        let one : 1 + prefix_len is_blank cs ≡ suc (prefix_len is_blank cs) = omega arith in
        rw one (ap (λ b. filter has_word (if b then [] ∷ parts cs else with_first c (parts cs))) e ∙ h)
    by_test false e h = refl

-- bytes that hold a word, after their blanks
pub one_word : (l rest : List ℕ) → rest ≡ drop (prefix_len is_blank l) l → to_blank rest ≢ 0 → runs l ≡ take (to_blank rest) rest ∷ runs (drop (to_blank rest) rest)
one_word l rest e some = past_blanks l ∙ ap runs (sym e) ∙ first_run rest some

pub rows_many : (i : ℕ) (ls : List (List ℕ)) → length (rows_from i ls) ≡ length ls
rows_many i [] = refl
rows_many i (l ∷ ls) = ap suc (rows_many (i + 1) ls)

map_same : (xs : List ℕ) → map (λ x. x) xs ≡ xs
map_same [] = refl
map_same (x ∷ xs) = ap (λ ys. x ∷ ys) (map_same xs)

numbers_more : (n : ℕ) → range_with_len 0 (n + 1) ≡ range_with_len 0 n ++ n ∷ []
numbers_more n =
    sym (map_same (range_with_len 0 (n + 1))) ∙ map-range_with_len_more (λ x. x) 0 n n (omega arith) ∙ ap (λ xs. xs ++ n ∷ []) (map_same (range_with_len 0 n))

-- one more line of a text
pub text_more : (f : ℕ → List ℕ) (n : ℕ) → flat_map f (range_with_len 0 (n + 1)) ≡ flat_map f (range_with_len 0 n) ++ f n
text_more f n = ap (flat_map f) (numbers_more n) ∙ sym (flat_map_more f [] (range_with_len 0 n) n)
