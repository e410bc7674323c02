-- Runs of a text, one by one; a text without a backslash.

use Rattle.std.proofs.Common.{◌≡◌, ℕ, zero, suc, Option, Some, None, map, ◌++◌, ◌+◌, ◌-◌, ◌<◌, ◌≤◌, List, [], ◌∷◌, length, get_or, drop, take, refl, sym, ap, ◌∙◌, Bool, true, false, ◌||◌, filter, add-one, drop-cons, arith, eqb, if◌then◌else◌}
use Rattle.std.specs.List.{filter_map, flat_map, list_any, position_or_len, range_with_len, slice_split}
use Rattle.std.proofs.lemmas.List.{append-nil, append_assoc, drop_more, drop-drop, map-append, take_more}
use Rattle.std.proofs.lemmas.List.Concat.{flat_map-append}
use Rattle.gs_libcell.specs.Number.{gather}
use Rattle.gs_libcell.specs.Text.{continues, is_gap, is_run, runs_in, unfolded, unfolded_byte}

-- ---- continuations

byte_by : (c : ℕ) (cs : List ℕ) → eqb c 92 ≡ false → unfolded_byte c cs ≡ c
byte_by c [] h = refl
byte_by c (d ∷ ds) h = rw h refl

or_first : (a b : Bool) → a || b ≡ false → a ≡ false
or_first true b h = h
or_first false b h = refl

or_second : (a b : Bool) → a || b ≡ false → b ≡ false
or_second true b h = let never : true ≡ false = h in cc
or_second false b h = h

pub plain_text : (cs : List ℕ) → list_any (λ c. eqb c 92) cs ≡ false → unfolded cs ≡ cs
plain_text [] h = refl
plain_text (c ∷ cs) h =
    ap (λ b. b ∷ unfolded cs) (byte_by c cs (or_first (eqb c 92) (list_any (λ c. eqb c 92) cs) h))
    ∙ ap (λ bs. c ∷ bs) (plain_text cs (or_second (eqb c 92) (list_any (λ c. eqb c 92) cs) h))

-- ---- runs

module _ (commas : Bool) where
  -- the parts behind the gap at which a text begins
  abbrev parts : List ℕ → List (List ℕ)
  parts [] = []
  parts (y ∷ ys) = slice_split (is_gap commas) ys

  abbrev pub run_of : List ℕ → ℕ
  run_of xs = position_or_len (is_gap commas) xs

  part_by : (x : ℕ) (xs : List ℕ) (q : Bool) → is_gap commas x ≡ q
      → slice_split (is_gap commas) xs ≡ take (run_of xs) xs ∷ parts (drop (run_of xs) xs)
      → slice_split (is_gap commas) (x ∷ xs) ≡ take (run_of (x ∷ xs)) (x ∷ xs) ∷ parts (drop (run_of (x ∷ xs)) (x ∷ xs))
  part_by x xs true e h = rw e refl
  part_by x xs false e h =
      let one : 1 + run_of xs ≡ suc (run_of xs) = omega arith in
      rw (e, h, one) refl

  first_part : (xs : List ℕ) → slice_split (is_gap commas) xs ≡ take (run_of xs) xs ∷ parts (drop (run_of xs) xs)
  first_part [] = refl
  first_part (x ∷ xs) = part_by x xs (is_gap commas x) refl (first_part xs)

  -- a gap in front
  front_gap : (x : ℕ) (xs : List ℕ) → is_gap commas x ≡ true → runs_in commas (x ∷ xs) ≡ runs_in commas xs
  front_gap x xs e = rw e refl

  rest_by : (x : ℕ) (xs : List ℕ) (q : Bool) → is_gap commas x ≡ q
      → filter is_run (parts (drop (run_of xs) xs)) ≡ runs_in commas (drop (run_of xs) xs)
      → filter is_run (parts (drop (run_of (x ∷ xs)) (x ∷ xs))) ≡ runs_in commas (drop (run_of (x ∷ xs)) (x ∷ xs))
  rest_by x xs true e h =
      let none : run_of (x ∷ xs) ≡ 0 = rw e refl in
      ap (λ n. filter is_run (parts (drop n (x ∷ xs)))) none ∙ sym (front_gap x xs e) ∙ sym (ap (λ n. runs_in commas (drop n (x ∷ xs))) none)
  rest_by x xs false e h =
      let one : 1 + run_of xs ≡ suc (run_of xs) = omega arith in
      rw (e, one) h

  rest_runs : (xs : List ℕ) → filter is_run (parts (drop (run_of xs) xs)) ≡ runs_in commas (drop (run_of xs) xs)
  rest_runs [] = refl
  rest_runs (x ∷ xs) = rest_by x xs (is_gap commas x) refl (rest_runs xs)

  -- a run in front
  front_run : (x : ℕ) (xs : List ℕ) → is_gap commas x ≡ false
      → runs_in commas (x ∷ xs) ≡ take (run_of (x ∷ xs)) (x ∷ xs) ∷ runs_in commas (drop (run_of (x ∷ xs)) (x ∷ xs))
  front_run x xs e =
      let whole : runs_in commas (x ∷ xs) ≡ filter is_run (take (run_of (x ∷ xs)) (x ∷ xs) ∷ parts (drop (run_of (x ∷ xs)) (x ∷ xs))) = ap (filter is_run) (first_part (x ∷ xs)) in
      let kept : filter is_run (take (run_of (x ∷ xs)) (x ∷ xs) ∷ parts (drop (run_of (x ∷ xs)) (x ∷ xs)))
      ≡ take (run_of (x ∷ xs)) (x ∷ xs) ∷ filter is_run (parts (drop (run_of (x ∷ xs)) (x ∷ xs))) =
      let one : 1 + run_of xs ≡ suc (run_of xs) = omega arith in
      rw (e, one) refl in
      whole ∙ kept ∙ ap (λ rs. take (run_of (x ∷ xs)) (x ∷ xs) ∷ rs) (rest_runs (x ∷ xs))

  module _ (text : List ℕ) (at d : ℕ) (lt : at < length text) where
    pub skips : is_gap commas (get_or text at d) ≡ true → runs_in commas (drop at text) ≡ runs_in commas (drop (at + 1) text)
    skips e = ap (runs_in commas) (drop_more text at d lt) ∙ front_gap (get_or text at d) (drop (at + 1) text) e

    pub takes : (end : ℕ) → is_gap commas (get_or text at d) ≡ false → end ≡ at + run_of (drop at text)
        → runs_in commas (drop at text) ≡ take (run_of (drop at text)) (drop at text) ∷ runs_in commas (drop end text)
    takes end e is =
        let k : drop at text ≡ get_or text at d ∷ drop (at + 1) text = drop_more text at d lt in
        let front : runs_in commas (drop at text) ≡ take (run_of (drop at text)) (drop at text) ∷ runs_in commas (drop (run_of (drop at text)) (drop at text)) = rw k (front_run (get_or text at d) (drop (at + 1) text) e) in
        front ∙ ap (λ xs. take (run_of (drop at text)) (drop at text) ∷ runs_in commas xs) (drop-drop (run_of (drop at text)) at text ∙ ap (λ n. drop n text) (sym is))

    pub takes_run : (end : ℕ) → is_gap commas (get_or text at d) ≡ false → end ≡ at + run_of (drop at text)
        → runs_in commas (drop at text) ≡ take (end - at) (drop at text) ∷ runs_in commas (drop end text)
    takes_run end e is =
        let n : run_of (drop at text) ≡ end - at = omega (arith, is) in
        takes end e is ∙ ap (λ k. take k (drop at text) ∷ runs_in commas (drop end text)) n

-- ---- what runs give, one by one

module _ {X : Type 0} (f : List ℕ → Option X) where
  pub run_given : (done : List X) (all : Option (List X)) (r : List ℕ) (rs : List (List ℕ)) (m : X)
      → gather done (map f (r ∷ rs)) ≡ all → f r ≡ Some m → gather (done ++ m ∷ []) (map f rs) ≡ all
  run_given done all r rs m h e = sym (ap (λ o. gather done (o ∷ map f rs)) e) ∙ h

  pub run_refused : (done : List X) (all : Option (List X)) (r : List ℕ) (rs : List (List ℕ))
      → gather done (map f (r ∷ rs)) ≡ all → f r ≡ None → all ≡ None
  run_refused done all r rs h e = sym h ∙ ap (λ o. gather done (o ∷ map f rs)) e

abbrev pub onto_gathered : {X : Type 0} → Option (List X) → List (Option X) → Option (List X)
onto_gathered None ps = None
onto_gathered (Some done) ps = gather done ps

-- one list gathered behind another
pub gather_on : {X : Type 0} (done : List X) (os ps : List (Option X)) → (o : Option (List X)) → gather done os ≡ o
    → gather done (os ++ ps) ≡ onto_gathered o ps
gather_on done [] ps o h = ap (λ q. onto_gathered q ps) h
gather_on done (None ∷ os) ps o h = ap (λ q. onto_gathered q ps) h
gather_on done (Some x ∷ os) ps o h = gather_on (done ++ x ∷ []) os ps o h

-- the runs of the text at a place, and then those of the texts behind it
pub gather_texts : {X : Type 0} (f : List ℕ → Option X) (cut : List ℕ → List (List ℕ)) (texts : List (List ℕ)) (i : ℕ) (d : List ℕ) (done : List X) (o : Option (List X))
    → i < length texts → gather done (map f (cut (get_or texts i d))) ≡ o
    → gather done (map f (flat_map cut (drop i texts))) ≡ onto_gathered o (map f (flat_map cut (drop (i + 1) texts)))
gather_texts f cut texts i d done o lt h =
    ap (λ ts. gather done (map f (flat_map cut ts))) (drop_more texts i d lt)
    ∙ ap (gather done) (map-append f (cut (get_or texts i d)) (flat_map cut (drop (i + 1) texts)))
    ∙ gather_on done (map f (cut (get_or texts i d))) (map f (flat_map cut (drop (i + 1) texts))) o h

-- ---- words that give something, or nothing
module _ {A X : Type 0} (f : A → Option X) (done : List X) (r : A) (rs : List A) where
  pub word_none : f r ≡ None → done ++ filter_map f (r ∷ rs) ≡ done ++ filter_map f rs
  word_none e = rw e refl

  pub word_some : (m : X) → f r ≡ Some m → done ++ filter_map f (r ∷ rs) ≡ (done ++ m ∷ []) ++ filter_map f rs
  word_some m e = rw e (sym (append_assoc done (m ∷ []) (filter_map f rs)))

-- a list made part by part
pub flat_take : {A X : Type 0} (f : A → List X) (xs : List A) (i : ℕ) (d : A) → i < length xs → flat_map f (take (i + 1) xs) ≡ flat_map f (take i xs) ++ f (get_or xs i d)
flat_take f xs i d lt = ap (flat_map f) (take_more xs i d lt) ∙ flat_map-append f (take i xs) (get_or xs i d ∷ []) ∙ ap (λ ys. flat_map f (take i xs) ++ ys) (append-nil (f (get_or xs i d)))

-- ---- the run at a place, whose end is known
module _ {X : Type 0} (f : List ℕ → Option X) (commas : Bool) (text : List ℕ) (at end d : ℕ) (lt : at < length text) (solid : is_gap commas (get_or text at d) ≡ false)
    (is : end ≡ at + position_or_len (is_gap commas) (drop at text)) (done : List X) where
  pub given_run : (all : Option (List X)) (m : X) → gather done (map f (runs_in commas (drop at text))) ≡ all → f (take (end - at) (drop at text)) ≡ Some m
      → gather (done ++ m ∷ []) (map f (runs_in commas (drop end text))) ≡ all
  given_run all m h e =
      run_given f done all (take (end - at) (drop at text)) (runs_in commas (drop end text)) m
      (sym (ap (λ rs. gather done (map f rs)) (takes_run commas text at d lt end solid is)) ∙ h) e

  pub refused_run : (all : Option (List X)) → gather done (map f (runs_in commas (drop at text))) ≡ all → f (take (end - at) (drop at text)) ≡ None → all ≡ None
  refused_run all h e =
      run_refused f done all (take (end - at) (drop at text)) (runs_in commas (drop end text))
      (sym (ap (λ rs. gather done (map f rs)) (takes_run commas text at d lt end solid is)) ∙ h) e

  pub none_word : f (take (end - at) (drop at text)) ≡ None → done ++ filter_map f (runs_in commas (drop end text)) ≡ done ++ filter_map f (runs_in commas (drop at text))
  none_word e =
      sym (word_none f done (take (end - at) (drop at text)) (runs_in commas (drop end text)) e)
      ∙ sym (ap (λ rs. done ++ filter_map f rs) (takes_run commas text at d lt end solid is))

  pub some_word : (m : X) → f (take (end - at) (drop at text)) ≡ Some m → (done ++ m ∷ []) ++ filter_map f (runs_in commas (drop end text)) ≡ done ++ filter_map f (runs_in commas (drop at text))
  some_word m e =
      sym (word_some f done (take (end - at) (drop at text)) (runs_in commas (drop end text)) m e)
      ∙ sym (ap (λ rs. done ++ filter_map f rs) (takes_run commas text at d lt end solid is))

-- numbers in order, with one more
range_more : (a n : ℕ) → range_with_len a (suc n) ≡ range_with_len a n ++ (a + n) ∷ []
range_more a zero =
    let e : a ≡ a + 0 = omega arith in
    ap (λ k. k ∷ []) e
range_more a (suc n) =
    let e : (a + 1) + n ≡ a + suc n = omega arith in
    ap (λ ks. a ∷ ks) (range_more (a + 1) n ∙ ap (λ k. range_with_len (a + 1) n ++ k ∷ []) e)

pub flat_range : {X : Type 0} (f : ℕ → List X) (n : ℕ) → flat_map f (range_with_len 0 (n + 1)) ≡ flat_map f (range_with_len 0 n) ++ f n
flat_range f n =
    let e : n + 1 ≡ suc n = omega arith in
    let z : 0 + n ≡ n = omega arith in
    ap (λ k. flat_map f (range_with_len 0 k)) e
    ∙ ap (flat_map f) (range_more 0 n ∙ ap (λ k. range_with_len 0 n ++ k ∷ []) z)
    ∙ flat_map-append f (range_with_len 0 n) (n ∷ [])
    ∙ ap (λ ys. flat_map f (range_with_len 0 n) ++ ys) (append-nil (f n))
