-- What a list of files has at each name after one file was set or added.
use Rattle.std.proofs.Common.{◌≡◌, ◌≢◌, ℕ, zero, suc, ◌+◌, ◌<◌, Bool, true, false, cond, not, ◌&&◌, ◌||◌, List, [], ◌∷◌, ◌++◌, Option, Some, None, length, get_or, map, refl, sym, ◌∙◌, ap}
use Rattle.std.specs.Prelude.{option_map}
use Rattle.std.specs.Option.{option_or}
use Rattle.std.specs.List.{find, list_any, position, position_from}
use Rattle.std.specs.Str.{bytes_eq}
use Rattle.std.proofs.Math.ListN.{set}
use Rattle.std.proofs.lemmas.Bool.{false_from_ne_true}
use Rattle.std.proofs.lemmas.Slice.Eq.{bytes_eq-Decides}
use Rattle.std.proofs.lemmas.List.Folds.{find-set, find_past, find-append, list_any-append}
use Rattle.std.proofs.lemmas.List.Quantifiers.{position-Some}
use Rattle.std.proofs.lemmas.Iterator.Adapters.{position_from-zero}
use Rattle.gs_shelf.specs.declared.lists.StoredFile.{StoredFile}
use Rattle.gs_shelf.specs.Files.{OthersStay}
use Rattle.gs_shelf.specs.Lists.{has_name, lookup, distinct, names_differ}

at_place : (b : Bool) (n i : ℕ) → cond b (Some n) None ≡ Some i → i ≡ n
at_place true n i e = cc
at_place false n i e = cc

absent_at : (b : Bool) (k : ℕ) (r : Option ℕ) (f : StoredFile) (s : Option StoredFile) → cond b (Some k) r ≡ None → (r ≡ None → s ≡ None) → cond b (Some f) s ≡ None
absent_at true k r f s e ih = cc
absent_at false k r f s e ih = ih e

absent_from : (p : StoredFile → Bool) (k : ℕ) (fs : List StoredFile) → position_from p k fs ≡ None → find p fs ≡ None
absent_from p k [] e = refl
absent_from p k (f ∷ fs) e = absent_at (p f) k (position_from p (k + 1) fs) f (find p fs) e (absent_from p (k + 1) fs)

-- no file passes where there is no place
pub absent : (p : StoredFile → Bool) (fs : List StoredFile) → position p fs ≡ None → find p fs ≡ None
absent p fs e = absent_from p 0 fs (sym (position_from-zero p fs) ∙ e)

unnamed_at : (b c : Bool) (f : StoredFile) (s : Option StoredFile) → cond b (Some f) s ≡ None → (s ≡ None → c ≡ false) → (b || c) ≡ false
unnamed_at true c f s e ih = cc
unnamed_at false c f s e ih = ih e

-- no name of the list is the one that is not found
unnamed : (name : List ℕ) (fs : List StoredFile) → find (has_name name) fs ≡ None → list_any (λ n. bytes_eq n name) (map (λ f. f.name) fs) ≡ false
unnamed name [] e = refl
unnamed name (f ∷ fs) e = unnamed_at (bytes_eq f.name name) (list_any (λ n. bytes_eq n name) (map (λ g. g.name) fs)) f (find (has_name name) fs) e (unnamed name fs)

-- the names stay where a file is set under the name that stood there
names-set : (fs : List StoredFile) (i : ℕ) (y d : StoredFile) → y.name ≡ (get_or fs i d).name → map (λ f. f.name) (set fs i y) ≡ map (λ f. f.name) fs
names-set [] i y d e = refl
names-set (f ∷ fs) zero y d e = ap (λ n. n ∷ map (λ g. g.name) fs) e
names-set (f ∷ fs) (suc i) y d e = ap (λ ns. f.name ∷ ns) (names-set fs i y d e)

one_more : (a b t c g : Bool) → (not a && b) ≡ true → (t || c) ≡ false → (b ≡ true → c ≡ false → g ≡ true) → (not (a || (t || false)) && g) ≡ true
one_more true b t c g d u ih = cc
one_more false true true c g d u ih = cc
one_more false true false c g d u ih = ih refl u
one_more false false t c g d u ih = cc

distinct-push : (ns : List (List ℕ)) (n : List ℕ) → distinct ns ≡ true → list_any (λ m. bytes_eq m n) ns ≡ false → distinct (ns ++ n ∷ []) ≡ true
distinct-push [] n d u = refl
distinct-push (m ∷ ns) n d u =
    rw (list_any-append (bytes_eq m) ns (n ∷ []))
    (one_more (list_any (bytes_eq m) ns) (distinct ns) (bytes_eq m n) (list_any (λ o. bytes_eq o n) ns) (distinct (ns ++ n ∷ [])) d u (distinct-push ns n))

names-push : (fs : List StoredFile) (y : StoredFile) → map (λ f. f.name) (fs ++ y ∷ []) ≡ map (λ f. f.name) fs ++ y.name ∷ []
names-push [] y = refl
names-push (f ∷ fs) y = ap (λ ns. f.name ∷ ns) (names-push fs y)

differs : (name other : List ℕ) → other ≢ name → bytes_eq name other ≡ false
differs name other ne = false_from_ne_true (bytes_eq name other) (λ e. ne (sym ((bytes_eq-Decides name other).0 e)))

or_none : (o : Option StoredFile) → option_or o None ≡ o
or_none None = refl
or_none (Some x) = refl

-- a file of the name found there is set
module _ (fs old : List StoredFile) (same : fs ≡ old) (name bytes : List ℕ) (i : ℕ) (r : StoredFile) (found : Some i ≡ position (has_name name) old) (is : r ≡ get_or fs i r) where
  at : position (has_name name) fs ≡ Some i
  at = rw same (sym found)

  named : r.name ≡ name
  named =
      let passes : has_name name (get_or fs i r) ≡ true = (position-Some (has_name name) fs i r at).1 in
      (bytes_eq-Decides r.name name).0 (ap (λ f. bytes_eq f.name name) is ∙ passes)

  pub differ-set : names_differ fs ≡ true → names_differ (set fs i (record { name = r.name; bytes = bytes })) ≡ true
  differ-set d = ap distinct (names-set fs i (record { name = r.name; bytes = bytes }) r (ap (λ f. f.name) is)) ∙ d

  pub found-set : (whole : List ℕ) → bytes ≡ whole → lookup (set fs i (record { name = r.name; bytes = bytes })) name ≡ Some whole
  found-set whole e =
      let inside : i < length fs = (position-Some (has_name name) fs i r at).0 in
      let here = find-set (has_name name) fs i (record { name = r.name; bytes = bytes }) (at_place _ _ i at) inside ((bytes_eq-Decides r.name name).1 named) in
      ap (option_map (λ f. f.bytes)) here ∙ ap Some e

  pub others-set : OthersStay name (lookup old) (lookup (set fs i (record { name = r.name; bytes = bytes })))
  others-set other ne =
      let no : bytes_eq r.name other ≡ false = ap (λ n. bytes_eq n other) named ∙ differs name other ne in
      let past = find_past (has_name other) fs i (record { name = r.name; bytes = bytes }) r (ap (λ f. bytes_eq f.name other) (sym is) ∙ no) no in
      ap (option_map (λ f. f.bytes)) past ∙ ap (λ l. lookup l other) same

-- a file of a name that the list lacks is added
module _ (fs old more : List StoredFile) (same : fs ≡ old) (name bytes : List ℕ) (pushed : more ≡ fs ++ record { name = name; bytes = bytes } ∷ []) (wanted : List ℕ) (is : name ≡ wanted) (none : None ≡ position (has_name wanted) old) where
  lacks : position (has_name name) fs ≡ None
  lacks = rw (same, is) (sym none)

  pub differ-push : names_differ fs ≡ true → names_differ more ≡ true
  differ-push d =
      ap names_differ pushed ∙ ap distinct (names-push fs (record { name = name; bytes = bytes })) ∙ distinct-push (map (λ f. f.name) fs) name d (unnamed name fs (absent (has_name name) fs lacks))

  found_last : lookup (fs ++ record { name = name; bytes = bytes } ∷ []) name ≡ Some bytes
  found_last =
      let named : bytes_eq name name ≡ true = (bytes_eq-Decides name name).1 refl in
      rw (find-append (has_name name) fs (record { name = name; bytes = bytes } ∷ []), absent (has_name name) fs lacks, named) refl

  pub found-push : (whole : List ℕ) → bytes ≡ whole → lookup more wanted ≡ Some whole
  found-push whole e = ap (lookup more) (sym is) ∙ ap (λ l. lookup l name) pushed ∙ found_last ∙ ap Some e

  pub others-push : OthersStay wanted (lookup old) (lookup more)
  others-push other ne =
      let no : bytes_eq name other ≡ false = ap (λ n. bytes_eq n other) is ∙ differs wanted other ne in
      let last : lookup (fs ++ record { name = name; bytes = bytes } ∷ []) other ≡ lookup fs other = rw (find-append (has_name other) fs (record { name = name; bytes = bytes } ∷ []), no) (ap (option_map (λ f. f.bytes)) (or_none (find (has_name other) fs))) in
      ap (λ l. lookup l other) pushed ∙ last ∙ ap (λ l. lookup l other) same
