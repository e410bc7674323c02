-- A name is found by its key, in its bucket.

use Rattle.std.proofs.Common.{◌≡◌, ◌≢◌, ℕ, ◌<◌, ◌%◌, List, length, get_or, set, refl, sym, ap, ◌∙◌, Bool, true, false, ◌&&◌, cond, Option, None, Some, Result, Ok, Err, OnErr, eqb, arith}
use Rattle.std.specs.BTreeMap.{BTreeMap, IsEmpty, get, is_at}
use Rattle.std.specs.Cmp.{tied_then}
use Rattle.std.specs.Cmp.Lexicographic.{slice_cmp}
use Rattle.std.specs.List.{All, slice_get}
use Rattle.std.specs.Map.{lookup, update}
use Rattle.std.specs.Ordering.{is_eq, nat_cmp}
use Rattle.std.specs.Str.{bytes_eq}
use Rattle.std.proofs.lemmas.Bool.Decides.{nat_tests}
use Rattle.std.proofs.lemmas.List.{get_or-set_other, get_or-set_same, length-set}
use Rattle.std.proofs.lemmas.List.Elements.{All-get_or}
use Rattle.std.proofs.lemmas.Map.Text.{is_eq-slice_cmp}
use Rattle.std.proofs.lemmas.Option.{get_or_from_slice_get, slice_get-get_or, slice_get_read, slice_get_within}
use Rattle.std.proofs.lemmas.Slice.Eq.{bytes_eq-Decides}
use Rattle.gs_names.specs.Names.{HasBuckets, Key, find, find_in, hash_of, key_cmp, key_of}
use Rattle.gs_names.specs.declared.names.NameMap.{NameMap}

same_bytes : (x y : List ℕ) → bytes_eq x y ≡ true → x ≡ y
same_bytes x y h = (bytes_eq-Decides x y).0 h

is_eq-nat_cmp : (x y : ℕ) → is_eq (nat_cmp x y) ≡ eqb x y
is_eq-nat_cmp x y = grind (arith, nat_tests)

same_hash : (a b : List ℕ) (r : Bool) → bytes_eq a b ≡ r → (eqb (hash_of a) (hash_of b) && bytes_eq a b) ≡ bytes_eq a b
same_hash a b true e =
    let same : hash_of a ≡ hash_of b = ap hash_of (same_bytes a b e) in
    let n : eqb (hash_of a) (hash_of b) ≡ true = grind (arith, nat_tests, same) in
    rw n refl
same_hash a b false e = rw e (and_false (eqb (hash_of a) (hash_of b)))
  where
    and_false : (x : Bool) → (x && false) ≡ false
    and_false true = refl
    and_false false = refl

-- two names' keys are equal where the names are
same_key : (a b : List ℕ) → is_eq (key_cmp (key_of a) (key_of b)) ≡ bytes_eq a b
same_key a b =
    sym (tied_then (nat_cmp (hash_of a) (hash_of b)) (slice_cmp nat_cmp a b))
    ∙ ap (λ x. x && is_eq (slice_cmp nat_cmp a b)) (is_eq-nat_cmp (hash_of a) (hash_of b))
    ∙ ap (λ x. eqb (hash_of a) (hash_of b) && x) (is_eq-slice_cmp a b)
    ∙ same_hash a b (bytes_eq a b) refl

-- what holds anyway holds at an error
pub on_err : {T E P : Type 0} (r : Result T E) → P → OnErr r P
on_err (Ok x) p = tt
on_err (Err e) p = p

-- a place of a bucket
below : (h n : ℕ) → 0 < n → h % n < n
below h n some = omega (arith, some)

-- names of different places differ
places_differ : (a q : List ℕ) (n : ℕ) (r : Bool) → eqb (hash_of q % n) (hash_of a % n) ≡ false → bytes_eq a q ≡ r → r ≡ false
places_differ a q n false e h = refl
places_differ a q n true e h =
    let same : hash_of a % n ≡ hash_of q % n = ap (λ x. hash_of x % n) (same_bytes a q h) in
    absurd (grind (arith, nat_tests, same, e))

module _ {V : Type 0} where
  -- the bucket at a name's place is the one in which it is found
  in_bucket : (m : NameMap V) (name : List ℕ) (p : ℕ) (b : BTreeMap Key V) → HasBuckets m → p ≡ hash_of name % length m.buckets.items
      → b ≡ get_or m.buckets.items p b → find m name ≡ get key_cmp b (key_of name)
  in_bucket m name p b some at here =
      let n = length m.buckets.items in
      let i = hash_of name % n in
      ap (λ o. find_in o (key_of name)) (slice_get_read m.buckets.items n i b refl (below (hash_of name) n some) (here ∙ ap (λ j. get_or m.buckets.items j b) at))

  -- what a bucket has at a name's hash and bytes is what the name finds
  pub found_by_key : (m : NameMap V) (h : ℕ) (name : List ℕ) (p : ℕ) (b : BTreeMap Key V) → HasBuckets m → h ≡ hash_of name
      → p ≡ h % length m.buckets.items → b ≡ get_or m.buckets.items p b → get key_cmp b (h, name) ≡ find m name
  found_by_key m h name p b some e at here =
      ap (λ (x : ℕ). get key_cmp b (x, name)) e ∙ sym (in_bucket m name p b some (at ∙ ap (λ x. x % length m.buckets.items) e) here)

  -- what is found in a bucket after an insertion
  after_in : (b c : BTreeMap Key V) (h : ℕ) (name : List ℕ) (w : Option V) → h ≡ hash_of name
      → ((q : Key) → get key_cmp c q ≡ cond (is_eq (key_cmp (h, name) q)) w (get key_cmp b q))
      → (q : List ℕ) → get key_cmp c (key_of q) ≡ cond (bytes_eq name q) w (get key_cmp b (key_of q))
  after_in b c h name w e updates q =
      let f = get key_cmp b (key_of q) in
      updates (key_of q)
      ∙ ap (λ (x : ℕ). cond (is_eq (key_cmp (x, name) (key_of q))) w f) e
      ∙ ap (λ r. cond r w f) (same_key name q)

  -- a name at a place, after the bucket at a place has changed
  at_change : (xs : List (BTreeMap Key V)) (p i : ℕ) (b c : BTreeMap Key V) (k : Key) (r : Bool) → i < length xs → b ≡ get_or xs p b → eqb i p ≡ r
      → find_in (slice_get (set xs p c) i) k ≡ cond r (get key_cmp c k) (find_in (slice_get xs i) k)
  at_change xs p i b c k true within here e =
      let same : i ≡ p = grind (arith, nat_tests, e) in
      let inside : i < length (set xs p c) = omega (arith, within, length-set xs p c) in
      let lt : p < length xs = omega (arith, within, same) in
      ap (λ o. find_in o k) (slice_get-get_or (set xs p c) i c inside ∙ ap (λ j. Some (get_or (set xs p c) j c)) same ∙ ap (λ x. Some x) (get_or-set_same xs p c c lt))
  at_change xs p i b c k false within here e =
      let other : i ≢ p = grind (arith, nat_tests, e) in
      let inside : i < length (set xs p c) = omega (arith, within, length-set xs p c) in
      ap (λ o. find_in o k) (slice_get-get_or (set xs p c) i b inside ∙ ap (λ x. Some x) (get_or-set_other xs p i c b other) ∙ sym (slice_get-get_or xs i b within))

  by_place : (m : NameMap V) (h : ℕ) (name : List ℕ) (w : Option V) (p : ℕ) (b c : BTreeMap Key V) → HasBuckets m → h ≡ hash_of name
      → b ≡ get_or m.buckets.items p b → ((q : Key) → get key_cmp c q ≡ cond (is_eq (key_cmp (h, name) q)) w (get key_cmp b q))
      → (q : List ℕ) → p ≡ hash_of name % length m.buckets.items → (r : Bool) → eqb (hash_of q % length m.buckets.items) p ≡ r
      → cond r (get key_cmp c (key_of q)) (find m q) ≡ cond (bytes_eq name q) w (find m q)
  by_place m h name w p b c some e here updates q place true at =
      let same : p ≡ hash_of q % length m.buckets.items = grind (arith, nat_tests, at) in
      after_in b c h name w e updates q ∙ ap (λ f. cond (bytes_eq name q) w f) (sym (in_bucket m q p b some same here))
  by_place m h name w p b c some e here updates q place false at =
      let size = length m.buckets.items in
      let differ : bytes_eq name q ≡ false = places_differ name q size (bytes_eq name q) (ap (λ j. eqb (hash_of q % size) j) (sym place) ∙ at) refl in
      rw differ refl

  -- what is found after an insertion into the bucket at the name's place
  pub found_after : (m n : NameMap V) (h : ℕ) (name : List ℕ) (w : Option V) (p : ℕ) (b c : BTreeMap Key V) → HasBuckets m → h ≡ hash_of name
      → p ≡ h % length m.buckets.items → b ≡ get_or m.buckets.items p b → n.buckets.items ≡ set m.buckets.items p c
      → ((q : Key) → get key_cmp c q ≡ cond (is_eq (key_cmp (h, name) q)) w (get key_cmp b q))
      → (q : List ℕ) → find n q ≡ update bytes_eq (find m) name w q
  found_after m n h name w p b c some e at here changed updates q =
      let xs = m.buckets.items in
      let size = length xs in
      let i = hash_of q % size in
      let place : p ≡ hash_of name % size = at ∙ ap (λ x. x % size) e in
      ap (λ ys. find_in (slice_get ys (hash_of q % length ys)) (key_of q)) changed
      ∙ ap (λ l. find_in (slice_get (set xs p c) (hash_of q % l)) (key_of q)) (length-set xs p c)
      ∙ at_change xs p i b c (key_of q) (eqb i p) (below (hash_of q) size some) here refl
      ∙ by_place m h name w p b c some e here updates q place (eqb i p) refl

  -- nothing is found in empty buckets
  none_in : (xs : List (BTreeMap Key V)) (i : ℕ) (k : Key) (o : Option (BTreeMap Key V)) → slice_get xs i ≡ o → All IsEmpty xs → find_in o k ≡ None
  none_in xs i k None e empty = refl
  none_in xs i k (Some b) e empty =
      let nothing : IsEmpty (get_or xs i b) = All-get_or IsEmpty xs i b (slice_get_within xs i b e) empty in
      ap (lookup (is_at (key_cmp k))) (ap (λ (c : BTreeMap Key V). c.entries) (sym (get_or_from_slice_get xs i b b e)) ∙ nothing)

  pub none_found : (m : NameMap V) → All IsEmpty m.buckets.items → (q : List ℕ) → find m q ≡ None
  none_found m empty q = let i = hash_of q % length m.buckets.items in none_in m.buckets.items i (key_of q) (slice_get m.buckets.items i) refl empty
