-- A name is found by its key, in its bucket.

use Rattle.std.proofs.Common.{◌≡◌, ◌≢◌, ℕ, ◌<◌, ◌-◌, List, length, get_or, set, refl, sym, ap, ◌∙◌, Bool, true, false, ◌&&◌, cond, Option, None, Some, Result, Ok, Err, OnErr, eqb, arith}
use Rattle.std.specs.BTreeMap.{BTreeMap, IsEmpty, get, get_by, is_at}
use Rattle.std.specs.Cmp.{tied_then}
use Rattle.std.specs.Cmp.Lexicographic.{slice_cmp}
use Rattle.std.specs.List.{All, slice_get}
use Rattle.std.specs.Map.{lookup, update}
use Rattle.std.specs.Ordering.{is_eq, nat_cmp, ordering_then}
use Rattle.std.specs.Str.{bytes_eq}
use Rattle.std.proofs.lemmas.Bool.Decides.{nat_tests}
use Rattle.std.proofs.lemmas.List.{get_or-set_other, get_or-set_same, length-set}
use Rattle.std.proofs.lemmas.List.Elements.{All-get_or}
use Rattle.std.proofs.lemmas.Map.Text.{is_eq-slice_cmp}
use Rattle.std.proofs.lemmas.Nat.{and_le_r}
use Rattle.std.proofs.lemmas.Option.{get_or_from_slice_get, slice_get-get_or, slice_get_read, slice_get_within}
use Rattle.gs_verilog.specs.Names.{HasBuckets, Key, find, find_in, front_of, hash_of, key_cmp, key_of, place_in}
use Rattle.gs_verilog.specs.declared.names.NameMap.{NameMap}
use Rattle.gs_verilog.proofs.Indexes.{is_eq-nat_cmp}
use Rattle.gs_verilog.proofs.Numbers.{same_bytes}

-- what holds anyway holds at an error
pub on_err : {T E P : Type 0} (r : Result T E) → P → OnErr r P
on_err (Ok x) p = tt
on_err (Err e) p = p

same_hash : (a b : List ℕ) (r : Bool) → bytes_eq a b ≡ r → (eqb (hash_of a) (hash_of b) && bytes_eq a b) ≡ bytes_eq a b
same_hash a b true e =
    let same : hash_of a ≡ hash_of b = ap hash_of (same_bytes a b e) in
    let n : eqb (hash_of a) (hash_of b) ≡ true = grind (arith, nat_tests, same) in
    rw n refl
same_hash a b false e = rw e (and_false (eqb (hash_of a) (hash_of b)))
  where
    and_false : (x : Bool) → (x && false) ≡ false
    and_false true = refl
    and_false false = refl

-- two names' keys are equal where the names are
pub same_key : (a b : List ℕ) → is_eq (ordering_then (nat_cmp (hash_of a) (hash_of b)) (slice_cmp nat_cmp a b)) ≡ bytes_eq a b
same_key a b =
    sym (tied_then (nat_cmp (hash_of a) (hash_of b)) (slice_cmp nat_cmp a b))
    ∙ ap (λ x. x && is_eq (slice_cmp nat_cmp a b)) (is_eq-nat_cmp (hash_of a) (hash_of b))
    ∙ ap (λ x. eqb (hash_of a) (hash_of b) && x) (is_eq-slice_cmp a b)
    ∙ same_hash a b (bytes_eq a b) refl

-- a key that is made of a name finds what the name finds
by_key : (b : BTreeMap Key ℕ) (k : Key) (name : List ℕ) → k.0 ≡ hash_of name → k.1.now ≡ name → get_by (key_cmp k) b ≡ get key_cmp b (key_of name)
by_key b k name h t =
    ap (λ (n : ℕ). get_by (λ (y : Key). ordering_then (nat_cmp n y.0) (slice_cmp nat_cmp k.1.now y.1.now)) b) h
    ∙ ap (λ (x : List ℕ). get_by (λ (y : Key). ordering_then (nat_cmp (hash_of name) y.0) (slice_cmp nat_cmp x y.1.now)) b) t

-- a place of a bucket
below : (name : List ℕ) (n : ℕ) → 0 < n → place_in n name < n
unfolding place_in
below name n some = omega (arith, some, and_le_r (hash_of (front_of name)) (n - 1))

-- the bucket at a name's place is the one in which it is found
in_bucket : (m : NameMap) (name : List ℕ) (p : ℕ) (b : BTreeMap Key ℕ) → HasBuckets m → p ≡ place_in (length m.buckets.items) name
    → b ≡ get_or m.buckets.items p b → find m name ≡ get key_cmp b (key_of name)
in_bucket m name p b some at here =
    let n = length m.buckets.items in
    let i = place_in n name in
    ap (λ o. find_in o (key_of name)) (slice_get_read m.buckets.items n i b refl (below name n some) (here ∙ ap (λ j. get_or m.buckets.items j b) at))

pub found_by_key : (m : NameMap) (k : Key) (name : List ℕ) (p : ℕ) (b : BTreeMap Key ℕ) → HasBuckets m → k.0 ≡ hash_of name → k.1.now ≡ name
    → p ≡ place_in (length m.buckets.items) name → b ≡ get_or m.buckets.items p b → get_by (key_cmp k) b ≡ find m name
found_by_key m k name p b some h t at here = by_key b k name h t ∙ sym (in_bucket m name p b some at here)

-- what is found in a bucket after an insertion
after_in : (b c : BTreeMap Key ℕ) (k : Key) (name : List ℕ) (w : Option ℕ) → k.0 ≡ hash_of name → k.1.now ≡ name
    → ((q : Key) → get key_cmp c q ≡ cond (is_eq (key_cmp k q)) w (get key_cmp b q))
    → (q : List ℕ) → get key_cmp c (key_of q) ≡ cond (bytes_eq name q) w (get key_cmp b (key_of q))
after_in b c k name w h t updates q =
    let f = get key_cmp b (key_of q) in
    updates (key_of q)
    ∙ ap (λ (x : ℕ). cond (is_eq (ordering_then (nat_cmp x (hash_of q)) (slice_cmp nat_cmp k.1.now q))) w f) h
    ∙ ap (λ (x : List ℕ). cond (is_eq (ordering_then (nat_cmp (hash_of name) (hash_of q)) (slice_cmp nat_cmp x q))) w f) t
    ∙ ap (λ r. cond r w f) (same_key name q)

-- names of different places differ
places_differ : (a q : List ℕ) (n : ℕ) (r : Bool) → eqb (place_in n q) (place_in n a) ≡ false → bytes_eq a q ≡ r → r ≡ false
places_differ a q n false e h = refl
places_differ a q n true e h =
    let same : place_in n a ≡ place_in n q = ap (place_in n) (same_bytes a q h) in
    absurd (grind (arith, nat_tests, same, e))

-- a name at a place, after the bucket at a place has changed
at_change : (xs : List (BTreeMap Key ℕ)) (p i : ℕ) (b c : BTreeMap Key ℕ) (k : Key) (r : Bool) → i < length xs → b ≡ get_or xs p b → eqb i p ≡ r
    → find_in (slice_get (set xs p c) i) k ≡ cond r (get key_cmp c k) (find_in (slice_get xs i) k)
at_change xs p i b c k true within here e =
    let same : i ≡ p = grind (arith, nat_tests, e) in
    let inside : i < length (set xs p c) = omega (arith, within, length-set xs p c) in
    let lt : p < length xs = omega (arith, within, same) in
    ap (λ o. find_in o k) (slice_get-get_or (set xs p c) i c inside ∙ ap (λ j. Some (get_or (set xs p c) j c)) same ∙ ap (λ x. Some x) (get_or-set_same xs p c c lt))
at_change xs p i b c k false within here e =
    let other : i ≢ p = grind (arith, nat_tests, e) in
    let inside : i < length (set xs p c) = omega (arith, within, length-set xs p c) in
    ap (λ o. find_in o k) (slice_get-get_or (set xs p c) i b inside ∙ ap (λ x. Some x) (get_or-set_other xs p i c b other) ∙ sym (slice_get-get_or xs i b within))

by_place : (m : NameMap) (k : Key) (name : List ℕ) (w : Option ℕ) (p : ℕ) (b c : BTreeMap Key ℕ) → HasBuckets m → k.0 ≡ hash_of name → k.1.now ≡ name
    → b ≡ get_or m.buckets.items p b → ((q : Key) → get key_cmp c q ≡ cond (is_eq (key_cmp k q)) w (get key_cmp b q))
    → (q : List ℕ) → p ≡ place_in (length m.buckets.items) name → (r : Bool) → eqb (place_in (length m.buckets.items) q) p ≡ r
    → cond r (get key_cmp c (key_of q)) (find m q) ≡ cond (bytes_eq name q) w (find m q)
by_place m k name w p b c some h t here updates q place true e =
    let same : p ≡ place_in (length m.buckets.items) q = grind (arith, nat_tests, e) in
    after_in b c k name w h t updates q ∙ ap (λ f. cond (bytes_eq name q) w f) (sym (in_bucket m q p b some same here))
by_place m k name w p b c some h t here updates q place false e =
    let size = length m.buckets.items in
    let differ : bytes_eq name q ≡ false = places_differ name q size (bytes_eq name q) (ap (λ j. eqb (place_in size q) j) (sym place) ∙ e) refl in
    rw differ refl

-- what is found after an insertion into the bucket at the name's place
pub found_after : (m n : NameMap) (k : Key) (name : List ℕ) (w : Option ℕ) (p : ℕ) (b c : BTreeMap Key ℕ) → HasBuckets m → k.0 ≡ hash_of name → k.1.now ≡ name
    → p ≡ place_in (length m.buckets.items) name → b ≡ get_or m.buckets.items p b → n.buckets.items ≡ set m.buckets.items p c
    → ((q : Key) → get key_cmp c q ≡ cond (is_eq (key_cmp k q)) w (get key_cmp b q))
    → (q : List ℕ) → find n q ≡ update bytes_eq (find m) name w q
found_after m n k name w p b c some h t at here changed updates q =
    let xs = m.buckets.items in
    let size = length xs in
    let i = place_in size q in
    ap (λ ys. find_in (slice_get ys (place_in (length ys) q)) (key_of q)) changed
    ∙ ap (λ l. find_in (slice_get (set xs p c) (place_in l q)) (key_of q)) (length-set xs p c)
    ∙ at_change xs p i b c (key_of q) (eqb i p) (below q size some) here refl
    ∙ by_place m k name w p b c some h t here updates q at (eqb i p) refl

-- nothing is found in empty buckets
none_in : (xs : List (BTreeMap Key ℕ)) (i : ℕ) (k : Key) (o : Option (BTreeMap Key ℕ)) → slice_get xs i ≡ o → All IsEmpty xs → find_in o k ≡ None
none_in xs i k None e empty = refl
none_in xs i k (Some b) e empty =
    let nothing : IsEmpty (get_or xs i b) = All-get_or IsEmpty xs i b (slice_get_within xs i b e) empty in
    ap (lookup (is_at (key_cmp k))) (ap (λ (c : BTreeMap Key ℕ). c.entries) (sym (get_or_from_slice_get xs i b b e)) ∙ nothing)

pub none_found : (m : NameMap) → All IsEmpty m.buckets.items → (q : List ℕ) → find m q ≡ None
none_found m empty q = let i = place_in (length m.buckets.items) q in none_in m.buckets.items i (key_of q) (slice_get m.buckets.items i) refl empty
