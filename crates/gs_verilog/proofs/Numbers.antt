-- Nets by first appearance: numbers stay while the list of nets grows, and the list is the names each once.

use Rattle.std.proofs.Common.{◌≡◌, ℕ, ◌+◌, ◌<◌, List, [], ◌∷◌, ◌++◌, length, filter, refl, sym, ap, ◌∙◌, Bool, true, false, not, ◌||◌, append_assoc, append-nil, arith, add-zero}
use Rattle.std.specs.List.{list_any, position_or_len}
use Rattle.std.specs.Str.{bytes_eq}
use Rattle.std.proofs.lemmas.List.Elements.{filter-append}
use Rattle.std.proofs.lemmas.List.Folds.{list_any-append}
use Rattle.std.proofs.lemmas.Slice.Eq.{bytes_eq-Decides}
use Rattle.gs_verilog.specs.Machine.{with_net}
use Rattle.gs_verilog.specs.Text.{number, firsts}

-- the nets after further names
abbrev pub nets_after : List (List ℕ) → List (List ℕ) → List (List ℕ)
nets_after ns [] = ns
nets_after ns (x ∷ xs) = nets_after (with_net ns x) xs

pub nets_after-append : (ns xs ys : List (List ℕ)) → nets_after ns (xs ++ ys) ≡ nets_after (nets_after ns xs) ys
nets_after-append ns [] ys = refl
nets_after-append ns (x ∷ xs) ys = nets_after-append (with_net ns x) xs ys

pub itself : (x : List ℕ) → bytes_eq x x ≡ true
itself x = (bytes_eq-Decides x x).1 refl

pub same_bytes : (x y : List ℕ) → bytes_eq x y ≡ true → x ≡ y
same_bytes x y h = (bytes_eq-Decides x y).0 h

-- a place that is found stays where more follows
found_by : {X : Type 0} (p : X → Bool) (x : X) (xs ys : List X) (b : Bool) → p x ≡ b
    → (list_any p xs ≡ true → position_or_len p (xs ++ ys) ≡ position_or_len p xs)
    → list_any p (x ∷ xs) ≡ true → position_or_len p ((x ∷ xs) ++ ys) ≡ position_or_len p (x ∷ xs)
found_by p x xs ys true e later h = rw e refl
found_by p x xs ys false e later h = let k : list_any p xs ≡ true = rw e at h in let ih = later k in rw (e, ih) refl

pub position-found : {X : Type 0} (p : X → Bool) (xs ys : List X) → list_any p xs ≡ true → position_or_len p (xs ++ ys) ≡ position_or_len p xs
position-found p [] ys h = cc
position-found p (x ∷ xs) ys h = found_by p x xs ys (p x) refl (position-found p xs ys) h

absent_by : {X : Type 0} (p : X → Bool) (x : X) (xs ys : List X) (b : Bool) → p x ≡ b
    → (list_any p xs ≡ false → position_or_len p (xs ++ ys) ≡ length xs + position_or_len p ys)
    → list_any p (x ∷ xs) ≡ false → position_or_len p ((x ∷ xs) ++ ys) ≡ length (x ∷ xs) + position_or_len p ys
absent_by p x xs ys true e later h = let k : true ≡ false = rw e at h in cc
absent_by p x xs ys false e later h = let k : list_any p xs ≡ false = rw e at h in let ih = later k in rw (e, ih) (omega arith)

pub position-absent : {X : Type 0} (p : X → Bool) (xs ys : List X) → list_any p xs ≡ false → position_or_len p (xs ++ ys) ≡ length xs + position_or_len p ys
position-absent p [] ys h = omega arith
position-absent p (x ∷ xs) ys h = absent_by p x xs ys (p x) refl (position-absent p xs ys) h

pub absent-length : {X : Type 0} (p : X → Bool) (xs : List X) → list_any p xs ≡ false → position_or_len p xs ≡ length xs
absent-length p xs h = ap (position_or_len p) (sym (append-nil xs)) ∙ position-absent p xs [] h ∙ add-zero (length xs)

inside_by : {X : Type 0} (p : X → Bool) (x : X) (xs : List X) (b : Bool) → p x ≡ b
    → (list_any p xs ≡ true → position_or_len p xs < length xs) → list_any p (x ∷ xs) ≡ true → position_or_len p (x ∷ xs) < length (x ∷ xs)
inside_by p x xs true e later h = rw e (omega arith)
inside_by p x xs false e later h = let k : list_any p xs ≡ true = rw e at h in let ih = later k in rw e (omega (arith, ih))

pub position-inside : {X : Type 0} (p : X → Bool) (xs : List X) → list_any p xs ≡ true → position_or_len p xs < length xs
position-inside p [] h = cc
position-inside p (x ∷ xs) h = inside_by p x xs (p x) refl (position-inside p xs) h

-- the nets with one name more, by whether it is there
pub with_net-known : (ns : List (List ℕ)) (x : List ℕ) → list_any (bytes_eq x) ns ≡ true → with_net ns x ≡ ns
with_net-known ns x e = rw e refl

pub with_net-new : (ns : List (List ℕ)) (x : List ℕ) → list_any (bytes_eq x) ns ≡ false → with_net ns x ≡ ns ++ x ∷ []
with_net-new ns x e = rw e refl

-- the nets begin with those before
pub record Grows (ns ms : List (List ℕ)) : Type 0 where
  pub more : List (List ℕ)
  pub is : ms ≡ ns ++ more

pub with_net-grows : (ns : List (List ℕ)) (x : List ℕ) (b : Bool) → list_any (bytes_eq x) ns ≡ b → Grows ns (with_net ns x)
with_net-grows ns x true e = record { more = []; is = with_net-known ns x e ∙ sym (append-nil ns) }
with_net-grows ns x false e = record { more = x ∷ []; is = with_net-new ns x e }

pub nets_after-grows : (ns xs : List (List ℕ)) → Grows ns (nets_after ns xs)
nets_after-grows ns [] = record { more = []; is = sym (append-nil ns) }
nets_after-grows ns (x ∷ xs) =
    let g = with_net-grows ns x (list_any (bytes_eq x) ns) refl in
    let k = nets_after-grows (with_net ns x) xs in
    record { more = g.more ++ k.more; is = k.is ∙ ap (λ ms. ms ++ k.more) g.is ∙ append_assoc ns g.more k.more }

-- the name is in the list that it was put into
pub with_net-has : (ns : List (List ℕ)) (x : List ℕ) (b : Bool) → list_any (bytes_eq x) ns ≡ b → list_any (bytes_eq x) (with_net ns x) ≡ true
with_net-has ns x true e = ap (list_any (bytes_eq x)) (with_net-known ns x e) ∙ e
with_net-has ns x false e =
    ap (list_any (bytes_eq x)) (with_net-new ns x e) ∙ list_any-append (bytes_eq x) ns (x ∷ []) ∙ rw (e, itself x) refl

-- a name's number in the list to which it is put is its number before, where a new name counts as the next
pub number-put : (ns : List (List ℕ)) (x : List ℕ) (b : Bool) → list_any (bytes_eq x) ns ≡ b → number (with_net ns x) x ≡ number ns x
number-put ns x true e = ap (λ ms. number ms x) (with_net-known ns x e)
number-put ns x false e =
    ap (λ ms. number ms x) (with_net-new ns x e)
    ∙ position-absent (bytes_eq x) ns (x ∷ []) e
    ∙ rw (itself x) (add-zero (length ns))
    ∙ sym (absent-length (bytes_eq x) ns e)

-- a net keeps its number
pub number-stays : (ns xs all : List (List ℕ)) (x : List ℕ) → all ≡ nets_after (with_net ns x) xs → number ns x ≡ number all x
number-stays ns xs all x e =
    let b = list_any (bytes_eq x) ns in
    let g = nets_after-grows (with_net ns x) xs in
    sym (ap (λ ms. number ms x) (e ∙ g.is)
    ∙ position-found (bytes_eq x) (with_net ns x) g.more (with_net-has ns x b refl)
    ∙ number-put ns x b refl)

-- ---- each name once

-- the others than d
abbrev other : List ℕ → List ℕ → Bool
other d y = not (bytes_eq d y)

pub apart : (d x : List ℕ) → bytes_eq x d ≡ false → bytes_eq d x ≡ false
apart d x h = apart_by d x (bytes_eq d x) refl h
  where
    apart_by : (d x : List ℕ) (b : Bool) → bytes_eq d x ≡ b → bytes_eq x d ≡ false → bytes_eq d x ≡ false
    apart_by d x false e h = e
    apart_by d x true e h =
        let same : d ≡ x = same_bytes d x e in
        let k : bytes_eq x x ≡ false = cc in
        let never : true ≡ false = sym (itself x) ∙ k in
        cc

-- a name other than d is among the others where it is in the list
among_by : (d x y : List ℕ) (ys : List (List ℕ)) (b : Bool) → bytes_eq d y ≡ b → bytes_eq x d ≡ false
    → list_any (bytes_eq x) (filter (other d) ys) ≡ list_any (bytes_eq x) ys
    → list_any (bytes_eq x) (filter (other d) (y ∷ ys)) ≡ list_any (bytes_eq x) (y ∷ ys)
among_by d x y ys true e h later =
    let same : d ≡ y = same_bytes d y e in
    let k : bytes_eq x y ≡ false = cc in
    rw (e, k) later
among_by d x y ys false e h later = rw e (ap (λ b. bytes_eq x y || b) later)

among : (d x : List ℕ) (ys : List (List ℕ)) → bytes_eq x d ≡ false → list_any (bytes_eq x) (filter (other d) ys) ≡ list_any (bytes_eq x) ys
among d x [] h = refl
among d x (y ∷ ys) h = among_by d x y ys (bytes_eq d y) refl h (among d x ys h)

kept_same : (d : List ℕ) (ys : List (List ℕ)) (x : List ℕ) (b : Bool) → bytes_eq x d ≡ true → list_any (bytes_eq x) ys ≡ b
    → filter (other d) (with_net ys x) ≡ filter (other d) ys
kept_same d ys x true e h = ap (filter (other d)) (with_net-known ys x h)
kept_same d ys x false e h =
    let same : x ≡ d = same_bytes x d e in
    let k : bytes_eq d x ≡ true = rw same (itself d) in
    ap (filter (other d)) (with_net-new ys x h) ∙ filter-append (other d) ys (x ∷ []) ∙ rw k (append-nil (filter (other d) ys))

kept_other : (d : List ℕ) (ys : List (List ℕ)) (x : List ℕ) (b : Bool) → bytes_eq x d ≡ false → list_any (bytes_eq x) ys ≡ b
    → with_net (d ∷ filter (other d) ys) x ≡ d ∷ filter (other d) (with_net ys x)
kept_other d ys x true e h =
    let k : list_any (bytes_eq x) (d ∷ filter (other d) ys) ≡ true = rw e (among d x ys e ∙ h) in
    with_net-known (d ∷ filter (other d) ys) x k ∙ ap (λ zs. d ∷ filter (other d) zs) (sym (with_net-known ys x h))
kept_other d ys x false e h =
    let k : list_any (bytes_eq x) (d ∷ filter (other d) ys) ≡ false = rw e (among d x ys e ∙ h) in
    let n = apart d x e in
    with_net-new (d ∷ filter (other d) ys) x k
    ∙ ap (λ zs. d ∷ zs) (sym (ap (filter (other d)) (with_net-new ys x h) ∙ filter-append (other d) ys (x ∷ []) ∙ rw n refl))

kept : (d : List ℕ) (ys : List (List ℕ)) (x : List ℕ) (b : Bool) → bytes_eq x d ≡ b
    → with_net (d ∷ filter (other d) ys) x ≡ d ∷ filter (other d) (with_net ys x)
kept d ys x true e =
    let k : list_any (bytes_eq x) (d ∷ filter (other d) ys) ≡ true = rw e refl in
    with_net-known (d ∷ filter (other d) ys) x k ∙ ap (λ zs. d ∷ zs) (sym (kept_same d ys x (list_any (bytes_eq x) ys) e refl))
kept d ys x false e = kept_other d ys x (list_any (bytes_eq x) ys) e refl

firsts-push : (ds : List (List ℕ)) (x : List ℕ) → firsts (ds ++ x ∷ []) ≡ with_net (firsts ds) x
firsts-push [] x = refl
firsts-push (d ∷ ds) x =
    ap (λ zs. d ∷ filter (other d) zs) (firsts-push ds x) ∙ sym (kept d (firsts ds) x (bytes_eq x d) refl)

firsts-after : (ds xs : List (List ℕ)) → nets_after (firsts ds) xs ≡ firsts (ds ++ xs)
firsts-after ds [] = ap firsts (sym (append-nil ds))
firsts-after ds (x ∷ xs) =
    ap (λ ns. nets_after ns xs) (sym (firsts-push ds x)) ∙ firsts-after (ds ++ x ∷ []) xs ∙ ap firsts (append_assoc ds (x ∷ []) xs)

-- the nets of a list of names
pub nets_are_firsts : (xs : List (List ℕ)) → nets_after [] xs ≡ firsts xs
nets_are_firsts xs = firsts-after [] xs
