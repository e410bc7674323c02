-- Cells that may take each other's place are those of one key.

use Rattle.std.specs.Prelude.{not}
use Rattle.std.proofs.Common.{◌≡◌, ◌∙◌, ap, sym, refl, ℕ, List, [], ◌∷◌, ◌++◌, map, Bool, true, false, cond, ◌&&◌, Option, None, Some, arith, eqb, nat_lt}
use Rattle.std.specs.BTreeMap.{is_at}
use Rattle.std.specs.Cmp.Lexicographic.{pointwise, slice_cmp}
use Rattle.std.specs.List.{flat_map}
use Rattle.std.specs.Ordering.{is_eq, nat_cmp, ordering_then}
use Rattle.std.specs.declared.cmp.Ordering.{Ordering}
use Rattle.std.specs.declared.cmp.Ordering.TheVariants.{Less, Equal, Greater}
use Rattle.std.specs.Str.{bytes_eq}
use Rattle.std.proofs.lemmas.Bool.Decides.{Decides-eqb, nat_tests}
use Rattle.std.proofs.lemmas.Map.Text.{is_eq-slice_cmp}
use Rattle.std.proofs.lemmas.Slice.Eq.{bytes_eq-Decides}
use Rattle.gs_design.specs.Alternatives.{alike, is_sizable, same_pins, same_truth}
use Rattle.gs_design.specs.Cell.{is_gate, pin_name}
use Rattle.gs_design.specs.declared.cell.Cell.{Cell}
use Rattle.gs_design.specs.declared.kind.CellKind.{CellKind}
use Rattle.gs_design.specs.declared.kind.CellKind.TheVariants.{Gate, Flop}
use Rattle.gs_alternatives.specs.Classes.{Key, class_key, coded, has_key, key_by, key_cmp, matches_by, same_key}

-- ---- names as bytes

and_assoc : (a b c : Bool) → a && (b && c) ≡ (a && b) && c
and_assoc true b c = refl
and_assoc false b c = refl

-- two names in front
coded_front : (n m r s : List ℕ) → bytes_eq (coded n ++ r) (coded m ++ s) ≡ bytes_eq n m && bytes_eq r s
coded_front [] [] r s = refl
coded_front [] (c ∷ cs) r s = refl
coded_front (b ∷ bs) [] r s = refl
coded_front (b ∷ bs) (c ∷ cs) r s = ap (λ e. eqb b c && e) (coded_front bs cs r s) ∙ and_assoc (eqb b c) (bytes_eq bs cs) (bytes_eq r s)

none_some : (n r : List ℕ) → bytes_eq [] (coded n ++ r) ≡ false
none_some [] r = refl
none_some (b ∷ bs) r = refl

some_none : (n r : List ℕ) → bytes_eq (coded n ++ r) [] ≡ false
some_none [] r = refl
some_none (b ∷ bs) r = refl

coded_same : (xs ys : List (List ℕ)) → bytes_eq (flat_map coded xs) (flat_map coded ys) ≡ pointwise bytes_eq xs ys
coded_same [] [] = refl
coded_same [] (y ∷ ys) = none_some y (flat_map coded ys)
coded_same (x ∷ xs) [] = some_none x (flat_map coded xs)
coded_same (x ∷ xs) (y ∷ ys) = coded_front x y (flat_map coded xs) (flat_map coded ys) ∙ ap (λ e. bytes_eq x y && e) (coded_same xs ys)

-- ---- a cell's class by its key

sizable : (x : Cell) (marked : Bool) (kind : CellKind) → x.marked ≡ marked → x.kind ≡ kind → is_sizable x ≡ (not marked && is_gate kind)
sizable x marked kind e f = ap (λ m. not m && is_gate x.kind) e ∙ ap (λ k. not marked && is_gate k) f

key_is : (x : Cell) (marked : Bool) (kind : CellKind) → x.marked ≡ marked → x.kind ≡ kind → class_key x ≡ key_by marked kind (x.footprint ∷ map pin_name x.pins)
key_is x marked kind e f = ap (λ m. key_by m x.kind (x.footprint ∷ map pin_name x.pins)) e ∙ ap (λ k. key_by marked k (x.footprint ∷ map pin_name x.pins)) f

swap : (a b : Bool) → a && b ≡ b && a
swap true true = refl
swap true false = refl
swap false true = refl
swap false false = refl

alike_by : (t : ℕ) (cnames : List (List ℕ)) (m : Bool) (k : CellKind) (xnames : List (List ℕ)) (foot pins : Bool)
    → foot && pins ≡ pointwise bytes_eq cnames xnames
    → (true && (not m && is_gate k)) && (foot && (pins && same_truth (Gate t) k)) ≡ matches_by (t, flat_map coded cnames) (key_by m k xnames)
alike_by t cnames true k xnames foot pins e = refl
alike_by t cnames false Flop xnames foot pins e = refl
alike_by t cnames false (Gate u) xnames foot pins e =
    and_assoc foot pins (eqb t u)
    ∙ ap (λ b. b && eqb t u) (e ∙ sym (coded_same cnames xnames))
    ∙ swap (bytes_eq (flat_map coded cnames) (flat_map coded xnames)) (eqb t u)

alike_of : (c x : Cell) (k : Key) (m : Bool) (kind : CellKind) → c.marked ≡ m → c.kind ≡ kind → class_key c ≡ Some k → alike c x ≡ has_key k x
alike_of c x k true kind e f h =
    let never : None ≡ Some k = sym (key_is c true kind e f) ∙ h in
    cc
alike_of c x k false Flop e f h =
    let never : None ≡ Some k = sym (key_is c false Flop e f) ∙ h in
    cc
alike_of c x k false (Gate t) e f h =
    let some : Some (t, flat_map coded (c.footprint ∷ map pin_name c.pins)) ≡ Some k = sym (key_is c false (Gate t) e f) ∙ h in
    let same : (t, flat_map coded (c.footprint ∷ map pin_name c.pins)) ≡ k = cc in
    ap (λ s. (s && is_sizable x) && (bytes_eq c.footprint x.footprint && (same_pins c x && same_truth c.kind x.kind))) (sizable c false (Gate t) e f)
    ∙ ap (λ kd. (true && is_sizable x) && (bytes_eq c.footprint x.footprint && (same_pins c x && same_truth kd x.kind))) f
    ∙ alike_by t (c.footprint ∷ map pin_name c.pins) x.marked x.kind (x.footprint ∷ map pin_name x.pins) (bytes_eq c.footprint x.footprint) (same_pins c x) refl
    ∙ ap (λ q. has_key q x) same

-- the cells alike to one with a key are those that have it
pub alike_key : (c x : Cell) (k : Key) → class_key c ≡ Some k → alike c x ≡ has_key k x
alike_key c x k h = alike_of c x k c.marked c.kind refl refl h

some_sizable : (c : Cell) (k : Key) (m : Bool) (kind : CellKind) → c.marked ≡ m → c.kind ≡ kind → class_key c ≡ Some k → is_sizable c ≡ true
some_sizable c k true kind e f h = let never : None ≡ Some k = sym (key_is c true kind e f) ∙ h in cc
some_sizable c k false Flop e f h = let never : None ≡ Some k = sym (key_is c false Flop e f) ∙ h in cc
some_sizable c k false (Gate t) e f h = sizable c false (Gate t) e f

none_sizable : (c : Cell) (m : Bool) (kind : CellKind) → c.marked ≡ m → c.kind ≡ kind → class_key c ≡ None → is_sizable c ≡ false
none_sizable c true kind e f h = sizable c true kind e f
none_sizable c false Flop e f h = sizable c false Flop e f
none_sizable c false (Gate t) e f h =
    let never : ◌≡◌ {A = Option Key} (Some (t, flat_map coded (c.footprint ∷ map pin_name c.pins))) None = sym (key_is c false (Gate t) e f) ∙ h in
    cc

-- a cell has a key exactly where it is sizable
pub keyed_sizable : (c : Cell) (k : Key) → class_key c ≡ Some k → is_sizable c ≡ true
keyed_sizable c k h = some_sizable c k c.marked c.kind refl refl h

pub unkeyed : (c : Cell) → class_key c ≡ None → is_sizable c ≡ false
unkeyed c h = none_sizable c c.marked c.kind refl refl h

-- ---- keys

and_first : (a b : Bool) → a && b ≡ true → a ≡ true
and_first true b h = refl
and_first false b h = h

and_second : (a b : Bool) → a && b ≡ true → b ≡ true
and_second true b h = h
and_second false b h = let never : false ≡ true = h in cc

pub key_exact : (a b : Key) → same_key a b ≡ true → a ≡ b
key_exact a b h =
    let x : a.0 ≡ b.0 = (Decides-eqb a.0 b.0).0 (and_first (eqb a.0 b.0) (bytes_eq a.1 b.1) h) in
    let y : a.1 ≡ b.1 = (bytes_eq-Decides a.1 b.1).0 (and_second (eqb a.0 b.0) (bytes_eq a.1 b.1) h) in
    λ i. (x i, y i)

pub key_self : (a : Key) → same_key a a ≡ true
key_self a =
    let x : eqb a.0 a.0 ≡ true = (Decides-eqb a.0 a.0).1 refl in
    let y : bytes_eq a.1 a.1 ≡ true = (bytes_eq-Decides a.1 a.1).1 refl in
    ap (λ e. e && bytes_eq a.1 a.1) x ∙ y

then_eq : (a b : Ordering) → is_eq (ordering_then a b) ≡ is_eq a && is_eq b
then_eq Less b = refl
then_eq Equal b = refl
then_eq Greater b = refl

eq_cond : (b : Bool) → is_eq (cond b Equal Greater) ≡ b
eq_cond true = refl
eq_cond false = refl

nat_eq_by : (x y : ℕ) (b : Bool) → nat_lt x y ≡ b → is_eq (cond b Less (cond (eqb x y) Equal Greater)) ≡ eqb x y
nat_eq_by x y true e =
    let apart : eqb x y ≡ false = grind (arith, nat_tests) in
    sym apart
nat_eq_by x y false e = eq_cond (eqb x y)

nat_eq_cmp : (x y : ℕ) → is_eq (nat_cmp x y) ≡ eqb x y
nat_eq_cmp x y = nat_eq_by x y (nat_lt x y) refl

-- the map finds a key by the test of keys
pub at_key : (k q : Key) → is_at (key_cmp k) q ≡ same_key k q
at_key k q =
    then_eq (nat_cmp k.0 q.0) (slice_cmp nat_cmp k.1 q.1)
    ∙ ap (λ e. e && is_eq (slice_cmp nat_cmp k.1 q.1)) (nat_eq_cmp k.0 q.0)
    ∙ ap (λ e. eqb k.0 q.0 && e) (is_eq-slice_cmp k.1 q.1)
