-- Cells that may take each other's place are those of one key.

use Rattle.std.specs.Prelude.{not}
use Rattle.std.proofs.Common.{◌≡◌, ◌∙◌, ap, sym, subst, refl, ℕ, zero, suc, ◌+◌, ◌<◌, ◌≤◌, ◌==◌, nat_lt, List, [], ◌∷◌, ◌++◌, length, get_or, map, take, filter, Bool, true, false, cond, ◌&&◌, ◌||◌, Option, None, Some, arith, eqb}
use Rattle.std.specs.BTreeMap.{get, is_at}
use Rattle.std.specs.Cmp.Lexicographic.{pointwise, slice_cmp}
use Rattle.std.specs.List.{flat_map, list_any}
use Rattle.std.specs.Option.{unwrap_or}
use Rattle.std.specs.Ordering.{is_eq, nat_cmp, ordering_then}
use Rattle.std.specs.declared.cmp.Ordering.{Ordering}
use Rattle.std.specs.declared.cmp.Ordering.TheVariants.{Less, Equal, Greater}
use Rattle.std.specs.Str.{bytes_eq}
use Rattle.std.proofs.lemmas.Bool.Decides.{Decides-eqb, nat_tests}
use Rattle.std.proofs.lemmas.Cmp.{nat_list_eq_equiv}
use Rattle.std.proofs.lemmas.List.{take_more, map-append}
use Rattle.std.proofs.lemmas.Map.Text.{is_eq-slice_cmp}
use Rattle.std.proofs.lemmas.Slice.Eq.{bytes_eq-Decides}
use Rattle.gs_design.specs.Alternatives.{same_truth}
use Rattle.gs_design.specs.Cell.{is_gate, pin_name}
use Rattle.gs_design.specs.declared.cell.Cell.{Cell}
use Rattle.gs_design.specs.declared.kind.CellKind.{CellKind}
use Rattle.gs_design.specs.declared.kind.CellKind.TheVariants.{Gate, Flop}
use Rattle.gs_lib.specs.Classes.{Key, class_key, coded, has_key, key_by, key_cmp, key_count, matches_by, same_key}
use Rattle.gs_lib.specs.Draft.{CellLists, cell_lists}
use Rattle.gs_lib.specs.Library.{alike_lists, has_large_class, is_sizable_lists, same_pins_lists}
use Rattle.gs_lib.proofs.Lists.{filter_push}

-- ---- names as bytes

and_assoc : (a b c : Bool) → a && (b && c) ≡ (a && b) && c
and_assoc true b c = refl
and_assoc false b c = refl

-- two names in front
coded_front : (n m r s : List ℕ) → bytes_eq (coded n ++ r) (coded m ++ s) ≡ bytes_eq n m && bytes_eq r s
coded_front [] [] r s = refl
coded_front [] (c ∷ cs) r s = refl
coded_front (b ∷ bs) [] r s = refl
coded_front (b ∷ bs) (c ∷ cs) r s = ap (λ e. eqb b c && e) (coded_front bs cs r s) ∙ and_assoc (eqb b c) (bytes_eq bs cs) (bytes_eq r s)

none_some : (n r : List ℕ) → bytes_eq [] (coded n ++ r) ≡ false
none_some [] r = refl
none_some (b ∷ bs) r = refl

some_none : (n r : List ℕ) → bytes_eq (coded n ++ r) [] ≡ false
some_none [] r = refl
some_none (b ∷ bs) r = refl

pub coded_same : (xs ys : List (List ℕ)) → bytes_eq (flat_map coded xs) (flat_map coded ys) ≡ pointwise bytes_eq xs ys
coded_same [] [] = refl
coded_same [] (y ∷ ys) = none_some y (flat_map coded ys)
coded_same (x ∷ xs) [] = some_none x (flat_map coded xs)
coded_same (x ∷ xs) (y ∷ ys) = coded_front x y (flat_map coded xs) (flat_map coded ys) ∙ ap (λ e. bytes_eq x y && e) (coded_same xs ys)

-- ---- keys

and_none : (a b : Bool) → a ≡ false → (a && b) ≡ false
and_none true b e = let never : true ≡ false = e in cc
and_none false b e = refl

second_none : (a b : Bool) → b ≡ false → (a && b) ≡ false
second_none true b e = e
second_none false b e = refl

-- ---- a cell's class by its key
sizable : (x : CellLists) (marked : Bool) (kind : CellKind) → x.marked ≡ marked → x.kind ≡ kind → is_sizable_lists x ≡ (not marked && is_gate kind)
sizable x marked kind e f = rw (e, f) refl

swap : (a b : Bool) → a && b ≡ b && a
swap true true = refl
swap true false = refl
swap false true = refl
swap false false = refl

alike_by : (t : ℕ) (cnames : List (List ℕ)) (m : Bool) (k : CellKind) (xnames : List (List ℕ)) (foot pins : Bool)
    → foot && pins ≡ pointwise bytes_eq cnames xnames
    → (true && (not m && is_gate k)) && (foot && (pins && same_truth (Gate t) k)) ≡ matches_by (t, flat_map coded cnames) (key_by m k xnames)
alike_by t cnames true k xnames foot pins e = refl
alike_by t cnames false Flop xnames foot pins e = refl
alike_by t cnames false (Gate u) xnames foot pins e =
    and_assoc foot pins (eqb t u)
    ∙ ap (λ b. b && eqb t u) (e ∙ sym (coded_same cnames xnames))
    ∙ swap (bytes_eq (flat_map coded cnames) (flat_map coded xnames)) (eqb t u)

alike_of : (c x : CellLists) (k : Key) (m : Bool) (kind : CellKind) → c.marked ≡ m → c.kind ≡ kind → class_key c ≡ Some k → alike_lists c x ≡ has_key k x
alike_of c x k true kind e f h =
    let key : class_key c ≡ None = rw e refl in
    let never : None ≡ Some k = sym key ∙ h in
    cc
alike_of c x k false Flop e f h =
    let key : class_key c ≡ None = rw (e, f) refl in
    let never : None ≡ Some k = sym key ∙ h in
    cc
alike_of c x k false (Gate t) e f h =
    let key : class_key c ≡ Some (t, flat_map coded (c.footprint ∷ map pin_name c.pins)) = rw (e, f) refl in
    let some : Some (t, flat_map coded (c.footprint ∷ map pin_name c.pins)) ≡ Some k = sym key ∙ h in
    let same : (t, flat_map coded (c.footprint ∷ map pin_name c.pins)) ≡ k = cc in
    ap (λ s. (s && is_sizable_lists x) && (bytes_eq c.footprint x.footprint && (same_pins_lists c x && same_truth c.kind x.kind))) (sizable c false (Gate t) e f)
    ∙ ap (λ kd. (true && is_sizable_lists x) && (bytes_eq c.footprint x.footprint && (same_pins_lists c x && same_truth kd x.kind))) f
    ∙ alike_by t (c.footprint ∷ map pin_name c.pins) x.marked x.kind (x.footprint ∷ map pin_name x.pins) (bytes_eq c.footprint x.footprint) (same_pins_lists c x) refl
    ∙ ap (λ q. has_key q x) same

pub alike_key : (c x : CellLists) (k : Key) → class_key c ≡ Some k → alike_lists c x ≡ has_key k x
alike_key c x k h = alike_of c x k c.marked c.kind refl refl h

lonely_of : (c x : CellLists) (m : Bool) (kind : CellKind) → c.marked ≡ m → c.kind ≡ kind → class_key c ≡ None → alike_lists c x ≡ false
lonely_of c x true kind e f h = ap (λ s. (s && is_sizable_lists x) && (bytes_eq c.footprint x.footprint && (same_pins_lists c x && same_truth c.kind x.kind))) (sizable c true kind e f)
lonely_of c x false Flop e f h = ap (λ s. (s && is_sizable_lists x) && (bytes_eq c.footprint x.footprint && (same_pins_lists c x && same_truth c.kind x.kind))) (sizable c false Flop e f)
lonely_of c x false (Gate t) e f h =
    let key : class_key c ≡ Some (t, flat_map coded (c.footprint ∷ map pin_name c.pins)) = rw (e, f) refl in
    let never : Some (t, flat_map coded (c.footprint ∷ map pin_name c.pins)) ≡ None = sym key ∙ h in
    cc

pub lonely : (c x : CellLists) → class_key c ≡ None → alike_lists c x ≡ false
lonely c x h = lonely_of c x c.marked c.kind refl refl h
