-- The input pins of instances, by their nets.

use Rattle.std.proofs.Common.{◌≡◌, ℕ, ◌+◌, ◌*◌, ◌<◌, ◌≤◌, Bool, true, false, cond, eqb, List, [], ◌∷◌, ◌++◌, All, length, get_or, map, slice_index, refl, sym, ap, subst, ◌∙◌, arith}
use Rattle.std.proofs.lemmas.List.{get_or_default, map-append}
use Rattle.std.proofs.lemmas.List.FromFn.{fill_by_all, get_or-range_with_len, length-range_with_len}
use Rattle.std.proofs.lemmas.List.Sums.{sum_by-le}
use Rattle.std.specs.List.{filter, flat_map, range_with_len, sum_by}
use Rattle.gs_design.specs.Ends.{input_pins, pin_net, pins_of_inst, pins_on}
use Rattle.gs_design.specs.Insts.{Inst, inst_at, no_inst}
use Rattle.gs_list.specs.Groups.{by_key_of, with_key}
use Rattle.gs_link.proofs.WellInsts.{pins_few}
use Rattle.gs_link.proofs.WellLists.{all_flat}
use Rattle.gs_link.specs.Columns.{AreInside, inputs_at}

with_key-map : {X : Type 0} (f : X → ℕ) (k : ℕ) (xs : List X) → with_key k (map f xs) xs ≡ filter (λ x. eqb (f x) k) xs
with_key-map f k [] = refl
with_key-map f k (x ∷ xs) = by_test (eqb (f x) k) (with_key-map f k xs)
  where
    by_test : (b : Bool) → with_key k (map f xs) xs ≡ filter (λ y. eqb (f y) k) xs → cond b (x ∷ with_key k (map f xs) xs) (with_key k (map f xs) xs) ≡ cond b (x ∷ filter (λ y. eqb (f y) k) xs) (filter (λ y. eqb (f y) k) xs)
    by_test true e = ap (λ ys. x ∷ ys) e
    by_test false e = e

map-both : (insts : List Inst) (g : ℕ) (ps : List ℕ) → map (λ p. slice_index (inst_at insts g).inputs p) ps ≡ map (pin_net insts) (map (λ p. record { inst = g; pin = p }) ps)
map-both insts g [] = refl
map-both insts g (p ∷ ps) = ap (λ xs. slice_index (inst_at insts g).inputs p ∷ xs) (map-both insts g ps)

piece : (insts : List Inst) (g : ℕ) → inputs_at insts g ≡ map (pin_net insts) (pins_of_inst insts g)
piece insts g =
    fill_by_all (λ p. slice_index (inst_at insts g).inputs p) (inst_at insts g).inputs (length (inst_at insts g).inputs) 0 refl (λ p lt. refl)
    ∙ map-both insts g (range_with_len 0 (length (inst_at insts g).inputs))

flat_same : (insts : List Inst) (gs : List ℕ) → flat_map (inputs_at insts) gs ≡ map (pin_net insts) (flat_map (pins_of_inst insts) gs)
flat_same insts [] = refl
flat_same insts (g ∷ gs) =
    ap (λ xs. xs ++ flat_map (inputs_at insts) gs) (piece insts g)
    ∙ ap (λ xs. map (pin_net insts) (pins_of_inst insts g) ++ xs) (flat_same insts gs)
    ∙ sym (map-append (pin_net insts) (pins_of_inst insts g) (flat_map (pins_of_inst insts) gs))

pub keys_are : (insts : List Inst) → flat_map (inputs_at insts) (range_with_len 0 (length insts)) ≡ map (pin_net insts) (input_pins insts)
keys_are insts = flat_same insts (range_with_len 0 (length insts))

groups_same : (insts : List Inst) (ns : List ℕ) → map (λ n. with_key n (map (pin_net insts) (input_pins insts)) (input_pins insts)) ns ≡ map (pins_on insts) ns
groups_same insts [] = refl
groups_same insts (n ∷ ns) =
    ap (λ g. g ∷ map (λ n. with_key n (map (pin_net insts) (input_pins insts)) (input_pins insts)) ns) (with_key-map (pin_net insts) n (input_pins insts))
    ∙ ap (λ gs. pins_on insts n ∷ gs) (groups_same insts ns)

pub sinks_are : (insts : List Inst) (count : ℕ) (keys : List ℕ) → keys ≡ flat_map (inputs_at insts) (range_with_len 0 (length insts))
    → by_key_of count keys (input_pins insts) ≡ map (pins_on insts) (range_with_len 0 count)
sinks_are insts count keys e =
    ap (λ ks. by_key_of count ks (input_pins insts)) (e ∙ keys_are insts) ∙ groups_same insts (range_with_len 0 count)

pub keys_below : (insts : List Inst) (count : ℕ) → AreInside count insts → All (λ k. k < count) (flat_map (inputs_at insts) (range_with_len 0 (length insts)))
keys_below insts count inside =
    all_flat (λ k. k < count) (inputs_at insts) (range_with_len 0 (length insts))
    (λ g d lt.
    let in_g : g < length insts = omega (arith, length-range_with_len 0 (length insts)) in
    let is : get_or (range_with_len 0 (length insts)) g d ≡ g = get_or-range_with_len 0 (length insts) g d in_g ∙ omega arith in
    subst (λ x. All (λ k. k < count) (inputs_at insts x)) (sym is) (inside.inputs_in g in_g))

pub pins_below : (insts : List Inst) → ((g : ℕ) → g < length insts → length (inst_at insts g).inputs ≤ 6) → length (input_pins insts) ≤ length insts * 7
pins_below insts few =
    let most : sum_by (λ (i : Inst). length i.inputs + 1) insts ≤ length insts * 7 =
    sum_by-le (λ (i : Inst). length i.inputs + 1) 7 insts (λ g d lt. subst (λ (i : Inst). length i.inputs + 1 ≤ 7) (get_or_default insts g no_inst d lt) (omega (arith, few g lt))) in
    omega (arith, pins_few insts, most)
