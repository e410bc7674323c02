-- The nets at the inputs of instances, as they follow one another in one list.

use Rattle.std.proofs.Common.{◌≡◌, ℕ, ◌+◌, ◌<◌, ◌≤◌, List, [], ◌∷◌, ◌++◌, length, length-drop, get_or, map, take, drop, refl, sym, ap, subst, ◌∙◌, arith}
use Rattle.std.proofs.lemmas.List.{drop-drop, drop_more, length-map, map-append, take-map}
use Rattle.std.proofs.lemmas.Simd.{map-map}
use Rattle.std.specs.List.{flat_map}
use Rattle.gs_design.specs.declared.cell.Cell.{Cell}
use Rattle.gs_design.specs.declared.pin.CellPin.{CellPin}
use Rattle.gs_link.specs.Columns.{BeginsWith, new_inputs}
use Rattle.gs_survey.specs.Instances.{cell_of}
use Rattle.gs_survey.specs.Uses.{all_input_nets, input_nets, inputs_of, net_at_pin}
use Rattle.gs_verilog.specs.declared.parts.RawInst.{RawInst}

begins_with : (a b : List ℕ) → BeginsWith a (a ++ b)
begins_with [] b = refl
begins_with (x ∷ a) b = ap (λ ys. x ∷ ys) (begins_with a b)

pub begins : (a b all : List ℕ) → all ≡ a ++ b → BeginsWith a all
begins a b all e = subst (BeginsWith a) (sym e) (begins_with a b)

first_part : (a b all : List ℕ) → BeginsWith (a ++ b) all → a ≡ take (length a) all
first_part [] b all e = refl
first_part (x ∷ a) b [] e = absurd cc
first_part (x ∷ a) b (y ∷ all) e =
    let rest : BeginsWith (a ++ b) all = cc in
    let same : x ≡ y = cc in
    rw (same, ← first_part a b all rest) refl

later_part : (a b all : List ℕ) → BeginsWith (a ++ b) all → BeginsWith b (drop (length a) all)
later_part [] b all e = e
later_part (x ∷ a) b [] e = absurd cc
later_part (x ∷ a) b (y ∷ all) e = let rest : BeginsWith (a ++ b) all = cc in later_part a b all rest

fits : (a b all : List ℕ) → BeginsWith (a ++ b) all → length a ≤ length all
fits [] b all e = omega arith
fits (x ∷ a) b [] e = absurd cc
fits (x ∷ a) b (y ∷ all) e = let rest : BeginsWith (a ++ b) all = cc in let le : length a ≤ length all = fits a b all rest in omega arith

module _ (cells : List Cell) (numbers : List ℕ) where
  -- the new numbers of all that are read
  pub renamed : (insts : List RawInst) → flat_map (new_inputs cells numbers) insts ≡ map (λ n. get_or numbers n 0) (all_input_nets cells insts)
  renamed [] = refl
  renamed (i ∷ insts) =
      let one : new_inputs cells numbers i ≡ map (λ n. get_or numbers n 0) (input_nets cells i) = sym (map-map (λ n. get_or numbers n 0) (net_at_pin i.links) (inputs_of (cell_of cells i))) in
      rw (one, renamed insts) (sym (map-append (λ n. get_or numbers n 0) (input_nets cells i) (all_input_nets cells insts)))

  pub renamed_first : (insts : List RawInst) (reads nets : List ℕ) → BeginsWith (all_input_nets cells insts) reads → nets ≡ map (λ n. get_or numbers n 0) reads
      → BeginsWith (flat_map (new_inputs cells numbers) insts) nets
  renamed_first insts reads nets first e =
      let h : ℕ → ℕ = λ n. get_or numbers n 0 in
      let all = all_input_nets cells insts in
      let long : length (flat_map (new_inputs cells numbers) insts) ≡ length all = ap length (renamed insts) ∙ length-map all h in
      renamed insts ∙ ap (map h) first ∙ sym (take-map h (length all) reads) ∙ ap (take (length all)) (sym e) ∙ ap (λ k. take k nets) (sym long)

  module _ (insts : List RawInst) (i : ℕ) (x : RawInst) (lt : i < length insts) (is : x ≡ get_or insts i x) (nets : List ℕ) (start : ℕ)
      (left : BeginsWith (flat_map (new_inputs cells numbers) (drop i insts)) (drop start nets)) where
    apart : flat_map (new_inputs cells numbers) (drop i insts) ≡ new_inputs cells numbers x ++ flat_map (new_inputs cells numbers) (drop (i + 1) insts)
    apart = ap (flat_map (new_inputs cells numbers)) (drop_more insts i x lt ∙ ap (λ y. y ∷ drop (i + 1) insts) (sym is))

    parts : BeginsWith (new_inputs cells numbers x ++ flat_map (new_inputs cells numbers) (drop (i + 1) insts)) (drop start nets)
    parts = subst (λ xs. BeginsWith xs (drop start nets)) apart left

    pub many : length (new_inputs cells numbers x) ≡ length (inputs_of (cell_of cells x))
    many = length-map (inputs_of (cell_of cells x)) (λ (p : CellPin). get_or numbers (net_at_pin x.links p) 0)

    pub group_is : (count : ℕ) → count ≡ length (inputs_of (cell_of cells x)) → take count (drop start nets) ≡ new_inputs cells numbers x
    group_is count e = ap (λ k. take k (drop start nets)) (e ∙ sym many) ∙ sym (first_part (new_inputs cells numbers x) (flat_map (new_inputs cells numbers) (drop (i + 1) insts)) (drop start nets) parts)

    pub left_on : (count : ℕ) → count ≡ length (inputs_of (cell_of cells x)) → BeginsWith (flat_map (new_inputs cells numbers) (drop (i + 1) insts)) (drop (start + count) nets)
    left_on count e =
        subst (BeginsWith (flat_map (new_inputs cells numbers) (drop (i + 1) insts))) (drop-drop (length (new_inputs cells numbers x)) start nets ∙ ap (λ k. drop (start + k) nets) (many ∙ sym e))
        (later_part (new_inputs cells numbers x) (flat_map (new_inputs cells numbers) (drop (i + 1) insts)) (drop start nets) parts)

    pub count_in : (count : ℕ) → count ≡ length (inputs_of (cell_of cells x)) → start ≤ length nets → start + count ≤ length nets
    count_in count e le =
        let in_rest : length (new_inputs cells numbers x) ≤ length (drop start nets) = fits (new_inputs cells numbers x) (flat_map (new_inputs cells numbers) (drop (i + 1) insts)) (drop start nets) parts in
        omega (arith, in_rest, many, length-drop start nets)
