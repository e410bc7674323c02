-- What the order of the nets of a linked design keeps.

use Rattle.std.proofs.Common.{Result, Ok, Err, IfOk, ◌≡◌, ◌≢◌, ◌∙◌, ap, sym, subst, refl, ℕ, zero, suc, ◌+◌, ◌<◌, ◌≤◌, ◌==◌, List, [], ◌∷◌, All, AllPairs, length, get_or, slice_index, map, take, Bool, true, false, if◌then◌else◌, eqb, arith, inl, inr}
use Rattle.std.specs.Prelude.{IsPermutation, max}
use Rattle.std.specs.List.{flat_map, position_or_len, range_with_len}
use Rattle.std.proofs.lemmas.Bool.{cases_lt, eq-eqb, eqb-true}
use Rattle.std.proofs.lemmas.Bool.Decides.{Decides-eqb, same_from_decides}
use Rattle.std.proofs.lemmas.List.{get_or-map, get_or_default, length-map}
use Rattle.std.proofs.lemmas.List.Concat.{get_or-flat_map}
use Rattle.std.proofs.lemmas.List.Folds.{length-flat_map-take, list_any_at}
use Rattle.std.proofs.lemmas.List.FromFn.{get_or-map-range_with_len, get_or-range_with_len, length-map-range_with_len, length-range_with_len}
use Rattle.std.proofs.lemmas.List.Sorted.{All-permutation, length_permutation, list_any-IsPermutation}
use Rattle.std.proofs.lemmas.List.Sums.{passes_at_first}
use Rattle.std.proofs.lemmas.Map.Keys.{IsDistinct-IsPermutation}
use Rattle.std.proofs.lemmas.Map.Made.{AllPairs-from_IsDistinct, IsDistinct-from_AllPairs}
use Rattle.gs_design.specs.Design.{IsOrder as IsDesignOrder}
use Rattle.gs_design.specs.Ends.{is_gate_inst}
use Rattle.gs_design.specs.Insts.{Inst, inst_at, no_inst}
use Rattle.gs_design.specs.declared.cell.Cell.{Cell}
use Rattle.gs_levels.specs.Levels.{ComesFirst, above}
use Rattle.gs_levels.specs.declared.edges.Edge.{Edge}
use Rattle.gs_link.specs.Linked.{IsByLevel, edges_of, gate_edges, ranks_of}
use Rattle.gs_link.proofs.WellLists.{numbers_in, position_in}

-- ---- a permutation of the numbers below a count, and the place of each

numbers_differ : (n : ℕ) → AllPairs (λ x y. x ≢ y) (range_with_len 0 n)
numbers_differ n i j d ij lt =
    let j_in : j < n = omega (arith, length-range_with_len 0 n) in
    rw (get_or-range_with_len 0 n i d (omega arith), get_or-range_with_len 0 n j d j_in) (λ e. omega arith)

eqb_swap : (x y : ℕ) → eqb x y ≡ eqb y x
eqb_swap x y =
    let d = Decides-eqb y x in
    same_from_decides (eqb x y) (eqb y x) (Decides-eqb x y) ((λ h. sym (d.0 h)), (λ e. d.1 (sym e)))

module _ (count : ℕ) (order : List ℕ) (once : IsPermutation (range_with_len 0 count) order) where
  order_many : length order ≡ count
  order_many = length_permutation (range_with_len 0 count) order once ∙ length-range_with_len 0 count

  order_in : All (λ n. n < count) order
  order_in = All-permutation (λ n. n < count) (range_with_len 0 count) order once (numbers_in count)

  order_apart : AllPairs (λ x y. x ≢ y) order
  order_apart =
      AllPairs-from_IsDistinct Decides-eqb order (IsDistinct-IsPermutation eqb eqb_swap (range_with_len 0 count) order once (IsDistinct-from_AllPairs Decides-eqb (range_with_len 0 count) (numbers_differ count)))

  abbrev place : ℕ → ℕ
  place n = position_or_len (λ m. m == n) order

  place_in : (n : ℕ) → n < count → place n < length order
  place_in n lt =
      position_in (λ m. m == n) order
      (sym (list_any-IsPermutation (λ m. m == n) (range_with_len 0 count) order once)
      ∙ list_any_at (λ m. m == n) (range_with_len 0 count) n 0 (omega (arith, length-range_with_len 0 count))
      (eq-eqb (slice_index (range_with_len 0 count) n) n (get_or-range_with_len 0 count n 0 lt ∙ omega arith)))

  at_place : (n : ℕ) → n < count → slice_index order (place n) ≡ n
  at_place n lt = eqb-true (slice_index order (place n)) n (passes_at_first (λ m. m == n) order 0 (place_in n lt))

  place_of : (i : ℕ) → i < count → place (slice_index order i) ≡ i
  place_of i lt =
      let n = slice_index order i in
      let n_in : n < count = order_in i 0 (omega (arith, order_many)) in
      same_place (place n) (place_in n n_in) (at_place n n_in)
    where
      same_place : (j : ℕ) → j < length order → slice_index order j ≡ slice_index order i → j ≡ i
      same_place j j_in e = elim (cases_lt j i) [
        | inl low ↦ absurd (order_apart j i 0 low (omega (arith, order_many)) e)
        | inr high ↦ elim (cases_lt i j) [
          | inl more ↦ absurd (order_apart i j 0 more j_in (sym e))
          | inr same ↦ omega arith
        ]
      ]

  rank_is : (n : ℕ) → n < count → slice_index (ranks_of order) n ≡ place n
  rank_is n lt = get_or-map-range_with_len (λ m. position_or_len (λ x. x == m) order) 0 (length order) n n 0 (omega (arith, order_many)) (omega arith)

  pub order_kept : IsDesignOrder count order (ranks_of order)
  order_kept = record {
    ordered = order_many;
    ranked = length-map-range_with_len (λ m. position_or_len (λ x. x == m) order) 0 (length order) ∙ order_many;
    net_in = λ i lt. order_in i 0 (omega (arith, order_many));
    rank_in = λ n lt. omega (arith, rank_is n lt, place_in n lt, order_many);
    rank_of_net = λ i lt. rank_is (slice_index order i) (order_in i 0 (omega (arith, order_many))) ∙ place_of i lt;
    net_of_rank = λ n lt. ap (slice_index order) (rank_is n lt) ∙ at_place n lt;
  }

  -- the levels rise along it
  module _ (level : List ℕ) (rising : (i : ℕ) → i + 1 < length order → ComesFirst level (slice_index order i) (slice_index order (i + 1))) where
    level_step : (i : ℕ) → i + 1 < length order → slice_index level (slice_index order i) ≤ slice_index level (slice_index order (i + 1))
    level_step i lt = elim (rising i lt) [
      | inl low ↦ omega (arith, low)
      | inr same ↦ omega (arith, same.0)
    ]

    levels_rise : (i j : ℕ) → i ≤ j → j < length order → slice_index level (slice_index order i) ≤ slice_index level (slice_index order j)
    levels_rise i zero le lt =
        let none : i ≡ 0 = omega arith in
        omega (arith, ap (λ x. slice_index level (slice_index order x)) none)
    levels_rise i (suc j) le lt = elim (cases_lt j i) [
      | inl low ↦
          let same : i ≡ suc j = omega arith in
          omega (arith, ap (λ x. slice_index level (slice_index order x)) same)
      | inr high ↦
          let one : j + 1 ≡ suc j = omega arith in
          omega (arith, levels_rise i j high (omega arith), level_step j (omega arith), ap (λ x. slice_index level (slice_index order x)) one)
    ]

    pub rank_lt : (m n : ℕ) → m < count → n < count → slice_index level m < slice_index level n → slice_index (ranks_of order) m < slice_index (ranks_of order) n
    rank_lt m n m_in n_in low = elim (cases_lt (place m) (place n)) [
      | inl less ↦ omega (arith, less, rank_is m m_in, rank_is n n_in)
      | inr more ↦ absurd (omega (arith, low, levels_rise (place n) (place m) more (place_in m m_in), ap (slice_index level) (at_place m m_in), ap (slice_index level) (at_place n n_in)))
    ]

-- ---- edges

-- the level of an edge's end is above that of its begin
above_edge : (edges : List Edge) (level : List ℕ) (i : ℕ) (d : Edge) (n : ℕ) → i < length edges → (get_or edges i d).to ≡ n → slice_index level (get_or edges i d).from < above edges level n
above_edge [] level i d n lt is = absurd (omega arith)
above_edge (e ∷ edges) level zero d n lt is =
    let here : above (e ∷ edges) level n ≡ max (slice_index level e.from + 1) (above edges level n) = ap (λ b. if b then max (slice_index level e.from + 1) (above edges level n) else above edges level n) (eq-eqb e.to n is) in
    omega (arith, here)
above_edge (e ∷ edges) level (suc i) d n lt is = by_test (e.to == n) (above_edge edges level i d n (omega arith) is)
  where
    by_test : (b : Bool) → slice_index level (get_or edges i d).from < above edges level n → slice_index level (get_or edges i d).from < (if b then max (slice_index level e.from + 1) (above edges level n) else above edges level n)
    by_test true h = omega (arith, h)
    by_test false h = h

module _ (cells : List Cell) (insts : List Inst) (nodes : ℕ) (order : List ℕ) (by_level : IsByLevel nodes (edges_of cells insts) order) where
  levels_many : length by_level.level ≡ nodes
  levels_many = by_level.leveled.each

  once : IsPermutation (range_with_len 0 nodes) order
  once = subst (λ n. IsPermutation (range_with_len 0 n) order) levels_many by_level.ordered.once

  pub order_length : length order ≡ nodes
  order_length = order_many nodes order once

  pub is_order : IsDesignOrder nodes order (ranks_of order)
  is_order = order_kept nodes order once

  gate_edge : (g p : ℕ) (b : Bool) → is_gate_inst cells (inst_at insts g) ≡ b → b ≡ true → gate_edges cells (inst_at insts g) ≡ map (λ m. record { from = m; to = (inst_at insts g).output }) (inst_at insts g).inputs
  gate_edge g p true e h = ap (λ t. if t then map (λ m. record { from = m; to = (inst_at insts g).output }) (inst_at insts g).inputs else []) e
  gate_edge g p false e h = absurd cc

  -- an input net of a gate is below its output net
  input_below : (g p : ℕ) → g < length insts → p < length (inst_at insts g).inputs → is_gate_inst cells (inst_at insts g) ≡ true → (inst_at insts g).output < nodes
      → slice_index by_level.level (slice_index (inst_at insts g).inputs p) < slice_index by_level.level (inst_at insts g).output
  input_below g p lt in_p gate out =
      let no : Edge = record { from = 0; to = 0 } in
      let i = inst_at insts g in
      let own : gate_edges cells i ≡ map (λ m. record { from = m; to = i.output }) i.inputs = gate_edge g p true gate refl in
      let many : length (gate_edges cells i) ≡ length i.inputs = ap length own ∙ length-map i.inputs (λ (m : ℕ). record { from = m; to = i.output }) in
      let at_p : get_or (gate_edges cells i) p no ≡ record { from = slice_index i.inputs p; to = i.output } =
      ap (λ es. get_or es p no) own ∙ get_or-map (λ m. record { from = m; to = i.output }) i.inputs p 0 no in_p in
      let index : length (flat_map (gate_edges cells) (take g insts)) + p < length (edges_of cells insts) = omega (arith, length-flat_map-take (gate_edges cells) insts g no_inst lt, many) in
      let edge : get_or (edges_of cells insts) (length (flat_map (gate_edges cells) (take g insts)) + p) no ≡ record { from = slice_index i.inputs p; to = i.output } =
      get_or-flat_map (gate_edges cells) insts g p no_inst no lt (omega (arith, many)) ∙ at_p in
      let low = above_edge (edges_of cells insts) by_level.level (length (flat_map (gate_edges cells) (take g insts)) + p) no i.output index (ap (λ (x : Edge). x.to) edge) in
      omega (arith, low, ap (λ (x : Edge). slice_index by_level.level x.from) edge, by_level.leveled.levels i.output out)

  pub inputs_before : (g n : ℕ) → g < length insts → (inst_at insts g).output ≡ n → n < nodes → All (λ m. m < nodes) (inst_at insts g).inputs → is_gate_inst cells (inst_at insts g) ≡ true
      → All (λ m. slice_index (ranks_of order) m < slice_index (ranks_of order) n) (inst_at insts g).inputs
  inputs_before g n lt out n_in inputs gate p d in_p =
      let m = get_or (inst_at insts g).inputs p d in
      let same : m ≡ slice_index (inst_at insts g).inputs p = get_or_default (inst_at insts g).inputs p d 0 in_p in
      rank_lt nodes order once by_level.level by_level.ordered.rising m n (inputs p d in_p) n_in
      (omega (arith, input_below g p lt in_p gate (omega (arith, out, n_in)), ap (slice_index by_level.level) same, ap (slice_index by_level.level) out))

-- an order of few nets is short
pub if_few : {E : Type 0} (cells : List Cell) (insts : List Inst) (nodes : ℕ) (r : Result (List ℕ) E) → nodes < 4194304 → IfOk r (λ o. IsByLevel nodes (edges_of cells insts) o) → IfOk r (λ o. length o < 4194304)
if_few cells insts nodes (Ok o) lt h = omega (arith, order_length cells insts nodes o h)
if_few cells insts nodes (Err e) lt h = h
