-- The sizes of a netlist as a text: the names and the cells that the netlist gives.
use Rattle.std.proofs.Common.{◌≡◌, ◌∙◌, refl, sym, ap, subst, ℕ, zero, suc, ◌+◌, ◌<◌, Bool, true, false, cond, not, eqb, List, [], ◌∷◌, ◌++◌, length, map, slice_index, slice_index_or, arith}
use Rattle.std.specs.List.{flat_map, position_or_len, range_with_len}
use Rattle.std.specs.Str.{bytes_eq}
use Rattle.std.proofs.lemmas.List.{length-map}
use Rattle.std.proofs.lemmas.Bool.Decides.{nat_tests}
use Rattle.std.proofs.lemmas.Slice.Eq.{bytes_eq-Decides}
use Rattle.gs_design.specs.Cells.{cell_at, no_cell}
use Rattle.gs_design.specs.Insts.{Inst, inst_at, inst_first, no_inst}
use Rattle.gs_design.specs.Parts.{parts_of}
use Rattle.gs_design.specs.Sizes.{cell_of, netlist_sizes}
use Rattle.gs_design.specs.declared.design.Design.{Design}
use Rattle.gs_design.specs.declared.library.Library.{Library}
use Rattle.gs_link.specs.Linked.{Linked, linked_inst}
use Rattle.gs_sdc.specs.Terms.{Terms}
use Rattle.gs_spef.specs.declared.wires.Wire.{Wire}
use Rattle.gs_survey.specs.Counts.{choices_of}
use Rattle.gs_survey.specs.Instances.{cell_number}
use Rattle.gs_verilog.specs.Circuit.{Circuit}
use Rattle.gs_verilog.specs.declared.parts.RawInst.{RawInst}
use Rattle.gs_sizes.specs.Written.{line_text, sizes_text}
use Rattle.gs_top.specs.Law.{netlist_line}

-- a name, a space, a cell, a newline
abbrev named_line : (name cell : List ℕ) → List ℕ
named_line name cell = name ++ 32 ∷ cell ++ 10 ∷ []

first_by : (insts : List Inst) (g : ℕ) → slice_index (map inst_first insts) g ≡ (inst_at insts g).first
first_by [] g = refl
first_by (i ∷ is) zero = refl
first_by (i ∷ is) (suc g) = first_by is g

-- the place of the netlist's cell
first_at : (d : Design) (g : ℕ) → slice_index (netlist_sizes d) g ≡ (inst_at d.insts g).first
first_at d g = first_by d.insts g

cell_in : (d : Design) (g : ℕ) → g < length d.insts → slice_index (inst_at d.insts g).alts (inst_at d.insts g).first < length d.cells
cell_in d g lt =
    let kept = d.well.alts g lt in
    kept.cells_in (inst_at d.insts g).first 0 kept.first_in

-- what stands at the first place that passes
found : {X : Type 0} (p : X → Bool) (xs : List X) (other : X) → position_or_len p xs < length xs → p (slice_index_or xs (position_or_len p xs) other) ≡ true
found p [] other h = absurd (omega (arith, h))
found p (x ∷ xs) other h = by_test (p x) refl h (found p xs other)
  where
    by_test : (b : Bool) → p x ≡ b → cond (not b) (1 + position_or_len p xs) 0 < length (x ∷ xs)
        → (position_or_len p xs < length xs → p (slice_index_or xs (position_or_len p xs) other) ≡ true)
        → p (slice_index_or (x ∷ xs) (cond (not b) (1 + position_or_len p xs) 0) other) ≡ true
    by_test true e h later = e
    by_test false e h later =
        let next : 1 + position_or_len p xs ≡ suc (position_or_len p xs) = omega arith in
        ap (λ m. p (slice_index_or (x ∷ xs) m other)) next ∙ later (omega (arith, h))

at_map : {X Y : Type 0} (f : X → Y) (xs : List X) (g : ℕ) (x : X) (y : Y) → g < length xs → slice_index_or (map f xs) g y ≡ f (slice_index_or xs g x)
at_map f [] g x y lt = absurd (omega (arith, lt))
at_map f (z ∷ zs) zero x y lt = refl
at_map f (z ∷ zs) (suc g) x y lt = at_map f zs g x y (omega (arith, lt))

-- what is written by place is written by item
by_place : {X : Type 0} (line : ℕ → List ℕ) (f : X → List ℕ) (other : X) (xs : List X) (a : ℕ) → ((g : ℕ) → g < length xs → line (a + g) ≡ f (slice_index_or xs g other))
    → flat_map line (range_with_len a (length xs)) ≡ flat_map f xs
by_place line f other [] a h = refl
by_place line f other (x ∷ xs) a h =
    let at : a ≡ a + 0 = omega arith in
    let here : line a ≡ f x = ap line at ∙ h 0 (omega arith) in
    let next : (g : ℕ) → a + 1 + g ≡ a + suc g = λ g. omega arith in
    let later = by_place line f other xs (a + 1) (λ g lt. ap line (next g) ∙ h (suc g) (omega (arith, lt))) in
    ap (λ ys. ys ++ flat_map line (range_with_len (a + 1) (length xs))) here ∙ ap (λ ys. f x ++ ys) later

abbrev no_raw : RawInst
no_raw = record { name = []; cell = []; links = [] }

abbrev raw_at : List RawInst → ℕ → RawInst
raw_at insts g = slice_index_or insts g no_raw

same_number : (m n : ℕ) → eqb m n ≡ true → m ≡ n
same_number m n e = grind (arith, nat_tests)

module _ (c : Circuit) (l : Library) (w : List Wire) (k : Terms) (d : Design) (is : Linked c l w k (parts_of d)) where
  many : length d.insts ≡ length c.insts
  many = ap length is.insts ∙ length-map c.insts (linked_inst l.cells c)

  inst_is : (g : ℕ) → g < length c.insts → inst_at d.insts g ≡ linked_inst l.cells c (raw_at c.insts g)
  inst_is g lt = ap (λ xs. inst_at xs g) is.insts ∙ at_map (linked_inst l.cells c) c.insts g no_raw no_inst lt

  module _ (g : ℕ) (lt : g < length c.insts) where
    inside : g < length d.insts
    inside = omega (arith, many, lt)

    -- the place of the netlist's cell among the alternatives holds its number
    number_is : slice_index (inst_at d.insts g).alts (inst_at d.insts g).first ≡ cell_number l.cells (raw_at c.insts g).cell
    number_is =
        let kept = d.well.alts g inside in
        let i = linked_inst l.cells c (raw_at c.insts g) in
        let first_in : i.first < length i.alts = subst (λ (x : Inst). x.first < length x.alts) (inst_is g lt) kept.first_in in
        let passes = found (λ x. eqb x (cell_number l.cells (raw_at c.insts g).cell)) (choices_of l.cells (raw_at c.insts g)) 0 first_in in
        ap (λ (x : Inst). slice_index x.alts x.first) (inst_is g lt) ∙ same_number _ _ passes

    name_is : (cell_of d (netlist_sizes d) g).name ≡ (raw_at c.insts g).cell
    name_is =
        let number = cell_number l.cells (raw_at c.insts g).cell in
        let below : number < length l.cells = subst (λ n. n < length l.cells) number_is (subst (λ cs. slice_index (inst_at d.insts g).alts (inst_at d.insts g).first < length cs) is.cells (cell_in d g inside)) in
        let passes = found (λ x. bytes_eq (raw_at c.insts g).cell x.name) l.cells no_cell below in
        let named : (raw_at c.insts g).cell ≡ (cell_at l.cells number).name = (bytes_eq-Decides (raw_at c.insts g).cell (cell_at l.cells number).name).0 passes in
        ap (λ p. (cell_at d.cells (slice_index (inst_at d.insts g).alts p)).name) (first_at d g) ∙ ap (λ n. (cell_at d.cells n).name) number_is ∙ ap (λ cs. (cell_at cs number).name) is.cells ∙ sym named

    line_is : line_text d (netlist_sizes d) g ≡ netlist_line (raw_at c.insts g)
    line_is = ap (λ cell. named_line (inst_at d.insts g).name cell) name_is ∙ ap (λ (x : Inst). named_line x.name (raw_at c.insts g).cell) (inst_is g lt)

  -- the sizes of a linked design are the netlist's
  pub text_is : sizes_text d (netlist_sizes d) ≡ flat_map netlist_line c.insts
  text_is =
      let here : (g : ℕ) → 0 + g ≡ g = λ g. omega arith in
      ap (λ n. flat_map (line_text d (netlist_sizes d)) (range_with_len 0 n)) many
      ∙ by_place (line_text d (netlist_sizes d)) netlist_line no_raw c.insts 0 (λ g lt. ap (line_text d (netlist_sizes d)) (here g) ∙ line_is g lt)
