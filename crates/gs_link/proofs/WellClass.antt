-- What the alternatives of an instance keep.

use Rattle.std.proofs.Common.{◌≡◌, ◌∙◌, ap, sym, subst, refl, ℕ, zero, suc, ◌+◌, ◌<◌, ◌==◌, List, [], ◌∷◌, All, length, get_or, slice_index, map, Bool, true, false, ◌&&◌, not, arith}
use Rattle.std.specs.Cmp.Lexicographic.{pointwise}
use Rattle.std.specs.List.{position_or_len}
use Rattle.std.specs.Str.{bytes_eq}
use Rattle.std.proofs.lemmas.List.{length-map}
use Rattle.gs_design.specs.Alternatives.{alike, alternatives, is_sizable, same_pins, same_truth}
use Rattle.gs_design.specs.Cell.{is_gate, pin_name}
use Rattle.gs_design.specs.Cells.{cell_at}
use Rattle.gs_design.specs.Class.{AreAlternativesOf}
use Rattle.gs_design.specs.Design.{AreAlternatives, HasAllArcs}
use Rattle.gs_design.specs.Ends.{is_gate_inst}
use Rattle.gs_design.specs.Insts.{Inst}
use Rattle.gs_design.specs.declared.cell.Cell.{Cell}
use Rattle.gs_link.proofs.WellLists.{position_in}

both_first : (a b : Bool) → (a && b) ≡ true → a ≡ true
both_first true b h = refl
both_first false b h = h

both_second : (a b : Bool) → (a && b) ≡ true → b ≡ true
both_second true b h = h
both_second false b h = let never : false ≡ true = h in absurd cc

pointwise_long : (xs ys : List (List ℕ)) → pointwise bytes_eq xs ys ≡ true → length xs ≡ length ys
pointwise_long [] [] h = refl
pointwise_long [] (y ∷ ys) h = let never : false ≡ true = h in absurd cc
pointwise_long (x ∷ xs) [] h = let never : false ≡ true = h in absurd cc
pointwise_long (x ∷ xs) (y ∷ ys) h = ap suc (pointwise_long xs ys (both_second (bytes_eq x y) (pointwise bytes_eq xs ys) h))

-- a sizable cell is a gate, a cell alike to another is one and has as many pins
sizable_gate : (a : Cell) → is_sizable a ≡ true → is_gate a.kind ≡ true
sizable_gate a h = both_second (not a.marked) (is_gate a.kind) h

alike_gate : (a b : Cell) → alike a b ≡ true → is_gate b.kind ≡ true
alike_gate a b h =
    sizable_gate b (both_second (is_sizable a) (is_sizable b)
    (both_first (is_sizable a && is_sizable b) (bytes_eq a.footprint b.footprint && (same_pins a b && same_truth a.kind b.kind)) h))

alike_pins : (a b : Cell) → alike a b ≡ true → length b.pins ≡ length a.pins
alike_pins a b h =
    let same : same_pins a b ≡ true =
    both_first (same_pins a b) (same_truth a.kind b.kind) (both_second (bytes_eq a.footprint b.footprint) (same_pins a b && same_truth a.kind b.kind)
    (both_second (is_sizable a && is_sizable b) (bytes_eq a.footprint b.footprint && (same_pins a b && same_truth a.kind b.kind)) h)) in
    let long : length (map pin_name a.pins) ≡ length (map pin_name b.pins) = pointwise_long (map pin_name a.pins) (map pin_name b.pins) same in
    omega (arith, long, length-map a.pins pin_name, length-map b.pins pin_name)

all_one : (P : ℕ → Type 0) (x : ℕ) → P x → All P (x ∷ [])
all_one P x h zero d lt = h
all_one P x h (suc k) d lt = absurd (omega arith)

module _ (cells : List Cell) (x : ℕ) (kept : AreAlternativesOf cells x (alternatives cells x)) where
  abbrev alts : List ℕ
  alts = alternatives cells x

  abbrev own : Cell
  own = cell_at cells x

  first_in : position_or_len (λ y. y == x) alts < length alts
  first_in = position_in (λ y. y == x) alts kept.itself

  some : 0 < length alts
  some = omega (arith, first_in)

  -- what holds of the cell itself and of the cells alike to it holds of all
  of_all : (P : ℕ → Type 0) → (b : Bool) → is_sizable own ≡ b → P x → ((y : ℕ) → b ≡ true → alike own (cell_at cells y) ≡ true → P y) → All P alts
  of_all P true e here there = λ k d lt. there (get_or alts k d) refl (kept.are_alike e k d lt)
  of_all P false e here there = subst (All P) (sym (kept.alone e)) (all_one P x here)

  pins_same : All (λ y. length (cell_at cells y).pins ≡ length own.pins) alts
  pins_same = of_all (λ y. length (cell_at cells y).pins ≡ length own.pins) (is_sizable own) refl refl (λ y e h. alike_pins own (cell_at cells y) h)

  kinds_by : (b : Bool) → is_sizable own ≡ b → All (λ y. is_gate (cell_at cells y).kind ≡ is_gate own.kind) alts
  kinds_by b e = of_all (λ y. is_gate (cell_at cells y).kind ≡ is_gate own.kind) b e refl (λ y t h. alike_gate own (cell_at cells y) h ∙ sym (sizable_gate own (e ∙ t)))

  kinds_same : All (λ y. is_gate (cell_at cells y).kind ≡ is_gate own.kind) alts
  kinds_same = kinds_by (is_sizable own) refl

  -- an instance with these alternatives is a gate where the cell is
  module _ (i : Inst) (is : i.alts ≡ alts) where
    pub gate_is : is_gate_inst cells i ≡ is_gate own.kind
    gate_is = ap (λ ys. is_gate (cell_at cells (slice_index ys 0)).kind) is ∙ kinds_same 0 0 some

    lone_by : (b : Bool) → is_sizable own ≡ b → is_gate_inst cells i ≡ false → length i.alts ≡ 1
    lone_by true e h = let never : true ≡ false = sym (sizable_gate own e) ∙ sym gate_is ∙ h in absurd cc
    lone_by false e h = ap length (is ∙ kept.alone e)

    pub are_alternatives : i.first ≡ position_or_len (λ y. y == x) alts → length i.inputs + 1 ≡ length own.pins
        → All (λ y. is_gate (cell_at cells y).kind ≡ true → HasAllArcs (cell_at cells y)) alts → AreAlternatives cells i
    are_alternatives first inputs arcs = record {
      first_in = omega (arith, first_in, first, ap length is);
      few = omega (arith, kept.few, ap length is);
      cells_in = subst (All (λ y. y < length cells)) (sym is) kept.inside;
      differ = λ a b d ab lt e. kept.differ a b d ab (omega (arith, ap length is)) (sym (ap (λ ys. get_or ys a d) is) ∙ e ∙ ap (λ ys. get_or ys b d) is);
      inputs = subst (All (λ y. length (cell_at cells y).pins ≡ length i.inputs + 1)) (sym is) (λ k d lt. pins_same k d lt ∙ sym inputs);
      kinds = subst (All (λ y. is_gate (cell_at cells y).kind ≡ is_gate_inst cells i)) (sym is) (λ k d lt. kinds_same k d lt ∙ sym gate_is);
      flop_alone = lone_by (is_sizable own) refl;
      arcs = λ g. subst (All (λ y. HasAllArcs (cell_at cells y))) (sym is) (λ k d lt. arcs k d lt (kinds_same k d lt ∙ sym gate_is ∙ g));
    }
