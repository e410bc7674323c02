-- Where an edge comes from: what the first candidate is, and that it is at a net of lower rank.

use Rattle.std.proofs.Common.{◌≡◌, ℕ, ◌+◌, ◌<◌, ◌≤◌, ◌⊎◌, inl, inr, Bool, true, false, not, All, List, [], ◌∷◌, ◌++◌, flat_map, length, drop, slice_index, slice_index_or, Option, None, Some, ℤ, refl, sym, ◌∙◌, ap, subst, arith}
use Rattle.std.specs.Prelude.{if◌then◌else◌}
use Rattle.std.specs.List.{find}
use Rattle.std.specs.Option.{option_map, option_or}
use Rattle.std.specs.Ordering.{int_eq}
use Rattle.std.proofs.lemmas.Bool.{cases_lt}
use Rattle.std.proofs.lemmas.List.{at_drop_all, at_drop_more, get_or_past}
use Rattle.std.proofs.lemmas.List.Elements.{All-append, All-cons, All-head, All-map, All-nil, All-tail}
use Rattle.std.proofs.lemmas.List.Folds.{find-append}
use Rattle.gs_design.specs.Cell.{is_flop, is_gate, is_launch}
use Rattle.gs_design.specs.Ends.{is_gate_inst}
use Rattle.gs_design.specs.Insts.{inst_at}
use Rattle.gs_design.specs.Nets.{Net, net_at, no_net}
use Rattle.gs_design.specs.Sizes.{FitSizes, cell_of}
use Rattle.gs_design.specs.Times.{time_at}
use Rattle.gs_design.specs.declared.arc.Sense.{Sense}
use Rattle.gs_design.specs.declared.arc.Sense.TheVariants.{Same, Other, Both, Launch}
use Rattle.gs_design.specs.declared.arc.TimingArc.{TimingArc}
use Rattle.gs_design.specs.declared.design.Design.{Design}
use Rattle.gs_design.specs.declared.kind.CellKind.{CellKind}
use Rattle.gs_design.specs.declared.kind.CellKind.TheVariants.{Flop, Gate}
use Rattle.gs_design.specs.declared.sink.Driver.{Driver}
use Rattle.gs_design.specs.declared.sink.Driver.TheVariants.{Port, Inst}
use Rattle.gs_design.specs.declared.time.NetTime.{NetTime}
use Rattle.gs_lagrange.specs.Path.{Candidate, arc_candidates, arrival_of, came_from, candidate_from, cell_candidates, first_with, source_through, sources}
use Rattle.gs_lagrange.specs.declared.edge.NetEdge.{NetEdge}

-- ---- the first candidate of two lists

abbrev from_of : Candidate → NetEdge
from_of c = c.from

map_or : (a b : Option Candidate) → option_map from_of (option_or a b) ≡ option_or (option_map from_of a) (option_map from_of b)
map_or None b = refl
map_or (Some c) b = refl

pub first-append : (arrival : ℤ) (xs ys : List Candidate) → first_with arrival (xs ++ ys) ≡ option_or (first_with arrival xs) (first_with arrival ys)
first-append arrival xs ys =
    ap (option_map from_of) (find-append (λ c. int_eq c.arrival arrival) xs ys)
    ∙ map_or (find (λ c. int_eq c.arrival arrival) xs) (find (λ c. int_eq c.arrival arrival) ys)

pub first_some : (arrival : ℤ) (xs ys : List Candidate) (e : NetEdge) → first_with arrival xs ≡ Some e → first_with arrival (xs ++ ys) ≡ Some e
first_some arrival xs ys e is = first-append arrival xs ys ∙ ap (λ o. option_or o (first_with arrival ys)) is

pub first_none : (arrival : ℤ) (xs ys : List Candidate) → first_with arrival xs ≡ None → first_with arrival (xs ++ ys) ≡ first_with arrival ys
first_none arrival xs ys is = first-append arrival xs ys ∙ ap (λ o. option_or o (first_with arrival ys)) is

-- ---- arc by arc

module _ (t : List NetTime) (inputs : List ℕ) (load : ℤ) (rise : Bool) (arrival : ℤ) (arcs : List TimingArc) where
  -- the first candidate is among those of the arcs from i on
  abbrev pub SoughtFrom : ℕ → Type 0
  SoughtFrom i = first_with arrival (cell_candidates t inputs load rise (drop i arcs)) ≡ first_with arrival (cell_candidates t inputs load rise arcs)

  module _ (i : ℕ) (a : TimingArc) (lt : i < length arcs) (a_is : a ≡ slice_index_or arcs i a) (h : SoughtFrom i) where
    split : first_with arrival (cell_candidates t inputs load rise (drop i arcs)) ≡ first_with arrival (arc_candidates t inputs load rise a ++ cell_candidates t inputs load rise (drop (i + 1) arcs))
    split =
        at_drop_more (λ (rest : List TimingArc). first_with arrival (cell_candidates t inputs load rise rest)) arcs i a lt
        ∙ ap (λ (x : TimingArc). first_with arrival (arc_candidates t inputs load rise x ++ cell_candidates t inputs load rise (drop (i + 1) arcs))) (sym a_is)

    pub found_arc : (e : NetEdge) → first_with arrival (arc_candidates t inputs load rise a) ≡ Some e → Some e ≡ first_with arrival (cell_candidates t inputs load rise arcs)
    found_arc e is =
        sym (first_some arrival (arc_candidates t inputs load rise a) (cell_candidates t inputs load rise (drop (i + 1) arcs)) e is) ∙ sym split ∙ h

    pub passed_arc : first_with arrival (arc_candidates t inputs load rise a) ≡ None → SoughtFrom (i + 1)
    passed_arc is =
        sym (first_none arrival (arc_candidates t inputs load rise a) (cell_candidates t inputs load rise (drop (i + 1) arcs)) is) ∙ sym split ∙ h

  pub found_none : (i : ℕ) → length arcs ≤ i → SoughtFrom i → None ≡ first_with arrival (cell_candidates t inputs load rise arcs)
  found_none i le h = sym (at_drop_all (λ (rest : List TimingArc). first_with arrival (cell_candidates t inputs load rise rest)) arcs i le) ∙ h

-- ---- what holds of each candidate holds of the first

some_same : (x y : NetEdge) → Some x ≡ Some y → x ≡ y
some_same x y e = cc

module _ (P : NetEdge → Type 0) (arrival : ℤ) where
  pub first_in : (cs : List Candidate) (e : NetEdge) → All (λ c. P c.from) cs → first_with arrival cs ≡ Some e → P e
  first_in [] e all is = absurd cc
  first_in (c ∷ cs) e all is = by_test (int_eq c.arrival arrival) is (first_in cs e (All-tail (λ x. P x.from) c cs all))
    where
      by_test : (b : Bool) → option_map from_of (if b then Some c else find (λ x. int_eq x.arrival arrival) cs) ≡ Some e → (first_with arrival cs ≡ Some e → P e) → P e
      by_test true found rest = subst P (some_same c.from e found) (All-head (λ x. P x.from) c cs all)
      by_test false found rest = rest found

all_in_flat : {X Y : Type 0} (P : X → Type 0) (f : Y → List X) (ys : List Y) → All (λ y. All P (f y)) ys → All P (flat_map f ys)
all_in_flat P f [] h = All-nil P
all_in_flat P f (y ∷ ys) h = All-append P (f y) (flat_map f ys) (All-head (λ z. All P (f z)) y ys h) (all_in_flat P f ys (All-tail (λ z. All P (f z)) y ys h))

all_of_none : (Q : Bool → Type 0) → (sense : Sense) (rise : Bool) → (is_launch sense ≡ false → (source : Bool) → Q source) → All Q (sources sense rise)
all_of_none Q Same rise h = All-cons Q rise [] (h refl rise) (All-nil Q)
all_of_none Q Other rise h = All-cons Q (not rise) [] (h refl (not rise)) (All-nil Q)
all_of_none Q Both rise h = All-cons Q true (false ∷ []) (h refl true) (All-cons Q false [] (h refl false) (All-nil Q))
all_of_none Q Launch rise h = All-nil Q

module _ (Q : ℕ → Type 0) (t : List NetTime) (inputs : List ℕ) (load : ℤ) (rise : Bool) where
  abbrev At : Candidate → Type 0
  At c = Q c.from.net

  arc_all : (a : TimingArc) → (is_launch a.sense ≡ false → Q (slice_index inputs a.pin)) → All At (arc_candidates t inputs load rise a)
  arc_all a h =
      All-map At (candidate_from t inputs load rise a) (sources a.sense rise)
      (all_of_none (λ source. Q (slice_index inputs a.pin)) a.sense rise (λ free source. h free))

  pub cell_all : (arcs : List TimingArc) → All (λ a. is_launch a.sense ≡ false → Q (slice_index inputs a.pin)) arcs → All At (cell_candidates t inputs load rise arcs)
  cell_all arcs h = all_in_flat At (arc_candidates t inputs load rise) arcs (λ k a kt. arc_all (slice_index_or arcs k a) (h k a kt))

-- ---- what an arc of a chosen cell reads

gate_unless : (k : CellKind) → is_flop k ≡ false → is_gate k ≡ true
gate_unless (Gate truth) h = refl
gate_unless Flop h = absurd cc

module _ (d : Design) (s : List ℕ) (fit : FitSizes d s) (g : ℕ) (lt : g < length d.insts) where
  pub chosen_in : slice_index (inst_at d.insts g).alts (slice_index s g) < length d.cells
  chosen_in = (d.well.alts g lt).cells_in (slice_index s g) 0 (fit.places_in g lt)

  -- each arc reads an input of the instance
  pub arc_pins : All (λ a. a.pin < length (inst_at d.insts g).inputs) (cell_of d s g).arcs
  arc_pins k a kt =
      let pins = (d.well.alts g lt).inputs (slice_index s g) 0 (fit.places_in g lt) in
      let below = (cell_of d s g).well.arc_pins k a kt in
      omega (arith, pins, below)

  chosen_kind : is_gate (cell_of d s g).kind ≡ is_gate_inst d.cells (inst_at d.insts g)
  chosen_kind = (d.well.alts g lt).kinds (slice_index s g) 0 (fit.places_in g lt)

  -- What holds of every input net of a gate holds of the net that an arc reads, where the arc reads one.
  pub reads : (P : ℕ → Type 0) → (is_gate_inst d.cells (inst_at d.insts g) ≡ true → All P (inst_at d.insts g).inputs)
      → All (λ a. is_launch a.sense ≡ false → P (slice_index (inst_at d.insts g).inputs a.pin)) (cell_of d s g).arcs
  reads P h k a kt free =
      let gate : is_gate (cell_of d s g).kind ≡ true = gate_unless (cell_of d s g).kind (sym ((cell_of d s g).well.launches k a kt) ∙ free) in
      h (sym chosen_kind ∙ gate) (slice_index_or (cell_of d s g).arcs k a).pin 0 (arc_pins k a kt)

-- ---- an edge comes from a net of lower rank

module _ (d : Design) (s : List ℕ) (t : List NetTime) (fit : FitSizes d s) (e r : NetEdge) where
  abbrev IsLower : ℕ → Type 0
  IsLower n = (slice_index d.ranks n < slice_index d.ranks e.net) × (n < length d.nets)

  lower_inst : (g : ℕ) → e.net < length d.nets → (net_at d.nets e.net).driver ≡ Inst g → source_through d s t e (Inst g) ≡ Some r → IsLower r.net
  lower_inst g net_in drives is =
      let g_in : g < length d.insts = (d.well.nets_kept e.net net_in).inst_in g drives in
      first_in (λ q. IsLower q.net) (arrival_of t e)
      (cell_candidates t (inst_at d.insts g).inputs (time_at t e.net).load e.rise (cell_of d s g).arcs) r
      (cell_all IsLower t (inst_at d.insts g).inputs (time_at t e.net).load e.rise (cell_of d s g).arcs
      (reads d s fit g g_in IsLower (λ gate k q kt. (d.well.inputs_before e.net g net_in drives gate k q kt, d.well.inputs_in g g_in k q kt))))
      is

  lower_by : (o : Driver) → (net_at d.nets e.net).driver ≡ o → source_through d s t e o ≡ Some r → (e.net < length d.nets) ⊎ (length d.nets ≤ e.net) → IsLower r.net
  lower_by (Port delay cell) drives is cases = absurd cc
  lower_by (Inst g) drives is (inl net_in) = lower_inst g net_in drives is
  lower_by (Inst g) drives is (inr past) =
      let none' : net_at d.nets e.net ≡ no_net = get_or_past d.nets e.net no_net past in
      absurd (no_inst g (sym (ap (λ (n : Net). n.driver) none') ∙ drives))
    where
      no_inst : (k : ℕ) → no_net.driver ≡ Inst k → ⊥
      no_inst k same = cc

  pub comes_lower : came_from d s t e ≡ Some r → IsLower r.net
  comes_lower is = lower_by (net_at d.nets e.net).driver refl is (cases_lt e.net (length d.nets))
