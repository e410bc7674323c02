-- The record of a net depends on the sizes of the cells on it, and on the records of the input nets of a gate that drives it. So one
-- timing alone meets the equation of every net.

use Rattle.std.proofs.Common.{◌≡◌, ℕ, zero, suc, ◌+◌, ◌<◌, Bool, true, false, All, List, [], ◌∷◌, ◌++◌, fold, length, map, slice_index, slice_index_or, Option, None, Some, unwrap_or, ℤ, ◌+ℤ◌, refl, sym, ◌∙◌, ap, arith}
use Rattle.std.proofs.lemmas.List.{ext_get_or}
use Rattle.gs_design.specs.Cell.{is_launch, pin_at}
use Rattle.gs_design.specs.Edges.{Edges, allowed, candidates, output_edges, through, worst}
use Rattle.gs_design.specs.Ends.{alt_cell}
use Rattle.gs_design.specs.Insts.{inst_at}
use Rattle.gs_design.specs.Load.{driver_load_bound, driver_slew_bound, load_bound_of, load_of, output_pin, pin_slew_bound, slew_bound_of, tighter}
use Rattle.gs_design.specs.Nets.{net_at}
use Rattle.gs_design.specs.Sizes.{FitSizes, cell_of}
use Rattle.gs_design.specs.Timing.{IsTiming, driver_edges, edges_at, inst_inputs, local_of}
use Rattle.gs_design.specs.Times.{edge_at_zero, no_time, time_at}
use Rattle.gs_design.specs.declared.arc.Sense.{Sense}
use Rattle.gs_design.specs.declared.arc.Sense.TheVariants.{Same, Other, Both, Launch}
use Rattle.gs_design.specs.declared.arc.TimingArc.{TimingArc}
use Rattle.gs_design.specs.declared.design.Design.{Design}
use Rattle.gs_design.specs.declared.sink.Driver.{Driver}
use Rattle.gs_design.specs.declared.sink.Driver.TheVariants.{Inst, Port}
use Rattle.gs_design.specs.declared.time.NetTime.{NetTime}
use Rattle.gs_timing.specs.Same.{SameSizesAt, SameTimesAt}
use Rattle.gs_timing.proofs.CellLaws.{reads}
use Rattle.gs_timing.proofs.SinkLaws.{with_bound, with_cap}

fold_same : {A B : Type 0} (f h : B → A → B) (b : B) (xs : List A) → All (λ x. (c : B) → f c x ≡ h c x) xs → fold f b xs ≡ fold h b xs
fold_same f h b [] all = refl
fold_same f h b (x ∷ xs) all =
    ap (λ c. fold f c xs) (all zero x (omega arith) b) ∙ fold_same f h (h b x) xs (λ k e kt. all (suc k) e (omega arith))

allowed_same : (sense : Sense) (rise : Bool) (p q : Edges) → (is_launch sense ≡ false → p ≡ q) → allowed sense rise p ≡ allowed sense rise q
allowed_same Same rise p q h = ap (λ e. allowed Same rise e) (h refl)
allowed_same Other rise p q h = ap (λ e. allowed Other rise e) (h refl)
allowed_same Both rise p q h = ap (λ e. allowed Both rise e) (h refl)
allowed_same Launch rise p q h = refl

candidates_same : (load : ℤ) (rise : Bool) (input other : ℕ → Edges) (arcs : List TimingArc) → All (λ a. is_launch a.sense ≡ false → input a.pin ≡ other a.pin) arcs
    → candidates load rise input arcs ≡ candidates load rise other arcs
candidates_same load rise input other [] all = refl
candidates_same load rise input other (a ∷ arcs) all =
    ap (λ es. map (through a load rise) es ++ candidates load rise input arcs) (allowed_same a.sense rise (input a.pin) (other a.pin) (all zero a (omega arith)))
    ∙ ap (λ es. map (through a load rise) (allowed a.sense rise (other a.pin)) ++ es) (candidates_same load rise input other arcs (λ k e kt. all (suc k) e (omega arith)))

output_same : (load : ℤ) (input other : ℕ → Edges) (arcs : List TimingArc) → All (λ a. is_launch a.sense ≡ false → input a.pin ≡ other a.pin) arcs
    → output_edges load input arcs ≡ output_edges load other arcs
output_same load input other arcs all =
    ap (λ es. record { rise = unwrap_or (worst None es) edge_at_zero; fall = unwrap_or (worst None (candidates load false input arcs)) edge_at_zero }) (candidates_same load true input other arcs all)
    ∙ ap (λ es. record { rise = unwrap_or (worst None (candidates load true other arcs)) edge_at_zero; fall = unwrap_or (worst None es) edge_at_zero }) (candidates_same load false input other arcs all)

abbrev pub edges_of_time : NetTime → Edges
edges_of_time t = record { rise = t.rise; fall = t.fall }

abbrev pub record_of : ℤ → (load_bound slew_bound : Option ℤ) → Edges → NetTime
record_of load load_bound slew_bound e = record { load = load; load_bound = load_bound; slew_bound = slew_bound; rise = e.rise; fall = e.fall }

pub same_records : (k l : ℤ) (a b v w : Option ℤ) (e f : Edges) → k ≡ l → a ≡ b → v ≡ w → e ≡ f → record_of k a v e ≡ record_of l b w f
same_records k l a b v w e f h i j m =
    ap (λ x. record_of x a v e) h ∙ ap (λ x. record_of l x v e) i ∙ ap (λ x. record_of l b x e) j ∙ ap (λ x. record_of l b w x) m

module _ (d : Design) (r s : List ℕ) (fit : FitSizes d r) (t u : List NetTime) (n : ℕ) (lt : n < length d.nets) (sizes : SameSizesAt d r s n) (times : SameTimesAt d t u n) where
  cell_same : (g : ℕ) → (net_at d.nets n).driver ≡ Inst g → cell_of d r g ≡ cell_of d s g
  cell_same g drives = ap (λ p. alt_cell d.cells (inst_at d.insts g) p) (sizes.driver g drives)

  load_same : load_of d r n ≡ load_of d s n
  load_same = fold_same (with_cap d r) (with_cap d s) ((net_at d.nets n).wire +ℤ (net_at d.nets n).port_load) (net_at d.nets n).sinks
      (λ k e kt c. ap (λ p. c +ℤ (pin_at (alt_cell d.cells (inst_at d.insts (slice_index_or (net_at d.nets n).sinks k e).inst) p).pins (slice_index_or (net_at d.nets n).sinks k e).pin).cap) (sizes.sinks k e kt))

  load_bound_same : (dr : Driver) → (net_at d.nets n).driver ≡ dr → driver_load_bound d r dr ≡ driver_load_bound d s dr
  load_bound_same (Port delay cell) drives = refl
  load_bound_same (Inst g) drives = ap (λ c. (output_pin c).load_bound) (cell_same g drives)

  first_bound_same : (dr : Driver) → (net_at d.nets n).driver ≡ dr → driver_slew_bound d r dr ≡ driver_slew_bound d s dr
  first_bound_same (Port delay cell) drives = refl
  first_bound_same (Inst g) drives = ap (λ c. pin_slew_bound d (output_pin c)) (cell_same g drives)

  slew_bound_same : slew_bound_of d r n ≡ slew_bound_of d s n
  slew_bound_same =
      fold_same (with_bound d r) (with_bound d s) (driver_slew_bound d r (net_at d.nets n).driver) (net_at d.nets n).sinks
      (λ k e kt c. ap (λ p. tighter c (pin_slew_bound d (pin_at (alt_cell d.cells (inst_at d.insts (slice_index_or (net_at d.nets n).sinks k e).inst) p).pins (slice_index_or (net_at d.nets n).sinks k e).pin))) (sizes.sinks k e kt))
      ∙ ap (λ b. fold (with_bound d s) b (net_at d.nets n).sinks) (first_bound_same (net_at d.nets n).driver refl)

  driver_same : (load : ℤ) (dr : Driver) → (net_at d.nets n).driver ≡ dr → driver_edges d r t load dr ≡ driver_edges d s u load dr
  driver_same load (Port delay None) drives = refl
  driver_same load (Port delay (Some c)) drives = refl
  driver_same load (Inst g) drives =
      output_same load (inst_inputs d t g) (inst_inputs d u g) (cell_of d r g).arcs
      (λ k a kt free. ap edges_of_time (reads d r fit g ((d.well.nets_kept n lt).inst_in g drives) (λ m. time_at t m ≡ time_at u m) (times g drives) k a kt free))
      ∙ ap (λ c. output_edges load (inst_inputs d u g) c.arcs) (cell_same g drives)

  edges_same : edges_at d r t n ≡ edges_at d s u n
  edges_same = driver_same (load_of d r n) (net_at d.nets n).driver refl ∙ ap (λ load. driver_edges d s u load (net_at d.nets n).driver) load_same

  pub record_same : local_of d r t n ≡ local_of d s u n
  record_same =
      same_records (load_of d r n) (load_of d s n) (load_bound_of d r n) (load_bound_of d s n) (slew_bound_of d r n) (slew_bound_of d s n) (edges_at d r t n) (edges_at d s u n)
      load_same (load_bound_same (net_at d.nets n).driver refl) slew_bound_same edges_same

-- the same sizes everywhere
pub same_sizes : (d : Design) (s : List ℕ) (n : ℕ) → SameSizesAt d s s n
same_sizes d s n = record { sinks = λ k e kt. refl; driver = λ g drives. refl }

-- two timings agree at nets below any rank
agree : (d : Design) (s : List ℕ) (t u : List NetTime) → FitSizes d s → IsTiming d s t → IsTiming d s u
    → (k n : ℕ) → n < length d.nets → slice_index d.ranks n < k → time_at t n ≡ time_at u n
agree d s t u fit ht hu zero n lt below = absurd (omega arith)
agree d s t u fit ht hu (suc k) n lt below =
    ht.each n lt
    ∙ record_same d s s fit t u n lt (same_sizes d s n)
    (λ g drives gate i e it.
    let before = d.well.inputs_before n g lt drives gate i e it in
    let inside = d.well.inputs_in g ((d.well.nets_kept n lt).inst_in g drives) i e it in
    agree d s t u fit ht hu k (slice_index_or (inst_at d.insts g).inputs i e) inside (omega (arith, before, below)))
    ∙ sym (hu.each n lt)

pub one_timing : (d : Design) (s : List ℕ) (t u : List NetTime) → FitSizes d s → IsTiming d s t → IsTiming d s u → t ≡ u
one_timing d s t u fit ht hu =
    ext_get_or no_time t u (ht.as_many ∙ sym hu.as_many)
    (λ n nt. agree d s t u fit ht hu (suc (slice_index d.ranks n)) n (omega (arith, nt, ht.as_many)) (omega arith))
