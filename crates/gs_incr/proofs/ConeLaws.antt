-- Out of the cone of a move records stay.

use Rattle.std.proofs.Common.{◌≡◌, ◌≢◌, ℕ, ◌<◌, ◌==◌, true, false, ◌&&◌, All, List, length, slice_index, slice_index_or, sym, ◌∙◌, ap, subst}
use Rattle.std.specs.List.{list_any}
use Rattle.std.proofs.lemmas.Bool.{false_from_ne_true, or_left, or_parts, or_right}
use Rattle.std.proofs.lemmas.Bool.Decides.{Decides-eqb}
use Rattle.std.proofs.lemmas.List.{get_or-set_other}
use Rattle.std.proofs.lemmas.List.Folds.{list_any_at}
use Rattle.gs_design.specs.Ends.{is_gate_inst, pin_net}
use Rattle.gs_design.specs.Insts.{inst_at}
use Rattle.gs_design.specs.Nets.{net_at}
use Rattle.gs_design.specs.Sizes.{FitSizes}
use Rattle.gs_design.specs.Times.{time_at}
use Rattle.gs_design.specs.Timing.{IsTiming, local_of, timing_of}
use Rattle.gs_design.specs.declared.design.Design.{Design}
use Rattle.gs_design.specs.declared.sink.Driver.TheVariants.{Inst}
use Rattle.gs_design.specs.declared.sink.Sink.{Sink}
use Rattle.gs_design.specs.declared.time.NetTime.{NetTime}
use Rattle.gs_move.specs.Cone.{has_changed_input, in_cone_of, is_on}
use Rattle.gs_move.specs.Moves.{after}
use Rattle.gs_move.specs.Records.{differ}
use Rattle.gs_move.specs.declared.moves.Move.{Move}
use Rattle.gs_timing.specs.Same.{SameSizesAt, SameTimesAt}
use Rattle.gs_incr.proofs.Lists.{never}
use Rattle.gs_incr.proofs.Records.{equal_unless}

-- a record depends on the sizes of the instances on its net, and on the records of the input nets of a gate that drives it
abbrev pub Reads : Design → Type 0
Reads d = (r s : List ℕ) (t u : List NetTime) (n : ℕ) → FitSizes d r → n < length d.nets → SameSizesAt d r s n → SameTimesAt d t u n → local_of d r t n ≡ local_of d s u n

-- the timings before and after a move
pub record IsMoved (d : Design) (s : List ℕ) (m : Move) (t u : List NetTime) : Type 0 where
  pub reads : Reads d
  pub fit : FitSizes d s
  pub fit_after : FitSizes d (after s m)
  pub before : IsTiming d s t
  pub later : IsTiming d (after s m) u

-- the timing after it is the one that is made
abbrev pub Made : Design → Type 0
Made d = (s : List ℕ) → FitSizes d s → IsTiming d s (timing_of d s)

pub moved : (d : Design) (s : List ℕ) (m : Move) (t : List NetTime) → Reads d → FitSizes d s → FitSizes d (after s m) → IsTiming d s t → Made d → IsMoved d s m t (timing_of d (after s m))
moved d s m t reads fit fit_after before made = record { reads = reads; fit = fit; fit_after = fit_after; before = before; later = made (after s m) fit_after }

-- where a gate drives the net, its inputs don't differ
pub inputs_same : (d : Design) (t u : List NetTime) (g : ℕ) → is_gate_inst d.cells (inst_at d.insts g) ≡ true → has_changed_input d t u (Inst g) ≡ false
    → All (λ k. time_at t k ≡ time_at u k) (inst_at d.insts g).inputs
inputs_same d t u g gate still i e it =
    equal_unless t u (slice_index_or (inst_at d.insts g).inputs i e)
    (false_from_ne_true (differ t u (slice_index_or (inst_at d.insts g).inputs i e))
    (λ differs.
    let some : list_any (differ t u) (inst_at d.insts g).inputs ≡ true = list_any_at (differ t u) (inst_at d.insts g).inputs i e it differs in
    let none : list_any (differ t u) (inst_at d.insts g).inputs ≡ false = ap (λ b. b && list_any (differ t u) (inst_at d.insts g).inputs) (sym gate) ∙ still in
    never (list_any (differ t u) (inst_at d.insts g).inputs) some none))

module _ (d : Design) (s : List ℕ) (m : Move) (t u : List NetTime) (h : IsMoved d s m t u) where
  -- an input net of the moved instance, and its output net, are in the cone
  input_on : (n p : ℕ) → p < length (inst_at d.insts m.inst).inputs → slice_index (inst_at d.insts m.inst).inputs p ≡ n → is_on (inst_at d.insts m.inst) n ≡ true
  input_on n p lt e =
      or_left (list_any (λ k. k == n) (inst_at d.insts m.inst).inputs) ((inst_at d.insts m.inst).output == n)
      (list_any_at (λ k. k == n) (inst_at d.insts m.inst).inputs p 0 lt ((Decides-eqb (slice_index (inst_at d.insts m.inst).inputs p) n).1 e))

  output_on : (n : ℕ) → (inst_at d.insts m.inst).output ≡ n → is_on (inst_at d.insts m.inst) n ≡ true
  output_on n e =
      or_right (list_any (λ k. k == n) (inst_at d.insts m.inst).inputs) ((inst_at d.insts m.inst).output == n)
      ((Decides-eqb (inst_at d.insts m.inst).output n).1 e)

  module _ (n : ℕ) (lt : n < length d.nets) (outside : in_cone_of d m t u n ≡ false) where
    off : is_on (inst_at d.insts m.inst) n ≡ false
    off = (or_parts (is_on (inst_at d.insts m.inst) n) (has_changed_input d t u (net_at d.nets n).driver) outside).0

    still : has_changed_input d t u (net_at d.nets n).driver ≡ false
    still = (or_parts (is_on (inst_at d.insts m.inst) n) (has_changed_input d t u (net_at d.nets n).driver) outside).1

    -- the sizes of the instances on it stay
    stays : (g : ℕ) → g ≢ m.inst → slice_index s g ≡ slice_index (after s m) g
    stays g apart = sym (get_or-set_other s m.inst g m.place 0 apart)

    sink_apart : (k : Sink) → k.pin < length (inst_at d.insts k.inst).inputs → pin_net d.insts k ≡ n → k.inst ≢ m.inst
    sink_apart k pin_in on e =
        let moved_in : k.pin < length (inst_at d.insts m.inst).inputs = subst (λ g. k.pin < length (inst_at d.insts g).inputs) e pin_in in
        let moved_on : slice_index (inst_at d.insts m.inst).inputs k.pin ≡ n = subst (λ g. slice_index (inst_at d.insts g).inputs k.pin ≡ n) e on in
        never (is_on (inst_at d.insts m.inst) n) (input_on n k.pin moved_in moved_on) off

    driver_apart : (g : ℕ) → (net_at d.nets n).driver ≡ Inst g → g ≢ m.inst
    driver_apart g drives e =
        never (is_on (inst_at d.insts m.inst) n)
        (output_on n (subst (λ k. (inst_at d.insts k).output ≡ n) e ((d.well.nets_kept n lt).inst_drives g drives))) off

    same_sizes : SameSizesAt d s (after s m) n
    same_sizes = record {
      sinks = λ k e kt.
          let sink = (d.well.nets_kept n lt).sinks_in k e kt in
          stays (slice_index_or (net_at d.nets n).sinks k e).inst (sink_apart (slice_index_or (net_at d.nets n).sinks k e) sink.pin_in sink.on);
      driver = λ g drives. stays g (driver_apart g drives);
    }

    same_times : SameTimesAt d t u n
    same_times g drives gate = inputs_same d t u g gate (ap (has_changed_input d t u) (sym drives) ∙ still)

    pub calm : time_at t n ≡ time_at u n
    calm = h.before.each n lt ∙ h.reads s (after s m) t u n h.fit lt same_sizes same_times ∙ sym (h.later.each n lt)
