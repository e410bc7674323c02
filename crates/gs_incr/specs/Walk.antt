-- How far a walk through the cone of a move has come.

use Rattle.std.specs.Prelude.{ℕ, ◌≡◌, ◌<◌, ◌≤◌, ◌==◌, Bool, true, ◌&&◌, ◌||◌, All, List, map, filter, take, length, slice_index}
use Rattle.std.specs.List.{list_any}
use Rattle.gs_design.specs.Ends.{is_gate_inst}
use Rattle.gs_design.specs.Insts.{Inst, inst_at}
use Rattle.gs_design.specs.Nets.{net_at}
use Rattle.gs_design.specs.Times.{time_at}
use Rattle.gs_design.specs.declared.design.Design.{Design}
use Rattle.gs_design.specs.declared.sink.Driver.TheVariants.{Inst as OfInst}
use Rattle.gs_design.specs.declared.sink.Sink.{Sink}
use Rattle.gs_design.specs.declared.time.NetAt.{NetAt}
use Rattle.gs_design.specs.declared.time.NetTime.{NetTime}
use Rattle.gs_incr.specs.Queue.{has}
use Rattle.gs_incr.specs.Seen.{net_with}
use Rattle.gs_move.specs.Cone.{in_cone_of, is_on}
use Rattle.gs_move.specs.Records.{differ}
use Rattle.gs_move.specs.declared.moves.Move.{Move}

-- whether a rank is that of a net
abbrev pub has_rank : Design → (r : ℕ) → ℕ → Bool
has_rank d r n = slice_index d.ranks n == r

-- whether it is that of an input net of an instance, or of its output net
abbrev pub is_seed : Design → Inst → (r : ℕ) → Bool
is_seed d i r = list_any (has_rank d r) i.inputs || has_rank d r i.output

-- whether it is that of the net that a gate with this input pin drives
abbrev pub is_reader : Design → (r : ℕ) → Sink → Bool
is_reader d r k = is_gate_inst d.cells (inst_at d.insts k.inst) && has_rank d r (inst_at d.insts k.inst).output

-- Of the move m from the timing t to the timing u: the nets of smaller rank than `next` are done. v is what has been laid so far over t,
-- `queue` the ranks that wait, and `seen` the nets that were evaluated.
pub record IsWalk (d : Design) (m : Move) (t u v : List NetTime) (queue : List ℕ) (seen : List NetAt) (next : ℕ) : Type 0 where
  pub within : next ≤ length d.nets
  -- the nets of the cone that are done were evaluated, in order
  pub seen_are : seen ≡ map (net_with u) (filter (in_cone_of d m t u) (take next d.order))
  -- nets that are done have their new record, the others their old one
  pub done : (n : ℕ) → n < length d.nets → slice_index d.ranks n < next → time_at v n ≡ time_at u n
  pub ahead : (n : ℕ) → n < length d.nets → next ≤ slice_index d.ranks n → time_at v n ≡ time_at t n
  -- what waits is in the cone
  pub waits_in : (r : ℕ) → next ≤ r → has queue r ≡ true → r < length d.nets
  pub waits : (r : ℕ) → next ≤ r → has queue r ≡ true → in_cone_of d m t u (slice_index d.order r) ≡ true
  -- the nets of the moved instance that aren't done wait, and each net of a gate with an input net that is done and has changed
  pub seeds : (n : ℕ) → n < length d.nets → next ≤ slice_index d.ranks n → is_on (inst_at d.insts m.inst) n ≡ true → has queue (slice_index d.ranks n) ≡ true
  pub readers : (n g : ℕ) → n < length d.nets → next ≤ slice_index d.ranks n → (net_at d.nets n).driver ≡ OfInst g → is_gate_inst d.cells (inst_at d.insts g) ≡ true
      → All (λ k. slice_index d.ranks k < next → differ t u k ≡ true → has queue (slice_index d.ranks n) ≡ true) (inst_at d.insts g).inputs
