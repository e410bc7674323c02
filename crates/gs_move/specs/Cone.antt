-- The nets that a move may change.

use Rattle.std.specs.Prelude.{ℕ, ◌==◌, Bool, false, ◌&&◌, ◌||◌, List}
use Rattle.std.specs.List.{list_any}
use Rattle.gs_design.specs.Ends.{is_gate_inst}
use Rattle.gs_design.specs.Insts.{Inst, inst_at}
use Rattle.gs_design.specs.Nets.{net_at}
use Rattle.gs_design.specs.Timing.{timing_of}
use Rattle.gs_design.specs.declared.design.Design.{Design}
use Rattle.gs_design.specs.declared.sink.Driver.{Driver}
use Rattle.gs_design.specs.declared.sink.Driver.TheVariants.{Port, Inst as OfInst}
use Rattle.gs_design.specs.declared.time.NetTime.{NetTime}
use Rattle.gs_move.specs.Moves.{after}
use Rattle.gs_move.specs.Records.{differ}
use Rattle.gs_move.specs.declared.moves.Move.{Move}

-- whether a net is one of an instance's input nets, or its output net
abbrev pub is_on : Inst → ℕ → Bool
is_on i n = list_any (λ k. k == n) i.inputs || (i.output == n)

-- whether the driver is a gate with an input net whose records in two timings differ
abbrev pub has_changed_input : Design → (t u : List NetTime) → Driver → Bool
has_changed_input d t u (Port delay cell) = false
has_changed_input d t u (OfInst g) = is_gate_inst d.cells (inst_at d.insts g) && list_any (differ t u) (inst_at d.insts g).inputs

-- of a move from one timing to another: the moved instance's input and output nets, and each gate-driven net with an input net whose
-- records differ
abbrev pub in_cone_of : Design → Move → (t u : List NetTime) → ℕ → Bool
in_cone_of d m t u n = is_on (inst_at d.insts m.inst) n || has_changed_input d t u (net_at d.nets n).driver

-- the cone of a move at sizes
abbrev pub in_cone : Design → List ℕ → Move → ℕ → Bool
in_cone d s m n = in_cone_of d m (timing_of d s) (timing_of d (after s m)) n
