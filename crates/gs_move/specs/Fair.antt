-- What a move must do to be Fair.

use Rattle.std.specs.Prelude.{ℕ, ◌≡◌, true, List, ℤ, ◌<ℤ◌}
use Rattle.gs_design.specs.Ends.{alt_cell}
use Rattle.gs_design.specs.Insts.{inst_at}
use Rattle.gs_design.specs.Limits.{IsLimitOf, is_met}
use Rattle.gs_design.specs.Sizes.{cell_of}
use Rattle.gs_design.specs.Timing.{timing_of}
use Rattle.gs_design.specs.declared.design.Design.{Design}
use Rattle.gs_design.specs.declared.limit.Limit.{Limit}
use Rattle.gs_move.specs.Moves.{after}
use Rattle.gs_move.specs.declared.moves.Move.{Move}

-- the leakage of the moved instance's present cell, and of its new cell
abbrev pub present_leak : Design → List ℕ → Move → ℤ
present_leak d s m = (cell_of d s m.inst).leakage

abbrev pub new_leak : Design → Move → ℤ
new_leak d m = (alt_cell d.cells (inst_at d.insts m.inst) m.place).leakage

-- A move is Fair where the new cell leaks less than the present one, and each limit that is met before is met after. The bounds of
-- slew and load are those in the records of each timing, so each is judged with the bounds of its own sizes.
pub record IsFair (d : Design) (s : List ℕ) (m : Move) : Type 0 where
  pub leaks_less : new_leak d m <ℤ present_leak d s m
  pub keeps_limits : (l : Limit) → IsLimitOf d l → is_met d (timing_of d s) l ≡ true → is_met d (timing_of d (after s m)) l ≡ true
