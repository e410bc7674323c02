-- Sizes of a design with their timing.

use Rattle.std.specs.Prelude.{ℕ, List}
use Rattle.gs_design.specs.Sizes.{FitSizes}
use Rattle.gs_design.specs.Timing.{IsTiming}
use Rattle.gs_design.specs.declared.design.Design.{Design}
use Rattle.gs_design.specs.declared.time.NetTime.{NetTime}

pub record IsTimed (d : Design) (s : List ℕ) (t : List NetTime) : Type 0 where
  pub fit : FitSizes d s
  pub timing : IsTiming d s t
