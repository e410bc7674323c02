-- What a state keeps, and what the best sizes so far keep.

use Rattle.std.specs.Prelude.{◌≡◌, length}
use Rattle.gs_design.specs.Sizes.{FitSizes}
use Rattle.gs_design.specs.Timing.{timing_of}
use Rattle.gs_design.specs.declared.design.Design.{Design}
use Rattle.gs_lagrange.specs.Carry.{AreHeld}
use Rattle.gs_lagrange.specs.Start.{score_of}
use Rattle.gs_lagrange.specs.Timed.{IsTimed}
use Rattle.gs_lagrange.specs.declared.best.Best.{Best}
use Rattle.gs_lagrange.specs.declared.state.State.{State}

pub record IsKept (d : Design) (x : State) : Type 0 where
  pub timed : IsTimed d x.sizes x.timing
  pub made : x.timing ≡ timing_of d x.sizes
  pub many : length x.multipliers ≡ length d.ends
  pub held : AreHeld x.multipliers

pub record IsScored (d : Design) (b : Best) : Type 0 where
  pub fit : FitSizes d b.sizes
  pub score : b.score ≡ score_of d b.sizes
