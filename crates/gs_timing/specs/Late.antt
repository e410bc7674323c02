-- How late the edges of a net may be.

use Rattle.std.specs.Prelude.{ℕ, ◌≤◌, nat_abs}
use Rattle.gs_design.specs.declared.time.Edge.{Edge}
use Rattle.gs_design.specs.declared.time.NetTime.{NetTime}

-- the arrival has at most this magnitude
abbrev pub IsLateEdge : Edge → ℕ → Type 0
IsLateEdge e b = nat_abs e.arrival ≤ b

pub record IsLate (t : NetTime) (b : ℕ) : Type 0 where
  pub rise : IsLateEdge t.rise b
  pub fall : IsLateEdge t.fall b
