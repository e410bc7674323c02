-- The sum of excess over the nets that pass a test, net by net.

use Rattle.std.specs.Prelude.{ℕ, Bool, List, if◌then◌else◌}
use Rattle.gs_design.specs.declared.design.Design.{Design}
use Rattle.gs_design.specs.declared.time.NetTime.{NetTime}
use Rattle.gs_move.specs.Change.{over_at}

-- what a net adds
abbrev pub over_if : (on : ℕ → Bool) → Design → List NetTime → ℕ → ℕ
over_if on d t n = if on n then over_at d t n else 0
