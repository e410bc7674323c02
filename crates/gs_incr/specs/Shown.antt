-- What contracts see of the memory for retiming.

use Rattle.std.specs.Prelude.{ℕ, List}
use Rattle.gs_design.specs.declared.time.NetAt.{NetAt}

-- for how many nets it is, and what the last retiming has seen
pub record Shown : Type 0 where
  pub nets : ℕ
  pub seen : List NetAt
