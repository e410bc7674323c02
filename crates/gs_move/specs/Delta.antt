-- What installing a delta changes.

use Rattle.std.specs.Prelude.{ℕ, ◌≡◌, ◌≢◌, ◌<◌, ◌==◌, false, List, length, All, AllPairs}
use Rattle.std.specs.List.{list_any}
use Rattle.gs_design.specs.Times.{time_at}
use Rattle.gs_design.specs.declared.time.NetAt.{NetAt}
use Rattle.gs_design.specs.declared.time.NetTime.{NetTime}

-- records for nets below a count, no net twice
pub record AreRecordsFor (count : ℕ) (nets : List NetAt) : Type 0 where
  pub within : All (λ a. a.net < count) nets
  pub once : AllPairs (λ a b. a.net ≢ b.net) nets

-- exactly the records of the named nets change, to those that are given
pub record AreInstalled (nets : List NetAt) (before after : List NetTime) : Type 0 where
  pub as_many : length after ≡ length before
  pub named : All (λ a. time_at after a.net ≡ a.time) nets
  pub others : (n : ℕ) → list_any (λ a. a.net == n) nets ≡ false → time_at after n ≡ time_at before n
