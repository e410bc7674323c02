-- A pass over a design in its order: the first nets of the order have their records.

use Rattle.std.specs.Prelude.{ℕ, ◌≡◌, ◌+◌, ◌*◌, ◌<◌, List, length, slice_index}
use Rattle.gs_design.specs.Times.{time_at}
use Rattle.gs_design.specs.Timing.{local_of}
use Rattle.gs_design.specs.declared.design.Design.{Design}
use Rattle.gs_design.specs.declared.time.NetTime.{NetTime}
use Rattle.gs_timing.specs.Late.{IsLate}

pub record IsTimedTo (d : Design) (s : List ℕ) (t : List NetTime) (i : ℕ) : Type 0 where
  pub as_many : length t ≡ length d.nets
  pub each : (j : ℕ) → j < i → time_at t (slice_index d.order j) ≡ local_of d s t (slice_index d.order j)
  -- each net on the way may add a delay
  pub late : (j : ℕ) → j < i → IsLate (time_at t (slice_index d.order j)) (1099511627776 + (j + 1) * 68719476736)
