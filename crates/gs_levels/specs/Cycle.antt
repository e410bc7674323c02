-- Reading a ring of nodes backwards.
use Rattle.std.specs.Prelude.{◌≡◌, ◌<◌, ◌≤◌, ◌-◌, if◌then◌else◌, nat_le, ℕ, List, length, slice_index}

-- the place that is so many steps back from a place on a ring
abbrev pub back : ℕ → ℕ → ℕ → ℕ
back from places steps = if nat_le steps from then from - steps else places - (steps - from)

-- the second list is the first one read backwards as a ring, from a place with a least number on
pub record IsBackwards (nodes cycle : List ℕ) : Type 0 where
  pub least : ℕ
  pub inside : least < length nodes
  pub is_least : (k : ℕ) → k < length nodes → slice_index nodes least ≤ slice_index nodes k
  pub each : length cycle ≡ length nodes
  pub nodes_are : (k : ℕ) → k < length nodes → slice_index cycle k ≡ slice_index nodes (back least (length nodes) k)
