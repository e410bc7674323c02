-- What a map from names finds in a list. No public clause names this.

use Rattle.std.specs.Prelude.{ℕ, ◌≡◌, List, length, take}
use Rattle.std.specs.List.{position}
use Rattle.std.specs.Str.{bytes_eq}
use Rattle.gs_names.specs.Names.{HasBuckets, find}
use Rattle.gs_names.specs.declared.names.NameMap.{NameMap}

-- the map finds the first place of each name
pub record FindsFirst {X : Type 0} (name : X → List ℕ) (items : List X) (m : NameMap ℕ) : Type 0 where
  pub buckets : HasBuckets m
  pub finds : (q : List ℕ) → find m q ≡ position (λ x. bytes_eq q (name x)) items

-- a list begins with these
abbrev pub IsFront : {X : Type 0} → List X → List X → Type 0
IsFront front items = front ≡ take (length front) items
