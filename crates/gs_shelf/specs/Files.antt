-- What a shelf holds and what was said, as its callers see it.
use Rattle.std.specs.Prelude.{◌≡◌, ◌≢◌, ℕ, ◌≤◌, ◌↔◌, ◌⊎◌, List, [], ◌++◌, Option, Some, unwrap_or, length, take, drop}

-- what each name holds, or nothing where there is no such file
abbrev pub Files : Type 0
Files = List ℕ → Option (List ℕ)

-- the bytes of a file; a file that is missing counts as empty
abbrev pub content : Files → List ℕ → List ℕ
content files name = unwrap_or (files name) []

-- n bytes of the file, from place `at` on, stand at the front of the room; none came exactly at the end or without room
pub record Reads (bytes : List ℕ) (at n : ℕ) (room : List ℕ) : Type 0 where
  pub same : take n room ≡ take n (drop at bytes)
  pub within : n ≤ length (drop at bytes)
  pub ends : (n ≡ 0) ↔ ((length bytes ≤ at) ⊎ (length room ≡ 0))

-- no file changed
abbrev pub AllStay : Files → Files → Type 0
AllStay old new = (name : List ℕ) → new name ≡ old name

-- no file but this one changed
abbrev pub OthersStay : List ℕ → Files → Files → Type 0
OthersStay name old new = (other : List ℕ) → other ≢ name → new other ≡ old other

-- the file holds what it held, or a prefix of the new text
abbrev pub HoldsPart : List ℕ → List ℕ → Files → Files → Type 0
HoldsPart name whole old new = (new name ≡ old name) ⊎ ((k : ℕ) × (new name ≡ Some (take k whole)))

-- a prefix of the bytes was appended
abbrev pub GrewByPart : List ℕ → List ℕ → List ℕ → Type 0
GrewByPart bytes old new = (k : ℕ) × (new ≡ old ++ take k bytes)
