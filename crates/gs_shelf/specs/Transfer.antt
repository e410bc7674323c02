-- What whole writes and reads do to the bytes of a writer and of a reader, where those are known.
use Rattle.std.specs.Prelude.{◌≡◌, ℕ, ◌<◌, List, Option, Some, IfSome, length, take}
use Rattle.std.specs.Io.KnownBytes.{Appends, Consumes, IsAtEnd}

-- known bytes grow by a prefix of these
abbrev pub AppendsPart : Option (List ℕ) → Option (List ℕ) → List ℕ → Type 0
AppendsPart old new bytes = (k : ℕ) × Appends old new (take k bytes)

-- known bytes lose those that stand at the front of the room
abbrev pub ConsumesPart : Option (List ℕ) → Option (List ℕ) → List ℕ → Type 0
ConsumesPart old new room = (k : ℕ) × Consumes old new (take k room)

-- n known bytes stand at the front of the room; there was room for more only where no byte is left
pub record Fills (old new : Option (List ℕ)) (n : ℕ) (room : List ℕ) : Type 0 where
  pub bytes : Consumes old new (take n room)
  pub ends : n < length room → IsAtEnd new

-- a file went to this place, and n bytes from there stand at the front of the room
pub record FillsFrom {F : Type 0} (place : F → Option ℕ) (left : F → Option (List ℕ)) (old new : F) (from n : ℕ) (room : List ℕ) : Type 0 where
  pub there : F
  pub moved : IfSome (place old) (λ _. place there ≡ Some from)
  pub filled : Fills (left there) (left new) n room

-- some file was opened and read from this place on: n bytes from there stand at the front of the room
pub record ReadsFile {F : Type 0} (place : F → Option ℕ) (left : F → Option (List ℕ)) (from n : ℕ) (room : List ℕ) : Type 0 where
  pub opened : F
  pub closed : F
  pub filled : FillsFrom place left opened closed from n room

-- some file was made, and these bytes were written to it
pub record WritesFile {F : Type 0} (holds : F → Option (List ℕ)) (bytes : List ℕ) : Type 0 where
  pub made : F
  pub closed : F
  pub written : Appends (holds made) (holds closed) bytes
