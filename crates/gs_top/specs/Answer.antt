-- What the call of a stage answers, and what it leaves on the shelf.
use Rattle.std.specs.Prelude.{◌≡◌, ℕ, ◌⊎◌, List, Result, Ok, Err}
use Rattle.gs_shelf.specs.Faults.{Counts, NoneFell, CountsStay, Rose}
use Rattle.gs_shelf.specs.Files.{Files, AllStay}
use Rattle.gs_shelf.specs.declared.calls.Op.TheVariants.{Fetch}
use Rattle.gs_top.specs.Kind.{IsRefusal, SameRefusal}
use Rattle.gs_top.specs.Stage.{Bytes, Stage, bytes_of}
use Rattle.gs_top.specs.declared.status.Input.{Input}
use Rattle.gs_top.specs.declared.status.Status.{Status}
use Rattle.gs_top.specs.declared.status.Status.TheVariants.{ReadFault, OutOfMemory}

-- a shelf as contracts see it
pub record Seen : Type 0 where
  pub files : Files
  pub said : List ℕ
  pub faults : Counts

abbrev pub seen : Files → List ℕ → Counts → Seen
seen files said faults = record { files = files; said = said; faults = faults }

-- this is made, and nothing else, and nothing refuses
pub record IsMade {V : Type 0} (Is : V → Type 0) (Cause : Status → Type 0) (v : V) : Type 0 where
  pub stands : Is v
  pub only : (w : V) → Is w → w ≡ v
  pub accepted : (s : Status) → Cause s → ⊥

-- the cause of this refusal stands, and of no other, and nothing is made
pub record IsRefused {V : Type 0} (Is : V → Type 0) (Cause : Status → Type 0) (s : Status) : Type 0 where
  pub refusal : IsRefusal s
  pub stands : Cause s
  pub only : (t : Status) → Cause t → SameRefusal t s
  pub nothing : (v : V) → Is v → ⊥

-- a call's answer, where contracts see its value by this
abbrev pub seen_as : {A B : Type 0} → (A → B) → Result A Status → Result B Status
seen_as view (Ok a) = Ok (view a)
seen_as view (Err s) = Err s

-- the answer of a call that touches no shelf
abbrev pub Settles : {V : Type 0} → (V → Type 0) → (Status → Type 0) → Result V Status → Type 0
Settles Is Cause (Ok v) = IsMade Is Cause v
Settles Is Cause (Err s) = (s ≡ OutOfMemory) ⊎ IsRefused Is Cause s

-- why a stage made nothing: memory ran out, and then no count of faults changed; a file that it came to read could not be read; or it
-- refuses the bytes. What speaks of the bytes holds where the shelf tells them.
pub data Stopped {V : Type 0} (tells : Type 0) (work : Stage V) (b : Bytes) (Fault : Input → Type 0) (still : Type 0) (s : Status) : Type 0 where
  ByMemory : s ≡ OutOfMemory → still → Stopped tells work b Fault still s
  ByFault : (file : Input) → s ≡ ReadFault file → Fault file → (tells → work.reads b file) → Stopped tells work b Fault still s
  ByRefusal : IsRefusal s → still → (tells → IsRefused (work.makes b) (work.refuses b) s) → Stopped tells work b Fault still s

-- the count of a fetch of the file rose
abbrev pub Unfetched : (Input → List ℕ) → Counts → Counts → Input → Type 0
Unfetched names old new file = Rose (old Fetch (names file)) (new Fetch (names file))

abbrev pub Answers : {V : Type 0} → (tells : Type 0) → Stage V → Bytes → (Fault : Input → Type 0) → (still : Type 0) → Result V Status → Type 0
Answers tells work b Fault still (Ok v) = still × (tells → IsMade (work.makes b) (work.refuses b) v)
Answers tells work b Fault still (Err s) = Stopped tells work b Fault still s

-- a stage's call over the files of these names: no file changes and nothing is said
pub record Works {V : Type 0} (tells : Type 0) (work : Stage V) (names : Input → List ℕ) (old new : Seen) (r : Result V Status) : Type 0 where
  pub stay : AllStay old.files new.files
  pub said : new.said ≡ old.said
  pub later : NoneFell old.faults new.faults
  pub answer : Answers tells work (bytes_of names old.files) (Unfetched names old.faults new.faults) (CountsStay old.faults new.faults) r
