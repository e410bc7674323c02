-- A stage of a command's work: what it makes of the bytes of the command's files, why it refuses them, and which files it
-- comes to read. A command is a chain of stages, in the order of its work.
use Rattle.std.specs.Prelude.{◌≡◌, ◌≢◌, ℕ, ◌<◌, ◌≤◌, ◌⊎◌, List, length}
use Rattle.gs_shelf.specs.Files.{Files, content}
use Rattle.gs_shelf.specs.declared.whole.TheConstants.{FILE_LIMIT}
use Rattle.gs_top.specs.declared.status.Input.{Input}
use Rattle.gs_top.specs.declared.status.Status.{Status}
use Rattle.gs_top.specs.declared.status.Status.TheVariants.{TooLarge}

-- the bytes of each file that a command reads
abbrev pub Bytes : Type 0
Bytes = Input → List ℕ

abbrev pub bytes_of : (Input → List ℕ) → Files → Bytes
bytes_of names files = λ file. content files (names file)

pub record Stage (V : Type 0) : Type 1 where
  pub makes : Bytes → V → Type 0
  pub refuses : Bytes → Status → Type 0
  -- the stage comes to the reading of this file
  pub reads : Bytes → Input → Type 0

-- one stage, and then the stage that goes on from what it made
abbrev pub and_then : {V W : Type 0} → Stage V → (V → Stage W) → Stage W
and_then {V = V} a next = record {
  makes = λ b w. (v : V) × a.makes b v × (next v).makes b w;
  refuses = λ b s. a.refuses b s ⊎ ((v : V) × a.makes b v × (next v).refuses b s);
  reads = λ b file. a.reads b file ⊎ ((v : V) × a.makes b v × (next v).reads b file);
}

-- a stage that reads no file
abbrev pub judge : {V : Type 0} → (V → Type 0) → (Status → Type 0) → Stage V
judge Is Cause = record {
  makes = λ b v. Is v;
  refuses = λ b s. Cause s;
  reads = λ b file. ⊥;
}

-- a stage that makes what is given
abbrev pub give : {V : Type 0} → V → Stage V
give x = judge (λ v. v ≡ x) (λ s. ⊥)

-- the bytes of a file, where they are within the limit
abbrev pub fetch : Input → Stage (List ℕ)
fetch file = record {
  makes = λ b bytes. (bytes ≡ b file) × (length (b file) ≤ FILE_LIMIT);
  refuses = λ b s. (s ≡ TooLarge file) × (FILE_LIMIT < length (b file));
  reads = λ b f. f ≡ file;
}

-- what a file's bytes stand for
abbrev pub read_file : {V : Type 0} → Input → (List ℕ → V → Type 0) → (List ℕ → Status → Type 0) → Stage V
read_file file Is Cause = and_then (fetch file) (λ bytes. judge (Is bytes) (Cause bytes))

-- a reader's refusals as statuses: each but want of memory, where its cause stands
abbrev pub Caused : {E : Type 0} → (mem : E) → (E → Status) → (E → Type 0) → Status → Type 0
Caused {E = E} mem status_of Has s = (e : E) × (e ≢ mem) × Has e × (s ≡ status_of e)
