-- Kinds of statuses. A further success or refusal is a line of `kind_of`, and no clause of `run` has a case for it.
use Rattle.std.specs.Prelude.{◌≡◌, ◌≢◌}
use Rattle.gs_lib.specs.declared.error.LibErr.TheVariants as lib
use Rattle.gs_link.specs.Cause as linking
use Rattle.gs_survey.specs.declared.error.LinkErr.TheVariants as link
use Rattle.gs_top.specs.declared.status.Input.{Input}
use Rattle.gs_top.specs.declared.status.Output.{Output}
use Rattle.gs_top.specs.declared.status.Output.TheVariants.{Console}
use Rattle.gs_top.specs.declared.status.Status.{Status}
use Rattle.gs_top.specs.declared.status.Status.TheVariants.{Done, Checked, Usage, ReadFault, TooLarge, BadText, BadLibrary, BadDesign, WriteFault, OutOfMemory}

pub data Kind : Type 0 where
  Success : Kind
  -- the words make no job
  NoJob : Kind
  -- the file could not be read
  Unread : Input → Kind
  -- the bytes of the files decide the refusal
  Refused : Kind
  -- the file could not be stored
  Unwritten : Output → Kind
  -- the line of a success could not be said
  Unsaid : Kind
  NoMemory : Kind

abbrev pub kind_of : Status → Kind
kind_of (Done ended violations leakage commits) = Success
kind_of (Checked violations leakage) = Success
kind_of Usage = NoJob
kind_of (ReadFault file) = Unread file
kind_of (TooLarge file) = Refused
kind_of (BadText file why place) = Refused
kind_of (BadLibrary e) = Refused
kind_of (BadDesign e) = Refused
kind_of (WriteFault Console) = Unsaid
kind_of (WriteFault to) = Unwritten to
kind_of OutOfMemory = NoMemory

-- a refused library or design holds no want of memory
abbrev pub HoldsNoMem : Status → Type 0
HoldsNoMem (BadLibrary e) = e ≢ lib.Mem
HoldsNoMem (BadDesign e) = e ≢ link.Mem
HoldsNoMem _ = Unit {0}

-- a refusal that the bytes of the files decide
pub record IsRefusal (s : Status) : Type 0 where
  pub kind : kind_of s ≡ Refused
  pub no_mem : HoldsNoMem s

-- a refusal for a cycle of gates without the cycle that it names; any other as it is
unfoldable pub cycle_aside : Status → Status
cycle_aside (BadDesign e) = BadDesign (linking.cycle_aside e)
cycle_aside s = s

-- the refusals are one, up to the cycle that they name
abbrev pub SameRefusal : Status → Status → Type 0
SameRefusal s t = cycle_aside s ≡ cycle_aside t
