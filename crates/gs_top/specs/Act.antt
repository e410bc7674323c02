-- What the work of a job leaves, before its line is said; and the whole run, which says it.
use Rattle.std.specs.Prelude.{◌≡◌, Option, Some, None}
use Rattle.gs_shelf.specs.Faults.{CountsStay, NoneFell}
use Rattle.gs_shelf.specs.Files.{AllStay}
use Rattle.gs_top.specs.Answer.{Seen}
use Rattle.gs_top.specs.Run.{CausesOf, JobLeaves, LeavesOf, SaysOf, WorkCauses}
use Rattle.gs_top.specs.declared.job.Job.{Job}
use Rattle.gs_top.specs.declared.read.WordsErr.{WordsErr}
use Rattle.gs_top.specs.declared.read.WordsErr.TheVariants as words_err
use Rattle.gs_top.specs.declared.status.Status.{Status}
use Rattle.gs_top.specs.declared.status.Status.TheVariants.{Usage, OutOfMemory}

pub record Acts (tells : Type 0) (job : Job) (old new : Seen) (s : Status) : Type 0 where
  pub leaves : JobLeaves tells job old.files new.files s
  pub causes : WorkCauses job old.faults new.faults s
  pub said : new.said ≡ old.said
  pub later : NoneFell old.faults new.faults

-- words that make no job are refused, and nothing is done
pub record Declines (old new : Seen) (s : Status) : Type 0 where
  pub usage : s ≡ Usage
  pub stay : AllStay old.files new.files
  pub still : CountsStay old.faults new.faults
  pub said : new.said ≡ old.said

abbrev pub ActsOf : (tells : Type 0) → Option Job → Seen → Seen → Status → Type 0
ActsOf tells None old new s = Declines old new s
ActsOf tells (Some job) old new s = Acts tells job old new s

-- the status where the words make no job, or there is no memory for its names
abbrev pub words_status : WordsErr → Status
words_status words_err.Usage = Usage
words_status words_err.Mem = OutOfMemory

-- a run with the words of this job, or of none
pub record Ran (tells : Type 0) (o : Option Job) (old new : Seen) (r : Status) : Type 0 where
  pub leaves : LeavesOf tells o old.files new.files r
  pub causes : CausesOf tells o old.files new.files old.faults new.faults r
  pub says : tells → SaysOf tells o old.files new.files old.faults new.faults old.said new.said r
  pub silent : r ≡ OutOfMemory → new.said ≡ old.said
  pub later : NoneFell old.faults new.faults
