-- What a run leaves in the files, why it ended as it did, and what it says. All is said by cases on the status's kind.
use Rattle.std.specs.Prelude.{◌≡◌, ℕ, ◌⊎◌, List, [], ◌++◌, Option, Some, None}
use Rattle.gs_shelf.specs.Faults.{Counts, CountsStay, Rose}
use Rattle.gs_shelf.specs.Files.{Files, AllStay, GrewByPart}
use Rattle.gs_shelf.specs.declared.calls.Op.{Op}
use Rattle.gs_shelf.specs.declared.calls.Op.TheVariants.{Fetch, Store, Say}
use Rattle.gs_top.specs.Answer.{IsRefused}
use Rattle.gs_top.specs.Command.{IsPlanned, command_of, inputs_of}
use Rattle.gs_top.specs.Job.{job_of, input_of, output_of}
use Rattle.gs_top.specs.Kind.{Kind, Success, NoJob, Unread, Refused, Unwritten, Unsaid, NoMemory, kind_of, HoldsNoMem, SameRefusal}
use Rattle.gs_top.specs.Line.{line_of}
use Rattle.gs_top.specs.Plan.{IsStored}
use Rattle.gs_top.specs.declared.job.Job.{Job}
use Rattle.gs_top.specs.declared.plan.Plan.{Plan}
use Rattle.gs_top.specs.declared.status.Output.{Output}
use Rattle.gs_top.specs.declared.status.Output.TheVariants.{Console}
use Rattle.gs_top.specs.declared.status.Status.{Status}
use Rattle.gs_top.specs.declared.status.Status.TheVariants.{Usage, OutOfMemory}

-- ## What the files hold

-- a plan of the job's command, stored up to this output
pub record StoredOf (tells : Type 0) (job : Job) (to : Output) (old new : Files) : Type 0 where
  pub plan : Plan
  pub of : IsPlanned tells (command_of job) (inputs_of job old) plan
  pub stored : IsStored tells (output_of job) to plan.texts old new

-- the first refusal of a job, in the order of its command's work
abbrev pub FirstRefusalOf : Job → Files → Status → Type 0
FirstRefusalOf job files s = (command_of job).work.refuses (inputs_of job files) s

-- what the bytes of a job's files make
abbrev pub MadeOf : (job : Job) → Files → (command_of job).Made → Type 0
MadeOf job files made = (command_of job).work.makes (inputs_of job files) made

-- they make something
abbrev pub IsAccepted : Job → Files → Type 0
IsAccepted job files = (made : (command_of job).Made) × MadeOf job files made

-- What the files hold after a job. After a success all its texts; after a refusal or a fault of reading what they held; else its
-- texts up to some output. The texts are those of what its bytes make, and a refusal is the first, where the shelf tells its files.
abbrev pub LeavesBy : (tells : Type 0) → Job → Files → Files → Status → Kind → Type 0
LeavesBy tells job old new s Success = (done : StoredOf tells job Console old new) × (s ≡ done.plan.success)
LeavesBy tells job old new s NoJob = ⊥
LeavesBy tells job old new s (Unread file) = AllStay old new × (tells → (command_of job).work.reads (inputs_of job old) file)
LeavesBy tells job old new s Refused = AllStay old new × (tells → IsRefused (MadeOf job old) (FirstRefusalOf job old) s)
LeavesBy tells job old new s (Unwritten to) = StoredOf tells job to old new
LeavesBy tells job old new s Unsaid = StoredOf tells job Console old new
LeavesBy tells job old new s NoMemory = AllStay old new ⊎ ((to : Output) × StoredOf tells job to old new)

abbrev pub JobLeaves : (tells : Type 0) → Job → Files → Files → Status → Type 0
JobLeaves tells job old new s = LeavesBy tells job old new s (kind_of s)

abbrev pub LeavesOf : (tells : Type 0) → Option Job → Files → Files → Status → Type 0
LeavesOf tells None old new s = AllStay old new
LeavesOf tells (Some job) old new s = JobLeaves tells job old new s

-- what the files hold after a run with these words
abbrev pub Leaves : (tells : Type 0) → List (List ℕ) → Files → Files → Status → Type 0
Leaves tells words old new s = LeavesOf tells (job_of words) old new s

-- ## Why it ended so

-- What stands behind the status of a job's work, on every shelf: a success is the command's own, a refusal of a library holds no want
-- of memory, at a fault the count of that file rose, and all else comes with no count changed.
abbrev pub WorkCausesBy : Job → Counts → Counts → Status → Kind → Type 0
WorkCausesBy job old new s Success = (command_of job).succeeds s × CountsStay old new
WorkCausesBy job old new s NoJob = ⊥
WorkCausesBy job old new s (Unread file) = Rose (old Fetch (input_of job file)) (new Fetch (input_of job file))
WorkCausesBy job old new s Refused = HoldsNoMem s × CountsStay old new
WorkCausesBy job old new s (Unwritten to) = Rose (old Store (output_of job to)) (new Store (output_of job to))
WorkCausesBy job old new s Unsaid = ⊥
WorkCausesBy job old new s NoMemory = CountsStay old new

abbrev pub WorkCauses : Job → Counts → Counts → Status → Type 0
WorkCauses job old new s = WorkCausesBy job old new s (kind_of s)

-- a refusal's line was said with no fault, or the console failed
abbrev pub StillButSaying : Counts → Counts → Type 0
StillButSaying old new = CountsStay old new ⊎ Rose (old Say []) (new Say [])

-- the work of a job ended with this status: it left these files, and its causes stand
pub record IsWorkOf (tells : Type 0) (job : Job) (old left : Files) (before now : Counts) (s : Status) : Type 0 where
  pub leaves : JobLeaves tells job old left s
  pub causes : WorkCauses job before now s

-- The same of a run, which ends by saying the line of its work's status. A success whose line could not be said is a fault of the
-- console. Want of memory is that of the work, or of the line of the status with which the work ended.
abbrev pub CausesBy : (tells : Type 0) → Job → (old left : Files) → (before now : Counts) → Status → Kind → Type 0
CausesBy tells job old left before now s Refused = HoldsNoMem s × StillButSaying before now
CausesBy tells job old left before now s Unsaid = Rose (before Say []) (now Say [])
CausesBy tells job old left before now s NoMemory = (t : Status) × IsWorkOf tells job old left before now t
CausesBy tells job old left before now s kind = WorkCausesBy job before now s kind

abbrev pub JobCauses : (tells : Type 0) → Job → (old left : Files) → (before now : Counts) → Status → Type 0
JobCauses tells job old left before now s = CausesBy tells job old left before now s (kind_of s)

-- words that make no job are refused, unless memory for that line ran out
abbrev pub CausesOf : (tells : Type 0) → Option Job → (old left : Files) → (before now : Counts) → Status → Type 0
CausesOf tells None old left before now s = ((s ≡ Usage) × StillButSaying before now) ⊎ ((s ≡ OutOfMemory) × CountsStay before now)
CausesOf tells (Some job) old left before now s = JobCauses tells job old left before now s

-- `Usage` comes exactly where the words make no job, a fault only where its count rose, and all else with no fault but of the console
abbrev pub Causes : (tells : Type 0) → List (List ℕ) → (old left : Files) → (before now : Counts) → Status → Type 0
Causes tells words old left before now s = CausesOf tells (job_of words) old left before now s

-- ## What comes where nothing fails

-- no call had a fault
abbrev pub NoneRose : Counts → Counts → Type 0
NoneRose old new = (op : Op) (name : List ℕ) → Rose (old op name) (new op name) → ⊥

-- the job's own success, or want of memory
abbrev pub IsDone : Job → Status → Type 0
IsDone job s = (command_of job).succeeds s ⊎ (s ≡ OutOfMemory)

-- the first refusal that the words and the bytes of the files decide
abbrev pub FirstRefusalBy : Option Job → Files → Status → Type 0
FirstRefusalBy None files s = s ≡ Usage
FirstRefusalBy (Some job) files s = FirstRefusalOf job files s

abbrev pub FirstRefusal : List (List ℕ) → Files → Status → Type 0
FirstRefusal words files s = FirstRefusalBy (job_of words) files s

-- the answer where this is the first refusal: the same, a fault of reading, or want of memory
abbrev pub AnswersBy : (refusal s : Status) → Kind → Type 0
AnswersBy refusal s (Unread file) = Unit {0}
AnswersBy refusal s NoMemory = Unit {0}
AnswersBy refusal s kind = SameRefusal refusal s

abbrev pub AnswersRefusal : (refusal s : Status) → Type 0
AnswersRefusal refusal s = AnswersBy refusal s (kind_of s)

-- ## What is said

-- the whole line was said, or a part of it before a fault of the console
abbrev pub SaysLine : List ℕ → (old new : Counts) → (said saying : List ℕ) → Type 0
SaysLine line old new said saying = (saying ≡ said ++ line) ⊎ (Rose (old Say []) (new Say []) × GrewByPart line said saying)

-- What was said after a job: the line of its status. Where a success could not be said, a part of that success's line; after want of
-- memory nothing.
abbrev pub SaysBy : (tells : Type 0) → Job → Files → Files → Counts → Counts → (said saying : List ℕ) → Status → Kind → Type 0
SaysBy tells job old left before now said saying s Success = saying ≡ said ++ line_of s
SaysBy tells job old left before now said saying s Unsaid =
    (t : Status) × (kind_of t ≡ Success) × JobLeaves tells job old left t × (command_of job).succeeds t × GrewByPart (line_of t) said saying
SaysBy tells job old left before now said saying s NoMemory = saying ≡ said
SaysBy tells job old left before now said saying s kind = SaysLine (line_of s) before now said saying

abbrev pub JobSays : (tells : Type 0) → Job → Files → Files → Counts → Counts → (said saying : List ℕ) → Status → Type 0
JobSays tells job old left before now said saying s = SaysBy tells job old left before now said saying s (kind_of s)

abbrev pub SaysOf : (tells : Type 0) → Option Job → Files → Files → Counts → Counts → (said saying : List ℕ) → Status → Type 0
SaysOf tells None old left before now said saying s = SaysLine (line_of s) before now said saying
SaysOf tells (Some job) old left before now said saying s = JobSays tells job old left before now said saying s

-- what was said after a run with these words
abbrev pub Says : (tells : Type 0) → List (List ℕ) → Files → Files → Counts → Counts → (said saying : List ℕ) → Status → Type 0
Says tells words old left before now said saying s = SaysOf tells (job_of words) old left before now said saying s
