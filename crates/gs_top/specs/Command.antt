-- The commands: the stages of each, and what it stores of what they make.
use Rattle.std.specs.Prelude.{◌≡◌, ℕ, ℤ, List, [], ◌∷◌, length, Option, None, Result, Ok, Err}
use Rattle.gs_design.specs.Parts.{parts_of}
use Rattle.gs_design.specs.Limits.{violations_of}
use Rattle.gs_design.specs.Sizes.{leak_of}
use Rattle.gs_design.specs.Timing.{IsTiming, timing_of}
use Rattle.gs_design.specs.declared.design.Design.{Design}
use Rattle.gs_design.specs.declared.time.NetTime.{NetTime}
use Rattle.gs_move.specs.Entries.{commits_of}
use Rattle.gs_move.specs.State.{sizes_now}
use Rattle.gs_move.specs.declared.ended.Ended.{Ended}
use Rattle.gs_report.specs.Log.{log_text}
use Rattle.gs_report.specs.Report.{report_text, report_with, run_text}
use Rattle.gs_report.specs.declared.run.Log.{Log}
use Rattle.gs_shelf.specs.Faults.{NoneFell, CountsStay}
use Rattle.gs_shelf.specs.Files.{Files, AllStay}
use Rattle.gs_sizes.specs.Written.{sizes_text}
use Rattle.gs_top.specs.Answer.{Seen, IsMade, Stopped, Unfetched}
use Rattle.gs_top.specs.Job.{input_of}
use Rattle.gs_top.specs.Plan.{outputs_in}
use Rattle.gs_top.specs.Recovery.{IsRecovery, budget_of}
use Rattle.gs_top.specs.Stage.{Bytes, Stage, bytes_of}
use Rattle.gs_top.specs.Start.{Sized, begun, start}
use Rattle.gs_top.specs.declared.job.Job.{Job}
use Rattle.gs_top.specs.declared.job.Job.TheVariants.{Size, Check}
use Rattle.gs_top.specs.declared.job.SizeJob.{SizeJob}
use Rattle.gs_top.specs.declared.plan.Plan.{Plan}
use Rattle.gs_top.specs.declared.plan.Text.{Text}
use Rattle.gs_top.specs.declared.status.Input.{Input}
use Rattle.gs_top.specs.declared.status.Output.{Output}
use Rattle.gs_top.specs.declared.status.Output.TheVariants.{Sizes, Log as LogFile, Report}
use Rattle.gs_top.specs.declared.status.Status.{Status}
use Rattle.gs_top.specs.declared.status.Status.TheVariants.{Done, Checked}

pub record Command : Type 1 where
  pub Made : Type 0
  -- its stages, in the order of work
  pub work : Stage Made
  -- what it stores, in order
  pub outputs : List Output
  -- what it may store of what it made
  pub plans : Made → Plan → Type 0
  -- its own success
  pub succeeds : Status → Type 0

abbrev pub text : Output → List ℕ → Text
text to bytes = record { to = to; bytes = bytes }

-- of sizes with their timing, to which a run led: the sizes, the run's log, and the report of both
abbrev pub run_texts : Design → List ℕ → List NetTime → (workers : ℕ) → Log → List Text
run_texts d s t workers l = text Sizes (sizes_text d s) ∷ text LogFile (log_text d l) ∷ text Report (report_with (run_text l workers) d s t) ∷ []

-- how the run ended, how many limits its sizes do not meet, what they leak, and how many moves were committed
abbrev pub run_done : Design → List ℕ → List NetTime → Log → Status
run_done d s t l = Done l.ended (length (violations_of d t)) (leak_of d s) (length (commits_of l.entries))

-- both of the sizes after the commits of a log
abbrev pub size_plan : Design → (start : List ℕ) → (workers : ℕ) → Log → Plan
size_plan d start workers l = record {
  texts = run_texts d (sizes_now start l.entries) (timing_of d (sizes_now start l.entries)) workers l;
  success = run_done d (sizes_now start l.entries) (timing_of d (sizes_now start l.entries)) l;
}

-- what leakage recovery stores of a design from sizes at the start
abbrev pub SizePlans : SizeJob → Design → (start : List ℕ) → Plan → Type 0
SizePlans j d start plan = (l : Log) × IsRecovery d start (budget_of j.budget d) j.workers l × (plan ≡ size_plan d start j.workers l)

-- the report of sizes of a design at this timing, how many limits are not met, and what the sizes leak
abbrev pub check_plan : Design → List ℕ → List NetTime → Plan
check_plan d s t = record {
  texts = text Report (report_text d s t None) ∷ [];
  success = Checked (length (violations_of d t)) (leak_of d s);
}

-- what leakage recovery makes of a design and the sizes at the start: its log, and what that leads to
abbrev pub size : SizeJob → Command
size j = record {
  Made = Sized;
  work = start j.from;
  outputs = Sizes ∷ LogFile ∷ Report ∷ [];
  plans = λ m plan. (d : Design) × (parts_of d ≡ m.parts) × SizePlans j d (begun j.from j.passes d m.sizes) plan;
  succeeds = λ s. (ended : Ended) × (violations : ℕ) × (leakage : ℤ) × (commits : ℕ) × (s ≡ Done ended violations leakage commits);
}

abbrev pub check : Option (List ℕ) → Command
check from = record {
  Made = Sized;
  work = start from;
  outputs = Report ∷ [];
  plans = λ m plan. (d : Design) × (parts_of d ≡ m.parts) × (t : List NetTime) × IsTiming d m.sizes t × (plan ≡ check_plan d m.sizes t);
  succeeds = λ s. (violations : ℕ) × (leakage : ℤ) × (s ≡ Checked violations leakage);
}

abbrev pub command_of : Job → Command
command_of (Size j) = size j
command_of (Check j) = check j.from

-- the bytes of the files that a job reads
abbrev pub inputs_of : Job → Files → Bytes
inputs_of job files = bytes_of (input_of job) files

-- a plan of what the command makes of these bytes
pub record PlanOf (c : Command) (b : Bytes) (plan : Plan) : Type 0 where
  pub made : c.Made
  pub is : IsMade (c.work.makes b) (c.work.refuses b) made
  pub allowed : c.plans made plan

-- the same, where the shelf tells the bytes; on every shelf the outputs are the command's, and so is the success
pub record IsPlanned (tells : Type 0) (c : Command) (b : Bytes) (plan : Plan) : Type 0 where
  pub outputs : outputs_in plan.texts ≡ c.outputs
  pub success : c.succeeds plan.success
  pub plan_of : tells → PlanOf c b plan

abbrev pub PlanAnswers : (tells : Type 0) → Command → Bytes → (Fault : Input → Type 0) → (still : Type 0) → Result Plan Status → Type 0
PlanAnswers tells c b Fault still (Ok plan) = still × IsPlanned tells c b plan
PlanAnswers tells c b Fault still (Err s) = Stopped tells c.work b Fault still s

-- a command's stages are done and its texts made, over the files of these names
pub record Prepares (tells : Type 0) (c : Command) (names : Input → List ℕ) (old new : Seen) (r : Result Plan Status) : Type 0 where
  pub stay : AllStay old.files new.files
  pub said : new.said ≡ old.said
  pub later : NoneFell old.faults new.faults
  pub answer : PlanAnswers tells c (bytes_of names old.files) (Unfetched names old.faults new.faults) (CountsStay old.faults new.faults) r
