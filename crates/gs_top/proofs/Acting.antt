-- From a command's plan to the work of its job.
use Rattle.std.proofs.Common.{◌≡◌, ◌≢◌, ◌∙◌, refl, sym, ap, subst, inl, inr, ◌⊎◌, Ok, Err, Option, Some, None}
use Rattle.gs_shelf.specs.Faults.{CountsStay}
use Rattle.gs_shelf.specs.Files.{AllStay}
use Rattle.gs_shelf.specs.declared.calls.Op.TheVariants.{Store}
use Rattle.gs_top.specs.Act.{Acts, ActsOf, words_status}
use Rattle.gs_top.specs.Answer.{Seen, Stopped, ByMemory, ByFault, ByRefusal, Unfetched}
use Rattle.gs_top.specs.Command.{Prepares, command_of, inputs_of}
use Rattle.gs_top.specs.Job.{IsRead, input_of, output_of}
use Rattle.gs_top.specs.Kind.{Kind, Success, Unread, Refused, Unwritten, NoMemory, kind_of}
use Rattle.gs_top.specs.Plan.{IsStored}
use Rattle.gs_top.specs.Run.{StoredOf, LeavesBy, JobLeaves, WorkCausesBy, WorkCauses}
use Rattle.gs_top.specs.Store.{Ends, Stops, StoreFails}
use Rattle.gs_top.specs.declared.job.Job.{Job}
use Rattle.gs_top.specs.declared.job.Job.TheVariants.{Size, Check}
use Rattle.gs_top.specs.declared.plan.Plan.{Plan}
use Rattle.gs_top.specs.declared.read.WordsErr.{WordsErr}
use Rattle.gs_top.specs.declared.read.WordsErr.TheVariants as words_err
use Rattle.gs_top.specs.declared.status.Output.{Output}
use Rattle.gs_top.specs.declared.status.Output.TheVariants.{Console}
use Rattle.gs_top.specs.declared.status.Status.{Status}
use Rattle.gs_top.specs.declared.status.Status.TheVariants.{Usage, WriteFault, OutOfMemory}
use Rattle.gs_top.proofs.Counts.{fell_on, fell_still, stay_on, rose_later}

-- each command's success is one
pub is_success : (job : Job) (s : Status) → (command_of job).succeeds s → kind_of s ≡ Success
is_success (Size j) s h = ap kind_of h.4
is_success (Check j) s h = ap kind_of h.2

-- a file that was not written is no console
pub kind_of_write : (to : Output) → to ≢ Console → kind_of (WriteFault to) ≡ Unwritten to
kind_of_write Console ne = absurd (ne refl)
kind_of_write to ne = refl

module _ (tells : Type 0) (job : Job) (old new : Seen) (s : Status) where
  -- the two by cases, at the status's kind
  acts_by : (k : Kind) → kind_of s ≡ k → LeavesBy tells job old.files new.files s k → WorkCausesBy job old.faults new.faults s k
      → (JobLeaves tells job old.files new.files s) × (WorkCauses job old.faults new.faults s)
  acts_by k e leaves causes =
      (subst (LeavesBy tells job old.files new.files s) (sym e) leaves, subst (WorkCausesBy job old.faults new.faults s) (sym e) causes)

  -- the work stopped before anything was stored
  stopped_by : AllStay old.files new.files
      → Stopped tells (command_of job).work (inputs_of job old.files) (Unfetched (input_of job) old.faults new.faults) (CountsStay old.faults new.faults) s
      → (JobLeaves tells job old.files new.files s) × (WorkCauses job old.faults new.faults s)
  stopped_by stay (ByMemory e still) = acts_by NoMemory (ap kind_of e) (inl stay) still
  stopped_by stay (ByFault file e rose reads) = acts_by (Unread file) (ap kind_of e) (stay, reads) rose
  stopped_by stay (ByRefusal is still cause) = acts_by Refused is.kind (stay, cause) (is.no_mem, still)

  pub stopped : Prepares tells (command_of job) (input_of job) old new (Err s) → Acts tells job old new s
  stopped h =
      let both = stopped_by h.stay h.answer in
      record { leaves = both.0; causes = both.1; said = h.said; later = h.later }

  module _ (mid : Seen) (plan : Plan) (prepared : Prepares tells (command_of job) (input_of job) old mid (Ok plan)) where
    of_plan : (to : Output) → IsStored tells (output_of job) to plan.texts mid.files new.files → StoredOf tells job to old.files new.files
    of_plan to h =
        let same : mid.files ≡ old.files = λ i name. prepared.stay name i in
        record { plan = plan; of = prepared.answer.1; stored = subst (λ files. IsStored tells (output_of job) to plan.texts files new.files) same h }

    stops_by : (to : Output) → to ≢ Console → StoredOf tells job to old.files new.files → StoreFails (output_of job) to mid.faults new.faults s
        → (JobLeaves tells job old.files new.files s) × (WorkCauses job old.faults new.faults s)
    stops_by to file stored (inl h) =
        acts_by (Unwritten to) (ap kind_of h.0 ∙ kind_of_write to file) stored (rose_later (old.faults Store (output_of job to)) (mid.faults Store (output_of job to)) (new.faults Store (output_of job to)) (prepared.later Store (output_of job to)) h.1)
    stops_by to file stored (inr h) =
        acts_by NoMemory (ap kind_of h.0) (inr (to, stored)) (stay_on old.faults mid.faults new.faults prepared.answer.0 h.1)

    stored_by : ((s ≡ plan.success) × IsStored tells (output_of job) Console plan.texts mid.files new.files × CountsStay mid.faults new.faults) ⊎ Stops tells (output_of job) plan.texts mid new s
        → (JobLeaves tells job old.files new.files s) × (WorkCauses job old.faults new.faults s)
    unfolding of_plan
    stored_by (inl h) =
        let succeeds = subst (command_of job).succeeds (sym h.0) prepared.answer.1.success in
        acts_by Success (is_success job s succeeds) (of_plan Console h.1, h.0) (succeeds, stay_on old.faults mid.faults new.faults prepared.answer.0 h.2)
    stored_by (inr h) = stops_by h.to h.file (of_plan h.to h.stored) h.fails

    pub stored : Ends tells (output_of job) plan mid new s → Acts tells job old new s
    stored h =
        let both = stored_by h.answer in
        record { leaves = both.0; causes = both.1; said = h.said ∙ prepared.said; later = fell_on old.faults mid.faults new.faults prepared.later h.later }

-- the words make this job, or none
pub acts_of : (tells : Type 0) (o p : Option Job) (old new : Seen) (s : Status) → o ≡ p → ActsOf tells p old new s → ActsOf tells o old new s
acts_of tells o p old new s e h = subst (λ x. ActsOf tells x old new s) (sym e) h

pub no_job : (tells : Type 0) (o : Option Job) (now : Seen) (s : Status) → o ≡ None → s ≡ Usage → ActsOf tells o now now s
no_job tells o now s e is =
    acts_of tells o None now now s e (record { usage = is; stay = λ name. refl; still = λ op name. refl; said = refl })

-- there is no memory for its names
pub no_names : (tells : Type 0) (o : Option Job) (job : Job) (now : Seen) → o ≡ Some job → ActsOf tells o now now OutOfMemory
no_names tells o job now e =
    acts_of tells o (Some job) now now OutOfMemory e (record { leaves = inl (λ name. refl); causes = λ op name. refl; said = refl; later = fell_still now.faults now.faults (λ op name. refl) })

-- the words make no job, or there is no memory for its names
pub not_read : (tells : Type 0) (o : Option Job) (now : Seen) (e : WordsErr) (s : Status) → s ≡ words_status e → IsRead o (Err e) → ActsOf tells o now now s
not_read tells o now words_err.Usage s is h = no_job tells o now s h is
not_read tells o now words_err.Mem s is h = subst (ActsOf tells o now now) (sym is) (no_names tells o h.0 now h.1)
