-- From the work of a job to the whole run, which says the line of the work's status.
use Rattle.std.proofs.Common.{◌≡◌, ◌≢◌, ◌∙◌, refl, sym, ap, subst, inl, inr, ◌⊎◌, [], ◌++◌, Option, Some, None}
use Rattle.std.proofs.lemmas.List.{append-nil}
use Rattle.gs_shelf.specs.Faults.{Counts, CountsStay, NoneFell, Rose}
use Rattle.gs_shelf.specs.Files.{Files, AllStay, GrewByPart}
use Rattle.gs_shelf.specs.declared.calls.Op.TheVariants.{Fetch, Store, Say}
use Rattle.gs_top.specs.Act.{Acts, ActsOf, Declines, Ran}
use Rattle.gs_top.specs.Answer.{Seen}
use Rattle.gs_top.specs.Job.{input_of, output_of}
use Rattle.gs_top.specs.Kind.{Kind, Success, NoJob, Unread, Refused, Unwritten, Unsaid, NoMemory, kind_of}
use Rattle.gs_top.specs.Line.{line_of, unsaid, unsaid_by, Ended, Whole, Failed, NoRoom, IsSaid}
use Rattle.gs_top.specs.Run.{StoredOf, FirstRefusalOf, IsAccepted, LeavesBy, JobLeaves, WorkCausesBy, WorkCauses, StillButSaying, CausesBy, NoneRose, IsDone, FirstRefusalBy, AnswersBy, AnswersRefusal, SaysLine, SaysBy}
use Rattle.gs_top.specs.declared.job.Job.{Job}
use Rattle.gs_top.specs.declared.status.Output.{Output}
use Rattle.gs_top.specs.declared.status.Output.TheVariants.{Console}
use Rattle.gs_top.specs.declared.status.Status.{Status}
use Rattle.gs_top.specs.declared.status.Status.TheVariants.{Usage, WriteFault, OutOfMemory}
use Rattle.gs_top.proofs.Counts.{fell_on, fell_still, stay_on, rose_later, rose_longer}

no_memory : (s : Status) → kind_of s ≡ NoMemory → s ≡ OutOfMemory
no_memory OutOfMemory h = refl
no_memory (WriteFault Console) h = absurd cc
no_memory _ h = absurd cc

-- what a run leaves, why, and what it says, by its status's kind
pub record Runs (tells : Type 0) (job : Job) (old new : Seen) (s : Status) (kind : Kind) : Type 0 where
  pub leaves : LeavesBy tells job old.files new.files s kind
  pub causes : CausesBy tells job old.files new.files old.faults new.faults s kind
  pub says : tells → SaysBy tells job old.files new.files old.faults new.faults old.said new.said s kind
  pub silent : s ≡ OutOfMemory → new.said ≡ old.said

-- what the work's status leaves is left where its line can't be said
lost_leaves : (tells : Type 0) (job : Job) (old new : Files) (s t : Status) (k : Kind) → LeavesBy tells job old new s k → LeavesBy tells job old new t NoMemory
lost_leaves tells job old new s t Success h = inr (Console, h.0)
lost_leaves tells job old new s t NoJob h = absurd h
lost_leaves tells job old new s t (Unread file) h = inl h.0
lost_leaves tells job old new s t Refused h = inl h.0
lost_leaves tells job old new s t (Unwritten to) h = inr (to, h)
lost_leaves tells job old new s t Unsaid h = inr (Console, h)
lost_leaves tells job old new s t NoMemory h = h

module _ (tells : Type 0) (job : Job) (old mid new : Seen) (s : Status) (acts : Acts tells job old mid s) where
  -- no file changes while the line is said
  leaves_now : AllStay mid.files new.files → JobLeaves tells job old.files new.files s
  leaves_now stay =
      let same : new.files ≡ mid.files = λ i name. stay name i in
      subst (λ files. JobLeaves tells job old.files files s) (sym same) acts.leaves

  causes_now : CountsStay mid.faults new.faults → WorkCauses job old.faults new.faults s
  causes_now still =
      let same : new.faults ≡ mid.faults = λ i op name. still op name i in
      subst (λ faults. WorkCauses job old.faults faults s) (sym same) acts.causes

  -- the whole line was said
  whole_by : (k : Kind) → kind_of s ≡ k → LeavesBy tells job old.files new.files s k → WorkCausesBy job old.faults new.faults s k
      → (line_of s ≡ [] → new.said ≡ old.said) → (tells → new.said ≡ old.said ++ line_of s) → Runs tells job old new s k
  whole_by Success e leaves causes quiet said = record { leaves = leaves; causes = causes; says = said; silent = λ is. quiet (ap line_of is) }
  whole_by NoJob e leaves causes quiet said = absurd leaves
  whole_by (Unread file) e leaves causes quiet said =
      record { leaves = leaves; causes = causes; says = λ t. inl (said t); silent = λ is. quiet (ap line_of is) }
  whole_by Refused e leaves causes quiet said =
      record { leaves = leaves; causes = (causes.0, inl causes.1); says = λ t. inl (said t); silent = λ is. quiet (ap line_of is) }
  whole_by (Unwritten to) e leaves causes quiet said =
      record { leaves = leaves; causes = causes; says = λ t. inl (said t); silent = λ is. quiet (ap line_of is) }
  whole_by Unsaid e leaves causes quiet said = absurd causes
  whole_by NoMemory e leaves causes quiet said =
      let none = quiet (ap line_of (no_memory s e)) in
      let work : WorkCauses job old.faults new.faults s = subst (WorkCausesBy job old.faults new.faults s) (sym e) causes in
      let left : JobLeaves tells job old.files new.files s = subst (LeavesBy tells job old.files new.files s) (sym e) leaves in
      record { leaves = leaves; causes = (s, record { leaves = left; causes = work }); says = λ t. none; silent = λ is. none }

  -- the console failed while the line was said
  failed_by : (k : Kind) → kind_of s ≡ k → LeavesBy tells job old.files new.files s k → WorkCausesBy job old.faults mid.faults s k
      → NoneFell mid.faults new.faults → line_of s ≢ [] → Rose (old.faults Say []) (new.faults Say []) → (tells → GrewByPart (line_of s) old.said new.said)
      → Runs tells job old new (unsaid_by s k) (kind_of (unsaid_by s k))
  failed_by Success e leaves causes later ne rose part =
      let left : JobLeaves tells job old.files new.files s = subst (LeavesBy tells job old.files new.files s) (sym e) leaves in
      record { leaves = leaves.0; causes = rose; says = λ t. (s, e, left, causes.0, part t); silent = λ is. absurd cc }
  failed_by NoJob e leaves causes later ne rose part = absurd leaves
  failed_by (Unread file) e leaves causes later ne rose part =
      let name = input_of job file in
      let risen = rose_longer (old.faults Fetch name) (mid.faults Fetch name) (new.faults Fetch name) causes (later Fetch name) in
      subst (Runs tells job old new s) (sym e) (record { leaves = leaves; causes = risen; says = λ t. inr (rose, part t); silent = λ is. absurd (ne (ap line_of is)) })
  failed_by Refused e leaves causes later ne rose part =
      subst (Runs tells job old new s) (sym e) (record { leaves = leaves; causes = (causes.0, inr rose); says = λ t. inr (rose, part t); silent = λ is. absurd (ne (ap line_of is)) })
  failed_by (Unwritten to) e leaves causes later ne rose part =
      let name = output_of job to in
      let risen = rose_longer (old.faults Store name) (mid.faults Store name) (new.faults Store name) causes (later Store name) in
      subst (Runs tells job old new s) (sym e) (record { leaves = leaves; causes = risen; says = λ t. inr (rose, part t); silent = λ is. absurd (ne (ap line_of is)) })
  failed_by Unsaid e leaves causes later ne rose part = absurd causes
  failed_by NoMemory e leaves causes later ne rose part = absurd (ne (ap line_of (no_memory s e)))

  ended_by : (r : Status) → AllStay mid.files new.files → NoneFell mid.faults new.faults → Ended tells s mid new r → Runs tells job old new r (kind_of r)
  ended_by r stay later (Whole e still quiet said) =
      let At : Status → Type 0 = λ x. Runs tells job old new x (kind_of x) in
      subst At (sym e) (whole_by (kind_of s) refl (leaves_now stay) (causes_now still) (λ x. quiet x ∙ acts.said) (λ t. said t ∙ ap (λ x. x ++ line_of s) acts.said))
  ended_by r stay later (Failed e ne rose part) =
      let At : Status → Type 0 = λ x. Runs tells job old new x (kind_of x) in
      let risen = rose_later (old.faults Say []) (mid.faults Say []) (new.faults Say []) (acts.later Say []) rose in
      subst At (sym e) (failed_by (kind_of s) refl (leaves_now stay) acts.causes later ne risen (λ t. subst (λ x. GrewByPart (line_of s) x new.said) acts.said (part t)))
  ended_by r stay later (NoRoom e still quiet) =
      let At : Status → Type 0 = λ x. Runs tells job old new x (kind_of x) in
      let left = leaves_now stay in
      let work = causes_now still in
      let none = quiet ∙ acts.said in
      subst At (sym e) (record {
        leaves = lost_leaves tells job old.files new.files s OutOfMemory (kind_of s) left;
        causes = (s, record { leaves = left; causes = work });
        says = λ t. none;
        silent = λ is. none;
      })

apart : (r : Status) → r ≡ Usage → r ≡ OutOfMemory → ⊥
apart r e h = cc

module _ (tells : Type 0) (old mid new : Seen) (s r : Status) (d : Declines old mid s) (stay : AllStay mid.files new.files) (later : NoneFell mid.faults new.faults) where
  fell : NoneFell old.faults new.faults
  fell = fell_on old.faults mid.faults new.faults (fell_still old.faults mid.faults d.still) later

  declined_by : Ended tells s mid new r → Ran tells None old new r
  declined_by (Whole e still quiet said) =
      let is = e ∙ d.usage in
      let line : tells → new.said ≡ old.said ++ line_of Usage = λ t. subst (λ x. new.said ≡ mid.said ++ line_of x) d.usage (said t) ∙ ap (λ x. x ++ line_of Usage) d.said in
      record {
        leaves = λ name. stay name ∙ d.stay name;
        causes = inl (is, inl (stay_on old.faults mid.faults new.faults d.still still));
        says = λ t. subst (λ x. SaysLine (line_of x) old.faults new.faults old.said new.said) (sym is) (inl (line t));
        silent = λ h. absurd (apart r is h);
        later = fell;
      }
  declined_by (Failed e ne rose part) =
      let is = e ∙ ap unsaid d.usage in
      let risen = rose_later (old.faults Say []) (mid.faults Say []) (new.faults Say []) (fell_still old.faults mid.faults d.still Say []) rose in
      let front : tells → GrewByPart (line_of Usage) old.said new.said = λ t. subst (λ x. GrewByPart (line_of x) old.said new.said) d.usage (subst (λ x. GrewByPart (line_of s) x new.said) d.said (part t)) in
      record {
        leaves = λ name. stay name ∙ d.stay name;
        causes = inl (is, inr risen);
        says = λ t. subst (λ x. SaysLine (line_of x) old.faults new.faults old.said new.said) (sym is) (inr (risen, front t));
        silent = λ h. absurd (apart r is h);
        later = fell;
      }
  declined_by (NoRoom e still quiet) = record {
    leaves = λ name. stay name ∙ d.stay name;
    causes = inr (e, stay_on old.faults mid.faults new.faults d.still still);
    says = λ t. subst (λ x. SaysLine (line_of x) old.faults new.faults old.said new.said) (sym e) (inl (quiet ∙ d.said ∙ sym (append-nil old.said)));
    silent = λ h. quiet ∙ d.said;
    later = fell;
  }

pub ran : (tells : Type 0) (o : Option Job) (old mid new : Seen) (s r : Status) → ActsOf tells o old mid s → IsSaid tells s mid new r → Ran tells o old new r
ran tells None old mid new s r d h = declined_by tells old mid new s r d h.stay h.later h.ended
ran tells (Some job) old mid new s r acts h =
    let runs = ended_by tells job old mid new s acts r h.stay h.later h.ended in
    record { leaves = runs.leaves; causes = runs.causes; says = runs.says; silent = runs.silent; later = fell_on old.faults mid.faults new.faults acts.later h.later }

-- the words make this job, or none
pub ran_of : (tells : Type 0) (o p : Option Job) (old new : Seen) (r : Status) → o ≡ p → Ran tells p old new r → Ran tells o old new r
ran_of tells o p old new r e h = subst (λ x. Ran tells x old new r) (sym e) h

-- ## What comes where nothing fails

module _ (tells : Type 0) (job : Job) (old new : Files) (before now : Counts) (s : Status) where
  complete_by : (k : Kind) → kind_of s ≡ k → LeavesBy tells job old new s k → CausesBy tells job old new before now s k → tells → IsAccepted job old → NoneRose before now → IsDone job s
  complete_by Success e leaves causes t accepted none = inl causes.0
  complete_by NoJob e leaves causes t accepted none = absurd leaves
  complete_by (Unread file) e leaves causes t accepted none = absurd (none Fetch (input_of job file) causes)
  complete_by Refused e leaves causes t accepted none = absurd ((leaves.1 t).nothing accepted.0 accepted.1)
  complete_by (Unwritten to) e leaves causes t accepted none = absurd (none Store (output_of job to) causes)
  complete_by Unsaid e leaves causes t accepted none = absurd (none Say [] causes)
  complete_by NoMemory e leaves causes t accepted none = inr (no_memory s e)

  -- what was stored was made of bytes that nothing refuses
  not_refused : (to : Output) → StoredOf tells job to old new → tells → (refusal : Status) → FirstRefusalOf job old refusal → ⊥
  not_refused to h t refusal cause = (h.of.plan_of t).is.accepted refusal cause

  exact_by : (k : Kind) → LeavesBy tells job old new s k → tells → (refusal : Status) → FirstRefusalOf job old refusal → AnswersBy refusal s k
  exact_by Success leaves t refusal h = absurd (not_refused Console leaves.0 t refusal h)
  exact_by NoJob leaves t refusal h = absurd leaves
  exact_by (Unread file) leaves t refusal h = tt
  exact_by Refused leaves t refusal h = (leaves.1 t).only refusal h
  exact_by (Unwritten to) leaves t refusal h = absurd (not_refused to leaves t refusal h)
  exact_by Unsaid leaves t refusal h = absurd (not_refused Console leaves t refusal h)
  exact_by NoMemory leaves t refusal h = tt

pub complete : (tells : Type 0) (o : Option Job) (old new : Seen) (r : Status) → Ran tells o old new r → tells → (job : Job) → o ≡ Some job → IsAccepted job old.files
    → NoneRose old.faults new.faults → IsDone job r
complete tells o old new r h t job e accepted none =
    let here = subst (λ x. Ran tells x old new r) e h in
    complete_by tells job old.files new.files old.faults new.faults r (kind_of r) refl here.leaves here.causes t accepted none

refused_none : (refusal r : Status) → refusal ≡ Usage → (r ≡ Usage) ⊎ (r ≡ OutOfMemory) → AnswersRefusal refusal r
refused_none refusal r e (inl h) =
    subst (λ x. AnswersRefusal refusal x) (sym h) (subst (λ x. AnswersRefusal x Usage) (sym e) refl)
refused_none refusal r e (inr h) = subst (λ x. AnswersRefusal refusal x) (sym h) tt

or_memory : (r : Status) (quiet still : Type 0) → ((r ≡ Usage) × quiet) ⊎ ((r ≡ OutOfMemory) × still) → (r ≡ Usage) ⊎ (r ≡ OutOfMemory)
or_memory r quiet still (inl h) = inl h.0
or_memory r quiet still (inr h) = inr h.0

pub exact : (tells : Type 0) (o : Option Job) (old new : Seen) (r : Status) → Ran tells o old new r → tells → (refusal : Status) → FirstRefusalBy o old.files refusal → AnswersRefusal refusal r
exact tells None old new r h t refusal e = refused_none refusal r e (or_memory r (StillButSaying old.faults new.faults) (CountsStay old.faults new.faults) h.causes)
exact tells (Some job) old new r h t refusal cause =
    exact_by tells job old.files new.files old.faults new.faults r (kind_of r) h.leaves t refusal cause
