-- The storing of texts, one after another.
use Rattle.std.specs.Prelude.{◌≡◌, ◌≢◌, ℕ, ◌⊎◌, List, Result, Ok, Err}
use Rattle.gs_shelf.specs.Faults.{Counts, CountsStay, NoneFell, Rose}
use Rattle.gs_shelf.specs.declared.calls.Op.TheVariants.{Store}
use Rattle.gs_top.specs.Answer.{Seen}
use Rattle.gs_top.specs.Plan.{IsStored}
use Rattle.gs_top.specs.declared.plan.Plan.{Plan}
use Rattle.gs_top.specs.declared.plan.Text.{Text}
use Rattle.gs_top.specs.declared.status.Output.{Output}
use Rattle.gs_top.specs.declared.status.Output.TheVariants.{Console}
use Rattle.gs_top.specs.declared.status.Status.{Status}
use Rattle.gs_top.specs.declared.status.Status.TheVariants.{WriteFault, OutOfMemory}

-- a text was not stored: its count rose, or memory ran out
abbrev pub StoreFails : (names : Output → List ℕ) → Output → Counts → Counts → Status → Type 0
StoreFails names to old new s =
    ((s ≡ WriteFault to) × Rose (old Store (names to)) (new Store (names to))) ⊎ ((s ≡ OutOfMemory) × CountsStay old new)

-- the texts are stored up to this output, whose file was not written
pub record Stops (tells : Type 0) (names : Output → List ℕ) (ts : List Text) (old new : Seen) (s : Status) : Type 0 where
  pub to : Output
  pub file : to ≢ Console
  pub stored : IsStored tells names to ts old.files new.files
  pub fails : StoreFails names to old.faults new.faults s

abbrev pub StoreAnswers : {X : Type 0} → (tells : Type 0) → (names : Output → List ℕ) → List Text → Seen → Seen → Result X Status → Type 0
StoreAnswers tells names ts old new (Ok u) = IsStored tells names Console ts old.files new.files × CountsStay old.faults new.faults
StoreAnswers tells names ts old new (Err s) = Stops tells names ts old new s

pub record Stores {X : Type 0} (tells : Type 0) (names : Output → List ℕ) (ts : List Text) (old new : Seen) (r : Result X Status) : Type 0 where
  pub said : new.said ≡ old.said
  pub later : NoneFell old.faults new.faults
  pub answer : StoreAnswers tells names ts old new r

-- the storing of a plan, which ends with its success where all is stored
pub record Ends (tells : Type 0) (names : Output → List ℕ) (plan : Plan) (old new : Seen) (s : Status) : Type 0 where
  pub said : new.said ≡ old.said
  pub later : NoneFell old.faults new.faults
  pub answer : ((s ≡ plan.success) × IsStored tells names Console plan.texts old.files new.files × CountsStay old.faults new.faults) ⊎ Stops tells names plan.texts old new s
