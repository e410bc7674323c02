-- Trials that a book settles: of moves at one of its states.

use Rattle.std.proofs.Common.{◌≡◌, ℕ, ◌≤◌, true, List, take, length, Option, None, Some, refl, sym, ◌∙◌, ap, subst, arith}
use Rattle.std.proofs.lemmas.List.{take_all}
use Rattle.gs_book.specs.Book.{IsTrialOf}
use Rattle.gs_design.specs.declared.design.Design.{Design}
use Rattle.gs_move.specs.Entries.{commits_of}
use Rattle.gs_move.specs.Fair.{new_leak, present_leak}
use Rattle.gs_move.specs.Judge.{Answers}
use Rattle.gs_move.specs.Moves.{is_move}
use Rattle.gs_move.specs.Run.{sizes_after}
use Rattle.gs_move.specs.State.{sizes_at, sizes_now}
use Rattle.gs_move.specs.Trial.{trial_after_glance, trial_of}
use Rattle.gs_move.specs.declared.entry.Entry.{Entry}
use Rattle.gs_move.specs.declared.moves.Move.{Move}
use Rattle.gs_move.specs.declared.outcome.Why.{Why}
use Rattle.gs_move.specs.declared.trial.Trial.{Trial}

-- what a trial was made of
record Parts (m : Move) (front worker : ℕ) (t : Trial) : Type 0 where
  mv_is : t.mv ≡ m
  front_is : t.front ≡ front
  worker_is : t.worker ≡ worker

parts_by : (J : Answers) (d : Design) (s : List ℕ) (m : Move) (front worker : ℕ) (o : Option Why) → Parts m front worker (trial_after_glance J d s m front worker o)
parts_by J d s m front worker None = record { mv_is = refl; front_is = refl; worker_is = refl }
parts_by J d s m front worker (Some why) = record { mv_is = refl; front_is = refl; worker_is = refl }

module _ (J : Answers) (d : Design) (start : List ℕ) (es : List Entry) (s : List ℕ) (m : Move) (front worker : ℕ) (t : Trial) (within : front ≤ length (commits_of es)) (state : sizes_at start es front ≡ s) (is : t ≡ trial_of J d s m front worker) (moves : is_move d s m ≡ true) where
  parts : Parts m front worker t
  parts = subst (Parts m front worker) (sym is) (parts_by J d s m front worker (J.glance (present_leak d s m) (new_leak d m)))

  state_is : sizes_at start es t.front ≡ s
  state_is = ap (λ n. sizes_at start es n) parts.front_is ∙ state

  -- the trial of a move at a state of a book is one that the book settles
  pub trial_fits : IsTrialOf J d start es t
  trial_fits = record {
    front = (let e = parts.front_is in omega (arith, e, within));
    moves = ap (λ x. is_move d x t.mv) state_is ∙ ap (λ n. is_move d s n) parts.mv_is ∙ moves;
    is = is ∙ (λ i. trial_of J d (sym state_is i) (sym parts.mv_is i) (sym parts.front_is i) (sym parts.worker_is i));
  }

-- the state after all commits
pub state_now : (start : List ℕ) (es : List Entry) → sizes_at start es (length (commits_of es)) ≡ sizes_now start es
state_now start es = ap (sizes_after start) (take_all (length (commits_of es)) (commits_of es) (omega arith))
