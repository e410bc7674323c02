-- What a book is, what it keeps, and which trials it settles.

use Rattle.std.specs.Prelude.{ℕ, ◌≡◌, ◌≤◌, true, List, length}
use Rattle.gs_book.specs.Journal.{journal_of}
use Rattle.gs_book.specs.Noted.{IsNoted, Noted}
use Rattle.gs_design.specs.Sizes.{FitSizes}
use Rattle.gs_design.specs.Timing.{timing_of}
use Rattle.gs_design.specs.declared.design.Design.{Design}
use Rattle.gs_design.specs.declared.time.NetTime.{NetTime}
use Rattle.gs_move.specs.Entries.{commits_of}
use Rattle.gs_move.specs.Judge.{Answers}
use Rattle.gs_move.specs.Legal.{IsLegal}
use Rattle.gs_move.specs.Moves.{is_move}
use Rattle.gs_move.specs.Settle.{last_commit}
use Rattle.gs_move.specs.State.{sizes_at, sizes_now}
use Rattle.gs_move.specs.Trial.{trial_of}
use Rattle.gs_move.specs.declared.entry.Entry.{Entry}
use Rattle.gs_move.specs.declared.settled.Settled.{Settled}
use Rattle.gs_move.specs.declared.settled.Settled.TheVariants.{Spent, Stale, Known, Rejected, Committed}
use Rattle.gs_move.specs.declared.trial.JournalEntry.{JournalEntry}
use Rattle.gs_move.specs.declared.trial.Trial.{Trial}

-- A book, as contracts see it: a design, a judge, the sizes at its start, how many entries it may have, those that it has, and for how many
-- more there is memory. Its sizes, their timing and its journal are those of its entries.
pub record BookOf (J : Type 0) : Type 0 where
  pub design : Design
  pub judge : J
  pub start : List ℕ
  pub budget : ℕ
  pub entries : List Entry
  pub spare : ℕ

-- What a book keeps of its parts at every moment.
pub record IsKept (J : Answers) (d : Design) (start : List ℕ) (budget : ℕ) (es : List Entry) (journal : List JournalEntry) (sizes : List ℕ) (timing : List NetTime) (rejected : Noted) (last : ℕ) : Type 0 where
  -- the sizes at the start fit the design
  pub fits : FitSizes d start
  -- the present sizes are those after the commits and fit the design too, and the timing is theirs
  pub sizes_are : sizes ≡ sizes_now start es
  pub sizes_fit : FitSizes d sizes
  pub timing_is : timing ≡ timing_of d sizes
  -- the journal is the commits with what each changed
  pub journal_is : journal ≡ journal_of d start es
  -- the entries are legal
  pub legal : IsLegal J d start budget es
  -- which entry rejected each move last, and which was the last commit, counted from 1, or 0
  pub noted : IsNoted d es rejected
  pub last_is : last ≡ last_commit es (length es)

-- a trial by the book's judge, of a move at the state after some of the commits: what a worker found out there
pub record IsTrialOf (J : Answers) (d : Design) (start : List ℕ) (es : List Entry) (t : Trial) : Type 0 where
  pub front : t.front ≤ length (commits_of es)
  pub moves : is_move d (sizes_at start es t.front) t.mv ≡ true
  pub is : t ≡ trial_of J d (sizes_at start es t.front) t.mv t.front t.worker

-- the answer to a trial by which no entry is added
abbrev pub AddsNone : Settled → Type 0
AddsNone (Spent settled) = Unit {0}
AddsNone (Stale site at) = Unit {0}
AddsNone (Known k) = Unit {0}
AddsNone (Rejected k) = ⊥
AddsNone (Committed k) = ⊥
