-- The journal of a run: its commits, each with what it changed.

use Rattle.std.specs.Prelude.{ℕ, List, [], ◌∷◌}
use Rattle.gs_design.specs.declared.design.Design.{Design}
use Rattle.gs_move.specs.Moves.{after}
use Rattle.gs_move.specs.Trial.{changed_nets, delta_of}
use Rattle.gs_move.specs.declared.entry.Entry.{Entry}
use Rattle.gs_move.specs.declared.entry.Entry.TheVariants.{Commit, Reject}
use Rattle.gs_move.specs.declared.moves.Move.{Move}
use Rattle.gs_move.specs.declared.trial.JournalEntry.{JournalEntry}

-- a commit at sizes: the move and its worker, and the records that the move changes there
abbrev pub committed_at : Design → List ℕ → Move → (worker : ℕ) → JournalEntry
committed_at d s m w = record { mv = m; worker = w; delta = delta_of m (changed_nets d s m) }

-- the commits of these entries in order, each at the sizes after those before it
abbrev pub journal_of : Design → (start : List ℕ) → List Entry → List JournalEntry
journal_of d start [] = []
journal_of d start (Commit m w ∷ es) = committed_at d start m w ∷ journal_of d (after start m) es
journal_of d start (Reject m w ∷ es) = journal_of d start es

-- the move of a journal's entry
abbrev pub journal_move : JournalEntry → Move
journal_move j = j.mv
