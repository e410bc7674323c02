-- Moves of a design, and what the entries of a run say.

use Rattle.std.specs.Prelude.{ℕ, ◌<◌, ◌==◌, Bool, true, false, ◌&&◌, List, map, filter, length, count_by, All}
use Rattle.gs_design.specs.Insts.{inst_at}
use Rattle.gs_design.specs.declared.design.Design.{Design}
use Rattle.gs_move.specs.declared.entry.Entry.{Entry}
use Rattle.gs_move.specs.declared.entry.Entry.TheVariants.{Commit, Reject}
use Rattle.gs_move.specs.declared.moves.Move.{Move}

-- a move of a design: of one of its instances, to the place of one of that instance's alternatives
pub record IsMoveOf (d : Design) (m : Move) : Type 0 where
  pub inst_in : m.inst < length d.insts
  pub place_in : m.place < length (inst_at d.insts m.inst).alts

-- the move that was tried
abbrev pub move_of : Entry → Move
move_of (Commit m w) = m
move_of (Reject m w) = m

-- the worker that tried it
abbrev pub worker_of : Entry → ℕ
worker_of (Commit m w) = w
worker_of (Reject m w) = w

abbrev pub is_commit : Entry → Bool
is_commit (Commit m w) = true
is_commit (Reject m w) = false

-- entries of a design: each is of a move of it
abbrev pub AreEntriesOf : Design → List Entry → Type 0
AreEntriesOf d es = All (λ e. IsMoveOf d (move_of e)) es

-- the moves that were committed, in order
abbrev pub commits_of : List Entry → List Move
commits_of es = map move_of (filter is_commit es)

-- how many entries are commits
abbrev pub commit_count : List Entry → ℕ
commit_count es = count_by is_commit es

-- how many are commits of one worker
abbrev pub worker_commits : List Entry → (worker : ℕ) → ℕ
worker_commits es w = count_by (λ e. is_commit e && (worker_of e == w)) es
