-- What settling a trial answers, and the entry that it leaves.

use Rattle.std.specs.Prelude.{ℕ, zero, suc, ◌+◌, ◌-◌, ◌==◌, Bool, false, ◌&&◌, List, [], ◌∷◌, ◌++◌, length, nat_lt, slice_index_or, if◌then◌else◌}
use Rattle.gs_design.specs.declared.design.Design.{Design}
use Rattle.gs_move.specs.Entries.{commits_of, is_commit}
use Rattle.gs_move.specs.Judge.{Answers, is_fair_by}
use Rattle.gs_move.specs.Run.{move_at, no_move}
use Rattle.gs_move.specs.State.{sizes_now}
use Rattle.gs_move.specs.declared.entry.Entry.{Entry}
use Rattle.gs_move.specs.declared.entry.Entry.TheVariants.{Commit, Reject}
use Rattle.gs_move.specs.declared.moves.Move.{Move}
use Rattle.gs_move.specs.declared.settled.Settled.{Settled}
use Rattle.gs_move.specs.declared.settled.Settled.TheVariants.{Spent, Stale, Known, Rejected, Committed}
use Rattle.gs_move.specs.declared.site.Site.TheVariants.{Inst}

abbrev pub same_move : Move → Move → Bool
same_move a b = (a.inst == b.inst) && (a.place == b.place)

abbrev pub rejects : Move → Entry → Bool
rejects m (Commit n w) = false
rejects m (Reject n w) = same_move m n

-- what stands for an entry past the end of a list
abbrev pub no_entry : Entry
no_entry = Reject no_move 0

abbrev pub entry_at : List Entry → ℕ → Entry
entry_at es k = slice_index_or es k no_entry

-- one more than the greatest k below n that passes a test, or 0 where none does
abbrev pub last_where : (ℕ → Bool) → ℕ → ℕ
last_where p zero = 0
last_where p (suc n) = if p n then suc n else last_where p n

-- among the first n entries: the number of the last commit, and of the last entry that rejects a move, counted from 1, or 0
abbrev pub last_commit : List Entry → ℕ → ℕ
last_commit es n = last_where (λ k. is_commit (entry_at es k)) n

abbrev pub last_reject : List Entry → ℕ → Move → ℕ
last_reject es n m = last_where (λ k. rejects m (entry_at es k)) n

-- the number of the entry, among the first n, that rejects a move and that no commit follows there, or 0 where there is none
abbrev pub known_at : List Entry → ℕ → Move → ℕ
known_at es n m = if nat_lt (last_commit es n) (last_reject es n m) then last_reject es n m else 0

-- the instance that the last commit moved
abbrev pub last_moved : List Entry → ℕ
last_moved es = (move_at (commits_of es) (length (commits_of es) - 1)).inst

-- What settling a trial of a move answers, where the trial was made at the state after the first `front` commits: the first of these
-- that stands.
abbrev pub settle_of : Answers → Design → (start : List ℕ) → (budget : ℕ) → List Entry → Move → (front : ℕ) → Settled
settle_of J d start budget es m front =
    -- there are as many entries as the budget
    if length es == budget then Spent (length es)
    -- a commit came after the state of the trial
    else if nat_lt front (length (commits_of es)) then Stale (Inst (last_moved es)) (length (commits_of es))
    -- the move was rejected, and no commit followed
    else if nat_lt 0 (known_at es (length es) m) then Known (known_at es (length es) m)
    -- the move is Fair by the judge at the present sizes
    else if is_fair_by J d (sizes_now start es) m then Committed (length (commits_of es) + 1)
    else Rejected (length es + 1)

-- the entries after a move of a worker was settled with this answer
abbrev pub entries_after : List Entry → Move → (worker : ℕ) → Settled → List Entry
entries_after es m w (Spent settled) = es
entries_after es m w (Stale site at) = es
entries_after es m w (Known k) = es
entries_after es m w (Rejected k) = es ++ Reject m w ∷ []
entries_after es m w (Committed k) = es ++ Commit m w ∷ []
