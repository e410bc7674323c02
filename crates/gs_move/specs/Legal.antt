-- Which entries a run may have.

use Rattle.std.specs.Prelude.{ℕ, ◌≡◌, ◌<◌, ◌≤◌, true, false, List, length, take}
use Rattle.gs_design.specs.declared.design.Design.{Design}
use Rattle.gs_move.specs.Entries.{is_commit, move_of}
use Rattle.gs_move.specs.Judge.{Answers, is_fair_by}
use Rattle.gs_move.specs.Moves.{is_move}
use Rattle.gs_move.specs.Settle.{entry_at, known_at}
use Rattle.gs_move.specs.State.{sizes_now}
use Rattle.gs_move.specs.declared.entry.Entry.{Entry}

-- the sizes after the commits before entry k, counted from 0
abbrev pub sizes_before : (start : List ℕ) → List Entry → ℕ → List ℕ
sizes_before start es k = sizes_now start (take k es)

pub record IsLegal (J : Answers) (d : Design) (start : List ℕ) (budget : ℕ) (es : List Entry) : Type 0 where
  -- at most as many entries as the budget
  pub few : length es ≤ budget
  -- each entry's move is a move at the sizes after the commits before it
  pub moves : (k : ℕ) → k < length es → is_move d (sizes_before start es k) (move_of (entry_at es k)) ≡ true
  -- it is Fair by the judge there where the entry is a commit, and isn't where it is a reject
  pub judged : (k : ℕ) → k < length es → is_fair_by J d (sizes_before start es k) (move_of (entry_at es k)) ≡ is_commit (entry_at es k)
  -- no move is rejected twice without a commit between
  pub once : (k : ℕ) → k < length es → is_commit (entry_at es k) ≡ false → known_at es k (move_of (entry_at es k)) ≡ 0
