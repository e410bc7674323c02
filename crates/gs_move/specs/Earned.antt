-- That no budget is spent on moves that never were Fair.

use Rattle.std.specs.Prelude.{ℕ, ◌≡◌, ◌<◌, ◌≤◌, Bool, true, false, ◌&&◌, List, length, take}
use Rattle.std.specs.List.{list_any, range_with_len}
use Rattle.gs_design.specs.declared.design.Design.{Design}
use Rattle.gs_move.specs.Entries.{commits_of, is_commit, move_of}
use Rattle.gs_move.specs.Judge.{Answers, is_fair_by}
use Rattle.gs_move.specs.Moves.{is_move}
use Rattle.gs_move.specs.Settle.{entry_at}
use Rattle.gs_move.specs.State.{sizes_at}
use Rattle.gs_move.specs.declared.entry.Entry.{Entry}
use Rattle.gs_move.specs.declared.moves.Move.{Move}

-- whether a move was a move, and Fair by the judge, at the sizes after the first j commits
abbrev pub was_fair_at : Answers → Design → (start : List ℕ) → List Entry → Move → ℕ → Bool
was_fair_at J d start es m j = is_move d (sizes_at start es j) m && is_fair_by J d (sizes_at start es j) m

-- Each reject after the first n entries was earned: with c commits before it, for some j below c its move was Fair after the first j.
abbrev pub IsEarned : Answers → Design → (start : List ℕ) → List Entry → (n : ℕ) → Type 0
IsEarned J d start es n = (k : ℕ) → n ≤ k → k < length es → is_commit (entry_at es k) ≡ false
    → list_any (was_fair_at J d start es (move_of (entry_at es k))) (range_with_len 0 (length (commits_of (take k es)))) ≡ true
