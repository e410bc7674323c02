-- Recovery without further workers.

use Rattle.std.specs.Prelude.{ℕ, zero, suc, ◌-◌, ◌==◌, List, [], ◌∷◌, length, slice_index, if◌then◌else◌}
use Rattle.gs_design.specs.declared.design.Design.{Design}
use Rattle.gs_move.specs.Entries.{commits_of}
use Rattle.gs_move.specs.Judge.{Answers, fair_moves}
use Rattle.gs_move.specs.Settle.{entries_after, settle_of}
use Rattle.gs_move.specs.State.{sizes_now}
use Rattle.gs_move.specs.declared.ended.Ended.{Ended}
use Rattle.gs_move.specs.declared.ended.Ended.TheVariants.{Settled, Spent}
use Rattle.gs_move.specs.declared.entry.Entry.{Entry}
use Rattle.gs_move.specs.declared.moves.Move.{Move}

-- the moves that are Fair at the sizes after these entries, in order: what a round begins with
abbrev pub sweep_of : Answers → Design → (start : List ℕ) → List Entry → List Move
sweep_of J d start es = fair_moves J d (sizes_now start es)

-- a move is tried and settled at once, by worker 0; one whose place is the present one is skipped
abbrev pub after_move : Answers → Design → (start : List ℕ) → (budget : ℕ) → List Entry → Move → List Entry
after_move J d start budget es m =
    if m.place == slice_index (sizes_now start es) m.inst then es
    else entries_after es m 0 (settle_of J d start budget es m (length (commits_of es)))

-- a round takes its moves in order, and stops where the budget is reached
abbrev pub after_round : Answers → Design → (start : List ℕ) → (budget : ℕ) → List Entry → List Move → List Entry
after_round J d start budget es [] = es
after_round J d start budget es (m ∷ ms) = if length es == budget then es else after_round J d start budget (after_move J d start budget es m) ms

-- At most so many rounds. A round begins with a sweep: where no move is Fair, recovery has ended settled; else, where the entries equal
-- the budget, it has ended spent; else the round is run.
abbrev pub after_rounds : Answers → Design → (start : List ℕ) → (budget : ℕ) → (rounds : ℕ) → List Entry → List Entry × Ended
after_rounds J d start budget zero es = (es, Spent)
after_rounds J d start budget (suc rounds) es =
    if length (sweep_of J d start es) == 0 then (es, Settled)
    else if length es == budget then (es, Spent)
    else after_rounds J d start budget rounds (after_round J d start budget es (sweep_of J d start es))

-- The entries and the way of ending of recovery from some entries on. Each round that is run adds an entry, since its first move is
-- committed, so there are no more rounds than entries that are left, and one that ends it.
abbrev pub alone_from : Answers → Design → (start : List ℕ) → (budget : ℕ) → List Entry → List Entry × Ended
alone_from J d start budget es = after_rounds J d start budget (suc (budget - length es)) es

-- and from the start
abbrev pub alone : Answers → Design → (start : List ℕ) → (budget : ℕ) → List Entry × Ended
alone J d start budget = alone_from J d start budget []
