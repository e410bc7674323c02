use Rattle.std.proofs.Common.{◌≡◌, ℕ, true, List, subst}
use Rattle.gs_move.specs.Entries.{IsMoveOf}
use Rattle.gs_move.specs.Moves.{is_move}
use Rattle.gs_move.specs.declared.moves.Move.{Move}
use Rattle.gs_top.proofs.Recovering.{entries_of}
use Rattle.gs_top.proofs.size.entries_are_moves.Goals as goal

pub returns : goal.returns
returns c =
    let book = c.args.book.now in
    entries_of book.design book.start book.budget book.entries
    (subst (λ d. (s : List ℕ) (m : Move) → is_move d s m ≡ true → IsMoveOf d m) c.design.ensures c.moves_fit.ensures.places) c.entries.ensures.legal
