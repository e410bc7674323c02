use Rattle.std.proofs.Common.{◌∙◌, refl, sym, arith}
use Rattle.gs_move.specs.Moves.{is_move}
use Rattle.gs_move.specs.Recovery.{recovery}
use Rattle.gs_move.specs.Trial.{trial_of}
use Rattle.gs_prog.proofs.BookTrials.{trial_fits}
use Rattle.gs_prog.proofs.book_tests.first_trial.Goals as goal

pub returns : goal.returns
returns c =
    let book = c.args.book.now in
    let moves = sym (c.if-not-is_one.ensures ∙ (λ i. is_move (c.design-2.ensures i) (c.start.ensures.value i) c.args.mv)) in
    let is = c.in_ok-tried.ensures ∙ (λ i. trial_of recovery (c.design-4.ensures i) (c.start-3.ensures.value i) c.args.mv 0 3) in
    trial_fits recovery book.design book.start book.entries book.start c.args.mv 0 3 c.in_ok-tried.field-0 (omega arith) refl is moves
