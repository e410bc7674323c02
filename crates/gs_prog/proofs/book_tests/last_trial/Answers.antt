use Rattle.std.proofs.Common.{◌≡◌, ◌≤◌, ◌∙◌, ap, length, sym, arith}
use Rattle.gs_move.specs.Entries.{commits_of}
use Rattle.gs_move.specs.Moves.{is_move}
use Rattle.gs_move.specs.Recovery.{recovery}
use Rattle.gs_move.specs.State.{sizes_at, sizes_now}
use Rattle.gs_move.specs.Trial.{trial_of}
use Rattle.gs_prog.proofs.BookTrials.{state_now, trial_fits}
use Rattle.gs_prog.proofs.book_tests.last_trial.Goals as goal

pub returns : goal.returns
returns c =
    let book = c.args.book.now in
    let front = c.front-front.result in
    let front_is : front ≡ length (commits_of book.entries) = c.front-front.ensures in
    let within : front ≤ length (commits_of book.entries) = omega (arith, front_is) in
    let state = ap (sizes_at book.start book.entries) front_is ∙ state_now book.start book.entries in
    let moves = sym (c.if-not-is_one.ensures ∙ (λ i. is_move (c.design-2.ensures i) (c.sizes.ensures.value i) c.args.mv)) in
    let is = c.in_ok-tried.ensures ∙ (λ i. trial_of recovery (c.design-3.ensures i) (c.sizes-2.ensures.value i) c.args.mv front 3) in
    trial_fits recovery book.design book.start book.entries (sizes_now book.start book.entries) c.args.mv front 3 c.in_ok-tried.field-0 within state is moves
