use Rattle.std.proofs.Common.{◌≡◌, ◌∙◌, ℕ, List, [], ◌∷◌, ◌++◌, Bool, false, true, map, sym, ap}
use Rattle.std.specs.Option.{option_map}
use Rattle.gs_sdc.specs.Reader.{is_named}
use Rattle.gs_sdc.specs.Reads.{names_of, word_is}
use Rattle.gs_sdc.specs.Sdc.{repeats}
use Rattle.gs_sdc.specs.Terms.{driver_port}
use Rattle.gs_sdc.proofs.PortLaws.{again_end, again_stop, driven_end, driven_turn, driver, drivers_again, stops_again}
use Rattle.gs_sdc.proofs.given.Driven.drive.Goals as goal

pub loop-piece-preserved : goal.loop-piece-preserved
loop-piece-preserved c =
    let bytes = c.args.bytes.now in
    let ps = c.args.names.now in
    let i = c.loop-piece.piece-index in
    let d = c.args.driver.now in
    let pin = option_map word_is d.pin in
    let old = c.loop-piece.self.list.items in
    let new = c.drive_one.new.self.list.items in
    let more = c.in-Ok.ensures.list ∙ ap (λ (x : List ℕ). old ++ driver d.cell.now pin d.rise d.fall x ∷ []) c.text_of.ensures in
    let fresh = ap (λ (x : List ℕ). is_named x (map driver_port old)) (sym c.text_of.ensures) ∙ c.in-Ok.ensures.fresh in
    record {
      kept = c.in-Ok.ensures.kept;
      list = driven_turn d.cell.now pin d.rise d.fall bytes ps i _ c.args.self.now.list.items old new c.loop-piece-test.true c.loop-piece.invariant.list more;
      again = drivers_again d.cell.now pin d.rise d.fall bytes ps i _ old new _ c.loop-piece-test.true more fresh c.loop-piece.invariant.again;
    }

pub returns-in-Err-clause-err : goal.returns-in-Err-clause-err
returns-in-Err-clause-err c =
    let old = c.loop-piece.self.list.items in
    stops_again c.in-Err.stop _ _
    (λ there. sym c.loop-piece.invariant.again
    ∙ again_stop (map driver_port old) c.args.bytes.now c.args.names.now c.loop-piece.piece-index _ c.loop-piece-test.true
    (ap (λ (x : List ℕ). is_named x (map driver_port old)) (sym c.text_of.ensures) ∙ there))
    c.in-Err.ensures.err

pub returns-clause-list : goal.returns-clause-list
returns-clause-list c =
    let d = c.args.driver.now in
    driven_end d.cell.now (option_map word_is d.pin) d.rise d.fall c.args.bytes.now c.args.names.now c.loop-piece.piece-index c.args.self.now.list.items c.loop-piece.self.list.items
    c.loop-piece-test.false c.loop-piece.invariant.list

pub returns-clause-fresh : goal.returns-clause-fresh
returns-clause-fresh c =
    sym c.loop-piece.invariant.again ∙ again_end (map driver_port c.loop-piece.self.list.items) c.args.bytes.now c.args.names.now c.loop-piece.piece-index c.loop-piece-test.false
