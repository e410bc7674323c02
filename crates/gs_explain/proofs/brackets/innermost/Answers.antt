use Rattle.std.proofs.Common.{◌≡◌, ◌<◌, ◌+◌, ◌-◌, length, drop, arith}
use Rattle.std.specs.List.{count_by}
use Rattle.gs_text.specs.declared.kinds.Kind.TheVariants.{Word}
use Rattle.gs_text.specs.declared.kinds.Piece.{Piece}
use Rattle.gs_explain.specs.Pieces.{closes, opens}
use Rattle.gs_explain.proofs.BracketLaws.{closed_back, counted}
use Rattle.gs_explain.proofs.brackets.innermost.Goals as goal

abbrev no_piece : Piece
no_piece = record { kind = Word; from = 0; to = 0; line = 0 }

pub loop-i-preserved : goal.loop-i-preserved
loop-i-preserved c =
    let next : c.loop-i.i ≡ c.loop-i.i - 1 + 1 = omega (arith, c.loop-i-test.true) in
    let inside : c.loop-i.i - 1 < length c.args.found.now = omega (arith, c.loop-i-test.true, c.loop-i.invariant.within) in
    let opened : c.tally-open.result ≡ count_by (opens c.args.bytes.now) (drop (c.loop-i.i - 1) c.args.found.now) =
    counted (opens c.args.bytes.now) c.args.found.now (c.loop-i.i - 1) c.loop-i.i no_piece c.tally-open.result c.loop-i.open c.opens.result next inside c.opens.ensures c.tally-open.ensures.value c.loop-i.invariant.opened in
    let closed : c.tally-closed.result ≡ count_by (closes c.args.bytes.now) (drop (c.loop-i.i - 1) c.args.found.now) =
    counted (closes c.args.bytes.now) c.args.found.now (c.loop-i.i - 1) c.loop-i.i no_piece c.tally-closed.result c.loop-i.closed c.closes.result next inside c.closes.ensures c.tally-closed.ensures.value c.loop-i.invariant.closed in
    record {
      within = omega (arith, c.loop-i.invariant.within);
      open_few = omega (arith, c.tally-open.ensures.within, c.loop-i.invariant.open_few, c.loop-i-test.true);
      closed_few = omega (arith, c.tally-closed.ensures.within, c.loop-i.invariant.closed_few, c.loop-i-test.true);
      opened = opened;
      closed = closed;
      all = closed_back c.args.bytes.now c.args.found.now (c.loop-i.i - 1) (omega (arith, c.if-open-closed.false, opened, closed))
          (λ j h. c.loop-i.invariant.all j (omega (arith, next, h)));
    }
