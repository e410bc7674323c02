use Rattle.std.proofs.Common.{◌∙◌, ◌+◌, ◌≤◌, arith, length, refl}
use Rattle.gs_text.proofs.CutLaws.{Begins, begins, on_one_line, passes, finds, goes_past, stops, ends, length-rest, piece_here, agrees_white, agrees_piece, agrees_comment, place_white, place_piece, place_comment}
use Rattle.gs_text.specs.Pieces.{LiesIn}
use Rattle.gs_text.proofs.Faulty.{decided}
use Rattle.gs_text.proofs.Follow.{lies, good_text}
use Rattle.gs_text.specs.declared.kinds.Piece.{Piece}
use Rattle.gs_text.specs.declared.kinds.TextErr.{TextErr}
use Rattle.gs_text.specs.declared.scan.Front.TheVariants.{Found, OpenString, OpenComment}
use Rattle.gs_text.proofs.cutter.next_piece.Goals as goal

pub loop-here-preserved-in-Gap : goal.loop-here-preserved-in-Gap
loop-here-preserved-in-Gap c = rw c.past_white-here.ensures (record {
  place = place_white _ c.args.bytes.now c.loop-here.here c.loop-here.invariant.place c.loop-here-test.true;
  further = omega (arith, c.loop-here.invariant.further);
  agrees = λ before a. agrees_white c.args.bytes.now _ before c.loop-here.here (c.loop-here.invariant.agrees before a);
  same = λ before a. c.loop-here.invariant.same before a
      ∙ passes c.args.style c.args.bytes.now c.loop-here.here c.loop-here-test.true before (c.loop-here.invariant.agrees before a) c.in-Gap.ensures.value;
})

pub past_piece-requires-clause-one_line : goal.past_piece-requires-clause-one_line
past_piece-requires-clause-one_line c =
    rw c.piece_at-piece.ensures (on_one_line c.args.style c.args.bytes.now c.loop-here.here c.loop-here-test.true c.in-Found.kind c.in-Found.len c.in-Found.ensures.value)

pub loop-here-preserved : goal.loop-here-preserved
loop-here-preserved c =
    let fits : c.loop-here.here.at + c.in-Passed.len ≤ length c.args.bytes.now = omega (arith, c.in-Passed.ensures.fits.1, length-rest c.args.bytes.now (c.loop-here.here.at + 1)) in
    rw c.past_comment-here.ensures.value (record {
      place = place_comment (c.loop-here.here.at + c.in-Passed.len) c.args.bytes.now c.loop-here.here c.loop-here.invariant.place (omega arith) fits;
      further = omega (arith, c.loop-here.invariant.further);
      agrees = λ before a. agrees_comment c.args.bytes.now (c.loop-here.here.at + c.in-Passed.len) before c.loop-here.here (c.loop-here.invariant.agrees before a);
      same = λ before a. c.loop-here.invariant.same before a
          ∙ goes_past c.args.style c.args.bytes.now c.loop-here.here c.loop-here-test.true before (c.loop-here.invariant.agrees before a) c.in-Passed.len c.in-Passed.ensures.value c.in-Passed.ensures.fits.0 fits;
    })

pub returns-in-Found-clause-next : goal.returns-in-Found-clause-next
returns-in-Found-clause-next c =
    let fits : c.loop-here.here.at + c.in-Found.len ≤ length c.args.bytes.now = omega (arith, c.in-Found.ensures.fits.2, length-rest c.args.bytes.now (c.loop-here.here.at + 1)) in
    let p : Piece = piece_here c.args.style c.loop-here.here c.in-Found.kind c.in-Found.len in
    let b : Begins c.args.style c.args.bytes.now c.loop-here.here (Found c.in-Found.kind c.in-Found.len) =
    begins c.args.style c.args.bytes.now c.loop-here.here c.loop-here-test.true (Found c.in-Found.kind c.in-Found.len) c.in-Found.ensures.value in
    let inside : LiesIn (length c.args.bytes.now) p = lies c.args.style c.args.bytes.now c.loop-here.here c.in-Found.kind c.in-Found.len b in
    rw (c.past_piece.ensures.value, c.piece_at-piece.ensures) (record {
      first = λ before a. c.loop-here.invariant.same before a
          ∙ finds c.args.style c.args.bytes.now c.loop-here.here c.loop-here-test.true before (c.loop-here.invariant.agrees before a) c.in-Found.kind c.in-Found.len c.in-Found.ensures.value c.in-Found.ensures.fits.1 fits;
      agrees = λ before a. agrees_piece c.args.bytes.now p before c.loop-here.here (c.loop-here.invariant.agrees before a);
      begins = c.loop-here.invariant.further;
      ends = refl;
      place_after = place_piece p c.args.bytes.now c.loop-here.here c.loop-here.invariant.place refl inside;
      inside = inside;
      solid = good_text c.args.style c.args.bytes.now c.loop-here.here c.in-Found.kind c.in-Found.len b;
    })

pub returns-in-OpenString-clause-next : goal.returns-in-OpenString-clause-next
returns-in-OpenString-clause-next c = λ before a. c.loop-here.invariant.same before a
    ∙ stops c.args.style c.args.bytes.now c.loop-here.here c.loop-here-test.true before (c.loop-here.invariant.agrees before a) OpenString (TextErr.OpenString c.loop-here.here.at) c.in-OpenString.ensures.value (λ go. refl)

pub returns-in-OpenComment-clause-next : goal.returns-in-OpenComment-clause-next
returns-in-OpenComment-clause-next c = λ before a. c.loop-here.invariant.same before a
    ∙ stops c.args.style c.args.bytes.now c.loop-here.here c.loop-here-test.true before (c.loop-here.invariant.agrees before a) OpenComment (TextErr.OpenComment c.loop-here.here.at) c.in-OpenComment.ensures.value (λ go. refl)

pub returns-clause-next : goal.returns-clause-next
returns-clause-next c = λ before a. c.loop-here.invariant.same before a
    ∙ ends c.args.style c.args.bytes.now before c.loop-here.here c.loop-here-test.false

pub returns-in-Found-clause-fault : goal.returns-in-Found-clause-fault
returns-in-Found-clause-fault c = decided c.args.style c.args.bytes.now

pub returns-in-OpenString-clause-fault : goal.returns-in-OpenString-clause-fault
returns-in-OpenString-clause-fault c = decided c.args.style c.args.bytes.now

pub returns-in-OpenComment-clause-fault : goal.returns-in-OpenComment-clause-fault
returns-in-OpenComment-clause-fault c = decided c.args.style c.args.bytes.now

pub returns-clause-fault : goal.returns-clause-fault
returns-clause-fault c = decided c.args.style c.args.bytes.now
