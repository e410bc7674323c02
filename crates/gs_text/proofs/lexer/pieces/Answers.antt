use Rattle.std.proofs.Common.{inl}
use Rattle.gs_text.proofs.Faulty.{has_cause, not_refused, refused, pieces-comes}
use Rattle.gs_text.proofs.Follow.{pieces_inside, pieces_good, pieces_in_order, pieces_few}
use Rattle.gs_text.proofs.LineLaws.{pieces_gaps, pieces_lines}
use Rattle.gs_text.proofs.PieceByPiece.{collects_all, collects_fault}
use Rattle.gs_text.proofs.Shape.{pieces_whole}
use Rattle.gs_text.proofs.lexer.pieces.Goals as goal

pub returns-in-End-clause-gaps : goal.returns-in-End-clause-gaps
returns-in-End-clause-gaps c = pieces_gaps c.args.style c.args.bytes.now c.loop-piece.found.items
    (collects_all c.args.style c.args.bytes.now c.loop-piece.found.items c.loop-piece.place c.loop-piece.invariant.collects c.in-End.ensures.next)

pub returns-in-End-clause-maximal : goal.returns-in-End-clause-maximal
returns-in-End-clause-maximal c = pieces_whole c.args.style c.args.bytes.now c.loop-piece.found.items
    (collects_all c.args.style c.args.bytes.now c.loop-piece.found.items c.loop-piece.place c.loop-piece.invariant.collects c.in-End.ensures.next)

pub returns-in-End-clause-inside : goal.returns-in-End-clause-inside
returns-in-End-clause-inside c = pieces_inside c.args.style c.args.bytes.now c.loop-piece.found.items
    (collects_all c.args.style c.args.bytes.now c.loop-piece.found.items c.loop-piece.place c.loop-piece.invariant.collects c.in-End.ensures.next)

pub returns-in-End-clause-ordered : goal.returns-in-End-clause-ordered
returns-in-End-clause-ordered c = pieces_in_order c.args.style c.args.bytes.now c.loop-piece.found.items
    (collects_all c.args.style c.args.bytes.now c.loop-piece.found.items c.loop-piece.place c.loop-piece.invariant.collects c.in-End.ensures.next)

pub returns-in-End-clause-few : goal.returns-in-End-clause-few
returns-in-End-clause-few c = pieces_few c.args.style c.args.bytes.now c.loop-piece.found.items
    (collects_all c.args.style c.args.bytes.now c.loop-piece.found.items c.loop-piece.place c.loop-piece.invariant.collects c.in-End.ensures.next)

pub returns-in-End-clause-solid : goal.returns-in-End-clause-solid
returns-in-End-clause-solid c = pieces_good c.args.style c.args.bytes.now c.loop-piece.found.items
    (collects_all c.args.style c.args.bytes.now c.loop-piece.found.items c.loop-piece.place c.loop-piece.invariant.collects c.in-End.ensures.next)

pub returns-in-End-clause-refused : goal.returns-in-End-clause-refused
returns-in-End-clause-refused c = not_refused c.args.style c.args.bytes.now c.loop-piece.found.items
    (collects_all c.args.style c.args.bytes.now c.loop-piece.found.items c.loop-piece.place c.loop-piece.invariant.collects c.in-End.ensures.next)

pub returns-in-Fault-clause-cause : goal.returns-in-Fault-clause-cause
returns-in-Fault-clause-cause c = inl (has_cause c.args.style c.args.bytes.now c.in-Fault.error
    (collects_fault c.args.style c.args.bytes.now c.loop-piece.found.items c.loop-piece.place c.in-Fault.error c.loop-piece.invariant.collects c.in-Fault.ensures.next))

pub returns-in-Fault-clause-refused : goal.returns-in-Fault-clause-refused
returns-in-Fault-clause-refused c = refused c.args.style c.args.bytes.now c.in-Fault.error
    (collects_fault c.args.style c.args.bytes.now c.loop-piece.found.items c.loop-piece.place c.in-Fault.error c.loop-piece.invariant.collects c.in-Fault.ensures.next)

pub returns-in-Fault-clause-own : goal.returns-in-Fault-clause-own
returns-in-Fault-clause-own c = pieces-comes c.args.style c.args.bytes.now c.in-Fault.error
    (collects_fault c.args.style c.args.bytes.now c.loop-piece.found.items c.loop-piece.place c.in-Fault.error c.loop-piece.invariant.collects c.in-Fault.ensures.next)

pub returns-in-End-clause-lines : goal.returns-in-End-clause-lines
returns-in-End-clause-lines c = pieces_lines c.args.style c.args.bytes.now c.loop-piece.found.items
    (collects_all c.args.style c.args.bytes.now c.loop-piece.found.items c.loop-piece.place c.loop-piece.invariant.collects c.in-End.ensures.next)
