use Rattle.std.proofs.Common.{◌≤◌, refl, arith}
use Rattle.gs_text.specs.Bytes.{max_text}
use Rattle.gs_drive.specs.Pieces.{HasPieces}
use Rattle.gs_drive.proofs.Driving.{starts, takes, has_read, refuses, finishes, faulty, has_pieces, refuses_told, fault_told, end_told, in_any_case}
use Rattle.gs_drive.proofs.driver.run_text.Goals as goal

pub loop-piece-init : goal.loop-piece-init
loop-piece-init g c =
    let m = g.M.Machine in
    rw c.start-place.ensures (record {
      place = record { within = omega arith; lines = omega arith; command = omega arith };
      few = omega arith;
      keeps = c.in-Ok.ensures.keeps;
      so_far = starts c.args.style c.args.bytes.now m.token m.step m.begin (m.state c.in-Ok.machine) c.in-Ok.ensures.fresh;
    })

pub loop-piece-preserved : goal.loop-piece-preserved
loop-piece-preserved g c =
    let m = g.M.Machine in
    let l = c.loop-piece in
    let n = c.in-Piece.ensures.next in
    record {
      place = n.place_after;
      few = omega (arith, l.invariant.few, n.begins, n.ends, n.inside.some);
      keeps = c.in-Ok-take.ensures.keeps;
      so_far = takes c.args.style c.args.bytes.now m.token m.step m.begin l.place l.count (m.state l.machine) (m.state c.take.new.self) c.in-Piece.piece c.in-Piece.after
          c.text_of-text.result.now n c.text_of-text.ensures c.in-Ok-take.ensures.ok l.invariant.so_far;
    }

pub take-requires : goal.take-requires
take-requires g c =
    let m = g.M.Machine in
    let l = c.loop-piece in
    let le : l.count ≤ max_text = omega (arith, l.invariant.few, l.invariant.place.within, c.requires) in
    λ k. ((refl, tt), (l.invariant.keeps, has_read c.args.style c.args.bytes.now m.token m.step m.begin l.place l.count (m.state l.machine) le l.invariant.so_far))

pub returns-in-Err-take-clause-answer : goal.returns-in-Err-take-clause-answer
returns-in-Err-take-clause-answer g c =
    let m = g.M.Machine in
    let l = c.loop-piece in
    refuses c.args.style c.args.bytes.now m.token m.step m.begin m.end l.place l.count (m.state l.machine) c.in-Piece.piece c.in-Piece.after
    c.text_of-text.result.now c.in-Err-take.error c.refusal-in-Err-take.result c.in-Piece.ensures.next c.text_of-text.ensures c.in-Err-take.ensures.err
    c.refusal-in-Err-take.ensures.value l.invariant.so_far

pub returns-in-Err-take-clause-told : goal.returns-in-Err-take-clause-told
returns-in-Err-take-clause-told g c = λ e fault.
    let m = g.M.Machine in
    let l = c.loop-piece in
    refuses_told c.args.style c.args.bytes.now m.token m.step m.begin l.place l.count (m.state l.machine) c.in-Piece.piece c.in-Piece.after
    c.in-Err-take.error c.refusal-in-Err-take.result e c.in-Piece.ensures.next c.refusal-in-Err-take.ensures.value l.invariant.so_far fault

pub returns-in-End-clause-answer : goal.returns-in-End-clause-answer
returns-in-End-clause-answer g c =
    let m = g.M.Machine in
    let l = c.loop-piece in
    finishes c.args.style c.args.bytes.now m.token m.step m.begin m.end l.place l.count (m.state l.machine) c.finished.result c.in-End.ensures.next c.finished.ensures l.invariant.so_far

pub returns-in-End-clause-told : goal.returns-in-End-clause-told
returns-in-End-clause-told g c = λ e fault.
    let m = g.M.Machine in
    let l = c.loop-piece in
    end_told c.args.style c.args.bytes.now m.token m.step m.begin l.place l.count (m.state l.machine) c.finished.result e c.in-End.ensures.next l.invariant.so_far fault

pub returns-in-End-clause-pieces : goal.returns-in-End-clause-pieces
returns-in-End-clause-pieces g c =
    let m = g.M.Machine in
    let l = c.loop-piece in
    in_any_case (HasPieces c.args.style c.args.bytes.now) c.finished.result
    (has_pieces c.args.style c.args.bytes.now m.token m.step m.begin m.end l.place l.count (m.state l.machine) l.invariant.place.within l.invariant.few c.in-End.ensures.next l.invariant.so_far)

pub returns-in-Fault-clause-answer : goal.returns-in-Fault-clause-answer
returns-in-Fault-clause-answer g c =
    let m = g.M.Machine in
    let l = c.loop-piece in
    faulty c.args.style c.args.bytes.now m.token m.step m.begin m.end l.place l.count (m.state l.machine) c.in-Fault.error c.in-Fault.ensures.next l.invariant.so_far

pub returns-in-Fault-clause-told : goal.returns-in-Fault-clause-told
returns-in-Fault-clause-told g c = λ e fault.
    let m = g.M.Machine in
    let l = c.loop-piece in
    fault_told c.args.style c.args.bytes.now m.token m.step m.begin l.place l.count (m.state l.machine) c.in-Fault.error e c.in-Fault.ensures.next l.invariant.so_far fault
