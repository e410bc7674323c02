use Rattle.std.proofs.Common.{◌≡◌, ◌+◌, ◌∷◌, [], List, length, drop, sym, ap, subst, arith}
use Rattle.std.proofs.lemmas.List.{drop_all}
use Rattle.gs_design.specs.Parts.{parts_of}
use Rattle.gs_grammar.specs.Answers.{Answers, Fails}
use Rattle.gs_sizes.specs.Lines.{lines, row_of, rows, rows_from}
use Rattle.gs_sizes.specs.Reader.{ended, reading}
use Rattle.gs_sizes.specs.declared.error.SizesErr.{SizesErr}
use Rattle.gs_sizes.proofs.Loop.{Reads, ends_with, stops_for, turns}
use Rattle.gs_sizes.proofs.Texts.{next_is, rows_many}
use Rattle.gs_sizes.proofs.read.read_lines.Goals as goal

pub loop-at-preserved : goal.loop-at-preserved
loop-at-preserved c =
    let bytes = c.args.bytes.now in
    let d = parts_of c.args.design.now in
    let line = c.line_at-line.result.now in
    let next : lines (drop c.loop-at.at c.args.bytes.now) ≡ c.line_at-line.result.now ∷ lines (drop (c.loop-at.at + (length c.line_at-line.result.now + 1)) c.args.bytes.now) =
    next_is c.args.bytes.now c.line_at-line.result.now c.loop-at.at c.loop-at-test.true c.line_at-line.ensures.value c.line_at-line.ensures.many in
    let Left : List (List _) → Type 0 = λ ls. Reads (parts_of c.args.design.now) (rows_from (c.loop-at.number + 1) ls) (rows c.args.bytes.now) c.loop-at.places.items in
    let reads : Reads (parts_of c.args.design.now) (row_of (c.loop-at.number + 1) c.line_at-line.result.now ∷ rows_from (c.loop-at.number + 1 + 1) (lines (drop (c.loop-at.at + (length c.line_at-line.result.now + 1)) c.args.bytes.now))) (rows c.args.bytes.now) c.loop-at.places.items =
    subst Left next c.loop-at.invariant.reads in
    record {
      few = omega (arith, c.loop-at.invariant.few);
      within = omega (arith, c.line_at-line.ensures.within);
      many = (c.in-Ok.ensures.ok reads.past 0 reads.holds).as_many;
      count = omega (arith, c.loop-at.invariant.count, ap length next);
      reads = turns d (c.loop-at.number + 1) line _ (rows bytes) c.loop-at.places.items c.take.new.places.items reads c.in-Ok.ensures.ok c.in-Ok.ensures.good;
    }

pub returns-in-Err : goal.returns-in-Err
returns-in-Err c =
    let d = parts_of c.args.design.now in
    let all = rows c.args.bytes.now in
    let next : lines (drop c.loop-at.at c.args.bytes.now) ≡ c.line_at-line.result.now ∷ lines (drop (c.loop-at.at + (length c.line_at-line.result.now + 1)) c.args.bytes.now) =
    next_is c.args.bytes.now c.line_at-line.result.now c.loop-at.at c.loop-at-test.true c.line_at-line.ensures.value c.line_at-line.ensures.many in
    let Left : List (List _) → Type 0 = λ ls. Reads (parts_of c.args.design.now) (rows_from (c.loop-at.number + 1) ls) (rows c.args.bytes.now) c.loop-at.places.items in
    subst (λ (e : SizesErr). Fails SizesErr.Mem e (reading d all)) (sym c.refused_at.ensures)
    (stops_for d (c.loop-at.number + 1) c.line_at-line.result.now _ all c.loop-at.places.items c.in-Err.stop (subst Left next c.loop-at.invariant.reads) c.in-Err.ensures.err)

pub returns : goal.returns
returns c =
    let d = parts_of c.args.design.now in
    let all = rows c.args.bytes.now in
    let none : lines (drop c.loop-at.at c.args.bytes.now) ≡ [] = ap lines (drop_all c.loop-at.at c.args.bytes.now c.loop-at-test.false) in
    let Left : List (List _) → Type 0 = λ ls. Reads (parts_of c.args.design.now) (rows_from (c.loop-at.number + 1) ls) (rows c.args.bytes.now) c.loop-at.places.items in
    let count : c.loop-at.number ≡ length (rows c.args.bytes.now) = omega (arith, c.loop-at.invariant.count, ap length none, rows_many 1 (lines c.args.bytes.now)) in
    ends_with d all c.loop-at.places.items c.loop-at.number c.finish.result (subst Left none c.loop-at.invariant.reads) count
    (subst (λ (os : List _). Answers SizesErr.Mem (ended d c.loop-at.number os) c.finish.result) c.as_slice.ensures.value c.finish.ensures)
