use Rattle.std.proofs.Common.{◌≡◌, ◌∙◌, ℕ, List, Option, Some, refl, sym, ap, subst, take, drop, map, length, ◌+◌, ◌-◌, arith}
use Rattle.gs_grammar.specs.Answers.{Answers, Fails}
use Rattle.gs_lines.specs.Lines.{Line, line_of}
use Rattle.gs_lines.proofs.Said.{says_itself}
use Rattle.gs_lines.proofs.Lines.{lines_at, lines_end}
use Rattle.gs_sdc.specs.Command.{Reading}
use Rattle.gs_sdc.specs.Reader.{answer_of, items_of}
use Rattle.gs_sdc.specs.Sdc.{Item, token_lines}
use Rattle.gs_sdc.specs.Token.{Token, token_of}
use Rattle.gs_sdc.specs.declared.error.SdcErr.{SdcErr}
use Rattle.gs_sdc.proofs.Loop.{Reads, ends, stops_by, turns_by}
use Rattle.gs_sdc.proofs.read.read_pieces.Goals as goal

pub loop-at-preserved : goal.loop-at-preserved
loop-at-preserved c =
    let u = c.args.units in
    let all = items_of u (token_lines c.args.bytes.now c.args.pieces.now) in
    let line = lines_at line_of (token_of c.args.bytes.now) c.args.pieces.now c.loop-at.at c.run_of-count.result _ c.loop-at-test.true c.run_of-count.ensures.value in
    record {
      within = omega (arith, c.run_of-count.ensures.within);
      kept = c.in-Ok.ensures.kept;
      reads = turns_by u _ _ _ all c.loop-at.reader c.read.new.self line c.loop-at.invariant.reads c.in-Ok.ensures.ok c.in-Ok.ensures.good;
    }

pub returns-in-Err : goal.returns-in-Err
returns-in-Err c =
    let u = c.args.units in
    let all = items_of u (token_lines c.args.bytes.now c.args.pieces.now) in
    let line = lines_at line_of (token_of c.args.bytes.now) c.args.pieces.now c.loop-at.at c.run_of-count.result _ c.loop-at-test.true c.run_of-count.ensures.value in
    subst (λ (e : SdcErr). Fails SdcErr.Mem e (answer_of c.args.last all)) (sym c.refused_at.ensures)
    (stops_by u c.args.last _ _ _ all c.loop-at.reader c.in-Err.stop line c.loop-at.invariant.reads c.in-Err.ensures.err)

pub returns : goal.returns
returns c =
    let all = items_of c.args.units (token_lines c.args.bytes.now c.args.pieces.now) in
    let P : List (Line Token) → Type 0 = λ ls. Reads (items_of c.args.units ls) all c.loop-at.reader in
    let none = lines_end line_of (token_of c.args.bytes.now) c.args.pieces.now c.loop-at.at c.loop-at-test.false in
    says_itself SdcErr.Mem (answer_of c.args.last all) c.finish.result
    (ends c.args.last all c.loop-at.reader (subst P none c.loop-at.invariant.reads) ∙ sym c.finish.ensures)
