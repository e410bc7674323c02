use Rattle.std.proofs.Common.{◌≡◌, ◌∙◌, List, refl, sym, ap, subst, take, drop, length, ◌-◌, arith}
use Rattle.gs_grammar.specs.Answers.{Answers, Fails}
use Rattle.gs_lines.proofs.Said.{says_itself}
use Rattle.gs_lines.proofs.Lines.{lines_at, lines_end}
use Rattle.gs_text.specs.Pieces.{text_of}
use Rattle.gs_lines.specs.Lines.{line_of}
use Rattle.gs_spef.specs.Lines.{worded_lines}
use Rattle.gs_spef.specs.Reader.{reading}
use Rattle.gs_spef.specs.Spef.{Row}
use Rattle.gs_spef.specs.declared.error.SpefErr.{SpefErr}
use Rattle.gs_spef.proofs.Loop.{Reads, ends, stops_for, turns}
use Rattle.gs_spef.proofs.read.read_pieces.Goals as goal

pub loop-at-preserved : goal.loop-at-preserved
loop-at-preserved c =
    let line = lines_at line_of (text_of c.args.bytes.now) c.args.pieces.now c.loop-at.at c.run_of-count.result _ c.loop-at-test.true c.run_of-count.ensures.value in
    let P : List Row → Type 0 = λ ls. Reads c.args.last ls (worded_lines c.args.bytes.now c.args.pieces.now) c.loop-at.reader in
    record {
      within = omega (arith, c.run_of-count.ensures.within);
      kept = c.in-Ok.ensures.kept;
      reads = turns c.args.last _ _ _ c.loop-at.reader c.take.new.self (subst P line c.loop-at.invariant.reads) c.in-Ok.ensures.ok c.in-Ok.ensures.good;
    }

pub returns-in-Err : goal.returns-in-Err
returns-in-Err c =
    let all = worded_lines c.args.bytes.now c.args.pieces.now in
    let line = lines_at line_of (text_of c.args.bytes.now) c.args.pieces.now c.loop-at.at c.run_of-count.result _ c.loop-at-test.true c.run_of-count.ensures.value in
    let P : List Row → Type 0 = λ ls. Reads c.args.last ls all c.loop-at.reader in
    subst (λ (e : SpefErr). Fails SpefErr.Mem e (reading c.args.last all)) (sym c.refused_at.ensures)
    (stops_for c.args.last _ _ all c.loop-at.reader c.in-Err.stop (subst P line c.loop-at.invariant.reads) c.in-Err.ensures.err)

pub returns : goal.returns
returns c =
    let all = worded_lines c.args.bytes.now c.args.pieces.now in
    let P : List Row → Type 0 = λ ls. Reads c.args.last ls all c.loop-at.reader in
    let none = lines_end line_of (text_of c.args.bytes.now) c.args.pieces.now c.loop-at.at c.loop-at-test.false in
    says_itself SpefErr.Mem (reading c.args.last all) c.finish.result
    (ends c.args.last all c.loop-at.reader (subst P none c.loop-at.invariant.reads) ∙ sym c.finish.ensures)
