use Rattle.std.proofs.Common.{◌++◌, sym, ◌∙◌, ap, arith}
use Rattle.gs_sizes.specs.Written.{line_text}
use Rattle.gs_sizes.proofs.Texts.{text_more}
use Rattle.gs_sizes.proofs.write.write_sizes.Goals as goal

pub loop-inst-preserved : goal.loop-inst-preserved
loop-inst-preserved c =
    let f = line_text c.args.design.now c.args.sizes.now in (
      c.in_ok-add_line.ensures ∙ ap (λ text. text ++ f c.loop-inst.inst) c.loop-inst.invariant.0 ∙ sym (text_more f c.loop-inst.inst),
      omega (arith, c.loop-inst-test.true, c.len-inst-end.ensures, c.args.design.now.well.few_insts),
    )
