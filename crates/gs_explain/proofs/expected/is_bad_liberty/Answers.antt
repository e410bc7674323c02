use Rattle.gs_libtree.specs.Refusal.{HasCause}
use Rattle.gs_libtree.specs.declared.error.LibTextErr.TheVariants.{BadPiece}
use Rattle.gs_explain.specs.Judging.{Decides, liberty_judged}
use Rattle.gs_explain.proofs.Judged.{told, liberty_says}
use Rattle.gs_explain.proofs.expected.is_bad_liberty.Goals as goal

pub returns-in-Ok : goal.returns-in-Ok
returns-in-Ok c = λ h. c.in-Ok.ensures.exact (BadPiece c.args.i) (λ e. cc) h

pub returns-in-Err : goal.returns-in-Err
returns-in-Err c =
    told (Decides (HasCause c.args.bytes.now (BadPiece c.args.i))) c.liberty_judged.result (liberty_judged c.in-Err.error c.args.i) c.liberty_judged.ensures
    (liberty_says (HasCause c.args.bytes.now) c.args.i c.in-Err.error c.in-Err.ensures.err c.in-Err.ensures.exact)
