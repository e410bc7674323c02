use Rattle.std.proofs.Common.{◌+◌, ◌<◌, arith, length}
use Rattle.gs_text.specs.Runs.{closes_comment, until}
use Rattle.gs_text.proofs.Says.{comment_end-within}
use Rattle.gs_text.proofs.runs.comment_front.Goals as goal

pub returns-then-len-inner-clause-fits : goal.returns-then-len-inner-clause-fits
returns-then-len-inner-clause-fits c =
    let lt : until closes_comment c.args.inner.now < length c.args.inner.now = omega (arith, c.until-len.ensures.value) in
    let within : until closes_comment c.args.inner.now + 1 < length c.args.inner.now = comment_end-within c.args.inner.now lt in
    (omega arith, omega (arith, c.until-len.ensures.value))
