use Rattle.std.proofs.Common.{sym, map}
use Rattle.std.specs.Prelude.{string_bytes}
use Rattle.gs_top.specs.Job.{check_with}
use Rattle.gs_top.specs.declared.job.Job.TheVariants.{Check}
use Rattle.gs_top.proofs.Forms.{check_good, check_made}
use Rattle.gs_top.proofs.read.read_check.Goals as goal

pub returns-in-Ok-clause-good : goal.returns-in-Ok-clause-good
returns-in-Ok-clause-good c =
    check_good (map string_bytes c.args.words.now) c.in-Ok.job (sym c.if-not-is_check.ensures) c.in-Ok.ensures

pub returns-in-Err-clause-read : goal.returns-in-Err-clause-read
returns-in-Err-clause-read c =
    let ws = map string_bytes c.args.words.now in
    (Check (check_with ws), check_made ws (sym c.if-not-is_check.ensures))
