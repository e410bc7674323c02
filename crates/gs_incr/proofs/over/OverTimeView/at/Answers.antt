use Rattle.std.proofs.Common.{◌<◌, length, unwrap_or, ap, sym, ◌∙◌, arith}
use Rattle.gs_design.specs.Times.{time_at}
use Rattle.gs_incr.proofs.LaidLaws.{length_over, over_at}
use Rattle.gs_incr.proofs.over.OverTimeView.at.Goals as goal

pub at-requires : goal.at-requires
at-requires c = omega (arith, c.requires, c.args.self.now.as_many, length_over c.args.self.now.base.now c.args.self.now.laid.now)

pub at-requires-in-None : goal.at-requires-in-None
at-requires-in-None c = omega (arith, c.requires, length_over c.args.self.now.base.now c.args.self.now.laid.now)

pub returns-in-Some : goal.returns-in-Some
returns-in-Some c =
    let base = c.args.self.now.base.now in
    let laid = c.args.self.now.laid.now in
    let lt : c.args.net < length c.args.self.now.base.now = omega (arith, c.requires, length_over c.args.self.now.base.now c.args.self.now.laid.now) in
    sym (over_at base laid c.args.net lt ∙ ap (λ o. unwrap_or o (time_at base c.args.net)) (sym c.in-Some.ensures))

pub returns-in-None : goal.returns-in-None
returns-in-None c =
    let base = c.args.self.now.base.now in
    let laid = c.args.self.now.laid.now in
    let lt : c.args.net < length c.args.self.now.base.now = omega (arith, c.requires, length_over c.args.self.now.base.now c.args.self.now.laid.now) in
    c.at-in-None.ensures ∙ sym (over_at base laid c.args.net lt ∙ ap (λ o. unwrap_or o (time_at base c.args.net)) (sym c.in-None.ensures))
