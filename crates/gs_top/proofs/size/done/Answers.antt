use Rattle.std.proofs.Common.{◌≡◌, ◌∙◌, ap, length, arith}
use Rattle.gs_design.specs.Limits.{violations_of}
use Rattle.gs_design.specs.Sizes.{leak_of}
use Rattle.gs_move.specs.Entries.{commits_of}
use Rattle.gs_top.specs.declared.status.Status.TheVariants.{Done}
use Rattle.gs_top.proofs.size.done.Goals as goal

pub returns : goal.returns
returns c =
    let many : c.len.result ≡ length c.in_ok-unmet.unmet.items = omega (arith, c.len.ensures) in
    let unmet = many ∙ ap length (c.in_ok-unmet.ensures ∙ (λ i. violations_of (c.design-2.ensures i) (c.timing.ensures.value i))) in
    let leaks = c.leakage.ensures ∙ (λ i. leak_of (c.design-3.ensures i) (c.sizes.ensures.value i)) in
    let commits = c.front.ensures ∙ ap (λ es. length (commits_of es)) c.requires in
    λ i. Done c.args.log.now.ended (unmet i) (leaks i) (commits i)
