use Rattle.std.proofs.Common.{◌≡◌, ◌∙◌, ◌++◌, ◌∷◌, [], true, false, sym, ap}
use Rattle.gs_link.proofs.Growing.{filter_range_no, filter_range_yes}
use Rattle.gs_survey.specs.Uses.{is_used}
use Rattle.gs_link.proofs.renumber.find_used.Goals as goal

pub loop-net-preserved-then-not-is_net_used : goal.loop-net-preserved-then-not-is_net_used
loop-net-preserved-then-not-is_net_used c =
    let p = is_used c.args.driven.now c.args.read.now in
    let e : is_used c.args.driven.now c.args.read.now c.loop-net.net ≡ false = cc in
    c.loop-net.invariant ∙ sym (filter_range_no p c.loop-net.net e)

pub loop-net-preserved : goal.loop-net-preserved
loop-net-preserved c =
    let p = is_used c.args.driven.now c.args.read.now in
    let e : is_used c.args.driven.now c.args.read.now c.loop-net.net ≡ true = cc in
    c.in_ok-push.ensures.items ∙ ap (λ xs. xs ++ c.loop-net.net ∷ []) c.loop-net.invariant ∙ sym (filter_range_yes p c.loop-net.net e)
