use Rattle.std.proofs.Common.{◌≡◌, ◌∙◌, slice_index, get_or, ◌<◌, length, ap, arith, ℕ, List}
use Rattle.std.proofs.lemmas.Grind.{get_or_default_zero}
use Rattle.gs_timing.proofs.PassLaws.{net_calm, step_net}
use Rattle.gs_timing.proofs.whole.pass.Goals as goal

pub eval_net-time-requires-clause-calm : goal.eval_net-time-requires-clause-calm
eval_net-time-requires-clause-calm g c =
    let order : List ℕ = c.args.design.now.order in
    let i : ℕ = c.loop-net.net-index in
    let ordered = c.args.design.now.well.order_kept.ordered in
    let inside : i < length order = omega (arith, ap length c.as_slice-net-items.ensures, c.loop-net-test.true) in
    let here : c.net-item.result ≡ slice_index order i = c.net-item.is ∙ ap (λ xs. get_or xs i c.net-item.result) c.as_slice-net-items.ensures ∙ get_or_default_zero order i c.net-item.result inside in
    net_calm c.args.design.now c.args.sizes.now c.requires.sizes c.loop-net.times i (omega (arith, inside, ordered)) c.loop-net.invariant c.net-item.result here

pub loop-net-preserved : goal.loop-net-preserved
loop-net-preserved g c =
    let order : List ℕ = c.args.design.now.order in
    let i : ℕ = c.loop-net.net-index in
    let ordered = c.args.design.now.well.order_kept.ordered in
    let inside : i < length order = omega (arith, ap length c.as_slice-net-items.ensures, c.loop-net-test.true) in
    let here : c.net-item.result ≡ slice_index order i = c.net-item.is ∙ ap (λ xs. get_or xs i c.net-item.result) c.as_slice-net-items.ensures ∙ get_or_default_zero order i c.net-item.result inside in
    step_net c.args.design.now c.args.sizes.now c.requires.sizes c.loop-net.times i (omega (arith, inside, ordered)) c.loop-net.invariant
    c.net-item.result c.eval_net-time.result c.set.new.self here c.eval_net-time.ensures.value c.set.ensures
