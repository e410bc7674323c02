use Rattle.std.proofs.Common.{◌≡◌, ◌<◌, ◌+ℤ◌, false, true, length, slice_index, get_or, ℕ, List, sym, ◌∙◌, ap, arith}
use Rattle.std.proofs.lemmas.Int.{ints}
use Rattle.std.proofs.lemmas.Grind.{get_or_default_zero}
use Rattle.gs_design.specs.Insts.{inst_at}
use Rattle.gs_lagrange.specs.Cost.{is_first_at, share_of}
use Rattle.gs_lagrange.specs.Flow.{weight_in}
use Rattle.gs_lagrange.proofs.Ranges.{folded, folded_none, folded_one}
use Rattle.gs_lagrange.proofs.price.with_inputs.Goals as goal

pub loop-i-preserved-then-not-is_first_at : goal.loop-i-preserved-then-not-is_first_at
loop-i-preserved-then-not-is_first_at c =
    let w = c.args.weighed.now in
    let inputs = (inst_at w.design.now.insts c.args.inst).inputs in
    let i = c.loop-i.i in
    let share = share_of w.design.now w.sizes.now w.timing.now (weight_in w.flows.now) c.args.inst c.args.place in
    let other : is_first_at (inst_at w.design.now.insts c.args.inst).inputs c.loop-i.i ≡ false =
    ap (λ ns. is_first_at ns i) (sym c.inputs-inputs.ensures) ∙ sym c.is_first_at.ensures ∙ c.if-not-is_first_at.true in
    record {
      value = c.loop-i.invariant.value ∙ sym (folded_none (is_first_at inputs) (slice_index inputs) (λ cost n. cost +ℤ share n) c.args.own i other);
      small = omega (arith, c.loop-i.invariant.small);
      in_range = omega (arith, c.loop-i-test.true, ap length c.inputs-inputs.ensures);
    }

pub loop-i-preserved : goal.loop-i-preserved
loop-i-preserved c =
    let w = c.args.weighed.now in
    let inputs : List ℕ = (inst_at c.args.weighed.now.design.now.insts c.args.inst).inputs in
    let i : ℕ = c.loop-i.i in
    let share = share_of w.design.now w.sizes.now w.timing.now (weight_in w.flows.now) c.args.inst c.args.place in
    let inside : i < length inputs = omega (arith, c.loop-i-test.true, ap length c.inputs-inputs.ensures) in
    let passes : is_first_at inputs i ≡ true = ap (λ ns. is_first_at ns i) (sym c.inputs-inputs.ensures) ∙ sym c.is_first_at.ensures ∙ c.if-not-is_first_at.false in
    let net_is : c.index-inputs-i.result ≡ slice_index inputs i = c.index-inputs-i.is ∙ ap (λ ns. get_or ns i c.index-inputs-i.result) c.inputs-inputs.ensures ∙ get_or_default_zero inputs i c.index-inputs-i.result inside in
    record {
      value = c.plus-cost.ensures
          ∙ ap (λ z. z +ℤ c.share.result) c.loop-i.invariant.value
          ∙ ap (λ z. folded (is_first_at inputs) (slice_index inputs) (λ cost n. cost +ℤ share n) c.args.own i +ℤ z) (c.share.ensures.value ∙ ap share net_is)
          ∙ sym (folded_one (is_first_at inputs) (slice_index inputs) (λ cost n. cost +ℤ share n) c.args.own i passes);
      small = omega (arith, ints, c.plus-cost.ensures, c.share.ensures.small, c.loop-i.invariant.small);
      in_range = omega (arith, inside);
    }
