use Rattle.std.proofs.Common.{◌≡◌, ◌≤◌, ◌+◌, ◌*◌, ◌+ℤ◌, length, nat_abs, slice_index}
use Rattle.gs_design.specs.Insts.{inst_at}
use Rattle.gs_lagrange.specs.Cost.{is_first_at, share_of}
use Rattle.gs_lagrange.specs.Flow.{weight_in}
use Rattle.gs_lagrange.proofs.Ranges.{folded}
use Rattle.gs_lagrange.proofs.price.with_inputs.Given as goal

abbrev pub invariant-loop-i : goal.invariant-loop-i
invariant-loop-i l =
    let w = l.weighed in
    let inputs = (inst_at w.design.now.insts l.inst).inputs in
    record {
      value : l.cost ≡ folded (is_first_at inputs) (slice_index inputs) (λ cost n. cost +ℤ share_of w.design.now w.sizes.now w.timing.now (weight_in w.flows.now) l.inst l.place n) l.fn.own l.i;
      small : nat_abs l.cost ≤ 10384593717069655257060992658440192 + l.i * 5192296858534827628530496329220096;
      in_range : l.i ≤ length inputs;
    }
