use Rattle.std.proofs.Common.{◌≡◌, ◌+◌, sym, ◌∙◌, ap}
use Rattle.gs_lagrange.specs.Start.{after_pass, better, start_of, state_after}
use Rattle.gs_lagrange.specs.declared.state.State.{State}
use Rattle.gs_lagrange.proofs.StartLaws.{start_more, state_more}
use Rattle.gs_lagrange.proofs.starts.start.Goals as goal

pub loop-preserved : goal.loop-preserved
loop-preserved g c =
    let d = c.args.design.now in
    let n = c.loop.counter in
    let state_is : c.in_ok-next.next ≡ state_after c.args.design.now (c.loop.counter + 1) = c.in_ok-next.ensures.value ∙ ap (after_pass d) c.loop.invariant.state ∙ sym (state_more d n) in
    record {
      state = state_is;
      kept = c.in_ok-next.ensures.kept;
      best = c.in_ok-better.ensures.sizes
          ∙ ap (λ s. better d s c.in_ok-next.next.sizes) c.loop.invariant.best
          ∙ ap (λ (x : State). better d (start_of d n) x.sizes) state_is
          ∙ sym (start_more d n);
      scored = c.in_ok-better.ensures.scored;
      as_many = c.after_pass.ensures.as_many;
    }
