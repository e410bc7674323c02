use Rattle.std.proofs.Common.{◌≡◌, length, arith, ◌∙◌}
use Rattle.gs_levels.proofs.cycle.backwards_from_least.Goals as goal

-- every node was read
pub returns-clause-nodes : goal.returns-clause-nodes
returns-clause-nodes c =
    let all : c.loop-steps.steps ≡ length c.args.nodes.now = omega arith in
    record {
      least = c.place_of_least-least.result;
      inside = c.place_of_least-least.ensures.inside;
      is_least = c.place_of_least-least.ensures.least;
      each = c.loop-steps.invariant.many ∙ all;
      nodes_are = λ k lk. c.loop-steps.invariant.nodes k (omega arith);
    }
