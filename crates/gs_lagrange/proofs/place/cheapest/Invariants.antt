use Rattle.std.proofs.Common.{◌≡◌, ◌≤◌, length, None}
use Rattle.gs_design.specs.Insts.{inst_at}
use Rattle.gs_lagrange.specs.Cost.{is_allowed}
use Rattle.gs_lagrange.specs.Flow.{weight_in}
use Rattle.gs_lagrange.specs.Place.{cheaper, choice_of}
use Rattle.gs_lagrange.proofs.Ranges.{folded}
use Rattle.gs_lagrange.proofs.place.cheapest.Given as goal

abbrev pub invariant-loop-place : goal.invariant-loop-place
invariant-loop-place l =
    let w = l.weighed in
    record {
      best : l.best ≡ folded (is_allowed w.design.now w.sizes.now w.timing.now l.inst) (choice_of w.design.now w.sizes.now w.timing.now (weight_in w.flows.now) l.inst) cheaper None l.place;
      in_range : l.place ≤ length (inst_at w.design.now.insts l.inst).alts;
    }
