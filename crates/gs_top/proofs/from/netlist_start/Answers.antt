use Rattle.std.proofs.Common.{sym, ◌∙◌}
use Rattle.gs_top.proofs.from.netlist_start.Goals as goal

pub returns-in-Ok-clause-settled : goal.returns-in-Ok-clause-settled
returns-in-Ok-clause-settled c = record {
  stands = c.in-Ok.ensures.value;
  only = λ w h. h ∙ sym c.in-Ok.ensures.value;
  accepted = λ s h. h;
}
