use Rattle.std.proofs.Common.{◌≡◌, ◌<◌, nat_abs, sym, ap, subst}
use Rattle.gs_timing.proofs.SinkLaws.{load_small}
use Rattle.gs_timing.proofs.laws.loads_are_small.Goals as goal

pub returns : goal.returns
returns c = λ s t n fit timing lt. subst (λ z. nat_abs z < 288230376151711744) (sym (ap (λ r. r.load) (timing.each n lt))) (load_small c.args.design.now s fit n lt)
