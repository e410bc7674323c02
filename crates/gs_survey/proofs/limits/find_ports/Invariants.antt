use Rattle.std.proofs.Common.{◌≡◌, drop, map, take}
use Rattle.gs_survey.specs.First.{first_some}
use Rattle.gs_survey.specs.Limits.{unknown_port}
use Rattle.gs_survey.specs.Numbers.{net_number}
use Rattle.gs_survey.proofs.limits.find_ports.Given as goal

abbrev pub invariant-loop-item : goal.invariant-loop-item
invariant-loop-item g l = record {
  so_far : first_some (λ x. unknown_port l.nets l.ports (g.T.Named.name x)) (drop l.item-index l.items) ≡ first_some (λ x. unknown_port l.nets l.ports (g.T.Named.name x)) l.items;
  numbers : l.numbers.items ≡ map (λ x. net_number l.nets (g.T.Named.name x)) (take l.item-index l.items);
}
