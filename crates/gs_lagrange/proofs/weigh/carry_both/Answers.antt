use Rattle.std.proofs.Common.{true, false, arith}
use Rattle.gs_lagrange.specs.Path.{came_from, edge_on}
use Rattle.gs_lagrange.proofs.CarryLaws.{both_carried, carried_few, comes_apart}
use Rattle.gs_lagrange.proofs.weigh.carry_both.Goals as goal

pub carry-requires-clause-few : goal.carry-requires-clause-few
carry-requires-clause-few c = λ e. let light = c.requires.light e in omega (arith, light)

pub carry-requires-2-clause-few : goal.carry-requires-2-clause-few
carry-requires-2-clause-few c =
    let d = c.args.design.now in
    carried_few (came_from d c.args.sizes.now c.args.timing.now (edge_on c.args.net true)) (edge_on c.args.net true) c.args.flows.now c.carry.new.flows c.requires.light c.carry.ensures.at

pub returns-clause-at : goal.returns-clause-at
returns-clause-at c =
    let d = c.args.design.now in
    let s = c.args.sizes.now in
    let t = c.args.timing.now in
    let n = c.args.net in
    both_carried (came_from d s t (edge_on n true)) (came_from d s t (edge_on n false)) (edge_on n true) (edge_on n false) c.args.flows.now c.carry.new.flows c.carry-2.new.flows
    (comes_apart d s t c.requires.timed.fit n true false) c.carry.ensures.at c.carry-2.ensures.at
