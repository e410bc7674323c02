use Rattle.std.proofs.Common.{drop}
use Rattle.std.proofs.lemmas.List.{take_rest}
use Rattle.gs_levels.specs.Cycle.{IsBackwards}
use Rattle.gs_levels.specs.Search.{IsSearch, Closes}
use Rattle.gs_levels.proofs.CycleLaws.{is_cycle}
use Rattle.gs_levels.proofs.LevelLaws.{search_leveled, no_cycle}
use Rattle.gs_levels.proofs.find.levels.Goals as goal

-- the stack closes a cycle
pub returns-in-Some-clause-cycle : goal.returns-in-Some-clause-cycle
returns-in-Some-clause-cycle c =
    let kept : IsSearch c.args.graph.now.nodes c.args.graph.now.edges c.run.new.self.progress.items c.run.new.self.level.items c.run.new.self.stack.items =
    rw (← c.as_slice-edges.ensures) c.in_ok-place.ensures.kept in
    let closes : Closes c.args.graph.now.edges c.run.new.self.stack.items c.in-Some.place =
    rw (← c.as_slice-edges.ensures) (rw c.in-Some.is at c.in_ok-place.ensures.closes) in
    let read : IsBackwards (drop c.in-Some.place c.run.new.self.stack.items) c.in_ok-cycle-in-Some.cycle.items =
    rw (← c.deref.ensures.value) (rw take_rest at c.in_ok-cycle-in-Some.ensures.nodes) in
    rw c.from_vec.ensures
    (is_cycle c.args.graph.now.nodes c.args.graph.now.edges c.run.new.self.progress.items c.run.new.self.level.items c.run.new.self.stack.items kept
    c.in-Some.place closes c.in_ok-cycle-in-Some.cycle.items read)

-- every node is done
pub returns-clause-leveled : goal.returns-clause-leveled
returns-clause-leveled c =
    let kept : IsSearch c.args.graph.now.nodes c.args.graph.now.edges c.run.new.self.progress.items c.run.new.self.level.items c.run.new.self.stack.items =
    rw (← c.as_slice-edges.ensures) c.in_ok-place.ensures.kept in
    let ends = c.in_ok-place.ensures.ends c.in-None.is in
    rw c.from_vec-in-None.ensures
    (search_leveled c.args.graph.now.nodes c.args.graph.now.edges c.run.new.self.progress.items c.run.new.self.level.items c.run.new.self.stack.items kept ends.0 ends.1)

-- levels rise along the edges, so none leads back
pub returns-clause-acyclic : goal.returns-clause-acyclic
returns-clause-acyclic c =
    let kept : IsSearch c.args.graph.now.nodes c.args.graph.now.edges c.run.new.self.progress.items c.run.new.self.level.items c.run.new.self.stack.items =
    rw (← c.as_slice-edges.ensures) c.in_ok-place.ensures.kept in
    let ends = c.in_ok-place.ensures.ends c.in-None.is in
    no_cycle c.args.graph.now.nodes c.args.graph.now.edges c.run.new.self.level.items c.args.graph.now.inside
    (search_leveled c.args.graph.now.nodes c.args.graph.now.edges c.run.new.self.progress.items c.run.new.self.level.items c.run.new.self.stack.items kept ends.0 ends.1)
