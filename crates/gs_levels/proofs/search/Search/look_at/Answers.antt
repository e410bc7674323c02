use Rattle.std.proofs.Common.{◌≡◌, ◌≤◌, ◌+◌, ◌-◌, ◌<◌, length, slice_index, sym, ◌∙◌, ap, arith}
use Rattle.gs_levels.specs.declared.progress.Progress.TheVariants.{Fresh, Open, Done}
use Rattle.gs_levels.specs.Graph.{edge_at}
use Rattle.gs_levels.specs.Incoming.{IsShortestFront}
use Rattle.gs_levels.specs.Progress.{progress_at}
use Rattle.gs_levels.proofs.SearchLaws.{begun, followed_on, followed_work, room, next_into}
use Rattle.gs_levels.proofs.search.Search.look_at.Goals as goal

-- the edge leads from a node that is done into the last node of the stack
pub follow-requires-clause-room : goal.follow-requires-clause-room
follow-requires-clause-room c =
    let done : progress_at c.args.self.now.progress.items c.edge_of-edge.result.from ≡ Done = sym c.progress_of.ensures ∙ c.in-Done.is in
    let inside : c.edge_of-edge.result.from < c.args.nodes = rw c.edge_of-edge.ensures ((c.requires.within c.args.place c.requires.edge.inside).0) in
    let waiting : progress_at c.args.self.now.progress.items c.last-node.result ≡ Open (c.args.place + 1) = rw c.last-node.ensures c.requires.edge.last in
    let into : (edge_at c.args.edges.now c.args.place).to ≡ c.last-node.result =
    next_into c.args.nodes c.args.edges.now c.args.self.now.progress.items c.args.self.now.level.items c.args.self.now.stack.items c.requires.search
    c.last-node.result c.args.place c.requires.some c.last-node.ensures waiting in
    let shortest : IsShortestFront c.args.edges.now c.args.place c.last-node.result (slice_index c.args.incoming.now.before.items c.args.place) =
    rw (← into) (c.requires.incoming.before_in c.args.place c.requires.edge.inside) in
    let most : slice_index c.args.self.now.level.items c.edge_of-edge.result.from + 1 ≤ c.args.nodes =
    room c.args.nodes c.args.edges.now c.args.self.now.progress.items c.args.self.now.level.items c.args.self.now.stack.items c.requires.search
    c.last-node.result c.edge_of-edge.result.from c.args.place (slice_index c.args.incoming.now.before.items c.args.place)
    c.requires.some c.last-node.ensures waiting c.requires.edge.inside into (ap (λ e. e.from) (sym c.edge_of-edge.ensures)) done inside shortest in
    omega arith

pub returns-in_ok-begin-in-Fresh-clause-kept : goal.returns-in_ok-begin-in-Fresh-clause-kept
returns-in_ok-begin-in-Fresh-clause-kept c =
    let fresh : progress_at c.args.self.now.progress.items c.edge_of-edge.result.from ≡ Fresh = sym c.progress_of.ensures ∙ c.in-Fresh.is in
    let inside : c.edge_of-edge.result.from < c.args.nodes = rw c.edge_of-edge.ensures ((c.requires.within c.args.place c.requires.edge.inside).0) in
    rw (c.in_ok-begin-in-Fresh.ensures.progress, c.begin.ensures.level, c.in_ok-begin-in-Fresh.ensures.stack)
    (begun c.args.nodes c.args.edges.now c.args.self.now.progress.items c.args.self.now.level.items c.args.self.now.stack.items c.requires.search
    c.edge_of-edge.result.from (slice_index c.args.incoming.now.all.items c.edge_of-edge.result.from) inside fresh
    (c.requires.incoming.all_in c.edge_of-edge.result.from inside)
    (λ k at_end.
    let last : k ≡ length c.args.self.now.stack.items - 1 = omega arith in
    let waiting : progress_at c.args.self.now.progress.items (slice_index c.args.self.now.stack.items k) ≡ Open (c.args.place + 1) = rw last c.requires.edge.last in
    let place : c.args.place + 1 + 1 - 2 ≡ c.args.place = omega arith in
    (rw waiting (omega arith), rw (waiting, place) (ap (λ e. e.from) (sym c.edge_of-edge.ensures)))))

pub returns-in-Open-clause-closes : goal.returns-in-Open-clause-closes
returns-in-Open-clause-closes c =
    let waiting : progress_at c.args.self.now.progress.items c.last-node.result ≡ Open (c.args.place + 1) = rw c.last-node.ensures c.requires.edge.last in
    let into : (edge_at c.args.edges.now c.args.place).to ≡ c.last-node.result =
    next_into c.args.nodes c.args.edges.now c.args.self.now.progress.items c.args.self.now.level.items c.args.self.now.stack.items c.requires.search
    c.last-node.result c.args.place c.requires.some c.last-node.ensures waiting in
    record {
      inside = c.place_of.ensures.inside;
      edge = (
        c.args.place,
        c.requires.edge.inside,
        λ i. record {
          from = (ap (λ e. e.from) (sym c.edge_of-edge.ensures) ∙ sym c.place_of.ensures.here) i;
          to = (into ∙ c.last-node.ensures) i;
        },
      );
    }

pub returns-in-Done-clause-kept : goal.returns-in-Done-clause-kept
returns-in-Done-clause-kept c =
    let done : progress_at c.args.self.now.progress.items c.edge_of-edge.result.from ≡ Done = sym c.progress_of.ensures ∙ c.in-Done.is in
    let inside : c.edge_of-edge.result.from < c.args.nodes = rw c.edge_of-edge.ensures ((c.requires.within c.args.place c.requires.edge.inside).0) in
    let waiting : progress_at c.args.self.now.progress.items c.last-node.result ≡ Open (c.args.place + 1) = rw c.last-node.ensures c.requires.edge.last in
    let into : (edge_at c.args.edges.now c.args.place).to ≡ c.last-node.result =
    next_into c.args.nodes c.args.edges.now c.args.self.now.progress.items c.args.self.now.level.items c.args.self.now.stack.items c.requires.search
    c.last-node.result c.args.place c.requires.some c.last-node.ensures waiting in
    let shortest : IsShortestFront c.args.edges.now c.args.place c.last-node.result (slice_index c.args.incoming.now.before.items c.args.place) =
    rw (← into) (c.requires.incoming.before_in c.args.place c.requires.edge.inside) in
    rw (c.follow.ensures.progress, c.follow.ensures.level, c.follow.ensures.stack, c.before_edge.ensures)
    (followed_on c.args.nodes c.args.edges.now c.args.self.now.progress.items c.args.self.now.level.items c.args.self.now.stack.items c.requires.search
    c.last-node.result c.edge_of-edge.result.from c.args.place (slice_index c.args.incoming.now.before.items c.args.place)
    c.requires.some c.last-node.ensures waiting c.requires.edge.inside into (ap (λ e. e.from) (sym c.edge_of-edge.ensures)) done inside shortest)

pub returns-in-Done-clause-onward : goal.returns-in-Done-clause-onward
returns-in-Done-clause-onward c = λ _.
    let done : progress_at c.args.self.now.progress.items c.edge_of-edge.result.from ≡ Done = sym c.progress_of.ensures ∙ c.in-Done.is in
    let inside : c.edge_of-edge.result.from < c.args.nodes = rw c.edge_of-edge.ensures ((c.requires.within c.args.place c.requires.edge.inside).0) in
    let waiting : progress_at c.args.self.now.progress.items c.last-node.result ≡ Open (c.args.place + 1) = rw c.last-node.ensures c.requires.edge.last in
    let into : (edge_at c.args.edges.now c.args.place).to ≡ c.last-node.result =
    next_into c.args.nodes c.args.edges.now c.args.self.now.progress.items c.args.self.now.level.items c.args.self.now.stack.items c.requires.search
    c.last-node.result c.args.place c.requires.some c.last-node.ensures waiting in
    let shortest : IsShortestFront c.args.edges.now c.args.place c.last-node.result (slice_index c.args.incoming.now.before.items c.args.place) =
    rw (← into) (c.requires.incoming.before_in c.args.place c.requires.edge.inside) in
    rw (c.follow.ensures.progress, c.before_edge.ensures)
    (followed_work c.args.nodes c.args.edges.now c.args.self.now.progress.items c.args.self.now.level.items c.args.self.now.stack.items c.requires.search
    c.last-node.result c.edge_of-edge.result.from c.args.place (slice_index c.args.incoming.now.before.items c.args.place)
    c.requires.some c.last-node.ensures waiting c.requires.edge.inside into (ap (λ e. e.from) (sym c.edge_of-edge.ensures)) done inside shortest)
