use Rattle.gs_quantity.proofs.lookup.table.Table.look.Goals as goal

pub returns-clause-exact : goal.returns-clause-exact
returns-clause-exact c =
    let near = rw (c.hold_query.ensures.value, c.hold_query-2.ensures.value) at c.rounded.ensures.nearest in
    record { whole = c.rounded.result; nearest = near; held = c.hold.ensures.value }
