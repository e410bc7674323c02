use Rattle.std.proofs.Common.{◌∙◌}
use Rattle.gs_explain.proofs.TwiceLaws.{with_library, without_library}
use Rattle.gs_explain.proofs.statuses.twice_with.Goals as goal

pub returns-in-Some-clause-text : goal.returns-in-Some-clause-text
returns-in-Some-clause-text g c =
    let is = rw c.in-Some.is at c.in_ok-library.ensures.bytes in
    with_library (λ v. v.items) g.H.Shelf.tells c.args.lib.now c.args.net.now c.args.name.now (g.H.Shelf.files c.args.shelf.now) (g.H.Shelf.faults c.args.shelf.now)
    (g.H.Shelf.faults c.read_again.new.shelf) c.args.bytes.now c.twice_told.result c.as_slice.result.now c.as_bytes.result.now (λ t. c.as_slice.ensures.value ∙ is t)
    c.as_bytes.ensures.value c.twice_told.ensures

pub returns-in-None-clause-text : goal.returns-in-None-clause-text
returns-in-None-clause-text g c =
    without_library (λ v. v.items) g.H.Shelf.tells c.args.lib.now c.args.net.now c.args.name.now (g.H.Shelf.files c.args.shelf.now) (g.H.Shelf.faults c.args.shelf.now)
    (g.H.Shelf.faults c.read_again.new.shelf) c.args.bytes.now c.net_told.result c.as_bytes-in-None.result.now (rw c.in-None.is at c.in_ok-library.ensures.bytes)
    c.as_bytes-in-None.ensures.value c.net_told.ensures
