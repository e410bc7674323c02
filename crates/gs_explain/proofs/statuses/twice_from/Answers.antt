use Rattle.std.proofs.Common.{◌∙◌}
use Rattle.gs_explain.proofs.TwiceLaws.{explained}
use Rattle.gs_explain.proofs.statuses.twice_from.Goals as goal

pub returns-in-Some-clause-text : goal.returns-in-Some-clause-text
returns-in-Some-clause-text g c =
    let is = rw c.in-Some.is at c.in_ok-bytes.ensures.bytes in
    explained (λ v. v.items) g.H.Shelf.tells c.args.lib.now c.args.net.now c.args.name.now (g.H.Shelf.files c.args.shelf.now)
    (g.H.Shelf.files c.read_again.new.shelf) (g.H.Shelf.faults c.args.shelf.now) (g.H.Shelf.faults c.read_again.new.shelf) (g.H.Shelf.faults c.twice_with.new.shelf)
    c.in_ok-bytes.ensures.stay c.in_ok-bytes.ensures.later c.twice_with.result c.as_slice.result.now (λ t. c.as_slice.ensures.value ∙ is t) c.twice_with.ensures.text
