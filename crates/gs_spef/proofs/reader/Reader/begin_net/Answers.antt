use Rattle.std.proofs.Common.{◌∙◌, ap, sym}
use Rattle.gs_amount.specs.Amount.{amount_of}
use Rattle.gs_spef.proofs.Steps.{begins_ok}
use Rattle.gs_spef.proofs.reader.Reader.begin_net.Goals as goal

pub returns-clause-ok : goal.returns-clause-ok
returns-clause-ok c =
    begins_ok c.add_wire.result c.args.self.now c.add_wire.new.self c.args.reference.now c.args.total.now c.in-Some.amount c.in_ok-net.net
    (c.in-Some.ensures.value ∙ ap (amount_of c.args.total.now) c.tens.ensures.value) c.in_ok-net.ensures.ok c.add_wire.ensures.ok
