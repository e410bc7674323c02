use Rattle.std.proofs.Common.{◌≡◌, ◌<◌, length}
use Rattle.gs_design.proofs.HotLaws.{nets_in}
use Rattle.gs_design.proofs.design.Design.new.Goals as goal

pub ends_of_nets-requires-clause-nets : goal.ends_of_nets-requires-clause-nets
ends_of_nets-requires-clause-nets c = rw c.len.ensures (nets_in c.args.parts.ends (length c.args.parts.nets) c.requires.ends_kept.nets_in)
