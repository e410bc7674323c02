use Rattle.std.proofs.Common.{◌≡◌, ◌<◌, length, sym, ◌∙◌, ap, arith}
use Rattle.gs_design.specs.Nets.{Net, net_at, no_row}
use Rattle.gs_design.specs.declared.rows.NetRow.{NetRow}
use Rattle.gs_design.proofs.Columns.{many_nets, read_net}
use Rattle.gs_design.proofs.nets.Nets.len.Goals as goal

pub returns : goal.returns
returns c = c.len.ensures ∙ sym (many_nets c.self.inside.rows c.self.inside.sinks c.self.inside.names c.args.self.now c.self.view_is)
