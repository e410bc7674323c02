use Rattle.std.proofs.Common.{◌≡◌, ◌<◌, length, sym, ◌∙◌, ap, arith}
use Rattle.gs_design.specs.Nets.{Net, net_at, no_row}
use Rattle.gs_design.proofs.Columns.{many_nets, read_net}
use Rattle.gs_design.proofs.nets.Nets.name.Goals as goal

pub name_at-requires : goal.name_at-requires
name_at-requires c = rw c.index.ensures (omega (arith, many_nets c.self.inside.rows c.self.inside.sinks c.self.inside.names c.args.self.now c.self.view_is, c.self.invariant.names_many, c.requires))

pub returns : goal.returns
returns c = rw (c.name_at.ensures, c.index.ensures) (sym (ap (λ (x : Net). x.name) (read_net c.self.inside.rows c.self.inside.sinks c.self.inside.names c.args.self.now c.self.view_is c.args.net c.requires)))
