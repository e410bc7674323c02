use Rattle.std.proofs.Common.{◌≡◌, ◌<◌, ◌≤◌, ◌-◌, length, map, ap, sym, ◌∙◌, arith}
use Rattle.std.proofs.lemmas.List.{length-map}
use Rattle.gs_design.specs.Cells.{cell_at}
use Rattle.gs_design.specs.Hot.{pin_data}
use Rattle.gs_design.proofs.HotLaws.{data_of_pin, ends_on, length-ends_by_net, no_data, pins_at}
use Rattle.gs_design.proofs.design.Design.ends_at.Goals as goal

pub at-requires : goal.at-requires
at-requires c =
    let many : length c.args.self.now.net_ends ≡ length c.args.self.now.nets = ap length c.args.self.now.net_ends_is ∙ length-ends_by_net c.args.self.now.ends (length c.args.self.now.nets) in
    rw (c.index.ensures, many) c.requires

pub returns : goal.returns
returns c = rw (c.at.ensures, c.index.ensures, c.args.self.now.net_ends_is) (ends_on c.args.self.now.ends (length c.args.self.now.nets) c.args.net c.requires)
