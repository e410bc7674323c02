use Rattle.std.proofs.Common.{◌≡◌, ◌<◌, length, sym, ◌∙◌, ap, arith}
use Rattle.gs_design.specs.Insts.{Inst, inst_at, no_row}
use Rattle.gs_design.proofs.Columns.{many_insts, read_inst}
use Rattle.gs_design.proofs.insts.Insts.name.Goals as goal

pub name_at-requires : goal.name_at-requires
name_at-requires c = rw c.index.ensures (omega (arith, many_insts c.self.inside.choices c.self.inside.rows c.self.inside.inputs c.self.inside.names c.args.self.now c.self.view_is, c.self.invariant.names_many, c.requires))

pub returns : goal.returns
returns c = rw (c.name_at.ensures, c.index.ensures) (sym (ap (λ (i : Inst). i.name) (read_inst c.self.inside.choices c.self.inside.rows c.self.inside.inputs c.self.inside.names c.args.self.now c.self.view_is c.args.inst c.requires)))
