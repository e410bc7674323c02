use Rattle.std.proofs.Common.{◌≡◌, ◌<◌, length, sym, ◌∙◌, ap, arith}
use Rattle.gs_design.specs.Insts.{Inst, inst_at, no_row}
use Rattle.gs_design.specs.declared.rows.InstRow.{InstRow}
use Rattle.gs_design.proofs.Columns.{many_insts, read_inst}
use Rattle.gs_design.proofs.insts.Insts.len.Goals as goal

pub returns : goal.returns
returns c = c.len.ensures ∙ sym (many_insts c.self.inside.choices c.self.inside.rows c.self.inside.inputs c.self.inside.names c.args.self.now c.self.view_is)
