use Rattle.std.proofs.Common.{◌≡◌, ◌<◌, length, sym, ◌∙◌, ap, arith}
use Rattle.gs_design.specs.Insts.{Inst, inst_at, no_row}
use Rattle.gs_design.proofs.Columns.{many_insts, read_inst}
use Rattle.gs_design.proofs.insts.Insts.alts.Goals as goal

pub at-requires : goal.at-requires
at-requires c = rw c.index.ensures (omega (arith, many_insts c.self.inside.choices c.self.inside.rows c.self.inside.inputs c.self.inside.names c.args.self.now c.self.view_is, c.requires))

pub stretch-requires-clause-order : goal.stretch-requires-clause-order
stretch-requires-clause-order c = rw (c.at.ensures no_row, c.index.ensures) (c.self.invariant.stretches c.args.inst (omega (arith, many_insts c.self.inside.choices c.self.inside.rows c.self.inside.inputs c.self.inside.names c.args.self.now c.self.view_is, c.requires))).0

pub stretch-requires-clause-within : goal.stretch-requires-clause-within
stretch-requires-clause-within c = rw (c.at.ensures no_row, c.index.ensures) (c.self.invariant.stretches c.args.inst (omega (arith, many_insts c.self.inside.choices c.self.inside.rows c.self.inside.inputs c.self.inside.names c.args.self.now c.self.view_is, c.requires))).1

pub returns : goal.returns
returns c = rw (c.stretch.ensures, c.at.ensures no_row, c.index.ensures) (sym (ap (λ (i : Inst). i.alts) (read_inst c.self.inside.choices c.self.inside.rows c.self.inside.inputs c.self.inside.names c.args.self.now c.self.view_is c.args.inst c.requires)))
