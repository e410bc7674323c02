use Rattle.std.proofs.Common.{◌<◌, length, slice_set, Some, ap, sym, ◌∙◌, arith}
use Rattle.gs_incr.proofs.LaidLaws.{laid_put, length_laid}
use Rattle.gs_incr.proofs.laid.Laid.put.Goals as goal

pub index_mut-requires : goal.index_mut-requires
index_mut-requires c =
    let s = c.self.inside in
    let many = ap length (sym c.self.view_is) ∙ length_laid s.turn s.marks.items s.records.items in
    omega (arith, c.index-at.ensures, c.requires, many)

pub index_mut-requires-2 : goal.index_mut-requires-2
index_mut-requires-2 c =
    let s = c.self.inside in
    let many = ap length (sym c.self.view_is) ∙ length_laid s.turn s.marks.items s.records.items in
    omega (arith, c.index-at.ensures, c.requires, many, c.self.invariant.as_many)

pub returns : goal.returns
returns c =
    let s = c.self.inside in
    let many = ap length (sym c.self.view_is) ∙ length_laid s.turn s.marks.items s.records.items in
    let lt : c.args.net < length c.self.inside.marks.items = omega (arith, c.requires, many) in
    rw c.index-at.ensures
    (laid_put s.turn s.marks.items s.records.items c.self.invariant c.args.net c.args.time lt
    ∙ ap (λ l. slice_set l c.args.net (Some c.args.time)) c.self.view_is)
