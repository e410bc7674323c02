use Rattle.std.proofs.Common.{◌<◌, length, get_or, ap, sym, ◌∙◌, arith}
use Rattle.gs_incr.specs.Laid.{laid_at}
use Rattle.gs_incr.proofs.LaidLaws.{laid_read, length_laid}
use Rattle.gs_incr.proofs.laid.Laid.at.Goals as goal

pub index-requires : goal.index-requires
index-requires c =
    let s = c.self.inside in
    let many = ap length (sym c.self.view_is) ∙ length_laid s.turn s.marks.items s.records.items in
    omega (arith, c.index-at.ensures, c.requires, many)

pub index-requires-2 : goal.index-requires-2
index-requires-2 c =
    let s = c.self.inside in
    let many = ap length (sym c.self.view_is) ∙ length_laid s.turn s.marks.items s.records.items in
    omega (arith, c.index-at.ensures, c.requires, many, c.self.invariant.as_many)

pub returns : goal.returns
returns c =
    let s = c.self.inside in
    let many = ap length (sym c.self.view_is) ∙ length_laid s.turn s.marks.items s.records.items in
    let lt : c.args.net < length c.self.inside.marks.items = omega (arith, c.requires, many) in
    laid_read s.turn s.marks.items s.records.items c.args.net c.index.result.now c.index-2.result.now c.marked.result lt (omega (arith, lt, c.self.invariant.as_many))
    (c.index.ensures ∙ ap (λ k. get_or s.marks.items k c.index.result.now) c.index-at.ensures)
    (c.index-2.ensures ∙ ap (λ k. get_or s.records.items k c.index-2.result.now) c.index-at.ensures)
    c.marked.ensures
    ∙ ap (λ l. laid_at l c.args.net) c.self.view_is
