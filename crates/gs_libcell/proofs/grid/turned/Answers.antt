use Rattle.std.proofs.Common.{◌≡◌, ◌∙◌, ℕ, List, ◌++◌, ◌+◌, ◌*◌, ap, sym, map, ℤ}
use Rattle.std.specs.List.{range_with_len}
use Rattle.gs_quantity.specs.Lookup.{at}
use Rattle.gs_libcell.proofs.Texts.{flat_range}
use Rattle.gs_libcell.proofs.grid.turned.Goals as goal

pub loop-col-preserved : goal.loop-col-preserved
loop-col-preserved c =
    let f : ℕ → List ℤ = λ col. map (λ row. at c.args.values.now (row * c.args.cols + col)) (range_with_len 0 c.args.rows) in
    c.in_ok-push_column.ensures
    ∙ ap (λ done. done ++ f c.loop-col.col) c.loop-col.invariant
    ∙ sym (flat_range f c.loop-col.col)
