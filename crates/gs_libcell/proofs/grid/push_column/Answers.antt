use Rattle.std.proofs.Common.{arith, ◌≡◌, ◌∙◌, ◌+◌, ◌*◌, ◌<◌, ◌++◌, [], ◌∷◌, ap, sym, get_or, length}
use Rattle.std.proofs.lemmas.Nat.{mul-add-lt}
use Rattle.std.proofs.Math.Nat.{mul_comm}
use Rattle.std.proofs.lemmas.List.{append_assoc}
use Rattle.std.proofs.lemmas.List.FromFn.{map-range_with_len_more}
use Rattle.gs_quantity.specs.Lookup.{at}
use Rattle.gs_libcell.proofs.grid.push_column.Goals as goal

pub overflow_mul-row : goal.overflow_mul-row
overflow_mul-row c =
    let inside : c.loop-row.row * c.args.cols + c.args.col < c.args.cols * c.args.rows = mul-add-lt c.loop-row.row c.args.cols c.args.col c.args.rows (omega arith) c.requires.col in
    omega (arith, inside, mul_comm c.args.cols c.args.rows, c.requires.fits)

pub overflow_add-row : goal.overflow_add-row
overflow_add-row c =
    let inside : c.loop-row.row * c.args.cols + c.args.col < c.args.cols * c.args.rows = mul-add-lt c.loop-row.row c.args.cols c.args.col c.args.rows (omega arith) c.requires.col in
    omega (arith, inside, mul_comm c.args.cols c.args.rows, c.requires.fits)

pub point-requires : goal.point-requires
point-requires c =
    let inside : c.loop-row.row * c.args.cols + c.args.col < c.args.cols * c.args.rows = mul-add-lt c.loop-row.row c.args.cols c.args.col c.args.rows (omega arith) c.requires.col in
    omega (arith, inside, mul_comm c.args.cols c.args.rows, c.requires.whole)

pub loop-row-preserved : goal.loop-row-preserved
loop-row-preserved c =
    let f : _ → _ = λ row. at c.args.values.now (row * c.args.cols + c.args.col) in
    c.in_ok-push.ensures.items
    ∙ ap (λ done. done ++ c.point.result ∷ []) c.loop-row.invariant
    ∙ rw (c.point.ensures, map-range_with_len_more f 0 c.loop-row.row c.loop-row.row (omega arith)) (append_assoc c.args.turned.now.items _ _)
