use Rattle.std.proofs.Common.{◌≡◌, ◌∙◌, ◌+◌, ◌<◌, ◌≤◌, ap, sym, subst, arith, get_or, map, take, length, cond}
use Rattle.std.specs.BTreeMap.{get}
use Rattle.std.specs.Option.{unwrap_or}
use Rattle.std.proofs.lemmas.List.{take_all}
use Rattle.gs_lib.specs.Classes.{Key, class_key, has_key, key_cmp, key_count}
use Rattle.gs_lib.specs.Draft.{cell_lists}
use Rattle.gs_lib.proofs.ClassCounts.{count_more, is_large, no_large, small_more}
use Rattle.gs_lib.proofs.classes.has_large_key.Goals as goal

pub returns-then-count-gt-MOST-clause-ok : goal.returns-then-count-gt-MOST-clause-ok
returns-then-count-gt-MOST-clause-ok c =
    let cells = c.args.cells.now in
    let i = c.loop-cell.cell-index in
    let d = c.cell-item.result in
    let lt : i < length cells = c.loop-cell-test.true in
    let here : cell_lists d ≡ cell_lists (get_or cells i d) = ap cell_lists c.cell-item.is in
    let counted : (q : Key) → unwrap_or (get key_cmp c.count_cell.new.counts q) 0 ≡ key_count q (map cell_lists (take (i + 1) cells)) =
    λ q. c.in_ok-count.ensures.counted q
    ∙ ap (λ n. n + cond (has_key q (cell_lists d)) 1 0) (c.loop-cell.invariant.counted q)
    ∙ ap (λ x. key_count q (map cell_lists (take i cells)) + cond (has_key q x) 1 0) here
    ∙ sym (count_more cells i d lt q) in
    sym (is_large cells i d lt c.in_ok-count.count (omega (arith, c.if-count-gt-MOST.true))
    (λ none. c.in_ok-count.ensures.none (ap class_key here ∙ none))
    (λ k own. c.in_ok-count.ensures.count k (ap class_key here ∙ own) ∙ counted k))

pub loop-cell-preserved : goal.loop-cell-preserved
loop-cell-preserved c =
    let cells = c.args.cells.now in
    let i = c.loop-cell.cell-index in
    let d = c.cell-item.result in
    let lt : i < length cells = c.loop-cell-test.true in
    let here : cell_lists d ≡ cell_lists (get_or cells i d) = ap cell_lists c.cell-item.is in
    let counted : (q : Key) → unwrap_or (get key_cmp c.count_cell.new.counts q) 0 ≡ key_count q (map cell_lists (take (i + 1) cells)) =
    λ q. c.in_ok-count.ensures.counted q
    ∙ ap (λ n. n + cond (has_key q (cell_lists d)) 1 0) (c.loop-cell.invariant.counted q)
    ∙ ap (λ x. key_count q (map cell_lists (take i cells)) + cond (has_key q x) 1 0) here
    ∙ sym (count_more cells i d lt q) in
    record {
      counted = counted;
      small = small_more cells i d lt c.in_ok-count.count (omega (arith, c.if-count-gt-MOST.false))
          (λ k own. c.in_ok-count.ensures.count k (ap class_key here ∙ own) ∙ counted k) c.loop-cell.invariant.small;
    }

pub returns-clause-ok : goal.returns-clause-ok
returns-clause-ok c =
    let cells = c.args.cells.now in
    let i = c.loop-cell.cell-index in
    sym (no_large (map cell_lists cells) (λ q. subst (λ cs. key_count q (map cell_lists cs) ≤ 1024) (take_all i cells c.loop-cell-test.false) (c.loop-cell.invariant.small q)))
