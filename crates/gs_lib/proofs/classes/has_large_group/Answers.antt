use Rattle.std.proofs.Common.{◌≡◌, ◌∙◌, ◌+◌, ◌<◌, ◌≤◌, ℕ, List, ap, subst, arith, get_or, map, set, length}
use Rattle.std.proofs.lemmas.List.{length-set, take_all}
use Rattle.gs_lib.specs.Classes.{group_count, group_of}
use Rattle.gs_lib.specs.Draft.{CellLists, cell_lists}
use Rattle.gs_lib.proofs.Groups.{counted_more, no_large_group, own_count, small_more}
use Rattle.gs_lib.proofs.classes.has_large_group.Goals as goal

pub loop-cell-preserved : goal.loop-cell-preserved
loop-cell-preserved c =
    let cells = c.args.cells.now in
    let groups = c.args.groups in
    let i = c.loop-cell.cell-index in
    let d = c.cell-item.result in
    let lt : i < length cells = c.loop-cell-test.true in
    let counts : List ℕ = c.loop-cell.counts.items in
    let n : ℕ = c.count_group-count.result in
    let size : length counts ≡ groups = c.loop-cell.invariant.size in
    let footprint : List ℕ = c.as_bytes.result.now in
    let same : footprint ≡ (cell_lists (get_or cells i d)).footprint = c.as_bytes.ensures ∙ ap (λ (x : CellLists). x.footprint) (ap cell_lists c.cell-item.is) in
    let at : group_of (length counts) footprint ≡ group_of groups (cell_lists (get_or cells i d)).footprint =
    ap (λ m. group_of m footprint) size ∙ ap (group_of groups) same in
    let more : n ≡ get_or counts (group_of groups (cell_lists (get_or cells i d)).footprint) 0 + 1 =
    c.count_group-count.ensures.count ∙ ap (λ g. get_or counts g 0 + 1) at in
    let new = c.count_group-count.new.counts.items in
    let changed : new ≡ set counts (group_of groups (cell_lists (get_or cells i d)).footprint) n =
    c.count_group-count.ensures.counts ∙ ap (λ g. set counts g n) at in
    record {
      size = ap length changed ∙ length-set counts (group_of groups (cell_lists (get_or cells i d)).footprint) n ∙ size;
      counted = λ h. ap (λ cs. get_or cs h 0) changed ∙ counted_more groups cells i d lt counts n size c.requires.some more c.loop-cell.invariant.counted h;
      small = small_more groups cells i d lt n (omega (arith, c.if-count-gt-MOST.false))
          (own_count groups cells i d lt counts n size c.requires.some more c.loop-cell.invariant.counted) c.loop-cell.invariant.small;
    }

pub returns-clause-ok : goal.returns-clause-ok
returns-clause-ok c =
    let cells = c.args.cells.now in
    let groups = c.args.groups in
    λ _. no_large_group groups (map cell_lists cells)
    (λ h. subst (λ cs. group_count groups h (map cell_lists cs) ≤ 1024) (take_all c.loop-cell.cell-index cells c.loop-cell-test.false) (c.loop-cell.invariant.small h))
