use Rattle.std.proofs.Common.{◌≡◌, ◌∙◌, sym, Some}
use Rattle.std.specs.BTreeMap.{get}
use Rattle.gs_lib.specs.Classes.{class_key, key_cmp}
use Rattle.gs_lib.specs.Draft.{cell_lists}
use Rattle.gs_lib.proofs.ClassCounts.{counted, own_count}
use Rattle.gs_lib.proofs.classes.count_cell.Goals as goal

pub returns-in_ok-count-in-Some-clause-counted : goal.returns-in_ok-count-in-Some-clause-counted
returns-in_ok-count-in-Some-clause-counted c =
    let key : class_key (cell_lists c.args.cell.now) ≡ Some c.in-Some.key = sym c.in_ok-found.ensures.ok ∙ c.in-Some.is in
    counted (get key_cmp c.args.counts.now) (get key_cmp c.count_key.new.counts) c.in-Some.key c.in_ok-count-in-Some.count
    c.in_ok-count-in-Some.ensures.count c.in_ok-count-in-Some.ensures.updates (cell_lists c.args.cell.now) key

pub returns-in_ok-count-in-Some-clause-count : goal.returns-in_ok-count-in-Some-clause-count
returns-in_ok-count-in-Some-clause-count c =
    let key : class_key (cell_lists c.args.cell.now) ≡ Some c.in-Some.key = sym c.in_ok-found.ensures.ok ∙ c.in-Some.is in
    own_count (get key_cmp c.args.counts.now) (get key_cmp c.count_key.new.counts) c.in-Some.key c.in_ok-count-in-Some.count
    c.in_ok-count-in-Some.ensures.count c.in_ok-count-in-Some.ensures.updates (cell_lists c.args.cell.now) key
