use Rattle.std.proofs.Common.{◌≡◌, ◌∙◌, ap, sym}
use Rattle.std.specs.BTreeMap.{insert_entry}
use Rattle.gs_design.specs.Alternatives.{rank_cmp, rank_key}
use Rattle.gs_design.specs.Cells.{cell_at, no_cell}
use Rattle.gs_alternatives.proofs.Ranks.{entries_more, entries_to}
use Rattle.gs_alternatives.proofs.rank.rank.Goals as goal

pub loop-number-preserved : goal.loop-number-preserved
loop-number-preserved c =
    let cells = c.args.cells.now in
    let n = c.loop-number.number in
    let here : c.at-cell.result.now ≡ cell_at cells n = c.at-cell.ensures no_cell in
    c.in_ok-insert.ensures.entries
    ∙ ap (λ es. insert_entry rank_cmp es (c.at-cell.result.now.leakage, c.in_ok-name.name) n) c.loop-number.invariant
    ∙ ap (λ name. insert_entry rank_cmp (entries_to cells n) (c.at-cell.result.now.leakage, name) n) (c.in_ok-name.ensures ∙ c.as_bytes.ensures)
    ∙ ap (λ x. insert_entry rank_cmp (entries_to cells n) (rank_key x) n) here
    ∙ sym (entries_more cells n)
