use Rattle.std.proofs.Common.{◌≡◌, ◌∙◌, ap, sym, refl, map}
use Rattle.gs_lib.specs.Draft.{draft_lists}
use Rattle.gs_libcell.specs.Timing.{timing_lists, timings_in}
use Rattle.gs_lib.proofs.Drafts.{draft_parts}
use Rattle.gs_lib.proofs.draft.draft_of.Goals as goal

pub returns-clause-ok : goal.returns-clause-ok
returns-clause-ok c =
    draft_parts c.args.lib.now c.args.cell.now c.args.pins.items c.args.kind _ c.as_slice-items.result.now c.output_items.result.now c.as_slice-items.ensures
    (c.in_ok-name.ensures ∙ c.label_of.ensures)
    c.in_ok-footprint.ensures.ok
    c.amount_in.ensures
    c.amount_in-2.ensures
    c.is_marked.ensures
    c.is_flop-flop.ensures
    refl
    c.from_vec.ensures
    (c.from_vec-2.ensures ∙ c.requires.inputs)
    c.output_items.ensures
    (ap (map timing_lists) c.from_vec-3.ensures ∙ c.in_ok-timings.ensures
    ∙ ap (λ ins. timings_in c.args.lib.now c.is_flop-flop.result ins c.output_items.result.now) (c.as_slice.ensures.value ∙ sym c.from_vec-2.ensures))
