use Rattle.std.proofs.Common.{◌∙◌, ◌<◌, All, sym, subst, map, slice_index}
use Rattle.gs_alternatives.proofs.GroupLaws.{keys_below}
use Rattle.gs_alternatives.proofs.groups.groups_of.Goals as goal

pub by_key-requires-clause-below : goal.by_key-requires-clause-below
by_key-requires-clause-below c =
    subst (All (λ k. k < c.len.result)) (sym (c.as_slice-2.ensures ∙ c.in_ok-keys.ensures))
    (subst (λ n. All (λ k. k < n) (map (slice_index c.args.classes.now) c.args.order.now)) (sym c.len.ensures)
    (keys_below c.args.classes.now c.args.order.now c.requires.inside c.requires.below))
