use Rattle.std.proofs.Common.{◌∙◌, ◌<◌, All, ap, sym, subst, length, map, slice_index, arith}
use Rattle.gs_list.specs.Groups.{by_key_of}
use Rattle.gs_alternatives.proofs.GroupLaws.{all_below, all_inside, as_many, group_is}
use Rattle.gs_alternatives.proofs.Ranks.{ranked_few}
use Rattle.gs_alternatives.proofs.alternatives.alternatives_of.Goals as goal

pub groups_of-requires-clause-inside : goal.groups_of-requires-clause-inside
groups_of-requires-clause-inside c =
    subst (All (λ x. x < length c.in_ok-classes.classes)) (sym c.in_ok-order.ensures) (all_inside c.args.library.now.cells c.in_ok-classes.classes c.in_ok-classes.ensures)

pub groups_of-requires-clause-below : goal.groups_of-requires-clause-below
groups_of-requires-clause-below c = all_below c.args.library.now.cells c.in_ok-classes.classes c.in_ok-classes.ensures

pub groups_of-requires-clause-few_cells : goal.groups_of-requires-clause-few_cells
groups_of-requires-clause-few_cells c = omega (arith, ap length c.in_ok-order.ensures, ranked_few c.args.library.now.cells, c.args.library.now.well.few)

pub lay_out-requires-clause-as_many : goal.lay_out-requires-clause-as_many
lay_out-requires-clause-as_many c =
    as_many c.args.library.now.cells c.in_ok-classes.classes c.in_ok-classes.ensures c.in_ok-groups.groups
    (c.in_ok-groups.ensures ∙ ap (λ order. by_key_of (length c.in_ok-classes.classes) (map (slice_index c.in_ok-classes.classes) order) order) c.in_ok-order.ensures)

pub lay_out-requires-clause-groups : goal.lay_out-requires-clause-groups
lay_out-requires-clause-groups c =
    group_is c.args.library.now.cells c.in_ok-classes.classes c.in_ok-classes.ensures c.in_ok-groups.groups
    (c.in_ok-groups.ensures ∙ ap (λ order. by_key_of (length c.in_ok-classes.classes) (map (slice_index c.in_ok-classes.classes) order) order) c.in_ok-order.ensures)

pub lay_out-requires-clause-kept : goal.lay_out-requires-clause-kept
lay_out-requires-clause-kept c =
    λ x lt. c.alternatives_are_kept.ensures c.args.library.now.slew_default c.args.library.now.cells x c.args.library.now.well lt
