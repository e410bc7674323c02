use Rattle.std.proofs.Common.{ap, ◌∙◌, option_copied, refl}
use Rattle.gs_libcell.specs.Attribute.{group_in}
use Rattle.gs_libcell.proofs.Attributes.{copied_or, found_on}
use Rattle.gs_libcell.proofs.attribute.last_group.Goals as goal

pub loop-item-preserved : goal.loop-item-preserved
loop-item-preserved c =
    found_on (group_in c.args.name.now) c.args.items.now c.loop-item.item-index c.item-item.result (option_copied c.loop-item.found) (option_copied c.or-found.result)
    c.loop-item-test.true
    (ap (λ o. option_copied o) c.or-found.ensures
    ∙ copied_or c.group_in.result c.loop-item.found _ (option_copied c.loop-item.found)
    (c.group_in.ensures ∙ ap (group_in c.args.name.now) c.item-item.is) refl)
    c.loop-item.invariant
