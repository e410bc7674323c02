use Rattle.std.proofs.Common.{◌≡◌, ◌∙◌, ap, sym, codes, get_or, take, List, ℕ, Option}
use Rattle.std.specs.BTreeMap.{get}
use Rattle.std.specs.Cmp.Lexicographic.{slice_cmp}
use Rattle.std.specs.Option.{option_or}
use Rattle.std.specs.Ordering.{nat_cmp}
use Rattle.gs_libtree.specs.declared.tree.Item.{Item}
use Rattle.gs_libcell.specs.Attribute.{group_in, last_some}
use Rattle.gs_libcell.specs.Template.{template_by}
use Rattle.gs_libcell.specs.declared.template.Template.{Template}
use Rattle.gs_libcell.specs.Unit.{scale}
use Rattle.gs_libcell.proofs.Attributes.{last_more}
use Rattle.gs_libcell.proofs.template.templates_in.Goals as goal

pub loop-item-preserved : goal.loop-item-preserved
loop-item-preserved c = λ name.
    let i = c.loop-item.item-index in
    let f : Item → Option Template = λ x. template_by (scale c.args.units) name (group_in (codes "lu_table_template") x) in
    let old : Option Template = get (slice_cmp nat_cmp) c.loop-item.templates name in
    c.in_ok-put_template.ensures name
    ∙ ap (λ (x : Item). option_or (f x) old) c.item-item.is
    ∙ ap (λ (o : Option Template). option_or (f (get_or c.args.items.now i c.item-item.result)) o) (c.loop-item.invariant name)
    ∙ sym (last_more f c.args.items.now i c.item-item.result c.loop-item-test.true)
