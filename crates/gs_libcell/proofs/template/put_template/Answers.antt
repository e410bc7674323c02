use Rattle.std.proofs.Common.{◌≡◌, ◌∙◌, ap, sym, List, ℕ, codes, option_copied, cond, Option, Some, None, if◌then◌else◌}
use Rattle.std.specs.BTreeMap.{get}
use Rattle.std.specs.Cmp.Lexicographic.{slice_cmp}
use Rattle.std.specs.Option.{option_or}
use Rattle.std.specs.Ordering.{is_eq, nat_cmp}
use Rattle.std.specs.Str.{bytes_eq}
use Rattle.gs_libcell.specs.Attribute.{group_in}
use Rattle.gs_libcell.specs.Template.{given_label, template_by, template_if, template_of}
use Rattle.gs_libcell.specs.declared.template.Template.{Template}
use Rattle.gs_libcell.specs.Unit.{scale}
use Rattle.gs_libcell.proofs.Attributes.{labelled}
use Rattle.gs_libcell.proofs.template.put_template.Goals as goal

pub returns : goal.returns
returns c = λ name.
    let g = c.in-Some.group.now in
    let label : List ℕ = c.in-Some-given_label.label.now in
    let old : Option Template = get (slice_cmp nat_cmp) c.args.templates.now name in
    let found : group_in (codes "lu_table_template") c.args.item.now ≡ Some g = sym c.group_in.ensures ∙ ap option_copied c.in-Some.is in
    let called : given_label g.args ≡ Some label = sym c.given_label.ensures ∙ ap option_copied c.in-Some-given_label.is in
    let key : c.in_ok-name.name ≡ label = c.in_ok-name.ensures ∙ c.as_bytes.ensures in
    let made : c.in_ok-template.template ≡ template_of (scale c.args.units) g.items = c.in_ok-template.ensures ∙ ap (template_of (scale c.args.units)) c.as_slice.ensures in
    c.in_ok-insert.ensures.updates.0 name
    ∙ ap (λ (n : List ℕ). cond (is_eq (slice_cmp nat_cmp n name)) (Some c.in_ok-template.template) old) key
    ∙ labelled name label c.in_ok-template.template old
    ∙ ap (λ (t : Template). option_or (if bytes_eq name label then Some t else None) old) made
    ∙ sym (ap (λ o. option_or (template_by (scale c.args.units) name o) old) found ∙ ap (λ o. option_or (template_if (scale c.args.units) name g.items o) old) called)
