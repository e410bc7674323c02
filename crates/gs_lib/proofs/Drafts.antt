-- Drafts field by field.

use Rattle.std.proofs.Common.{◌≡◌, ◌∙◌, ap, sym, refl, List, ℕ, [], codes, map, Option, unwrap_or, Bool, ◌||◌}
use Rattle.gs_design.specs.declared.kind.CellKind.{CellKind}
use Rattle.gs_lib.specs.Draft.{DraftLists, draft_of}
use Rattle.gs_lib.specs.Profile.{inputs_in_order, is_flop, output_items}
use Rattle.gs_libcell.specs.Attribute.{label_of, last_simple}
use Rattle.gs_libcell.specs.Number.{amount_in}
use Rattle.gs_libcell.specs.Pin.{is_true}
use Rattle.gs_libcell.specs.Template.{Frame}
use Rattle.gs_libcell.specs.Timing.{TimingLists, timings_in}
use Rattle.gs_libcell.specs.declared.number.Amount.{Amount}
use Rattle.gs_libcell.specs.declared.pin.NamedPin.{NamedPin}
use Rattle.gs_libtree.specs.declared.tree.Item.{Item}
use Rattle.gs_libtree.specs.declared.tree.Node.{Node}

-- a draft whose parts are read from these items
pub draft_parts : (lib : Frame) (cell : Node) (pins : List NamedPin) (kind : CellKind) (d : DraftLists) (items output : List Item) → items ≡ cell.items
    → d.name ≡ label_of cell
    → d.footprint ≡ unwrap_or (last_simple (codes "cell_footprint") items) []
    → d.leakage ≡ amount_in (codes "cell_leakage_power") 0 items
    → d.area ≡ amount_in (codes "area") 0 items
    → d.marked ≡ (is_true (codes "dont_touch") items || is_true (codes "dont_use") items)
    → d.flop ≡ is_flop items
    → d.kind ≡ kind
    → d.pins ≡ pins
    → d.inputs ≡ inputs_in_order pins
    → output ≡ output_items items
    → d.timings ≡ timings_in lib d.flop d.inputs output
    → d ≡ draft_of lib cell pins kind
draft_parts lib cell pins kind d items output e name footprint leakage area marked flop kinds pin inputs out timings =
    let flops : d.flop ≡ is_flop cell.items = flop ∙ ap is_flop e in
    let outs : output ≡ output_items cell.items = out ∙ ap output_items e in
    let times : d.timings ≡ timings_in lib (is_flop cell.items) (inputs_in_order pins) (output_items cell.items) =
    timings ∙ ap (λ f. timings_in lib f d.inputs output) flops ∙ ap (λ ins. timings_in lib (is_flop cell.items) ins output) inputs
    ∙ ap (timings_in lib (is_flop cell.items) (inputs_in_order pins)) outs in
    let foot : d.footprint ≡ unwrap_or (last_simple (codes "cell_footprint") cell.items) [] = footprint ∙ ap (λ is. unwrap_or (last_simple (codes "cell_footprint") is) []) e in
    let leak : d.leakage ≡ amount_in (codes "cell_leakage_power") 0 cell.items = leakage ∙ ap (amount_in (codes "cell_leakage_power") 0) e in
    let size : d.area ≡ amount_in (codes "area") 0 cell.items = area ∙ ap (amount_in (codes "area") 0) e in
    let mark : d.marked ≡ (is_true (codes "dont_touch") cell.items || is_true (codes "dont_use") cell.items) =
    marked ∙ ap (λ is. is_true (codes "dont_touch") is || is_true (codes "dont_use") is) e in
    λ i. record {
      name = name i;
      footprint = foot i;
      leakage = leak i;
      area = size i;
      marked = mark i;
      flop = flops i;
      kind = kinds i;
      pins = pin i;
      inputs = inputs i;
      timings = times i;
    }
