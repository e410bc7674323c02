use Rattle.std.proofs.Common.{◌≡◌, List, ℕ, take}
use Rattle.std.specs.BTreeMap.{get}
use Rattle.std.specs.Cmp.Lexicographic.{slice_cmp}
use Rattle.std.specs.Ordering.{nat_cmp}
use Rattle.gs_libcell.specs.Template.{template_named}
use Rattle.gs_libcell.specs.Unit.{scale}
use Rattle.gs_libcell.proofs.template.templates_in.Given as goal

abbrev pub invariant-loop-item : goal.invariant-loop-item
invariant-loop-item l = (name : List ℕ) → get (slice_cmp nat_cmp) l.templates name ≡ template_named (record { units = (scale l.units); items = take l.item-index l.items }) name
