use Rattle.std.proofs.Common.{◌≡◌, option_copied}
use Rattle.gs_libcell.specs.Attribute.{last_some, simple_value}
use Rattle.gs_libcell.proofs.Attributes.{rest_says}
use Rattle.gs_libcell.proofs.attribute.last_simple.Given as goal

abbrev pub invariant-loop-item : goal.invariant-loop-item
invariant-loop-item l = rest_says (simple_value l.name) l.items l.item-index (option_copied l.found) ≡ last_some (simple_value l.name) l.items
