use Rattle.std.specs.BTreeMap.{get}
use Rattle.gs_alternatives.specs.Classes.{key_cmp}
use Rattle.gs_alternatives.proofs.FirstLaws.{IsMapped}
use Rattle.gs_alternatives.proofs.classes.classes_of.Given as goal

abbrev pub invariant-loop-number : goal.invariant-loop-number
invariant-loop-number l = IsMapped l.cells (get key_cmp l.numbers) l.classes.items l.number
