use Rattle.std.proofs.Common.{◌≡◌, ◌∷◌, [], rules, arith}
use Rattle.std.proofs.lemmas.Grind.{common_steps}
use Rattle.gs_design.specs.Parts.{parts_of}
use Rattle.gs_sizes.specs.Lines.{words}
use Rattle.gs_sizes.proofs.Given.{took_ok}
use Rattle.gs_sizes.proofs.read.take.Goals as goal

pub returns-in-None-clause-ok : goal.returns-in-None-clause-ok
returns-in-None-clause-ok c =
    let line : words c.args.line.now ≡ c.in-Some.inst.now ∷ c.in-Some-first_word.cell.now ∷ [] = first_of (search rules, grind (arith, common_steps)) in
    took_ok (parts_of c.args.design.now) c.give_named.result c.args.places.now.items c.give_named.new.places.items c.args.line.now c.in-Some.inst.now c.in-Some-first_word.cell.now line c.give_named.ensures.ok
