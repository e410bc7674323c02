use Rattle.std.proofs.Common.{◌≡◌, ◌<◌, length, Some, sym, ◌∙◌, ap, arith}
use Rattle.std.specs.Str.{bytes_eq}
use Rattle.gs_design.specs.Parts.{parts_of}
use Rattle.gs_sizes.specs.Sizes.{inst_fault, inst_named, place_fault}
use Rattle.gs_sizes.proofs.Given.{places_set}
use Rattle.gs_sizes.proofs.Positions.{found_below}
use Rattle.gs_sizes.proofs.read.give_named.Goals as goal

pub give-requires-clause-inst : goal.give-requires-clause-inst
give-requires-clause-inst c =
    let named : inst_named (parts_of c.args.design.now) c.args.inst.now ≡ Some c.in-Some.found = sym (c.requires.knows.finds c.args.inst.now) ∙ sym c.in_ok-found.ensures ∙ c.in-Some.is in
    omega (arith, found_below (λ i. bytes_eq i.name c.args.inst.now) c.args.design.now.insts 0 c.in-Some.found named)

pub returns-in-Ok-clause-ok : goal.returns-in-Ok-clause-ok
returns-in-Ok-clause-ok c =
    let named : inst_named (parts_of c.args.design.now) c.args.inst.now ≡ Some c.in-Some.found = sym (c.requires.knows.finds c.args.inst.now) ∙ sym c.in_ok-found.ensures ∙ c.in-Some.is in
    let inside : c.in-Some.found < length c.args.design.now.insts = omega (arith, found_below (λ i. bytes_eq i.name c.args.inst.now) c.args.design.now.insts 0 c.in-Some.found named) in
    λ past h. places_set (parts_of c.args.design.now) c.args.places.now.items c.give.new.places.items past c.args.inst.now c.args.cell.now c.in-Some.found h inside named c.in-Ok.ensures.set c.in-Ok.ensures.good

pub returns-in-Err-clause-err : goal.returns-in-Err-clause-err
returns-in-Err-clause-err c =
    let d = parts_of c.args.design.now in
    let named : inst_named (parts_of c.args.design.now) c.args.inst.now ≡ Some c.in-Some.found = sym (c.requires.knows.finds c.args.inst.now) ∙ sym c.in_ok-found.ensures ∙ c.in-Some.is in
    let inside : c.in-Some.found < length c.args.design.now.insts = omega (arith, found_below (λ i. bytes_eq i.name c.args.inst.now) c.args.design.now.insts 0 c.in-Some.found named) in
    λ past h.
    ap (λ o. inst_fault d past o c.args.cell.now) named ∙ ap (λ o. place_fault d o c.in-Some.found c.args.cell.now) (sym (h.each c.in-Some.found inside)) ∙ c.in-Err.ensures.err
