use Rattle.std.proofs.Common.{◌∙◌, ◌++◌, map, ap, sym}
use Rattle.std.specs.List.{filter, flat_map, range_with_len}
use Rattle.gs_design.specs.Ends.{is_data_pin, pins_of_inst}
use Rattle.gs_link.proofs.Growing.{flat_range, picked, picked_more}
use Rattle.gs_link.specs.Linked.{pin_end}
use Rattle.gs_link.proofs.ends.push_all_pin_ends.Goals as goal

pub loop-inst-preserved : goal.loop-inst-preserved
loop-inst-preserved c =
    let insts = c.args.insts.now in
    let f = pin_end insts c.args.period in
    let p = is_data_pin c.args.cells.now insts in
    let g = c.loop-inst.inst in
    c.in_ok-push_pin_ends.ensures
    ∙ ap (λ xs. xs ++ map f (filter p (pins_of_inst insts g))) c.loop-inst.invariant
    ∙ sym (ap (picked f p c.args.ends.now.items) (flat_range (pins_of_inst insts) g)
    ∙ picked_more f p c.args.ends.now.items (flat_map (pins_of_inst insts) (range_with_len 0 g)) (pins_of_inst insts g))
