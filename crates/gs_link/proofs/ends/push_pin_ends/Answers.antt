use Rattle.std.proofs.Common.{◌≡◌, ◌∙◌, ◌++◌, ◌∷◌, [], ℕ, true, false, map, ap, sym}
use Rattle.std.specs.List.{range_with_len}
use Rattle.gs_design.specs.Ends.{is_data_pin}
use Rattle.gs_link.proofs.Growing.{next_no, next_yes, picked}
use Rattle.gs_link.specs.Linked.{pin_end}
use Rattle.gs_link.proofs.ends.push_pin_ends.Goals as goal

pub loop-pin-preserved-then-not-is_data_pin_at : goal.loop-pin-preserved-then-not-is_data_pin_at
loop-pin-preserved-then-not-is_data_pin_at c =
    let e : is_data_pin c.args.cells.now c.args.insts.now (record { inst = c.args.inst; pin = c.loop-pin.pin }) ≡ false = cc in
    c.loop-pin.invariant
    ∙ sym (next_no (pin_end c.args.insts.now c.args.period) (is_data_pin c.args.cells.now c.args.insts.now) c.args.ends.now.items (λ (n : ℕ). record { inst = c.args.inst; pin = n }) c.loop-pin.pin e)

pub loop-pin-preserved : goal.loop-pin-preserved
loop-pin-preserved c =
    let e : is_data_pin c.args.cells.now c.args.insts.now (record { inst = c.args.inst; pin = c.loop-pin.pin }) ≡ true = cc in
    c.in_ok-push.ensures.items
    ∙ ap (λ xs. xs ++ c.pin_end_of.result ∷ []) c.loop-pin.invariant
    ∙ ap (λ x. picked (pin_end c.args.insts.now c.args.period) (is_data_pin c.args.cells.now c.args.insts.now) c.args.ends.now.items (map (λ (n : ℕ). record { inst = c.args.inst; pin = n }) (range_with_len 0 c.loop-pin.pin)) ++ x ∷ []) c.pin_end_of.ensures
    ∙ sym (next_yes (pin_end c.args.insts.now c.args.period) (is_data_pin c.args.cells.now c.args.insts.now) c.args.ends.now.items (λ (n : ℕ). record { inst = c.args.inst; pin = n }) c.loop-pin.pin e)
