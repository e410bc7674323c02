use Rattle.std.proofs.Common.{sym, ◌∙◌, ap}
use Rattle.gs_design.specs.Ends.{no_end}
use Rattle.gs_report.proofs.names.add_end.Goals as goal

pub add_pin-requires-clause-inst : goal.add_pin-requires-clause-inst
add_pin-requires-clause-inst c =
    (c.args.design.now.well.ends_kept.pins_in c.args.number c.in-Pin.inst c.in-Pin.pin c.requires (ap (λ e. e.place) (sym (c.at-end.ensures no_end)) ∙ c.in-Pin.is)).0

pub add_pin-requires-clause-pin : goal.add_pin-requires-clause-pin
add_pin-requires-clause-pin c =
    (c.args.design.now.well.ends_kept.pins_in c.args.number c.in-Pin.inst c.in-Pin.pin c.requires (ap (λ e. e.place) (sym (c.at-end.ensures no_end)) ∙ c.in-Pin.is)).1
