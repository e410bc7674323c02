-- The load of a net, and the bounds on its load and its slew.

use Rattle.std.specs.Prelude.{ℕ, List, fold, Option, None, Some, ℤ, ◌+ℤ◌}
use Rattle.std.specs.Int.{int_min}
use Rattle.gs_design.specs.Cell.{output_place, pin_at}
use Rattle.gs_design.specs.Hot.{or_default}
use Rattle.gs_design.specs.Nets.{net_at}
use Rattle.gs_design.specs.Sizes.{cell_of}
use Rattle.gs_design.specs.declared.cell.Cell.{Cell}
use Rattle.gs_design.specs.declared.design.Design.{Design}
use Rattle.gs_design.specs.declared.pin.CellPin.{CellPin}
use Rattle.gs_design.specs.declared.sink.Driver.{Driver}
use Rattle.gs_design.specs.declared.sink.Driver.TheVariants.{Port, Inst}
use Rattle.gs_design.specs.declared.sink.Sink.{Sink}

-- the pin of a sink, on the cell that its instance has
abbrev pub sink_pin : Design → List ℕ → Sink → CellPin
sink_pin d s k = pin_at (cell_of d s k.inst).pins k.pin

abbrev pub output_pin : Cell → CellPin
output_pin c = pin_at c.pins (output_place c.pins)

-- the capacitance of the wire, the load at the port, input or output, that the net is, and the capacitance of each sink's pin
abbrev pub load_of : Design → List ℕ → ℕ → ℤ
load_of d s n = fold (λ load k. load +ℤ (sink_pin d s k).cap) ((net_at d.nets n).wire +ℤ (net_at d.nets n).port_load) (net_at d.nets n).sinks

-- a port bounds no load, an instance what its output pin does
abbrev pub driver_load_bound : Design → List ℕ → Driver → Option ℤ
driver_load_bound d s (Port delay cell) = None
driver_load_bound d s (Inst g) = (output_pin (cell_of d s g)).load_bound

abbrev pub load_bound_of : Design → List ℕ → ℕ → Option ℤ
load_bound_of d s n = driver_load_bound d s (net_at d.nets n).driver

-- the lesser of two bounds, where a bound that isn't given bounds nothing
abbrev pub tighter : Option ℤ → Option ℤ → Option ℤ
tighter None b = b
tighter (Some a) None = Some a
tighter (Some a) (Some b) = Some (int_min a b)

-- a pin bounds the slew of its net by its own bound, or else by the default
abbrev pub pin_slew_bound : Design → CellPin → Option ℤ
pin_slew_bound d p = or_default p.slew_bound d.slew_default

-- a port bounds no slew, an instance what its output pin does
abbrev pub driver_slew_bound : Design → List ℕ → Driver → Option ℤ
driver_slew_bound d s (Port delay cell) = None
driver_slew_bound d s (Inst g) = pin_slew_bound d (output_pin (cell_of d s g))

-- the least bound over all cell pins on the net, the driver's and the sinks'
abbrev pub slew_bound_of : Design → List ℕ → ℕ → Option ℤ
slew_bound_of d s n = fold (λ bound k. tighter bound (pin_slew_bound d (sink_pin d s k))) (driver_slew_bound d s (net_at d.nets n).driver) (net_at d.nets n).sinks
