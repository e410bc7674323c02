-- What timing reads of a cell's pin, and which endpoints are on a net: copies that a design keeps beside its lists.

use Rattle.std.specs.Prelude.{ℕ, List, map, length, Option, None, Some, ℤ}
use Rattle.std.specs.List.{range_with_len}
use Rattle.gs_list.specs.Groups.{by_key_of}
use Rattle.gs_design.specs.Ends.{end_net}
use Rattle.gs_design.specs.declared.cell.Cell.{Cell}
use Rattle.gs_design.specs.declared.end.End.{End}
use Rattle.gs_design.specs.declared.hot.PinData.{PinData}
use Rattle.gs_design.specs.declared.pin.CellPin.{CellPin}

-- a bound of one's own, or else the default
abbrev pub or_default : Option ℤ → Option ℤ → Option ℤ
or_default (Some b) default = Some b
or_default None default = default

abbrev pub pin_data : (slew_default : Option ℤ) → CellPin → PinData
pin_data slew_default p = record { cap = p.cap; slew_bound = or_default p.slew_bound slew_default; load_bound = p.load_bound }

abbrev pub hot_pins : (slew_default : Option ℤ) → List Cell → List (List PinData)
hot_pins slew_default cells = map (λ c. map (pin_data slew_default) c.pins) cells

-- the numbers of the endpoints on each of so many nets
abbrev pub ends_by_net : List End → ℕ → List (List ℕ)
ends_by_net ends count = by_key_of count (map end_net ends) (range_with_len 0 (length ends))
