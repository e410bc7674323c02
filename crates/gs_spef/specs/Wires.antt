-- What the type of wires keeps.

use Rattle.std.specs.Prelude.{ℕ, List, map}
use Rattle.std.specs.List.{AllByRecursion, IsDistinct}
use Rattle.std.specs.Str.{bytes_eq}
use Rattle.gs_amount.specs.Amount.{IsAmount}
use Rattle.gs_spef.specs.declared.wires.Wire.{Wire}

abbrev pub wire_net : Wire → List ℕ
wire_net w = w.net

-- the nets differ, and no total is negative or 2^40 millionths or more
pub record IsWires (ws : List Wire) : Type 0 where
  pub differ : IsDistinct bytes_eq (map wire_net ws)
  pub amounts : AllByRecursion (λ w. IsAmount w.total) ws
