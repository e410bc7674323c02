-- What constraints are seen as, and what they keep.

use Rattle.std.specs.Prelude.{◌≡◌, ℕ, List, map, Option, None, Some, ℤ, pos, ◌<ℤ◌}
use Rattle.std.specs.List.{AllByRecursion, IsDistinct}
use Rattle.std.specs.Str.{bytes_eq}
use Rattle.gs_amount.specs.Amount.{IsAmount, IsLimited}
use Rattle.gs_sdc.specs.declared.constraints.PortValue.{PortValue}
use Rattle.gs_sdc.specs.declared.constraints.DriverSpec.{DriverSpec}

pub record Terms : Type 0 where
  pub period : ℤ
  pub clock_ports : List (List ℕ)
  pub inputs : List PortValue
  pub outputs : List PortValue
  pub loads : List PortValue
  pub drivers : List DriverSpec
  pub max_area : Option ℤ

abbrev pub value_port : PortValue → List ℕ
value_port v = v.port

abbrev pub driver_port : DriverSpec → List ℕ
driver_port d = d.port

-- numbers of this form, of ports that differ
pub record AreValues (IsNumber : ℤ → Type 0) (vs : List PortValue) : Type 0 where
  pub differ : IsDistinct bytes_eq (map value_port vs)
  pub numbers : AllByRecursion (λ v. IsNumber v.value) vs

-- transitions that aren't negative
abbrev pub HasTransitions : DriverSpec → Type 0
HasTransitions d = IsAmount d.rise × IsAmount d.fall

pub record AreDrivers (ds : List DriverSpec) : Type 0 where
  pub differ : IsDistinct bytes_eq (map driver_port ds)
  pub numbers : AllByRecursion HasTransitions ds

-- a number of this form, where there is one
abbrev pub IfGiven : (ℤ → Type 0) → Option ℤ → Type 0
IfGiven IsNumber None = Unit {0}
IfGiven IsNumber (Some m) = IsNumber m

-- what the type of constraints keeps: no port has two values of one kind, each magnitude is below 2^40 millionths, and loads and
-- transitions aren't negative
pub record AreTerms (t : Terms) : Type 0 where
  pub period : IsLimited t.period
  pub inputs : AreValues IsLimited t.inputs
  pub outputs : AreValues IsLimited t.outputs
  pub loads : AreValues IsAmount t.loads
  pub drivers : AreDrivers t.drivers
  pub max_area : IfGiven IsLimited t.max_area
