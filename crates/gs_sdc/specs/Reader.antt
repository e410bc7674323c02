-- What the reader holds, and what its steps answer. No public clause speaks of these.

use Rattle.std.specs.Prelude.{◌≡◌, ℕ, ℤ, Bool, true, false, List, [], ◌∷◌, ◌++◌, map, Option, None, Some, Result, Ok, Err}
use Rattle.std.specs.List.{AllByRecursion, IsDistinct, list_any}
use Rattle.std.specs.Option.{is_some}
use Rattle.std.specs.Str.{bytes_eq}
use Rattle.gs_design.specs.declared.units.Units.{Units}
use Rattle.gs_grammar.specs.Judged.{upon, first_fault}
use Rattle.gs_lines.specs.Lines.{Line}
use Rattle.gs_names.specs.Names.{HasBuckets, find}
use Rattle.gs_amount.specs.Amount.{IsAmount, IsLimited}
use Rattle.gs_sdc.specs.Front.{reading_of}
use Rattle.gs_sdc.specs.Sdc.{Item, clock, drivers, fault, terms, values}
use Rattle.gs_sdc.specs.Terms.{HasTransitions, Terms, driver_port, value_port}
use Rattle.gs_sdc.specs.Token.{Token}
use Rattle.gs_sdc.specs.declared.command.Quantity.TheVariants.{InputDelay, OutputDelay, PortLoad}
use Rattle.gs_sdc.specs.declared.constraints.Clock.{Clock}
use Rattle.gs_sdc.specs.declared.constraints.PortValue.{PortValue}
use Rattle.gs_sdc.specs.declared.constraints.DriverSpec.{DriverSpec}
use Rattle.gs_sdc.specs.declared.error.Fault.{Fault}
use Rattle.gs_sdc.specs.declared.error.Fault.TheVariants as faults
use Rattle.gs_sdc.specs.declared.error.SdcErr.{SdcErr}
use Rattle.gs_sdc.specs.declared.error.Stop.{Stop}
use Rattle.gs_sdc.specs.declared.error.Stop.TheVariants as stops
use Rattle.gs_sdc.specs.declared.given.Values.{Values}
use Rattle.gs_sdc.specs.declared.given.Driven.{Driven}
use Rattle.gs_sdc.specs.declared.reader.Reader.{Reader}

-- ---- ports that have a value

abbrev pub is_named : (port : List ℕ) → List (List ℕ) → Bool
is_named port names = list_any (λ y. bytes_eq y port) names

-- the ports that are found are these, and they differ
pub record HasPorts (f : List ℕ → Bool) (names : List (List ℕ)) : Type 0 where
  pub finds : (q : List ℕ) → f q ≡ is_named q names
  pub differ : IsDistinct bytes_eq names

pub record IsValues (v : Values) : Type 0 where
  pub buckets : HasBuckets v.ports
  pub ports : HasPorts (λ q. is_some (find v.ports q)) (map value_port v.list.items)

pub record IsDriven (d : Driven) : Type 0 where
  pub buckets : HasBuckets d.ports
  pub ports : HasPorts (λ q. is_some (find d.ports q)) (map driver_port d.list.items)

-- the refusal of a port that has a value, or want of memory
abbrev pub StopsAgain : Stop → Bool → Type 0
StopsAgain (stops.At faults.TwoValues) again = again ≡ true
StopsAgain (stops.At faults.NotBuilt) again = ⊥
StopsAgain (stops.At faults.BadLine) again = ⊥
StopsAgain (stops.At faults.TwoClocks) again = ⊥
StopsAgain stops.Mem again = Unit {0}

-- ---- the reader

abbrev pub ClockKept : Option Clock → Type 0
ClockKept None = Unit {0}
ClockKept (Some c) = IsLimited c.period

pub record IsReader (r : Reader) : Type 0 where
  pub clock_kept : ClockKept r.clock
  pub inputs : IsValues r.inputs
  pub outputs : IsValues r.outputs
  pub loads : IsValues r.loads
  pub drivers_kept : IsDriven r.drivers
  pub input_numbers : AllByRecursion (λ v. IsLimited v.value) r.inputs.list.items
  pub output_numbers : AllByRecursion (λ v. IsLimited v.value) r.outputs.list.items
  pub load_numbers : AllByRecursion (λ v. IsAmount v.value) r.loads.list.items
  pub driver_numbers : AllByRecursion HasTransitions r.drivers.list.items

-- the reader says of the commands so far what the definitions say
pub record Holds (r : Reader) (past : List Item) : Type 0 where
  pub clock_is : r.clock ≡ clock past
  pub inputs : r.inputs.list.items ≡ values InputDelay past
  pub outputs : r.outputs.list.items ≡ values OutputDelay past
  pub loads : r.loads.list.items ≡ values PortLoad past
  pub drivers_are : r.drivers.list.items ≡ drivers past

-- a step stops for the fault, or for want of memory
abbrev pub Stops : Stop → Option Fault → Type 0
Stops (stops.At f) o = o ≡ Some f
Stops stops.Mem o = Unit {0}

-- ---- answers

abbrev pub refusal_of : ℕ → Fault → SdcErr
refusal_of i faults.NotBuilt = SdcErr.NotBuilt i
refusal_of i faults.BadLine = SdcErr.BadLine i
refusal_of i faults.TwoClocks = SdcErr.TwoClocks i
refusal_of i faults.TwoValues = SdcErr.TwoValues i

abbrev pub refused_at : ℕ → Stop → SdcErr
refused_at i (stops.At f) = refusal_of i f
refused_at i stops.Mem = SdcErr.Mem

-- a line of tokens as a command
abbrev pub item_of : Units → Line Token → Item
item_of u l = record { number = l.number; reading = reading_of u l.words }

abbrev pub items_of : Units → List (Line Token) → List Item
items_of u ls = map (item_of u) ls

-- what is said of a text, as one function of its commands
abbrev pub end_by : (last : ℕ) → Option Clock → List Item → Result Terms SdcErr
end_by last None past = Err (SdcErr.NoClock last)
end_by last (Some c) past = Ok (terms c past)

abbrev pub judged : (last : ℕ) → List Item → Option (Item × Fault) → Result Terms SdcErr
judged last items None = end_by last (clock (upon [] items)) (upon [] items)
judged last items (Some (i, f)) = Err (refusal_of i.number f)

abbrev pub answer_of : (last : ℕ) → List Item → Result Terms SdcErr
answer_of last items = judged last items (first_fault fault [] items)

-- what a reader answers at the end
abbrev pub terms_by : Clock → Reader → Terms
terms_by c r = record {
  period = c.period;
  clock_ports = c.names;
  inputs = r.inputs.list.items;
  outputs = r.outputs.list.items;
  loads = r.loads.list.items;
  drivers = r.drivers.list.items;
  max_area = None;
}

abbrev pub finished_by : (last : ℕ) → Option Clock → Reader → Result Terms SdcErr
finished_by last None r = Err (SdcErr.NoClock last)
finished_by last (Some c) r = Ok (terms_by c r)

abbrev pub finished : (last : ℕ) → Reader → Result Terms SdcErr
finished last r = finished_by last r.clock r
