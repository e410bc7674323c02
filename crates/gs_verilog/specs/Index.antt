-- The maps of the reader: where each name of the circuit so far is found.

use Rattle.std.specs.Prelude.{◌≡◌, ℕ, ◌≤◌, ◌==◌, Bool, true, false, List, length, Option, None, Some, eqb, if◌then◌else◌}
use Rattle.std.specs.BTreeSet.{contains}
use Rattle.std.specs.List.{list_any}
use Rattle.std.specs.Option.{is_some}
use Rattle.std.specs.Ordering.{nat_cmp}
use Rattle.std.specs.Str.{bytes_eq}
use Rattle.gs_drive.specs.declared.machine.Fault.{Fault}
use Rattle.gs_drive.specs.declared.machine.StepErr.{StepErr}
use Rattle.gs_drive.specs.declared.refusal.Refusal.{Refusal}
use Rattle.gs_verilog.specs.Circuit.{Circuit}
use Rattle.gs_verilog.specs.Machine.{State, with_net, with_link, has_inst, last_has}
use Rattle.gs_verilog.specs.Names.{HasBuckets, find}
use Rattle.gs_verilog.specs.Text.{number}
use Rattle.gs_verilog.specs.declared.build.Builder.{Builder}
use Rattle.gs_verilog.specs.declared.nets.Nets.{Nets}
use Rattle.gs_verilog.specs.declared.error.Rule.{Rule}
use Rattle.gs_verilog.specs.declared.error.VerilogErr.{VerilogErr}
use Rattle.gs_text.specs.declared.kinds.TextErr.{TextErr}
use Rattle.gs_verilog.specs.declared.reader.Reader.{Reader}
use Rattle.gs_verilog.specs.declared.parts.Port.{Port}

-- where the name is in the list
abbrev pub place_of : List (List ℕ) → List ℕ → Option ℕ
place_of names q = if list_any (bytes_eq q) names then Some (number names q) else None

-- each net is found at its number
pub record FindsNets (n : Nets) : Type 0 where
  pub buckets : HasBuckets n.places
  pub places : (q : List ℕ) → find n.places q ≡ place_of n.names.items q

-- the nets after a name was put, and the number that it has
pub record Puts (old new : Nets) (name : List ℕ) (n : ℕ) : Type 0 where
  pub finds : FindsNets new
  pub names : new.names.items ≡ with_net old.names.items name
  pub number : n ≡ number old.names.items name

-- a pin of the last of so many instances is found at their number, any other pin below it
abbrev pub PinAt : ℕ → Option ℕ → Bool → Type 0
PinAt count None has = has ≡ false
PinAt count (Some n) has = (n ≤ count) × ((n == count) ≡ has)

-- the circuit so far
abbrev pub built : Builder → Circuit
built b = record { name = b.name.now; ports = b.ports.items; nets = b.nets.names.items; insts = b.insts.items }

pub record IsIndexed (b : Builder) : Type 0 where
  pub nets : FindsNets b.nets
  pub directed : (n : ℕ) → contains nat_cmp b.directed n ≡ list_any (λ (p : Port). eqb n p.net) b.ports.items
  pub named_buckets : HasBuckets b.named
  pub named : (q : List ℕ) → is_some (find b.named q) ≡ has_inst (built b) q
  pub pins_buckets : HasBuckets b.pins
  pub pins : (q : List ℕ) → PinAt (length b.insts.items) (find b.pins q) (last_has b.insts.items q)

-- the last instance has the pin at the net of this number
abbrev pub linked : Circuit → (pin : List ℕ) → (net : ℕ) → Circuit
linked c pin net = record c { insts = with_link c.insts (record { pin = pin; net = net }) }

-- the machine's state that a reader stands for
abbrev pub state_of : Reader → State
state_of r = record { place = r.place; circuit = built r.built; cell = r.cell.now; pin = r.pin.now }

-- a refusal where a rule refuses, or want of memory
abbrev pub Refuses : Bool → StepErr Rule → Type 0
Refuses refused (StepErr.Refused Fault.Bad) = ⊥
Refuses refused (StepErr.Refused (Fault.Broken rule)) = refused ≡ true
Refuses refused StepErr.Full = Unit {0}

-- the netlist's refusal for the driver's
abbrev pub refusal_of : Refusal Rule → VerilogErr
refusal_of (Refusal.Text (TextErr.OpenString at)) = VerilogErr.OpenComment at
refusal_of (Refusal.Text (TextErr.OpenComment at)) = VerilogErr.OpenComment at
refusal_of (Refusal.Text TextErr.Mem) = VerilogErr.Mem
refusal_of (Refusal.Bad i) = VerilogErr.BadPiece i
refusal_of (Refusal.Broken i rule) = VerilogErr.TwoNames i
refusal_of (Refusal.Early i) = VerilogErr.NoEnd i
refusal_of Refusal.Mem = VerilogErr.Mem
