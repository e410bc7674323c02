-- No refusal of the definitions is want of memory, and none is a cycle's.

use Rattle.std.proofs.Common.{◌≡◌, ℕ, Bool, true, false, cond, nat_lt, List, [], ◌∷◌, length, Option, None, Some}
use Rattle.gs_design.specs.Cell.{is_gate, output_place}
use Rattle.gs_design.specs.Cells.{cell_at}
use Rattle.gs_design.specs.Load.{output_pin}
use Rattle.gs_design.specs.declared.cell.Cell.{Cell}
use Rattle.gs_design.specs.declared.library.Library.{Library}
use Rattle.std.specs.List.{range_with_len}
use Rattle.std.specs.Str.{bytes_eq}
use Rattle.gs_survey.specs.Counts.{arc_fault, no_arc, no_arc_at, pin_count, size_fault, too_many, used_cells}
use Rattle.gs_survey.specs.First.{first_some, or_else}
use Rattle.gs_survey.specs.Instances.{cell_named, cell_of, inst_fault, not_output, open_at, open_pin, unknown_cell, unknown_driving_cell, unknown_driving_pin, unknown_link, unknown_pin}
use Rattle.gs_survey.specs.Limits.{limit_fault, port_fault, unknown_net, unknown_port}
use Rattle.gs_survey.specs.Fault.{first_fault}
use Rattle.gs_survey.specs.Uses.{driven, net_fault, read, two_drivers, undriven}
use Rattle.gs_survey.specs.declared.error.Counted.{Counted}
use Rattle.gs_survey.specs.declared.error.Counted.TheVariants.{Instances, Nets, Pins}
use Rattle.gs_survey.specs.declared.error.LinkErr.{LinkErr}
use Rattle.gs_survey.specs.declared.error.LinkErr.TheVariants as errors
use Rattle.gs_sdc.specs.Terms.{Terms}
use Rattle.gs_sdc.specs.declared.constraints.DriverSpec.{DriverSpec}
use Rattle.gs_spef.specs.declared.wires.Wire.{Wire}
use Rattle.gs_verilog.specs.Circuit.{Circuit}
use Rattle.gs_verilog.specs.declared.parts.RawInst.{RawInst}

-- the refusal isn't want of memory
abbrev pub IsNoMem : Option LinkErr → Type 0
IsNoMem o = o ≡ Some errors.Mem → ⊥

unless_no : (b : Bool) (e : LinkErr) → (e ≡ errors.Mem → ⊥) → IsNoMem (cond b None (Some e))
unless_no true e h = λ is. absurd cc
unless_no false e h = λ is. h cc

where_no : (b : Bool) (e : LinkErr) → (e ≡ errors.Mem → ⊥) → IsNoMem (cond b (Some e) None)
where_no true e h = λ is. h cc
where_no false e h = λ is. absurd cc

or_no : (a b : Option LinkErr) → IsNoMem a → IsNoMem b → IsNoMem (or_else a b)
or_no None b h k = k
or_no (Some e) b h k = h

some_no : {A : Type 0} (f : A → Option LinkErr) → ((x : A) → IsNoMem (f x)) → (xs : List A) → IsNoMem (first_some f xs)
some_no f h [] = λ is. absurd cc
some_no f h (x ∷ xs) = or_no (f x) (first_some f xs) (h x) (some_no f h xs)

output_no : (c : Cell) (port : List ℕ) (pin : Option (List ℕ)) → IsNoMem (not_output c port pin)
output_no c port None = λ is. absurd cc
output_no c port (Some pin) = unless_no (bytes_eq pin (output_pin c).name) _ (λ is. absurd cc)

inst_no : (cells : List Cell) (insts : List RawInst) (drivers : List DriverSpec) → IsNoMem (inst_fault cells insts drivers)
inst_no cells insts drivers =
    or_no (first_some (unknown_cell cells) insts) _ (some_no (unknown_cell cells) (λ i. unless_no _ _ (λ is. absurd cc)) insts)
    (or_no (first_some (unknown_driving_cell cells) drivers) _ (some_no (unknown_driving_cell cells) (λ d. unless_no _ _ (λ is. absurd cc)) drivers)
    (or_no (first_some (unknown_pin cells) insts) _ (some_no (unknown_pin cells) (λ i. some_no (unknown_link (cell_of cells i) i) (λ k. unless_no _ _ (λ is. absurd cc)) i.links) insts)
    (or_no (first_some (unknown_driving_pin cells) drivers) _ (some_no (unknown_driving_pin cells) (λ d. output_no (cell_named cells d.cell) d.port d.pin) drivers)
    (some_no (open_pin cells) (λ i. some_no (open_at i) (λ p. unless_no _ _ (λ is. absurd cc)) (cell_of cells i).pins) insts))))

net_no : (cells : List Cell) (c : Circuit) → IsNoMem (net_fault cells c)
net_no cells c =
    or_no (first_some (two_drivers c.nets (driven cells c)) _) _ (some_no (two_drivers c.nets (driven cells c)) (λ n. where_no _ _ (λ is. absurd cc)) _)
    (some_no (undriven c.nets (driven cells c) (read cells c)) (λ n. where_no _ _ (λ is. absurd cc)) _)

port_no : (nets : List (List ℕ)) (ports : List ℕ) (name : List ℕ) → IsNoMem (unknown_port nets ports name)
port_no nets ports name = unless_no _ _ (λ is. absurd cc)

limit_no : (c : Circuit) (w : List Wire) (k : Terms) → IsNoMem (limit_fault c w k)
limit_no c w k =
    or_no (port_fault c k) _
    (or_no _ _ (some_no _ (λ x. port_no c.nets _ x) k.clock_ports)
    (or_no _ _ (some_no _ (λ v. port_no c.nets _ v.port) k.inputs)
    (or_no _ _ (some_no _ (λ v. port_no c.nets _ v.port) k.outputs)
    (or_no _ _ (some_no _ (λ v. port_no c.nets _ v.port) k.loads)
    (some_no _ (λ d. port_no c.nets _ d.port) k.drivers)))))
    (some_no (λ (x : Wire). unknown_net c.nets x.net) (λ x. unless_no _ _ (λ is. absurd cc)) w)

arc_no_by : (b : Bool) (c : Cell) → IsNoMem (cond b (first_some (no_arc_at c) (range_with_len 0 (output_place c.pins))) None)
arc_no_by true c = some_no (no_arc_at c) (λ p. unless_no _ _ (λ is. absurd cc)) (range_with_len 0 (output_place c.pins))
arc_no_by false c = λ is. absurd cc

many_no : (what : Counted) (limit count : ℕ) → IsNoMem (too_many what limit count)
many_no what limit count = unless_no (nat_lt count limit) (errors.TooMany what count) (λ is. absurd cc)

size_no : (cells : List Cell) (c : Circuit) (k : Terms) → IsNoMem (size_fault cells c k)
size_no cells c k =
    or_no (arc_fault cells c.insts k.drivers) _ (some_no (λ x. no_arc (cell_at cells x)) (λ x. arc_no_by (is_gate (cell_at cells x).kind) (cell_at cells x)) (used_cells cells c.insts k.drivers))
    (or_no (too_many Instances 2097152 (length c.insts)) _ (many_no Instances 2097152 (length c.insts))
    (or_no (too_many Nets 4194304 (length c.nets)) _ (many_no Nets 4194304 (length c.nets))
    (many_no Pins 8388608 (pin_count cells c.insts))))

pub fault_no : (c : Circuit) (l : Library) (w : List Wire) (k : Terms) → IsNoMem (first_fault c l w k)
fault_no c l w k =
    or_no (inst_fault l.cells c.insts k.drivers) _ (inst_no l.cells c.insts k.drivers)
    (or_no (net_fault l.cells c) _ (net_no l.cells c)
    (or_no (limit_fault c w k) _ (limit_no c w k)
    (size_no l.cells c k)))
