-- The nets that a netlist connects are places in its list of nets.

use Rattle.std.proofs.Common.{◌≡◌, ℕ, zero, suc, ◌<◌, ◌≤◌, Bool, true, false, cond, List, [], ◌∷◌, ◌++◌, ◌||◌, None, All, length, get_or, min, map, arith}
use Rattle.std.proofs.lemmas.List.{get_or-take, length-take}
use Rattle.std.proofs.lemmas.List.Elements.{All-append, All-map}
use Rattle.std.specs.List.{AllByRecursion, filter, flat_map}
use Rattle.std.specs.Str.{bytes_eq}
use Rattle.gs_design.specs.Cell.{no_pin, output_place}
use Rattle.gs_design.specs.Load.{output_pin}
use Rattle.gs_design.specs.declared.cell.Cell.{Cell}
use Rattle.gs_design.specs.declared.pin.CellPin.{CellPin}
use Rattle.gs_survey.proofs.First.{none_at}
use Rattle.gs_survey.proofs.FoundLaws.{passes}
use Rattle.gs_survey.specs.First.{first_some}
use Rattle.gs_survey.specs.Instances.{cell_of, is_connected, open_at, open_pin}
use Rattle.gs_survey.specs.Uses.{all_input_nets, driven, input_nets, input_ports, inputs_of, is_input_port, is_output_port, net_at_pin, net_in, output_net, output_nets, output_ports, read}
use Rattle.gs_verilog.specs.Circuit.{Circuit, IsNetlist, LinksInside, port_net}
use Rattle.gs_verilog.specs.declared.parts.Link.{Link}
use Rattle.gs_verilog.specs.declared.parts.Port.{Port}
use Rattle.gs_verilog.specs.declared.parts.RawInst.{RawInst}

-- ---- the pins of one instance

net_in-lt : (links : List Link) (pin : List ℕ) (count : ℕ) → AllByRecursion (λ (k : Link). k.net < count) links → is_connected links pin ≡ true → net_in links pin < count
net_in-lt [] pin count all e = let never : false ≡ true = e in absurd cc
net_in-lt (k ∷ links) pin count all e = by_test (bytes_eq pin k.pin) (net_in-lt links pin count all.1) e
  where
    by_test : (b : Bool) → (is_connected links pin ≡ true → net_in links pin < count) → (b || is_connected links pin) ≡ true → cond b k.net (net_in links pin) < count
    by_test true later e = all.0
    by_test false later e = later e

module _ (count : ℕ) (i : RawInst) (c : Cell) (all : LinksInside count i) (none_open : first_some (open_at i) c.pins ≡ None) where
  pin_in : (p : ℕ) (d : CellPin) → p < length c.pins → net_at_pin i.links (get_or c.pins p d) < count
  pin_in p d lt = net_in-lt i.links _ count all (passes (is_connected i.links (get_or c.pins p d).name) _ (none_at (open_at i) c.pins p d none_open lt))

  output_in : net_at_pin i.links (output_pin c) < count
  output_in = let many : 2 ≤ length c.pins = c.well.some_inputs in pin_in (output_place c.pins) no_pin (omega arith)

  inputs_in : All (λ n. n < count) (map (net_at_pin i.links) (inputs_of c))
  inputs_in = All-map (λ n. n < count) (net_at_pin i.links) (inputs_of c) each
    where
      each : All (λ p. net_at_pin i.links p < count) (inputs_of c)
      each j d lt =
          let short : length (inputs_of c) ≡ min (output_place c.pins) (length c.pins) = length-take (output_place c.pins) c.pins in
          let before : j < output_place c.pins = omega (arith, lt, short) in
          rw (get_or-take (output_place c.pins) c.pins j d before) (pin_in j d (omega arith))

-- ---- all instances

insts_at : (count : ℕ) (insts : List RawInst) (g : ℕ) (d : RawInst) → AllByRecursion (LinksInside count) insts → g < length insts → LinksInside count (get_or insts g d)
insts_at count [] g d all lt = absurd (omega arith)
insts_at count (i ∷ insts) zero d all lt = all.0
insts_at count (i ∷ insts) (suc g) d all lt = insts_at count insts g d all.1 (omega arith)

flat_in : {X : Type 0} (count : ℕ) (f : X → List ℕ) (xs : List X) → ((g : ℕ) (e : X) → g < length xs → All (λ n. n < count) (f (get_or xs g e))) → All (λ n. n < count) (flat_map f xs)
flat_in count f [] h = λ k d lt. absurd (omega arith)
flat_in count f (x ∷ xs) h = All-append (λ n. n < count) (f x) (flat_map f xs) (h 0 x (omega arith)) (flat_in count f xs (λ g e lt. h (suc g) e (omega arith)))

module _ (cells : List Cell) (insts : List RawInst) (count : ℕ) (all : AllByRecursion (LinksInside count) insts) (none_open : first_some (open_pin cells) insts ≡ None) where
  pub outputs_in : All (λ n. n < count) (output_nets cells insts)
  outputs_in = All-map (λ n. n < count) (output_net cells) insts
      (λ g d lt. output_in count (get_or insts g d) (cell_of cells (get_or insts g d)) (insts_at count insts g d all lt) (none_at (open_pin cells) insts g d none_open lt))

  pub all_inputs_in : All (λ n. n < count) (all_input_nets cells insts)
  all_inputs_in = flat_in count (input_nets cells) insts
      (λ g d lt. inputs_in count (get_or insts g d) (cell_of cells (get_or insts g d)) (insts_at count insts g d all lt) (none_at (open_pin cells) insts g d none_open lt))

-- ---- ports

ports_in : (count : ℕ) (p : Port → Bool) (ports : List Port) → AllByRecursion (λ (x : Port). x.net < count) ports → All (λ n. n < count) (map port_net (filter p ports))
ports_in count p [] all = λ k d lt. absurd (omega arith)
ports_in count p (x ∷ ports) all = by_test (p x) (ports_in count p ports all.1)
  where
    first : All (λ n. n < count) (map port_net (filter p ports)) → All (λ n. n < count) (x.net ∷ map port_net (filter p ports))
    first rest zero d lt = all.0
    first rest (suc k) d lt = rest k d (omega arith)

    by_test : (b : Bool) → All (λ n. n < count) (map port_net (filter p ports)) → All (λ n. n < count) (map port_net (cond b (x ∷ filter p ports) (filter p ports)))
    by_test true rest = first rest
    by_test false rest = rest

-- ---- a netlist

module _ (c : Circuit) (is : IsNetlist c) where
  pub input_ports_in : All (λ n. n < length c.nets) (input_ports c.ports)
  input_ports_in = ports_in (length c.nets) is_input_port c.ports is.nets.ports

  pub output_ports_in : All (λ n. n < length c.nets) (output_ports c.ports)
  output_ports_in = ports_in (length c.nets) is_output_port c.ports is.nets.ports

  pub all_ports_in : All (λ n. n < length c.nets) (input_ports c.ports ++ output_ports c.ports)
  all_ports_in = All-append (λ n. n < length c.nets) (input_ports c.ports) (output_ports c.ports) input_ports_in output_ports_in

module _ (cells : List Cell) (c : Circuit) (is : IsNetlist c) (none_open : first_some (open_pin cells) c.insts ≡ None) where
  pub driven_in : All (λ n. n < length c.nets) (driven cells c)
  driven_in = All-append (λ n. n < length c.nets) (output_nets cells c.insts) (input_ports c.ports) (outputs_in cells c.insts (length c.nets) is.nets.links none_open) (input_ports_in c is)

  pub read_in : All (λ n. n < length c.nets) (read cells c)
  read_in = All-append (λ n. n < length c.nets) (all_input_nets cells c.insts) (output_ports c.ports) (all_inputs_in cells c.insts (length c.nets) is.nets.links none_open) (output_ports_in c is)
