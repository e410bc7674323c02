-- The ports that constraints name, and the nets that wires are of.

use Rattle.std.specs.Prelude.{ℕ, List, ◌++◌, length, nat_lt, Option, None, Some, if◌then◌else◌}
use Rattle.gs_survey.specs.First.{first_some, or_else}
use Rattle.gs_survey.specs.Numbers.{is_one_of, net_number}
use Rattle.gs_survey.specs.Uses.{input_ports, output_ports}
use Rattle.gs_survey.specs.declared.error.LinkErr.{LinkErr}
use Rattle.gs_survey.specs.declared.error.LinkErr.TheVariants as errors
use Rattle.gs_sdc.specs.Terms.{Terms}
use Rattle.gs_spef.specs.declared.wires.Wire.{Wire}
use Rattle.gs_verilog.specs.Circuit.{Circuit}

-- The name is none of these ports.
abbrev pub unknown_port : (nets : List (List ℕ)) → (ports : List ℕ) → (name : List ℕ) → Option LinkErr
unknown_port nets ports name = if is_one_of ports (net_number nets name) then None else Some (errors.UnknownPort name)

-- The wire is of no net.
abbrev pub unknown_net : (nets : List (List ℕ)) → (name : List ℕ) → Option LinkErr
unknown_net nets name = if nat_lt (net_number nets name) (length nets) then None else Some (errors.UnknownNet name)

-- The first refusal of constraints: clocks and input delays are of input ports, output delays of output ports, loads and driving cells
-- of ports.
abbrev pub port_fault : Circuit → Terms → Option LinkErr
port_fault c k =
    or_else (first_some (unknown_port c.nets (input_ports c.ports)) k.clock_ports)
    (or_else (first_some (λ v. unknown_port c.nets (input_ports c.ports) v.port) k.inputs)
    (or_else (first_some (λ v. unknown_port c.nets (output_ports c.ports) v.port) k.outputs)
    (or_else (first_some (λ v. unknown_port c.nets (input_ports c.ports ++ output_ports c.ports) v.port) k.loads)
    (first_some (λ d. unknown_port c.nets (input_ports c.ports ++ output_ports c.ports) d.port) k.drivers))))

-- The first refusal of constraints, and then of wires.
abbrev pub limit_fault : Circuit → List Wire → Terms → Option LinkErr
limit_fault c w k = or_else (port_fault c k) (first_some (λ x. unknown_net c.nets x.net) w)
