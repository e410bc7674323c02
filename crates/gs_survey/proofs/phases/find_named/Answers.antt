use Rattle.std.proofs.Common.{◌∙◌}
use Rattle.gs_survey.proofs.First.{all_pass}
use Rattle.gs_survey.proofs.phases.find_named.Goals as goal

pub returns-in-Ok-find_wires-clause-fault : goal.returns-in-Ok-find_wires-clause-fault
returns-in-Ok-find_wires-clause-fault c =
    all_pass
    (rw (c.nets-nets.ensures, c.requires.inputs, c.clock_ports.ensures) at c.in-Ok.ensures.fault)
    (rw (c.nets-nets.ensures, c.requires.inputs, c.inputs.ensures) at c.in-Ok-find_ports.ensures.fault)
    (rw (c.nets-nets.ensures, c.requires.outputs, c.outputs.ensures) at c.in-Ok-find_ports-2.ensures.fault)
    (rw (c.nets-nets.ensures, c.requires.ports, c.loads.ensures) at c.in-Ok-find_ports-3.ensures.fault)
    (rw (c.nets-nets.ensures, c.requires.ports, c.drivers.ensures) at c.in-Ok-find_ports-4.ensures.fault)
    ∙ rw (c.nets-nets.ensures, c.as_slice.ensures.value) at c.in-Ok-find_wires.ensures.fault

pub returns-in-Err-find_wires-clause-fault : goal.returns-in-Err-find_wires-clause-fault
returns-in-Err-find_wires-clause-fault c = λ ne.
    all_pass
    (rw (c.nets-nets.ensures, c.requires.inputs, c.clock_ports.ensures) at c.in-Ok.ensures.fault)
    (rw (c.nets-nets.ensures, c.requires.inputs, c.inputs.ensures) at c.in-Ok-find_ports.ensures.fault)
    (rw (c.nets-nets.ensures, c.requires.outputs, c.outputs.ensures) at c.in-Ok-find_ports-2.ensures.fault)
    (rw (c.nets-nets.ensures, c.requires.ports, c.loads.ensures) at c.in-Ok-find_ports-3.ensures.fault)
    (rw (c.nets-nets.ensures, c.requires.ports, c.drivers.ensures) at c.in-Ok-find_ports-4.ensures.fault)
    ∙ rw (c.nets-nets.ensures, c.as_slice.ensures.value) at (c.in-Err-find_wires.ensures.fault ne)
