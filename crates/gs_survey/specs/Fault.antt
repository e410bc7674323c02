-- The first refusal of four parsed files.

use Rattle.std.specs.Prelude.{List, Option}
use Rattle.gs_design.specs.declared.library.Library.{Library}
use Rattle.gs_sdc.specs.Terms.{Terms}
use Rattle.gs_spef.specs.declared.wires.Wire.{Wire}
use Rattle.gs_survey.specs.Counts.{size_fault}
use Rattle.gs_survey.specs.First.{or_else}
use Rattle.gs_survey.specs.Instances.{inst_fault}
use Rattle.gs_survey.specs.Limits.{limit_fault}
use Rattle.gs_survey.specs.Uses.{net_fault}
use Rattle.gs_survey.specs.declared.error.LinkErr.{LinkErr}
use Rattle.gs_verilog.specs.Circuit.{Circuit}

-- The first refusal but a cycle: all of the netlist, then constraints and wires, then what is used and how much there is.
abbrev pub first_fault : Circuit → Library → List Wire → Terms → Option LinkErr
first_fault c l w k =
    or_else (inst_fault l.cells c.insts k.drivers)
    (or_else (net_fault l.cells c)
    (or_else (limit_fault c w k)
    (size_fault l.cells c k)))
