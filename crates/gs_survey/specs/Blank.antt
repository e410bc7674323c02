-- What stands for an instance and a driving cell past the end of a list. No public clause names this.

use Rattle.std.specs.Prelude.{[], None, pos}
use Rattle.gs_sdc.specs.declared.constraints.DriverSpec.{DriverSpec}
use Rattle.gs_verilog.specs.declared.parts.Link.{Link}
use Rattle.gs_verilog.specs.declared.parts.RawInst.{RawInst}

abbrev pub no_inst : RawInst
no_inst = record { name = []; cell = []; links = [] }

abbrev pub no_driver : DriverSpec
no_driver = record { port = []; cell = []; pin = None; rise = pos 0; fall = pos 0 }

abbrev pub no_link : Link
no_link = record { pin = []; net = 0 }
