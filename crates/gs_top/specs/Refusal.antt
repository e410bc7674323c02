-- The refusals of the calls below as statuses: of a fetch, of the readers and of the link.
use Rattle.gs_lib.specs.declared.error.LibErr.{LibErr}
use Rattle.gs_lib.specs.declared.error.LibErr.TheVariants as lib
use Rattle.gs_libtree.specs.declared.error.LibTextErr.{LibTextErr}
use Rattle.gs_libtree.specs.declared.error.LibTextErr.TheVariants as tree
use Rattle.gs_survey.specs.declared.error.LinkErr.{LinkErr}
use Rattle.gs_survey.specs.declared.error.LinkErr.TheVariants as link
use Rattle.gs_sdc.specs.declared.error.SdcErr.{SdcErr}
use Rattle.gs_sdc.specs.declared.error.SdcErr.TheVariants as sdc
use Rattle.gs_shelf.specs.declared.whole.FetchErr.{FetchErr}
use Rattle.gs_shelf.specs.declared.whole.FetchErr.TheVariants as fetch
use Rattle.gs_sizes.specs.declared.error.SizesErr.{SizesErr}
use Rattle.gs_sizes.specs.declared.error.SizesErr.TheVariants as sizes
use Rattle.gs_spef.specs.declared.error.SpefErr.{SpefErr}
use Rattle.gs_spef.specs.declared.error.SpefErr.TheVariants as spef
use Rattle.gs_verilog.specs.declared.error.VerilogErr.{VerilogErr}
use Rattle.gs_verilog.specs.declared.error.VerilogErr.TheVariants as verilog
use Rattle.gs_top.specs.declared.status.Input.{Input}
use Rattle.gs_top.specs.declared.status.Input.TheVariants.{Lib, Verilog, Spef, Sdc, From}
use Rattle.gs_top.specs.declared.status.TextWhy.TheVariants.{OpenString, OpenComment, TooDeep, BadPiece, TwoNames, NoEnd, BadLine, Distributed, UnknownIndex, TwoNets, NotBuilt, TwoClocks, TwoValues, NoClock, Unknown, Twice, WrongCell, Absent}
use Rattle.gs_top.specs.declared.status.Status.{Status}
use Rattle.gs_top.specs.declared.status.Status.TheVariants.{ReadFault, TooLarge, BadText, BadLibrary, BadDesign, OutOfMemory}

-- of a library's text
abbrev pub tree_status : LibTextErr → Status
tree_status (tree.OpenString at) = BadText Lib OpenString at
tree_status (tree.OpenComment at) = BadText Lib OpenComment at
tree_status (tree.TooDeep i) = BadText Lib TooDeep i
tree_status (tree.BadPiece i) = BadText Lib BadPiece i
tree_status tree.Mem = OutOfMemory

-- of a library
abbrev pub lib_status : LibErr → Status
lib_status (lib.Missing cell what) = BadLibrary (lib.Missing cell what)
lib_status lib.NoUnit = BadLibrary lib.NoUnit
lib_status lib.BadUnit = BadLibrary lib.BadUnit
lib_status (lib.TwoCells name) = BadLibrary (lib.TwoCells name)
lib_status (lib.BadNumber cell) = BadLibrary (lib.BadNumber cell)
lib_status (lib.BadTable cell i) = BadLibrary (lib.BadTable cell i)
lib_status lib.TooMany = BadLibrary lib.TooMany
lib_status lib.Mem = OutOfMemory

-- of a netlist's text
abbrev pub verilog_status : VerilogErr → Status
verilog_status (verilog.OpenComment at) = BadText Verilog OpenComment at
verilog_status (verilog.BadPiece i) = BadText Verilog BadPiece i
verilog_status (verilog.TwoNames i) = BadText Verilog TwoNames i
verilog_status (verilog.NoEnd i) = BadText Verilog NoEnd i
verilog_status verilog.Mem = OutOfMemory

-- of a SPEF text
abbrev pub spef_status : SpefErr → Status
spef_status (spef.BadLine i) = BadText Spef BadLine i
spef_status (spef.Distributed i) = BadText Spef Distributed i
spef_status (spef.UnknownIndex i) = BadText Spef UnknownIndex i
spef_status (spef.TwoNets i) = BadText Spef TwoNets i
spef_status spef.Mem = OutOfMemory

-- of an SDC text
abbrev pub sdc_status : SdcErr → Status
sdc_status (sdc.NotBuilt i) = BadText Sdc NotBuilt i
sdc_status (sdc.BadLine i) = BadText Sdc BadLine i
sdc_status (sdc.TwoClocks i) = BadText Sdc TwoClocks i
sdc_status (sdc.TwoValues i) = BadText Sdc TwoValues i
sdc_status (sdc.NoClock i) = BadText Sdc NoClock i
sdc_status sdc.Mem = OutOfMemory

-- of the four files together
abbrev pub link_status : LinkErr → Status
link_status (link.UnknownCell by) = BadDesign (link.UnknownCell by)
link_status (link.UnknownPin by pin) = BadDesign (link.UnknownPin by pin)
link_status (link.OpenPin inst pin) = BadDesign (link.OpenPin inst pin)
link_status (link.TwoDrivers net) = BadDesign (link.TwoDrivers net)
link_status (link.Undriven net) = BadDesign (link.Undriven net)
link_status (link.UnknownPort name) = BadDesign (link.UnknownPort name)
link_status (link.UnknownNet name) = BadDesign (link.UnknownNet name)
link_status (link.NoArc cell pin) = BadDesign (link.NoArc cell pin)
link_status (link.TooMany what count) = BadDesign (link.TooMany what count)
link_status (link.Loop cycle) = BadDesign (link.Loop cycle)
link_status link.Mem = OutOfMemory

-- of a text of sizes
abbrev pub sizes_status : SizesErr → Status
sizes_status (sizes.BadLine i) = BadText From BadLine i
sizes_status (sizes.Unknown i) = BadText From Unknown i
sizes_status (sizes.Twice i) = BadText From Twice i
sizes_status (sizes.WrongCell i) = BadText From WrongCell i
sizes_status (sizes.Absent name i) = BadText From Absent i
sizes_status sizes.Mem = OutOfMemory

-- why a file was not fetched
abbrev pub fetch_status : Input → FetchErr → Status
fetch_status file fetch.Failed = ReadFault file
fetch_status file fetch.TooLarge = TooLarge file
fetch_status file fetch.Mem = OutOfMemory
