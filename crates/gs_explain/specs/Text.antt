-- What is said of each reason for which a text is refused, and where it is shown.
use Rattle.std.specs.Prelude.{ℕ, List, codes}
use Rattle.gs_top.specs.declared.status.Input.{Input}
use Rattle.gs_top.specs.declared.status.Input.TheVariants.{Lib, Verilog, Spef, Sdc, From}
use Rattle.gs_top.specs.declared.status.TextWhy.{TextWhy}
use Rattle.gs_top.specs.declared.status.TextWhy.TheVariants.{OpenString, OpenComment, TooDeep, BadPiece, TwoNames, NoEnd, BadLine, Distributed, UnknownIndex, TwoNets, NotBuilt, TwoClocks, TwoValues, NoClock, Unknown, Twice, WrongCell, Absent}
use Rattle.gs_explain.specs.declared.form.Form.{Form}
use Rattle.gs_explain.specs.declared.form.Form.TheVariants.{Netlist, Liberty}
use Rattle.gs_explain.specs.declared.spot.Spot.{Spot}
use Rattle.gs_explain.specs.declared.spot.Spot.TheVariants.{AtByte, AtLine, AtPiece, Wrong, Nowhere}

-- netlists and libraries alone are read piece by piece
abbrev pub form_of : Input → Form
form_of Verilog = Netlist
form_of Lib = Liberty
form_of Spef = Liberty
form_of Sdc = Liberty
form_of From = Liberty

-- what the number in the refusal counts: bytes, pieces or lines
abbrev pub spot_of : Input → TextWhy → (place : ℕ) → Spot
spot_of file OpenString place = AtByte place
spot_of file OpenComment place = AtByte place
spot_of file TooDeep place = AtPiece (form_of file) place
spot_of file TwoNames place = AtPiece (form_of file) place
spot_of file BadPiece place = Wrong (form_of file) place
spot_of file NoEnd place = Wrong (form_of file) place
spot_of file NoClock place = Nowhere
spot_of file Absent place = Nowhere
spot_of file BadLine place = AtLine place
spot_of file Distributed place = AtLine place
spot_of file UnknownIndex place = AtLine place
spot_of file TwoNets place = AtLine place
spot_of file NotBuilt place = AtLine place
spot_of file TwoClocks place = AtLine place
spot_of file TwoValues place = AtLine place
spot_of file Unknown place = AtLine place
spot_of file Twice place = AtLine place
spot_of file WrongCell place = AtLine place

-- of a line that is not of its form
abbrev pub line_text : Input → List ℕ
line_text Spef = codes "this line has none of the forms of SPEF that are read"
line_text Sdc = codes "this command, or a number in it, has none of the forms that are read"
line_text From = codes "a line of sizes is the name of an instance and the name of its cell"
line_text Lib = codes "this line is not of its form"
line_text Verilog = codes "this line is not of its form"

-- Of a piece it is said after the piece. Where a wrong piece or an early end can be shown, what is wanted there is said in place of this.
abbrev pub why_text : Input → TextWhy → List ℕ
why_text file OpenString = codes "this string has no end"
why_text file OpenComment = codes "this comment has no end"
why_text file TooDeep = codes "opens a group that is more than 64 deep"
why_text file BadPiece = codes "the text is not of its form"
why_text file TwoNames = codes "is declared or connected a second time"
why_text file NoEnd = codes "the text ends too early"
why_text file BadLine = line_text file
why_text file Distributed = codes "resistances are not read: a net has a total capacitance alone"
why_text file UnknownIndex = codes "no line before maps this index to a name"
why_text file TwoNets = codes "an earlier block is of the same net"
why_text file NotBuilt = codes "this command is not supported yet"
why_text file TwoClocks = codes "this command makes a second clock, and there may be one alone"
why_text file TwoValues = codes "this command gives a port a second value of the same kind"
why_text file NoClock = codes "no command makes a clock (create_clock)"
why_text file Unknown = codes "no instance has this name"
why_text file Twice = codes "an earlier line names the same instance"
why_text file WrongCell = codes "this cell may not take the instance's place"
why_text file Absent = codes "not each instance has a line"
