-- What begins at a byte, by the rules of each style.
use Rattle.std.specs.Prelude.{ℕ, ◌+◌, ◌<◌, ◌≤◌, Bool, List}
use Rattle.gs_text.specs.Liberty.{liberty_front}
use Rattle.gs_text.specs.Pieces.{opening_len, closing_len}
use Rattle.gs_text.specs.Sdc.{sdc_front}
use Rattle.gs_text.specs.Spef.{spef_front}
use Rattle.gs_text.specs.Verilog.{verilog_front}
use Rattle.gs_text.specs.declared.kinds.Style.{Style}
use Rattle.gs_text.specs.declared.kinds.Style.TheVariants.{Verilog, Lib, Spef, Sdc}
use Rattle.gs_text.specs.declared.scan.Front.{Front}
use Rattle.gs_text.specs.declared.scan.Front.TheVariants.{Gap, Found, Passed, OpenString, OpenComment}

-- what begins with the byte c before cs: braces are open there or not, and its command has a piece before or none
abbrev pub front : Style → (braced begun : Bool) → ℕ → List ℕ → Front
front Verilog braced begun c cs = verilog_front c cs
front Lib braced begun c cs = liberty_front c cs
front Spef braced begun c cs = spef_front c cs
front Sdc braced begun c cs = sdc_front braced begun c cs

-- a piece that is found has a byte and room for its quotes, and takes at most so many; a comment takes at most so many too
abbrev pub FitsIn : ℕ → Front → Type 0
FitsIn n Gap = Unit {0}
FitsIn n (Found kind len) = (opening_len kind + closing_len kind ≤ len) × (0 < len) × (len ≤ n)
FitsIn n (Passed len) = (0 < len) × (len ≤ n)
FitsIn n OpenString = Unit {0}
FitsIn n OpenComment = Unit {0}
