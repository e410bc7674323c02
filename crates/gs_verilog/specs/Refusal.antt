-- Why a text is no netlist.

use Rattle.std.specs.Prelude.{ℕ, List}
use Rattle.gs_drive.specs.Cause.{Reads}
use Rattle.gs_drive.specs.Tokens.{OfTokens}
use Rattle.gs_grammar.specs.Fronts.{IsFirstBad, IsFirstBroken, EndsEarly}
use Rattle.gs_text.specs.Faults.{HasFault}
use Rattle.gs_text.specs.declared.kinds.Style.TheVariants.{Verilog}
use Rattle.gs_text.specs.declared.kinds.TextErr.{TextErr}
use Rattle.gs_verilog.specs.Circuit.{Circuit}
use Rattle.gs_verilog.specs.Text.{VerilogText, IsText}
use Rattle.gs_verilog.specs.Token.{tokens}
use Rattle.gs_verilog.specs.Tree.{IsForm}
use Rattle.gs_verilog.specs.declared.error.VerilogErr.{VerilogErr}
use Rattle.gs_verilog.specs.declared.error.VerilogErr.TheVariants.{OpenComment, BadPiece, TwoNames, NoEnd, Mem}

-- the bytes are a netlist that stands for this circuit
abbrev pub IsVerilog : List ℕ → Circuit → Type 0
IsVerilog bytes c = Reads VerilogText (tokens bytes) c

-- the cause of each refusal: a comment without an end, or a place among the text's pieces
abbrev pub HasCause : List ℕ → VerilogErr → Type 0
HasCause bytes (OpenComment at) = HasFault Verilog bytes (TextErr.OpenComment at)
HasCause bytes (BadPiece i) = OfTokens (tokens bytes) (λ ts. IsFirstBad IsForm IsText ts i)
HasCause bytes (TwoNames i) = OfTokens (tokens bytes) (λ ts. IsFirstBroken IsForm IsText ts i)
HasCause bytes (NoEnd i) = OfTokens (tokens bytes) (λ ts. EndsEarly IsText ts i)
HasCause bytes Mem = Unit {0}
