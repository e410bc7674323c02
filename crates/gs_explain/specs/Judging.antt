-- What the answer of a reader says of a piece.
use Rattle.std.specs.Prelude.{ℕ, Bool, true, false, ◌==◌, Option, Some, None}
use Rattle.gs_libtree.specs.declared.error.LibTextErr.{LibTextErr}
use Rattle.gs_libtree.specs.declared.error.LibTextErr.TheVariants as lib_err
use Rattle.gs_verilog.specs.declared.error.VerilogErr.{VerilogErr}
use Rattle.gs_verilog.specs.declared.error.VerilogErr.TheVariants as verilog_err

-- the answer says whether this holds
abbrev pub Decides : Type 0 → Bool → Type 0
Decides P true = P
Decides P false = P → ⊥

-- whether the refusal is that of this piece as a bad one; want of memory says nothing
abbrev pub verilog_judged : VerilogErr → ℕ → Option Bool
verilog_judged (verilog_err.BadPiece bad) i = Some (bad == i)
verilog_judged verilog_err.Mem i = None
verilog_judged (verilog_err.OpenComment at) i = Some false
verilog_judged (verilog_err.TwoNames at) i = Some false
verilog_judged (verilog_err.NoEnd at) i = Some false

abbrev pub liberty_judged : LibTextErr → ℕ → Option Bool
liberty_judged (lib_err.BadPiece bad) i = Some (bad == i)
liberty_judged lib_err.Mem i = None
liberty_judged (lib_err.OpenString at) i = Some false
liberty_judged (lib_err.OpenComment at) i = Some false
liberty_judged (lib_err.TooDeep at) i = Some false
