use Rattle.std.proofs.Common.{refl}
use Rattle.gs_drive.specs.declared.refusal.Refusal.{Refusal}
use Rattle.gs_grammar.proofs.Lawful.{renamed_lawful}
use Rattle.gs_text.specs.declared.kinds.Style.TheVariants.{Verilog}
use Rattle.gs_verilog.specs.Index.{refusal_of}
use Rattle.gs_verilog.specs.Refusal.{HasCause, IsVerilog}
use Rattle.gs_verilog.specs.declared.error.VerilogErr.{VerilogErr}
use Rattle.gs_verilog.proofs.Laws.{is_reader}
use Rattle.gs_verilog.proofs.Reading.{Causes, same_causes}
use Rattle.gs_verilog.proofs.law.each_text_is_decided.Goals as goal

pub each_text_is_decided-requires : goal.each_text_is_decided-requires
each_text_is_decided-requires c κs = ((refl, tt), is_reader)

pub returns : goal.returns
returns c bytes =
    renamed_lawful Refusal.Mem VerilogErr.Mem refusal_of (Causes bytes) (HasCause bytes) (same_causes bytes) (IsVerilog bytes) (c.each_text_is_decided.ensures Verilog bytes)
