use Rattle.std.proofs.Common.{refl, length, ◌≤◌}
use Rattle.gs_drive.specs.declared.refusal.Refusal.{Refusal}
use Rattle.gs_grammar.proofs.Answers.{renamed_ok, renamed_only, renamed_err, renamed_exact, renamed_refused, renamed_decided}
use Rattle.gs_text.specs.declared.kinds.TextErr.{TextErr}
use Rattle.gs_verilog.specs.Circuit.{Circuit}
use Rattle.gs_verilog.specs.Index.{refusal_of}
use Rattle.gs_verilog.specs.Refusal.{HasCause, IsVerilog}
use Rattle.gs_verilog.specs.declared.error.VerilogErr.{VerilogErr}
use Rattle.gs_verilog.proofs.Laws.{is_reader}
use Rattle.gs_verilog.proofs.Reading.{Causes, few_insts, same_causes}
use Rattle.gs_verilog.proofs.read.read_netlist.Goals as goal

pub drive-requires : goal.drive-requires
drive-requires c κs = ((refl, tt), (c.requires, is_reader))

pub returns-clause-ok : goal.returns-clause-ok
returns-clause-ok c =
    rw c.told.ensures (renamed_ok Refusal.Mem VerilogErr.Mem refusal_of (IsVerilog c.args.bytes.now) c.drive.result c.drive.ensures.ok)

pub returns-clause-only : goal.returns-clause-only
returns-clause-only c =
    rw c.told.ensures (renamed_only Refusal.Mem VerilogErr.Mem refusal_of (IsVerilog c.args.bytes.now) c.drive.result refl c.drive.ensures.only)

pub returns-clause-err : goal.returns-clause-err
returns-clause-err c =
    let bytes = c.args.bytes.now in
    rw c.told.ensures (renamed_err Refusal.Mem VerilogErr.Mem refusal_of (Causes bytes) (HasCause bytes) (same_causes bytes) c.drive.result c.drive.ensures.err)

pub returns-clause-exact : goal.returns-clause-exact
returns-clause-exact c =
    let bytes = c.args.bytes.now in
    rw c.told.ensures (renamed_exact Refusal.Mem VerilogErr.Mem refusal_of (Causes bytes) (HasCause bytes) (same_causes bytes) c.drive.result c.drive.ensures.exact)

pub returns-clause-told : goal.returns-clause-told
returns-clause-told c = λ at fault.
    rw c.told.ensures (renamed_refused Refusal.Mem VerilogErr.Mem refusal_of (Refusal.Text (TextErr.OpenComment at)) c.drive.result (c.drive.ensures.told (TextErr.OpenComment at) fault))

pub returns-clause-decided : goal.returns-clause-decided
returns-clause-decided c =
    let bytes = c.args.bytes.now in
    renamed_decided {V = Circuit} Refusal.Mem VerilogErr.Mem refusal_of (Causes bytes) (HasCause bytes) (same_causes bytes) (IsVerilog bytes) c.drive.ensures.decided

pub returns-clause-few : goal.returns-clause-few
returns-clause-few c =
    let bytes = c.args.bytes.now in
    rw c.told.ensures (renamed_ok Refusal.Mem VerilogErr.Mem refusal_of (λ (n : Circuit). length n.insts ≤ length bytes) c.drive.result
    (few_insts bytes c.drive.result c.drive.ensures.ok c.drive.ensures.pieces))
