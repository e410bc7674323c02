use Rattle.std.proofs.Common.{refl, length, ◌≤◌}
use Rattle.gs_drive.specs.declared.refusal.Refusal.{Refusal}
use Rattle.gs_grammar.proofs.Answers.{renamed_ok, renamed_only, renamed_err, renamed_exact, renamed_refused, renamed_decided}
use Rattle.gs_text.specs.declared.kinds.TextErr.{TextErr}
use Rattle.gs_libtree.specs.Bytes.{bytes_of}
use Rattle.gs_libtree.specs.Reading.{refusal_of}
use Rattle.gs_libtree.specs.Refusal.{HasCause, IsLiberty}
use Rattle.gs_libtree.specs.declared.error.LibTextErr.{LibTextErr}
use Rattle.gs_libtree.specs.declared.tree.Node.{Node}
use Rattle.gs_libtree.proofs.Bytes.{read_small, smaller}
use Rattle.gs_libtree.proofs.Laws.{is_reader}
use Rattle.gs_libtree.proofs.Reading.{Causes, same_causes}
use Rattle.gs_libtree.proofs.read.read_tree.Goals as goal

pub drive-requires : goal.drive-requires
drive-requires c κs = ((refl, tt), (c.requires, is_reader))

pub told-requires : goal.told-requires
told-requires c =
    let bytes = c.args.bytes.now in
    smaller (length bytes) _ c.drive.result c.requires (read_small bytes c.drive.result c.drive.ensures.ok c.drive.ensures.pieces)

pub returns-clause-ok : goal.returns-clause-ok
returns-clause-ok c =
    rw c.told.ensures (renamed_ok Refusal.Mem LibTextErr.Mem refusal_of (IsLiberty c.args.bytes.now) c.drive.result c.drive.ensures.ok)

pub returns-clause-only : goal.returns-clause-only
returns-clause-only c =
    rw c.told.ensures (renamed_only Refusal.Mem LibTextErr.Mem refusal_of (IsLiberty c.args.bytes.now) c.drive.result refl c.drive.ensures.only)

pub returns-clause-err : goal.returns-clause-err
returns-clause-err c =
    let bytes = c.args.bytes.now in
    rw c.told.ensures (renamed_err Refusal.Mem LibTextErr.Mem refusal_of (Causes bytes) (HasCause bytes) (same_causes bytes) c.drive.result c.drive.ensures.err)

pub returns-clause-exact : goal.returns-clause-exact
returns-clause-exact c =
    let bytes = c.args.bytes.now in
    rw c.told.ensures (renamed_exact Refusal.Mem LibTextErr.Mem refusal_of (Causes bytes) (HasCause bytes) (same_causes bytes) c.drive.result c.drive.ensures.exact)

pub returns-clause-string : goal.returns-clause-string
returns-clause-string c = λ at fault.
    rw c.told.ensures (renamed_refused Refusal.Mem LibTextErr.Mem refusal_of (Refusal.Text (TextErr.OpenString at)) c.drive.result (c.drive.ensures.told (TextErr.OpenString at) fault))

pub returns-clause-comment : goal.returns-clause-comment
returns-clause-comment c = λ at fault.
    rw c.told.ensures (renamed_refused Refusal.Mem LibTextErr.Mem refusal_of (Refusal.Text (TextErr.OpenComment at)) c.drive.result (c.drive.ensures.told (TextErr.OpenComment at) fault))

pub returns-clause-decided : goal.returns-clause-decided
returns-clause-decided c =
    let bytes = c.args.bytes.now in
    renamed_decided {V = Node} Refusal.Mem LibTextErr.Mem refusal_of (Causes bytes) (HasCause bytes) (same_causes bytes) (IsLiberty bytes) c.drive.ensures.decided

pub returns-clause-small : goal.returns-clause-small
returns-clause-small c =
    let bytes = c.args.bytes.now in
    rw c.told.ensures (renamed_ok Refusal.Mem LibTextErr.Mem refusal_of (λ (g : Node). bytes_of g ≤ length bytes) c.drive.result
    (read_small bytes c.drive.result c.drive.ensures.ok c.drive.ensures.pieces))
