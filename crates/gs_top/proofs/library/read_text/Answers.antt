use Rattle.std.proofs.Common.{refl}
use Rattle.gs_libtree.specs.Refusal.{IsLiberty, HasCause}
use Rattle.gs_libtree.specs.declared.error.LibTextErr.TheVariants.{Mem}
use Rattle.gs_top.specs.Refusal.{tree_status}
use Rattle.gs_top.proofs.Readers.{read_ok, read_err, tree_split}
use Rattle.gs_top.proofs.library.read_text.Goals as goal

pub returns-in-Ok : goal.returns-in-Ok
returns-in-Ok c =
    read_ok Mem tree_status (IsLiberty c.args.bytes.now) (HasCause c.args.bytes.now) c.in-Ok.root c.in-Ok.ensures.ok c.in-Ok.ensures.only c.in-Ok.ensures.exact

pub returns-in-Err : goal.returns-in-Err
returns-in-Err c =
    read_err Mem tree_status (IsLiberty c.args.bytes.now) (HasCause c.args.bytes.now) c.in-Err.error c.tree_status.result c.tree_status.ensures c.in-Err.ensures.exact refl (tree_split c.in-Err.error) c.in-Err.ensures.err c.in-Err.ensures.only
