use Rattle.std.proofs.Common.{refl}
use Rattle.gs_lib.specs.Library.{HasCause, IsLibraryOf}
use Rattle.gs_lib.specs.declared.error.LibErr.TheVariants.{Mem}
use Rattle.gs_top.specs.Refusal.{lib_status}
use Rattle.gs_top.proofs.Readers.{read_ok, read_err, lib_split}
use Rattle.gs_top.proofs.library.read_cells.Goals as goal

pub returns-in-Ok : goal.returns-in-Ok
returns-in-Ok c =
    read_ok Mem lib_status (IsLibraryOf c.args.root.now) (HasCause c.args.root.now) c.in-Ok.library c.in-Ok.ensures.ok c.in-Ok.ensures.only c.in-Ok.ensures.exact

pub returns-in-Err : goal.returns-in-Err
returns-in-Err c =
    read_err Mem lib_status (IsLibraryOf c.args.root.now) (HasCause c.args.root.now) c.in-Err.error c.lib_status.result c.lib_status.ensures c.in-Err.ensures.exact refl (lib_split c.in-Err.error) c.in-Err.ensures.err c.in-Err.ensures.only
