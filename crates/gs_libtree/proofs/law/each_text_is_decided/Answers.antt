use Rattle.std.proofs.Common.{refl}
use Rattle.gs_drive.specs.declared.refusal.Refusal.{Refusal}
use Rattle.gs_grammar.proofs.Lawful.{renamed_lawful}
use Rattle.gs_text.specs.declared.kinds.Style.TheVariants.{Lib}
use Rattle.gs_libtree.specs.Reading.{refusal_of}
use Rattle.gs_libtree.specs.Refusal.{HasCause, IsLiberty}
use Rattle.gs_libtree.specs.declared.error.LibTextErr.{LibTextErr}
use Rattle.gs_libtree.proofs.Laws.{is_reader}
use Rattle.gs_libtree.proofs.Reading.{Causes, same_causes}
use Rattle.gs_libtree.proofs.law.each_text_is_decided.Goals as goal

pub each_text_is_decided-requires : goal.each_text_is_decided-requires
each_text_is_decided-requires c κs = ((refl, tt), is_reader)

pub returns : goal.returns
returns c bytes =
    renamed_lawful Refusal.Mem LibTextErr.Mem refusal_of (Causes bytes) (HasCause bytes) (same_causes bytes) (IsLiberty bytes) (c.each_text_is_decided.ensures Lib bytes)
