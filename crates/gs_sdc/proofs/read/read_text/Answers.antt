use Rattle.gs_sdc.proofs.Answering.{answers_pieces}
use Rattle.gs_sdc.proofs.read.read_text.Goals as goal

pub returns-in-Ok : goal.returns-in-Ok
returns-in-Ok c = answers_pieces c.args.units c.args.bytes.now c.line_count.result c.in-Ok.found.items c.as_slice.result.now c.read_pieces.result c.in-Ok.ensures.exact c.as_slice.ensures.value c.line_count.ensures c.read_pieces.ensures
