use Rattle.std.proofs.Common.{map, sym, ◌∙◌}
use Rattle.std.specs.Prelude.{string_bytes}
use Rattle.gs_top.proofs.Forms.{size_names}
use Rattle.gs_top.proofs.read.is_size.Goals as goal

pub returns-then-has_size_form : goal.returns-then-has_size_form
returns-then-has_size_form c = c.has_names.ensures ∙ size_names (map string_bytes c.args.words.now) (sym c.if-has_size_form.ensures)
