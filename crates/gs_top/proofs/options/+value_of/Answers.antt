use Rattle.std.specs.Prelude.{string_bytes}
use Rattle.gs_top.proofs.Forms.{value_few}
use Rattle.gs_top.proofs.options.+value_of.Goals as goal

pub returns-then-words-lt2 : goal.returns-then-words-lt2
returns-then-words-lt2 t c = value_few c.args.option.now string_bytes c.args.words.now c.if-words-lt2.true
