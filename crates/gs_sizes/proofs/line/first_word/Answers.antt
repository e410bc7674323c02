use Rattle.std.proofs.Common.{◌≢◌, drop, take, ◌∷◌, sym, ◌∙◌, ap}
use Rattle.std.proofs.lemmas.List.{take_rest}
use Rattle.gs_sizes.specs.Lines.{runs}
use Rattle.gs_sizes.proofs.Texts.{no_word, one_word, to_blank}
use Rattle.gs_sizes.proofs.line.first_word.Goals as goal

pub returns-then-len-eq0 : goal.returns-then-len-eq0
returns-then-len-eq0 c = no_word c.args.bytes.now (ap to_blank (sym c.after_blanks-rest.ensures) ∙ sym c.word_len-len.ensures.value ∙ c.if-len-eq0.true)

pub returns-else-len-eq0 : goal.returns-else-len-eq0
returns-else-len-eq0 c =
    let rest = c.after_blanks-rest.result.now in
    let some : to_blank c.after_blanks-rest.result.now ≢ 0 = λ e. c.if-len-eq0.false (c.word_len-len.ensures.value ∙ e) in
    rw (take_rest c.after_blanks-rest.result.now c.word_len-len.result)
    (one_word c.args.bytes.now rest c.after_blanks-rest.ensures some ∙ ap (λ n. take n rest ∷ runs (drop n rest)) (sym c.word_len-len.ensures.value))
