use Rattle.std.proofs.Common.{◌≡◌, ◌∙◌, sym, string_bytes}
use Rattle.gs_explain.proofs.WordLaws.{extra_word, same_text}
use Rattle.gs_explain.proofs.words.extra.Goals as goal

pub returns : goal.returns
returns c =
    same_text c.joined-2.result (λ v. v.items) (rw c.as_bytes.ensures.value at c.joined-2.ensures)
    (extra_word (string_bytes {Z = Rattle.std.proofs.Common.Global}) c.args.words.now c.index-words-0.result (sym c.is_empty.ensures ∙ c.if-is_empty.false) c.index-words-0.is)
