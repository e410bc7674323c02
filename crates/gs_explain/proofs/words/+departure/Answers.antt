use Rattle.std.proofs.Common.{◌≡◌, ◌∙◌, sym, string_bytes, ◌==◌, length, true, false, Bor, List, ℕ}
use Rattle.gs_explain.proofs.WordLaws.{no_word, no_value, not_other, same_text}
use Rattle.gs_explain.proofs.words.+departure.Goals as goal

pub returns-then-is_empty-2 : goal.returns-then-is_empty-2
returns-then-is_empty-2 t c =
    let some : (length c.args.options.now == 0) ≡ false = sym c.is_empty.ensures ∙ c.if-is_empty.false in
    let none : (length c.args.words.now == 0) ≡ true = sym c.is_empty-2.ensures ∙ c.if-is_empty-2.true in
    same_text c.joined.result (λ v. v.items) (rw c.as_bytes.ensures.value at c.joined.ensures)
    (no_word (λ (o : Bor (List ℕ)). o.now) (string_bytes {Z = Rattle.std.proofs.Common.Global}) c.args.options.now c.args.words.now _ some none)

pub returns-then-words-lt2 : goal.returns-then-words-lt2
returns-then-words-lt2 t c =
    let some : (length c.args.options.now == 0) ≡ false = sym c.is_empty.ensures ∙ c.if-is_empty.false in
    let more : (length c.args.words.now == 0) ≡ false = sym c.is_empty-2.ensures ∙ c.if-is_empty-2.false in
    let same = rw (c.as_str.ensures.value, c.index-words-0.is) at (not_other _ (sym c.ne.ensures ∙ c.if-ne.false)) in
    same_text c.joined-then-words-lt2.result (λ v. v.items) (rw c.as_bytes-then-words-lt2.ensures.value at c.joined-then-words-lt2.ensures)
    (no_value (λ (o : Bor (List ℕ)). o.now) (string_bytes {Z = Rattle.std.proofs.Common.Global}) c.args.options.now c.args.words.now _ c.index-words-0.result some more same c.if-words-lt2.true)
