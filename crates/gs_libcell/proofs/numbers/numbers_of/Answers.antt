use Rattle.std.proofs.Common.{◌≡◌, ◌∙◌, ap, sym, Some, None, List, ℕ, ℤ, Option, map, drop, Bool, if◌then◌else◌, refl}
use Rattle.std.specs.List.{flat_map}
use Rattle.gs_libcell.specs.Number.{gather, number_of}
use Rattle.gs_libcell.specs.Text.{entries_of}
use Rattle.gs_libcell.proofs.Texts.{gather_texts, onto_gathered}
use Rattle.gs_libcell.proofs.numbers.numbers_of.Goals as goal

pub returns-then-not-all : goal.returns-then-not-all
returns-then-not-all c =
    let f = number_of c.args.tens in
    let i = c.loop-text.text-index in
    let cut : gather c.loop-text.numbers.items (map f (entries_of c.text-item.result)) ≡ None =
    ap (λ t. gather c.loop-text.numbers.items (map f (entries_of t))) (sym c.as_bytes.ensures)
    ∙ c.in_ok-all.ensures ∙ ap (λ (b : Bool). if b then Some c.push_text.new.numbers.items else None) c.if-not-all.true in
    let whole = gather_texts f entries_of c.args.texts.now i c.text-item.result c.loop-text.numbers.items None c.loop-text-test.true
    (ap (λ t. gather c.loop-text.numbers.items (map f (entries_of t))) (sym c.text-item.is) ∙ cut) in
    sym whole ∙ c.loop-text.invariant

pub loop-text-preserved : goal.loop-text-preserved
loop-text-preserved c =
    let f = number_of c.args.tens in
    let i = c.loop-text.text-index in
    let cut : gather c.loop-text.numbers.items (map f (entries_of c.text-item.result)) ≡ Some c.push_text.new.numbers.items =
    ap (λ t. gather c.loop-text.numbers.items (map f (entries_of t))) (sym c.as_bytes.ensures)
    ∙ c.in_ok-all.ensures ∙ ap (λ (b : Bool). if b then Some c.push_text.new.numbers.items else None) c.if-not-all.false in
    let whole = gather_texts f entries_of c.args.texts.now i c.text-item.result c.loop-text.numbers.items (Some c.push_text.new.numbers.items) c.loop-text-test.true
    (ap (λ t. gather c.loop-text.numbers.items (map f (entries_of t))) (sym c.text-item.is) ∙ cut) in
    sym whole ∙ c.loop-text.invariant
