use Rattle.std.proofs.Common.{◌∙◌, List, ap, sym, ◌+◌, map, take, drop, Option, Some}
use Rattle.std.proofs.lemmas.List.{take_rest}
use Rattle.gs_text.specs.declared.kinds.Piece.{Piece}
use Rattle.gs_sdc.specs.Front.{Found, Words}
use Rattle.gs_sdc.specs.Reads.{names_of}
use Rattle.gs_sdc.specs.Token.{token_of}
use Rattle.gs_sdc.proofs.Lists.{ends, goes_on}
use Rattle.gs_sdc.proofs.front.list_front.Goals as goal

pub loop-i-preserved : goal.loop-i-preserved
loop-i-preserved c = goes_on c.args.bytes.now c.args.pieces.now c.loop-i.i _ c.loop-i-test.true (sym c.in-Word.ensures) ∙ c.loop-i.invariant

pub returns-in-ClosesList-clause-value : goal.returns-in-ClosesList-clause-value
returns-in-ClosesList-clause-value c =
    let bytes = c.args.bytes.now in
    let ps = c.args.pieces.now in
    let i = c.loop-i.i in
    let found : List Piece → Option (Found Words) = λ qs. Some (record { item = names_of bytes (take i ps); rest = map (token_of bytes) qs }) in
    ap found (take_rest ps (i + 1)) ∙ sym (ends bytes ps i _ c.loop-i-test.true (sym c.in-ClosesList.ensures)) ∙ c.loop-i.invariant
