use Rattle.std.proofs.Common.{◌≡◌, ◌+◌, ◌<◌, min, length, get_or, ◌∙◌, arith}
use Rattle.std.proofs.lemmas.Grind.{get_or_default_zero}
use Rattle.std.proofs.lemmas.List.{length-set}
use Rattle.gs_survey.proofs.TallyLaws.{tally_more}
use Rattle.gs_survey.proofs.tally.counts_of.Goals as goal

pub loop-i-preserved : goal.loop-i-preserved
loop-i-preserved c =
    let counts = c.loop-i.counts.items in
    let place = get_or c.args.numbers.now c.loop-i.i 0 in
    let inside : place < length counts = omega (arith, c.requires c.loop-i.i 0 (omega arith), c.loop-i.invariant.many) in
    let old : c.index.result.now ≡ get_or counts place 0 = c.index.ensures ∙ get_or_default_zero counts place c.index.result.now inside in
    let new : c.saturating_add.result ≡ min 255 (get_or counts place 0 + 1) = omega (arith, old, c.saturating_add.ensures) in
    record {
      many = length-set counts place c.saturating_add.result ∙ c.loop-i.invariant.many;
      each = λ n. rw new (tally_more counts c.args.numbers.now c.loop-i.i (omega arith) inside c.loop-i.invariant.each n);
    }
