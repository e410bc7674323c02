use Rattle.std.proofs.Common.{◌≡◌, ◌-◌, ap, sym, ◌∙◌, arith}
use Rattle.std.proofs.lemmas.Iterator.Adapters.{position_from-zero}
use Rattle.std.specs.Str.{bytes_eq}
use Rattle.gs_names.specs.Names.{find}
use Rattle.gs_survey.proofs.Places.{found_before}
use Rattle.gs_survey.proofs.names.Places.new.Goals as goal

pub loop-i-preserved : goal.loop-i-preserved
loop-i-preserved g c = record {
  within = omega arith;
  buckets = c.in_ok-insert.ensures.buckets;
  finds = λ q.
      c.in_ok-insert.ensures.updates q
      ∙ found_before g.T.Named.name c.args.items.now c.loop-i.i (c.loop-i.i - 1) c.index-items-i.result (omega arith) (omega arith) c.in_ok-name.name
      (c.in_ok-name.ensures ∙ c.name.ensures ∙ ap g.T.Named.name c.index-items-i.is) (find c.loop-i.map) c.loop-i.invariant.finds q;
}

pub invariant_of-result : goal.invariant_of-result
invariant_of-result g c = record {
  buckets = c.loop-i.invariant.buckets;
  finds = λ q.
      let end : c.loop-i.i ≡ 0 = omega arith in
      rw end at (c.loop-i.invariant.finds q) ∙ sym (position_from-zero (λ x. bytes_eq q (g.T.Named.name x)) c.args.items.now);
}
