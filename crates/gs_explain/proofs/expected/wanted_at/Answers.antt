use Rattle.std.proofs.Common.{◌+◌, refl, subst}
use Rattle.gs_explain.specs.Wanted.{AreThose, CouldStand}
use Rattle.gs_explain.specs.declared.form.Wanted.TheVariants.{Name}
use Rattle.gs_explain.proofs.WantedLaws.{goes_last, goes_on}
use Rattle.gs_explain.proofs.expected.wanted_at.Goals as goal

pub loop-k-preserved : goal.loop-k-preserved
loop-k-preserved c =
    goes_on (CouldStand c.args.form c.args.before.now c.args.i) c.sorts_of-sorts.result.now c.loop-k.k (c.loop-k.k + 1) Name _ c.loop-k.those.items c.add_if.new.those.items refl c.loop-k-test.true c.in_ok-stands.ensures c.in_ok-add_if.ensures c.loop-k.invariant

pub returns : goal.returns
returns c =
    subst (λ xs. AreThose (CouldStand c.args.form c.args.before.now c.args.i) xs c.loop-k.those.items) c.sorts_of-sorts.ensures
    (goes_last (CouldStand c.args.form c.args.before.now c.args.i) c.sorts_of-sorts.result.now c.loop-k.k c.loop-k.those.items c.loop-k-test.false c.loop-k.invariant)
