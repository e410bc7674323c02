use Rattle.std.proofs.Common.{rules, ◌≡◌, ◌<◌, ◌-◌, ◌∙◌, length, map, ap, arith}
use Rattle.std.specs.List.{range_with_len}
use Rattle.rayon.specs.Numbers.{nat_range}
use Rattle.rayon.proofs.ListFacts.{IfOk-then}
use Rattle.rayon.proofs.ToStd.{nat_range-All}
use Rattle.gs_sweep.specs.Inst.{fair_of_inst}
use Rattle.gs_sweep.proofs.ListLaws.{gathered}
use Rattle.gs_sweep.proofs.sweeps.fair_of_each.Goals as goal

-- the closure's `requires` at each number of the range
pub collect-requires-clause-ready : goal.collect-requires-clause-ready
collect-requires-clause-ready g c κs within =
    let d = c.args.swept.now.design.now in
    let ends = c.into_par_iter.ensures in
    let count : c.len.result ≡ length d.insts = c.len.ensures in
    let inside = nat_range-All (λ i. i < length d.insts) 0 c.len.result (λ i low high. omega (arith, count, high)) in
    rw (c.map_init.ensures.base, c.map_init.ensures.f, c.with_min_len.ensures.base, ends.0, ends.1) (tt, λ k e lt. (λ p. let below = inside k e lt in search (rules, below) depth 40, λ p q y post. tt))

pub returns : goal.returns
returns g c =
    let d = c.args.swept.now.design.now in
    let fair = fair_of_inst (g.J.Judge.answers c.args.swept.now.judge.now) d c.args.swept.now.sizes.now in
    let ends = c.into_par_iter.ensures in
    let count : c.len.result ≡ length d.insts = c.len.ensures in
    let whole : c.len.result - 0 ≡ length d.insts = omega (arith, count) in
    let h = rw c.map_init.ensures.f at c.in_ok-collect.ensures in
    let chain = rw (c.map_init.ensures.base, c.with_min_len.ensures.base) at h.1 in
    let numbers = chain.1 ∙ (λ i. nat_range (ends.0 i) (ends.1 i)) ∙ ap (range_with_len 0) whole in
    IfOk-then c.in_ok-collect.field-0 _ _
    (gathered (λ v. v.items) (λ w. w.items) fair _ (λ number found post. post.2) chain.0 h.0 c.in_ok-collect.field-0 chain.2 h.2)
    (λ v is. is ∙ ap (map fair) numbers)
