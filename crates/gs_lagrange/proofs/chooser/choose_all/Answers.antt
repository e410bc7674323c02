use Rattle.std.proofs.Common.{◌≡◌, ◌<◌, ◌-◌, ◌∙◌, map, ap, arith}
use Rattle.std.specs.List.{range_with_len}
use Rattle.std.proofs.lemmas.Slice.Zip.{AllZip-map}
use Rattle.rayon.specs.Numbers.{nat_range}
use Rattle.rayon.proofs.ToStd.{nat_range-All}
use Rattle.gs_lagrange.proofs.chooser.choose_all.Goals as goal

-- the closure's `requires` at each number of the range
pub collect-requires-clause-ready : goal.collect-requires-clause-ready
collect-requires-clause-ready g c κs within =
    let n = c.args.count in
    let ends = c.into_par_iter.ensures in
    let same = c.requires in
    let inside = nat_range-All (λ i. i < g.C.Chooser.count c.args.chooser.now) 0 n (λ i low high. omega (arith, same, high)) in
    rw (c.map.ensures.base, c.with_min_len.ensures.base, c.map.ensures.f, ends.0, ends.1) (λ k d lt. (inside k d lt, λ y p. tt))

pub returns : goal.returns
returns g c =
    let n = c.args.count in
    let ends = c.into_par_iter.ensures in
    let whole : n - 0 ≡ n = omega arith in
    let takes = g.C.Chooser.chosen c.args.chooser.now in
    let h = c.in_ok-places.ensures in
    let chain = rw (c.map.ensures.base, c.with_min_len.ensures.base, c.map.ensures.f) at h.1 in
    let numbers = chain.1 ∙ (λ i. nat_range (ends.0 i) (ends.1 i)) ∙ ap (range_with_len 0) whole in
    c.from_vec.ensures ∙ h.2 ∙ AllZip-map takes chain.0 h.0 chain.2 ∙ ap (map takes) numbers
