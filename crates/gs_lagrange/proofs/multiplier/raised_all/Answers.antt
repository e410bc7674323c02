use Rattle.std.proofs.Common.{◌≡◌, slice_index, ◌∙◌, ap, subst, sym, arith}
use Rattle.std.specs.Result.{is_ok}
use Rattle.gs_lagrange.specs.Carry.{AreHeld}
use Rattle.gs_lagrange.specs.Multiplier.{lateness_of, raised}
use Rattle.gs_lagrange.proofs.MultiplierLaws.{raised_held}
use Rattle.gs_lagrange.proofs.Ranges.{map_below, map_more, pushed}
use Rattle.gs_lagrange.proofs.multiplier.raised_all.Goals as goal

pub loop-number-preserved : goal.loop-number-preserved
loop-number-preserved c =
    let d = c.args.design.now in
    let t = c.args.timing.now in
    let ms = c.args.multipliers.now in
    let n = c.loop-number.number in
    let value : c.raised-multiplier.result ≡ raised (slice_index c.args.multipliers.now c.loop-number.number) (lateness_of c.args.design.now c.args.timing.now c.loop-number.number) =
    c.raised-multiplier.ensures.value ∙ ap (λ m. raised m c.lateness-late.result) (c.at.ensures 0) ∙ ap (raised (slice_index ms n)) c.lateness-late.ensures.value in
    record {
      items = pushed (is_ok c.push.result) c.loop-number.items.items c.push.new.self.items c.raised-multiplier.result c.push.ensures.items c.in_ok-map_err.ensures.variant
          ∙ map_more (λ e. raised (slice_index ms e) (lateness_of d t e)) c.loop-number.items.items c.raised-multiplier.result n c.loop-number.invariant.items value;
      in_range = omega (arith, c.loop-number-test.true, c.len-number-end.ensures, c.requires.multipliers);
    }

pub returns-clause-held : goal.returns-clause-held
returns-clause-held c =
    let d = c.args.design.now in
    let t = c.args.timing.now in
    let ms = c.args.multipliers.now in
    subst AreHeld (sym (c.from_vec.ensures ∙ c.loop-number.invariant.items))
    (map_below (λ e. raised (slice_index ms e) (lateness_of d t e)) 16777216 c.loop-number.number (λ e. raised_held (slice_index ms e) (lateness_of d t e)))
