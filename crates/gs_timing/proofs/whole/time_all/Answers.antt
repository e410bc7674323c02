use Rattle.std.proofs.Common.{◌≡◌, ◌<◌, length, List, nat_abs, sym, ap, subst, ℕ}
use Rattle.std.proofs.lemmas.Result.{IfOk-weaker}
use Rattle.gs_design.specs.Times.{time_at}
use Rattle.gs_design.specs.Timing.{IsTiming}
use Rattle.gs_design.specs.declared.time.NetTime.{NetTime}
use Rattle.gs_timing.specs.Done.{IsTimedTo}
use Rattle.gs_timing.specs.Late.{IsLate}
use Rattle.gs_timing.proofs.FrameLaws.{one_timing}
use Rattle.gs_timing.proofs.PassLaws.{timed_all, timing_late}
use Rattle.gs_timing.proofs.SinkLaws.{load_small}
use Rattle.gs_timing.proofs.whole.time_all.Goals as goal

pub returns-clause-timing : goal.returns-clause-timing
returns-clause-timing c =
    let d = c.args.design.now in
    let s = c.args.sizes.now in
    IfOk-weaker c.pass.result (λ t. IsTimedTo d s t (length d.nets)) (λ t. IsTiming d s t) (λ t h. timed_all d s t h) c.pass.ensures

pub returns-clause-arrivals : goal.returns-clause-arrivals
returns-clause-arrivals c =
    let d = c.args.design.now in
    let s = c.args.sizes.now in
    IfOk-weaker c.pass.result (λ t. IsTimedTo d s t (length d.nets)) (λ t. (n : ℕ) → n < length d.nets → IsLate (time_at t n) 1152921504606846975)
    (λ t h n lt. timing_late d s t n c.requires (timed_all d s t h) lt) c.pass.ensures

pub returns-clause-loads : goal.returns-clause-loads
returns-clause-loads c =
    let d = c.args.design.now in
    let s = c.args.sizes.now in
    IfOk-weaker c.pass.result (λ t. IsTimedTo d s t (length d.nets)) (λ t. (n : ℕ) → n < length d.nets → nat_abs (time_at t n).load < 288230376151711744)
    (λ t h n lt. subst (λ z. nat_abs z < 288230376151711744) (sym (ap (λ (r : NetTime). r.load) ((timed_all d s t h).each n lt))) (load_small d s c.requires n lt)) c.pass.ensures

pub returns-clause-only : goal.returns-clause-only
returns-clause-only c =
    let d = c.args.design.now in
    let s = c.args.sizes.now in
    IfOk-weaker c.pass.result (λ t. IsTimedTo d s t (length d.nets)) (λ t. (u : List NetTime) → IsTiming d s u → u ≡ t)
    (λ t h u other. one_timing d s u t c.requires other (timed_all d s t h)) c.pass.ensures
