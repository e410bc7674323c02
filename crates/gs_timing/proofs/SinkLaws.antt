-- The load and the slew bound of a net, sink by sink.

use Rattle.std.proofs.Common.{◌≡◌, ℕ, zero, suc, ◌+◌, ◌*◌, ◌<◌, ◌≤◌, List, [], ◌∷◌, All, fold, drop, length, slice_index_or, Option, ℤ, ◌+ℤ◌, nat_abs, refl, sym, ◌∙◌, ap, arith}
use Rattle.std.proofs.lemmas.Int.{ints}
use Rattle.std.proofs.lemmas.List.{at_drop_more}
use Rattle.gs_design.specs.Load.{load_of, pin_slew_bound, sink_pin, tighter}
use Rattle.gs_design.specs.Nets.{net_at}
use Rattle.gs_design.specs.Sizes.{FitSizes}
use Rattle.gs_design.specs.declared.design.Design.{Design}
use Rattle.gs_design.specs.declared.sink.Sink.{Sink}
use Rattle.gs_timing.proofs.CellLaws.{cap_small}

abbrev pub with_cap : Design → List ℕ → ℤ → Sink → ℤ
with_cap d s = λ load k. load +ℤ (sink_pin d s k).cap

abbrev pub with_bound : Design → List ℕ → Option ℤ → Sink → Option ℤ
with_bound d s = λ bound k. tighter bound (pin_slew_bound d (sink_pin d s k))

-- the first i sinks counted
pub record HungTo (d : Design) (s : List ℕ) (sinks : List Sink) (i : ℕ) (bare : ℤ) (first : Option ℤ) (load : ℤ) (bound : Option ℤ) : Type 0 where
  pub load_is : fold (with_cap d s) load (drop i sinks) ≡ fold (with_cap d s) bare sinks
  pub bound_is : fold (with_bound d s) bound (drop i sinks) ≡ fold (with_bound d s) first sinks
  pub small : nat_abs load < 2199023255552 + i * 17179869184

pub one_sink : (d : Design) (s : List ℕ) (sinks : List Sink) (i : ℕ) (bare : ℤ) (first : Option ℤ) (load : ℤ) (bound : Option ℤ) (k : Sink) (more : ℤ) (more_bound : Option ℤ)
    → i < length sinks → k ≡ slice_index_or sinks i k → nat_abs (sink_pin d s k).cap < 17179869184 → HungTo d s sinks i bare first load bound
    → more ≡ with_cap d s load k → more_bound ≡ with_bound d s bound k
    → HungTo d s sinks (i + 1) bare first more more_bound
one_sink d s sinks i bare first load bound k more more_bound lt k_is cap h more_is bound_is = record {
  load_is =
      ap (λ w. fold (with_cap d s) w (drop (i + 1) sinks)) (more_is ∙ ap (with_cap d s load) k_is)
      ∙ sym (at_drop_more (λ (ks : List Sink). fold (with_cap d s) load ks) sinks i k lt) ∙ h.load_is;
  bound_is =
      ap (λ w. fold (with_bound d s) w (drop (i + 1) sinks)) (bound_is ∙ ap (with_bound d s bound) k_is)
      ∙ sym (at_drop_more (λ (ks : List Sink). fold (with_bound d s) bound ks) sinks i k lt) ∙ h.bound_is;
  small =
      let below = h.small in
      let sum : nat_abs (load +ℤ (sink_pin d s k).cap) < 2199023255552 + (i + 1) * 17179869184 = omega (arith, ints, cap, below) in
      rw more_is sum;
}

fold_small : (d : Design) (s : List ℕ) (load : ℤ) (sinks : List Sink) (b : ℕ) → nat_abs load < b → All (λ k. nat_abs (sink_pin d s k).cap < 17179869184) sinks
    → nat_abs (fold (with_cap d s) load sinks) < b + length sinks * 17179869184
fold_small d s load [] b h all = omega (arith, h)
fold_small d s load (k ∷ sinks) b h all =
    let cap : nat_abs (sink_pin d s k).cap < 17179869184 = all zero k (omega arith) in
    let more : nat_abs (load +ℤ (sink_pin d s k).cap) < b + 17179869184 = omega (arith, ints, cap, h) in
    let rest = fold_small d s (load +ℤ (sink_pin d s k).cap) sinks (b + 17179869184) more (λ i e it. all (suc i) e (omega (arith, it))) in
    omega (arith, rest)

module _ (d : Design) (s : List ℕ) (fit : FitSizes d s) (n : ℕ) (lt : n < length d.nets) where
  pub caps_small : All (λ k. nat_abs (sink_pin d s k).cap < 17179869184) (net_at d.nets n).sinks
  caps_small k e kt =
      let on = (d.well.nets_kept n lt).sinks_in k e kt in
      cap_small d s fit (slice_index_or (net_at d.nets n).sinks k e).inst on.inst_in (slice_index_or (net_at d.nets n).sinks k e).pin on.pin_in

  pub bare_small : nat_abs ((net_at d.nets n).wire +ℤ (net_at d.nets n).port_load) < 2199023255552
  bare_small =
      let wire = (d.well.nets_kept n lt).wire_in in
      let port = (d.well.nets_kept n lt).port_load_in in
      omega (arith, ints, wire.0, wire.1, port.0, port.1)

  pub load_small : nat_abs (load_of d s n) < 288230376151711744
  load_small =
      let all = fold_small d s ((net_at d.nets n).wire +ℤ (net_at d.nets n).port_load) (net_at d.nets n).sinks 2199023255552 bare_small caps_small in
      let few = (d.well.nets_kept n lt).few_sinks in
      omega (arith, all, few)
