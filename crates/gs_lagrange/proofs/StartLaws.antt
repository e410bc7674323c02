-- One pass more.

use Rattle.std.proofs.Common.{◌≡◌, ℕ, suc, ◌+◌, List, fold, map, IfOk, Result, ◌∙◌, ap, arith}
use Rattle.std.specs.List.{range_with_len}
use Rattle.std.proofs.lemmas.Result.{IfOk-weaker}
use Rattle.std.proofs.lemmas.List.FromFn.{map-range_with_len_more}
use Rattle.std.proofs.lemmas.List.Sums.{fold_push}
use Rattle.gs_design.specs.declared.design.Design.{Design}
use Rattle.gs_quantity.specs.declared.micro.Mem.{Mem}
use Rattle.gs_lagrange.specs.Multiplier.{raised_all}
use Rattle.gs_lagrange.specs.Place.{places_for}
use Rattle.gs_lagrange.specs.Start.{after_pass, better, sizes_after, start_of, state_after, state_with}
use Rattle.gs_lagrange.specs.Weight.{weight_of}
use Rattle.gs_lagrange.specs.declared.state.State.{State}

pub state_more : (d : Design) (n : ℕ) → state_after d (n + 1) ≡ after_pass d (state_after d n)
state_more d n = let one : n + 1 ≡ suc n = omega arith in ap (state_after d) one

pub start_more : (d : Design) (n : ℕ) → start_of d (n + 1) ≡ better d (start_of d n) (sizes_after d (n + 1))
start_more d n =
    ap (fold (better d) (sizes_after d 0)) (map-range_with_len_more (sizes_after d) 1 n (n + 1) (omega arith))
    ∙ fold_push (better d) (sizes_after d 0) (map (sizes_after d) (range_with_len 1 n)) (sizes_after d (n + 1))

-- a state with the sizes and the multipliers after a pass is that after the pass
pub state_is : (d : Design) (x : State) (s ms : List ℕ) (r : Result State Mem) → s ≡ places_for d x.sizes x.timing (weight_of d x.sizes x.timing x.multipliers) → ms ≡ raised_all d x.timing x.multipliers
    → IfOk r (λ y. y ≡ state_with d s ms) → IfOk r (λ y. y ≡ after_pass d x)
state_is d x s ms r s_is ms_is h =
    IfOk-weaker r (λ y. y ≡ state_with d s ms) (λ y. y ≡ after_pass d x) (λ y is. is ∙ ap (λ u. state_with d u ms) s_is ∙ ap (state_with d (places_for d x.sizes x.timing (weight_of d x.sizes x.timing x.multipliers))) ms_is) h
