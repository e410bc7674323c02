-- The paths of all endpoints, followed back net by net against the order of a design.

use Rattle.std.proofs.Common.{◌≡◌, ℕ, suc, ◌+◌, ◌*◌, ◌<◌, ◌≤◌, ◌==◌, Bool, true, false, List, length, slice_index, Option, None, Some, refl, sym, ◌∙◌, ap, subst, arith}
use Rattle.std.specs.Prelude.{if◌then◌else◌}
use Rattle.std.proofs.lemmas.Bool.{and_left, ne_eqb}
use Rattle.gs_design.specs.Ends.{end_at}
use Rattle.gs_design.specs.Sizes.{FitSizes}
use Rattle.gs_design.specs.declared.design.Design.{Design}
use Rattle.gs_design.specs.declared.time.NetTime.{NetTime}
use Rattle.gs_lagrange.specs.Carry.{AreBegun, AreCarried, AreHeld, brought, first_edge, rank_in, total}
use Rattle.gs_lagrange.specs.Flow.{AreLight, flow_at, is_edge, is_to, same_rise, weight_in}
use Rattle.gs_lagrange.specs.Path.{came_from, edge_on}
use Rattle.gs_lagrange.specs.Weight.{added_by, weight_of}
use Rattle.gs_lagrange.specs.declared.edge.NetEdge.{NetEdge}
use Rattle.gs_lagrange.specs.declared.flow.Flow.{Flow}
use Rattle.gs_lagrange.proofs.SourceLaws.{comes_lower}
use Rattle.gs_lagrange.proofs.Totals.{total_if, total_is, total_le, total_same, total_three, total_two}
use Rattle.gs_lagrange.proofs.WalkLaws.{Below, alone, once, onward, own, passed, whole}

-- ---- where paths begin

module _ (d : Design) (t : List NetTime) (ms : List ℕ) where
  abbrev begun_by : NetEdge → ℕ → ℕ
  begun_by q e = if is_edge (first_edge d t e) q then slice_index ms e else 0

  begun_small : AreHeld ms → (q : NetEdge) (count : ℕ) → total (begun_by q) count ≤ count * 16777216
  begun_small held q count = total_le (begun_by q) 16777216 count (λ e lt. one_small (is_edge (first_edge d t e) q) e)
    where
      one_small : (b : Bool) (e : ℕ) → (if b then slice_index ms e else 0) ≤ 16777216
      one_small true e = held e
      one_small false e = omega arith

  -- a flow stays small while multipliers are put at their edges
  pub begun_fits : (count : ℕ) (fs : List Flow) (q : NetEdge) → AreHeld ms → AreBegun d t ms count fs → flow_at fs q ≤ count * 16777216
  begun_fits count fs q held h = let e = h q in let le = begun_small held q count in omega (arith, e, le)

  -- one endpoint more
  pub begun_more : (count : ℕ) (fs more : List Flow) → AreBegun d t ms count fs
      → ((q : NetEdge) → flow_at more q ≡ flow_at fs q + (if is_edge (first_edge d t count) q then slice_index ms count else 0)) → AreBegun d t ms (count + 1) more
  begun_more count fs more h at q =
      let one : count + 1 ≡ suc count = omega arith in
      at q ∙ ap (λ n. n + begun_by q count) (h q) ∙ ap (total (begun_by q)) (sym one)

-- ---- and where they go

module _ (d : Design) (s : List ℕ) (t : List NetTime) (ms : List ℕ) (fit : FitSizes d s) where
  falls : (e r : NetEdge) → came_from d s t e ≡ Some r → (rank_in d r.net < rank_in d e.net) × (r.net < length d.nets)
  falls e r is = comes_lower d s t fit e r is

  abbrev Lower : ℕ → Option NetEdge → Type 0
  Lower = Below (length d.nets) (rank_in d) (came_from d s t) falls

  abbrev brings : ℕ → NetEdge → ℕ → ℕ
  brings floor q e = brought (rank_in d) (came_from d s t) floor (length d.nets) (Some (first_edge d t e)) (slice_index ms e) q

  begins_low : (e : ℕ) → e < length d.ends → Lower (length d.nets) (Some (first_edge d t e))
  begins_low e lt = let net_in = d.well.ends_kept.nets_in e lt in (d.well.order_kept.rank_in (end_at d.ends e).net net_in, net_in)

  pub carried_begin : (fs : List Flow) → AreBegun d t ms (length d.ends) fs → AreCarried d s t ms (length d.nets) fs
  carried_begin fs h q =
      h q
      ∙ total_same (λ e. own (first_edge d t e) (slice_index ms e) q) (brings (length d.nets) q) (length d.ends)
      (λ e lt. sym (alone (length d.nets) (rank_in d) (came_from d s t) falls (length d.nets) (length d.nets) (Some (first_edge d t e)) (slice_index ms e) q (begins_low e lt) (begins_low e lt)))

  -- no flow is above 2 ^ 48
  pub carried_small : (floor : ℕ) (fs : List Flow) → AreHeld ms → AreCarried d s t ms floor fs → AreLight fs
  carried_small floor fs held h q =
      let is = h q in
      let few = d.well.ends_kept.few in
      let le : total (brings floor q) (length d.ends) ≤ length d.ends * 16777216 =
      total_le (brings floor q) 16777216 (length d.ends)
      (λ e lt.
      let one = once (length d.nets) (rank_in d) (came_from d s t) falls floor (length d.nets) (Some (first_edge d t e)) (slice_index ms e) q in
      let held' = held e in
      omega (arith, one, held')) in
      omega (arith, is, le, few)

  module _ (floor : ℕ) (lt : floor < length d.nets) where
    abbrev here : ℕ
    here = slice_index d.order floor

    rank_here : rank_in d here ≡ floor
    rank_here = d.well.order_kept.rank_of_net floor lt

    only_here : (n : ℕ) → n < length d.nets → rank_in d n ≡ rank_in d here → n ≡ here
    only_here n net_in same = sym (d.well.order_kept.net_of_rank n net_in) ∙ ap (slice_index d.order) (same ∙ rank_here)

    abbrev up : NetEdge
    up = edge_on here true

    abbrev down : NetEdge
    down = edge_on here false

    carried_total : (q : NetEdge) → total (brings floor q) (length d.ends)
        ≡ total (brings (suc floor) q) (length d.ends)
        + onward (came_from d s t up) q (total (brings (suc floor) up) (length d.ends))
        + onward (came_from d s t down) q (total (brings (suc floor) down) (length d.ends))
    carried_total q =
        let all = total_three (brings floor q) (brings (suc floor) q) (λ e. onward (came_from d s t up) q (brings (suc floor) up e)) (λ e. onward (came_from d s t down) q (brings (suc floor) down e)) (length d.ends)
        (λ e e_in. subst (λ f. brings f q e ≡ brings (suc f) q e + onward (came_from d s t up) q (brings (suc f) up e) + onward (came_from d s t down) q (brings (suc f) down e)) rank_here
        (passed (length d.nets) (rank_in d) (came_from d s t) falls here only_here (length d.nets) (Some (first_edge d t e)) (slice_index ms e) q (begins_low e e_in))) in
        let a = total_if (is_to (came_from d s t up) q) (brings (suc floor) up) (length d.ends) in
        let b = total_if (is_to (came_from d s t down) q) (brings (suc floor) down) (length d.ends) in
        omega (arith, all, a, b)

    -- both edges of the net at a place of the order, carried on
    pub carried_more : (place : ℕ) (fs more : List Flow) → place ≡ floor + 1 → AreCarried d s t ms place fs
        → ((q : NetEdge) → flow_at more q ≡ flow_at fs q
        + (if is_to (came_from d s t up) q then flow_at fs up else 0)
        + (if is_to (came_from d s t down) q then flow_at fs down else 0))
        → AreCarried d s t ms floor more
    carried_more place fs more place_is h at q =
        let next : place ≡ suc floor = omega (arith, place_is) in
        let then' : AreCarried d s t ms (suc floor) fs = subst (λ f. AreCarried d s t ms f fs) next h in
        let is = at q in
        let own' = then' q in
        let a = ap (onward (came_from d s t up) q) (then' up) in
        let b = ap (onward (came_from d s t down) q) (then' down) in
        let all = carried_total q in
        omega (arith, is, own', a, b, all)

  -- at the end each net has its weight
  pub carried_weights : (fs : List Flow) → AreCarried d s t ms 0 fs → (n : ℕ) → weight_in fs n ≡ weight_of d s t ms n
  carried_weights fs h n =
      let a = h (edge_on n true) in
      let b = h (edge_on n false) in
      let two = total_two (added_by d s t ms n) (brings 0 (edge_on n true)) (brings 0 (edge_on n false)) (length d.ends)
      (λ e lt. sym (whole (length d.nets) (rank_in d) (came_from d s t) falls (length d.nets) (Some (first_edge d t e)) (slice_index ms e) n)) in
      let all = total_is (added_by d s t ms n) (length d.ends) in
      omega (arith, a, b, two, all)

-- ---- two steps are one

-- both edges of a net carried on, where an edge comes from another net
pub both_carried : (o p : Option NetEdge) (up down : NetEdge) (fs mid more : List Flow)
    → is_to o down ≡ false
    → ((q : NetEdge) → flow_at mid q ≡ flow_at fs q + (if is_to o q then flow_at fs up else 0))
    → ((q : NetEdge) → flow_at more q ≡ flow_at mid q + (if is_to p q then flow_at mid down else 0))
    → (q : NetEdge) → flow_at more q ≡ flow_at fs q + (if is_to o q then flow_at fs up else 0) + (if is_to p q then flow_at fs down else 0)
both_carried o p up down fs mid more apart first second q =
    let a = first q in
    let b = second q in
    let at_down : flow_at mid down ≡ flow_at fs down = first down ∙ ap (λ b. flow_at fs down + (if b then flow_at fs up else 0)) apart ∙ omega arith in
    let c = ap (λ n. if is_to p q then n else 0) at_down in
    omega (arith, a, b, c)

-- an edge comes from an edge of another net
apart_from : (o : Option NetEdge) (q : NetEdge) → ((r : NetEdge) → o ≡ Some r → r.net ≡ q.net → ⊥) → is_to o q ≡ false
apart_from None q h = refl
apart_from (Some r) q h = and_left (r.net == q.net) (same_rise r.rise q.rise) (ne_eqb r.net q.net (h r refl))

pub comes_apart : (d : Design) (s : List ℕ) (t : List NetTime) → FitSizes d s → (n : ℕ) (rise fall : Bool) → is_to (came_from d s t (edge_on n rise)) (edge_on n fall) ≡ false
comes_apart d s t fit n rise fall =
    apart_from (came_from d s t (edge_on n rise)) (edge_on n fall)
    (λ r is same. let f = comes_lower d s t fit (edge_on n rise) r is in omega (arith, f.0, ap (slice_index d.ranks) same))

-- one carry at most doubles a flow
pub carried_few : (o : Option NetEdge) (up : NetEdge) (fs mid : List Flow) → AreLight fs
    → ((q : NetEdge) → flow_at mid q ≡ flow_at fs q + (if is_to o q then flow_at fs up else 0)) → (q : NetEdge) → flow_at mid q ≤ 1125899906842624
carried_few o up fs mid light first q = let is = first q in let a = light q in let b = light up in let c = if_le (is_to o q) (flow_at fs up) in omega (arith, is, a, b, c)
  where
    if_le : (t : Bool) (n : ℕ) → (if t then n else 0) ≤ n
    if_le true n = omega arith
    if_le false n = omega arith
