-- Walks back, wherever an edge comes from, so long as it comes from a net of lower rank: what they bring to an edge, from floor to floor.

use Rattle.std.proofs.Common.{◌≡◌, ℕ, zero, suc, ◌+◌, ◌<◌, ◌≤◌, ◌⊎◌, inl, inr, Bool, true, false, ◌&&◌, ◌||◌, Option, None, Some, refl, sym, ◌∙◌, ap, arith, eq-eqb}
use Rattle.std.specs.Prelude.{if◌then◌else◌, nat_le}
use Rattle.std.proofs.lemmas.Bool.{cases_Bool, cases_eq, cases_order, le-leb, lt-leb, ne_eqb}
use Rattle.gs_lagrange.specs.Carry.{brought}
use Rattle.gs_lagrange.specs.Flow.{is_edge, is_to, same_rise}
use Rattle.gs_lagrange.specs.Path.{edge_on, passes, walk}
use Rattle.gs_lagrange.specs.declared.edge.NetEdge.{NetEdge}

-- ---- edges

abbrev pub own : NetEdge → ℕ → NetEdge → ℕ
own e by q = if is_edge e q then by else 0

abbrev pub onward : Option NetEdge → NetEdge → ℕ → ℕ
onward o q by = if is_to o q then by else 0

if_zero : (b : Bool) → ◌≡◌ {A = ℕ} (if b then 0 else 0) 0
if_zero true = refl
if_zero false = refl

pub onward_zero : (o : Option NetEdge) (q : NetEdge) (by : ℕ) → by ≡ 0 → onward o q by ≡ 0
onward_zero o q by none' = ap (λ n. onward o q n) none' ∙ if_zero (is_to o q)

own_apart : (e q : NetEdge) (by : ℕ) → (e.net ≡ q.net → ⊥) → own e by q ≡ 0
own_apart e q by apart = ap (λ (b : Bool). if (b && same_rise e.rise q.rise) then by else 0) (ne_eqb e.net q.net apart)

own_here : (e q : NetEdge) (by : ℕ) → e.net ≡ q.net → own e by q ≡ (if same_rise e.rise q.rise then by else 0)
own_here e q by here = ap (λ (b : Bool). if (b && same_rise e.rise q.rise) then by else 0) (eq-eqb e.net q.net here)

own_le : (b : Bool) (by : ℕ) → (if b then by else 0) ≤ by
own_le true by = omega arith
own_le false by = omega arith

-- ---- walks

module _ (nets : ℕ) (rank : ℕ → ℕ) (back : NetEdge → Option NetEdge) (falls : (e r : NetEdge) → back e ≡ Some r → (rank r.net < rank e.net) × (r.net < nets)) where
  -- the edge is of a net of lower rank than b
  abbrev pub Below : ℕ → Option NetEdge → Type 0
  Below b None = Unit {0}
  Below b (Some e) = (rank e.net < b) × (e.net < nets)

  below_by : (e : NetEdge) (b : ℕ) → rank e.net ≤ b → (o : Option NetEdge) → back e ≡ o → Below b o
  below_by e b le None is = tt
  below_by e b le (Some r) is = let f = falls e r is in (omega (arith, le, f.0), f.1)

  below_back : (e : NetEdge) (b : ℕ) → rank e.net ≤ b → Below b (back e)
  below_back e b le = below_by e b le (back e) refl

  below_more : (b c : ℕ) (o : Option NetEdge) → b ≤ c → Below b o → Below c o
  below_more b c None le h = tt
  below_more b c (Some e) le h = (omega (arith, le, h.0), h.1)

  stops : (floor steps : ℕ) (e : NetEdge) (by : ℕ) (q : NetEdge) → rank e.net < floor → brought rank back floor (suc steps) (Some e) by q ≡ own e by q
  stops floor steps e by q lt =
      ap (λ (b : Bool). own e by q + (if b then brought rank back floor steps (back e) by q else 0)) (lt-leb floor (rank e.net) lt) ∙ omega arith

  goes_on : (floor steps : ℕ) (e : NetEdge) (by : ℕ) (q : NetEdge) → floor ≤ rank e.net
      → brought rank back floor (suc steps) (Some e) by q ≡ own e by q + brought rank back floor steps (back e) by q
  goes_on floor steps e by q le = ap (λ (b : Bool). own e by q + (if b then brought rank back floor steps (back e) by q else 0)) (le-leb floor (rank e.net) le)

  -- a walk from a net of lower rank brings nothing
  pub none_above : (floor steps : ℕ) (o : Option NetEdge) (by : ℕ) (q : NetEdge) → Below (rank q.net) o → brought rank back floor steps o by q ≡ 0
  none_above floor zero o by q h = refl
  none_above floor (suc steps) None by q h = refl
  none_above floor (suc steps) (Some e) by q h =
      let rest : brought rank back floor steps (back e) by q ≡ 0 = none_above floor steps (back e) by q (below_back e (rank q.net) (omega (arith, h.0))) in
      let here : own e by q ≡ 0 = own_apart e q by (λ same. omega (arith, h.0, ap rank same)) in
      let tail : (if nat_le floor (rank e.net) then brought rank back floor steps (back e) by q else 0) ≡ 0 =
      ap (λ n. if nat_le floor (rank e.net) then n else 0) rest ∙ if_zero (nat_le floor (rank e.net)) in
      omega (arith, here, tail)

  -- it comes by an edge once
  pub once : (floor steps : ℕ) (o : Option NetEdge) (by : ℕ) (q : NetEdge) → brought rank back floor steps o by q ≤ by
  once floor zero o by q = omega arith
  once floor (suc steps) None by q = omega arith
  once floor (suc steps) (Some e) by q = by_net (cases_eq e.net q.net) (once floor steps (back e) by q)
    where
      tail_le : (b : Bool) (n : ℕ) → n ≤ by → (if b then n else 0) ≤ by
      tail_le true n h = h
      tail_le false n h = omega arith

      by_net : (e.net ≡ q.net) ⊎ (e.net ≡ q.net → ⊥) → brought rank back floor steps (back e) by q ≤ by → brought rank back floor (suc steps) (Some e) by q ≤ by
      by_net (inl here) rest =
          let none' : brought rank back floor steps (back e) by q ≡ 0 = none_above floor steps (back e) by q (below_back e (rank q.net) (omega (arith, ap rank here))) in
          let tail : (if nat_le floor (rank e.net) then brought rank back floor steps (back e) by q else 0) ≡ 0 =
          ap (λ n. if nat_le floor (rank e.net) then n else 0) none' ∙ if_zero (nat_le floor (rank e.net)) in
          let first : own e by q ≤ by = own_le (is_edge e q) by in
          omega (arith, tail, first)
      by_net (inr apart) rest =
          let none' : own e by q ≡ 0 = own_apart e q by apart in
          let tail : (if nat_le floor (rank e.net) then brought rank back floor steps (back e) by q else 0) ≤ by = tail_le (nat_le floor (rank e.net)) (brought rank back floor steps (back e) by q) rest in
          omega (arith, none', tail)

  -- a walk that begins below the floor stands at its own edge alone
  pub alone : (floor steps : ℕ) (o : Option NetEdge) (by : ℕ) (q : NetEdge) → Below floor o → Below steps o → brought rank back floor steps o by q ≡ onward o q by
  alone floor zero None by q low few = refl
  alone floor zero (Some e) by q low few = absurd (omega (arith, few.0))
  alone floor (suc steps) None by q low few = refl
  alone floor (suc steps) (Some e) by q low few = stops floor steps e by q low.0

  -- ---- one step of the floor, over the net x

  module _ (x : ℕ) (only : (n : ℕ) → n < nets → rank n ≡ rank x → n ≡ x) where
    abbrev up : NetEdge
    up = edge_on x true

    abbrev down : NetEdge
    down = edge_on x false

    abbrev Passed : ℕ → Option NetEdge → ℕ → NetEdge → Type 0
    Passed steps o by q = brought rank back (rank x) steps o by q
        ≡ brought rank back (suc (rank x)) steps o by q
        + onward (back up) q (brought rank back (suc (rank x)) steps o by up)
        + onward (back down) q (brought rank back (suc (rank x)) steps o by down)

    passed_none : (steps : ℕ) (o : Option NetEdge) (by : ℕ) (q : NetEdge) → ((f : ℕ) (p : NetEdge) → brought rank back f steps o by p ≡ 0) → Passed steps o by q
    passed_none steps o by q h =
        let a = onward_zero (back up) q (brought rank back (suc (rank x)) steps o by up) (h (suc (rank x)) up) in
        let b = onward_zero (back down) q (brought rank back (suc (rank x)) steps o by down) (h (suc (rank x)) down) in
        omega (arith, a, b, h (rank x) q, h (suc (rank x)) q)

    module _ (steps : ℕ) (e : NetEdge) (by : ℕ) (q : NetEdge) (few : rank e.net < suc steps) where
      -- below the floor
      passed_low : rank e.net < rank x → Passed (suc steps) (Some e) by q
      passed_low lt =
          let apart : e.net ≡ x → ⊥ = λ same. omega (arith, lt, ap rank same) in
          let low : rank e.net < suc (rank x) = omega (arith, lt) in
          let a = onward_zero (back up) q (brought rank back (suc (rank x)) (suc steps) (Some e) by up) (stops (suc (rank x)) steps e by up low ∙ own_apart e up by apart) in
          let b = onward_zero (back down) q (brought rank back (suc (rank x)) (suc steps) (Some e) by down) (stops (suc (rank x)) steps e by down low ∙ own_apart e down by apart) in
          omega (arith, a, b, stops (rank x) steps e by q lt, stops (suc (rank x)) steps e by q low)

      -- above it
      passed_high : rank x < rank e.net → Passed steps (back e) by q → Passed (suc steps) (Some e) by q
      passed_high lt rest =
          let apart : e.net ≡ x → ⊥ = λ same. omega (arith, lt, ap rank same) in
          let high : suc (rank x) ≤ rank e.net = omega (arith, lt) in
          let le : rank x ≤ rank e.net = omega (arith, lt) in
          let by_up : brought rank back (suc (rank x)) (suc steps) (Some e) by up ≡ brought rank back (suc (rank x)) steps (back e) by up =
          (let two = goes_on (suc (rank x)) steps e by up high in let none' = own_apart e up by apart in omega (arith, two, none')) in
          let by_down : brought rank back (suc (rank x)) (suc steps) (Some e) by down ≡ brought rank back (suc (rank x)) steps (back e) by down =
          (let two = goes_on (suc (rank x)) steps e by down high in let none' = own_apart e down by apart in omega (arith, two, none')) in
          let a = ap (onward (back up) q) by_up in
          let b = ap (onward (back down) q) by_down in
          omega (arith, a, b, goes_on (rank x) steps e by q le, goes_on (suc (rank x)) steps e by q high, rest)

      -- at the net itself: by its rise, and by its fall
      at_net : e.net ≡ x → brought rank back (rank x) (suc steps) (Some e) by q ≡ own e by q + onward (back e) q by
      at_net here =
          let one = goes_on (rank x) steps e by q (omega (arith, ap rank here)) in
          let two = alone (rank x) steps (back e) by q (below_back e (rank x) (omega (arith, ap rank here))) (below_back e steps (omega (arith, few))) in
          omega (arith, one, two)

      same_up : e.net ≡ x → e.rise ≡ true → e ≡ up
      same_up n r = λ i. record { net = n i; rise = r i }

      same_down : e.net ≡ x → e.rise ≡ false → e ≡ down
      same_down n r = λ i. record { net = n i; rise = r i }

      passed_rise : e.net ≡ x → e.rise ≡ true → Passed (suc steps) (Some e) by q
      passed_rise here rises =
          let low : rank e.net < suc (rank x) = omega (arith, ap rank here) in
          let at_up : brought rank back (suc (rank x)) (suc steps) (Some e) by up ≡ by =
          stops (suc (rank x)) steps e by up low ∙ own_here e up by here ∙ ap (λ b. if same_rise b true then by else 0) rises in
          let at_down : brought rank back (suc (rank x)) (suc steps) (Some e) by down ≡ 0 =
          stops (suc (rank x)) steps e by down low ∙ own_here e down by here ∙ ap (λ b. if same_rise b false then by else 0) rises in
          let a : onward (back up) q (brought rank back (suc (rank x)) (suc steps) (Some e) by up) ≡ onward (back e) q by =
          ap (onward (back up) q) at_up ∙ ap (λ p. onward (back p) q by) (sym (same_up here rises)) in
          let b = onward_zero (back down) q (brought rank back (suc (rank x)) (suc steps) (Some e) by down) at_down in
          omega (arith, a, b, at_net here, stops (suc (rank x)) steps e by q low)

      passed_fall : e.net ≡ x → e.rise ≡ false → Passed (suc steps) (Some e) by q
      passed_fall here falls' =
          let low : rank e.net < suc (rank x) = omega (arith, ap rank here) in
          let at_up : brought rank back (suc (rank x)) (suc steps) (Some e) by up ≡ 0 =
          stops (suc (rank x)) steps e by up low ∙ own_here e up by here ∙ ap (λ b. if same_rise b true then by else 0) falls' in
          let at_down : brought rank back (suc (rank x)) (suc steps) (Some e) by down ≡ by =
          stops (suc (rank x)) steps e by down low ∙ own_here e down by here ∙ ap (λ b. if same_rise b false then by else 0) falls' in
          let a = onward_zero (back up) q (brought rank back (suc (rank x)) (suc steps) (Some e) by up) at_up in
          let b : onward (back down) q (brought rank back (suc (rank x)) (suc steps) (Some e) by down) ≡ onward (back e) q by =
          ap (onward (back down) q) at_down ∙ ap (λ p. onward (back p) q by) (sym (same_down here falls')) in
          omega (arith, a, b, at_net here, stops (suc (rank x)) steps e by q low)

      passed_here : e.net ≡ x → (e.rise ≡ true) ⊎ (e.rise ≡ false) → Passed (suc steps) (Some e) by q
      passed_here here (inl rises) = passed_rise here rises
      passed_here here (inr falls') = passed_fall here falls'

      passed_some : e.net < nets → Passed steps (back e) by q → (rank e.net ≡ rank x) ⊎ ((rank e.net < rank x) ⊎ (rank x < rank e.net)) → Passed (suc steps) (Some e) by q
      passed_some net_in rest (inl same) = passed_here (only e.net net_in same) (cases_Bool e.rise)
      passed_some net_in rest (inr (inl lt)) = passed_low lt
      passed_some net_in rest (inr (inr lt)) = passed_high lt rest

    pub passed : (steps : ℕ) (o : Option NetEdge) (by : ℕ) (q : NetEdge) → Below steps o → Passed steps o by q
    passed zero o by q few = passed_none zero o by q (λ f p. refl)
    passed (suc steps) None by q few = passed_none (suc steps) None by q (λ f p. refl)
    passed (suc steps) (Some e) by q few =
        passed_some steps e by q few.0 few.1 (passed steps (back e) by q (below_back e steps (omega (arith, few.0)))) (cases_order (rank e.net) (rank x))

  -- ---- the whole walk

  both_rises : (b : Bool) (by : ℕ) → (if same_rise b true then by else 0) + (if same_rise b false then by else 0) ≡ by
  both_rises true by = omega arith
  both_rises false by = omega arith

  -- at both edges of a net it brings what is brought to the net, if it passes it
  pub whole : (steps : ℕ) (o : Option NetEdge) (by n : ℕ)
      → brought rank back 0 steps o by (edge_on n true) + brought rank back 0 steps o by (edge_on n false) ≡ (if passes (walk back steps o) n then by else 0)
  whole zero o by n = refl
  whole (suc steps) None by n = refl
  whole (suc steps) (Some e) by n = by_net (cases_eq e.net n) (whole steps (back e) by n)
    where
      by_net : (e.net ≡ n) ⊎ (e.net ≡ n → ⊥)
          → brought rank back 0 steps (back e) by (edge_on n true) + brought rank back 0 steps (back e) by (edge_on n false) ≡ (if passes (walk back steps (back e)) n then by else 0)
          → brought rank back 0 (suc steps) (Some e) by (edge_on n true) + brought rank back 0 (suc steps) (Some e) by (edge_on n false) ≡ (if passes (walk back (suc steps) (Some e)) n then by else 0)
      by_net (inl here) rest =
          let low = below_back e (rank n) (omega (arith, ap rank here)) in
          let a = goes_on 0 steps e by (edge_on n true) (omega arith) in
          let b = goes_on 0 steps e by (edge_on n false) (omega arith) in
          let c = none_above 0 steps (back e) by (edge_on n true) low in
          let f = none_above 0 steps (back e) by (edge_on n false) low in
          let g = own_here e (edge_on n true) by here in
          let h = own_here e (edge_on n false) by here in
          let all = both_rises e.rise by in
          let passes' : (if passes (walk back (suc steps) (Some e)) n then by else 0) ≡ by =
          ap (λ (t : Bool). if (t || passes (walk back steps (back e)) n) then by else 0) (eq-eqb e.net n here) in
          omega (arith, a, b, c, f, g, h, all, passes')
      by_net (inr apart) rest =
          let a = goes_on 0 steps e by (edge_on n true) (omega arith) in
          let b = goes_on 0 steps e by (edge_on n false) (omega arith) in
          let c = own_apart e (edge_on n true) by apart in
          let f = own_apart e (edge_on n false) by apart in
          let passes' : (if passes (walk back (suc steps) (Some e)) n then by else 0) ≡ (if passes (walk back steps (back e)) n then by else 0) =
          ap (λ (t : Bool). if (t || passes (walk back steps (back e)) n) then by else 0) (ne_eqb e.net n apart) in
          omega (arith, a, b, c, f, rest, passes')
