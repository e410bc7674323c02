-- What comes by edges after one more flow, and where nothing comes.

use Rattle.std.proofs.Common.{◌≡◌, ℕ, ◌+◌, ◌<◌, ◌≤◌, ◌&&◌, ◌⊎◌, inl, inr, Bool, true, false, List, ◌++◌, length, take, drop, slice_index_or, slice_set, refl, sym, ◌∙◌, ap, arith, eq-eqb}
use Rattle.std.specs.Prelude.{if◌then◌else◌}
use Rattle.std.proofs.lemmas.Bool.{cases_eq, cases_lt, ne_eqb}
use Rattle.std.proofs.lemmas.List.{append-nil, drop_all, get_or-set_other, get_or-set_same, get_or_past, take_all}
use Rattle.gs_lagrange.specs.Flow.{flow_at, flow_on, is_edge, no_flow, same_rise}
use Rattle.gs_lagrange.specs.declared.edge.NetEdge.{NetEdge}
use Rattle.gs_lagrange.specs.declared.flow.Flow.{Flow}

-- a list that was written whole
pub whole_written : {X : Type 0} (xs ys : List X) (n : ℕ) → length xs ≡ length ys → n ≡ length ys → take n (xs ++ drop (length xs) ys) ≡ xs
whole_written xs ys n same count =
    ap (λ rest. take n (xs ++ rest)) (drop_all (length xs) ys (omega (arith, same))) ∙ ap (take n) (append-nil xs) ∙ take_all n xs (omega (arith, same, count))

none_on : (rise : Bool) → flow_on rise no_flow ≡ 0
none_on true = refl
none_on false = refl

pub cleared : (fs : List Flow) → ((k : ℕ) → k < length fs → slice_index_or fs k no_flow ≡ no_flow) → (e : NetEdge) → flow_at fs e ≡ 0
cleared fs h e = by_net (cases_lt e.net (length fs))
  where
    by_net : (e.net < length fs) ⊎ (length fs ≤ e.net) → flow_at fs e ≡ 0
    by_net (inl lt) = ap (flow_on e.rise) (h e.net lt) ∙ none_on e.rise
    by_net (inr past) = ap (flow_on e.rise) (get_or_past fs e.net no_flow past) ∙ none_on e.rise

module _ (fs : List Flow) (e : NetEdge) (by : ℕ) (more : Flow) (lt : e.net < length fs) (is : (r : Bool) → flow_on r more ≡ flow_on r (slice_index_or fs e.net no_flow) + (if same_rise e.rise r then by else 0)) where
  here : (q : NetEdge) → q.net ≡ e.net → flow_at (slice_set fs e.net more) q ≡ flow_at fs q + (if is_edge e q then by else 0)
  here q same =
      let now' : slice_index_or (slice_set fs e.net more) q.net no_flow ≡ more = ap (λ n. slice_index_or (slice_set fs e.net more) n no_flow) same ∙ get_or-set_same fs e.net more no_flow lt in
      let test : (if is_edge e q then by else 0) ≡ (if same_rise e.rise q.rise then by else 0) = ap (λ (b : Bool). if (b && same_rise e.rise q.rise) then by else 0) (eq-eqb e.net q.net (sym same)) in
      let before : flow_at fs q ≡ flow_on q.rise (slice_index_or fs e.net no_flow) = ap (λ n. flow_on q.rise (slice_index_or fs n no_flow)) same in
      ap (flow_on q.rise) now' ∙ is q.rise ∙ ap (λ n. n + (if same_rise e.rise q.rise then by else 0)) (sym before) ∙ ap (λ n. flow_at fs q + n) (sym test)

  elsewhere : (q : NetEdge) → (q.net ≡ e.net → ⊥) → flow_at (slice_set fs e.net more) q ≡ flow_at fs q + (if is_edge e q then by else 0)
  elsewhere q apart =
      let none' : (if is_edge e q then by else 0) ≡ 0 = ap (λ (b : Bool). if (b && same_rise e.rise q.rise) then by else 0) (ne_eqb e.net q.net (λ same. apart (sym same))) in
      let same = ap (flow_on q.rise) (get_or-set_other fs e.net q.net more no_flow apart) in
      omega (arith, none', same)

  pub added_at : (q : NetEdge) → flow_at (slice_set fs e.net more) q ≡ flow_at fs q + (if is_edge e q then by else 0)
  added_at q = by_net (cases_eq q.net e.net)
    where
      by_net : (q.net ≡ e.net) ⊎ (q.net ≡ e.net → ⊥) → flow_at (slice_set fs e.net more) q ≡ flow_at fs q + (if is_edge e q then by else 0)
      by_net (inl same) = here q same
      by_net (inr apart) = elsewhere q apart
