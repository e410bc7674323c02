-- The shortest fronts as one more edge is read.
use Rattle.std.proofs.Common.{◌≡◌, ◌<◌, ◌≤◌, ◌+◌, ◌-◌, ◌⊎◌, ◌++◌, ◌∷◌, [], ℕ, List, length, set, slice_index, inl, inr, arith, sym, ◌∙◌}
use Rattle.std.proofs.lemmas.List.{get_or-set_same, get_or-set_other, get_or_append_left, get_or_push}
use Rattle.std.proofs.lemmas.Bool.{cases_eq}
use Rattle.gs_levels.specs.declared.edges.Edge.{Edge}
use Rattle.gs_levels.specs.Graph.{edge_at}
use Rattle.gs_levels.specs.Incoming.{IsShortestFront}

-- no edge was read
pub front_none : (edges : List Edge) (n : ℕ) → IsShortestFront edges 0 n 0
front_none edges n = record {
  within = omega arith;
  none_past = λ i above below. absurd (omega arith);
  last = λ some. absurd (omega arith);
}

-- the edge leads into another node
pub front_else : (edges : List Edge) (k n p : ℕ) → ((edge_at edges k).to ≡ n → ⊥) → IsShortestFront edges k n p → IsShortestFront edges (k + 1) n p
front_else edges k n p ne f = record {
  within = omega (arith, f.within);
  none_past = λ i above below. by_case i above below (cases_eq i k);
  last = f.last;
}
  where
    by_case : (i : ℕ) → p ≤ i → i < k + 1 → (i ≡ k) ⊎ (i ≡ k → ⊥) → (edge_at edges i).to ≡ n → ⊥
    by_case i above below (inl e) = rw e ne
    by_case i above below (inr other) = f.none_past i above (omega arith)

-- the edge leads into the node
pub front_here : (edges : List Edge) (k n : ℕ) → (edge_at edges k).to ≡ n → IsShortestFront edges (k + 1) n (k + 1)
front_here edges k n e = record {
  within = omega arith;
  none_past = λ i above below. absurd (omega arith);
  last = λ some. let place : k + 1 - 1 ≡ k = omega arith in rw place e;
}

-- the fronts of all nodes
pub all_more : (edges : List Edge) (all : List ℕ) (k node : ℕ) → (edge_at edges k).to ≡ node → node < length all
    → ((n : ℕ) → n < length all → IsShortestFront edges k n (slice_index all n))
    → (n : ℕ) → n < length all → IsShortestFront edges (k + 1) n (slice_index (set all node (k + 1)) n)
all_more edges all k node into inside fronts n ln = by_case (cases_eq n node)
  where
    by_case : (n ≡ node) ⊎ (n ≡ node → ⊥) → IsShortestFront edges (k + 1) n (slice_index (set all node (k + 1)) n)
    by_case (inl e) =
        let here : slice_index (set all node (k + 1)) node ≡ k + 1 = get_or-set_same all node (k + 1) 0 inside in
        rw (e, here) (front_here edges k node into)
    by_case (inr ne) =
        let same : slice_index (set all node (k + 1)) n ≡ slice_index all n = get_or-set_other all node n (k + 1) 0 ne in
        rw same (front_else edges k n (slice_index all n) (λ e. ne (sym e ∙ into)) (fronts n ln))

-- the fronts of all edges so far
pub before_more : (edges : List Edge) (before : List ℕ) (k p : ℕ) → length before ≡ k → IsShortestFront edges k (edge_at edges k).to p
    → ((i : ℕ) → i < k → IsShortestFront edges i (edge_at edges i).to (slice_index before i))
    → (i : ℕ) → i < k + 1 → IsShortestFront edges i (edge_at edges i).to (slice_index (before ++ p ∷ []) i)
before_more edges before k p many here fronts i li = by_case (cases_eq i k)
  where
    by_case : (i ≡ k) ⊎ (i ≡ k → ⊥) → IsShortestFront edges i (edge_at edges i).to (slice_index (before ++ p ∷ []) i)
    by_case (inl e) =
        let last : slice_index (before ++ p ∷ []) k ≡ p = get_or_push before p 0 k many in
        rw (e, last) here
    by_case (inr ne) =
        let below : i < k = omega arith in
        let same : slice_index (before ++ p ∷ []) i ≡ slice_index before i = get_or_append_left before (p ∷ []) 0 i (omega arith) in
        rw same (fronts i below)
