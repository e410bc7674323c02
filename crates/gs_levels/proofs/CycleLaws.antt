-- An edge from an open node of the stack to the last one closes a cycle, which the stack has backwards.
use Rattle.std.proofs.Common.{◌≡◌, ◌<◌, ◌≤◌, ◌+◌, ◌-◌, ◌⊎◌, nat_le, ℕ, true, false, List, length, drop, slice_index, inl, inr, arith, sym, ◌∙◌, ap, refl}
use Rattle.std.proofs.lemmas.Bool.{cases_lt, le-leb, false_from_ne_true, leb-true}
use Rattle.std.proofs.lemmas.List.{get_or-drop, length-drop}
use Rattle.gs_levels.specs.declared.edges.Edge.{Edge}
use Rattle.gs_levels.specs.declared.progress.Progress.{Progress}
use Rattle.gs_levels.specs.declared.progress.Progress.TheVariants.{Fresh, Open, Done}
use Rattle.gs_levels.specs.Cycle.{back, IsBackwards}
use Rattle.gs_levels.specs.Graph.{edge_at, HasEdge}
use Rattle.gs_levels.specs.Levels.{IsCycle}
use Rattle.gs_levels.specs.Progress.{progress_at, is_open, steps_ahead}
use Rattle.gs_levels.specs.Search.{IsSearch, Closes, awaited}

-- back within the places before, and round the ring
back_before : (f n k : ℕ) → k ≤ f → back f n k ≡ f - k
back_before f n k h = rw (le-leb k f h) refl

back_round : (f n k : ℕ) → f < k → back f n k ≡ n - (k - f)
back_round f n k h =
    let after : nat_le k f ≡ false = false_from_ne_true (nat_le k f) (λ t. let low : k ≤ f = leb-true k f t in absurd (omega arith)) in
    rw after refl

back_cases : (f n k : ℕ) → f < n → k < n → ((k ≤ f) × (back f n k ≡ f - k)) ⊎ ((f < k) × (back f n k ≡ n - (k - f)))
back_cases f n k lf lk = by_order (cases_lt f k)
  where
    by_order : (f < k) ⊎ (k ≤ f) → ((k ≤ f) × (back f n k ≡ f - k)) ⊎ ((f < k) × (back f n k ≡ n - (k - f)))
    by_order (inl past) = inr (past, back_round f n k past)
    by_order (inr within) = inl (within, back_before f n k within)

back_inside : (f n k : ℕ) → f < n → k < n → back f n k < n
back_inside f n k lf lk = by_case (back_cases f n k lf lk)
  where
    by_case : ((k ≤ f) × (back f n k ≡ f - k)) ⊎ ((f < k) × (back f n k ≡ n - (k - f))) → back f n k < n
    by_case (inl (within, e)) = omega (arith, e)
    by_case (inr (past, e)) = omega (arith, e)

back_apart : (f n j k : ℕ) → f < n → j < k → k < n → back f n j ≡ back f n k → ⊥
back_apart f n j k lf jk lk same = by_case (back_cases f n j lf (omega arith)) (back_cases f n k lf lk)
  where
    by_case : ((j ≤ f) × (back f n j ≡ f - j)) ⊎ ((f < j) × (back f n j ≡ n - (j - f))) → ((k ≤ f) × (back f n k ≡ f - k)) ⊎ ((f < k) × (back f n k ≡ n - (k - f))) → ⊥
    by_case (inl (jf, ej)) (inl (kf, ek)) = absurd (omega (arith, ej, ek))
    by_case (inl (jf, ej)) (inr (kf, ek)) = absurd (omega (arith, ej, ek))
    by_case (inr (jf, ej)) (inl (kf, ek)) = absurd (omega (arith, ej, ek))
    by_case (inr (jf, ej)) (inr (kf, ek)) = absurd (omega (arith, ej, ek))

-- one step further back: the place before, or from the first to the last
back_more : (f n k : ℕ) → f < n → k + 1 < n → (back f n k ≡ back f n (k + 1) + 1) ⊎ ((back f n k ≡ 0) × (back f n (k + 1) ≡ n - 1))
back_more f n k lf lk = by_case (back_cases f n k lf (omega arith)) (back_cases f n (k + 1) lf lk)
  where
    by_case : ((k ≤ f) × (back f n k ≡ f - k)) ⊎ ((f < k) × (back f n k ≡ n - (k - f))) → ((k + 1 ≤ f) × (back f n (k + 1) ≡ f - (k + 1))) ⊎ ((f < k + 1) × (back f n (k + 1) ≡ n - (k + 1 - f)))
        → (back f n k ≡ back f n (k + 1) + 1) ⊎ ((back f n k ≡ 0) × (back f n (k + 1) ≡ n - 1))
    by_case (inl (kf, ek)) (inl (mf, em)) = inl (omega (arith, ek, em))
    by_case (inl (kf, ek)) (inr (mf, em)) = inr (omega (arith, ek), omega (arith, em))
    by_case (inr (kf, ek)) (inl (mf, em)) = absurd (omega arith)
    by_case (inr (kf, ek)) (inr (mf, em)) = inl (omega (arith, ek, em))

-- from the last step to the place that it began at
back_end : (f n : ℕ) → f < n → (back f n (n - 1) ≡ f + 1) ⊎ ((back f n (n - 1) ≡ 0) × (f ≡ n - 1))
back_end f n lf = by_case (back_cases f n (n - 1) lf (omega arith))
  where
    by_case : ((n - 1 ≤ f) × (back f n (n - 1) ≡ f - (n - 1))) ⊎ ((f < n - 1) × (back f n (n - 1) ≡ n - (n - 1 - f))) → (back f n (n - 1) ≡ f + 1) ⊎ ((back f n (n - 1) ≡ 0) × (f ≡ n - 1))
    by_case (inl (within, e)) = inr (omega (arith, e), omega arith)
    by_case (inr (past, e)) = inl (omega (arith, e))

module _ (nodes : ℕ) (edges : List Edge) (P : List Progress) (L stack : List ℕ) (S : IsSearch nodes edges P L stack) where
  -- the edge from a node of the stack to the one before it
  edge_back : (k : ℕ) → k + 1 < length stack → HasEdge edges (slice_index stack (k + 1)) (slice_index stack k)
  edge_back k lk = from_progress (progress_at P (slice_index stack k)) refl (S.stack_open k (omega arith)) (S.waits k lk)
    where
      from_progress : (p : Progress) → progress_at P (slice_index stack k) ≡ p → is_open p ≡ true
          → (1 < steps_ahead (length edges) p) × ((awaited edges p).from ≡ slice_index stack (k + 1)) → HasEdge edges (slice_index stack (k + 1)) (slice_index stack k)
      from_progress Fresh e o w = cc
      from_progress Done e o w = cc
      from_progress (Open left) e o w =
          let inside : slice_index stack k < nodes = S.stack_inside k (omega arith) in
          let some : 0 < left = omega (arith, w.0) in
          let place : left + 1 - 2 ≡ left - 1 = omega arith in
          let source : (edge_at edges (left - 1)).from ≡ slice_index stack (k + 1) = rw place at w.1 in
          let within : left - 1 < length edges = omega (arith, S.open_front (slice_index stack k) left inside e) in
          (left - 1, within, λ i. record { from = source i; to = S.open_edge (slice_index stack k) left inside e some i })

  module _ (place : ℕ) (closing : Closes edges stack place) (cycle : List ℕ) (read : IsBackwards (drop place stack) cycle) where
    many : length (drop place stack) ≡ length stack - place
    many = length-drop place stack

    abbrev n : ℕ
    n = length (drop place stack)

    at : (k : ℕ) → slice_index (drop place stack) k ≡ slice_index stack (place + k)
    at k = get_or-drop place stack k 0

    -- edges from each place to the one before, and from the first to the last
    edge_before : (k : ℕ) → k + 1 < n → HasEdge edges (slice_index (drop place stack) (k + 1)) (slice_index (drop place stack) k)
    edge_before k lk =
        let next : place + (k + 1) ≡ place + k + 1 = omega arith in
        rw (at (k + 1), at k, next) (edge_back (place + k) (omega (arith, many)))

    edge_round : HasEdge edges (slice_index (drop place stack) 0) (slice_index (drop place stack) (n - 1))
    edge_round =
        let first : place + 0 ≡ place = omega arith in
        let last : place + (n - 1) ≡ length stack - 1 = omega (arith, many, closing.inside) in
        rw (at 0, at (n - 1), first, last) closing.edge

    abbrev b : ℕ → ℕ
    b k = back read.least n k

    node_at : (k : ℕ) → k < n → slice_index cycle k ≡ slice_index (drop place stack) (b k)
    node_at k lk = read.nodes_are k lk

    apart : (i j : ℕ) → i < n → j < n → (i ≡ j → ⊥) → slice_index (drop place stack) i ≡ slice_index (drop place stack) j → ⊥
    apart i j li lj ne same = by_order (cases_lt i j)
      where
        by_order : (i < j) ⊎ (j ≤ i) → ⊥
        by_order (inl before) = S.apart (place + i) (place + j) (omega arith) (omega (arith, many)) (sym (at i) ∙ same ∙ at j)
        by_order (inr after) = S.apart (place + j) (place + i) (omega arith) (omega (arith, many)) (sym (at j) ∙ sym same ∙ at i)

    next_of : (k : ℕ) → k + 1 < length cycle → HasEdge edges (slice_index cycle k) (slice_index cycle (k + 1))
    next_of k lk = by_case (back_more read.least n k read.inside (omega (arith, read.each)))
      where
        this : slice_index cycle k ≡ slice_index (drop place stack) (b k)
        this = node_at k (omega (arith, read.each))

        then : slice_index cycle (k + 1) ≡ slice_index (drop place stack) (b (k + 1))
        then = node_at (k + 1) (omega (arith, read.each))

        by_case : (b k ≡ b (k + 1) + 1) ⊎ ((b k ≡ 0) × (b (k + 1) ≡ n - 1)) → HasEdge edges (slice_index cycle k) (slice_index cycle (k + 1))
        by_case (inl e) =
            let inside : b k < n = back_inside read.least n k read.inside (omega (arith, read.each)) in
            rw (this, then, e) (edge_before (b (k + 1)) (omega (arith, e)))
        by_case (inr (e, f)) = rw (this, then, e, f) edge_round

    closes_of : HasEdge edges (slice_index cycle (length cycle - 1)) (slice_index cycle 0)
    closes_of = by_case (back_end read.least n read.inside)
      where
        some : 0 < n
        some = omega (arith, read.inside)

        last : slice_index cycle (length cycle - 1) ≡ slice_index (drop place stack) (b (n - 1))
        last = let e : length cycle ≡ n = read.each in rw e (node_at (n - 1) (omega (arith, some)))

        first : slice_index cycle 0 ≡ slice_index (drop place stack) read.least
        first = node_at 0 some ∙ ap (slice_index (drop place stack)) (back_before read.least n 0 (omega arith) ∙ omega arith)

        by_case : (b (n - 1) ≡ read.least + 1) ⊎ ((b (n - 1) ≡ 0) × (read.least ≡ n - 1)) → HasEdge edges (slice_index cycle (length cycle - 1)) (slice_index cycle 0)
        by_case (inl e) =
            let inside : b (n - 1) < n = back_inside read.least n (n - 1) read.inside (omega (arith, some)) in
            rw (last, first, e) (edge_before read.least (omega (arith, e)))
        by_case (inr (e, f)) = rw (last, first, e, f) edge_round

    least_of : (k : ℕ) → k < length cycle → slice_index cycle 0 ≤ slice_index cycle k
    least_of k lk =
        let first : slice_index cycle 0 ≡ slice_index (drop place stack) read.least =
        node_at 0 (omega (arith, read.inside)) ∙ ap (slice_index (drop place stack)) (back_before read.least n 0 (omega arith) ∙ omega arith) in
        let this : slice_index cycle k ≡ slice_index (drop place stack) (b k) = node_at k (omega (arith, read.each)) in
        rw (first, this) (read.is_least (b k) (back_inside read.least n k read.inside (omega (arith, read.each))))

    pub is_cycle : IsCycle edges cycle
    is_cycle = record {
      some = omega (arith, read.each, read.inside);
      distinct = λ j k jk lk same. apart (b j) (b k) (back_inside read.least n j read.inside (omega (arith, read.each))) (back_inside read.least n k read.inside (omega (arith, read.each)))
          (back_apart read.least n j k read.inside jk (omega (arith, read.each)))
          (sym (node_at j (omega (arith, read.each))) ∙ same ∙ node_at k (omega (arith, read.each)));
      least = least_of;
      next = next_of;
      closes = closes_of;
    }
