-- Each graph has levels or a cycle: the search from every node comes to an end.
use Rattle.std.proofs.Common.{◌≡◌, ◌<◌, ◌≤◌, ◌+◌, ◌-◌, ◌⊎◌, ◌++◌, ℕ, suc, zero, true, false, List, [], ◌∷◌, length, take, drop, max, set, replicate, slice_index, inl, inr, arith, ap, refl, sym, ◌∙◌}
use Rattle.std.proofs.lemmas.Bool.{cases_eq, ne_eqb}
use Rattle.std.proofs.lemmas.List.{get_or-replicate, length-replicate, length-drop}
use Rattle.gs_levels.specs.declared.edges.Edge.{Edge}
use Rattle.gs_levels.specs.declared.progress.Progress.{Progress}
use Rattle.gs_levels.specs.declared.progress.Progress.TheVariants.{Fresh, Open, Done}
use Rattle.gs_levels.specs.Graph.{edge_at, IsWithin}
use Rattle.gs_levels.specs.Cycle.{IsBackwards}
use Rattle.gs_levels.specs.Incoming.{IsShortestFront}
use Rattle.gs_levels.specs.Levels.{IsOrder, HasLevels, HasCycle}
use Rattle.gs_levels.specs.Progress.{progress_at, is_fresh, is_open, steps_ahead}
use Rattle.gs_levels.specs.Search.{IsSearch, Closes, AreBegun, has, work, awaited}
use Rattle.gs_levels.proofs.CycleLaws.{is_cycle}
use Rattle.gs_levels.proofs.IncomingLaws.{front_none, front_else, front_here}
use Rattle.gs_levels.proofs.LevelLaws.{search_leveled}
use Rattle.gs_levels.proofs.Orders.{has_order}
use Rattle.gs_levels.proofs.Rings.{has_ring}
use Rattle.gs_levels.proofs.SearchLaws.{begun, begun_work, followed_on, followed_work, finished, finished_work, next_into}

-- each front of the edges has a shortest part with all edges into a node
HasFront : List Edge → ℕ → ℕ → Type 0
HasFront edges k n = (p : ℕ) × IsShortestFront edges k n p

has_front : (edges : List Edge) (k n : ℕ) → HasFront edges k n
unfolding HasFront
has_front edges zero n = (0, front_none edges n)
has_front edges (suc k) n = by_case (cases_eq (edge_at edges k).to n) (has_front edges k n)
  where
    num : k + 1 ≡ suc k
    num = omega arith

    by_case : ((edge_at edges k).to ≡ n) ⊎ ((edge_at edges k).to ≡ n → ⊥) → HasFront edges k n → HasFront edges (suc k) n
    by_case (inl here) rest = (k + 1, rw (← num) (front_here edges k n here))
    by_case (inr else) (p, f) = (p, rw (← num) (front_else edges k n p else f))

-- what a list has stands at a place
place_of : (xs : List ℕ) (n : ℕ) → has xs n ≡ true → (k : ℕ) × (k < length xs) × (slice_index xs k ≡ n)
place_of [] n h = cc
place_of (x ∷ xs) n h = by_case (cases_eq x n) (place_of xs n)
  where
    by_case : (x ≡ n) ⊎ (x ≡ n → ⊥) → (has xs n ≡ true → (k : ℕ) × (k < length xs) × (slice_index xs k ≡ n))
        → (k : ℕ) × (k < length (x ∷ xs)) × (slice_index (x ∷ xs) k ≡ n)
    by_case (inl here) rest = (0, omega arith, here)
    by_case (inr else) rest = further (rest (rw (ne_eqb x n else) at h))
      where
        further : ((k : ℕ) × (k < length xs) × (slice_index xs k ≡ n)) → (k : ℕ) × (k < length (x ∷ xs)) × (slice_index (x ∷ xs) k ≡ n)
        further (k, lk, e) = (suc k, omega arith, e)

-- all of the first nodes are begun, or one of them is fresh
HasFresh : ℕ → List Progress → Type 0
HasFresh count P = (n : ℕ) × (n < count) × (progress_at P n ≡ Fresh)

begun_or_fresh : (count : ℕ) (P : List Progress) → AreBegun count P ⊎ HasFresh count P
unfolding HasFresh
begun_or_fresh zero P = inl (λ n ln. absurd (omega arith))
begun_or_fresh (suc count) P = of_last (progress_at P count) refl (begun_or_fresh count P)
  where
    one_more : AreBegun count P → is_fresh (progress_at P count) ≡ false → AreBegun (suc count) P
    one_more before last n ln = by_place (cases_eq n count)
      where
        by_place : (n ≡ count) ⊎ (n ≡ count → ⊥) → is_fresh (progress_at P n) ≡ false
        by_place (inl here) = rw here last
        by_place (inr ne) = before n (omega arith)

    of_rest : is_fresh (progress_at P count) ≡ false → AreBegun count P ⊎ HasFresh count P → AreBegun (suc count) P ⊎ HasFresh (suc count) P
    of_rest last (inl before) = inl (one_more before last)
    of_rest last (inr (n, ln, fresh)) = inr (n, omega arith, fresh)

    of_last : (p : Progress) → progress_at P count ≡ p → AreBegun count P ⊎ HasFresh count P → AreBegun (suc count) P ⊎ HasFresh (suc count) P
    of_last Fresh e rest = inr (count, omega arith, e)
    of_last (Open left) e rest = of_rest (rw e refl) rest
    of_last Done e rest = of_rest (rw e refl) rest

-- what a graph is found to have
abbrev Found : ℕ → List Edge → Type 0
Found nodes edges = HasLevels nodes edges ⊎ HasCycle edges

module _ (nodes : ℕ) (edges : List Edge) (inside : IsWithin nodes edges) where
  module _ (P : List Progress) (L stack : List ℕ) (S : IsSearch nodes edges P L stack)
      (go : (Q : List Progress) (M rest : List ℕ) → IsSearch nodes edges Q M rest → work (length edges) Q < work (length edges) P → Found nodes edges) where
    -- nothing is open: the search is done, or begins with a fresh node
    at_rest : length stack ≡ 0 → AreBegun nodes P ⊎ HasFresh nodes P → Found nodes edges
    unfolding HasFresh HasFront
    at_rest none (inl all) = inl (with_order (has_order L))
      where
        with_order : ((order : List ℕ) × IsOrder L order) → HasLevels nodes edges
        with_order (order, o) = record { level = L; order = order; leveled = search_leveled nodes edges P L stack S none all; ordered = o }
    at_rest none (inr (w, lt, fresh)) = begin (has_front edges (length edges) w)
      where
        begin : HasFront edges (length edges) w → Found nodes edges
        begin (p, shortest) =
            go (set P w (Open p)) L (stack ++ w ∷ [])
            (begun nodes edges P L stack S w p lt fresh shortest (λ k at_end. absurd (omega arith)))
            (begun_work nodes edges P L stack S w p lt fresh shortest (λ k at_end. absurd (omega arith)))

    -- an edge from an open node to the last one closes a cycle
    closed : (place : ℕ) → Closes edges stack place → Found nodes edges
    closed place closing = inr (with_ring (has_ring (drop place stack) (omega (arith, length-drop place stack, closing.inside))))
      where
        with_ring : ((ring : List ℕ) × IsBackwards (drop place stack) ring) → HasCycle edges
        with_ring (ring, read) = record { cycle = ring; found = is_cycle nodes edges P L stack S place closing ring read }

    module _ (v : ℕ) (some : 0 < length stack) (top : v ≡ slice_index stack (length stack - 1)) where
      -- every edge into the last node was followed
      at_end : progress_at P v ≡ Open 0 → Found nodes edges
      at_end spent =
          go (set P v Done) L (take (length stack - 1) stack) (finished nodes edges P L stack S v some top spent)
          (finished_work nodes edges P L stack S v some top spent)

      -- the last node waits for the edge at place p, which leads from u
      module _ (u p : ℕ) (waiting : progress_at P v ≡ Open (p + 1)) (lp : p < length edges) (from_u : (edge_at edges p).from ≡ u) where
        into : (edge_at edges p).to ≡ v
        into = next_into nodes edges P L stack S v p some top waiting

        u_inside : u < nodes
        u_inside = rw (← from_u) ((inside p lp).0)

        waited : (k : ℕ) → k + 1 ≡ length stack → (1 < steps_ahead (length edges) (progress_at P (slice_index stack k))) × ((awaited edges (progress_at P (slice_index stack k))).from ≡ u)
        waited k at_top =
            let last : k ≡ length stack - 1 = omega arith in
            let this : slice_index stack k ≡ v = ap (slice_index stack) last ∙ sym top in
            let open_here : progress_at P (slice_index stack k) ≡ Open (p + 1) = ap (progress_at P) this ∙ waiting in
            let place : p + 1 + 1 - 2 ≡ p = omega arith in
            (rw open_here (omega arith), rw (open_here, place) from_u)

        from_fresh : progress_at P u ≡ Fresh → HasFront edges (length edges) u → Found nodes edges
        unfolding HasFront
        from_fresh fresh (q, shortest) =
            go (set P u (Open q)) L (stack ++ u ∷ []) (begun nodes edges P L stack S u q u_inside fresh shortest waited)
            (begun_work nodes edges P L stack S u q u_inside fresh shortest waited)

        from_open : ((k : ℕ) × (k < length stack) × (slice_index stack k ≡ u)) → Found nodes edges
        from_open (place, lk, here) =
            closed place (record { inside = lk; edge = (p, lp, λ i. record { from = (from_u ∙ sym here) i; to = (into ∙ top) i }) })

        from_done : progress_at P u ≡ Done → HasFront edges p v → Found nodes edges
        unfolding HasFront
        from_done done (q, shortest) =
            go (set P v (Open q)) (set L v (max (slice_index L v) (slice_index L u + 1))) stack
            (followed_on nodes edges P L stack S v u p q some top waiting lp into from_u done u_inside shortest)
            (followed_work nodes edges P L stack S v u p q some top waiting lp into from_u done u_inside shortest)

        by_source : (s : Progress) → progress_at P u ≡ s → Found nodes edges
        by_source Fresh e = from_fresh e (has_front edges (length edges) u)
        by_source (Open left) e = from_open (place_of stack u (S.on_stack u u_inside (rw e refl)))
        by_source Done e = from_done e (has_front edges p v)

      onward : (left : ℕ) → progress_at P v ≡ Open left → left ≤ length edges → Found nodes edges
      onward zero e few = at_end e
      onward (suc p) e few =
          let num : suc p ≡ p + 1 = omega arith in
          by_source (edge_at edges p).from p (e ∙ ap Open num) (omega arith) refl (progress_at P (edge_at edges p).from) refl

      of_top : (t : Progress) → progress_at P v ≡ t → is_open t ≡ true → Found nodes edges
      of_top Fresh e o = cc
      of_top Done e o = cc
      of_top (Open left) e o =
          let v_inside : v < nodes = omega (arith, S.stack_inside (length stack - 1) (omega arith)) in
          onward left e (S.open_front v left v_inside e)

    step : (length stack ≡ 0) ⊎ (length stack ≡ 0 → ⊥) → Found nodes edges
    step (inl none) = at_rest none (begun_or_fresh nodes P)
    step (inr ne) =
        let some : 0 < length stack = omega arith in
        of_top (slice_index stack (length stack - 1)) some refl (progress_at P (slice_index stack (length stack - 1))) refl
        (S.stack_open (length stack - 1) (omega arith))

  search_on : (bound : ℕ) (P : List Progress) (L stack : List ℕ) → IsSearch nodes edges P L stack → work (length edges) P < bound → Found nodes edges
  search_on zero P L stack S low = absurd (omega arith)
  search_on (suc bound) P L stack S low =
      step P L stack S (λ Q M rest T less. search_on bound Q M rest T (omega arith)) (cases_eq (length stack) 0)

  -- nothing is begun
  abbrev P0 : List Progress
  P0 = replicate nodes Fresh

  abbrev L0 : List ℕ
  L0 = replicate nodes 0

  fresh_at : (n : ℕ) → n < nodes → progress_at P0 n ≡ Fresh
  fresh_at n ln = get_or-replicate nodes n Fresh Fresh ln

  zero_at : (n : ℕ) → n < nodes → slice_index L0 n ≡ 0
  zero_at n ln = get_or-replicate nodes n 0 0 ln

  start : IsSearch nodes edges P0 L0 []
  start = record {
    each_progress = length-replicate nodes Fresh;
    each_level = length-replicate nodes 0;
    open_front = λ n left ln o. let f = fresh_at n ln in cc;
    open_edge = λ n left ln o some. let f = fresh_at n ln in cc;
    followed = λ n i ln li into st. let f = fresh_at n ln in let many : length edges + 2 ≤ i + 1 = rw f at st in absurd (omega arith);
    reached = λ n ln. inl (zero_at n ln);
    low = λ n ln. omega (arith, zero_at n ln);
    low_done = λ n ln d. let f = fresh_at n ln in cc;
    on_stack = λ n ln o. let f : is_open (progress_at P0 n) ≡ false = rw (fresh_at n ln) refl in cc;
    stack_inside = λ k lk. absurd (omega arith);
    stack_open = λ k lk. absurd (omega arith);
    apart = λ j k jk lk. absurd (omega arith);
    waits = λ k lk. absurd (omega arith);
  }

  pub decided : Found nodes edges
  decided = search_on (work (length edges) P0 + 1) P0 L0 [] start (omega arith)
