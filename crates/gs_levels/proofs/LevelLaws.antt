-- When every node is done, its level is that of the graph's definition, and a graph with levels has no cycle.
use Rattle.std.proofs.Common.{◌≡◌, ◌<◌, ◌≤◌, ◌+◌, ◌-◌, ◌⊎◌, ℕ, suc, zero, true, false, List, [], ◌∷◌, length, slice_index, inl, inr, arith, ap, refl}
use Rattle.std.proofs.lemmas.Bool.{cases_eq, eq-eqb, ne_eqb}
use Rattle.gs_levels.specs.declared.edges.Edge.{Edge}
use Rattle.gs_levels.specs.declared.progress.Progress.{Progress}
use Rattle.gs_levels.specs.declared.progress.Progress.TheVariants.{Fresh, Open, Done}
use Rattle.gs_levels.specs.Graph.{edge_at, HasEdge, IsWithin}
use Rattle.gs_levels.specs.Levels.{above, IsLeveled, IsCycle}
use Rattle.gs_levels.specs.Progress.{progress_at, is_fresh, is_open, steps_ahead}
use Rattle.gs_levels.specs.Search.{IsSearch, IsReached, AreBegun, has}

-- no bound on the levels before a node is passed over
above-le : (edges : List Edge) (level : List ℕ) (n b : ℕ) → ((i : ℕ) → i < length edges → (edge_at edges i).to ≡ n → slice_index level (edge_at edges i).from + 1 ≤ b) → above edges level n ≤ b
above-le [] level n b h = omega arith
above-le (e ∷ edges) level n b h = by_case (cases_eq e.to n) (above-le edges level n b (λ i li into. h (suc i) (omega arith) into))
  where
    by_case : (e.to ≡ n) ⊎ (e.to ≡ n → ⊥) → above edges level n ≤ b → above (e ∷ edges) level n ≤ b
    by_case (inl into) rest =
        let first : slice_index level e.from + 1 ≤ b = h 0 (omega arith) into in
        rw (eq-eqb e.to n into) (omega arith)
    by_case (inr else) rest = rw (ne_eqb e.to n else) rest

-- each edge into a node counts
pub above-ge : (edges : List Edge) (level : List ℕ) (n i : ℕ) → i < length edges → (edge_at edges i).to ≡ n → slice_index level (edge_at edges i).from + 1 ≤ above edges level n
above-ge [] level n i li into = absurd (omega arith)
above-ge (e ∷ edges) level n zero li into = rw (eq-eqb e.to n into) (omega arith)
above-ge (e ∷ edges) level n (suc i) li into = by_case (cases_eq e.to n) (above-ge edges level n i (omega arith) into)
  where
    by_case : (e.to ≡ n) ⊎ (e.to ≡ n → ⊥) → slice_index level (edge_at edges i).from + 1 ≤ above edges level n → slice_index level (edge_at edges i).from + 1 ≤ above (e ∷ edges) level n
    by_case (inl here) rest = rw (eq-eqb e.to n here) (omega arith)
    by_case (inr else) rest = rw (ne_eqb e.to n else) rest

module _ (nodes : ℕ) (edges : List Edge) (P : List Progress) (L stack : List ℕ) (S : IsSearch nodes edges P L stack) (none : length stack ≡ 0) (begun : AreBegun nodes P) where
  -- a node that is neither fresh nor open is done
  settled : (p : Progress) → is_fresh p ≡ false → (is_open p ≡ true → ⊥) → p ≡ Done
  settled Fresh f o = cc
  settled (Open left) f o = absurd (o refl)
  settled Done f o = refl

  nothing_on : (xs : List ℕ) (n : ℕ) → length xs ≡ 0 → has xs n ≡ true → ⊥
  nothing_on [] n e h = cc
  nothing_on (x ∷ xs) n e h = absurd (omega arith)

  all_done : (n : ℕ) → n < nodes → progress_at P n ≡ Done
  all_done n ln = settled (progress_at P n) (begun n ln) (λ o. nothing_on stack n none (S.on_stack n ln o))

  rises : (i : ℕ) (n : ℕ) → n < nodes → i < length edges → (edge_at edges i).to ≡ n → slice_index L (edge_at edges i).from + 1 ≤ slice_index L n
  rises i n ln li into =
      let ahead : steps_ahead (length edges) (progress_at P n) ≤ i + 1 = rw (all_done n ln) (omega arith) in
      omega (arith, (S.followed n i ln li into ahead).1)

  level_is : (n : ℕ) → n < nodes → slice_index L n ≡ above edges L n
  level_is n ln = by_case (S.reached n ln)
    where
      most : above edges L n ≤ slice_index L n
      most = above-le edges L n (slice_index L n) (λ i li into. rises i n ln li into)

      by_case : IsReached edges P L n → slice_index L n ≡ above edges L n
      by_case (inl zero_level) = omega (arith, most)
      by_case (inr (i, li, into, d, e)) = omega (arith, most, above-ge edges L n i li into)

  pub search_leveled : IsLeveled nodes edges L
  search_leveled = record { each = S.each_level; levels = level_is }

-- along the edges of a graph with levels the levels rise
module _ (nodes : ℕ) (edges : List Edge) (L : List ℕ) (inside : IsWithin nodes edges) (v : IsLeveled nodes edges L) where
  goes_up : (a b : ℕ) → HasEdge edges a b → slice_index L a < slice_index L b
  goes_up a b (i, li, e) =
      let into : (edge_at edges i).to ≡ b = ap (λ (x : Edge). x.to) e in
      let from : (edge_at edges i).from ≡ a = ap (λ (x : Edge). x.from) e in
      let below : b < nodes = rw (← into) ((inside i li).1) in
      let least : slice_index L (edge_at edges i).from + 1 ≤ above edges L b = above-ge edges L b i li into in
      let lower : slice_index L a + 1 ≤ above edges L b = rw (← from) least in
      omega (arith, v.levels b below)

  climbs : (cycle : List ℕ) → IsCycle edges cycle → (k : ℕ) → k < length cycle → slice_index L (slice_index cycle 0) ≤ slice_index L (slice_index cycle k)
  climbs cycle c zero lk = omega arith
  climbs cycle c (suc k) lk =
      let num : k + 1 ≡ suc k = omega arith in
      let up : slice_index L (slice_index cycle k) < slice_index L (slice_index cycle (k + 1)) = goes_up (slice_index cycle k) (slice_index cycle (k + 1)) (c.next k (omega arith)) in
      let up' : slice_index L (slice_index cycle k) < slice_index L (slice_index cycle (suc k)) = rw num at up in
      omega (arith, climbs cycle c k (omega arith))

  -- a graph with levels has no cycle
  pub no_cycle : (cycle : List ℕ) → IsCycle edges cycle → ⊥
  no_cycle cycle c =
      let up = goes_up (slice_index cycle (length cycle - 1)) (slice_index cycle 0) c.closes in
      let highest : slice_index L (slice_index cycle 0) ≤ slice_index L (slice_index cycle (length cycle - 1)) = climbs cycle c (length cycle - 1) (omega (arith, c.some)) in
      absurd (omega (arith, up))
