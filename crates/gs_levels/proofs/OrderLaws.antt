-- Sorting the nodes with their levels gives the order.
use Rattle.std.proofs.Common.{◌≡◌, ◌<◌, ◌≤◌, ◌+◌, ◌⊎◌, ℕ, true, false, List, length, map, get_or, slice_index, nat_cmp, inl, inr, arith, sym, ◌∙◌, ap, refl, subst}
use Rattle.std.specs.Prelude.{IsPermutation}
use Rattle.std.specs.List.{All, range_with_len}
use Rattle.std.specs.List.Sorted.{IsSorted}
use Rattle.std.specs.Ordering.{is_lt, ordering_then}
use Rattle.std.specs.declared.cmp.Ordering.{Ordering}
use Rattle.std.specs.declared.cmp.Ordering.TheVariants.{Less, Equal}
use Rattle.std.specs.Cmp.{nat_cmp_is}
use Rattle.std.proofs.lemmas.Bool.{cases_eq, cases_lt}
use Rattle.std.proofs.lemmas.List.{get_or-map, map-id, length-map}
use Rattle.std.proofs.lemmas.List.FromFn.{get_or-map-range_with_len, length-map-range_with_len}
use Rattle.std.proofs.lemmas.List.Sorted.{All-permutation, IsPermutation-map}
use Rattle.std.proofs.lemmas.Map.Keys.{ge_from_not_lt}
use Rattle.std.proofs.lemmas.Simd.{map-map}
use Rattle.gs_levels.specs.declared.order.Placed.{Placed}
use Rattle.gs_levels.specs.Levels.{ComesFirst, IsOrder}
use Rattle.gs_levels.specs.Order.{placed_at, node_of}

abbrev placed_cmp : Placed → Placed → Ordering
placed_cmp a b = ordering_then (nat_cmp a.level b.level) (nat_cmp a.node b.node)

-- what doesn't come after another comes first, by level and then by number
not_after : (a b : Placed) → is_lt (placed_cmp b a) ≡ false → (a.level < b.level) ⊎ ((a.level ≡ b.level) × (a.node ≤ b.node))
not_after a b h = by_order (cases_lt a.level b.level) (cases_eq b.level a.level)
  where
    by_order : (a.level < b.level) ⊎ (b.level ≤ a.level) → (b.level ≡ a.level) ⊎ (b.level ≡ a.level → ⊥) → (a.level < b.level) ⊎ ((a.level ≡ b.level) × (a.node ≤ b.node))
    by_order (inl lower) any = inl lower
    by_order (inr higher) (inl e) =
        let equal : Equal ≡ nat_cmp b.level a.level = nat_cmp_is b.level a.level Equal e in
        let nodes : is_lt (nat_cmp b.node a.node) ≡ false = ap (λ o. is_lt (ordering_then o (nat_cmp b.node a.node))) equal ∙ h in
        inr (sym e, ge_from_not_lt b.node a.node nodes)
    by_order (inr higher) (inr ne) =
        let less : Less ≡ nat_cmp b.level a.level = nat_cmp_is b.level a.level Less (omega arith) in
        let never : true ≡ false = ap (λ o. is_lt (ordering_then o (nat_cmp b.node a.node))) less ∙ h in
        cc

-- the level that a node is placed with is its level
HasLevel : List ℕ → Placed → Type 0
HasLevel level p = p.level ≡ slice_index level p.node

all_placed : (level : List ℕ) (n : ℕ) → All (HasLevel level) (map (placed_at level) (range_with_len 0 n))
unfolding HasLevel
all_placed level n k d lk =
    let below : k < n = omega (arith, length-map-range_with_len (placed_at level) 0 n) in
    let is : get_or (map (placed_at level) (range_with_len 0 n)) k d ≡ placed_at level k = get_or-map-range_with_len (placed_at level) 0 n k k d below (omega arith) in
    subst (λ (p : Placed). p.level ≡ slice_index level p.node) (sym is) refl

pub sorted_order : (level : List ℕ) (sorted : List Placed)
    → IsPermutation (map (placed_at level) (range_with_len 0 (length level))) sorted → IsSorted placed_cmp sorted → IsOrder level (map node_of sorted)
unfolding HasLevel
sorted_order level sorted permutation ascending = record {
  once = subst (λ (xs : List ℕ). IsPermutation xs (map node_of sorted)) same_nodes (IsPermutation-map node_of (map (placed_at level) (range_with_len 0 (length level))) sorted permutation);
  rising = rises;
}
  where
    same_nodes : map node_of (map (placed_at level) (range_with_len 0 (length level))) ≡ range_with_len 0 (length level)
    same_nodes = map-map node_of (placed_at level) (range_with_len 0 (length level)) ∙ map-id (range_with_len 0 (length level))

    leveled : All (HasLevel level) sorted
    leveled = All-permutation (HasLevel level) (map (placed_at level) (range_with_len 0 (length level))) sorted permutation (all_placed level (length level))

    none : Placed
    none = record { level = 0; node = 0 }

    rises : (k : ℕ) → k + 1 < length (map node_of sorted) → ComesFirst level (slice_index (map node_of sorted) k) (slice_index (map node_of sorted) (k + 1))
    rises k lk =
        let many : length (map node_of sorted) ≡ length sorted = length-map sorted node_of in
        let this : slice_index (map node_of sorted) k ≡ (get_or sorted k none).node = get_or-map node_of sorted k none 0 (omega arith) in
        let next : slice_index (map node_of sorted) (k + 1) ≡ (get_or sorted (k + 1) none).node = get_or-map node_of sorted (k + 1) none 0 (omega arith) in
        let level_this : (get_or sorted k none).level ≡ slice_index level (get_or sorted k none).node = leveled k none (omega arith) in
        let level_next : (get_or sorted (k + 1) none).level ≡ slice_index level (get_or sorted (k + 1) none).node = leveled (k + 1) none (omega arith) in
        rw (this, next, ← level_this, ← level_next) (not_after (get_or sorted k none) (get_or sorted (k + 1) none) (ascending k none (omega arith) (omega arith)))
