-- The nodes with their levels.
use Rattle.std.specs.Prelude.{ℕ, List, slice_index}
use Rattle.gs_levels.specs.declared.order.Placed.{Placed}

abbrev pub placed_at : List ℕ → ℕ → Placed
placed_at level n = record { level = slice_index level n; node = n }

abbrev pub node_of : Placed → ℕ
node_of p = p.node
