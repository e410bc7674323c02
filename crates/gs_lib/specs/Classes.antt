-- Classes of cells that may take each other's place, by a key. No public clause names this.

use Rattle.std.specs.Prelude.{ℕ, ◌+◌, ◌*◌, ◌%◌, ◌==◌, ◌&&◌, fold, Bool, true, false, List, [], ◌∷◌, length, filter, map, Option, None, Some}
use Rattle.std.specs.Cmp.Lexicographic.{slice_cmp}
use Rattle.std.specs.List.{flat_map}
use Rattle.std.specs.Ordering.{nat_cmp, ordering_then}
use Rattle.std.specs.declared.cmp.Ordering.{Ordering}
use Rattle.std.specs.Str.{bytes_eq}
use Rattle.gs_design.specs.Cell.{pin_name}
use Rattle.gs_design.specs.declared.kind.CellKind.{CellKind}
use Rattle.gs_design.specs.declared.kind.CellKind.TheVariants.{Gate, Flop}
use Rattle.gs_lib.specs.Draft.{CellLists}

-- a name as bytes from which its end can be told: a 1 before each byte, and a 0 at the end
abbrev pub coded : List ℕ → List ℕ
coded [] = 0 ∷ []
coded (b ∷ bs) = 1 ∷ b ∷ coded bs

-- a truth table, and names one after another
abbrev pub Key : Type 0
Key = ℕ × List ℕ

abbrev pub key_cmp : Key → Key → Ordering
key_cmp x y = ordering_then (nat_cmp x.0 y.0) (slice_cmp nat_cmp x.1 y.1)

abbrev pub same_key : Key → Key → Bool
same_key x y = (x.0 == y.0) && bytes_eq x.1 y.1

abbrev pub key_by : (marked : Bool) → CellKind → List (List ℕ) → Option Key
key_by true kind names = None
key_by false (Gate truth) names = Some (truth, flat_map coded names)
key_by false Flop names = None

-- the key of an unmarked gate: its truth table, its footprint and the names of its pins
abbrev pub class_key : CellLists → Option Key
class_key c = key_by c.marked c.kind (c.footprint ∷ map pin_name c.pins)

abbrev pub matches_by : Key → Option Key → Bool
matches_by k None = false
matches_by k (Some l) = same_key k l

-- the cell has the key
abbrev pub has_key : Key → CellLists → Bool
has_key k c = matches_by k (class_key c)

-- how many of the cells have the key
abbrev pub key_count : Key → List CellLists → ℕ
key_count k cells = length (filter (has_key k) cells)

-- the group of a footprint, of so many groups
abbrev pub group_of : (groups : ℕ) → (footprint : List ℕ) → ℕ
group_of groups footprint = fold (λ group byte. (group * 31 + byte) % groups) 0 footprint

-- the cell's footprint is of the group
abbrev pub is_in_group : (groups group : ℕ) → CellLists → Bool
is_in_group groups group c = group_of groups c.footprint == group

-- how many of the cells have a footprint of the group
abbrev pub group_count : (groups group : ℕ) → List CellLists → ℕ
group_count groups group cells = length (filter (is_in_group groups group) cells)
