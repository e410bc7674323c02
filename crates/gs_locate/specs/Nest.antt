-- The groups of a Liberty text around a piece.

use Rattle.std.specs.Prelude.{ℕ, zero, suc, ◌+◌, ◌-◌, ◌==◌, ◌≤◌, Bool, ◌&&◌, List, if◌then◌else◌}
use Rattle.gs_text.specs.declared.kinds.Piece.{Piece}
use Rattle.gs_text.specs.declared.kinds.Style.TheVariants.{Lib}
use Rattle.gs_locate.specs.Piece.{is_mark}
use Rattle.gs_locate.specs.Statement.{ends}
use Rattle.gs_locate.specs.declared.nest.Nest.{Nest}

-- how many groups are open past the piece at a place, where so many are open before it
abbrev pub depth_past : (bytes : List ℕ) → List Piece → (depth at : ℕ) → ℕ
depth_past bytes ps depth at =
    if is_mark 123 bytes ps at then depth + 1
    else if is_mark 125 bytes ps at then depth - 1
    else depth

-- how many groups are open before the piece at a place
abbrev pub depth_of : (bytes : List ℕ) → List Piece → ℕ → ℕ
depth_of bytes ps zero = 0
depth_of bytes ps (suc at) = depth_past bytes ps (depth_of bytes ps at) at

-- where the latest item begins, up to a place, that stands with so many groups around it. While so many or more are open at the place,
-- it is the item in which the piece there stands
abbrev pub item_of : (depth : ℕ) → (bytes : List ℕ) → List Piece → ℕ → ℕ
item_of depth bytes ps zero = 0
item_of depth bytes ps (suc at) =
    if ends Lib bytes ps at && (depth_of bytes ps (suc at) == depth) then suc at else item_of depth bytes ps at

-- the groups around a piece
abbrev pub nest_of : (bytes : List ℕ) → List Piece → ℕ → Nest
nest_of bytes ps at = record {
  depth = depth_of bytes ps at;
  cell = item_of 1 bytes ps at;
  part = item_of 2 bytes ps at;
  detail = item_of 3 bytes ps at;
}

-- ---- the code's step; no public clause names it

abbrev pub item_past : (ended : Bool) (deep depth old at : ℕ) → ℕ
item_past ended deep depth old at = if ended && (deep == depth) then at + 1 else old

abbrev pub nest_past : (bytes : List ℕ) → List Piece → Nest → ℕ → Nest
nest_past bytes ps n at = record {
  depth = depth_past bytes ps n.depth at;
  cell = item_past (ends Lib bytes ps at) (depth_past bytes ps n.depth at) 1 n.cell at;
  part = item_past (ends Lib bytes ps at) (depth_past bytes ps n.depth at) 2 n.part at;
  detail = item_past (ends Lib bytes ps at) (depth_past bytes ps n.depth at) 3 n.detail at;
}

-- no item begins past a place, and no more groups are open than it counts
pub record IsNested (at : ℕ) (n : Nest) : Type 0 where
  pub depth : n.depth ≤ at
  pub cell : n.cell ≤ at
  pub part : n.part ≤ at
  pub detail : n.detail ≤ at
