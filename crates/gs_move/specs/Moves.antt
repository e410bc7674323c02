-- Moves at sizes, and the sizes after one.

use Rattle.std.specs.Prelude.{ℕ, ◌==◌, Bool, not, ◌&&◌, List, map, filter, flat_map, length, nat_lt, slice_index, slice_set}
use Rattle.std.specs.List.{range_with_len}
use Rattle.gs_design.specs.Insts.{inst_at}
use Rattle.gs_design.specs.declared.design.Design.{Design}
use Rattle.gs_move.specs.declared.moves.Move.{Move}

-- how many alternatives an instance has
abbrev pub alt_count : Design → ℕ → ℕ
alt_count d g = length (inst_at d.insts g).alts

-- a move at sizes: an instance, and a place below its number of alternatives, other than its place in the sizes
abbrev pub is_move : Design → List ℕ → Move → Bool
is_move d s m = nat_lt m.inst (length d.insts) && (nat_lt m.place (alt_count d m.inst) && not (m.place == slice_index s m.inst))

-- the sizes after a move differ at that instance alone
abbrev pub after : List ℕ → Move → List ℕ
after s m = slice_set s m.inst m.place

-- the moves of one instance, by place
abbrev pub moves_of_inst : Design → List ℕ → ℕ → List Move
moves_of_inst d s g = map (λ p. record { inst = g; place = p }) (filter (λ p. not (p == slice_index s g)) (range_with_len 0 (alt_count d g)))

-- all moves at sizes, by instance and then place
abbrev pub moves_at : Design → List ℕ → List Move
moves_at d s = flat_map (moves_of_inst d s) (range_with_len 0 (length d.insts))
