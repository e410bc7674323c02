-- Which entry rejected which move last: one number for each place of each instance.

use Rattle.std.specs.Prelude.{ℕ, ◌≡◌, ◌+◌, ◌<◌, List, length, slice_index, slice_set, sum_by, take}
use Rattle.gs_design.specs.Insts.{Inst}
use Rattle.gs_design.specs.declared.design.Design.{Design}
use Rattle.gs_move.specs.Entries.{IsMoveOf}
use Rattle.gs_move.specs.Settle.{last_reject}
use Rattle.gs_move.specs.declared.entry.Entry.{Entry}
use Rattle.gs_move.specs.declared.moves.Move.{Move}

-- the numbers of all places of all instances in one list, and for each instance where its own begin
pub record Noted : Type 0 where
  pub starts : List ℕ
  pub numbers : List ℕ

-- how many places the instances before one have, which is where its own begin
abbrev pub alts_before : List Inst → ℕ → ℕ
alts_before insts g = sum_by (λ i. length i.alts) (take g insts)

-- where the number of a move stands
abbrev pub spot_of : (starts : List ℕ) → Move → ℕ
spot_of starts m = slice_index starts m.inst + m.place

-- the number of a move
abbrev pub number_of : Noted → Move → ℕ
number_of x m = slice_index x.numbers (spot_of x.starts m)

-- with another number for one move
abbrev pub noted_with : Noted → Move → ℕ → Noted
noted_with x m k = record { starts = x.starts; numbers = slice_set x.numbers (spot_of x.starts m) k }

-- a list of numbers for these instances: one for each place, those of each instance after those of the instances before it
pub record AreStartsOf (insts : List Inst) (x : Noted) : Type 0 where
  pub as_many : length x.starts ≡ length insts
  pub begin : (g : ℕ) → g < length insts → slice_index x.starts g ≡ alts_before insts g
  pub whole : length x.numbers ≡ alts_before insts (length insts)

-- the number of each move is that of the last entry that rejects it, counted from 1, or 0 where none does
pub record IsNoted (d : Design) (es : List Entry) (x : Noted) : Type 0 where
  pub places : AreStartsOf d.insts x
  pub each : (m : Move) → IsMoveOf d m → number_of x m ≡ last_reject es (length es) m
