-- The text of a log.

use Rattle.std.specs.Prelude.{ℕ, ◌<◌, ◌^◌, List, [], ◌∷◌, ◌++◌, codes, decimal, flat_map, length, All}
use Rattle.gs_design.specs.Ends.{alt_cell}
use Rattle.gs_design.specs.Insts.{inst_at}
use Rattle.gs_design.specs.declared.design.Design.{Design}
use Rattle.gs_move.specs.Entries.{AreEntriesOf, move_of, worker_of}
use Rattle.gs_move.specs.declared.ended.Ended.{Ended}
use Rattle.gs_move.specs.declared.ended.Ended.TheVariants.{Settled, Spent}
use Rattle.gs_move.specs.declared.entry.Entry.{Entry}
use Rattle.gs_move.specs.declared.entry.Entry.TheVariants.{Commit, Reject}
use Rattle.gs_move.specs.declared.moves.Move.{Move}
use Rattle.gs_report.specs.Lines.{line}
use Rattle.gs_report.specs.declared.run.Log.{Log}

abbrev pub ended_word : Ended → List ℕ
ended_word Settled = codes "settled"
ended_word Spent = codes "spent"

-- c for a commit, r for a reject
abbrev pub entry_word : Entry → List ℕ
entry_word (Commit m w) = codes "c"
entry_word (Reject m w) = codes "r"

-- the moved instance's name, and that of the cell that it takes
abbrev pub move_words : Design → Move → List (List ℕ)
move_words d m = (inst_at d.insts m.inst).name ∷ (alt_cell d.cells (inst_at d.insts m.inst) m.place).name ∷ []

-- `c worker instance cell`, or `r worker instance cell`
abbrev pub entry_line : Design → Entry → List ℕ
entry_line d e = line (entry_word e) (decimal (worker_of e) ∷ move_words d (move_of e))

-- `end settled entries budget`, or `end spent entries budget`
abbrev pub end_line : Log → List ℕ
end_line l = line (codes "end") (ended_word l.ended ∷ decimal (length l.entries) ∷ decimal l.budget ∷ [])

-- a line with the version, a line for each entry in order, and a last line
abbrev pub log_text : Design → Log → List ℕ
log_text d l = line (codes "gate-sizing-log") (codes "1" ∷ []) ++ flat_map (entry_line d) l.entries ++ end_line l

-- a log of a design: its entries are of moves of the design, and its numbers are those that a worker and a budget can have
pub record IsLogOf (d : Design) (l : Log) : Type 0 where
  pub entries : AreEntriesOf d l.entries
  pub workers : All (λ e. worker_of e < 2 ^ 32) l.entries
  pub budget : l.budget < 2 ^ 64
