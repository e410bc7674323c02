-- The text of a report.

use Rattle.std.specs.Prelude.{ℕ, ◌+◌, List, [], ◌∷◌, ◌++◌, codes, decimal, flat_map, length, Option, None, Some}
use Rattle.std.specs.List.{range_with_len}
use Rattle.gs_design.specs.Cell.{pin_at}
use Rattle.gs_design.specs.Ends.{alt_cell, end_at}
use Rattle.gs_design.specs.Insts.{inst_at}
use Rattle.gs_design.specs.Limits.{violations_of}
use Rattle.gs_design.specs.Nets.{net_at}
use Rattle.gs_design.specs.Sizes.{leak_of}
use Rattle.gs_design.specs.declared.design.Design.{Design}
use Rattle.gs_design.specs.declared.end.End.{End}
use Rattle.gs_design.specs.declared.end.EndPlace.{EndPlace}
use Rattle.gs_design.specs.declared.end.EndPlace.TheVariants.{Output as AtPort, Pin as AtPin}
use Rattle.gs_design.specs.declared.limit.Limit.{Limit}
use Rattle.gs_design.specs.declared.limit.Limit.TheVariants.{Setup, Slew, Load, Area}
use Rattle.gs_design.specs.declared.limit.Violation.{Violation}
use Rattle.gs_design.specs.declared.time.NetTime.{NetTime}
use Rattle.gs_move.specs.Entries.{commit_count, worker_commits}
use Rattle.gs_move.specs.declared.entry.Entry.{Entry}
use Rattle.gs_quantity.specs.Print.{micro_text}
use Rattle.gs_report.specs.Lines.{line}
use Rattle.gs_report.specs.Log.{ended_word}
use Rattle.gs_report.specs.declared.run.Log.{Log}
use Rattle.gs_report.specs.declared.run.Ran.{Ran}

-- a line of a word and a count
abbrev pub count_line : List ℕ → ℕ → List ℕ
count_line word n = line word (decimal n ∷ [])

-- `worker w commits c`
abbrev pub worker_text : (worker commits : ℕ) → List ℕ
worker_text w c = line (codes "worker") (decimal w ∷ codes "commits" ∷ decimal c ∷ [])

abbrev pub worker_line : List Entry → (worker : ℕ) → List ℕ
worker_line es w = worker_text w (worker_commits es w)

-- the lines of a run: how it ended; its entries, its budget and its commits; and those of each worker, from 0 to the number of workers
abbrev pub run_text : Log → (workers : ℕ) → List ℕ
run_text l workers =
    line (codes "ended") (ended_word l.ended ∷ [])
    ++ count_line (codes "entries") (length l.entries)
    ++ count_line (codes "budget") l.budget
    ++ count_line (codes "commits") (commit_count l.entries)
    ++ flat_map (worker_line l.entries) (range_with_len 0 (workers + 1))

-- nothing without a run
abbrev pub ran_text : Option Ran → List ℕ
ran_text None = []
ran_text (Some r) = run_text r.log.now r.workers

-- the unit, where the library gives one
abbrev pub unit_words : List ℕ → List (List ℕ)
unit_words [] = []
unit_words (c ∷ cs) = (c ∷ cs) ∷ []

-- `leakage value unit`, or `leakage value` without a unit
abbrev pub leak_line : Design → (sizes : List ℕ) → List ℕ
leak_line d s = line (codes "leakage") (micro_text (leak_of d s) ∷ unit_words d.leak_unit)

-- `instance/pin`: the instance is a flip-flop, which has one alternative
abbrev pub pin_word : Design → (inst pin : ℕ) → List ℕ
pin_word d g p = (inst_at d.insts g).name ++ 47 ∷ (pin_at (alt_cell d.cells (inst_at d.insts g) 0).pins p).name

-- an endpoint is named by its port, whose name is that of the net, or as `instance/pin`
abbrev pub place_name : Design → (net : ℕ) → EndPlace → List ℕ
place_name d n AtPort = (net_at d.nets n).name
place_name d n (AtPin g p) = pin_word d g p

abbrev pub end_name : Design → End → List ℕ
end_name d e = place_name d e.net e.place

-- The area stands for no limit of any design yet, so that no line has its word.
abbrev pub limit_word : Limit → List ℕ
limit_word (Setup e) = codes "setup"
limit_word (Slew n) = codes "slew"
limit_word (Load n) = codes "load"
limit_word Area = codes "area"

-- the endpoint, or the net
abbrev pub limit_name : Design → Limit → List ℕ
limit_name d (Setup e) = end_name d (end_at d.ends e)
limit_name d (Slew n) = (net_at d.nets n).name
limit_name d (Load n) = (net_at d.nets n).name
limit_name d Area = []

-- `setup end held value bound value`, or `slew net ..` or `load net ..` in the same form
abbrev pub violation_line : Design → Violation → List ℕ
violation_line d v =
    line (limit_word v.limit) (limit_name d v.limit ∷ codes "held" ∷ micro_text v.held ∷ codes "bound" ∷ micro_text v.bound ∷ [])

-- how many limits aren't met, and each of them in order
abbrev pub violations_text : Design → List Violation → List ℕ
violations_text d vs = count_line (codes "violations") (length vs) ++ flat_map (violation_line d) vs

-- a line with the version, these lines of a run, the leakage, and the violations
abbrev pub report_with : (run : List ℕ) → Design → (sizes : List ℕ) → List NetTime → List ℕ
report_with run d s t =
    line (codes "gate-sizing-report") (codes "1" ∷ []) ++ run ++ leak_line d s ++ violations_text d (violations_of d t)

-- with the lines of a run, where there was one
abbrev pub report_text : Design → (sizes : List ℕ) → List NetTime → Option Ran → List ℕ
report_text d s t ran = report_with (ran_text ran) d s t
