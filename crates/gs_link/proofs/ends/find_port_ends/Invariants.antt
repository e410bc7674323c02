use Rattle.std.proofs.Common.{◌≡◌, map, take}
use Rattle.std.specs.List.{filter}
use Rattle.gs_link.specs.Columns.{end_of_port}
use Rattle.gs_survey.specs.Numbers.{is_one_of}
use Rattle.gs_link.proofs.ends.find_port_ends.Given as goal

abbrev pub invariant-loop-i : goal.invariant-loop-i
invariant-loop-i l = l.ends.items ≡ map (end_of_port l.numbers l.departures l.period) (filter (is_one_of l.outputs) (take l.i l.used))
