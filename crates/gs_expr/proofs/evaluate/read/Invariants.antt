use Rattle.std.proofs.Common.{◌≡◌, ◌-◌, ◌≤◌, length, drop, None}
use Rattle.gs_grammar.specs.Machine.{run}
use Rattle.gs_expr.specs.Cutting.{cut, lexemes}
use Rattle.gs_expr.specs.Machine.{first, go_lexeme, tables_of, unknown_from}
use Rattle.gs_expr.proofs.evaluate.read.Given as goal

abbrev pub invariant-loop-at : goal.invariant-loop-at
invariant-loop-at l = record {
  within : l.at ≤ length l.bytes;
  so_far : run (go_lexeme l.names) (tables_of l.reader) (cut l.at 0 (drop l.at l.bytes)) ≡ run (go_lexeme l.names) first (lexemes l.bytes);
  unknown : unknown_from l.names l.unknown (cut l.at 0 (drop l.at l.bytes)) ≡ unknown_from l.names None (lexemes l.bytes);
}

abbrev pub decreases-loop-at : goal.decreases-loop-at
decreases-loop-at l = length l.bytes - l.at
