use Rattle.std.proofs.Common.{◌≡◌, ◌<◌, ℕ, get_or, length, take}
use Rattle.gs_survey.specs.Numbers.{given}
use Rattle.gs_link.proofs.values.spread.Given as goal

abbrev pub invariant-loop-i : goal.invariant-loop-i
invariant-loop-i g l = record {
  many : length l.out.items ≡ l.count;
  each : (n : ℕ) (d : g.row.V.Denot) → n < l.count → get_or l.out.items n d ≡ given (take l.i l.numbers) (take l.i l.values) l.fn.other n;
}
