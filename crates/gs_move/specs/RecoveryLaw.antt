-- The judge of leakage recovery keeps the law of judges.

use Rattle.std.proofs.Common.{◌≡◌, Bool, true, false, Option, None, Some, ℤ, ◌<ℤ◌, refl, arith}
use Rattle.std.specs.Prelude.{int_lt, if◌then◌else◌}
use Rattle.std.proofs.lemmas.Int.{ints}
use Rattle.gs_design.specs.declared.limit.Limit.{Limit}
use Rattle.gs_move.specs.Judge.{IsLawful}
use Rattle.gs_move.specs.Recovery.{recovery, unless_broken}
use Rattle.gs_move.specs.declared.outcome.Outcome.TheVariants.{Fair, NotFair}
use Rattle.gs_move.specs.declared.outcome.Why.{Why}
use Rattle.gs_move.specs.declared.outcome.Why.TheVariants.{NoGain}

lowers_by : (leak_old leak_new : ℤ) (broken : Option Limit) (b : Bool) → int_lt leak_new leak_old ≡ b → (if b then unless_broken broken else NotFair NoGain) ≡ Fair → leak_new <ℤ leak_old
lowers_by leak_old leak_new broken true e h = grind (arith, ints)
lowers_by leak_old leak_new broken false e h = absurd cc

refuses_by : (broken : Option Limit) (why : Why) (b : Bool) → (if b then None else Some NoGain) ≡ Some why → (if b then unless_broken broken else NotFair NoGain) ≡ NotFair why
refuses_by broken why true e = absurd cc
refuses_by broken why false e = cc

pub recovery_lawful : IsLawful recovery
recovery_lawful = record {
  lowers = λ c h. lowers_by c.leak_old c.leak_new c.broken (int_lt c.leak_new c.leak_old) refl h;
  refuses = λ c why h. refuses_by c.broken why (int_lt c.leak_new c.leak_old) h;
}
