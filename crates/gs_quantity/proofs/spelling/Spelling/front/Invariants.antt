use Rattle.std.proofs.Common.{◌≡◌, ◌<◌, take}
use Rattle.std.specs.Str.Parse.{digits_value}
use Rattle.gs_quantity.specs.declared.limits.TheConstants.{NUMBER_LIMIT}
use Rattle.gs_quantity.specs.Decimal.{digits_of}
use Rattle.gs_quantity.proofs.spelling.Spelling.front.Given as goal

abbrev pub invariant-loop-place : goal.invariant-loop-place
invariant-loop-place l = (l.value ≡ digits_value 10 (take l.place (digits_of l.self))) × (l.value < NUMBER_LIMIT)
