-- The records that differ, one more net.

use Rattle.std.proofs.Common.{◌≡◌, ℕ, ◌+◌, Bool, true, false, List, [], ◌∷◌, ◌++◌, filter, map, cond, ◌∙◌, ap}
use Rattle.std.specs.List.{range_with_len}
use Rattle.std.proofs.lemmas.List.{append-nil, map-append}
use Rattle.gs_design.specs.Times.{time_at}
use Rattle.gs_design.specs.declared.time.NetAt.{NetAt}
use Rattle.gs_design.specs.declared.time.NetTime.{NetTime}
use Rattle.gs_move.specs.Records.{differ}
use Rattle.gs_move.specs.Trial.{changed_records}
use Rattle.gs_trial.proofs.Lists.{filter_more}

module _ (t u : List NetTime) (i : ℕ) where
  abbrev at_net : ℕ → NetAt
  at_net n = record { net = n; time = time_at u n }

  one_more : (b : Bool) → differ t u i ≡ b → changed_records t u (i + 1) ≡ changed_records t u i ++ map at_net (cond b (i ∷ []) [])
  one_more b is =
      ap (map at_net) (filter_more (differ t u) i ∙ ap (λ c. filter (differ t u) (range_with_len 0 i) ++ cond c (i ∷ []) []) is)
      ∙ map-append at_net (filter (differ t u) (range_with_len 0 i)) (cond b (i ∷ []) [])

  pub changed_one : differ t u i ≡ true → changed_records t u (i + 1) ≡ changed_records t u i ++ record { net = i; time = time_at u i } ∷ []
  changed_one is = one_more true is

  pub changed_none : differ t u i ≡ false → changed_records t u (i + 1) ≡ changed_records t u i
  changed_none is = one_more false is ∙ append-nil (changed_records t u i)
