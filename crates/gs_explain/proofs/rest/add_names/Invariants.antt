use Rattle.std.proofs.Common.{◌≡◌, ◌++◌, ◌∷◌, drop}
use Rattle.std.specs.List.{flat_map}
use Rattle.gs_explain.proofs.rest.add_names.Given as goal

abbrev pub invariant-loop-name : goal.invariant-loop-name
invariant-loop-name l = l.text.items ++ flat_map (λ n. 32 ∷ n) (drop l.name-index l.names) ≡ l.initial.text.items ++ flat_map (λ n. 32 ∷ n) l.names
