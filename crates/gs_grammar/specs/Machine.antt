-- A machine that reads a list of tokens from left to right, one step a token.

use Rattle.std.specs.Prelude.{List, [], ◌∷◌, Result, Ok, Err}

-- goes on from the state that a step gives; a fault keeps the list from its token on
abbrev pub go_on : {S T F : Type 0} → Result S F → List T → (S → Result S (F × List T)) → Result S (F × List T)
go_on (Ok s) ts next = next s
go_on (Err f) ts next = Err (f, ts)

-- the state after the list, or the first fault with the list from its token on
unfoldable pub run : {S T F : Type 0} → (S → T → Result S F) → S → List T → Result S (F × List T)
run step s [] = Ok s
run step s (t ∷ ts) = go_on (step s t) (t ∷ ts) (λ next. run step next ts)
