-- The first that is there.

use Rattle.std.specs.Prelude.{List, [], ◌∷◌, Option, None, Some}

-- the first of two that is some
abbrev pub or_else : {F : Type 0} → Option F → Option F → Option F
or_else None o = o
or_else (Some x) o = Some x

-- what the first element gives that gives something
abbrev pub first_some : {A F : Type 0} → (A → Option F) → List A → Option F
first_some f [] = None
first_some f (x ∷ xs) = or_else (f x) (first_some f xs)
