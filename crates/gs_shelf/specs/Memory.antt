-- What a call over memory leaves besides the files: its entry where it failed.
use Rattle.std.specs.Prelude.{ℕ, ◌==◌, Bool, List, [], ◌∷◌, ◌++◌, Result, Ok, Err}
use Rattle.std.specs.List.{list_any}
use Rattle.gs_shelf.specs.declared.calls.Op.{Op}
use Rattle.gs_shelf.specs.declared.calls.ShelfErr.{ShelfErr}
use Rattle.gs_shelf.specs.declared.calls.ShelfErr.TheVariants.{Failed, Mem}
use Rattle.gs_shelf.specs.declared.lists.Failure.{Failure}

-- the call of this number is one that fails
abbrev pub is_planned : List ℕ → ℕ → Bool
is_planned fails number = list_any (λ n. n == number) fails

-- a call that failed is entered at the end of the list; any other call, and one without memory for it, leaves the list
abbrev pub entered : {T : Type 0} → Op → List ℕ → List Failure → Result T ShelfErr → List Failure
entered op name failed (Ok x) = failed
entered op name failed (Err Failed) = failed ++ record { op = op; name = name } ∷ []
entered op name failed (Err Mem) = failed
