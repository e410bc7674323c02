-- The names of a list of pins that was made from entries.

use Rattle.std.proofs.Common.{◌≡◌, ap, refl, ℕ, List, [], ◌∷◌, map}
use Rattle.std.specs.Map.{keys_of}
use Rattle.gs_lib.specs.Profile.{pin_of_entry}
use Rattle.gs_libcell.specs.Pin.{name_of}
use Rattle.gs_libcell.specs.declared.pin.PinFacts.{PinFacts}

pub names_are : (es : List (List ℕ × PinFacts)) → map name_of (map pin_of_entry es) ≡ keys_of es
names_are [] = refl
names_are (e ∷ es) = ap (λ ns. e.0 ∷ ns) (names_are es)
