-- What a command stores: its texts in their order, and what the files hold where the storing ended early.
use Rattle.std.specs.Prelude.{◌≡◌, ◌≢◌, ℕ, ◌⊎◌, List, [], ◌∷◌, map, Some}
use Rattle.gs_shelf.specs.Files.{Files, HoldsPart}
use Rattle.gs_top.specs.declared.plan.Text.{Text}
use Rattle.gs_top.specs.declared.status.Output.{Output}
use Rattle.gs_top.specs.declared.status.Output.TheVariants.{Console}

abbrev pub outputs_in : List Text → List Output
outputs_in texts = map (λ t. t.to) texts

-- the files of these outputs hold what they held
abbrev pub TheseStay : (names : Output → List ℕ) → List Output → Files → Files → Type 0
TheseStay names [] old new = Unit {0}
TheseStay names (to ∷ tos) old new = (new (names to) ≡ old (names to)) × TheseStay names tos old new

-- no output has this name
abbrev pub IsNoneOf : (names : Output → List ℕ) → List Output → (name : List ℕ) → Type 0
IsNoneOf names [] name = Unit {0}
IsNoneOf names (to ∷ tos) name = (name ≢ names to) × IsNoneOf names tos name

-- the outputs are files, and no two have one name
abbrev pub AllDiffer : (names : Output → List ℕ) → List Output → Type 0
AllDiffer names [] = Unit {0}
AllDiffer names (to ∷ tos) = (to ≢ Console) × IsNoneOf names tos (names to) × AllDiffer names tos

-- The texts are stored up to this output. Those before it are stored whole; its own file holds what it held, or a prefix of its
-- text; later ones hold what they held. At the console all are stored. Where the shelf doesn't tell what a file holds, this still
-- says which files stay.
abbrev pub StoredTo : (tells : Type 0) → (names : Output → List ℕ) → Output → List Text → Files → Files → Type 0
StoredTo tells names to [] old new = to ≡ Console
StoredTo tells names to (t ∷ ts) old new =
    ((t.to ≡ to) × (to ≢ Console) × (tells → HoldsPart (names t.to) t.bytes old new) × TheseStay names (outputs_in ts) old new)
    ⊎ ((tells → new (names t.to) ≡ Some t.bytes) × StoredTo tells names to ts old new)

-- so far are they stored, and no other file changed
pub record IsStored (tells : Type 0) (names : Output → List ℕ) (to : Output) (ts : List Text) (old new : Files) : Type 0 where
  pub stored : StoredTo tells names to ts old new
  pub others : (name : List ℕ) → IsNoneOf names (outputs_in ts) name → new name ≡ old name
