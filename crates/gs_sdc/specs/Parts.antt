-- The parts of a command, and how each is spelled. They stand in any order.

use Rattle.std.specs.Prelude.{◌≡◌, ◌⊎◌, ℕ, ◌<◌, ◌==◌, ◌&&◌, ◌||◌, Bool, true, false, nat_le, List, [], ◌∷◌, ◌++◌, length, map, codes, Option, None, Some, if◌then◌else◌}
use Rattle.gs_sdc.specs.Token.{Token, word, opens, closes, opens_list, closes_list}
use Rattle.gs_sdc.specs.declared.parts.Choice.{Choice}
use Rattle.gs_sdc.specs.declared.parts.Choice.TheVariants.{Period, ClockName, Waveform, OfClock, Max, LibCell, Pin, Rise, Fall, PinLoad}
use Rattle.gs_sdc.specs.declared.parts.Takes.{Takes}
use Rattle.gs_sdc.specs.declared.parts.Takes.TheVariants as takes

pub data Part : Type 0 where
  value : List ℕ → Part  -- a word that is no option
  ports : List (List ℕ) → Part  -- [get_ports x] or [get_ports {x y ..}]
  chosen : Choice → List ℕ → Part  -- an option, and the word or the clock that it takes; empty where it takes none

-- ---- options

-- how an option is written
abbrev pub name_of : Choice → List ℕ
name_of Period = codes "-period"
name_of ClockName = codes "-name"
name_of Waveform = codes "-waveform"
name_of OfClock = codes "-clock"
name_of Max = codes "-max"
name_of LibCell = codes "-lib_cell"
name_of Pin = codes "-pin"
name_of Rise = codes "-input_transition_rise"
name_of Fall = codes "-input_transition_fall"
name_of PinLoad = codes "-pin_load"

-- what an option takes
abbrev pub takes_of : Choice → Takes
takes_of Period = takes.Word
takes_of ClockName = takes.Word
takes_of Waveform = takes.List
takes_of OfClock = takes.Clock
takes_of Max = takes.Nothing
takes_of LibCell = takes.Word
takes_of Pin = takes.Word
takes_of Rise = takes.Word
takes_of Fall = takes.Word
takes_of PinLoad = takes.Nothing

abbrev pub is_letter : ℕ → Bool
is_letter c = nat_le 97 c && nat_le c 122 || nat_le 65 c && nat_le c 90

-- a hyphen and a letter come first
abbrev pub is_option : List ℕ → Bool
is_option [] = false
is_option (c ∷ []) = false
is_option (c ∷ d ∷ cs) = c == 45 && is_letter d

-- ---- spellings

-- words between braces
abbrev pub braced : List (List ℕ) → List Token
braced ws = opens_list ∷ (map word ws ++ closes_list ∷ [])

-- one word, or words between braces
abbrev pub AreNames : List (List ℕ) → List Token → Type 0
AreNames xs ts = ((x : List ℕ) × (xs ≡ x ∷ []) × (ts ≡ word x ∷ [])) ⊎ (ts ≡ braced xs)

-- what [get x] or [get {x y ..}] gives
pub record IsGiven (get : List ℕ) (xs : List (List ℕ)) (ts : List Token) : Type 0 where
  pub names : List Token
  pub spelled : ts ≡ opens ∷ word get ∷ (names ++ closes ∷ [])
  pub are_names : AreNames xs names

-- a word that is no option
abbrev pub IsWord : List ℕ → List Token → Type 0
IsWord w ts = (ts ≡ word w ∷ []) × (is_option w ≡ false)

-- what stands behind an option
abbrev pub IsTaken : Takes → List ℕ → List Token → Type 0
IsTaken takes.Nothing w ts = (ts ≡ []) × (w ≡ [])
IsTaken takes.Word w ts = IsWord w ts
IsTaken takes.Clock w ts = IsWord w ts ⊎ IsGiven (codes "get_clocks") (w ∷ []) ts
IsTaken takes.List w ts = ((ws : List (List ℕ)) × (ts ≡ braced ws)) × (w ≡ [])

-- the spellings of a part
abbrev pub Spells : Part → List Token → Type 0
Spells (value w) ts = IsWord w ts
Spells (ports xs) ts = IsGiven (codes "get_ports") xs ts × (0 < length xs)
Spells (chosen c w) ts = (behind : List Token) × (ts ≡ word (name_of c) ∷ behind) × IsTaken (takes_of c) w behind

-- tokens in two, of which the first part and the others are these
pub record Splits (First Others : List Token → Type 0) (ts : List Token) : Type 0 where
  pub mine : List Token
  pub rest : List Token
  pub joined : ts ≡ mine ++ rest
  pub first : First mine
  pub others : Others rest

-- tokens that spell these parts, one after another
abbrev pub AreSpelled : List Part → List Token → Type 0
AreSpelled [] ts = ts ≡ []
AreSpelled (p ∷ ps) ts = Splits (Spells p) (AreSpelled ps) ts
