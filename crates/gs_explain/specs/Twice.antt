-- What is printed of a net that has two drivers.
use Rattle.std.specs.Prelude.{◌≡◌, ℕ, List, [], ◌∷◌, codes, decimal, Option, None, Some}
use Rattle.std.specs.List.{concat}
use Rattle.gs_drivers.specs.Twice.{AreDrivers}
use Rattle.gs_drivers.specs.declared.twice.Drivers.{Drivers}
use Rattle.gs_survey.specs.declared.error.LinkErr.{LinkErr}
use Rattle.gs_survey.specs.declared.error.LinkErr.TheVariants as link
use Rattle.gs_explain.specs.Object.{IsNetPlace, IsPlaced, placed}
use Rattle.gs_explain.specs.Place.{line_of}
use Rattle.gs_explain.specs.Rest.{link_text}

-- the net of a refusal for two drivers
abbrev pub twice_driven : LinkErr → Option (List ℕ)
twice_driven (link.UnknownCell by) = None
twice_driven (link.UnknownPin by pin) = None
twice_driven (link.OpenPin inst pin) = None
twice_driven (link.TwoDrivers net) = Some net
twice_driven (link.Undriven net) = None
twice_driven (link.UnknownPort name) = None
twice_driven (link.UnknownNet name) = None
twice_driven (link.NoArc cell pin) = None
twice_driven (link.TooMany kind count) = None
twice_driven (link.Loop cycle) = None
twice_driven link.Mem = None

-- what is said at the second driver of the net, with the line of the first
abbrev pub twice_text : (net bytes : List ℕ) → (first : ℕ) → List ℕ
twice_text net bytes first = concat (link_text (link.TwoDrivers net) ∷ codes "; the first is in line " ∷ decimal (line_of bytes first) ∷ [])

-- the second driver is shown; without drivers the net is, where it is first connected
abbrev pub IsTwiceBy : Option Drivers → (net name bytes text : List ℕ) → Type 0
IsTwiceBy None net name bytes text = IsPlaced (IsNetPlace net) name (link_text (link.TwoDrivers net)) bytes text
IsTwiceBy (Some d) net name bytes text = text ≡ placed name bytes (Some d.second) (twice_text net bytes d.first)

-- of a netlist's bytes, by the bytes of the library
abbrev pub IsTwiceTold : (library net name bytes text : List ℕ) → Type 0
IsTwiceTold library net name bytes text = (found : Option Drivers) × AreDrivers library net bytes found × IsTwiceBy found net name bytes text
