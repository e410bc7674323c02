-- The place that an instance takes in a pass.

use Rattle.std.specs.Prelude.{ℕ, List, map, filter, fold, length, nat_lt, slice_index, Option, None, Some, int_lt, if◌then◌else◌}
use Rattle.std.specs.List.{range_with_len}
use Rattle.gs_design.specs.Insts.{inst_at}
use Rattle.gs_design.specs.declared.design.Design.{Design}
use Rattle.gs_design.specs.declared.time.NetTime.{NetTime}
use Rattle.gs_lagrange.specs.Cost.{cost_of, is_allowed}
use Rattle.gs_lagrange.specs.declared.choice.Choice.{Choice}

-- the cheaper of two choices, the earlier one where they cost the same
abbrev pub cheaper : Option Choice → Choice → Option Choice
cheaper None c = Some c
cheaper (Some b) c = if int_lt c.cost b.cost then Some c else Some b

-- a place of an instance with its cost
abbrev pub choice_of : Design → List ℕ → List NetTime → (weight : ℕ → ℕ) → (inst place : ℕ) → Choice
choice_of d s t weight g p = record { place = p; cost = cost_of d s t weight g p }

-- the allowed ones of the first so many places, in order
abbrev pub choices_to : Design → List ℕ → List NetTime → (weight : ℕ → ℕ) → (inst : ℕ) → (count : ℕ) → List Choice
choices_to d s t weight g count = map (choice_of d s t weight g) (filter (is_allowed d s t g) (range_with_len 0 count))

abbrev pub place_or : Option Choice → ℕ → ℕ
place_or None present = present
place_or (Some c) present = c.place

-- the first of least cost among the allowed places, or the present place where none is allowed
abbrev pub cheapest_place : Design → List ℕ → List NetTime → (weight : ℕ → ℕ) → (inst : ℕ) → ℕ
cheapest_place d s t weight g = place_or (fold cheaper None (choices_to d s t weight g (length (inst_at d.insts g).alts))) (slice_index s g)

-- an instance with one alternative has no choice
abbrev pub place_for : Design → List ℕ → List NetTime → (weight : ℕ → ℕ) → (inst : ℕ) → ℕ
place_for d s t weight g = if nat_lt 1 (length (inst_at d.insts g).alts) then cheapest_place d s t weight g else slice_index s g

-- all instances are replaced at once
abbrev pub places_for : Design → List ℕ → List NetTime → (weight : ℕ → ℕ) → List ℕ
places_for d s t weight = map (place_for d s t weight) (range_with_len 0 (length d.insts))
