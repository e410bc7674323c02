-- Parts that fit one after another are of kinds that the command has, and of each kind there is one at most.

use Rattle.std.proofs.Common.{◌≡◌, ℕ, List, [], ◌∷◌, refl, sym, ap, ◌∙◌, map, Bool, true, false, not, ◌||◌, ◌&&◌, ◌==◌, Option, None, Some, if◌then◌else◌, arith}
use Rattle.std.specs.List.{AllByRecursion, IsDistinct}
use Rattle.std.proofs.lemmas.Bool.Decides.{nat_tests}
use Rattle.gs_grammar.specs.Judged.{AreGood}
use Rattle.gs_sdc.specs.Command.{choice_number, has, same_slot, slot_of}
use Rattle.gs_sdc.specs.Front.{is_taken, misfit}
use Rattle.gs_sdc.specs.Parts.{Part}
use Rattle.gs_sdc.specs.declared.command.Command.{Command}
use Rattle.gs_sdc.specs.declared.parts.Slot.{Slot}
use Rattle.gs_sdc.specs.declared.parts.Slot.TheVariants as slot

same_number : (a b : ℕ) → (a == b) ≡ (b == a)
same_number a b = grind (arith, nat_tests)

same_back : (s t : Slot) → same_slot s t ≡ same_slot t s
same_back slot.Value slot.Value = refl
same_back slot.Value slot.Ports = refl
same_back slot.Value (slot.Chosen b) = refl
same_back slot.Ports slot.Value = refl
same_back slot.Ports slot.Ports = refl
same_back slot.Ports (slot.Chosen b) = refl
same_back (slot.Chosen a) slot.Value = refl
same_back (slot.Chosen a) slot.Ports = refl
same_back (slot.Chosen a) (slot.Chosen b) = same_number (choice_number a) (choice_number b)

neither : (a b : Bool) → a ≡ false → b ≡ false → (a || b) ≡ false
neither a b e f = rw e f

first_not : (a b : Bool) → (a || b) ≡ false → a ≡ false
first_not true b h = h
first_not false b h = refl

second_not : (a b : Bool) → (a || b) ≡ false → b ≡ false
second_not true b h = absurd (let never : true ≡ false = h in cc)
second_not false b h = h

-- no part of these is of a kind that is taken
abbrev pub AreFresh : List Part → List Part → Type 0
AreFresh past ps = AllByRecursion (λ p. is_taken (slot_of p) past ≡ false) ps

-- no part of these is of this kind
abbrev AreOthers : Part → List Part → Type 0
AreOthers p ps = AllByRecursion (λ s. same_slot (slot_of p) s ≡ false) (map slot_of ps)

pub nothing_taken : (ps : List Part) → AreFresh [] ps
nothing_taken [] = tt
nothing_taken (p ∷ ps) = (refl, nothing_taken ps)

fresh_past : (past : List Part) (p : Part) (ps : List Part) → AreOthers p ps → AreFresh past ps → AreFresh (p ∷ past) ps
fresh_past past p [] others fresh = tt
fresh_past past p (q ∷ ps) others fresh = (
  neither (same_slot (slot_of q) (slot_of p)) (is_taken (slot_of q) past) (same_back (slot_of q) (slot_of p) ∙ others.0) fresh.0,
  fresh_past past p ps others.1 fresh.1,
)

others_of : (past : List Part) (p : Part) (ps : List Part) → AreFresh (p ∷ past) ps → AreOthers p ps
others_of past p [] fresh = tt
others_of past p (q ∷ ps) fresh =
    (same_back (slot_of p) (slot_of q) ∙ first_not (same_slot (slot_of q) (slot_of p)) (is_taken (slot_of q) past) fresh.0, others_of past p ps fresh.1)

fresh_of : (past : List Part) (p : Part) (ps : List Part) → AreFresh (p ∷ past) ps → AreFresh past ps
fresh_of past p [] fresh = tt
fresh_of past p (q ∷ ps) fresh = (second_not (same_slot (slot_of q) (slot_of p)) (is_taken (slot_of q) past) fresh.0, fresh_of past p ps fresh.1)

fits : (a b : Bool) (s : Slot) → a ≡ true → b ≡ false → ◌≡◌ {A = Option Slot} (if a && not b then None else Some s) None
fits a b s e f = rw (e, f) refl

has_of : (a b : Bool) (s : Slot) → ◌≡◌ {A = Option Slot} (if a && not b then None else Some s) None → a ≡ true
has_of true b s h = refl
has_of false b s h = cc

free_of : (a b : Bool) (s : Slot) → ◌≡◌ {A = Option Slot} (if a && not b then None else Some s) None → b ≡ false
free_of a false s h = refl
free_of true true s h = cc
free_of false true s h = cc

module _ (c : Command) where
  -- parts of kinds that the command has, each of another kind, and none that is taken, fit one after another
  pub fits_from : (past ps : List Part) → AllByRecursion (λ p. has c (slot_of p) ≡ true) ps → IsDistinct same_slot (map slot_of ps) → AreFresh past ps
      → AreGood (misfit c) past ps
  unfolding IsDistinct
  fits_from past [] known once fresh = tt
  fits_from past (p ∷ ps) known once fresh = (
    fits (has c (slot_of p)) (is_taken (slot_of p) past) (slot_of p) known.0 fresh.0,
    fits_from (p ∷ past) ps known.1 once.1 (fresh_past past p ps once.0 fresh.1),
  )

  pub record AreFit (past ps : List Part) : Type 0 where
    pub known : AllByRecursion (λ p. has c (slot_of p) ≡ true) ps
    pub once : IsDistinct same_slot (map slot_of ps)
    pub fresh : AreFresh past ps

  -- and parts that fit are such parts
  pub fit_all : (past ps : List Part) → AreGood (misfit c) past ps → AreFit past ps
  unfolding IsDistinct
  fit_all past [] good = record { known = tt; once = tt; fresh = tt }
  fit_all past (p ∷ ps) good =
      let h = has c (slot_of p) in
      let t = is_taken (slot_of p) past in
      let more = fit_all (p ∷ past) ps good.1 in
      record {
        known = (has_of h t (slot_of p) good.0, more.known);
        once = (others_of past p ps more.fresh, more.once);
        fresh = (free_of h t (slot_of p) good.0, fresh_of past p ps more.fresh);
      }
