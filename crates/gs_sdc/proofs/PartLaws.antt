-- The parts that are read are those that the tokens spell.

use Rattle.std.proofs.Common.{◌≡◌, ℕ, zero, suc, ◌+◌, ◌<◌, ◌≤◌, List, [], ◌∷◌, ◌++◌, length, refl, sym, ap, subst, ◌∙◌, length-append, arith, Option, None, Some}
use Rattle.gs_grammar.specs.Judged.{AreGood}
use Rattle.gs_sdc.specs.Front.{Found, fitted, front, misfit, part_then, parts_of, parts_past, with_parts}
use Rattle.gs_sdc.specs.Parts.{AreSpelled, Part, Spells, Splits}
use Rattle.gs_sdc.specs.Token.{Token}
use Rattle.gs_sdc.specs.declared.command.Command.{Command}
use Rattle.gs_sdc.specs.declared.parts.Slot.{Slot}
use Rattle.gs_sdc.proofs.Spelling.{Fronts, part_found, part_sound, spells_some}

module _ (c : Command) where
  pub none_past : (past : List Part) (many : ℕ) → parts_past c past many [] ≡ Some []
  unfolding parts_past
  none_past past many = refl

  pub more_past : (past : List Part) (many : ℕ) (ts : List Token) → 0 < length ts
      → parts_past c past (suc many) ts ≡ part_then c past (front ts) (λ qs rest. parts_past c qs many rest)
  unfolding parts_past
  more_past past many [] some = absurd (omega arith)
  more_past past many (t ∷ ts) some = refl

  stuck_past : (past : List Part) (ts : List Token) (ps : List Part) → 0 < length ts → parts_past c past zero ts ≡ Some ps → ⊥
  unfolding parts_past
  stuck_past past [] ps some h = omega arith
  stuck_past past (t ∷ ts) ps some h = cc

  -- a part that fits is before what is read after it
  pub takes : (past : List Part) (many : ℕ) (ts : List Token) (p : Part) (rest : List Token) → 0 < length ts → front ts ≡ Some (record { item = p; rest = rest })
      → misfit c past p ≡ None → parts_past c past (suc many) ts ≡ with_parts (p ∷ []) (parts_past c (p ∷ past) many rest)
  takes past many ts p rest some e fits =
      more_past past many ts some ∙ ap (λ o. part_then c past o (λ qs us. parts_past c qs many us)) e
      ∙ ap (λ o. fitted p o (parts_past c (p ∷ past) many rest)) fits

  -- one that doesn't refuses, and so do tokens that no part begins
  pub refuses : (past : List Part) (many : ℕ) (ts : List Token) (p : Part) (rest : List Token) (s : Slot) → 0 < length ts
      → front ts ≡ Some (record { item = p; rest = rest }) → misfit c past p ≡ Some s → parts_past c past (suc many) ts ≡ None
  refuses past many ts p rest s some e fits =
      more_past past many ts some ∙ ap (λ o. part_then c past o (λ qs us. parts_past c qs many us)) e
      ∙ ap (λ o. fitted p o (parts_past c (p ∷ past) many rest)) fits

  pub ends : (past : List Part) (many : ℕ) (ts : List Token) → 0 < length ts → front ts ≡ None → parts_past c past (suc many) ts ≡ None
  ends past many ts some e = more_past past many ts some ∙ ap (λ o. part_then c past o (λ qs us. parts_past c qs many us)) e

  complete_by : (past : List Part) (many : ℕ) (p : Part) (ps : List Part) (ts : List Token) → length ts ≤ many → Splits (Spells p) (AreSpelled ps) ts
      → misfit c past p ≡ None → ((m : ℕ) (us : List Token) → length us ≤ m → AreSpelled ps us → parts_past c (p ∷ past) m us ≡ Some ps)
      → parts_past c past many ts ≡ Some (p ∷ ps)
  complete_by past zero p ps ts enough s fits later =
      absurd (omega (arith, spells_some p s.mine s.first, ap length s.joined, length-append s.mine s.rest))
  complete_by past (suc many) p ps ts enough s fits later =
      let front_is = ap front s.joined ∙ part_found p s.mine s.rest s.first in
      let some : 0 < length ts = omega (arith, spells_some p s.mine s.first, ap length s.joined, length-append s.mine s.rest) in
      let shorter : length s.rest ≤ many = omega (arith, spells_some p s.mine s.first, ap length s.joined, length-append s.mine s.rest) in
      takes past many ts p s.rest some front_is fits ∙ ap (with_parts (p ∷ [])) (later many s.rest shorter s.others)

  pub complete : (past : List Part) (many : ℕ) (ps : List Part) (ts : List Token) → length ts ≤ many → AreSpelled ps ts → AreGood (misfit c) past ps
      → parts_past c past many ts ≡ Some ps
  complete past many [] ts enough s good = ap (parts_past c past many) s ∙ none_past past many
  complete past many (p ∷ ps) ts enough s good =
      complete_by past many p ps ts enough s good.0 (λ m us le k. complete (p ∷ past) m ps us le k good.1)

  -- the parts are spelled, and fit
  pub record Reads (past : List Part) (ps : List Part) (ts : List Token) : Type 0 where
    pub spelled : AreSpelled ps ts
    pub good : AreGood (misfit c) past ps

  with_sound : (past : List Part) (f : Found Part) (ts : List Token) (o : Option (List Part)) (ps : List Part) → front ts ≡ Some f → misfit c past f.item ≡ None
      → ((qs : List Part) → o ≡ Some qs → Reads (f.item ∷ past) qs f.rest) → with_parts (f.item ∷ []) o ≡ Some ps → Reads past ps ts
  with_sound past f ts None ps e fits later h = cc
  with_sound past f ts (Some qs) ps e fits later h =
      let same : f.item ∷ qs ≡ ps = cc in
      let r = later qs refl in
      let s = part_sound ts f e in
      subst (λ us. Reads past us ts) same
      (record { spelled = record { mine = s.mine; rest = f.rest; joined = s.joined; first = s.holds; others = r.spelled }; good = (fits, r.good) })

  fit_sound : (past : List Part) (many : ℕ) (f : Found Part) (ts : List Token) (m : Option Slot) (ps : List Part) → front ts ≡ Some f → misfit c past f.item ≡ m
      → ((qs : List Part) → parts_past c (f.item ∷ past) many f.rest ≡ Some qs → Reads (f.item ∷ past) qs f.rest)
      → fitted f.item m (parts_past c (f.item ∷ past) many f.rest) ≡ Some ps → Reads past ps ts
  fit_sound past many f ts None ps e fits later h = with_sound past f ts (parts_past c (f.item ∷ past) many f.rest) ps e fits later h
  fit_sound past many f ts (Some s) ps e fits later h = cc

  sound_by : (past : List Part) (many : ℕ) (ts : List Token) (o : Option (Found Part)) (ps : List Part) → front ts ≡ o
      → ((qs : List Part) (us : List Token) (rs : List Part) → parts_past c qs many us ≡ Some rs → Reads qs rs us)
      → part_then c past o (λ qs us. parts_past c qs many us) ≡ Some ps → Reads past ps ts
  sound_by past many ts None ps e later h = cc
  sound_by past many ts (Some f) ps e later h =
      fit_sound past many f ts (misfit c past f.item) ps e refl (λ qs k. later (f.item ∷ past) f.rest qs k) h

  pub sound : (past : List Part) (many : ℕ) (ts : List Token) (ps : List Part) → parts_past c past many ts ≡ Some ps → Reads past ps ts
  sound past many [] ps h =
      let same : [] ≡ ps = let both : Some [] ≡ Some ps = sym (none_past past many) ∙ h in cc in
      subst (λ us. Reads past us []) same (record { spelled = refl; good = tt })
  sound past zero (t ∷ ts) ps h = absurd (stuck_past past (t ∷ ts) ps (omega arith) h)
  sound past (suc many) (t ∷ ts) ps h =
      sound_by past many (t ∷ ts) (front (t ∷ ts)) ps refl (λ qs us rs k. sound qs many us rs k) (sym (more_past past many (t ∷ ts) (omega arith)) ∙ h)
