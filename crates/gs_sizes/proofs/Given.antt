-- The places that lines give, in a list.

use Rattle.std.proofs.Common.{◌≡◌, ◌≢◌, ℕ, ◌<◌, ◌==◌, Bool, true, false, List, [], ◌∷◌, length, slice_index_or, slice_set, if◌then◌else◌, Option, None, Some, Result, Ok, Err, refl, sym, ◌∙◌, ap, arith}
use Rattle.std.specs.Prelude.{OnOk}
use Rattle.std.specs.Str.{bytes_eq}
use Rattle.std.proofs.lemmas.Bool.{eq-eqb, eqb-true, false≢true}
use Rattle.std.proofs.lemmas.List.{get_or-set_other, get_or-set_same, length-set}
use Rattle.std.proofs.lemmas.List.FromFn.{fill_by_all}
use Rattle.gs_design.specs.Cells.{cell_at}
use Rattle.gs_design.specs.Insts.{inst_at}
use Rattle.gs_design.specs.declared.parts.Parts.{Parts}
use Rattle.gs_sizes.specs.Lines.{Row, row_of, words}
use Rattle.gs_sizes.specs.Reader.{GivesPlace, Holds, all_given}
use Rattle.gs_sizes.specs.Sizes.{given, given_by, inst_fault, inst_named, is_at, place_fault, place_named}
use Rattle.gs_sizes.proofs.Positions.{found_below}

module _ (d : Parts) where
  -- one place more
  pub places_set : (places new : List (Option ℕ)) (past : List Row) (inst cell : List ℕ) (g : ℕ) → Holds d places past → g < length d.insts → inst_named d inst ≡ Some g
      → new ≡ slice_set places g (place_named d g cell) → place_fault d (slice_index_or places g None) g cell ≡ None → GivesPlace d new past inst cell
  places_set places new past inst cell g h lt named set good = record {
    good = ap (λ o. inst_fault d past o cell) named ∙ ap (λ o. place_fault d o g cell) (sym (h.each g lt)) ∙ good;
    as_many = ap length set ∙ length-set places g (place_named d g cell) ∙ h.as_many;
    each = λ k k_in. ap (λ xs. slice_index_or xs k None) set ∙ by_place k k_in (g == k) refl ∙ sym (ap (λ o. if is_at k o then place_named d k cell else given d past k) named);
  }
    where
      by_place : (k : ℕ) → k < length d.insts → (b : Bool) → (g == k) ≡ b → slice_index_or (slice_set places g (place_named d g cell)) k None ≡ (if g == k then place_named d k cell else given d past k)
      by_place k k_in true e =
          let same : g ≡ k = eqb-true g k e in
          let inside : g < length places = omega (arith, h.as_many) in
          rw e (ap (λ i. slice_index_or (slice_set places g (place_named d g cell)) i None) (sym same)
          ∙ get_or-set_same places g (place_named d g cell) None inside ∙ ap (λ i. place_named d i cell) same)
      by_place k k_in false e =
          let other : k ≢ g = λ same. false≢true (sym e ∙ eq-eqb g k (sym same)) in
          rw e (get_or-set_other places g k (place_named d g cell) None other ∙ h.each k k_in)

  -- the places after a line with two words
  took : (places new : List (Option ℕ)) (line inst cell : List ℕ) → words line ≡ inst ∷ cell ∷ [] → ((past : List Row) → Holds d places past → GivesPlace d new past inst cell)
      → (past : List Row) (i : ℕ) → Holds d places past → Holds d new (row_of i line ∷ past)
  took places new line inst cell e gives past i h =
      let given_now = gives past h in
      record {
        as_many = given_now.as_many;
        each = λ g lt. given_now.each g lt ∙ ap (λ ws. given_by d ws g (given d past g)) (sym e);
      }

  pub took_ok : {T E : Type 0} (r : Result T E) (places new : List (Option ℕ)) (line inst cell : List ℕ) → words line ≡ inst ∷ cell ∷ []
      → OnOk r ((past : List Row) → Holds d places past → GivesPlace d new past inst cell)
      → OnOk r ((past : List Row) (i : ℕ) → Holds d places past → Holds d new (row_of i line ∷ past))
  took_ok (Ok v) places new line inst cell e gives = took places new line inst cell e gives
  took_ok (Err f) places new line inst cell e gives = gives

  pub all_held : (places : List (Option ℕ)) (past : List Row) → Holds d places past → places ≡ all_given d past
  all_held places past h = fill_by_all (given d past) places (length d.insts) None h.as_many h.each

  -- a place that is given is one of the instance's
  given_one : (ws : List (List ℕ)) (g p : ℕ) (before : Option ℕ) → (before ≡ Some p → p < length (inst_at d.insts g).alts) → given_by d ws g before ≡ Some p → p < length (inst_at d.insts g).alts
  given_one [] g p before h e = h e
  given_one (inst ∷ []) g p before h e = h e
  given_one (inst ∷ cell ∷ []) g p before h e = by_test (is_at g (inst_named d inst)) e
    where
      by_test : (b : Bool) → (if b then place_named d g cell else before) ≡ Some p → p < length (inst_at d.insts g).alts
      by_test true e = omega (arith, found_below (λ c. bytes_eq cell (cell_at d.cells c).name) (inst_at d.insts g).alts 0 p e)
      by_test false e = h e
  given_one (inst ∷ cell ∷ other ∷ ws) g p before h e = h e

  pub given_below : (past : List Row) (g p : ℕ) → given d past g ≡ Some p → p < length (inst_at d.insts g).alts
  given_below [] g p e = cc
  given_below (l ∷ past) g p e = given_one l.words g p (given d past g) (given_below past g p) e
