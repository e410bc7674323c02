-- How a list of those that hold is gathered.
use Rattle.std.proofs.Common.{◌≡◌, refl, sym, subst, ℕ, ◌+◌, ◌<◌, ◌≤◌, Bool, true, false, not, if◌then◌else◌, List, [], ◌∷◌, ◌++◌, length, drop, get_or, suc, inl, inr, append-nil, arith}
use Rattle.std.proofs.Math.Seq.{drop-cons}
use Rattle.std.proofs.lemmas.List.{append_assoc, drop_all}
use Rattle.gs_explain.specs.Judging.{Decides}
use Rattle.gs_text.specs.Bytes.{max_text}
use Rattle.gs_explain.specs.Wanted.{AreThose, CouldStand, IsBad, with_piece}
use Rattle.gs_explain.specs.declared.form.Form.{Form}
use Rattle.gs_explain.specs.declared.form.Wanted.{Wanted}

-- those that hold from a place on, after those that were found before it, are those of all
abbrev pub GoesOn : (Holds : Wanted → Type 0) → (all : List Wanted) → (i : ℕ) → (found : List Wanted) → Type 0
GoesOn Holds all i found = (more : List Wanted) → AreThose Holds (drop i all) more → AreThose Holds all (found ++ more)

module _ (Holds : Wanted → Type 0) (all : List Wanted) where
  pub goes_first : GoesOn Holds all 0 []
  goes_first more h = h

  here : (i next : ℕ) (d : Wanted) (those : List Wanted) → next ≡ i + 1 → i < length all → AreThose Holds (get_or all i d ∷ drop next all) those → AreThose Holds (drop i all) those
  here i next d those e inside h =
      let same : suc i ≡ next = omega (arith, e) in
      subst (λ xs. AreThose Holds xs those) (sym (drop-cons all i d inside)) (subst (λ k. AreThose Holds (get_or all i d ∷ drop k all) those) (sym same) h)

  goes_by : (i next : ℕ) (d : Wanted) (b : Bool) (found : List Wanted) → next ≡ i + 1 → i < length all → Decides (Holds (get_or all i d)) b → GoesOn Holds all i found
      → GoesOn Holds all next (if b then found ++ get_or all i d ∷ [] else found)
  goes_by i next d true found e inside holds go more h =
      subst (AreThose Holds all) (sym (append_assoc found (get_or all i d ∷ []) more))
      (go (get_or all i d ∷ more) (here i next d (get_or all i d ∷ more) e inside (inl (holds, more, refl, h))))
  goes_by i next d false found e inside fails go more h = go more (here i next d more e inside (inr (fails, h)))

  pub goes_on : (i next : ℕ) (d : Wanted) (b : Bool) (found now : List Wanted) → next ≡ i + 1 → i < length all → Decides (Holds (get_or all i d)) b
      → now ≡ (if b then found ++ get_or all i d ∷ [] else found) → GoesOn Holds all i found → GoesOn Holds all next now
  goes_on i next d b found now e inside decides is go = subst (GoesOn Holds all next) (sym is) (goes_by i next d b found e inside decides go)

  pub goes_last : (i : ℕ) (found : List Wanted) → length all ≤ i → GoesOn Holds all i found → AreThose Holds all found
  goes_last i found past go =
      subst (AreThose Holds all) (append-nil found) (go [] (subst (λ xs. AreThose Holds xs []) (sym (drop_all i all past)) refl))

-- a text past the limit is not asked of
pub too_long : (form : Form) (before : List ℕ) (i : ℕ) (w : Wanted) (text : List ℕ) → text ≡ with_piece before w → max_text < length text → CouldStand form before i w → ⊥
too_long form before i w text e long h =
    let fits : length text ≤ max_text = subst (λ t. length t ≤ max_text) (sym e) h.fits in
    omega (arith, fits, long)

-- what the reader says of the text with the piece is what could stand
pub judged : (form : Form) (before : List ℕ) (i : ℕ) (w : Wanted) (text : List ℕ) (b : Bool) → text ≡ with_piece before w → length text ≤ max_text
    → Decides (IsBad form text i) b → Decides (CouldStand form before i w) (not b)
judged form before i w text true e fits bad = λ h. h.good (subst (λ t. IsBad form t i) e bad)
judged form before i w text false e fits good = record {
  fits = subst (λ t. length t ≤ max_text) e fits;
  good = λ bad. good (subst (λ t. IsBad form t i) (sym e) bad);
}
