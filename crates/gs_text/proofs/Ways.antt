-- The way to a place, by what begins at each byte: the same as by gaps and whole pieces.
use Rattle.std.proofs.Common.{◌≡◌, ◌∙◌, sym, ap, refl, ℕ, ◌+◌, ◌<◌, ◌≤◌, Bool, true, false, slice_index, List, [], ◌∷◌, length, length-drop, drop, arith, subst, inl, inr}
use Rattle.gs_text.specs.Bytes.{is_white}
use Rattle.gs_text.specs.Faults.{IsPart, Leads}
use Rattle.gs_text.specs.Front.{front}
use Rattle.gs_text.specs.Gaps.{IsSkipped}
use Rattle.gs_text.specs.Whole.{IsWhole}
use Rattle.gs_text.proofs.Fronts.{SkipsHere, skipped_front, white_front, whole_front}
use Rattle.gs_text.proofs.Says.{Says, Skips}
use Rattle.gs_text.proofs.Shape.{slice_there}
use Rattle.gs_text.specs.declared.kinds.Kind.{Kind}
use Rattle.gs_text.specs.declared.kinds.Style.{Style}
use Rattle.gs_text.specs.declared.scan.Front.{Front}
use Rattle.gs_text.specs.declared.scan.Front.TheVariants.{Gap, Found, Passed, OpenString, OpenComment}

-- what begins takes so many bytes: it is a byte of white, a comment, a continued line end or a piece
abbrev pub Takes : Front → (len : ℕ) → Type 0
Takes Gap len = len ≡ 1
Takes (Found kind n) len = len ≡ n
Takes (Passed n) len = len ≡ n
Takes OpenString len = ⊥
Takes OpenComment len = ⊥

-- with the first of these bytes begins f, by the rules of a style
abbrev pub BeginsWith : (ℕ → List ℕ → Front) → List ℕ → Front → Type 0
BeginsWith begin [] f = ⊥
BeginsWith begin (c ∷ cs) f = begin c cs ≡ f

-- what begins at place at has so many bytes
pub record IsPartBy (begin : ℕ → List ℕ → Front) (bytes : List ℕ) (at len : ℕ) : Type 0 where
  pub what : Front
  pub begins : BeginsWith begin (drop at bytes) what
  pub takes : Takes what len

-- white, comments and pieces of these lengths follow one another from place at up to place to
abbrev pub LeadsBy : (ℕ → List ℕ → Front) → (bytes : List ℕ) → (at to : ℕ) → List ℕ → Type 0
LeadsBy begin bytes at to [] = at ≡ to
LeadsBy begin bytes at to (n ∷ ns) = IsPartBy begin bytes at n × LeadsBy begin bytes (at + n) to ns

-- a style whose rules look at the bytes alone, and of which a comment may stand anywhere
module _ (style : Style) (begin : ℕ → List ℕ → Front) (plain : (c : ℕ) (cs : List ℕ) → front style false false c cs ≡ begin c cs)
    (says : (c : ℕ) (cs : List ℕ) → Says style false false (c ∷ cs) (begin c cs)) (bs : List ℕ)
    (anywhere : (at len : ℕ) → Skips style len (drop at bs) → IsSkipped style bs [] at len) (here : (at len : ℕ) → IsSkipped style bs [] at len → SkipsHere style false false len (drop at bs))
    (some_byte : (len : ℕ) → SkipsHere style false false len [] → ⊥) where
  said : (xs : List ℕ) (f : Front) → BeginsWith begin xs f → Says style false false xs f
  said [] f b = absurd b
  said (c ∷ cs) f b = subst (Says style false false (c ∷ cs)) b (says c cs)

  part_by : (at len : ℕ) (f : Front) → Says style false false (drop at bs) f → Takes f len → IsPart style bs at len
  part_by at len Gap s t = inl (inl (t, ap is_white (sym (slice_there style bs at)) ∙ s))
  part_by at len (Found kind n) s t =
      let P : ℕ → Type 0 = λ m. IsWhole style false false kind m (drop at bs) in
      inr (omega (arith, s.some, t), omega (arith, s.some, s.within, length-drop at bs, t), kind, subst P (sym t) s.whole)
  part_by at len (Passed n) s t =
      let P : ℕ → Type 0 = λ m. IsSkipped style bs [] at m in
      inl (inr (subst P (sym t) (anywhere at n s.skipped)))
  part_by at len OpenString s t = absurd t
  part_by at len OpenComment s t = absurd t

  pub leads_to : (at to : ℕ) (ns : List ℕ) → LeadsBy begin bs at to ns → Leads style bs at to ns
  leads_to at to [] l = l
  leads_to at to (n ∷ ns) l = (part_by at n l.0.what (said (drop at bs) l.0.what l.0.begins) l.0.takes, leads_to (at + n) to ns l.1)

  no_white : (b : Bool) → b ≡ false → b ≡ true → ⊥
  no_white b f t = cc (f, t)

  white_begins : (xs : List ℕ) → is_white (slice_index xs 0) ≡ true → BeginsWith begin xs Gap
  white_begins [] w = no_white (is_white 0) refl w
  white_begins (c ∷ cs) w = sym (plain c cs) ∙ white_front style false false c cs w

  skip_begins : (len : ℕ) (xs : List ℕ) → SkipsHere style false false len xs → BeginsWith begin xs (Passed len)
  skip_begins len [] s = absurd (some_byte len s)
  skip_begins len (c ∷ cs) s = sym (plain c cs) ∙ skipped_front style false false len c cs s

  whole_begins : (kind : Kind) (len : ℕ) (xs : List ℕ) → 0 < len → len ≤ length xs → IsWhole style false false kind len xs → BeginsWith begin xs (Found kind len)
  whole_begins kind len [] some within w = absurd (omega (arith, some, within))
  whole_begins kind len (c ∷ cs) some within w = sym (plain c cs) ∙ whole_front style false false kind len c cs some within w

  part_from : (at len : ℕ) → IsPart style bs at len → IsPartBy begin bs at len
  part_from at len (inl (inl w)) = record { what = Gap; begins = white_begins (drop at bs) (ap is_white (slice_there style bs at) ∙ w.1); takes = w.0 }
  part_from at len (inl (inr s)) = record { what = Passed len; begins = skip_begins len (drop at bs) (here at len s); takes = refl }
  part_from at len (inr (some, within, kind, w)) = record { what = Found kind len; begins = whole_begins kind len (drop at bs) some (omega (arith, within, length-drop at bs)) w; takes = refl }

  pub leads_from : (at to : ℕ) (ns : List ℕ) → Leads style bs at to ns → LeadsBy begin bs at to ns
  leads_from at to [] l = l
  leads_from at to (n ∷ ns) l = (part_from at n l.0, leads_from (at + n) to ns l.1)
