-- What stands in a cut text, by the walk: gaps between the pieces, and each piece whole.
use Rattle.std.proofs.Common.{◌≡◌, ◌↔◌, ◌∙◌, sym, ap, refl, Bool, true, get_or, slice_index, ℕ, ◌+◌, ◌-◌, ◌==◌, List, [], ◌∷◌, Result, Ok, length, drop, arith, subst, inl, inr}
use Rattle.std.proofs.lemmas.List.{get_or-drop}
use Rattle.gs_text.specs.Bytes.{is_white}
use Rattle.gs_text.specs.Before.{has_begun, in_braces}
use Rattle.gs_text.specs.Cut.{line_of, pieces}
use Rattle.gs_text.specs.Gaps.{IsGap, IsSkipped, IsFilled, HasGaps}
use Rattle.gs_text.specs.Whole.{IsWhole, AreWhole}
use Rattle.gs_text.proofs.CutLaws.{Begins, piece_here}
use Rattle.gs_text.proofs.Follow.{onto_ok, found}
use Rattle.gs_text.proofs.FrontLaws.{front-says}
use Rattle.gs_text.proofs.Says.{Says, Skips, IsFound, IsPassed}
use Rattle.gs_text.proofs.Walk.{Steps, walk_all}
use Rattle.gs_text.specs.declared.cutter.Place.{Place}
use Rattle.gs_text.specs.declared.kinds.Kind.{Kind}
use Rattle.gs_text.specs.declared.kinds.Kind.TheVariants.{Word, Escaped, Text, Mark}
use Rattle.gs_text.specs.declared.kinds.Piece.{Piece}
use Rattle.gs_text.specs.declared.kinds.Style.{Style}
use Rattle.gs_text.specs.declared.kinds.Style.TheVariants.{Verilog, Lib, Spef, Sdc}
use Rattle.gs_text.specs.declared.kinds.TextErr.{TextErr}
use Rattle.gs_text.specs.declared.scan.Front.{Front}
use Rattle.gs_text.specs.declared.scan.Front.TheVariants.{Gap, Passed}

-- a piece's own line tells as well whether its command has begun, where that matters
pub same_begun : (style : Style) (braced : Bool) (line first latest : ℕ) (kind : Kind) (len : ℕ) (xs : List ℕ)
    → IsWhole style braced (latest == first) kind len xs ↔ IsWhole style braced (latest == line_of style line first) kind len xs
same_begun Verilog braced line first latest Word len xs = (λ h. h, λ h. h)
same_begun Verilog braced line first latest Escaped len xs = (λ h. h, λ h. h)
same_begun Verilog braced line first latest Text len xs = (λ h. h, λ h. h)
same_begun Verilog braced line first latest Mark len xs = (λ h. h, λ h. h)
same_begun Lib braced line first latest Word len xs = (λ h. h, λ h. h)
same_begun Lib braced line first latest Escaped len xs = (λ h. h, λ h. h)
same_begun Lib braced line first latest Text len xs = (λ h. h, λ h. h)
same_begun Lib braced line first latest Mark len xs = (λ h. h, λ h. h)
same_begun Spef braced line first latest Word len xs = (λ h. h, λ h. h)
same_begun Spef braced line first latest Escaped len xs = (λ h. h, λ h. h)
same_begun Spef braced line first latest Text len xs = (λ h. h, λ h. h)
same_begun Spef braced line first latest Mark len xs = (λ h. h, λ h. h)
same_begun Sdc braced line first latest kind len xs = (λ h. h, λ h. h)

module _ (style : Style) (bs : List ℕ) where
  -- what begins at a place, said of the bytes from there on
  pub says_here : (here : Place) (f : Front) → Begins style bs here f → Says style here.braced (here.latest == here.first) (drop here.at bs) f
  says_here here f b =
      let P : Front → Type 0 = Says style here.braced (here.latest == here.first) (b.first ∷ b.rest) in
      let Q : List ℕ → Type 0 = λ xs. Says style here.braced (here.latest == here.first) xs f in
      subst Q (sym b.split) (subst P b.front_is (front-says style here.braced (here.latest == here.first) b.first b.rest))

  pub slice_there : (at : ℕ) → slice_index (drop at bs) 0 ≡ slice_index bs at
  slice_there at = let e : at + 0 ≡ at = omega arith in get_or-drop at bs 0 0 ∙ ap (λ i. get_or bs i 0) e

  pub white_gap : (before : List Piece) (here : Place) → Begins style bs here Gap → IsGap style bs before here.at 1
  white_gap before here b =
      let w : is_white (slice_index (drop here.at bs) 0) ≡ true = says_here here Gap b in
      inl (refl, ap is_white (sym (slice_there here.at)) ∙ w)

  -- one more gap in front
  more : (before : List Piece) (at len to : ℕ) → IsGap style bs before at len → IsFilled style bs before (at + len) to → IsFilled style bs before at to
  more before at len to g f = record { lengths = len ∷ f.lengths; fill = (g, f.fill) }

  pub more_gaps : (before : List Piece) (at len : ℕ) (ps : List Piece) → IsGap style bs before at len → HasGaps style bs before (at + len) ps → HasGaps style bs before at ps
  more_gaps before at len [] g h = more before at len (length bs) g h
  more_gaps before at len (p ∷ ps) g h = (more before at len p.from g h.0, h.1)

  pub no_gap : (before : List Piece) (at : ℕ) → IsFilled style bs before at at
  no_gap before at = record { lengths = []; fill = refl }

  pub gaps_end : (before : List Piece) (here : Place) → here.at ≡ length bs → (ps : List Piece) → ◌≡◌ {A = Result (List Piece) TextErr} (Ok []) (Ok ps) → HasGaps style bs before here.at ps
  gaps_end before here e ps h =
      let empty : ◌≡◌ {A = List Piece} [] ps = cc h in
      let P : ℕ → Type 0 = IsFilled style bs before here.at in
      subst (HasGaps style bs before here.at) empty (subst P e (no_gap before here.at))

  -- the styles whose comments may stand anywhere
  module _ (anywhere : (before : List Piece) (at len : ℕ) → Skips style len (drop at bs) → IsSkipped style bs before at len) where
    comment_gap : (before : List Piece) (here : Place) (len : ℕ) → Begins style bs here (Passed len) → IsGap style bs before here.at len
    comment_gap before here len b =
        let p : IsPassed style len (drop here.at bs) = says_here here (Passed len) b in
        inr (anywhere before here.at len p.skipped)

    abbrev Gapped : List Piece → Place → Result (List Piece) TextErr → Type 0
    Gapped before here r = (ps : List Piece) → r ≡ Ok ps → HasGaps style bs before here.at ps

    gapped_steps : Steps style bs Gapped
    gapped_steps = record {
      at_end = λ before here a e ps h. gaps_end before here e ps h;
      at_white = λ before here a b r later ps h. more_gaps before here.at 1 ps (white_gap before here b) (later ps h);
      at_piece = λ before here a kind len b pos within r later ps h.
          let p : Piece = piece_here style here kind len in
          let q : (qs : List Piece) × ((r ≡ Ok qs) × (ps ≡ p ∷ qs)) = onto_ok p r ps h in
          subst (HasGaps style bs before here.at) (sym q.1.1) (no_gap before here.at, later q.0 q.1.0);
      at_comment = λ before here a len b pos within r later ps h. more_gaps before here.at len ps (comment_gap before here len b) (later ps h);
      at_fault = λ before here a f b e is ps h. cc h;
    }

    pub gapped : (ps : List Piece) → pieces style bs ≡ Ok ps → HasGaps style bs [] 0 ps
    gapped = walk_all style bs Gapped gapped_steps

  abbrev Whole : List Piece → Place → Result (List Piece) TextErr → Type 0
  Whole before here r = (ps : List Piece) → r ≡ Ok ps → AreWhole style bs before ps

  whole_steps : Steps style bs Whole
  whole_steps = record {
    at_end = λ before here a e ps h.
        let empty : ◌≡◌ {A = List Piece} [] ps = cc h in
        subst (AreWhole style bs before) empty tt;
    at_white = λ before here a b r later. later;
    at_piece = λ before here a kind len b pos within r later ps h.
        let p : Piece = piece_here style here kind len in
        let q : (qs : List Piece) × ((r ≡ Ok qs) × (ps ≡ p ∷ qs)) = onto_ok p r ps h in
        let f : IsFound style here.braced (here.latest == here.first) kind len (b.first ∷ b.rest) = found style bs here kind len b in
        let size : here.at + len - here.at ≡ len = omega arith in
        let whole : IsWhole style (in_braces bs before) (has_begun p.line before) kind (here.at + len - here.at) (drop here.at bs) =
        rw (size, b.split, ← a.braced, ← a.latest) ((same_begun style here.braced here.line here.first here.latest kind len (b.first ∷ b.rest)).0 f.whole) in
        subst (AreWhole style bs before) (sym q.1.1) (whole, later q.0 q.1.0);
    at_comment = λ before here a len b pos within r later. later;
    at_fault = λ before here a f b e is ps h. cc h;
  }

  pub pieces_whole : (ps : List Piece) → pieces style bs ≡ Ok ps → AreWhole style bs [] ps
  pieces_whole = walk_all style bs Whole whole_steps
