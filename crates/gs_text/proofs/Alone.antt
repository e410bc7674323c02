-- The relation of a text and its pieces has no other pieces than the text's.
use Rattle.std.proofs.Common.{◌≡◌, ◌≢◌, ◌⊎◌, ◌∙◌, sym, ap, refl, ℕ, ◌+◌, ◌-◌, ◌<◌, ◌≤◌, ◌==◌, Bool, false, slice_index, get_or, List, [], ◌∷◌, Result, Ok, length, drop, arith, subst, inl, inr}
use Rattle.std.specs.List.{AllByRecursion}
use Rattle.std.proofs.lemmas.Bool.Decides.{nat_tests}
use Rattle.std.proofs.lemmas.List.{get_or-drop}
use Rattle.std.proofs.lemmas.List.Elements.{recursion_from_All}
use Rattle.gs_text.specs.Before.{in_braces, has_begun}
use Rattle.gs_text.specs.Bytes.{is_white}
use Rattle.gs_text.specs.Cut.{line_of, onto, pieces}
use Rattle.gs_text.specs.Cutter.{Agrees, past_comment, past_piece, past_white, start}
use Rattle.gs_text.specs.Cutting.{IsCutting, IsCutAlone}
use Rattle.gs_text.specs.Front.{front}
use Rattle.gs_text.specs.Gaps.{Fill, IsGap, IsSkipped, HasGaps}
use Rattle.gs_text.specs.Lines.{HasLine, HaveLines, line_at}
use Rattle.gs_text.specs.Pieces.{LiesIn}
use Rattle.gs_text.specs.Whole.{AreWhole, IsWhole}
use Rattle.gs_text.proofs.CutLaws.{Begins, piece_here}
use Rattle.gs_text.proofs.Follow.{pieces_inside}
use Rattle.gs_text.proofs.Fronts.{SkipsHere, skipped_front, white_front, whole_front}
use Rattle.gs_text.proofs.LineLaws.{Kept, kept_comment, kept_piece, kept_start, kept_white_here, line_part, line_white, one_line_of, pieces_gaps, pieces_lines}
use Rattle.gs_text.proofs.Says.{IsPassed}
use Rattle.gs_text.proofs.Shape.{pieces_whole, says_here, same_begun}
use Rattle.gs_text.proofs.Walk.{FaultIs, Steps, walk_all}
use Rattle.gs_text.specs.declared.cutter.Place.{Place}
use Rattle.gs_text.specs.declared.kinds.Kind.{Kind}
use Rattle.gs_text.specs.declared.kinds.Piece.{Piece}
use Rattle.gs_text.specs.declared.kinds.Style.{Style}
use Rattle.gs_text.specs.declared.kinds.Style.TheVariants.{Verilog, Lib, Spef, Sdc}
use Rattle.gs_text.specs.declared.kinds.TextErr.{TextErr}
use Rattle.gs_text.specs.declared.scan.Front.{Front}
use Rattle.gs_text.specs.declared.scan.Front.TheVariants.{Gap, Found, Passed, OpenString, OpenComment}

-- what is known at a place, in each style
abbrev Held : Style → List ℕ → List Piece → Place → Type 0
Held Verilog bs before here = here.line ≡ line_at bs here.at
Held Lib bs before here = here.line ≡ line_at bs here.at
Held Spef bs before here = here.line ≡ line_at bs here.at
Held Sdc bs before here = Kept bs before here

held_start : (style : Style) (bs : List ℕ) → Held style bs [] start
held_start Verilog bs = refl
held_start Lib bs = refl
held_start Spef bs = refl
held_start Sdc bs = kept_start bs

held_white : (style : Style) (bs : List ℕ) (before : List Piece) (here : Place) (b : Begins style bs here Gap) → Held style bs before here → Held style bs before (past_white b.first here)
held_white Verilog bs before here b h = line_white Verilog bs here b h
held_white Lib bs before here b h = line_white Lib bs here b h
held_white Spef bs before here b h = line_white Spef bs here b h
held_white Sdc bs before here b h = kept_white_here bs before here b h

held_piece : (style : Style) (bs : List ℕ) (before : List Piece) (here : Place) (kind : Kind) (len : ℕ) → Begins style bs here (Found kind len) → 0 < len → Held style bs before here
    → Held style bs (piece_here style here kind len ∷ before) (past_piece bs (piece_here style here kind len) here)
held_piece Verilog bs before here kind len b pos h = line_part Verilog bs here.at len (here.at + len) here.line refl h
held_piece Lib bs before here kind len b pos h = line_part Lib bs here.at len (here.at + len) here.line refl h
held_piece Spef bs before here kind len b pos h = line_part Spef bs here.at len (here.at + len) here.line refl h
held_piece Sdc bs before here kind len b pos h = kept_piece bs before here kind len b pos h

held_comment : (style : Style) (bs : List ℕ) (before : List Piece) (here : Place) (len : ℕ) → Begins style bs here (Passed len) → 0 < len → Held style bs before here → Held style bs before (past_comment bs (here.at + len) here)
held_comment Verilog bs before here len b pos h = line_part Verilog bs here.at len (here.at + len) here.line refl h
held_comment Lib bs before here len b pos h = line_part Lib bs here.at len (here.at + len) here.line refl h
held_comment Spef bs before here len b pos h = line_part Spef bs here.at len (here.at + len) here.line refl h
held_comment Sdc bs before here len b pos h = let s : IsPassed Sdc len (drop here.at bs) = says_here Sdc bs here (Passed len) b in kept_comment bs before here len b pos s.skipped h

-- a piece that begins at the place has the line that it is given there
line_is : (style : Style) (bs : List ℕ) (before : List Piece) (here : Place) (p : Piece) → Held style bs before here → here.at ≡ p.from → HasLine style bs before p → p.line ≡ line_of style here.line here.first
line_is Verilog bs before here p h at l = l ∙ ap (line_at bs) (sym at) ∙ sym h
line_is Lib bs before here p h at l = l ∙ ap (line_at bs) (sym at) ∙ sym h
line_is Spef bs before here p h at l = l ∙ ap (line_at bs) (sym at) ∙ sym h
line_is Sdc bs before here p h at l =
    let P : ℕ → Type 0 = λ i. HasLine Sdc bs before (record p { from = i }) in
    one_line_of bs before here.at here.first p.line h.command (subst P (sym at) l)

not_same : (m n : ℕ) → m ≢ n → m == n ≡ false
not_same m n e = grind (arith, nat_tests, e)

-- what is skipped at the place begins there
skips_there : (style : Style) (bs : List ℕ) (before : List Piece) (here : Place) (len : ℕ) → Held style bs before here → Agrees bs before here → IsSkipped style bs before here.at len
    → SkipsHere style here.braced (here.latest == here.first) len (drop here.at bs)
skips_there Verilog bs before here len h a s = s
skips_there Lib bs before here len h a s = s
skips_there Spef bs before here len h a s = s
skips_there Sdc bs before here len h a (inl (c, k)) =
    let same : here.first ≡ k.line = one_line_of bs before here.at k.line here.first k.command h.command in
    inl (c, a.braced ∙ k.outside, not_same here.latest here.first (λ e. k.first (sym a.latest ∙ e ∙ same)))
skips_there Sdc bs before here len h a (inr c) = inr c

-- a piece is the one of its kind, place, size and line
one_piece : (p : Piece) (at len line : ℕ) → at ≡ p.from → p.to ≡ at + len → p.line ≡ line → p ≡ record { kind = p.kind; from = at; to = at + len; line = line }
one_piece p at len line from to is =
    let P : ℕ → ℕ → ℕ → Piece = λ a t l. record { kind = p.kind; from = a; to = t; line = l } in
    ap (λ a. P a p.to p.line) (sym from) ∙ ap (λ t. P at t p.line) to ∙ ap (λ l. P at (at + len) l) is

module _ (style : Style) (bs : List ℕ) where
  -- what stands first from a place on: a gap, or a piece, or the end of the text
  abbrev First : (before : List Piece) (at : ℕ) → List Piece → Type 0
  First before at ps =
      ((n : ℕ) × IsGap style bs before at n × HasGaps style bs before (at + n) ps)
      ⊎ (((p : Piece) × (qs : List Piece) × (ps ≡ p ∷ qs) × (at ≡ p.from) × HasGaps style bs (p ∷ before) p.to qs) ⊎ (at ≡ length bs))

  first_end : (before : List Piece) (at : ℕ) (ns : List ℕ) → Fill style bs before at (length bs) ns → First before at []
  first_end before at [] f = inr (inr f)
  first_end before at (n ∷ ns) f = inl (n, f.0, record { lengths = ns; fill = f.1 })

  first_piece : (before : List Piece) (at : ℕ) (p : Piece) (qs : List Piece) (ns : List ℕ) → Fill style bs before at p.from ns → HasGaps style bs (p ∷ before) p.to qs → First before at (p ∷ qs)
  first_piece before at p qs [] f h = inr (inl (p, qs, refl, f, h))
  first_piece before at p qs (n ∷ ns) f h = inl (n, f.0, (record { lengths = ns; fill = f.1 }, h))

  first : (before : List Piece) (at : ℕ) (ps : List Piece) → HasGaps style bs before at ps → First before at ps
  first before at [] h = first_end before at h.lengths h.fill
  first before at (p ∷ ps) h = first_piece before at p ps h.0.lengths h.0.fill h.1

  fill_up : (before : List Piece) (at to : ℕ) (ns : List ℕ) → Fill style bs before at to ns → at ≤ to
  fill_up before at to [] f = omega (arith, f)
  fill_up before at to (n ∷ ns) f = omega (arith, fill_up before (at + n) to ns f.1)

  module _ (before : List Piece) (here : Place) (held : Held style bs before here) (agrees : Agrees bs before here) (f : Front) (b : Begins style bs here f) where
    abbrev begun : Bool
    begun = here.latest == here.first

    abbrev there : Front
    there = front style here.braced begun b.first b.rest

    -- what is left of the pieces, by what begins at the place
    abbrev Goes : List Piece → Front → Type 0
    Goes ps Gap = HasGaps style bs before (here.at + 1) ps
    Goes ps (Found kind len) = (qs : List Piece) × (ps ≡ piece_here style here kind len ∷ qs) × HasGaps style bs (piece_here style here kind len ∷ before) (here.at + len) qs
    Goes ps (Passed len) = HasGaps style bs before (here.at + len) ps
    Goes ps OpenString = ⊥
    Goes ps OpenComment = ⊥

    first_byte : slice_index bs here.at ≡ b.first
    first_byte =
        let e : here.at + 0 ≡ here.at = omega arith in
        ap (λ i. get_or bs i 0) (sym e) ∙ sym (get_or-drop here.at bs 0 0) ∙ ap (λ xs. get_or xs 0 0) b.split

    gap_goes : (ps : List Piece) (n : ℕ) → IsGap style bs before here.at n → HasGaps style bs before (here.at + n) ps → Goes ps there
    gap_goes ps n (inl w) g =
        let is : there ≡ Gap = white_front style here.braced begun b.first b.rest (ap is_white (sym first_byte) ∙ w.1) in
        let P : ℕ → Type 0 = λ m. HasGaps style bs before (here.at + m) ps in
        subst (Goes ps) (sym is) (subst P w.0 g)
    gap_goes ps n (inr s) g =
        let P : List ℕ → Type 0 = SkipsHere style here.braced begun n in
        let is : there ≡ Passed n = skipped_front style here.braced begun n b.first b.rest (subst P b.split (skips_there style bs before here n held agrees s)) in
        subst (Goes ps) (sym is) g

    piece_goes : (p : Piece) (qs : List Piece) → here.at ≡ p.from → LiesIn (length bs) p → IsWhole style (in_braces bs before) (has_begun p.line before) p.kind (p.to - p.from) (drop p.from bs)
        → HasLine style bs before p → HasGaps style bs (p ∷ before) p.to qs → Goes (p ∷ qs) there
    piece_goes p qs at lies whole line g =
        let len : ℕ = p.to - p.from in
        let to : p.to ≡ here.at + len = omega (arith, at, lies.some) in
        let is_line : p.line ≡ line_of style here.line here.first = line_is style bs before here p held at line in
        let same : p ≡ piece_here style here p.kind len = one_piece p here.at len (line_of style here.line here.first) at to is_line in
        let W : Bool → ℕ → ℕ → ℕ → Type 0 = λ braced latest l i. IsWhole style braced (latest == l) p.kind len (drop i bs) in
        let w : W here.braced here.latest (line_of style here.line here.first) here.at =
        subst (λ i. W here.braced here.latest (line_of style here.line here.first) i) (sym at)
        (subst (λ l. W here.braced here.latest l p.from) is_line
        (subst (λ m. W here.braced m p.line p.from) (sym agrees.latest)
        (subst (λ x. IsWhole style x (has_begun p.line before) p.kind len (drop p.from bs)) (sym agrees.braced) whole))) in
        let v : IsWhole style here.braced begun p.kind len (drop here.at bs) = (same_begun style here.braced here.line here.first here.latest p.kind len (drop here.at bs)).1 w in
        let Q : List ℕ → Type 0 = IsWhole style here.braced begun p.kind len in
        let is : there ≡ Found p.kind len = whole_front style here.braced begun p.kind len b.first b.rest (omega (arith, lies.some)) (omega (arith, b.size, lies.within, at, lies.some)) (subst Q b.split v) in
        let R : Piece → Type 0 = λ q. HasGaps style bs (q ∷ before) q.to qs in
        subst (Goes (p ∷ qs)) (sym is) (qs, ap (λ q. q ∷ qs) same, subst R same g)

    goes_by : (ps : List Piece) → AllByRecursion (LiesIn (length bs)) ps → AreWhole style bs before ps → HaveLines style bs before ps → First before here.at ps → Goes ps there
    goes_by ps inside whole lines (inl (n, g, h)) = gap_goes ps n g h
    goes_by ps inside whole lines (inr (inl (p, qs, e, at, g))) =
        let i : AllByRecursion (LiesIn (length bs)) (p ∷ qs) = subst (AllByRecursion (LiesIn (length bs))) e inside in
        let w : AreWhole style bs before (p ∷ qs) = subst (AreWhole style bs before) e whole in
        let l : HaveLines style bs before (p ∷ qs) = subst (HaveLines style bs before) e lines in
        subst (λ xs. Goes xs there) (sym e) (piece_goes p qs at i.0 w.0 l.0 g)
    goes_by ps inside whole lines (inr (inr e)) = absurd (omega (arith, e, b.size))

    goes : (ps : List Piece) → AllByRecursion (LiesIn (length bs)) ps → HasGaps style bs before here.at ps → AreWhole style bs before ps → HaveLines style bs before ps → Goes ps f
    goes ps inside gaps whole lines = subst (Goes ps) b.front_is (goes_by ps inside whole lines (first before here.at ps gaps))

  -- pieces of which the relation holds from a place on are those that are left
  abbrev Alone : List Piece → Place → Result (List Piece) TextErr → Type 0
  Alone before here r = Held style bs before here → (ps : List Piece) → AllByRecursion (LiesIn (length bs)) ps → HasGaps style bs before here.at ps → AreWhole style bs before ps → HaveLines style bs before ps → r ≡ Ok ps

  none_left : (before : List Piece) (at : ℕ) → at ≡ length bs → (ps : List Piece) → AllByRecursion (LiesIn (length bs)) ps → HasGaps style bs before at ps → ◌≡◌ {A = Result (List Piece) TextErr} (Ok []) (Ok ps)
  none_left before at e [] inside gaps = refl
  none_left before at e (p ∷ ps) inside gaps =
      let l : LiesIn (length bs) p = inside.0 in
      absurd (omega (arith, e, l.some, l.within, fill_up before at p.from gaps.0.lengths gaps.0.fill))

  no_fault : (before : List Piece) (here : Place) (held : Held style bs before here) (agrees : Agrees bs before here) (f : Front) (b : Begins style bs here f) (e : TextErr) → FaultIs f here.at e
      → (ps : List Piece) → Goes before here held agrees f b ps f → ⊥
  no_fault before here held agrees Gap b e is ps g = is
  no_fault before here held agrees (Found kind len) b e is ps g = is
  no_fault before here held agrees (Passed len) b e is ps g = is
  no_fault before here held agrees OpenString b e is ps g = g
  no_fault before here held agrees OpenComment b e is ps g = g

  alone_steps : Steps style bs Alone
  alone_steps = record {
    at_end = λ before here a e held ps inside gaps whole lines. none_left before here.at e ps inside gaps;
    at_white = λ before here a b r later held ps inside gaps whole lines.
        later (held_white style bs before here b held) ps inside (goes before here held a Gap b ps inside gaps whole lines) whole lines;
    at_piece = λ before here a kind len b pos within r later held ps inside gaps whole lines.
        let p : Piece = piece_here style here kind len in
        let g : (qs : List Piece) × (ps ≡ p ∷ qs) × HasGaps style bs (p ∷ before) (here.at + len) qs = goes before here held a (Found kind len) b ps inside gaps whole lines in
        let i : AllByRecursion (LiesIn (length bs)) (p ∷ g.0) = subst (AllByRecursion (LiesIn (length bs))) g.1 inside in
        let w : AreWhole style bs before (p ∷ g.0) = subst (AreWhole style bs before) g.1 whole in
        let l : HaveLines style bs before (p ∷ g.0) = subst (HaveLines style bs before) g.1 lines in
        ap (onto (p ∷ [])) (later (held_piece style bs before here kind len b pos held) g.0 i.1 g.2 w.1 l.1) ∙ ap Ok (sym g.1);
    at_comment = λ before here a len b pos within r later held ps inside gaps whole lines.
        later (held_comment style bs before here len b pos held) ps inside (goes before here held a (Passed len) b ps inside gaps whole lines) whole lines;
    at_fault = λ before here a f b e is held ps inside gaps whole lines. absurd (no_fault before here held a f b e is ps (goes before here held a f b ps inside gaps whole lines));
  }

  alone : (ps : List Piece) → IsCutting style bs ps → pieces style bs ≡ Ok ps
  alone ps c = walk_all style bs Alone alone_steps (held_start style bs) ps (recursion_from_All (LiesIn (length bs)) ps c.inside) c.gaps c.whole c.lines

  cut_so : (ps : List Piece) → pieces style bs ≡ Ok ps → IsCutting style bs ps
  cut_so ps e = record { inside = pieces_inside style bs ps e; gaps = pieces_gaps style bs ps e; whole = pieces_whole style bs ps e; lines = pieces_lines style bs ps e }

  pub cut_alone : (ps : List Piece) → IsCutAlone style bs ps
  cut_alone ps = (cut_so ps, alone ps)
