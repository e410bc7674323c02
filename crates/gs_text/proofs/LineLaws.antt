-- The lines of pieces.
use Rattle.std.proofs.Common.{◌≡◌, ◌≢◌, ◌⊎◌, ◌∙◌, sym, ap, refl, ℕ, zero, suc, ◌+◌, ◌-◌, ◌<◌, ◌≤◌, ◌==◌, Bool, true, false, cond, get_or, slice_index, List, [], ◌∷◌, Result, Ok, take, drop, length, length-drop, arith, subst, inl, inr}
use Rattle.std.proofs.lemmas.Bool.{cases_lt}
use Rattle.std.proofs.lemmas.Bool.Decides.{nat_tests}
use Rattle.std.proofs.lemmas.List.{get_or-drop}
use Rattle.std.proofs.lemmas.List.Sums.{sum_by-cons}
use Rattle.gs_text.specs.Bytes.{is_white}
use Rattle.gs_text.specs.Cutter.{Agrees, past_comment, past_piece, past_white, start}
use Rattle.gs_text.specs.Cut.{line_after, first_after, line_of, pieces}
use Rattle.gs_text.specs.Gaps.{IsGap, HasGaps}
use Rattle.gs_text.specs.Lines.{line_at, HasLine, HaveLines, IsCommandLine, IsContinued, IsInComment, IsInPiece, IsOneLineOf}
use Rattle.gs_text.proofs.CutLaws.{Begins, breaks, piece_here, line_after-breaks}
use Rattle.gs_text.proofs.Follow.{onto_ok}
use Rattle.gs_text.proofs.Says.{Skips, IsFound, IsPassed, IsSolid}
use Rattle.gs_text.proofs.SdcLaws.{Calm, sdc-calm, Heads, sdc-heads}
use Rattle.gs_text.proofs.Shape.{says_here, white_gap, more_gaps, no_gap, gaps_end, gapped}
use Rattle.gs_text.proofs.Walk.{Steps, walk_all}
use Rattle.gs_text.specs.Whole.{IsWhole}
use Rattle.gs_text.specs.declared.cutter.Place.{Place}
use Rattle.gs_text.specs.declared.kinds.Kind.{Kind}
use Rattle.gs_text.specs.declared.kinds.Kind.TheVariants.{Word, Escaped, Text, Mark}
use Rattle.gs_text.specs.declared.kinds.Piece.{Piece}
use Rattle.gs_text.specs.declared.kinds.Style.{Style}
use Rattle.gs_text.specs.declared.kinds.Style.TheVariants.{Verilog, Lib, Spef, Sdc}
use Rattle.gs_text.specs.declared.kinds.TextErr.{TextErr}
use Rattle.gs_text.specs.declared.scan.Front.{Front}
use Rattle.gs_text.specs.declared.scan.Front.TheVariants.{Gap, Found, Passed}

-- newlines before a place, and in the bytes from there on
breaks_cons : (c : ℕ) (cs : List ℕ) → breaks (c ∷ cs) ≡ cond (c == 10) 1 0 + breaks cs
breaks_cons c cs = sum_by-cons (λ x. cond (x == 10) 1 0) c cs

breaks_none : (n : ℕ) → breaks (take n []) ≡ 0
breaks_none zero = refl
breaks_none (suc n) = refl

breaks_on : (at len : ℕ) (bs : List ℕ) → breaks (take (at + len) bs) ≡ breaks (take at bs) + breaks (take len (drop at bs))
breaks_on zero len bs = let e : zero + len ≡ len = omega arith in rw e (omega arith)
breaks_on (suc at) len [] = omega (arith, breaks_none (suc at + len), breaks_none (suc at), breaks_none len)
breaks_on (suc at) len (c ∷ cs) =
    let e : suc at + len ≡ suc (at + len) = omega arith in
    let all : breaks (c ∷ take (at + len) cs) ≡ cond (c == 10) 1 0 + breaks (take (at + len) cs) = breaks_cons c (take (at + len) cs) in
    let here : breaks (c ∷ take at cs) ≡ cond (c == 10) 1 0 + breaks (take at cs) = breaks_cons c (take at cs) in
    let later : breaks (take (at + len) cs) ≡ breaks (take at cs) + breaks (take len (drop at cs)) = breaks_on at len cs in
    rw e (omega (arith, all, here, later))

line_on : (bs : List ℕ) (at len line : ℕ) → line ≡ line_at bs at → line + breaks (take len (drop at bs)) ≡ line_at bs (at + len)
line_on bs at len line e = omega (arith, e, breaks_on at len bs)

module _ (style : Style) (bs : List ℕ) where
  pub line_white : (here : Place) → (b : Begins style bs here Gap) → here.line ≡ line_at bs here.at → line_after b.first here.line ≡ line_at bs (here.at + 1)
  line_white here b e =
      let one : take 1 (drop here.at bs) ≡ b.first ∷ [] = rw b.split refl in
      let step : line_after b.first here.line + breaks [] ≡ here.line + breaks (b.first ∷ []) = line_after-breaks b.first here.line [] in
      let on : here.line + breaks (take 1 (drop here.at bs)) ≡ line_at bs (here.at + 1) = line_on bs here.at 1 here.line e in
      omega (arith, step, ap breaks one, on)

  pub line_part : (at len to line : ℕ) → to ≡ at + len → line ≡ line_at bs at → line + breaks (take (to - at) (drop at bs)) ≡ line_at bs to
  line_part at len to line is e =
      let n : to - at ≡ len = omega arith in
      rw (n, is) (line_on bs at len line e)

  -- the styles in which a piece has the line on which it begins
  module _ (own : (line first : ℕ) → line_of style line first ≡ line) (has : (before : List Piece) (p : Piece) → p.line ≡ line_at bs p.from → HasLine style bs before p) where
    abbrev Lined : List Piece → Place → Result (List Piece) TextErr → Type 0
    Lined before here r = here.line ≡ line_at bs here.at → (ps : List Piece) → r ≡ Ok ps → HaveLines style bs before ps

    lined_steps : Steps style bs Lined
    lined_steps = record {
      at_end = λ before here a e line ps h.
          let empty : ◌≡◌ {A = List Piece} [] ps = cc h in
          subst (HaveLines style bs before) empty tt;
      at_white = λ before here a b r later line. later (line_white here b line);
      at_piece = λ before here a kind len b pos within r later line ps h.
          let p : Piece = piece_here style here kind len in
          let q : (qs : List Piece) × ((r ≡ Ok qs) × (ps ≡ p ∷ qs)) = onto_ok p r ps h in
          subst (HaveLines style bs before) (sym q.1.1)
          (has before p (own here.line here.first ∙ line), later (line_part here.at len (here.at + len) here.line refl line) q.0 q.1.0);
      at_comment = λ before here a len b pos within r later line. later (line_part here.at len (here.at + len) here.line refl line);
      at_fault = λ before here a f b e is line ps h. cc h;
    }

    pub lined : (ps : List Piece) → pieces style bs ≡ Ok ps → HaveLines style bs [] ps
    lined = walk_all style bs Lined lined_steps refl

-- commands
module _ (bs : List ℕ) where
  -- what is known of the bytes before a place stays so past a piece that begins no earlier
  module _ (before : List Piece) (p : Piece) where
    in_piece_back : (k : ℕ) → k < p.from → IsInPiece k (p ∷ before) → IsInPiece k before
    in_piece_back k lt (inl h) = absurd (omega (arith, h.0))
    in_piece_back k lt (inr h) = h

    comment_back : (k : ℕ) → IsInComment bs (p ∷ before) k → IsInComment bs before k
    comment_back k x = record { from = x.from; upto = x.upto; hash = x.hash; free = λ i. x.free (inr i); one_line = x.one_line }

    comment_on : (k : ℕ) → k < p.from → IsInComment bs before k → IsInComment bs (p ∷ before) k
    comment_on k lt x = record {
      from = x.from;
      upto = x.upto;
      hash = x.hash;
      free = λ i. x.free (in_piece_back x.from (omega (arith, x.upto)) i);
      one_line = x.one_line;
    }

    continued_on : (k : ℕ) → IsContinued bs before k → k ≤ p.from → IsContinued bs (p ∷ before) k
    continued_on k x le = record { some = x.some; backslash = x.backslash; free = λ i. x.free (comment_back (k - 1) i) }

    continued_back : (k : ℕ) → IsContinued bs (p ∷ before) k → k ≤ p.from → IsContinued bs before k
    continued_back k x le = record { some = x.some; backslash = x.backslash; free = λ i. x.free (comment_on (k - 1) (omega (arith, x.some)) i) }

    command_on : (at line : ℕ) → at ≤ p.from → IsCommandLine bs before at line → IsCommandLine bs (p ∷ before) at line
    command_on at line le c = record {
      start = c.start;
      upto = c.upto;
      line_is = c.line_is;
      begins = elim c.begins [
        | inl z ↦ inl z
        | inr b ↦ inr (b.0, λ x. b.1 (continued_back (c.start - 1) x (omega (arith, c.upto))))
      ];
      goes_on = λ k ge lt e. continued_on k (c.goes_on k ge lt e) (omega arith);
    }

  -- a command goes on over bytes of which each newline continues its line
  longer : (before : List Piece) (at len line : ℕ) → ((k : ℕ) → at ≤ k → k < at + len → slice_index bs k ≡ 10 → IsContinued bs before k) → IsCommandLine bs before at line → IsCommandLine bs before (at + len) line
  longer before at len line more c = record {
    start = c.start;
    upto = omega (arith, c.upto);
    line_is = c.line_is;
    begins = c.begins;
    goes_on = λ k ge lt e. elim (cases_lt k at) [
      | inl less ↦ c.goes_on k ge less e
      | inr le ↦ more k le lt e
    ];
  }

  there : (at k : ℕ) → slice_index (drop at bs) k ≡ slice_index bs (at + k)
  there at k = get_or-drop at bs k 0

  first_there : (at : ℕ) → slice_index (drop at bs) 0 ≡ slice_index bs at
  first_there at = let e : at + 0 ≡ at = omega arith in there at 0 ∙ ap (λ i. get_or bs i 0) e

  no_newline : (at len : ℕ) → ((k : ℕ) → k < len → slice_index (drop at bs) k ≢ 10) → (k : ℕ) → at ≤ k → k < at + len → slice_index bs k ≢ 10
  no_newline at len none k ge lt e =
      let i : at + (k - at) ≡ k = omega arith in
      none (k - at) (omega arith) (there at (k - at) ∙ ap (λ j. get_or bs j 0) i ∙ e)

  -- no piece before the place goes past it
  abbrev Behind : List Piece → ℕ → Type 0
  Behind before at = (k : ℕ) → at ≤ k → IsInPiece k before → ⊥

  -- a comment on the line before the place ends there, with the line
  abbrev Shut : List Piece → ℕ → Type 0
  Shut before at = (from : ℕ) → from < at → slice_index bs from ≡ 35 → (IsInPiece from before → ⊥) → ((j : ℕ) → from ≤ j → j < at → slice_index bs j ≢ 10)
      → (at ≡ length bs) ⊎ (slice_index bs at ≡ 10)

  -- the newline at the place, if one stands there, doesn't continue its line
  abbrev Apart : List Piece → ℕ → Type 0
  Apart before at = slice_index bs at ≡ 10 → IsContinued bs before at → ⊥

  -- what is known at a place
  pub record Kept (before : List Piece) (here : Place) : Type 0 where
    pub line : here.line ≡ line_at bs here.at
    pub command : IsCommandLine bs before here.at here.first
    pub apart : Apart before here.at
    pub behind : Behind before here.at
    pub shut : Shut before here.at

  after_white : (before : List Piece) (c at line first : ℕ) → slice_index bs at ≡ c → IsCommandLine bs before at first → Apart before at → line_after c line ≡ line_at bs (at + 1) → IsCommandLine bs before (at + 1) (first_after c line first)
  after_white before c at line first here command apart next = by_case (c == 10) refl next
    where
      ten : (c : ℕ) → c == 10 ≡ true → c ≡ 10
      ten c e = grind (arith, nat_tests)

      other : (c : ℕ) → c == 10 ≡ false → c ≢ 10
      other c e f = grind (arith, nat_tests)

      by_case : (b : Bool) → c == 10 ≡ b → cond b (line + 1) line ≡ line_at bs (at + 1) → IsCommandLine bs before (at + 1) (cond b (line + 1) first)
      by_case true e n =
          let back : at ≡ at + 1 - 1 = omega arith in
          let P : ℕ → Type 0 = λ k. (slice_index bs k ≡ 10) × (IsContinued bs before k → ⊥) in
          record {
            start = at + 1;
            upto = omega arith;
            line_is = n;
            begins = inr (subst P back (here ∙ ten c e, apart (here ∙ ten c e)));
            goes_on = λ k ge lt. absurd (omega arith);
          }
      by_case false e n = longer before at 1 first
          (λ k ge lt new. let same : at ≡ k = omega arith in absurd (other c e (sym here ∙ ap (λ i. get_or bs i 0) same ∙ new))) command

  clash : (x : ℕ) → x ≡ 92 → x ≡ 10 → ⊥
  clash x a b = omega (arith, a, b)

  no_hash : (x : ℕ) → x ≡ 92 → x ≡ 35 → ⊥
  no_hash x a b = omega (arith, a, b)

  -- a backslash at the place is in no comment
  clear : (before : List Piece) (at : ℕ) → Shut before at → at < length bs → slice_index bs at ≡ 92 → IsInComment bs before at → ⊥
  clear before at shut lt back x = elim (cases_lt x.from at) [
    | inl less ↦ elim (shut x.from less x.hash x.free (λ j ge l. x.one_line j ge (omega arith))) [
      | inl e ↦ omega (arith, e, lt)
      | inr e ↦ clash (slice_index bs at) back e
    ]
    | inr ge ↦
        let same : at ≡ x.from = omega (arith, x.upto) in
        no_hash (slice_index bs at) back (ap (λ i. get_or bs i 0) same ∙ x.hash)
  ]

  skipped_newlines : (before : List Piece) (at len : ℕ) → Shut before at → at < length bs → Skips Sdc len (drop at bs) → (k : ℕ) → at ≤ k → k < at + len → slice_index bs k ≡ 10 → IsContinued bs before k
  skipped_newlines before at len shut in_text (inl h) k ge lt e = absurd (no_newline at len h.rest.one_line k ge lt e)
  skipped_newlines before at len shut in_text (inr c) k ge lt e = elim (cases_lt at k) [
    | inl less ↦
        let back : at ≡ k - 1 = omega (arith, c.size) in
        let slash : slice_index bs at ≡ 92 = sym (first_there at) ∙ c.backslash in
        let P : ℕ → Type 0 = λ i. (slice_index bs i ≡ 92) × (IsInComment bs before i → ⊥) in
        let q : P (k - 1) = subst P back (slash, clear before at shut in_text slash) in
        record { some = omega arith; backslash = q.0; free = q.1 }
    | inr le ↦ let same : at ≡ k = omega arith in absurd (clash (slice_index bs at) (sym (first_there at) ∙ c.backslash) (ap (λ i. get_or bs i 0) same ∙ e))
  ]

  skipped_apart : (before : List Piece) (at len : ℕ) → 0 < len → Behind before at → Skips Sdc len (drop at bs) → Apart before (at + len)
  skipped_apart before at len pos behind (inl h) = λ new x. x.free (record {
    from = at;
    upto = omega arith;
    hash = sym (first_there at) ∙ h.hash;
    free = behind at (omega arith);
    one_line = λ j ge le. no_newline at len h.rest.one_line j ge (omega arith);
  })
  skipped_apart before at len pos behind (inr c) = λ new x.
      let back : at + len - 1 ≡ at + 1 = omega (arith, c.size) in
      clash (slice_index bs (at + 1)) (ap (λ i. get_or bs i 0) (sym back) ∙ x.backslash) (sym (there at 1) ∙ c.newline)

  skipped_shut : (before : List Piece) (at len : ℕ) → at < length bs → Skips Sdc len (drop at bs) → Shut before (at + len)
  skipped_shut before at len in_text (inl h) = λ from lt hash free one. elim h.rest.ends [
    | inl e ↦ inl (omega (arith, e, length-drop at bs))
    | inr e ↦ inr (sym (there at len) ∙ e)
  ]
  skipped_shut before at len in_text (inr c) = λ from lt hash free one.
      absurd (one (at + 1) (omega (arith, c.size)) (omega (arith, c.size)) (sym (there at 1) ∙ c.newline))

  white_apart : (before : List Piece) (c at : ℕ) → slice_index bs at ≡ c → is_white c ≡ true → Apart before (at + 1)
  white_apart before c at here w = λ new x.
      let back : at + 1 - 1 ≡ at = omega arith in
      backslash c w (sym here ∙ ap (λ i. get_or bs i 0) (sym back) ∙ x.backslash)
    where
      backslash : (c : ℕ) → is_white c ≡ true → c ≢ 92
      backslash c w e = grind (arith, nat_tests)

  white_shut : (before : List Piece) (c at : ℕ) → slice_index bs at ≡ c → is_white c ≡ true → at < length bs → Shut before at → Shut before (at + 1)
  white_shut before c at here w in_text shut = λ from lt hash free one. elim (cases_lt from at) [
    | inl less ↦ elim (shut from less hash free (λ j ge l. one j ge (omega arith))) [
      | inl e ↦ absurd (omega (arith, e))
      | inr e ↦ absurd (one at (omega arith) (omega arith) e)
    ]
    | inr ge ↦ let same : at ≡ from = omega arith in absurd (a_hash c w (sym here ∙ ap (λ i. get_or bs i 0) same ∙ hash))
  ]
    where
      a_hash : (c : ℕ) → is_white c ≡ true → c ≢ 35
      a_hash c w e = grind (arith, nat_tests)

  calm_apart : (before : List Piece) (at len : ℕ) → 0 < len → (slice_index (drop at bs) (len - 1) ≡ 92 → slice_index (drop at bs) len ≢ 10) → Apart before (at + len)
  calm_apart before at len some calm new x =
      let back : at + (len - 1) ≡ at + len - 1 = omega arith in
      calm (there at (len - 1) ∙ ap (λ i. get_or bs i 0) back ∙ x.backslash) (there at len ∙ new)

  -- past a piece of so many bytes
  module _ (before : List Piece) (p : Piece) (len : ℕ) (some : 0 < len) (ends : p.to ≡ p.from + len) where
    piece_behind : Behind before p.from → Behind (p ∷ before) (p.from + len)
    piece_behind behind k ge (inl h) = omega (arith, h.1, ends)
    piece_behind behind k ge (inr h) = behind k (omega arith) h

    piece_shut : p.from < length bs → Shut before p.from → Shut (p ∷ before) (p.from + len)
    piece_shut in_text shut from lt hash free one = elim (cases_lt from p.from) [
      | inl less ↦ elim (shut from less hash (λ i. free (inr i)) (λ j ge l. one j ge (omega arith))) [
        | inl e ↦ absurd (omega (arith, e))
        | inr e ↦ absurd (one p.from (omega arith) (omega arith) e)
      ]
      | inr ge ↦ absurd (free (inl (ge, omega (arith, ends))))
    ]

  not_newline : (c : ℕ) → is_white c ≡ false → c ≢ 10
  not_newline c e f = grind (arith, nat_tests)

  piece_newlines : (braced begun : Bool) (kind : Kind) (len : ℕ) (xs : List ℕ) → IsSolid kind len xs → IsWhole Sdc braced begun kind len xs → (k : ℕ) → k < len → slice_index xs k ≢ 10
  piece_newlines braced begun Word len xs s w k lt = not_newline (slice_index xs k) (s k lt)
  piece_newlines braced begun Escaped len xs s w k lt = not_newline (slice_index xs k) (s.1 k lt)
  piece_newlines true begun Text len xs s w k lt = absurd w
  piece_newlines false begun Text len xs s w k lt = w.1 k lt
  piece_newlines braced begun Mark len xs s w k lt = not_newline (slice_index xs k) (s k lt)

  calm_here : (here : Place) (kind : Kind) (len : ℕ) → Begins Sdc bs here (Found kind len) → slice_index (drop here.at bs) (len - 1) ≡ 92 → slice_index (drop here.at bs) len ≢ 10
  calm_here here kind len b =
      let P : Front → Type 0 = Calm (b.first ∷ b.rest) in
      let Q : List ℕ → Type 0 = λ xs. Calm xs (Found kind len) in
      subst Q (sym b.split) (subst P b.front_is (sdc-calm here.braced (here.latest == here.first) b.first b.rest))

  heads_here : (before : List Piece) (here : Place) (len : ℕ) → Agrees bs before here → Begins Sdc bs here (Passed len) → IsCommandLine bs before here.at here.first → Skips Sdc len (drop here.at bs) → IsGap Sdc bs before here.at len
  heads_here before here len a b command (inl h) =
      let P : Front → Type 0 = Heads here.braced (here.latest == here.first) (b.first ∷ b.rest) in
      let Q : List ℕ → Type 0 = λ xs. Heads here.braced (here.latest == here.first) xs (Passed len) in
      let heads : Heads here.braced (here.latest == here.first) (drop here.at bs) (Passed len) = subst Q (sym b.split) (subst P b.front_is (sdc-heads here.braced (here.latest == here.first) b.first b.rest)) in
      let q : (here.braced ≡ false) × (here.latest == here.first ≡ false) = heads h.hash in
      inr (inl (
        h,
        record {
          line = here.first;
          command = command;
          first = λ e. other here.latest here.first q.1 (a.latest ∙ e);
          outside = sym a.braced ∙ q.0;
        },
      ))
    where
      other : (m n : ℕ) → m == n ≡ false → m ≢ n
      other m n e f = grind (arith, nat_tests)
  heads_here before here len a b command (inr c) = inr (inr c)

  -- what is known past white, a piece and a comment
  kept_white : (before : List Piece) (here : Place) → Begins Sdc bs here Gap → (c : ℕ) → slice_index bs here.at ≡ c → is_white c ≡ true → line_after c here.line ≡ line_at bs (here.at + 1) → Kept before here → Kept before (past_white c here)
  kept_white before here b c is white next h = record {
    line = next;
    command = after_white before c here.at here.line here.first is h.command h.apart next;
    apart = white_apart before c here.at is white;
    behind = λ k ge i. h.behind k (omega arith) i;
    shut = white_shut before c here.at is white (omega (arith, b.size)) h.shut;
  }

  pub kept_white_here : (before : List Piece) (here : Place) (b : Begins Sdc bs here Gap) → Kept before here → Kept before (past_white b.first here)
  kept_white_here before here b kept =
      let is : slice_index bs here.at ≡ b.first = sym (first_there here.at) ∙ ap (λ xs. get_or xs 0 0) b.split in
      let white : is_white (slice_index (drop here.at bs) 0) ≡ true = says_here Sdc bs here Gap b in
      let first_white : is_white b.first ≡ true = ap is_white (sym (ap (λ xs. get_or xs 0 0) b.split)) ∙ white in
      kept_white before here b b.first is first_white (line_white Sdc bs here b kept.line) kept

  pub kept_piece : (before : List Piece) (here : Place) (kind : Kind) (len : ℕ) → Begins Sdc bs here (Found kind len) → 0 < len → Kept before here → Kept (piece_here Sdc here kind len ∷ before) (past_piece bs (piece_here Sdc here kind len) here)
  kept_piece before here kind len b pos h =
      let p : Piece = piece_here Sdc here kind len in
      let f : IsFound Sdc here.braced (here.latest == here.first) kind len (drop here.at bs) = says_here Sdc bs here (Found kind len) b in
      let none : (k : ℕ) → here.at ≤ k → k < here.at + len → slice_index bs k ≢ 10 =
      no_newline here.at len (piece_newlines here.braced (here.latest == here.first) kind len (drop here.at bs) f.solid f.whole) in
      record {
        line = line_part Sdc bs here.at len (here.at + len) here.line refl h.line;
        command = longer (p ∷ before) here.at len here.first (λ k ge lt e. absurd (none k ge lt e)) (command_on before p here.at here.first (omega arith) h.command);
        apart = calm_apart (p ∷ before) here.at len pos (calm_here here kind len b);
        behind = piece_behind before p len pos refl h.behind;
        shut = piece_shut before p len pos refl (omega (arith, b.size)) h.shut;
      }

  pub kept_comment : (before : List Piece) (here : Place) (len : ℕ) → Begins Sdc bs here (Passed len) → 0 < len → Skips Sdc len (drop here.at bs) → Kept before here → Kept before (past_comment bs (here.at + len) here)
  kept_comment before here len b pos s h = record {
    line = line_part Sdc bs here.at len (here.at + len) here.line refl h.line;
    command = longer before here.at len here.first (skipped_newlines before here.at len h.shut (omega (arith, b.size)) s) h.command;
    apart = skipped_apart before here.at len pos h.behind s;
    behind = λ k ge i. h.behind k (omega arith) i;
    shut = skipped_shut before here.at len (omega (arith, b.size)) s;
  }

  pub kept_start : Kept [] start
  kept_start = record {
    line = refl;
    command = record { start = 0; upto = omega arith; line_is = refl; begins = inl refl; goes_on = λ k ge lt. absurd (omega arith) };
    apart = λ new x. absurd (omega (arith, x.some));
    behind = λ k ge i. i;
    shut = λ from lt. absurd (omega arith);
  }

  abbrev Commanded : List Piece → Place → Result (List Piece) TextErr → Type 0
  Commanded before here r = Kept before here → (ps : List Piece) → r ≡ Ok ps → HaveLines Sdc bs before ps × HasGaps Sdc bs before here.at ps

  commanded_steps : Steps Sdc bs Commanded
  commanded_steps = record {
    at_end = λ before here a e kept ps h.
        let empty : ◌≡◌ {A = List Piece} [] ps = cc h in
        (subst (HaveLines Sdc bs before) empty tt, gaps_end Sdc bs before here e ps h);
    at_white = λ before here a b r later kept ps h.
        let rest : HaveLines Sdc bs before ps × HasGaps Sdc bs before (here.at + 1) ps = later (kept_white_here before here b kept) ps h in
        (rest.0, more_gaps Sdc bs before here.at 1 ps (white_gap Sdc bs before here b) rest.1);
    at_piece = λ before here a kind len b pos within r later kept ps h.
        let p : Piece = piece_here Sdc here kind len in
        let q : (qs : List Piece) × ((r ≡ Ok qs) × (ps ≡ p ∷ qs)) = onto_ok p r ps h in
        let P : List Piece → Type 0 = λ ps. HaveLines Sdc bs before ps × HasGaps Sdc bs before here.at ps in
        let rest : HaveLines Sdc bs (p ∷ before) q.0 × HasGaps Sdc bs (p ∷ before) (here.at + len) q.0 = later (kept_piece before here kind len b pos kept) q.0 q.1.0 in
        subst P (sym q.1.1) ((kept.command, rest.0), (no_gap Sdc bs before here.at, rest.1));
    at_comment = λ before here a len b pos within r later kept ps h.
        let s : IsPassed Sdc len (drop here.at bs) = says_here Sdc bs here (Passed len) b in
        let rest : HaveLines Sdc bs before ps × HasGaps Sdc bs before (here.at + len) ps = later (kept_comment before here len b pos s.skipped kept) ps h in
        (rest.0, more_gaps Sdc bs before here.at len ps (heads_here before here len a b kept.command s.skipped) rest.1);
    at_fault = λ before here a f b e is kept ps h. cc h;
  }

  commanded : (ps : List Piece) → pieces Sdc bs ≡ Ok ps → HaveLines Sdc bs [] ps × HasGaps Sdc bs [] 0 ps
  commanded = walk_all Sdc bs Commanded commanded_steps kept_start

  -- a place has one first line of its command
  no_later : (before : List Piece) (at line other : ℕ) (a : IsCommandLine bs before at line) (b : IsCommandLine bs before at other) → a.start < b.start → ⊥
  no_later before at line other a b lt = elim b.begins [
    | inl z ↦ omega (arith, z, lt)
    | inr n ↦ n.1 (a.goes_on (b.start - 1) (omega arith) (omega (arith, b.upto)) n.0)
  ]

  pub one_line_of : (before : List Piece) (at : ℕ) → IsOneLineOf bs before at
  one_line_of before at line other a b = elim (cases_lt a.start b.start) [
    | inl lt ↦ absurd (no_later before at line other a b lt)
    | inr ge ↦ elim (cases_lt b.start a.start) [
      | inl lt ↦ absurd (no_later before at other line b a lt)
      | inr le ↦ let same : b.start ≡ a.start = omega arith in b.line_is ∙ ap (line_at bs) same ∙ sym a.line_is
    ]
  ]

pub pieces_lines : (style : Style) (bs : List ℕ) (ps : List Piece) → pieces style bs ≡ Ok ps → HaveLines style bs [] ps
pieces_lines Verilog bs ps h = lined Verilog bs (λ line first. refl) (λ before p e. e) ps h
pieces_lines Lib bs ps h = lined Lib bs (λ line first. refl) (λ before p e. e) ps h
pieces_lines Spef bs ps h = lined Spef bs (λ line first. refl) (λ before p e. e) ps h
pieces_lines Sdc bs ps h = (commanded bs ps h).0

pub pieces_gaps : (style : Style) (bs : List ℕ) (ps : List Piece) → pieces style bs ≡ Ok ps → HasGaps style bs [] 0 ps
pieces_gaps Verilog bs ps h = gapped Verilog bs (λ before at len s. s) ps h
pieces_gaps Lib bs ps h = gapped Lib bs (λ before at len s. s) ps h
pieces_gaps Spef bs ps h = gapped Spef bs (λ before at len s. s) ps h
pieces_gaps Sdc bs ps h = (commanded bs ps h).1
