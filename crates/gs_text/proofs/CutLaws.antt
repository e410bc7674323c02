-- How the cutting goes on: past white, past a piece, at a fault and at the end of the text.
use Rattle.std.proofs.Common.{◌≡◌, ◌∙◌, sym, ap, refl, ℕ, zero, suc, ◌+◌, ◌-◌, ◌<◌, ◌≤◌, ◌==◌, Bool, true, false, cond, List, [], ◌∷◌, ◌++◌, Result, Ok, Err, length, slice_index, get_or, take, drop, append_assoc, add-zero, length-drop, length-take, arith}
use Rattle.std.proofs.lemmas.List.{drop_more, drop_all, take_rest, drop-drop}
use Rattle.std.proofs.lemmas.List.Sums.{sum_by-cons, count_by-le-length}
use Rattle.std.specs.List.{count_by}
use Rattle.gs_text.specs.Before.{brace_by, in_braces, latest_line, has_begun}
use Rattle.gs_text.specs.Cut.{cut, put, onto, line_after, first_after, line_of, piece_at}
use Rattle.gs_text.specs.Cutter.{Agrees, IsPlace, left, past_white, past_piece, past_comment}
use Rattle.gs_text.specs.Front.{front}
use Rattle.gs_text.specs.Pieces.{IsOneLine, LiesIn}
use Rattle.gs_text.proofs.FrontLaws.{one_line}
use Rattle.gs_text.specs.declared.cutter.Place.{Place}
use Rattle.gs_text.specs.declared.kinds.Kind.{Kind}
use Rattle.gs_text.specs.declared.kinds.Piece.{Piece}
use Rattle.gs_text.specs.declared.kinds.Style.{Style}
use Rattle.gs_text.specs.declared.kinds.TextErr.{TextErr}
use Rattle.gs_text.specs.declared.scan.Front.{Front}
use Rattle.gs_text.specs.declared.scan.Front.TheVariants.{Gap, Found, Passed}

-- how many newlines there are
abbrev pub breaks : List ℕ → ℕ
breaks bs = count_by (λ c. c == 10) bs

by_case : (b : Bool) (line x y : ℕ) → y ≡ cond b 1 0 + x → cond b (line + 1) line + x ≡ line + y
by_case true line x y e = omega arith
by_case false line x y e = omega arith

pub line_after-breaks : (c line : ℕ) (cs : List ℕ) → line_after c line + breaks cs ≡ line + breaks (c ∷ cs)
line_after-breaks c line cs = by_case (c == 10) line (breaks cs) (breaks (c ∷ cs)) (sum_by-cons (λ x. cond (x == 10) 1 0) c cs)

pub onto-append : (ps qs : List Piece) (r : Result (List Piece) TextErr) → onto (ps ++ qs) r ≡ onto ps (onto qs r)
onto-append ps qs (Ok rs) = ap Ok (append_assoc ps qs rs)
onto-append ps qs (Err e) = refl

module _ (style : Style) (bytes : List ℕ) where
  -- bytes that belong to the last piece are passed over, and their newlines counted
  pub skipped : (before : List Piece) (line first at n : ℕ) (bs : List ℕ) → n ≤ length bs
      → cut style bytes before line first at n bs ≡ cut style bytes before (line + breaks (take n bs)) first (at + n) 0 (drop n bs)
  unfolding cut
  skipped before line first at zero bs h = simp add-zero
  skipped before line first at (suc n) [] h = refl
  skipped before line first at (suc n) (c ∷ cs) h =
      let lines : line_after c line + breaks (take n cs) ≡ line + breaks (c ∷ take n cs) = line_after-breaks c line (take n cs) in
      let ats : at + 1 + n ≡ at + suc n = omega arith in
      skipped before (line_after c line) first (at + 1) n cs (omega arith) ∙ cc (lines, ats)

  module _ (before : List Piece) (line first at c : ℕ) (cs : List ℕ) where
    -- what is cut from the byte c on, by what begins there
    pub cut_front : (f : Front) → f ≡ front style (in_braces bytes before) (has_begun first before) c cs
        → cut style bytes before line first at 0 (c ∷ cs) ≡ put style f c before line first at (λ past now skip. cut style bytes past (line_after c line) now (at + 1) skip cs)
    unfolding cut
    cut_front f e = rw e refl

    -- a piece, and what is cut from its end on
    pub cut_found : (kind : Kind) (len : ℕ) → Found kind len ≡ front style (in_braces bytes before) (has_begun first before) c cs → 0 < len → len ≤ length (c ∷ cs)
        → cut style bytes before line first at 0 (c ∷ cs) ≡ onto (piece_at kind at len (line_of style line first) ∷ []) (cut style bytes (piece_at kind at len (line_of style line first) ∷ before) (line + breaks (take len (c ∷ cs))) first (at + len) 0 (drop len (c ∷ cs)))
    unfolding cut
    cut_found kind zero e pos fits = absurd (omega arith)
    cut_found kind (suc n) e pos fits =
        let p : Piece = piece_at kind at (suc n) (line_of style line first) in
        cut_front (Found kind (suc n)) e ∙ ap (onto (p ∷ [])) (skipped (p ∷ before) line first at (suc n) (c ∷ cs) fits)

    -- the same of a comment, which is no piece
    pub cut_passed : (len : ℕ) → Passed len ≡ front style (in_braces bytes before) (has_begun first before) c cs → 0 < len → len ≤ length (c ∷ cs)
        → cut style bytes before line first at 0 (c ∷ cs) ≡ cut style bytes before (line + breaks (take len (c ∷ cs))) first (at + len) 0 (drop len (c ∷ cs))
    unfolding cut
    cut_passed zero e pos fits = absurd (omega arith)
    cut_passed (suc n) e pos fits = cut_front (Passed (suc n)) e ∙ skipped before line first at (suc n) (c ∷ cs) fits

-- at the place begins f
pub record Begins (style : Style) (bytes : List ℕ) (here : Place) (f : Front) : Type 0 where
  pub first : ℕ
  pub rest : List ℕ
  pub split : drop here.at bytes ≡ first ∷ rest
  pub size : length bytes ≡ here.at + suc (length rest)
  pub front_is : front style here.braced (here.latest == here.first) first rest ≡ f

-- the piece that begins at the place
abbrev pub piece_here : Style → Place → Kind → (len : ℕ) → Piece
piece_here style here kind len = piece_at kind here.at len (line_of style here.line here.first)

part : (at len : ℕ) → at + len - at ≡ len
part at len = omega arith

module _ (style : Style) (bytes : List ℕ) (here : Place) (lt : here.at < length bytes) where
  abbrev pub byte : ℕ
  byte = get_or bytes here.at 0

  abbrev pub rest : List ℕ
  rest = take (length bytes - (here.at + 1)) (drop (here.at + 1) bytes)

  -- what begins at the place
  abbrev pub BeginsHere : Front → Type 0
  BeginsHere f = f ≡ front style here.braced (here.latest == here.first) byte rest

  pub split : drop here.at bytes ≡ byte ∷ rest
  split = drop_more bytes here.at 0 lt ∙ ap (λ r. byte ∷ r) (sym (take_rest bytes (here.at + 1)))

  pub size : length (byte ∷ rest) ≡ length bytes - here.at
  size = sym (ap length split) ∙ length-drop here.at bytes

  abbrev pub begins : (f : Front) → BeginsHere f → Begins style bytes here f
  begins f e = record { first = byte; rest = rest; split = split; size = omega (arith, size); front_is = sym e }

  -- a word or a mark that begins at the place stands on one line
  pub on_one_line : (kind : Kind) (len : ℕ) → BeginsHere (Found kind len) → IsOneLine kind (take (here.at + len - here.at) (drop here.at bytes))
  on_one_line kind len e = rw (part here.at len, split) (one_line style here.braced (here.latest == here.first) byte rest kind len e)

  module _ (before : List Piece) (agrees : Agrees bytes before here) where
    begins_so : (f : Front) → BeginsHere f → f ≡ front style (in_braces bytes before) (has_begun here.first before) byte rest
    begins_so f e =
        let braced : here.braced ≡ in_braces bytes before = agrees.braced in
        let latest : here.latest ≡ latest_line before = agrees.latest in
        e ∙ cc (braced, latest)

    pub passes : BeginsHere Gap → left style bytes before here ≡ left style bytes before (past_white byte here)
    passes e =
        let step : cut style bytes before here.line here.first here.at 0 (byte ∷ rest) ≡ cut style bytes before (line_after byte here.line) (first_after byte here.line here.first) (here.at + 1) 0 rest =
        cut_front style bytes before here.line here.first here.at byte rest Gap (begins_so Gap e) in
        let whole : rest ≡ drop (here.at + 1) bytes = take_rest bytes (here.at + 1) in
        cc (split, step, whole)

    pub finds : (kind : Kind) (len : ℕ) → BeginsHere (Found kind len) → 0 < len → here.at + len ≤ length bytes
        → left style bytes before here ≡ onto (piece_here style here kind len ∷ []) (left style bytes (piece_here style here kind len ∷ before) (past_piece bytes (piece_here style here kind len) here))
    finds kind len e pos fits =
        let p : Piece = piece_here style here kind len in
        let step : cut style bytes before here.line here.first here.at 0 (byte ∷ rest) ≡ onto (p ∷ []) (cut style bytes (p ∷ before) (here.line + breaks (take len (byte ∷ rest))) here.first (here.at + len) 0 (drop len (byte ∷ rest))) =
        cut_found style bytes before here.line here.first here.at byte rest kind len (begins_so (Found kind len) e) pos (omega (arith, size)) in
        let step' : left style bytes before here ≡ onto (p ∷ []) (cut style bytes (p ∷ before) (here.line + breaks (take len (drop here.at bytes))) here.first (here.at + len) 0 (drop len (drop here.at bytes))) =
        rw split step in
        rw (part here.at len) (rw (drop-drop len here.at bytes) at step')

    pub goes_past : (len : ℕ) → BeginsHere (Passed len) → 0 < len → here.at + len ≤ length bytes
        → left style bytes before here ≡ left style bytes before (past_comment bytes (here.at + len) here)
    goes_past len e pos fits =
        let step : cut style bytes before here.line here.first here.at 0 (byte ∷ rest) ≡ cut style bytes before (here.line + breaks (take len (byte ∷ rest))) here.first (here.at + len) 0 (drop len (byte ∷ rest)) =
        cut_passed style bytes before here.line here.first here.at byte rest len (begins_so (Passed len) e) pos (omega (arith, size)) in
        let step' : left style bytes before here ≡ cut style bytes before (here.line + breaks (take len (drop here.at bytes))) here.first (here.at + len) 0 (drop len (drop here.at bytes)) =
        rw split step in
        rw (part here.at len) (rw (drop-drop len here.at bytes) at step')

    -- where what begins is a fault, it is the fault of what is left
    pub stops : (f : Front) (e : TextErr) → BeginsHere f → ((go : List Piece → ℕ → ℕ → Result (List Piece) TextErr) → put style f byte before here.line here.first here.at go ≡ Err e) → left style bytes before here ≡ Err e
    stops f e is fault =
        let step : cut style bytes before here.line here.first here.at 0 (byte ∷ rest) ≡ Err e = cut_front style bytes before here.line here.first here.at byte rest f (begins_so f is) ∙ fault _ in
        rw split step

-- the end of the text
pub ends : (style : Style) (bytes : List ℕ) (before : List Piece) (here : Place) → length bytes ≤ here.at → left style bytes before here ≡ Ok []
unfolding cut
ends style bytes before here le = rw (drop_all here.at bytes le) refl

-- what a place keeps stays so past white, comments and pieces
pub agrees_white : (bytes : List ℕ) (c : ℕ) (before : List Piece) (here : Place) → Agrees bytes before here → Agrees bytes before (past_white c here)
agrees_white bytes c before here a = record { braced = a.braced; latest = a.latest }

pub agrees_comment : (bytes : List ℕ) (to : ℕ) (before : List Piece) (here : Place) → Agrees bytes before here → Agrees bytes before (past_comment bytes to here)
agrees_comment bytes to before here a = record { braced = a.braced; latest = a.latest }

pub agrees_piece : (bytes : List ℕ) (p : Piece) (before : List Piece) (here : Place) → Agrees bytes before here → Agrees bytes (p ∷ before) (past_piece bytes p here)
agrees_piece bytes p before here a = record { braced = ap (brace_by p.kind (slice_index bytes p.from)) a.braced; latest = refl }

-- a place past white, a comment or a piece lies in the text, on one of its lines
next_line : (b : Bool) (line at : ℕ) → line ≤ at + 1 → cond b (line + 1) line ≤ at + 1 + 1
next_line true line at le = omega arith
next_line false line at le = omega arith

next_command : (b : Bool) (line first : ℕ) → first ≤ line → cond b (line + 1) first ≤ cond b (line + 1) line
next_command true line first le = omega arith
next_command false line first le = le

pub place_white : (c : ℕ) (bytes : List ℕ) (here : Place) → IsPlace bytes here → here.at < length bytes → IsPlace bytes (past_white c here)
place_white c bytes here i lt = record {
  within = omega arith;
  lines = next_line (c == 10) here.line here.at i.lines;
  command = next_command (c == 10) here.line here.first i.command;
}

few_breaks : (n : ℕ) (bs : List ℕ) → breaks (take n bs) ≤ n
few_breaks n bs = omega (arith, count_by-le-length (λ c. c == 10) (take n bs), length-take n bs)

pub place_comment : (to : ℕ) (bytes : List ℕ) (here : Place) → IsPlace bytes here → here.at ≤ to → to ≤ length bytes → IsPlace bytes (past_comment bytes to here)
place_comment to bytes here i more within = record {
  within = within;
  lines = omega (arith, i.lines, few_breaks (to - here.at) (drop here.at bytes));
  command = omega (arith, i.command);
}

pub place_piece : (p : Piece) (bytes : List ℕ) (here : Place) → IsPlace bytes here → here.at ≡ p.from → LiesIn (length bytes) p → IsPlace bytes (past_piece bytes p here)
place_piece p bytes here i at l = record {
  within = l.within;
  lines = omega (arith, i.lines, few_breaks (p.to - p.from) (drop p.from bytes), l.some);
  command = omega (arith, i.command);
}

-- how long the rest of a text is, and a part of it
pub length-rest : (bs : List ℕ) (i : ℕ) → length (take (length bs - i) (drop i bs)) ≡ length bs - i
length-rest bs i = ap length (take_rest bs i) ∙ length-drop i bs

pub length-part : (bs : List ℕ) (from to : ℕ) → length (take (to - from) (drop from bs)) ≤ to - from
length-part bs from to = omega (arith, length-take (to - from) (drop from bs))
