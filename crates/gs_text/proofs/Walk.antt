-- One induction over the cutting of a text: what holds at its end and at a fault, and is handed back over white, comments and
-- pieces, holds at each place.
use Rattle.std.proofs.Common.{◌≡◌, sym, subst, refl, ℕ, zero, suc, ◌+◌, ◌-◌, ◌<◌, ◌≤◌, ◌==◌, List, [], ◌∷◌, Result, Ok, Err, length, arith, inl, inr}
use Rattle.std.proofs.lemmas.Bool.{cases_lt}
use Rattle.gs_text.specs.Cut.{onto, pieces}
use Rattle.gs_text.specs.Cutter.{Agrees, left, start, past_white, past_piece, past_comment}
use Rattle.gs_text.specs.Front.{front, FitsIn}
use Rattle.gs_text.proofs.CutLaws.{agrees_white, agrees_piece, agrees_comment, Begins, begins, piece_here, byte, rest, size, passes, finds, goes_past, stops, ends}
use Rattle.gs_text.proofs.FrontLaws.{front-fits}
use Rattle.gs_text.specs.declared.cutter.Place.{Place}
use Rattle.gs_text.specs.declared.kinds.Kind.{Kind}
use Rattle.gs_text.specs.declared.kinds.Piece.{Piece}
use Rattle.gs_text.specs.declared.kinds.Style.{Style}
use Rattle.gs_text.specs.declared.kinds.TextErr.{TextErr}
use Rattle.gs_text.specs.declared.scan.Front.{Front}
use Rattle.gs_text.specs.declared.scan.Front.TheVariants.{Gap, Found, Passed, OpenString, OpenComment}

-- what begins is a fault, and this is its error
abbrev pub FaultIs : Front → (at : ℕ) → TextErr → Type 0
FaultIs Gap at e = ⊥
FaultIs (Found kind len) at e = ⊥
FaultIs (Passed len) at e = ⊥
FaultIs OpenString at e = e ≡ TextErr.OpenString at
FaultIs OpenComment at e = e ≡ TextErr.OpenComment at

-- a fact on what is left of a text from a place on, and how it is handed back
pub record Steps (style : Style) (bytes : List ℕ) (P : List Piece → Place → Result (List Piece) TextErr → Type 0) : Type 0 where
  pub at_end : (before : List Piece) (here : Place) → Agrees bytes before here → here.at ≡ length bytes → P before here (Ok [])
  pub at_white : (before : List Piece) (here : Place) → Agrees bytes before here → (b : Begins style bytes here Gap) (r : Result (List Piece) TextErr) → P before (past_white b.first here) r → P before here r
  pub at_piece : (before : List Piece) (here : Place) → Agrees bytes before here → (kind : Kind) (len : ℕ) → Begins style bytes here (Found kind len) → 0 < len → here.at + len ≤ length bytes
      → (r : Result (List Piece) TextErr) → P (piece_here style here kind len ∷ before) (past_piece bytes (piece_here style here kind len) here) r → P before here (onto (piece_here style here kind len ∷ []) r)
  pub at_comment : (before : List Piece) (here : Place) → Agrees bytes before here → (len : ℕ) → Begins style bytes here (Passed len) → 0 < len → here.at + len ≤ length bytes
      → (r : Result (List Piece) TextErr) → P before (past_comment bytes (here.at + len) here) r → P before here r
  pub at_fault : (before : List Piece) (here : Place) → Agrees bytes before here → (f : Front) → Begins style bytes here f → (e : TextErr) → FaultIs f here.at e → P before here (Err e)

module _ (style : Style) (bytes : List ℕ) (P : List Piece → Place → Result (List Piece) TextErr → Type 0) (steps : Steps style bytes P) where
  module _ (before : List Piece) (here : Place) (agrees : Agrees bytes before here) (lt : here.at < length bytes) where
    abbrev Left : Type 0
    Left = P before here (left style bytes before here)

    later : (r : Result (List Piece) TextErr) → left style bytes before here ≡ r → P before here r → Left
    later r e p = subst (P before here) (sym e) p

    fits : (f : Front) → f ≡ front style here.braced (here.latest == here.first) (byte style bytes here lt) (rest style bytes here lt) → FitsIn (length bytes - here.at) f
    fits f e =
        let Q : ℕ → Type 0 = λ n. FitsIn n f in
        let R : Front → Type 0 = FitsIn (length (rest style bytes here lt) + 1) in
        let n : length (rest style bytes here lt) + 1 ≡ length bytes - here.at = omega (arith, size style bytes here lt) in
        subst Q n (subst R (sym e) (front-fits style here.braced (here.latest == here.first) (byte style bytes here lt) (rest style bytes here lt)))

    by_front : ((c : ℕ) → P before (past_white c here) (left style bytes before (past_white c here)))
        → ((p : Piece) → here.at < p.to → p.to ≤ length bytes → P (p ∷ before) (past_piece bytes p here) (left style bytes (p ∷ before) (past_piece bytes p here)))
        → ((to : ℕ) → here.at < to → to ≤ length bytes → P before (past_comment bytes to here) (left style bytes before (past_comment bytes to here)))
        → (f : Front) → f ≡ front style here.braced (here.latest == here.first) (byte style bytes here lt) (rest style bytes here lt) → Left
    by_front white piece comment Gap e =
        later (left style bytes before (past_white (byte style bytes here lt) here)) (passes style bytes here lt before agrees e)
        (steps.at_white before here agrees (begins style bytes here lt Gap e) (left style bytes before (past_white (byte style bytes here lt) here)) (white (byte style bytes here lt)))
    by_front white piece comment (Found kind len) e =
        let f : FitsIn (length bytes - here.at) (Found kind len) = fits (Found kind len) e in
        let within : here.at + len ≤ length bytes = omega (arith, f.2) in
        let p : Piece = piece_here style here kind len in
        later (onto (p ∷ []) (left style bytes (p ∷ before) (past_piece bytes p here))) (finds style bytes here lt before agrees kind len e f.1 within)
        (steps.at_piece before here agrees kind len (begins style bytes here lt (Found kind len) e) f.1 within (left style bytes (p ∷ before) (past_piece bytes p here)) (piece p (omega (arith, f.1)) within))
    by_front white piece comment (Passed len) e =
        let f : FitsIn (length bytes - here.at) (Passed len) = fits (Passed len) e in
        let within : here.at + len ≤ length bytes = omega (arith, f.1) in
        later (left style bytes before (past_comment bytes (here.at + len) here)) (goes_past style bytes here lt before agrees len e f.0 within)
        (steps.at_comment before here agrees len (begins style bytes here lt (Passed len) e) f.0 within (left style bytes before (past_comment bytes (here.at + len) here)) (comment (here.at + len) (omega (arith, f.0)) within))
    by_front white piece comment OpenString e =
        later (Err (TextErr.OpenString here.at)) (stops style bytes here lt before agrees OpenString (TextErr.OpenString here.at) e (λ go. refl))
        (steps.at_fault before here agrees OpenString (begins style bytes here lt OpenString e) (TextErr.OpenString here.at) refl)
    by_front white piece comment OpenComment e =
        later (Err (TextErr.OpenComment here.at)) (stops style bytes here lt before agrees OpenComment (TextErr.OpenComment here.at) e (λ go. refl))
        (steps.at_fault before here agrees OpenComment (begins style bytes here lt OpenComment e) (TextErr.OpenComment here.at) refl)

  at_end_so : (before : List Piece) (here : Place) → Agrees bytes before here → here.at ≤ length bytes → length bytes ≤ here.at → P before here (left style bytes before here)
  at_end_so before here a within le = subst (P before here) (sym (ends style bytes before here le)) (steps.at_end before here a (omega arith))

  walk_for : (n : ℕ) (before : List Piece) (here : Place) → Agrees bytes before here → here.at ≤ length bytes → length bytes - here.at ≤ n → P before here (left style bytes before here)
  walk_for zero before here a within few = at_end_so before here a within (omega arith)
  walk_for (suc n) before here a within few = elim (cases_lt here.at (length bytes)) [
    | inl lt ↦ by_front before here a lt
        (λ c. walk_for n before (past_white c here) (agrees_white bytes c before here a) (omega arith) (omega arith))
        (λ p more fits. walk_for n (p ∷ before) (past_piece bytes p here) (agrees_piece bytes p before here a) fits (omega arith))
        (λ to more fits. walk_for n before (past_comment bytes to here) (agrees_comment bytes to before here a) fits (omega arith))
        (front style here.braced (here.latest == here.first) (byte style bytes here lt) (rest style bytes here lt)) refl
    | inr le ↦ at_end_so before here a within le
  ]

  pub walk : (before : List Piece) (here : Place) → Agrees bytes before here → here.at ≤ length bytes → P before here (left style bytes before here)
  walk before here a within = walk_for (length bytes) before here a within (omega arith)

  pub walk_all : P [] start (pieces style bytes)
  walk_all = walk [] start (record { braced = refl; latest = refl }) (omega arith)
