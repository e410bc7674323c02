-- What is shown of pieces.
use Rattle.std.proofs.Common.{◌≡◌, refl, ap, ℕ, ◌<◌, ◌≤◌, List, length, take, get_or, Ok, inl, inr, arith}
use Rattle.std.proofs.lemmas.Option.{slice_get-get_or, slice_get_within}
use Rattle.gs_text.specs.Cut.{pieces}
use Rattle.gs_text.specs.declared.kinds.Piece.{Piece}
use Rattle.gs_text.specs.declared.kinds.Style.{Style}
use Rattle.gs_explain.specs.Located.{located}
use Rattle.gs_explain.specs.Pieces.{IsInnermost, IsPieceAt}
use Rattle.gs_explain.specs.Said.{IsEarly, of_piece, open_still, unexpected}
use Rattle.gs_explain.specs.Spot.{HasNone, IsShown, IsWrongPiece}
use Rattle.gs_explain.specs.Wanted.{AreWanted, style_of}
use Rattle.gs_explain.specs.declared.form.Form.{Form}
use Rattle.gs_explain.specs.declared.form.Wanted.{Wanted}
use Rattle.gs_explain.specs.declared.spot.Spot.TheVariants.{AtPiece, Wrong}
use Rattle.std.specs.Prelude.{codes}

pub piece_at : (style : Style) (bytes : List ℕ) (ps : List Piece) (i : ℕ) (d : Piece) → pieces style bytes ≡ Ok ps → i < length ps → IsPieceAt style bytes i (get_or ps i d)
piece_at style bytes ps i d cut inside = (ps, cut, slice_get-get_or ps i d inside)

module _ (form : Form) (name bytes : List ℕ) (ps : List Piece) (i : ℕ) (d : Piece) (cut : pieces (style_of form) bytes ≡ Ok ps) (inside : i < length ps) where
  pub shown_piece : (what said text : List ℕ) → said ≡ of_piece bytes (get_or ps i d) what → text ≡ located name bytes (get_or ps i d).from said
      → IsShown name (AtPiece form i) what bytes text
  shown_piece what said text is e =
      ((get_or ps i d).from, said, (get_or ps i d, piece_at (style_of form) bytes ps i d cut inside, refl, is), e)

  pub wrong_piece : (those : List Wanted) (said text : List ℕ) → AreWanted form (take (get_or ps i d).from bytes) i those → said ≡ unexpected bytes (get_or ps i d) those
      → text ≡ located name bytes (get_or ps i d).from said
      → (at : ℕ) × (said : List ℕ) × IsWrongPiece form bytes i at said × (text ≡ located name bytes at said)
  wrong_piece those said text wanted is e =
      ((get_or ps i d).from, said, (get_or ps i d, piece_at (style_of form) bytes ps i d cut inside, refl, those, wanted, is), e)

pub early_open : (form : Form) (bytes : List ℕ) (ps : List Piece) (i : ℕ) (d : Piece) (said : List ℕ) → IsInnermost bytes ps i → said ≡ open_still bytes (get_or ps i d) (codes "is not closed")
    → IsEarly form bytes ps said
early_open form bytes ps i d said inner is = inl (i, get_or ps i d, inner, slice_get-get_or ps i d inner.inside, is)

-- a text has its pieces alone
same_pieces : (style : Style) (bytes : List ℕ) (ps qs : List Piece) → pieces style bytes ≡ Ok ps → pieces style bytes ≡ Ok qs → qs ≡ ps
same_pieces style bytes ps qs e h = cc

no_piece_at : (style : Style) (bytes : List ℕ) (ps : List Piece) (i : ℕ) (p : Piece) → pieces style bytes ≡ Ok ps → length ps ≤ i → IsPieceAt style bytes i p → ⊥
no_piece_at style bytes ps i p cut past h =
    let within : i < length h.0 = slice_get_within h.0 i p h.2 in
    let same : length h.0 ≡ length ps = ap length (same_pieces style bytes ps h.0 cut h.1) in
    omega (arith, within, same, past)

module _ (form : Form) (bytes : List ℕ) (i : ℕ) where
  pub none_past : (ps : List Piece) → pieces (style_of form) bytes ≡ Ok ps → length ps ≤ i → (what : List ℕ) → HasNone (AtPiece form i) what bytes
  none_past ps cut past what at said h = no_piece_at (style_of form) bytes ps i h.0 cut past h.1

  pub none_uncut : ((ps : List Piece) → pieces (style_of form) bytes ≡ Ok ps → ⊥) → (what : List ℕ) → HasNone (AtPiece form i) what bytes
  none_uncut uncut what at said h = uncut (h.1).0 (h.1).1

  pub no_wrong_past : (ps : List Piece) → pieces (style_of form) bytes ≡ Ok ps → length ps < i → (what : List ℕ) → HasNone (Wrong form i) what bytes
  no_wrong_past ps cut past what at said h =
      elim h [
        | inl w ↦ no_piece_at (style_of form) bytes ps i w.0 cut (omega (arith, past)) w.1
        | inr e ↦ let same : length e.0 ≡ length ps = ap length (same_pieces (style_of form) bytes ps e.0 cut e.1) in omega (arith, same, e.2, past)
      ]

  pub no_wrong_uncut : ((ps : List Piece) → pieces (style_of form) bytes ≡ Ok ps → ⊥) → (what : List ℕ) → HasNone (Wrong form i) what bytes
  no_wrong_uncut uncut what at said h = elim h [ inl w ↦ uncut (w.1).0 (w.1).1 | inr e ↦ uncut e.0 e.1 ]
