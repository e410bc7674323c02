-- Piece after piece: how the loops over the cutter go on.
use Rattle.std.proofs.Common.{◌≡◌, ◌∙◌, sym, ap, refl, ℕ, List, [], ◌∷◌, ◌++◌, Result, Ok, Err, None, Some, append-nil}
use Rattle.gs_text.specs.Cut.{onto, pieces}
use Rattle.gs_text.specs.Cutter.{Agrees, IsNext, fault_of, left, start}
use Rattle.gs_text.proofs.CutLaws.{onto-append}
use Rattle.gs_text.specs.declared.cutter.Place.{Place}
use Rattle.gs_text.specs.declared.kinds.Piece.{Piece}
use Rattle.gs_text.specs.declared.kinds.Style.{Style}
use Rattle.gs_text.specs.declared.kinds.TextErr.{TextErr}

-- what is left from one place has the fault of what is left from a later one, past some pieces more
pub record Comes (style : Style) (bytes : List ℕ) (before : List Piece) (from to : Place) : Type 0 where
  pub passed : List Piece
  pub same : fault_of (left style bytes before from) ≡ fault_of (left style bytes passed to)
  pub agrees : Agrees bytes passed to

-- the pieces that are found, and those that are left, are the text's
pub record Collects (style : Style) (bytes : List ℕ) (found : List Piece) (place : Place) : Type 0 where
  pub passed : List Piece
  pub whole : onto found (left style bytes passed place) ≡ pieces style bytes
  pub agrees : Agrees bytes passed place

fault-onto : (ps : List Piece) (r : Result (List Piece) TextErr) → fault_of (onto ps r) ≡ fault_of r
fault-onto ps (Ok qs) = refl
fault-onto ps (Err e) = refl

module _ (style : Style) (bytes : List ℕ) where
  pub comes_so : (before : List Piece) (place : Place) → Agrees bytes before place → Comes style bytes before place place
  comes_so before place a = record { passed = before; same = refl; agrees = a }

  pub comes_on : (before : List Piece) (from here after : Place) (p : Piece) → Comes style bytes before from here → IsNext style bytes here p after → Comes style bytes before from after
  comes_on before from here after p c n = record {
    passed = p ∷ c.passed;
    same = c.same ∙ ap fault_of (n.first c.passed c.agrees) ∙ fault-onto (p ∷ []) (left style bytes (p ∷ c.passed) after);
    agrees = n.agrees c.passed c.agrees;
  }

  pub comes_end : (before : List Piece) (from here : Place) → Comes style bytes before from here → ((past : List Piece) → Agrees bytes past here → left style bytes past here ≡ Ok []) → None ≡ fault_of (left style bytes before from)
  comes_end before from here c e = sym (c.same ∙ ap fault_of (e c.passed c.agrees))

  pub comes_fault : (before : List Piece) (from here : Place) (x : TextErr) → Comes style bytes before from here → ((past : List Piece) → Agrees bytes past here → left style bytes past here ≡ Err x) → Some x ≡ fault_of (left style bytes before from)
  comes_fault before from here x c e = sym (c.same ∙ ap fault_of (e c.passed c.agrees))

  pub collects_none : Collects style bytes [] start
  collects_none = record { passed = []; whole = nothing (left style bytes [] start); agrees = record { braced = refl; latest = refl } }
    where
      nothing : (r : Result (List Piece) TextErr) → onto [] r ≡ r
      nothing (Ok qs) = refl
      nothing (Err e) = refl

  pub collects_more : (found : List Piece) (here after : Place) (p : Piece) → Collects style bytes found here → IsNext style bytes here p after → Collects style bytes (found ++ p ∷ []) after
  collects_more found here after p c n = record {
    passed = p ∷ c.passed;
    whole = onto-append found (p ∷ []) (left style bytes (p ∷ c.passed) after) ∙ ap (onto found) (sym (n.first c.passed c.agrees)) ∙ c.whole;
    agrees = n.agrees c.passed c.agrees;
  }

  pub collects_all : (found : List Piece) (here : Place) → Collects style bytes found here → ((past : List Piece) → Agrees bytes past here → left style bytes past here ≡ Ok []) → pieces style bytes ≡ Ok found
  collects_all found here c e = sym c.whole ∙ ap (onto found) (e c.passed c.agrees) ∙ ap Ok (append-nil found)

  pub collects_fault : (found : List Piece) (here : Place) (x : TextErr) → Collects style bytes found here → ((past : List Piece) → Agrees bytes past here → left style bytes past here ≡ Err x) → pieces style bytes ≡ Err x
  collects_fault found here x c e = sym c.whole ∙ ap (onto found) (e c.passed c.agrees)
