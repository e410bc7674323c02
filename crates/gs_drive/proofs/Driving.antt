-- The driver's loop: what is known at a place between pieces, and each of its answers.

use Rattle.std.proofs.Common.{◌≡◌, ℕ, ◌+◌, ◌-◌, ◌≤◌, List, [], ◌∷◌, ◌++◌, length, map, reverse, refl, sym, ap, subst, ◌∙◌, inl, inr, Option, Some, Result, Ok, Err, IfOk, arith, length-append, append_assoc, append-nil}
use Rattle.std.specs.List.{All}
use Rattle.std.proofs.lemmas.List.{length-map, map-append, reverse-append}
use Rattle.std.proofs.lemmas.List.Elements.{All-nil, All-push}
use Rattle.gs_grammar.specs.Answers.{Fails, Answers, IsRefused}
use Rattle.gs_grammar.specs.Machine.{run}
use Rattle.gs_grammar.proofs.Runs.{run-nil, run-ok, run-err, run-append}
use Rattle.gs_text.specs.Bytes.{max_text}
use Rattle.gs_text.specs.Cut.{onto, pieces}
use Rattle.gs_text.specs.Pieces.{HasGoodText, InOrder, LiesIn, text_of}
use Rattle.gs_text.specs.declared.kinds.Kind.{Kind}
use Rattle.gs_text.specs.declared.kinds.Piece.{Piece}
use Rattle.gs_text.specs.declared.kinds.Style.{Style}
use Rattle.gs_text.specs.declared.kinds.TextErr.{TextErr}
use Rattle.gs_text.specs.Cutter.{Agrees, IsNext, fault_of, left, start}
use Rattle.gs_drive.specs.Machine.{StepFails, at_end, ended, judged, refused, stopped}
use Rattle.gs_drive.specs.Pieces.{HasPieces}
use Rattle.gs_drive.specs.Read.{HasRead}
use Rattle.gs_drive.specs.Tokens.{token_of, tokens, tokens_from}
use Rattle.gs_text.specs.declared.cutter.Place.{Place}
use Rattle.gs_drive.specs.declared.machine.Fault.{Fault}
use Rattle.gs_drive.specs.declared.machine.StepErr.{StepErr}
use Rattle.gs_drive.specs.declared.refusal.Refusal.{Refusal}

-- the pieces follow one another, none before one place and none past another
abbrev pub Between : (at to : ℕ) → List Piece → Type 0
Between at to [] = at ≤ to
Between at to (p ∷ ps) = (at ≤ p.from) × Between p.to to ps

between_push : (at to : ℕ) (ps : List Piece) (p : Piece) → Between at to ps → to ≤ p.from → Between at p.to (ps ++ p ∷ [])
between_push at to [] p h le = (omega (arith, h, le), omega arith)
between_push at to (q ∷ ps) p h le = (h.0, between_push q.to to ps p h.1 le)

in_order : (at to : ℕ) (ps : List Piece) → Between at to ps → InOrder at ps
in_order at to [] h = tt
in_order at to (p ∷ ps) h = (h.0, in_order p.to to ps h.1)

onto_none : (r : Result (List Piece) TextErr) → onto [] r ≡ r
onto_none (Ok ps) = refl
onto_none (Err e) = refl

onto_more : (ps : List Piece) (p : Piece) (r : Result (List Piece) TextErr) → onto ps (onto (p ∷ []) r) ≡ onto (ps ++ p ∷ []) r
onto_more ps p (Ok qs) = ap Ok (sym (append_assoc ps (p ∷ []) qs))
onto_more ps p (Err e) = refl

newest : (ps : List Piece) (p : Piece) → reverse (ps ++ p ∷ []) ≡ p ∷ reverse ps
newest ps p = reverse-append ps (p ∷ [])

-- the pieces so far: so many, which with those that are left are all pieces of the text, and whose tokens lead to the state
pub record SoFar {S T R : Type 0} (style : Style) (bytes : List ℕ) (token : Kind → List ℕ → ℕ → T) (step : S → T → Result S (Fault R)) (begin : S)
    (place : Place) (count : ℕ) (s : S) : Type 0 where
  pub found : List Piece
  pub count_is : length found ≡ count
  pub cut_is : onto found (left style bytes (reverse found) place) ≡ pieces style bytes
  pub agrees : Agrees bytes (reverse found) place
  pub between : Between 0 place.at found
  pub inside : All (LiesIn (length bytes)) found
  pub solid : All (λ (p : Piece). HasGoodText p.kind (text_of bytes p)) found
  pub run_is : run step begin (map (token_of token bytes) found) ≡ Ok s

module _ {S T R : Type 0} (style : Style) (bytes : List ℕ) (token : Kind → List ℕ → ℕ → T) (step : S → T → Result S (Fault R)) (begin : S) where
  abbrev Now : Place → ℕ → S → Type 0
  Now place count s = SoFar style bytes token step begin place count s

  abbrev toks : List Piece → List T
  toks ps = map (token_of token bytes) ps

  -- at the text's first byte no piece is found
  pub starts : (s : S) → s ≡ begin → Now start 0 s
  starts s e =
      record {
        found = [];
        count_is = refl;
        cut_is = onto_none (left style bytes [] start);
        agrees = record { braced = refl; latest = refl };
        between = omega arith;
        inside = All-nil (LiesIn (length bytes));
        solid = All-nil (λ (p : Piece). HasGoodText p.kind (text_of bytes p));
        run_is = run-nil step begin ∙ ap Ok (sym e);
      }

  -- what a machine may rest on
  pub has_read : (place : Place) (count : ℕ) (s : S) → count ≤ max_text → Now place count s → HasRead token step begin s
  has_read place count s le h =
      record { bytes = bytes; pieces = h.found; few = omega (arith, h.count_is, le); solid = h.solid; run_is = h.run_is }

  -- what the next piece is to the pieces so far
  cut_next : (place : Place) (count : ℕ) (s : S) (p : Piece) (after : Place) (h : Now place count s) → IsNext style bytes place p after
      → onto (h.found ++ p ∷ []) (left style bytes (p ∷ reverse h.found) after) ≡ pieces style bytes
  cut_next place count s p after h n =
      sym (onto_more h.found p (left style bytes (p ∷ reverse h.found) after)) ∙ sym (ap (onto h.found) (n.first (reverse h.found) h.agrees)) ∙ h.cut_is

  -- one more token is taken
  pub takes : (place : Place) (count : ℕ) (s m : S) (p : Piece) (after : Place) (text : List ℕ) → IsNext style bytes place p after → text ≡ text_of bytes p
      → step s (token p.kind text p.line) ≡ Ok m → Now place count s → Now after (count + 1) m
  takes place count s m p after text n same e h =
      let found = h.found ++ p ∷ [] in
      let t : token p.kind text p.line ≡ token_of token bytes p = ap (λ us. token p.kind us p.line) same in
      record {
        found = found;
        count_is = length-append h.found (p ∷ []) ∙ omega (arith, h.count_is);
        cut_is = ap (λ qs. onto found (left style bytes qs after)) (newest h.found p) ∙ cut_next place count s p after h n;
        agrees = subst (λ qs. Agrees bytes qs after) (sym (newest h.found p)) (n.agrees (reverse h.found) h.agrees);
        between = subst (λ to. Between 0 to found) (sym n.ends) (between_push 0 place.at h.found p h.between n.begins);
        inside = All-push (LiesIn (length bytes)) h.found p h.inside n.inside;
        solid = All-push (λ (q : Piece). HasGoodText q.kind (text_of bytes q)) h.found p h.solid n.solid;
        run_is = ap (run step begin) (map-append (token_of token bytes) h.found (p ∷ []))
            ∙ run-append step begin s (toks h.found) (token_of token bytes p ∷ []) h.run_is
            ∙ run-ok step s m (token_of token bytes p) [] (ap (step s) (sym t) ∙ e) ∙ run-nil step m;
      }

  module _ {V : Type 0} (end : S → Option V) where
    abbrev said : Result V (Refusal R)
    said = judged step begin end (tokens token style bytes)

    says : (r : Result (List Piece) TextErr) → r ≡ pieces style bytes → judged step begin end (tokens_from token bytes r) ≡ said
    says r e = ap (λ (q : Result (List Piece) TextErr). judged step begin end (tokens_from token bytes q)) e

    -- one more token is refused
    refused_by : (place : Place) (count : ℕ) (s : S) (p : Piece) (x : StepErr R) (r : Result (List Piece) TextErr) (h : Now place count s)
        → StepFails x (step s (token_of token bytes p)) → onto (h.found ++ p ∷ []) r ≡ pieces style bytes → Fails Refusal.Mem (stopped (fault_of r) count x) said
    refused_by place count s p x (Err e) h stop cut = inr (sym (says (Err e) cut))
    refused_by place count s p StepErr.Full (Ok ps) h stop cut = inl refl
    refused_by place count s p (StepErr.Refused f) (Ok ps) h stop cut =
        let all = toks ((h.found ++ p ∷ []) ++ ps) in
        let rest = token_of token bytes p ∷ toks ps in
        let parts : all ≡ toks h.found ++ rest =
        ap toks (append_assoc h.found (p ∷ []) ps) ∙ map-append (token_of token bytes) h.found (p ∷ ps) in
        let ends : run step begin all ≡ Err (f, rest) =
        ap (run step begin) parts ∙ run-append step begin s (toks h.found) rest h.run_is ∙ run-err step s f (token_of token bytes p) (toks ps) stop in
        let place_is : length all - length rest ≡ count =
        omega (arith, ap (λ (us : List T). length us) parts, length-append (toks h.found) rest, length-map h.found (token_of token bytes), h.count_is) in
        inr (sym (says (Ok ((h.found ++ p ∷ []) ++ ps)) cut) ∙ ap (ended end (length all)) ends ∙ ap (λ k. Err (refused k f)) place_is)

    pub refuses : (place : Place) (count : ℕ) (s : S) (p : Piece) (after : Place) (text : List ℕ) (x : StepErr R) (e : Refusal R)
        → IsNext style bytes place p after → text ≡ text_of bytes p → StepFails x (step s (token p.kind text p.line))
        → ((before : List Piece) → Agrees bytes before after → e ≡ stopped (fault_of (left style bytes before after)) count x)
        → Now place count s → Fails Refusal.Mem e said
    refuses place count s p after text x e n same stop is h =
        let t : token p.kind text p.line ≡ token_of token bytes p = ap (λ us. token p.kind us p.line) same in
        let r = left style bytes (p ∷ reverse h.found) after in
        let k = refused_by place count s p x r h (subst (λ u. StepFails x (step s u)) t stop) (cut_next place count s p after h n) in
        subst (λ y. Fails Refusal.Mem y said) (sym (is (p ∷ reverse h.found) (n.agrees (reverse h.found) h.agrees))) k

    -- a machine can't be made
    none_by : (r : Result (List Piece) TextErr) → r ≡ pieces style bytes → Fails Refusal.Mem (stopped (fault_of r) 0 StepErr.Full) said
    none_by (Ok ps) h = inl refl
    none_by (Err x) h = inr (sym (says (Err x) h))

    pub none_made : (e : Refusal R) → ((before : List Piece) → Agrees bytes before start → e ≡ stopped (fault_of (left style bytes before start)) 0 StepErr.Full)
        → Fails Refusal.Mem e said
    none_made e is =
        subst (λ y. Fails Refusal.Mem y said) (sym (is [] (record { braced = refl; latest = refl }))) (none_by (pieces style bytes) refl)

    -- the pieces so far are all
    all_found : (place : Place) (count : ℕ) (s : S) (h : Now place count s) → left style bytes (reverse h.found) place ≡ Ok [] → Ok h.found ≡ pieces style bytes
    all_found place count s h e = ap Ok (sym (append-nil h.found)) ∙ sym (ap (onto h.found) e) ∙ h.cut_is

    ends_so : (place : Place) (count : ℕ) (s : S) → ((before : List Piece) → Agrees bytes before place → left style bytes before place ≡ Ok [])
        → Now place count s → at_end count (end s) ≡ said
    ends_so place count s none h =
        let n : length (toks h.found) ≡ count = length-map h.found (token_of token bytes) ∙ h.count_is in
        ap (λ k. at_end k (end s)) (sym n) ∙ sym (ap (ended end (length (toks h.found))) h.run_is)
        ∙ says (Ok h.found) (all_found place count s h (none (reverse h.found) h.agrees))

    pub finishes : (place : Place) (count : ℕ) (s : S) (r : Result V (Refusal R)) → ((before : List Piece) → Agrees bytes before place → left style bytes before place ≡ Ok [])
        → Answers Refusal.Mem (at_end count (end s)) r → Now place count s → Answers Refusal.Mem said r
    finishes place count s r none a h = subst (λ x. Answers Refusal.Mem x r) (ends_so place count s none h) a

    -- a fault of the text
    pub faulty : (place : Place) (count : ℕ) (s : S) (e : TextErr) → ((before : List Piece) → Agrees bytes before place → left style bytes before place ≡ Err e)
        → Now place count s → Fails Refusal.Mem (Refusal.Text e) said
    faulty place count s e fault h =
        inr (sym (says (Err e) (sym (ap (onto h.found) (fault (reverse h.found) h.agrees)) ∙ h.cut_is)))

    pub has_pieces : (place : Place) (count : ℕ) (s : S) → place.at ≤ length bytes → count ≤ place.at
        → ((before : List Piece) → Agrees bytes before place → left style bytes before place ≡ Ok []) → Now place count s → HasPieces style bytes
    has_pieces place count s within few none h =
        record {
          found = h.found;
          cut_is = sym (all_found place count s h (none (reverse h.found) h.agrees));
          few = omega (arith, h.count_is, few, within);
          inside = h.inside;
          ordered = in_order 0 place.at h.found h.between;
        }

  -- ---- a fault of the text is always told

  fault_onto : (ps : List Piece) (r : Result (List Piece) TextErr) (e : TextErr) → onto ps r ≡ Err e → fault_of r ≡ Some e
  fault_onto ps (Ok qs) e h = cc
  fault_onto ps (Err x) e h = let same : x ≡ e = cc in ap Some same

  stopped_told : (o : Option TextErr) (i : ℕ) (x : StepErr R) (e : TextErr) → o ≡ Some e → stopped o i x ≡ Refusal.Text e
  stopped_told o i x e h = ap (λ q. stopped q i x) h

  pub refuses_told : (place : Place) (count : ℕ) (s : S) (p : Piece) (after : Place) (x : StepErr R) (y : Refusal R) (e : TextErr) → IsNext style bytes place p after
      → ((before : List Piece) → Agrees bytes before after → y ≡ stopped (fault_of (left style bytes before after)) count x)
      → Now place count s → pieces style bytes ≡ Err e → y ≡ Refusal.Text e
  refuses_told place count s p after x y e n is h fault =
      let r = left style bytes (p ∷ reverse h.found) after in
      is (p ∷ reverse h.found) (n.agrees (reverse h.found) h.agrees)
      ∙ stopped_told (fault_of r) count x e (fault_onto (h.found ++ p ∷ []) r e (cut_next place count s p after h n ∙ fault))

  pub none_told : (y : Refusal R) (e : TextErr) → ((before : List Piece) → Agrees bytes before start → y ≡ stopped (fault_of (left style bytes before start)) 0 StepErr.Full)
      → pieces style bytes ≡ Err e → y ≡ Refusal.Text e
  none_told y e is fault =
      is [] (record { braced = refl; latest = refl }) ∙ stopped_told (fault_of (pieces style bytes)) 0 StepErr.Full e (ap fault_of fault)

  pub fault_told : (place : Place) (count : ℕ) (s : S) (x e : TextErr) → ((before : List Piece) → Agrees bytes before place → left style bytes before place ≡ Err x)
      → Now place count s → pieces style bytes ≡ Err e → ◌≡◌ {A = Refusal R} (Refusal.Text x) (Refusal.Text e)
  fault_told place count s x e fault h k =
      let both : ◌≡◌ {A = Result (List Piece) TextErr} (Err x) (Err e) =
      sym (ap (onto h.found) (fault (reverse h.found) h.agrees)) ∙ h.cut_is ∙ k in
      let same : x ≡ e = cc in
      ap Refusal.Text same

  pub end_told : {V : Type 0} (place : Place) (count : ℕ) (s : S) (r : Result V (Refusal R)) (e : TextErr)
      → ((before : List Piece) → Agrees bytes before place → left style bytes before place ≡ Ok []) → Now place count s → pieces style bytes ≡ Err e → IsRefused (Refusal.Text e) r
  end_told place count s r e none h k =
      let never : ◌≡◌ {A = Result (List Piece) TextErr} (Ok (h.found ++ [])) (Err e) = sym (ap (onto h.found) (none (reverse h.found) h.agrees)) ∙ h.cut_is ∙ k in
      absurd (clash (h.found ++ []) e never)
    where
      clash : (ps : List Piece) (e : TextErr) → ◌≡◌ {A = Result (List Piece) TextErr} (Ok ps) (Err e) → ⊥
      clash ps e h = cc

-- what holds in any case holds where a value is answered
pub in_any_case : {V E : Type 0} (P : Type 0) (r : Result V E) → P → IfOk r (λ _. P)
in_any_case P (Ok v) p = p
in_any_case P (Err e) p = tt
