-- What is said of a text's lines is that it is SPEF of its wires, or its one cause.

use Rattle.std.proofs.Common.{◌≡◌, ◌≢◌, ℕ, List, [], inl, inr, refl, sym, ap, subst, ◌∙◌, Bool, true, false, Option, None, Some, Result, Ok, Err, if◌then◌else◌}
use Rattle.gs_grammar.specs.Answers.{Answers}
use Rattle.gs_grammar.specs.Judged.{upon, AreGood, IsFirstFault, first_fault}
use Rattle.gs_grammar.proofs.Judged.{all_good, finds, good_none, is_first}
use Rattle.gs_spef.specs.Format.{is_open}
use Rattle.gs_lines.specs.Lines.{line_count, lines_by}
use Rattle.gs_spef.specs.Lines.{text_lines, worded_lines}
use Rattle.gs_text.specs.Pieces.{text_of}
use Rattle.gs_spef.specs.Reader.{at_end, judged, reading, refusal_of}
use Rattle.gs_spef.specs.Refusal.{Cause, EndsOpen, IsFirstAt}
use Rattle.gs_spef.specs.Spef.{Row, SpefText, fault, place_of, wires}
use Rattle.gs_spef.specs.declared.error.Fault.{Fault}
use Rattle.gs_spef.specs.declared.error.Fault.TheVariants as faults
use Rattle.gs_spef.specs.declared.error.SpefErr.{SpefErr}
use Rattle.gs_spef.specs.declared.error.SpefErr.TheVariants.{BadLine, Distributed, UnknownIndex, TwoNets, Mem}
use Rattle.gs_spef.specs.declared.wires.Wire.{Wire}
use Rattle.gs_text.specs.Cut.{pieces}
use Rattle.gs_text.specs.declared.kinds.Piece.{Piece}
use Rattle.gs_text.specs.declared.kinds.Style.TheVariants.{Spef}

module _ (last : ℕ) (ls : List Row) where
  sound_end : (b : Bool) (ws : List Wire) → is_open (place_of (upon [] ls)) ≡ b → AreGood (fault last) [] ls
      → (if b then Err (BadLine last) else Ok (wires (upon [] ls))) ≡ Ok ws → SpefText last ls ws
  sound_end true ws e good h = cc
  sound_end false ws e good h = record { good = good; closed = e; wires_are = cc }

  sound_by : (o : Option (Row × Fault)) (ws : List Wire) → first_fault (fault last) [] ls ≡ o → judged last ls o ≡ Ok ws → SpefText last ls ws
  sound_by None ws e h = sound_end (is_open (place_of (upon [] ls))) ws refl (all_good (fault last) [] ls e) h
  sound_by (Some (l, f)) ws e h = cc

  pub sound : (ws : List Wire) → reading last ls ≡ Ok ws → SpefText last ls ws
  sound ws h = sound_by (first_fault (fault last) [] ls) ws refl h

  -- a text without a fault is judged by its end
  good_end : AreGood (fault last) [] ls → (b : Bool) → is_open (place_of (upon [] ls)) ≡ b
      → reading last ls ≡ (if b then Err (BadLine last) else Ok (wires (upon [] ls)))
  good_end good b e = ap (judged last ls) (good_none (fault last) [] ls good)
      ∙ ap (λ o. if o then Err (BadLine last) else Ok (wires (upon [] ls))) e

  pub complete : (ws : List Wire) → SpefText last ls ws → reading last ls ≡ Ok ws
  complete ws t = good_end t.good false t.closed ∙ ap (λ us. Ok us) (sym t.wires_are)

  cause_of : (l : Row) (f : Fault) → IsFirstFault (fault last) ls l f → Cause last ls (refusal_of l.number f)
  cause_of l faults.BadLine q = inl (record { line = l; first = q; number = refl })
  cause_of l faults.Distributed q = record { line = l; first = q; number = refl }
  cause_of l faults.UnknownIndex q = record { line = l; first = q; number = refl }
  cause_of l faults.TwoNets q = record { line = l; first = q; number = refl }

  cause_end : (b : Bool) (e : SpefErr) → is_open (place_of (upon [] ls)) ≡ b → AreGood (fault last) [] ls
      → (if b then Err (BadLine last) else Ok (wires (upon [] ls))) ≡ Err e → Cause last ls e
  cause_end true e o good h =
      let same : BadLine last ≡ e = cc in
      subst (Cause last ls) same (inr (record { good = good; open_block = o; number = refl }))
  cause_end false e o good h = cc

  cause_by : (o : Option (Row × Fault)) (e : SpefErr) → first_fault (fault last) [] ls ≡ o → judged last ls o ≡ Err e → Cause last ls e
  cause_by None e k h = cause_end (is_open (place_of (upon [] ls))) e refl (all_good (fault last) [] ls k) h
  cause_by (Some (l, f)) e k h =
      let same : refusal_of l.number f ≡ e = cc in
      subst (Cause last ls) same (cause_of l f (is_first (fault last) ls l f k))

  pub causes : (e : SpefErr) → reading last ls ≡ Err e → Cause last ls e
  causes e h = cause_by (first_fault (fault last) [] ls) e refl h

  at_first : (f : Fault) (i : ℕ) → IsFirstAt last ls f i → reading last ls ≡ Err (refusal_of i f)
  at_first f i q = ap (judged last ls) (finds (fault last) ls q.line f q.first) ∙ ap (λ n. Err (refusal_of n f)) q.number

  ends_open : (i : ℕ) → EndsOpen last ls i → reading last ls ≡ Err (BadLine i)
  ends_open i q = good_end q.good true q.open_block ∙ ap (λ n. Err (BadLine n)) (sym q.number)

  pub caused : (e : SpefErr) → e ≢ Mem → Cause last ls e → reading last ls ≡ Err e
  caused (BadLine i) n (inl q) = at_first faults.BadLine i q
  caused (BadLine i) n (inr q) = ends_open i q
  caused (Distributed i) n q = at_first faults.Distributed i q
  caused (UnknownIndex i) n q = at_first faults.UnknownIndex i q
  caused (TwoNets i) n q = at_first faults.TwoNets i q
  caused Mem n q = absurd (n refl)

  named : (i : ℕ) (f : Fault) → refusal_of i f ≢ Mem
  named i faults.BadLine h = cc
  named i faults.Distributed h = cc
  named i faults.UnknownIndex h = cc
  named i faults.TwoNets h = cc

  lasts_end : (b : Bool) (e : SpefErr) → (if b then Err (BadLine last) else Ok (wires (upon [] ls))) ≡ Err e → e ≢ Mem
  lasts_end true e h k = cc
  lasts_end false e h k = cc

  lasts_by : (o : Option (Row × Fault)) (e : SpefErr) → judged last ls o ≡ Err e → e ≢ Mem
  lasts_by None e h k = lasts_end (is_open (place_of (upon [] ls))) e h k
  lasts_by (Some (l, f)) e h k =
      let same : refusal_of l.number f ≡ e = cc in
      named l.number f (same ∙ k)

  -- want of memory is never said
  pub lasts : (e : SpefErr) → reading last ls ≡ Err e → e ≢ Mem
  lasts e h = lasts_by (first_fault (fault last) [] ls) e h

-- the answer on the pieces is the answer on the bytes
pub answers_pieces : (bytes : List ℕ) (last : ℕ) (ps qs : List Piece) (r : Result (List Wire) SpefErr) → pieces Spef bytes ≡ Ok ps → qs ≡ ps → last ≡ line_count bytes
    → Answers Mem (reading last (worded_lines bytes qs)) r → Answers Mem (reading (line_count bytes) (text_lines bytes)) r
answers_pieces bytes last ps qs r e same count h =
    let P : Result (List Wire) SpefErr → Type 0 = λ said. Answers Mem said r in
    subst P (ap (λ us. reading last (worded_lines bytes us)) same ∙ ap (λ n. reading n (worded_lines bytes ps)) count ∙ sym (ap (λ found. reading (line_count bytes) (lines_by (text_of bytes) found)) e)) h
