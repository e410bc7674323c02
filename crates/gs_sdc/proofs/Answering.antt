-- What is said of a text's lines is that it is SDC of its terms, or its one cause.

use Rattle.std.proofs.Common.{◌≡◌, ◌≢◌, ℕ, List, [], ◌∷◌, refl, sym, ap, subst, ◌∙◌, Option, None, Some, Result, Ok, Err}
use Rattle.gs_design.specs.declared.units.Units.{Units}
use Rattle.gs_grammar.specs.Answers.{Answers}
use Rattle.gs_grammar.specs.Judged.{upon, AreGood, IsFirstFault, first_fault}
use Rattle.gs_lines.specs.Lines.{Line, line_count, lines_by}
use Rattle.gs_grammar.proofs.Judged.{all_good, finds, good_none, is_first}
use Rattle.gs_sdc.specs.Command.{IsCommand, Reading}
use Rattle.gs_sdc.specs.Front.{reading_of}
use Rattle.gs_sdc.specs.Reader.{answer_of, end_by, item_of, items_of, judged, refusal_of}
use Rattle.gs_sdc.specs.Sdc.{AreCommands, AreItems, Cause, CauseOf, IsFirstAt, IsRead, Item, LacksClock, SdcText, clock, fault, terms, text_lines, token_lines}
use Rattle.gs_sdc.specs.Terms.{Terms}
use Rattle.gs_sdc.specs.Token.{Token, token_of}
use Rattle.gs_sdc.specs.declared.constraints.Clock.{Clock}
use Rattle.gs_sdc.specs.declared.error.Fault.{Fault}
use Rattle.gs_sdc.specs.declared.error.Fault.TheVariants as faults
use Rattle.gs_sdc.specs.declared.error.SdcErr.{SdcErr}
use Rattle.gs_sdc.specs.declared.error.SdcErr.TheVariants.{NotBuilt, BadLine, TwoClocks, TwoValues, NoClock, Mem}
use Rattle.gs_text.specs.Cut.{pieces}
use Rattle.gs_text.specs.declared.kinds.Piece.{Piece}
use Rattle.gs_text.specs.declared.kinds.Style.TheVariants.{Sdc}
use Rattle.gs_sdc.proofs.Commands.{reading_complete, reading_sound}

-- ---- the commands of lines are those that are read

read_by : (u : Units) (ts : List Token) (o : Option Reading) → reading_of u ts ≡ o → IsRead u ts o
read_by u ts (Some r) e = reading_sound u ts r e
read_by u ts None e = λ r h. let never : Some r ≡ None = sym (reading_complete u ts r h) ∙ e in cc

items_are : (u : Units) (ls : List (Line Token)) → AreItems u ls (items_of u ls)
items_are u [] = tt
items_are u (l ∷ ls) = (refl, read_by u l.words (reading_of u l.words) refl, items_are u ls)

none_read : (u : Units) (ts : List Token) (o : Option Reading) → ((r : Reading) → IsCommand u ts r → ⊥) → reading_of u ts ≡ o → None ≡ o
none_read u ts None h e = refl
none_read u ts (Some r) h e = absurd (h r (reading_sound u ts r e))

only_reading : (u : Units) (ts : List Token) (o : Option Reading) → IsRead u ts o → o ≡ reading_of u ts
only_reading u ts (Some r) h = sym (reading_complete u ts r h)
only_reading u ts None h = none_read u ts (reading_of u ts) h refl

only_item : (u : Units) (l : Line Token) (n : ℕ) (o : Option Reading) → n ≡ l.number → o ≡ reading_of u l.words → record { number = n; reading = o } ≡ item_of u l
only_item u l n o e h =
    ap (λ (k : ℕ). record { number = k; reading = o }) e ∙ ap (λ (p : Option Reading). record { number = l.number; reading = p }) h

only_items : (u : Units) (ls : List (Line Token)) (items : List Item) → AreItems u ls items → items ≡ items_of u ls
only_items u [] [] h = refl
only_items u [] (i ∷ items) h = absurd h
only_items u (l ∷ ls) [] h = absurd h
only_items u (l ∷ ls) (i ∷ items) h =
    ap (λ (j : Item). j ∷ items) (only_item u l i.number i.reading h.0 (only_reading u l.words i.reading h.1))
    ∙ ap (λ js. item_of u l ∷ js) (only_items u ls items h.2)

-- ---- what is said of commands

module _ (last : ℕ) (items : List Item) where
  sound_end : (o : Option Clock) (t : Terms) → clock (upon [] items) ≡ o → AreGood fault [] items → end_by last o (upon [] items) ≡ Ok t → AreCommands items t
  sound_end None t e good h = cc
  sound_end (Some c) t e good h = record { good = good; clock_term = c; clock_is = e; terms_are = let same : terms c (upon [] items) ≡ t = cc in sym same }

  sound_by : (o : Option (Item × Fault)) (t : Terms) → first_fault fault [] items ≡ o → judged last items o ≡ Ok t → AreCommands items t
  sound_by None t e h = sound_end (clock (upon [] items)) t refl (all_good fault [] items e) h
  sound_by (Some (i, f)) t e h = cc

  -- commands without a fault are judged by their clock
  good_end : AreGood fault [] items → (o : Option Clock) → clock (upon [] items) ≡ o → answer_of last items ≡ end_by last o (upon [] items)
  good_end good o e = ap (judged last items) (good_none fault [] items good) ∙ ap (λ p. end_by last p (upon [] items)) e

  complete_by : (t : Terms) → AreCommands items t → answer_of last items ≡ Ok t
  complete_by t c = good_end c.good (Some c.clock_term) c.clock_is ∙ ap (λ x. Ok x) (sym c.terms_are)

  cause_of : (i : Item) (f : Fault) → IsFirstFault fault items i f → CauseOf last items (refusal_of i.number f)
  cause_of i faults.NotBuilt q = record { item = i; first = q; number = refl }
  cause_of i faults.BadLine q = record { item = i; first = q; number = refl }
  cause_of i faults.TwoClocks q = record { item = i; first = q; number = refl }
  cause_of i faults.TwoValues q = record { item = i; first = q; number = refl }

  cause_end : (o : Option Clock) (e : SdcErr) → clock (upon [] items) ≡ o → AreGood fault [] items → end_by last o (upon [] items) ≡ Err e → CauseOf last items e
  cause_end None e k good h =
      let same : NoClock last ≡ e = cc in
      subst (CauseOf last items) same (record { good = good; none = k; number = refl })
  cause_end (Some c) e k good h = cc

  cause_by : (o : Option (Item × Fault)) (e : SdcErr) → first_fault fault [] items ≡ o → judged last items o ≡ Err e → CauseOf last items e
  cause_by None e k h = cause_end (clock (upon [] items)) e refl (all_good fault [] items k) h
  cause_by (Some (i, f)) e k h =
      let same : refusal_of i.number f ≡ e = cc in
      subst (CauseOf last items) same (cause_of i f (is_first fault items i f k))

  at_first : (f : Fault) (i : ℕ) → IsFirstAt items f i → answer_of last items ≡ Err (refusal_of i f)
  at_first f i q = ap (judged last items) (finds fault items q.item f q.first) ∙ ap (λ n. Err (refusal_of n f)) q.number

  lacks_clock : (i : ℕ) → LacksClock last items i → answer_of last items ≡ Err (NoClock i)
  lacks_clock i q = good_end q.good None q.none ∙ ap (λ n. Err (NoClock n)) (sym q.number)

  caused_by : (e : SdcErr) → e ≢ Mem → CauseOf last items e → answer_of last items ≡ Err e
  caused_by (NotBuilt i) n q = at_first faults.NotBuilt i q
  caused_by (BadLine i) n q = at_first faults.BadLine i q
  caused_by (TwoClocks i) n q = at_first faults.TwoClocks i q
  caused_by (TwoValues i) n q = at_first faults.TwoValues i q
  caused_by (NoClock i) n q = lacks_clock i q
  caused_by Mem n q = absurd (n refl)

  named : (i : ℕ) (f : Fault) → refusal_of i f ≢ Mem
  named i faults.NotBuilt h = cc
  named i faults.BadLine h = cc
  named i faults.TwoClocks h = cc
  named i faults.TwoValues h = cc

  lasts_end : (o : Option Clock) (e : SdcErr) → end_by last o (upon [] items) ≡ Err e → e ≢ Mem
  lasts_end None e h k = cc
  lasts_end (Some c) e h k = cc

  lasts_by : (o : Option (Item × Fault)) (e : SdcErr) → judged last items o ≡ Err e → e ≢ Mem
  lasts_by None e h k = lasts_end (clock (upon [] items)) e h k
  lasts_by (Some (i, f)) e h k =
      let same : refusal_of i.number f ≡ e = cc in
      named i.number f (same ∙ k)

-- ---- what is said of lines

module _ (u : Units) (last : ℕ) (ls : List (Line Token)) where
  pub sound : (t : Terms) → answer_of last (items_of u ls) ≡ Ok t → SdcText u ls t
  sound t h = record { items = items_of u ls; are_items = items_are u ls; commands = sound_by last (items_of u ls) (first_fault fault [] (items_of u ls)) t refl h }

  pub complete : (t : Terms) → SdcText u ls t → answer_of last (items_of u ls) ≡ Ok t
  complete t s = ap (answer_of last) (sym (only_items u ls s.items s.are_items)) ∙ complete_by last s.items t s.commands

  pub causes : (e : SdcErr) → answer_of last (items_of u ls) ≡ Err e → Cause u last ls e
  causes e h = record { items = items_of u ls; are_items = items_are u ls; cause = cause_by last (items_of u ls) (first_fault fault [] (items_of u ls)) e refl h }

  pub free : Cause u last ls Mem
  free = record { items = items_of u ls; are_items = items_are u ls; cause = tt }

  pub caused : (e : SdcErr) → e ≢ Mem → Cause u last ls e → answer_of last (items_of u ls) ≡ Err e
  caused e n c = ap (answer_of last) (sym (only_items u ls c.items c.are_items)) ∙ caused_by last c.items e n c.cause

  -- want of memory is never said
  pub lasts : (e : SdcErr) → answer_of last (items_of u ls) ≡ Err e → e ≢ Mem
  lasts e h = lasts_by last (items_of u ls) (first_fault fault [] (items_of u ls)) e h

-- the answer on the pieces is the answer on the bytes
pub answers_pieces : (u : Units) (bytes : List ℕ) (last : ℕ) (ps qs : List Piece) (r : Result Terms SdcErr) → pieces Sdc bytes ≡ Ok ps → qs ≡ ps → last ≡ line_count bytes
    → Answers Mem (answer_of last (items_of u (token_lines bytes qs))) r → Answers Mem (answer_of (line_count bytes) (items_of u (text_lines bytes))) r
answers_pieces u bytes last ps qs r e same count h =
    let P : Result Terms SdcErr → Type 0 = λ said. Answers Mem said r in
    subst P (ap (λ us. answer_of last (items_of u (token_lines bytes us))) same ∙ ap (λ n. answer_of n (items_of u (token_lines bytes ps))) count
    ∙ sym (ap (λ found. answer_of (line_count bytes) (items_of u (lines_by (token_of bytes) found))) e)) h
