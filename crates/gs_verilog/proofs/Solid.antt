-- Words and escaped names have no white, by what the pieces of a text are; and so what a text stands for is a netlist.

use Rattle.std.proofs.Common.{◌≡◌, ◌∙◌, ℕ, suc, zero, ◌+◌, ◌-◌, ◌<◌, ◌≤◌, ◌==◌, ◌&&◌, nat_lt, List, [], ◌∷◌, length, map, take, drop, get_or, slice_index, Bool, true, false, cond, Result, Ok, Err, refl, sym, ap, subst, arith, inl, inr, add-zero, length-take, length-drop}
use Rattle.std.specs.List.{All, AllByRecursion, prefix_len}
use Rattle.std.proofs.lemmas.Bool.Decides.{nat_tests}
use Rattle.std.proofs.lemmas.Bool.{cases_lt}
use Rattle.std.proofs.lemmas.List.{get_or-drop, get_or-take}
use Rattle.std.proofs.lemmas.List.Elements.{All-head, All-tail, All-cons, All-from_get_or, All-nil}
use Rattle.std.proofs.lemmas.List.Sums.{prefix_len_passes}
use Rattle.gs_drive.specs.Tokens.{token_of, tokens_from}
use Rattle.gs_text.specs.Before.{in_braces, has_begun}
use Rattle.gs_text.specs.Bytes.{is_white, is_digit, is_word_byte}
use Rattle.gs_text.specs.Cut.{pieces}
use Rattle.gs_text.specs.Cutting.{IsCutAlone}
use Rattle.gs_text.specs.Pieces.{HasGoodText, IsUnbroken, LiesIn, opening_len, closing_len, text_of}
use Rattle.gs_text.specs.Verilog.{closed_len, index_len}
use Rattle.gs_text.specs.Whole.{AreWhole, IsEscapedName, IsVerilogWord, IsWhole}
use Rattle.gs_text.specs.declared.kinds.Kind.{Kind}
use Rattle.gs_text.specs.declared.kinds.Kind.TheVariants.{Word, Escaped, Text, Mark}
use Rattle.gs_text.specs.declared.kinds.Piece.{Piece}
use Rattle.gs_text.specs.declared.kinds.Style.{Style}
use Rattle.gs_text.specs.declared.kinds.Style.TheVariants.{Verilog}
use Rattle.gs_text.specs.declared.kinds.TextErr.{TextErr}
use Rattle.gs_verilog.specs.Circuit.{Circuit, IsNetlist}
use Rattle.gs_verilog.specs.Refusal.{IsVerilog}
use Rattle.gs_verilog.specs.Token.{Token, token}
use Rattle.gs_verilog.proofs.Fits.{HoldsAt}
use Rattle.gs_verilog.proofs.Laws.{kept, run_of_text}
use Rattle.gs_verilog.proofs.Reading.{good_tokens}

-- ---- bytes that are no white

-- none of the first so many is white
abbrev Solid : ℕ → List ℕ → Type 0
Solid n bs = (k : ℕ) → k < n → is_white (get_or bs k 0) ≡ false

word_byte : (c : ℕ) → is_word_byte c ≡ true → is_white c ≡ false
word_byte c e = grind (arith, nat_tests)

digit : (c : ℕ) → is_digit c ≡ true → is_white c ≡ false
digit c e = grind (arith, nat_tests)

opening : (c n : ℕ) → c == 91 && nat_lt 0 n ≡ true → is_white c ≡ false
opening c n e = grind (arith, nat_tests)

closing : (c n : ℕ) → nat_lt 0 n && c == 93 ≡ true → is_white c ≡ false
closing c n e = grind (arith, nat_tests)

solid_if : (b : Bool) (n : ℕ) (bs : List ℕ) → (b ≡ true → Solid n bs) → Solid (cond b n 0) bs
solid_if true n bs s = s refl
solid_if false n bs s = λ k lt. absurd (omega arith)

past_first : (c n : ℕ) (cs : List ℕ) → is_white c ≡ false → Solid n cs → Solid (n + 1) (c ∷ cs)
past_first c n cs e s zero lt = e
past_first c n cs e s (suc k) lt = s k (omega arith)

closed_solid : (bs : List ℕ) → Solid (closed_len bs) bs
closed_solid bs =
    let n : ℕ = prefix_len is_digit bs in
    let P : ℕ → Type 0 = λ i. is_white (get_or bs i 0) ≡ false in
    solid_if (nat_lt 0 n && slice_index bs n == 93) (n + 1) bs
    (λ e k lt. elim (cases_lt k n) [
      | inl l ↦ digit (get_or bs k 0) (prefix_len_passes is_digit bs k 0 l)
      | inr g ↦ let at : n ≡ k = omega arith in subst P at (closing (get_or bs n 0) n e)
    ])

index_solid : (bs : List ℕ) → Solid (index_len bs) bs
index_solid [] = λ k lt. absurd (omega arith)
index_solid (c ∷ cs) =
    solid_if (c == 91 && nat_lt 0 (closed_len cs)) (closed_len cs + 1) (c ∷ cs)
    (λ e. past_first c (closed_len cs) cs (opening c (closed_len cs) e) (closed_solid cs))

word_solid : (len : ℕ) (bs : List ℕ) → IsVerilogWord len bs → Solid len bs
word_solid len bs w = λ k lt. elim (cases_lt k w.run) [
  | inl l ↦ word_byte (get_or bs k 0) (w.inside k l)
  | inr g ↦
      let P : ℕ → Type 0 = λ c. is_white c ≡ false in
      let past : k - w.run < index_len (drop w.run bs) = omega (arith, w.index) in
      let at : w.run + (k - w.run) ≡ k = omega arith in
      subst P (get_or-drop w.run bs (k - w.run) 0 ∙ ap (λ i. get_or bs i 0) at) (index_solid (drop w.run bs) (k - w.run) past)
]

-- ---- the texts of pieces

unbroken : (n : ℕ) (bs : List ℕ) → 0 < n → n ≤ length bs → Solid n bs → IsUnbroken (take n bs)
unbroken n bs some full solid = record {
  some = omega (arith, length-take n bs);
  solid = All-from_get_or (λ c. is_white c ≡ false) (take n bs) 0
      (λ i lt.
      let within : i < n = omega (arith, length-take n bs) in
      let P : ℕ → Type 0 = λ c. is_white c ≡ false in
      subst P (sym (get_or-take n bs i 0 within)) (solid i within));
}

-- past its backslash
escaped_solid : (from to : ℕ) (bytes : List ℕ) → IsEscapedName (to - from) (drop from bytes) → Solid (to - (from + 1)) (drop (from + 1) bytes)
escaped_solid from to bytes w = λ k lt.
    let P : ℕ → Type 0 = λ c. is_white c ≡ false in
    let at : from + 1 + k ≡ from + (1 + k) = omega arith in
    let same : get_or (drop from bytes) (1 + k) 0 ≡ get_or (drop (from + 1) bytes) k 0 =
    get_or-drop from bytes (1 + k) 0 ∙ ap (λ i. get_or bytes i 0) (sym at) ∙ sym (get_or-drop (from + 1) bytes k 0) in
    subst P same (w.inside (1 + k) (omega arith))

good_text : (k : Kind) (from to : ℕ) (bytes : List ℕ) (braced begun : Bool) → from < to → to ≤ length bytes → IsWhole Verilog braced begun k (to - from) (drop from bytes)
    → HasGoodText k (take (to - closing_len k - (from + opening_len k)) (drop (from + opening_len k) bytes))
good_text Word from to bytes braced begun some within w =
    let n : to - 0 - (from + 0) ≡ to - from = omega arith in
    rw (n, add-zero) (unbroken (to - from) (drop from bytes) (omega arith) (omega (arith, length-drop from bytes)) (word_solid (to - from) (drop from bytes) w))
good_text Escaped from to bytes braced begun some within w =
    let n : to - 0 - (from + 1) ≡ to - (from + 1) = omega arith in
    rw n (unbroken (to - (from + 1)) (drop (from + 1) bytes) (omega (arith, w.some)) (omega (arith, length-drop (from + 1) bytes)) (escaped_solid from to bytes w))
good_text Text from to bytes braced begun some within w = tt
good_text Mark from to bytes braced begun some within w = tt

good_texts : (bytes : List ℕ) (before ps : List Piece) → AreWhole Verilog bytes before ps → All (LiesIn (length bytes)) ps → All (λ (p : Piece). HasGoodText p.kind (text_of bytes p)) ps
good_texts bytes before [] w h = All-nil (λ (p : Piece). HasGoodText p.kind (text_of bytes p))
good_texts bytes before (p ∷ ps) w h =
    let lies : LiesIn (length bytes) p = All-head (LiesIn (length bytes)) p ps h in
    let here : HasGoodText p.kind (text_of bytes p) =
    good_text p.kind p.from p.to bytes (in_braces bytes before) (has_begun p.line before) lies.some lies.within w.0 in
    All-cons (λ (q : Piece). HasGoodText q.kind (text_of bytes q)) p ps here (good_texts bytes (p ∷ before) ps w.1 (All-tail (LiesIn (length bytes)) p ps h))

-- ---- what a text stands for

record Cut (bytes : List ℕ) (ts : List Token) : Type 0 where
  pub found : List Piece
  pub cut_is : pieces Verilog bytes ≡ Ok found
  pub tokens_are : map (token_of token bytes) found ≡ ts

cut_of : (bytes : List ℕ) (r : Result (List Piece) TextErr) (ts : List Token) → pieces Verilog bytes ≡ r → tokens_from token bytes r ≡ Ok ts → Cut bytes ts
cut_of bytes (Ok ps) ts e h = record { found = ps; cut_is = e; tokens_are = cc }
cut_of bytes (Err x) ts e h = cc

pub netlist_kept : ((style : Style) (bytes : List ℕ) (ps : List Piece) → IsCutAlone style bytes ps)
    → (bytes : List ℕ) (c : Circuit) → IsVerilog bytes c → IsNetlist c
netlist_kept alone bytes c v =
    let cut : Cut bytes v.0 = cut_of bytes (pieces Verilog bytes) v.0 refl v.1 in
    let is = (alone Verilog bytes cut.found).0 cut.cut_is in
    let good = good_texts bytes [] cut.found is.whole is.inside in
    let w = run_of_text v.0 c v.2 in
    let clean = subst (AllByRecursion (HoldsAt IsUnbroken)) cut.tokens_are (good_tokens bytes cut.found good) in
    subst IsNetlist w.circuit (kept v.0 w.end w.by clean)
