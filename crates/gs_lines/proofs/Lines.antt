-- A reader takes the pieces of one line at a time: those from the front on that have the number of the first.

use Rattle.std.proofs.Common.{◌≡◌, ℕ, zero, suc, ◌+◌, ◌-◌, ◌<◌, ◌≤◌, ◌==◌, List, [], ◌∷◌, length, take, drop, map, get_or, refl, sym, ap, ◌∙◌, Bool, true, false, cond, add-zero, length-drop, arith, if◌then◌else◌}
use Rattle.std.specs.List.{prefix_len}
use Rattle.std.proofs.lemmas.Bool.Decides.{nat_tests}
use Rattle.std.proofs.lemmas.List.{drop-drop, drop_all, get_or-drop, take_rest}
use Rattle.gs_lines.specs.Lines.{Line, with_word, lines_of}

module _ {P W : Type 0} (number : P → ℕ) (word : P → W) where
  -- how many pieces from the front on have the number of a line
  abbrev pub run : ℕ → List P → ℕ
  run n ps = prefix_len (λ p. number p == n) ps

  -- the pieces of a line of this number, and then the lines of the others
  abbrev pub cut_at : ℕ → ℕ → List P → List (Line W)
  cut_at n k ps = record { number = n; words = map word (take k ps) } ∷ lines_of number word (drop k ps)

  -- a piece before the pieces of a line
  joins : (p : P) (n k : ℕ) (ps : List P) (b : Bool) → (n == number p) ≡ b → b ≡ true
      → with_word (number p) (word p) (cut_at n k ps) ≡ cut_at (number p) (suc k) (p ∷ ps)
  joins p n k ps true e f = rw e refl
  joins p n k ps false e f = cc

  -- a piece before those of another line
  parts : (p : P) (n k : ℕ) (ps : List P) → (n == number p) ≡ false
      → with_word (number p) (word p) (cut_at n k ps) ≡ record { number = number p; words = word p ∷ [] } ∷ cut_at n k ps
  parts p n k ps e = rw e refl

  same : (a b : ℕ) → (a == b) ≡ true → a ≡ b
  same a b e = grind (arith, nat_tests, e)

  -- a piece more of the line
  run_more : (n : ℕ) (q : P) (ps : List P) → (number q == n) ≡ true → run n (q ∷ ps) ≡ suc (run n ps)
  run_more n q ps e = rw e (omega arith)

  run_none : (n : ℕ) (q : P) (ps : List P) → (number q == n) ≡ false → run n (q ∷ ps) ≡ 0
  run_none n q ps e = rw e refl

  by_next : (p q : P) (ps : List P) (b : Bool) → (number q == number p) ≡ b
      → lines_of number word (q ∷ ps) ≡ cut_at (number q) (suc (run (number q) ps)) (q ∷ ps)
      → lines_of number word (p ∷ q ∷ ps) ≡ cut_at (number p) (suc (run (number p) (q ∷ ps))) (p ∷ q ∷ ps)
  by_next p q ps true e cut =
      ap (with_word (number p) (word p)) cut
      ∙ joins p (number q) (suc (run (number q) ps)) (q ∷ ps) true e refl
      ∙ ap (λ n. cut_at (number p) (suc (suc (run n ps))) (p ∷ q ∷ ps)) (same (number q) (number p) e)
      ∙ ap (λ k. cut_at (number p) (suc k) (p ∷ q ∷ ps)) (sym (run_more (number p) q ps e))
  by_next p q ps false e cut =
      ap (with_word (number p) (word p)) cut
      ∙ parts p (number q) (suc (run (number q) ps)) (q ∷ ps) e
      ∙ ap (λ ls. record { number = number p; words = word p ∷ [] } ∷ ls) (sym cut)
      ∙ ap (λ k. cut_at (number p) (suc k) (p ∷ q ∷ ps)) (sym (run_none (number p) q ps e))

  -- the lines begin with that of the first piece, which has those from it on that have its number
  pub first_line : (p : P) (ps : List P) → lines_of number word (p ∷ ps) ≡ cut_at (number p) (suc (run (number p) ps)) (p ∷ ps)
  first_line p [] = refl
  first_line p (q ∷ ps) = by_next p q ps (number q == number p) refl (first_line q ps)

  -- the same from a place on
  pub next_line : (ps : List P) (d : P) → 0 < length ps
      → lines_of number word ps ≡ cut_at (number (get_or ps 0 d)) (run (number (get_or ps 0 d)) ps) ps
  next_line [] d some = absurd (omega arith)
  next_line (p ∷ ps) d some = first_line p ps ∙ ap (λ k. cut_at (number p) k (p ∷ ps)) (sym (run_more (number p) p ps (itself (number p))))
    where
      itself : (a : ℕ) → (a == a) ≡ true
      itself a = grind (arith, nat_tests)

  -- the lines of the pieces from a place on begin with the line of the piece there
  pub lines_at : (ps : List P) (at n : ℕ) (d : P) → at < length ps
      → n ≡ run (number (get_or ps at d)) (take (length ps - at) (drop at ps))
      → lines_of number word (drop at ps)
      ≡ record { number = number (get_or ps at d); words = map word (take (at + n - at) (drop at ps)) } ∷ lines_of number word (drop (at + n) ps)
  lines_at ps at n d lt count =
      let here : get_or (drop at ps) 0 d ≡ get_or ps at d = get_or-drop at ps 0 d ∙ ap (λ k. get_or ps k d) (add-zero at) in
      let some : 0 < length (drop at ps) = omega (arith, length-drop at ps) in
      let whole : take (length ps - at) (drop at ps) ≡ drop at ps = take_rest ps at in
      let same : n ≡ run (number (get_or ps at d)) (drop at ps) = count ∙ ap (run (number (get_or ps at d))) whole in
      let size : n ≡ at + n - at = omega arith in
      next_line (drop at ps) d some
      ∙ ap (λ (q : P). cut_at (number q) (run (number q) (drop at ps)) (drop at ps)) here
      ∙ ap (λ k. cut_at (number (get_or ps at d)) k (drop at ps)) (sym same)
      ∙ ap (λ qs. record { number = number (get_or ps at d); words = map word (take n (drop at ps)) } ∷ lines_of number word qs) (drop-drop n at ps)
      ∙ ap (λ k. record { number = number (get_or ps at d); words = map word (take k (drop at ps)) } ∷ lines_of number word (drop (at + n) ps)) size

  -- no lines are left at the end
  pub lines_end : (ps : List P) (at : ℕ) → length ps ≤ at → lines_of number word (drop at ps) ≡ []
  lines_end ps at le = ap (lines_of number word) (drop_all at ps le)
