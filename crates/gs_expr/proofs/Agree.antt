-- The machine of tables is the machine of trees, each tree seen as its table.

use Rattle.std.proofs.Common.{◌≡◌, ◌∙◌, sym, ap, refl, ℕ, zero, suc, Bool, true, false, not, nat_lt, List, [], ◌∷◌, length, map, Option, Some, None, Result, Ok, Err}
use Rattle.std.specs.Prelude.{bit_and, bit_or, bit_xor, option_map}
use Rattle.std.proofs.lemmas.List.{length-map}
use lib.Bits.{xor_assoc, xor_self, xor_zero_r}
use Rattle.gs_grammar.specs.Machine.{run, go_on}
use Rattle.gs_expr.specs.Machine.{column, ones, name_symbol, leaf_symbol, symbol, flip, flip_if, joined, parity_with, product_with, sum_with, Tables, begin, follow, go_at, go_lexeme}
use Rattle.gs_expr.specs.Machine.{at as at_tables, entered as entered_tables, left as left_tables, after_star as tables_after_star}
use Rattle.gs_expr.specs.Token.{Leaf, low, high, pin, Token, operand, bang, tick, star, caret, plus, opens, closes, other, Lexeme}
use Rattle.gs_expr.specs.Tree.{Or, just_and, plus_of, And, just_xor, star_of, beside, Xor, just_not, caret_of, Not, just_post, bang_of, Post, leaf, group, tick_of}
use Rattle.gs_expr.specs.Truth.{place_of}
use Rattle.gs_expr.specs.declared.error.StepErr.{StepErr}
use Rattle.gs_expr.specs.declared.table.Waits.{Waits}
use Rattle.gs_expr.proofs.Trees.{Factors, no_factor, before_star, next_to, Frame, Place, want, have, State, with_bangs, xor_with, and_with, or_with, xor_of, and_of, or_of, after_none, limit, entered, wants, left, has, step_at, step}

-- ---- tables of trees

abbrev pub name_table : Option ℕ → ℕ
name_table (Some j) = column j
name_table None = 0

abbrev pub leaf_table : List (List ℕ) → Leaf → ℕ
leaf_table names low = 0
leaf_table names high = ones
leaf_table names (pin text) = name_table (place_of names text)

abbrev mutual
  pub or_table : List (List ℕ) → Or → ℕ
  or_table names (just_and a) = and_table names a
  or_table names (plus_of o a) = bit_or (or_table names o) (and_table names a)

  pub and_table : List (List ℕ) → And → ℕ
  and_table names (just_xor x) = xor_table names x
  and_table names (star_of a x) = bit_and (and_table names a) (xor_table names x)
  and_table names (beside a x) = bit_and (and_table names a) (xor_table names x)

  pub xor_table : List (List ℕ) → Xor → ℕ
  xor_table names (just_not n) = not_table names n
  xor_table names (caret_of x n) = bit_xor (xor_table names x) (not_table names n)

  pub not_table : List (List ℕ) → Not → ℕ
  not_table names (just_post p) = post_table names p
  not_table names (bang_of n) = flip (not_table names n)

  pub post_table : List (List ℕ) → Post → ℕ
  post_table names (leaf l) = leaf_table names l
  post_table names (group o) = or_table names o
  post_table names (tick_of p) = flip (post_table names p)

-- whether a number is odd
abbrev odd : ℕ → Bool
odd zero = false
odd (suc k) = not (odd k)

-- the machine of trees on lexemes
abbrev pub step_lexeme : State → Lexeme → Result State StepErr
step_lexeme s l = step limit s l.token

module _ (names : List (List ℕ)) where
  abbrev factors_table : Factors → Option ℕ
  factors_table no_factor = None
  factors_table (before_star a) = Some (and_table names a)
  factors_table (next_to a) = Some (and_table names a)

  abbrev pub waits_of : Frame → Waits
  waits_of f = record {
    sum = option_map (or_table names) f.sum;
    product = factors_table f.factors;
    parity = option_map (xor_table names) f.parity;
    flips = odd f.bangs;
  }

  abbrev pub operand_of : Place → Option ℕ
  operand_of want = None
  operand_of (have p) = Some (post_table names p)

  -- a state with each tree as its table
  abbrev pub shown : State → Tables
  shown s = at_tables (operand_of s.place) (waits_of s.frame) (map waits_of s.outer)

  abbrev shown_step : Result State StepErr → Result Tables StepErr
  shown_step (Ok s) = Ok (shown s)
  shown_step (Err e) = Err e

  abbrev pub shown_run : Result State (StepErr × List Lexeme) → Result Tables (StepErr × List Lexeme)
  shown_run (Ok s) = Ok (shown s)
  shown_run (Err e) = Err e

  -- ---- the tables that an operand ends

  twice : (v : ℕ) → flip (flip v) ≡ v
  twice v = xor_assoc v ones ones ∙ ap (bit_xor v) (xor_self ones) ∙ xor_zero_r v

  once_more : (b : Bool) (v : ℕ) → flip (flip_if b v) ≡ flip_if (not b) v
  once_more true v = twice v
  once_more false v = refl

  bangs_same : (k : ℕ) (p : Post) → not_table names (with_bangs k (just_post p)) ≡ flip_if (odd k) (post_table names p)
  bangs_same zero p = refl
  bangs_same (suc k) p = ap flip (bangs_same k p) ∙ once_more (odd k) (post_table names p)

  xor_joined : (x : Option Xor) (n : Not) → xor_table names (xor_with x n) ≡ joined bit_xor (option_map (xor_table names) x) (not_table names n)
  xor_joined None n = refl
  xor_joined (Some x) n = refl

  and_joined : (g : Factors) (x : Xor) → and_table names (and_with g x) ≡ joined bit_and (factors_table g) (xor_table names x)
  and_joined no_factor x = refl
  and_joined (before_star a) x = refl
  and_joined (next_to a) x = refl

  or_joined : (o : Option Or) (a : And) → or_table names (or_with o a) ≡ joined bit_or (option_map (or_table names) o) (and_table names a)
  or_joined None a = refl
  or_joined (Some o) a = refl

  xor_same : (f : Frame) (p : Post) → xor_table names (xor_of f p) ≡ parity_with (waits_of f) (post_table names p)
  xor_same f p = xor_joined f.parity (with_bangs f.bangs (just_post p)) ∙ ap (joined bit_xor (option_map (xor_table names) f.parity)) (bangs_same f.bangs p)

  and_same : (f : Frame) (p : Post) → and_table names (and_of f p) ≡ product_with (waits_of f) (post_table names p)
  and_same f p = and_joined f.factors (xor_of f p) ∙ ap (joined bit_and (factors_table f.factors)) (xor_same f p)

  pub or_same : (f : Frame) (p : Post) → or_table names (or_of f p) ≡ sum_with (waits_of f) (post_table names p)
  or_same f p = or_joined f.sum (and_of f p) ∙ ap (joined bit_or (option_map (or_table names) f.sum)) (and_same f p)

  -- ---- the steps

  name_begins : (o : Option ℕ) (w : Waits) (ws : List Waits) → begin w ws (name_symbol o) ≡ Ok (at_tables (Some (name_table o)) w ws)
  name_begins (Some j) w ws = refl
  name_begins None w ws = refl

  leaf_begins : (l : Leaf) (w : Waits) (ws : List Waits) → begin w ws (leaf_symbol names l) ≡ Ok (at_tables (Some (leaf_table names l)) w ws)
  leaf_begins low w ws = refl
  leaf_begins high w ws = refl
  leaf_begins (pin text) w ws = name_begins (place_of names text) w ws

  name_follows : (o : Option ℕ) (v : ℕ) (w : Waits) (ws : List Waits) → follow v w ws (name_symbol o) ≡ begin (tables_after_star w v) ws (name_symbol o)
  name_follows (Some j) v w ws = refl
  name_follows None v w ws = refl

  leaf_follows : (l : Leaf) (v : ℕ) (w : Waits) (ws : List Waits) → follow v w ws (leaf_symbol names l) ≡ begin (tables_after_star w v) ws (leaf_symbol names l)
  leaf_follows low v w ws = refl
  leaf_follows high v w ws = refl
  leaf_follows (pin text) v w ws = name_follows (place_of names text) v w ws

  entered_shown : (b : Bool) (f : Frame) (fs : List Frame) → entered_tables b (waits_of f) (map waits_of fs) ≡ shown_step (entered b f fs)
  entered_shown true f fs = refl
  entered_shown false f fs = refl

  enters_shown : (f : Frame) (fs : List Frame) → entered_tables (nat_lt (length (map waits_of fs)) 64) (waits_of f) (map waits_of fs) ≡ shown_step (entered (nat_lt (length fs) 64) f fs)
  enters_shown f fs = ap (λ n. entered_tables (nat_lt n 64) (waits_of f) (map waits_of fs)) (length-map fs waits_of) ∙ entered_shown (nat_lt (length fs) 64) f fs

  wants_shown : (f : Frame) (fs : List Frame) (t : Token) → begin (waits_of f) (map waits_of fs) (symbol names t) ≡ shown_step (wants limit f fs t)
  wants_shown f fs (operand l) = leaf_begins l (waits_of f) (map waits_of fs)
  wants_shown f fs bang = refl
  wants_shown f fs tick = refl
  wants_shown f fs star = refl
  wants_shown f fs caret = refl
  wants_shown f fs plus = refl
  wants_shown f fs opens = enters_shown f fs
  wants_shown f fs closes = refl
  wants_shown f fs other = refl

  left_shown : (f : Frame) (p : Post) (fs : List Frame) → left_tables (sum_with (waits_of f) (post_table names p)) (map waits_of fs) ≡ shown_step (left (group (or_of f p)) fs)
  left_shown f p [] = refl
  left_shown f p (g ∷ fs) = ap (λ v. Ok (at_tables (Some v) (waits_of g) (map waits_of fs))) (sym (or_same f p))

  -- a product goes on
  star_shown : (f : Frame) (p : Post) → tables_after_star (waits_of f) (post_table names p) ≡ waits_of (after_none f p)
  star_shown f p = ap (λ v. record { sum = option_map (or_table names) f.sum; product = Some v; parity = None; flips = false }) (sym (and_same f p))

  beside_shown : (f : Frame) (p : Post) (fs : List Frame) (t : Token)
      → begin (tables_after_star (waits_of f) (post_table names p)) (map waits_of fs) (symbol names t) ≡ shown_step (wants limit (after_none f p) fs t)
  beside_shown f p fs t = ap (λ w. begin w (map waits_of fs) (symbol names t)) (star_shown f p) ∙ wants_shown (after_none f p) fs t

  has_shown : (p : Post) (f : Frame) (fs : List Frame) (t : Token) → follow (post_table names p) (waits_of f) (map waits_of fs) (symbol names t) ≡ shown_step (has limit p f fs t)
  has_shown p f fs (operand l) = leaf_follows l (post_table names p) (waits_of f) (map waits_of fs) ∙ beside_shown f p fs (operand l)
  has_shown p f fs bang = beside_shown f p fs bang
  has_shown p f fs tick = refl
  has_shown p f fs star = ap (λ w. Ok (at_tables None w (map waits_of fs))) (star_shown f p)
  has_shown p f fs caret =
      ap (λ v. Ok (at_tables None (record { sum = option_map (or_table names) f.sum; product = factors_table f.factors; parity = Some v; flips = false }) (map waits_of fs))) (sym (xor_same f p))
  has_shown p f fs plus =
      ap (λ v. Ok (at_tables None (record { sum = Some v; product = None; parity = None; flips = false }) (map waits_of fs))) (sym (or_same f p))
  has_shown p f fs opens = beside_shown f p fs opens
  has_shown p f fs closes = left_shown f p fs
  has_shown p f fs other = refl

  shown_at : (p : Place) (f : Frame) (fs : List Frame) (t : Token) → go_at (operand_of p) (waits_of f) (map waits_of fs) (symbol names t) ≡ shown_step (step_at limit p f fs t)
  shown_at want f fs t = wants_shown f fs t
  shown_at (have p) f fs t = has_shown p f fs t

  -- ---- the runs

  go_on_shown : (r : Result State StepErr) (ls : List Lexeme) (ms : List Lexeme)
      → ((m : State) → run (go_lexeme names) (shown m) ms ≡ shown_run (run step_lexeme m ms))
      → go_on (shown_step r) ls (λ next. run (go_lexeme names) next ms) ≡ shown_run (go_on r ls (λ next. run step_lexeme next ms))
  go_on_shown (Ok m) ls ms later = later m
  go_on_shown (Err e) ls ms later = refl

  pub run_shown : (s : State) (ls : List Lexeme) → run (go_lexeme names) (shown s) ls ≡ shown_run (run step_lexeme s ls)
  unfolding run
  run_shown s [] = refl
  run_shown s (l ∷ ls) =
      ap (λ r. go_on r (l ∷ ls) (λ next. run (go_lexeme names) next ls)) (shown_at s.place s.frame s.outer l.token)
      ∙ go_on_shown (step_lexeme s l) (l ∷ ls) ls (λ m. run_shown m ls)
