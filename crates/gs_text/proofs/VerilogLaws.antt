-- What begins at a byte of a Verilog text.
use Rattle.std.proofs.Common.{◌≡◌, ◌≢◌, ◌⊎◌, ◌∙◌, ap, refl, ℕ, zero, suc, ◌+◌, ◌-◌, ◌<◌, ◌≤◌, ◌==◌, ◌&&◌, nat_lt, slice_index, get_or, length-drop, Bool, true, false, cond, List, [], ◌∷◌, length, drop, arith, inl, inr, subst}
use Rattle.std.specs.List.{prefix_len}
use Rattle.std.proofs.lemmas.Bool.Decides.{nat_tests}
use Rattle.std.proofs.lemmas.Bool.{cases_lt}
use Rattle.std.proofs.lemmas.List.{get_or_past, get_or-drop}
use Rattle.std.proofs.lemmas.List.Sums.{prefix_len-le-length, prefix_len_passes, prefix_len_stops}
use Rattle.gs_text.proofs.Says.{Says, IsFound, IsPassed, CommentSays, Free, either, after_first, solid_run, a_mark, rest_of_line, comment_says}
use Rattle.gs_text.proofs.Until.{until-le-length, run-ends}
use Rattle.gs_text.specs.Bytes.{is_white, is_digit, is_word_byte}
use Rattle.gs_text.specs.Comments.{comment_front}
use Rattle.gs_text.specs.Runs.{until, is_blank, is_newline, opens_comment, opens_line_comment}
use Rattle.gs_text.specs.Verilog.{verilog_front, escaped_front, word_len, index_len, closed_len}
use Rattle.gs_text.specs.Whole.{IsLoneByte, IsVerilogWord}
use Rattle.gs_text.specs.declared.kinds.Kind.TheVariants.{Word}
use Rattle.gs_text.specs.declared.kinds.Style.TheVariants.{Verilog}
use Rattle.gs_text.specs.declared.scan.Front.{Front}
use Rattle.gs_text.specs.declared.scan.Front.TheVariants.{Gap, Found, Passed, OpenString, OpenComment}

by_test : (b : Bool) (n m : ℕ) → (b ≡ true → n + 1 ≤ m) → cond b (n + 1) 0 ≤ m
by_test true n m le = le refl
by_test false n m le = omega arith

bracket_within : (n : ℕ) (bs : List ℕ) → n ≤ length bs → nat_lt 0 n && slice_index bs n == 93 ≡ true → n + 1 ≤ length bs
bracket_within n bs le e = grind (arith, nat_tests, get_or_past {X = ℕ})

closed_len-fits : (bs : List ℕ) → closed_len bs ≤ length bs
closed_len-fits bs =
    let n : ℕ = prefix_len is_digit bs in
    by_test (nat_lt 0 n && slice_index bs n == 93) n (length bs) (bracket_within n bs (prefix_len-le-length is_digit bs))

at_most : (b : Bool) (m n : ℕ) → m ≤ n → cond b m 0 ≤ n
at_most true m n le = le
at_most false m n le = omega arith

index_len-fits : (bs : List ℕ) → index_len bs ≤ length bs
index_len-fits [] = omega arith
index_len-fits (c ∷ cs) = at_most (c == 91 && nat_lt 0 (closed_len cs)) (closed_len cs + 1) (suc (length cs)) (omega (arith, closed_len-fits cs))

pub word_len-fits : (cs : List ℕ) → word_len cs ≤ length cs
word_len-fits cs =
    let run : prefix_len is_word_byte cs ≤ length cs = prefix_len-le-length is_word_byte cs in
    let index : index_len (drop (prefix_len is_word_byte cs) cs) ≤ length cs - prefix_len is_word_byte cs =
    rw (length-drop (prefix_len is_word_byte cs) cs) at (index_len-fits (drop (prefix_len is_word_byte cs) cs)) in
    omega arith

digit_in_word : (c : ℕ) → is_digit c ≡ true → is_word_byte c ≡ true
digit_in_word c e = grind (arith, nat_tests)

opening_is : (c n : ℕ) → c == 91 && nat_lt 0 n ≡ true → 91 ≡ c
opening_is c n e = grind (arith, nat_tests)

closing_is : (c n : ℕ) → nat_lt 0 n && c == 93 ≡ true → 93 ≡ c
closing_is c n e = grind (arith, nat_tests)

-- a test that holds of no byte of a word holds of none in a word with its index
module _ (test : ℕ → Bool) (word : (c : ℕ) → is_word_byte c ≡ true → test c ≡ false) (opening : test 91 ≡ false) (closing : test 93 ≡ false) where
  free_by : (b : Bool) (n : ℕ) (bs : List ℕ) → (b ≡ true → Free test n bs) → Free test (cond b n 0) bs
  free_by true n bs s = s refl
  free_by false n bs s = λ k lt. absurd (omega arith)

  abbrev Passed_at : ℕ → Type 0
  Passed_at c = test c ≡ false

  closed_len-free : (bs : List ℕ) → Free test (closed_len bs) bs
  closed_len-free bs =
      let n : ℕ = prefix_len is_digit bs in
      free_by (nat_lt 0 n && slice_index bs n == 93) (n + 1) bs
      (λ e k lt. elim (cases_lt k n) [
        | inl l ↦ word (get_or bs k 0) (digit_in_word (get_or bs k 0) (prefix_len_passes is_digit bs k 0 l))
        | inr g ↦
            let at : n ≡ k = omega arith in
            let P : ℕ → Type 0 = λ i. test (get_or bs i 0) ≡ false in
            subst P at (subst Passed_at (closing_is (get_or bs n 0) n e) closing)
      ])

  index_len-free : (bs : List ℕ) → Free test (index_len bs) bs
  index_len-free [] = λ k lt. absurd (omega arith)
  index_len-free (c ∷ cs) =
      free_by (c == 91 && nat_lt 0 (closed_len cs)) (closed_len cs + 1) (c ∷ cs)
      (λ e. after_first test c (closed_len cs) cs (subst Passed_at (opening_is c (closed_len cs) e) opening) (closed_len-free cs))

  pub word_len-free : (cs : List ℕ) → Free test (word_len cs) cs
  word_len-free cs = λ k lt.
      let n : ℕ = prefix_len is_word_byte cs in
      elim (cases_lt k n) [
        | inl l ↦ word (get_or cs k 0) (prefix_len_passes is_word_byte cs k 0 l)
        | inr g ↦
            let past : k - n < index_len (drop n cs) = omega arith in
            let at : n + (k - n) ≡ k = omega arith in
            subst Passed_at (get_or-drop n cs (k - n) 0 ∙ ap (λ i. get_or cs i 0) at) (index_len-free (drop n cs) (k - n) past)
      ]

word_byte-solid : (c : ℕ) → is_word_byte c ≡ true → is_white c ≡ false
word_byte-solid c e = grind (arith, nat_tests)

pub word-stops : (cs : List ℕ) → is_word_byte (get_or cs (prefix_len is_word_byte cs) 0) ≡ false
word-stops cs = elim (cases_lt (prefix_len is_word_byte cs) (length cs)) [
  | inl lt ↦ prefix_len_stops is_word_byte cs 0 lt
  | inr le ↦ ap is_word_byte (get_or_past cs (prefix_len is_word_byte cs) 0 le)
]

-- all bytes of words that follow one another, and the index after them
whole_word : (c : ℕ) (cs : List ℕ) → is_word_byte c ≡ true → IsVerilogWord (word_len cs + 1) (c ∷ cs)
whole_word c cs e = record {
  run = suc (prefix_len is_word_byte cs);
  some = omega arith;
  inside = inside;
  whole = word-stops cs;
  index = omega arith;
}
  where
    inside : (k : ℕ) → k < suc (prefix_len is_word_byte cs) → is_word_byte (slice_index (c ∷ cs) k) ≡ true
    inside zero lt = e
    inside (suc k) lt = prefix_len_passes is_word_byte cs k 0 (omega arith)

a_word : (braced begun : Bool) (c : ℕ) (cs : List ℕ) → is_word_byte c ≡ true → IsFound Verilog braced begun Word (word_len cs + 1) (c ∷ cs)
a_word braced begun c cs e = record {
  room = omega arith;
  some = omega arith;
  within = omega (arith, word_len-fits cs);
  solid = after_first is_white c (word_len cs) cs (word_byte-solid c e) (word_len-free is_white word_byte-solid refl refl cs);
  whole = whole_word c cs e;
}

-- an escaped name
blank-white : (c next : ℕ) → is_blank c next ≡ false → is_white c ≡ false
blank-white c next e = e

backslash : (c : ℕ) → c == 92 ≡ true → c ≡ 92
backslash c e = grind (arith, nat_tests)

lt_true : (n : ℕ) → nat_lt 0 n ≡ true → 0 < n
lt_true n e = grind (arith, nat_tests)

lt_false : (n : ℕ) → nat_lt 0 n ≡ false → n ≡ 0
lt_false n e = grind (arith, nat_tests)

-- a backslash with nothing after it but white or the end
alone : (c : ℕ) (cs : List ℕ) → until is_blank cs ≡ 0 → (length (c ∷ cs) ≡ 1) ⊎ (is_white (slice_index (c ∷ cs) 1) ≡ true)
alone c cs none = elim (run-ends is_blank c cs) [
  | inl e ↦ inl (omega arith)
  | inr e ↦
      let at : until is_blank cs + 1 ≡ 1 = omega arith in
      let P : ℕ → Type 0 = λ i. is_white (slice_index (c ∷ cs) i) ≡ true in
      inr (subst P at e)
]

-- a byte that begins nothing else
lone : (c : ℕ) (cs : List ℕ) → is_white c ≡ false → is_word_byte c ≡ false → opens_line_comment c (slice_index cs 0) ≡ false → opens_comment c (slice_index cs 0) ≡ false
    → (c ≡ 92 → (length (c ∷ cs) ≡ 1) ⊎ (is_white (slice_index (c ∷ cs) 1) ≡ true)) → IsLoneByte (c ∷ cs)
lone c cs solid apart line comment alone = record { solid = solid; apart = apart; line_comment = line; comment = comment; alone = alone }

no_backslash : (c : ℕ) → c == 92 ≡ false → c ≢ 92
no_backslash c e f = grind (arith, nat_tests)

an_escaped : (braced begun : Bool) (c : ℕ) (cs : List ℕ) → is_white c ≡ false → c == 92 ≡ true → ((c ≡ 92 → (length (c ∷ cs) ≡ 1) ⊎ (is_white (slice_index (c ∷ cs) 1) ≡ true)) → IsLoneByte (c ∷ cs))
    → Says Verilog braced begun (c ∷ cs) (escaped_front cs)
an_escaped braced begun c cs solid e mark = either (Says Verilog braced begun (c ∷ cs)) (nat_lt 0 (until is_blank cs)) _ _
    (λ some. record {
      room = omega arith;
      some = omega arith;
      within = omega (arith, until-le-length is_blank cs);
      solid = (omega (arith, lt_true (until is_blank cs) some), solid_run is_blank blank-white c cs solid);
      whole = record {
        backslash = backslash c e;
        some = omega (arith, lt_true (until is_blank cs) some);
        inside = solid_run is_blank blank-white c cs solid;
        whole = run-ends is_blank c cs;
      };
    })
    (λ none. a_mark Verilog braced begun c cs solid (mark (λ _. alone c cs (lt_false (until is_blank cs) none))))

-- comments
slashes : (c d : ℕ) → opens_line_comment c d ≡ true → (c ≡ 47) × (d ≡ 47)
slashes c d e = (grind (arith, nat_tests), grind (arith, nat_tests))

slash_star : (c d : ℕ) → opens_comment c d ≡ true → (c ≡ 47) × (d ≡ 42)
slash_star c d e = (grind (arith, nat_tests), grind (arith, nat_tests))

not_ten : (c : ℕ) → c ≡ 47 → c ≢ 10
not_ten c e f = omega (arith, e, f)

line_comment : (braced : Bool) (c : ℕ) (cs : List ℕ) → opens_line_comment c (slice_index cs 0) ≡ true → IsPassed Verilog (until is_newline cs + 1) (c ∷ cs)
line_comment braced c cs e =
    let b : (c ≡ 47) × (slice_index cs 0 ≡ 47) = slashes c (slice_index cs 0) e in
    record {
      some = omega arith;
      within = omega (arith, until-le-length is_newline cs);
      skipped = inl (record { slash = b.0; slashes = b.1; rest = rest_of_line c cs (not_ten c b.0) });
    }

by_comment : (braced begun : Bool) (bs : List ℕ) (f : Front) → CommentSays bs f → Says Verilog braced begun bs f
by_comment braced begun bs Gap s = absurd s
by_comment braced begun bs (Found kind len) s = absurd s
by_comment braced begun bs (Passed len) s = record { some = s.0; within = s.1; skipped = inr s.2 }
by_comment braced begun bs OpenString s = absurd s
by_comment braced begun bs OpenComment s = s

a_comment : (braced begun : Bool) (c : ℕ) (cs : List ℕ) → opens_comment c (slice_index cs 0) ≡ true → Says Verilog braced begun (c ∷ cs) (comment_front (drop 1 cs))
a_comment braced begun c [] e = absurd (omega (arith, (slash_star c 0 e).1))
a_comment braced begun c (d ∷ ds) e =
    let b : (c ≡ 47) × (d ≡ 42) = slash_star c d e in
    by_comment braced begun (c ∷ d ∷ ds) (comment_front ds) (comment_says c d ds b.0 b.1)

pub verilog-says : (braced begun : Bool) (c : ℕ) (cs : List ℕ) → Says Verilog braced begun (c ∷ cs) (verilog_front c cs)
verilog-says braced begun c cs =
    let P : Front → Type 0 = Says Verilog braced begun (c ∷ cs) in
    either P (is_white c) _ _ (λ e. e)
    (λ solid. either P (is_word_byte c) _ _ (λ e. a_word braced begun c cs e)
    (λ apart. either P (opens_line_comment c (slice_index cs 0)) _ _ (λ e. line_comment braced c cs e)
    (λ line. either P (opens_comment c (slice_index cs 0)) _ _ (λ e. a_comment braced begun c cs e)
    (λ comment. either P (c == 92) _ _ (λ e. an_escaped braced begun c cs solid e (lone c cs solid apart line comment))
    (λ other. a_mark Verilog braced begun c cs solid (lone c cs solid apart line comment (λ e. absurd (no_backslash c other e))))))))
