-- What begins at a byte of a Liberty text.
use Rattle.std.proofs.Common.{◌≡◌, ◌≢◌, ◌∙◌, ap, refl, ℕ, suc, ◌+◌, ◌-◌, ◌<◌, ◌≤◌, ◌==◌, nat_lt, slice_index, get_or, Bool, true, false, List, [], ◌∷◌, length, drop, arith, inl, inr}
use Rattle.std.proofs.lemmas.Bool.Decides.{nat_tests}
use Rattle.gs_text.proofs.Says.{Says, IsFound, IsPassed, CommentSays, either, solid_run, a_mark, comment_says}
use Rattle.gs_text.proofs.Until.{until-le-length, until-at, run-ends, run-before, run-inside}
use Rattle.gs_text.specs.Bytes.{is_white, is_liberty_mark}
use Rattle.gs_text.specs.Comments.{comment_front}
use Rattle.gs_text.specs.Liberty.{liberty_front, string_front, ends_liberty_word}
use Rattle.gs_text.specs.Runs.{until, is_quote, continues, opens_comment}
use Rattle.gs_text.specs.declared.kinds.Kind.TheVariants.{Word}
use Rattle.gs_text.specs.declared.kinds.Style.TheVariants.{Lib}
use Rattle.gs_text.specs.declared.scan.Front.{Front}
use Rattle.gs_text.specs.declared.scan.Front.TheVariants.{Gap, Found, Passed, OpenString, OpenComment}

not_end : (c next : ℕ) → ends_liberty_word c next ≡ false → is_white c ≡ false
not_end c next e = grind (arith, nat_tests)

goes_on : (c next : ℕ) → is_white c ≡ false → continues c next ≡ false → c == 34 ≡ false → is_liberty_mark c ≡ false → opens_comment c next ≡ false → ends_liberty_word c next ≡ false
goes_on c next white joined quote mark comment = grind (arith, nat_tests)

a_word : (braced begun : Bool) (c : ℕ) (cs : List ℕ) → is_white c ≡ false → ends_liberty_word c (slice_index cs 0) ≡ false → IsFound Lib braced begun Word (until ends_liberty_word cs + 1) (c ∷ cs)
a_word braced begun c cs solid first = record {
  room = omega arith;
  some = omega arith;
  within = omega (arith, until-le-length ends_liberty_word cs);
  solid = solid_run ends_liberty_word not_end c cs solid;
  whole = record { inside = run-inside ends_liberty_word c cs first; whole = run-ends ends_liberty_word c cs };
}

-- strings
is_quote_byte : (c : ℕ) → is_quote c 0 ≡ true → c ≡ 34
is_quote_byte c e = grind (arith, nat_tests)

not_quote : (c : ℕ) → is_quote c 0 ≡ false → c ≢ 34
not_quote c e f = grind (arith, nat_tests)

lt_true : (m n : ℕ) → nat_lt m n ≡ true → m < n
lt_true m n e = grind (arith, nat_tests)

lt_false : (m n : ℕ) → nat_lt m n ≡ false → n ≤ m
lt_false m n e = grind (arith, nat_tests)

a_string : (braced begun : Bool) (c : ℕ) (cs : List ℕ) → c == 34 ≡ true → Says Lib braced begun (c ∷ cs) (string_front cs)
a_string braced begun c cs q =
    let n : ℕ = until is_quote cs in
    let free : (k : ℕ) → 0 < k → k < n + 1 → slice_index (c ∷ cs) k ≢ 34 = λ k some lt. not_quote (slice_index (c ∷ cs) k) (run-before is_quote c cs k some lt) in
    either (Says Lib braced begun (c ∷ cs)) (nat_lt n (length cs)) _ _
    (λ e.
    let lt : n < length cs = lt_true n (length cs) e in
    let at : n + 2 - 1 ≡ suc n = omega arith in
    record {
      room = omega arith;
      some = omega arith;
      within = omega arith;
      solid = tt;
      whole = record {
        size = omega arith;
        opens = is_quote_byte c q;
        closes = ap (λ i. get_or (c ∷ cs) i 0) at ∙ is_quote_byte (get_or cs n 0) (until-at is_quote cs lt);
        inside = λ k some more. free k some (omega arith);
      };
    })
    (λ e.
    let ge : length cs ≤ n = lt_false n (length cs) e in
    record { quote = is_quote_byte c q; none = λ k some lt. free k some (omega arith) })

-- comments and continued line ends
slash_star : (c d : ℕ) → opens_comment c d ≡ true → (c ≡ 47) × (d ≡ 42)
slash_star c d e = (grind (arith, nat_tests), grind (arith, nat_tests))

pub continued : (c d : ℕ) → continues c d ≡ true → (c ≡ 92) × (d ≡ 10)
continued c d e = (grind (arith, nat_tests), grind (arith, nat_tests))

by_comment : (braced begun : Bool) (bs : List ℕ) (f : Front) → CommentSays bs f → Says Lib braced begun bs f
by_comment braced begun bs Gap s = absurd s
by_comment braced begun bs (Found kind len) s = absurd s
by_comment braced begun bs (Passed len) s = record { some = s.0; within = s.1; skipped = inl s.2 }
by_comment braced begun bs OpenString s = absurd s
by_comment braced begun bs OpenComment s = s

a_comment : (braced begun : Bool) (c : ℕ) (cs : List ℕ) → opens_comment c (slice_index cs 0) ≡ true → Says Lib braced begun (c ∷ cs) (comment_front (drop 1 cs))
a_comment braced begun c [] e = absurd (omega (arith, (slash_star c 0 e).1))
a_comment braced begun c (d ∷ ds) e =
    let b : (c ≡ 47) × (d ≡ 42) = slash_star c d e in
    by_comment braced begun (c ∷ d ∷ ds) (comment_front ds) (comment_says c d ds b.0 b.1)

pub two_bytes : (c : ℕ) (cs : List ℕ) → continues c (slice_index cs 0) ≡ true → 2 ≤ length (c ∷ cs)
two_bytes c [] e = absurd (omega (arith, (continued c 0 e).1))
two_bytes c (d ∷ ds) e = omega arith

a_continuation : (c : ℕ) (cs : List ℕ) → continues c (slice_index cs 0) ≡ true → IsPassed Lib 2 (c ∷ cs)
a_continuation c cs e = record {
  some = omega arith;
  within = two_bytes c cs e;
  skipped = inr (record { size = refl; backslash = (continued c (slice_index cs 0) e).0; newline = (continued c (slice_index cs 0) e).1 });
}

pub liberty-says : (braced begun : Bool) (c : ℕ) (cs : List ℕ) → Says Lib braced begun (c ∷ cs) (liberty_front c cs)
liberty-says braced begun c cs =
    let P : Front → Type 0 = Says Lib braced begun (c ∷ cs) in
    either P (is_white c) _ _ (λ e. e)
    (λ solid. either P (continues c (slice_index cs 0)) _ _ (λ e. a_continuation c cs e)
    (λ joined. either P (c == 34) _ _ (λ e. a_string braced begun c cs e)
    (λ quote. either P (is_liberty_mark c) _ _ (λ e. a_mark Lib braced begun c cs solid e)
    (λ mark. either P (opens_comment c (slice_index cs 0)) _ _ (λ e. a_comment braced begun c cs e)
    (λ comment. a_word braced begun c cs solid (goes_on c (slice_index cs 0) solid joined quote mark comment))))))
