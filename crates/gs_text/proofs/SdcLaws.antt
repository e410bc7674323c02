-- What begins at a byte of constraints.
use Rattle.std.proofs.Common.{◌≡◌, ◌≢◌, ◌∙◌, ap, refl, ℕ, zero, suc, ◌+◌, ◌-◌, ◌<◌, ◌==◌, ◌&&◌, not, slice_index, get_or, Bool, true, false, cond, List, ◌∷◌, length, arith, inl, inr, sym}
use Rattle.std.proofs.lemmas.Bool.Decides.{nat_tests}
use Rattle.std.proofs.lemmas.Bool.{cases_lt}
use Rattle.std.proofs.lemmas.List.{get_or_past}
use Rattle.gs_text.proofs.LibertyLaws.{continued, two_bytes}
use Rattle.gs_text.proofs.Says.{Says, IsFound, IsPassed, either, solid_run, a_mark, rest_of_line}
use Rattle.gs_text.proofs.Until.{until-le-length, run-ends, run-before, run-inside, until-at, until-before}
use Rattle.gs_text.specs.Bytes.{is_white, is_sdc_mark}
use Rattle.gs_text.specs.Runs.{until, is_newline, continues}
use Rattle.gs_text.specs.Sdc.{sdc_front, braced_front, command_front, quote_front, ends_sdc_word, ends_braced_word, ends_sdc_text}
use Rattle.gs_text.specs.Whole.{IsLoneQuote}
use Rattle.gs_text.specs.declared.kinds.Kind.{Kind}
use Rattle.gs_text.specs.declared.kinds.Kind.TheVariants.{Word, Mark}
use Rattle.gs_text.specs.declared.kinds.Style.TheVariants.{Sdc}
use Rattle.gs_text.specs.declared.scan.Front.{Front}
use Rattle.gs_text.specs.declared.scan.Front.TheVariants.{Gap, Found, Passed, OpenString, OpenComment}

not_braced_end : (c next : ℕ) → ends_braced_word c next ≡ false → is_white c ≡ false
not_braced_end c next e = grind (arith, nat_tests)

not_word_end : (c next : ℕ) → ends_sdc_word c next ≡ false → is_white c ≡ false
not_word_end c next e = grind (arith, nat_tests)

braced_goes_on : (c next : ℕ) → is_white c ≡ false → continues c next ≡ false → c == 125 ≡ false → ends_braced_word c next ≡ false
braced_goes_on c next white joined mark = grind (arith, nat_tests)

word_goes_on : (c next : ℕ) → is_white c ≡ false → continues c next ≡ false → is_sdc_mark c ≡ false → c == 34 ≡ false → ends_sdc_word c next ≡ false
word_goes_on c next white joined mark quote = grind (arith, nat_tests)

begun_by : (c : ℕ) (begun : Bool) → c == 35 && not begun ≡ false → c ≡ 35 → begun ≡ true
begun_by c begun e hash = grind (arith, nat_tests)

braced_word : (begun : Bool) (c : ℕ) (cs : List ℕ) → is_white c ≡ false → ends_braced_word c (slice_index cs 0) ≡ false → IsFound Sdc true begun Word (until ends_braced_word cs + 1) (c ∷ cs)
braced_word begun c cs solid first = record {
  room = omega arith;
  some = omega arith;
  within = omega (arith, until-le-length ends_braced_word cs);
  solid = solid_run ends_braced_word not_braced_end c cs solid;
  whole = record { inside = run-inside ends_braced_word c cs first; whole = run-ends ends_braced_word c cs };
}

command_word : (begun : Bool) (c : ℕ) (cs : List ℕ) → is_white c ≡ false → ends_sdc_word c (slice_index cs 0) ≡ false → (c ≡ 35 → begun ≡ true) → IsFound Sdc false begun Word (until ends_sdc_word cs + 1) (c ∷ cs)
command_word begun c cs solid first hash = record {
  room = omega arith;
  some = omega arith;
  within = omega (arith, until-le-length ends_sdc_word cs);
  solid = solid_run ends_sdc_word not_word_end c cs solid;
  whole = (record { inside = run-inside ends_sdc_word c cs first; whole = run-ends ends_sdc_word c cs }, hash);
}

-- quotes
is_quote_byte : (c : ℕ) → c == 34 ≡ true → c ≡ 34
is_quote_byte c e = grind (arith, nat_tests)

no_text_end : (c : ℕ) → ends_sdc_text c 0 ≡ false → (c ≢ 34) × (c ≢ 10)
no_text_end c e = (λ f. grind (arith, nat_tests), λ f. grind (arith, nat_tests))

quote_within : (n : ℕ) (bs : List ℕ) → get_or bs n 0 ≡ 34 → n < length bs
quote_within n bs e = elim (cases_lt n (length bs)) [
  | inl lt ↦ lt
  | inr le ↦ absurd (zero_is (get_or_past bs n 0 le) e)
]
  where
    zero_is : {x : ℕ} → x ≡ 0 → x ≡ 34 → ⊥
    zero_is z f = omega (arith, z, f)

-- a quote without a partner on its line: where it ends, no quote but a newline stands
text_end : (c : ℕ) → ends_sdc_text c 0 ≡ true → c == 34 ≡ false → c ≡ 10
text_end c e q = grind (arith, nat_tests)

quote_ends : (c : ℕ) → c ≡ 34 → ends_sdc_text c 0 ≡ false → ⊥
quote_ends c q e = grind (arith, nat_tests)

no_quote : (c : ℕ) → c == 34 ≡ false → c ≢ 34
no_quote c e f = grind (arith, nat_tests)

newline_first : (cs : List ℕ) → slice_index cs (until ends_sdc_text cs) == 34 ≡ false → (i : ℕ) → get_or cs i 0 ≡ 34 → (until ends_sdc_text cs < i) × (get_or cs (until ends_sdc_text cs) 0 ≡ 10)
newline_first cs none i q =
    let n : ℕ = until ends_sdc_text cs in
    let within : i < length cs = quote_within i cs q in
    elim (cases_lt i n) [
      | inl lt ↦ absurd (quote_ends (get_or cs i 0) q (until-before ends_sdc_text cs i lt))
      | inr ge ↦
          let ten : get_or cs n 0 ≡ 10 = text_end (get_or cs n 0) (until-at ends_sdc_text cs (omega arith)) none in
          elim (cases_lt n i) [
            | inl lt ↦ (lt, ten)
            | inr le ↦ let same : i ≡ n = omega arith in absurd (no_quote (get_or cs n 0) none (ap (λ k. get_or cs k 0) (sym same) ∙ q))
          ]
    ]

lone_quote : (c : ℕ) (cs : List ℕ) → c == 34 ≡ true → slice_index cs (until ends_sdc_text cs) == 34 ≡ false → IsLoneQuote (c ∷ cs)
lone_quote c cs q none = (is_quote_byte c q, later)
  where
    later : (k : ℕ) → 0 < k → slice_index (c ∷ cs) k ≡ 34 → (j : ℕ) × (j < k) × (slice_index (c ∷ cs) j ≡ 10)
    later zero some e = absurd (omega arith)
    later (suc i) some e =
        let n = newline_first cs none i e in
        (suc (until ends_sdc_text cs), omega (arith, n.0), n.1)

a_quote : (begun : Bool) (c : ℕ) (cs : List ℕ) → is_white c ≡ false → c == 34 ≡ true → Says Sdc false begun (c ∷ cs) (quote_front cs)
a_quote begun c cs solid q =
    let n : ℕ = until ends_sdc_text cs in
    let free : (k : ℕ) → 0 < k → k < n + 1 → (slice_index (c ∷ cs) k ≢ 34) × (slice_index (c ∷ cs) k ≢ 10) = λ k some lt. no_text_end (slice_index (c ∷ cs) k) (run-before ends_sdc_text c cs k some lt) in
    either (Says Sdc false begun (c ∷ cs)) (slice_index cs n == 34) _ _
    (λ e.
    let closes : slice_index cs n ≡ 34 = is_quote_byte (slice_index cs n) e in
    let lt : n < length cs = quote_within n cs closes in
    let at : n + 2 - 1 ≡ suc n = omega arith in
    let last : slice_index (c ∷ cs) (n + 2 - 1) ≡ 34 = ap (λ i. get_or (c ∷ cs) i 0) at ∙ closes in
    record {
      room = omega arith;
      some = omega arith;
      within = omega arith;
      solid = tt;
      whole = (
        record {
          size = omega arith;
          opens = is_quote_byte c q;
          closes = last;
          inside = λ k some more. (free k some (omega arith)).0;
        },
        one_line n closes (λ k some lt. (free k some lt).1),
      );
    })
    (λ none. a_mark Sdc false begun c cs solid (inr (lone_quote c cs q none)))
  where
    not_ten : (x : ℕ) → x ≡ 34 → x ≢ 10
    not_ten x e f = omega (arith, e, f)

    one_line : (n : ℕ) → slice_index cs n ≡ 34 → ((k : ℕ) → 0 < k → k < n + 1 → slice_index (c ∷ cs) k ≢ 10) → (k : ℕ) → k < n + 2 → slice_index (c ∷ cs) k ≢ 10
    one_line n closes free zero lt = not_ten c (is_quote_byte c q)
    one_line n closes free (suc k) lt = elim (cases_lt k n) [
      | inl less ↦ free (suc k) (omega arith) (omega arith)
      | inr more ↦ let same : k ≡ n = omega arith in not_ten (get_or cs k 0) (ap (λ i. get_or cs i 0) same ∙ closes)
    ]

-- comments and continued line ends
hash : (c : ℕ) (begun : Bool) → c == 35 && not begun ≡ true → c ≡ 35
hash c begun e = grind (arith, nat_tests)

not_ten : (c : ℕ) → c ≡ 35 → c ≢ 10
not_ten c e f = omega (arith, e, f)

a_comment : (begun : Bool) (c : ℕ) (cs : List ℕ) → c == 35 && not begun ≡ true → IsPassed Sdc (until is_newline cs + 1) (c ∷ cs)
a_comment begun c cs e = record {
  some = omega arith;
  within = omega (arith, until-le-length is_newline cs);
  skipped = inl (record { hash = hash c begun e; rest = rest_of_line c cs (not_ten c (hash c begun e)) });
}

a_continuation : (c : ℕ) (cs : List ℕ) → continues c (slice_index cs 0) ≡ true → IsPassed Sdc 2 (c ∷ cs)
a_continuation c cs e = record {
  some = omega arith;
  within = two_bytes c cs e;
  skipped = inr (record { size = refl; backslash = (continued c (slice_index cs 0) e).0; newline = (continued c (slice_index cs 0) e).1 });
}

command-says : (begun : Bool) (c : ℕ) (cs : List ℕ) → is_white c ≡ false → continues c (slice_index cs 0) ≡ false → Says Sdc false begun (c ∷ cs) (command_front begun c cs)
command-says begun c cs solid joined =
    let P : Front → Type 0 = Says Sdc false begun (c ∷ cs) in
    either P (c == 35 && not begun) _ _ (λ e. a_comment begun c cs e)
    (λ hash. either P (is_sdc_mark c) _ _ (λ e. a_mark Sdc false begun c cs solid (inl e))
    (λ mark. either P (c == 34) _ _ (λ e. a_quote begun c cs solid e)
    (λ quote. command_word begun c cs solid (word_goes_on c (slice_index cs 0) solid joined mark quote) (begun_by c begun hash))))

closing_brace : (c : ℕ) → c == 125 ≡ true → c ≡ 125
closing_brace c e = grind (arith, nat_tests)

braced-says : (begun : Bool) (c : ℕ) (cs : List ℕ) → is_white c ≡ false → continues c (slice_index cs 0) ≡ false → Says Sdc true begun (c ∷ cs) (braced_front c cs)
braced-says begun c cs solid joined = either (Says Sdc true begun (c ∷ cs)) (c == 125) _ _
    (λ e. a_mark Sdc true begun c cs solid (closing_brace c e))
    (λ other. braced_word begun c cs solid (braced_goes_on c (slice_index cs 0) solid joined other))

by_braces : (braced begun : Bool) (c : ℕ) (cs : List ℕ) → is_white c ≡ false → continues c (slice_index cs 0) ≡ false → Says Sdc braced begun (c ∷ cs) (cond braced (braced_front c cs) (command_front begun c cs))
by_braces true begun c cs solid joined = braced-says begun c cs solid joined
by_braces false begun c cs solid joined = command-says begun c cs solid joined

pub sdc-says : (braced begun : Bool) (c : ℕ) (cs : List ℕ) → Says Sdc braced begun (c ∷ cs) (sdc_front braced begun c cs)
sdc-says braced begun c cs =
    let P : Front → Type 0 = Says Sdc braced begun (c ∷ cs) in
    either P (is_white c) _ _ (λ e. e)
    (λ solid. either P (continues c (slice_index cs 0)) _ _ (λ e. a_continuation c cs e)
    (λ joined. by_braces braced begun c cs solid joined))

-- what is found doesn't end in a backslash directly before a newline
abbrev pub Calm : List ℕ → Front → Type 0
Calm bs Gap = Unit {0}
Calm bs (Found kind len) = slice_index bs (len - 1) ≡ 92 → slice_index bs len ≢ 10
Calm bs (Passed len) = Unit {0}
Calm bs OpenString = Unit {0}
Calm bs OpenComment = Unit {0}

joined : (c d : ℕ) → continues c d ≡ false → c ≡ 92 → d ≢ 10
joined c d e f g = grind (arith, nat_tests)

one_calm : (kind : Kind) (c : ℕ) (cs : List ℕ) → continues c (slice_index cs 0) ≡ false → Calm (c ∷ cs) (Found kind 1)
one_calm kind c cs e = joined c (slice_index cs 0) e

run-calm : (test : ℕ → ℕ → Bool) → ((b next : ℕ) → test b next ≡ false → continues b next ≡ false) → (c : ℕ) (cs : List ℕ) → continues c (slice_index cs 0) ≡ false → Calm (c ∷ cs) (Found Word (until test cs + 1))
run-calm test stops c cs e = by_len (until test cs) refl
  where
    by_len : (n : ℕ) → n ≡ until test cs → slice_index (c ∷ cs) (n + 1 - 1) ≡ 92 → slice_index (c ∷ cs) (n + 1) ≢ 10
    by_len zero is last next = joined c (slice_index cs 0) e last next
    by_len (suc n) is last next =
        let at : suc n + 1 - 1 ≡ suc n = omega arith in
        let free : test (slice_index (c ∷ cs) (suc n)) (slice_index (c ∷ cs) (suc n + 1)) ≡ false = run-before test c cs (suc n) (omega arith) (omega arith) in
        joined (slice_index (c ∷ cs) (suc n)) (slice_index (c ∷ cs) (suc n + 1)) (stops (slice_index (c ∷ cs) (suc n)) (slice_index (c ∷ cs) (suc n + 1)) free) (ap (λ i. slice_index (c ∷ cs) i) (sym at) ∙ last) next

braced_joined : (b next : ℕ) → ends_braced_word b next ≡ false → continues b next ≡ false
braced_joined b next e = grind (arith, nat_tests)

word_joined : (b next : ℕ) → ends_sdc_word b next ≡ false → continues b next ≡ false
word_joined b next e = grind (arith, nat_tests)

quote-calm : (c : ℕ) (cs : List ℕ) → continues c (slice_index cs 0) ≡ false → Calm (c ∷ cs) (quote_front cs)
quote-calm c cs e = either (Calm (c ∷ cs)) (slice_index cs (until ends_sdc_text cs) == 34) _ _
    (λ q last. absurd (omega (arith, last, closed (until ends_sdc_text cs) q)))
    (λ _. one_calm Mark c cs e)
  where
    closed : (n : ℕ) → slice_index cs n == 34 ≡ true → slice_index (c ∷ cs) (n + 2 - 1) ≡ 34
    closed n q = let at : n + 2 - 1 ≡ suc n = omega arith in ap (λ i. get_or (c ∷ cs) i 0) at ∙ is_quote_byte (slice_index cs n) q

by_braces-calm : (braced begun : Bool) (c : ℕ) (cs : List ℕ) → continues c (slice_index cs 0) ≡ false → Calm (c ∷ cs) (cond braced (braced_front c cs) (command_front begun c cs))
by_braces-calm true begun c cs e = either (Calm (c ∷ cs)) (c == 125) _ _ (λ _. one_calm Mark c cs e) (λ _. run-calm ends_braced_word braced_joined c cs e)
by_braces-calm false begun c cs e =
    let P : Front → Type 0 = Calm (c ∷ cs) in
    either P (c == 35 && not begun) _ _ (λ _. tt)
    (λ _. either P (is_sdc_mark c) _ _ (λ _. one_calm Mark c cs e)
    (λ _. either P (c == 34) _ _ (λ _. quote-calm c cs e)
    (λ _. run-calm ends_sdc_word word_joined c cs e)))

pub sdc-calm : (braced begun : Bool) (c : ℕ) (cs : List ℕ) → Calm (c ∷ cs) (sdc_front braced begun c cs)
sdc-calm braced begun c cs =
    let P : Front → Type 0 = Calm (c ∷ cs) in
    either P (is_white c) _ _ (λ _. tt)
    (λ _. either P (continues c (slice_index cs 0)) _ _ (λ _. tt)
    (λ e. by_braces-calm braced begun c cs e))

-- a comment begins outside of braces, before any piece of its command
abbrev pub Heads : (braced begun : Bool) (bs : List ℕ) → Front → Type 0
Heads braced begun bs Gap = Unit {0}
Heads braced begun bs (Found kind len) = Unit {0}
Heads braced begun bs (Passed len) = slice_index bs 0 ≡ 35 → (braced ≡ false) × (begun ≡ false)
Heads braced begun bs OpenString = Unit {0}
Heads braced begun bs OpenComment = Unit {0}

not_begun : (c : ℕ) (begun : Bool) → c == 35 && not begun ≡ true → begun ≡ false
not_begun c begun e = grind (arith, nat_tests)

quote-heads : (c : ℕ) (cs : List ℕ) (begun : Bool) → Heads false begun (c ∷ cs) (quote_front cs)
quote-heads c cs begun = either (Heads false begun (c ∷ cs)) (slice_index cs (until ends_sdc_text cs) == 34) _ _ (λ _. tt) (λ _. tt)

by_braces-heads : (braced begun : Bool) (c : ℕ) (cs : List ℕ) → Heads braced begun (c ∷ cs) (cond braced (braced_front c cs) (command_front begun c cs))
by_braces-heads true begun c cs = either (Heads true begun (c ∷ cs)) (c == 125) _ _ (λ _. tt) (λ _. tt)
by_braces-heads false begun c cs =
    let P : Front → Type 0 = Heads false begun (c ∷ cs) in
    either P (c == 35 && not begun) _ _ (λ e _. (refl, not_begun c begun e))
    (λ _. either P (is_sdc_mark c) _ _ (λ _. tt)
    (λ _. either P (c == 34) _ _ (λ _. quote-heads c cs begun) (λ _. tt)))

pub sdc-heads : (braced begun : Bool) (c : ℕ) (cs : List ℕ) → Heads braced begun (c ∷ cs) (sdc_front braced begun c cs)
sdc-heads braced begun c cs =
    let P : Front → Type 0 = Heads braced begun (c ∷ cs) in
    either P (is_white c) _ _ (λ _. tt)
    (λ _. either P (continues c (slice_index cs 0)) _ _ (λ e h. absurd (no_hash c h (continued c (slice_index cs 0) e).0))
    (λ _. by_braces-heads braced begun c cs))
  where
    no_hash : (c : ℕ) → c ≡ 35 → c ≡ 92 → ⊥
    no_hash c a b = omega (arith, a, b)
