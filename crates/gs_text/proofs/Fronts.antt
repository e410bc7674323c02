-- What is whole at a byte is what begins there: the other way round of `Says`.
use Rattle.std.proofs.Common.{◌≡◌, ◌≢◌, ◌⊎◌, ◌∙◌, sym, ap, refl, ℕ, zero, suc, ◌+◌, ◌-◌, ◌<◌, ◌≤◌, ◌==◌, ◌&&◌, not, nat_lt, slice_index, get_or, Bool, true, false, cond, List, [], ◌∷◌, length, drop, add-one, arith, subst, inl, inr}
use Rattle.std.specs.List.{prefix_len}
use Rattle.std.proofs.lemmas.Bool.Decides.{nat_tests}
use Rattle.std.proofs.lemmas.Bool.{cases_lt}
use Rattle.std.proofs.lemmas.List.{get_or_past}
use Rattle.std.proofs.lemmas.List.Sums.{prefix_len_passes}
use Rattle.gs_text.proofs.Until.{until-le-length, until-at, until-before}
use Rattle.gs_text.proofs.VerilogLaws.{word-stops}
use Rattle.gs_text.specs.Bytes.{is_white, is_word_byte, is_liberty_mark, is_sdc_mark}
use Rattle.gs_text.specs.Comments.{comment_front}
use Rattle.gs_text.specs.Front.{front}
use Rattle.gs_text.specs.Liberty.{liberty_front, string_front, ends_liberty_word}
use Rattle.gs_text.specs.Runs.{until, is_blank, is_newline, is_quote, continues, closes_comment, opens_comment, opens_line_comment}
use Rattle.gs_text.specs.Sdc.{sdc_front, braced_front, command_front, quote_front, ends_sdc_word, ends_braced_word, ends_sdc_text}
use Rattle.gs_text.specs.Skips.{IsBlockComment, IsSlashComment, IsHashComment, IsContinuation, IsRestOfLine}
use Rattle.gs_text.specs.Spef.{spef_front}
use Rattle.gs_text.specs.Verilog.{verilog_front, escaped_front, word_len, index_len}
use Rattle.gs_text.specs.Whole.{IsRun, IsVerilogWord, IsEscapedName, IsQuoted, IsOnOneLine, IsLoneByte, IsLoneQuote, IsWhole}
use Rattle.gs_text.specs.declared.kinds.Kind.{Kind}
use Rattle.gs_text.specs.declared.kinds.Kind.TheVariants.{Word, Escaped, Text, Mark}
use Rattle.gs_text.specs.declared.kinds.Style.{Style}
use Rattle.gs_text.specs.declared.kinds.Style.TheVariants.{Verilog, Lib, Spef, Sdc}
use Rattle.gs_text.specs.declared.scan.Front.{Front}
use Rattle.gs_text.specs.declared.scan.Front.TheVariants.{Gap, Found, Passed}

-- one branch of a choice
pub is_so : (b : Bool) (f g : Front) → b ≡ true → cond b f g ≡ f
is_so true f g e = refl
is_so false f g e = cc

pub not_so : (b : Bool) (f g : Front) → b ≡ false → cond b f g ≡ g
not_so true f g e = cc
not_so false f g e = refl

clash : {b : Bool} → b ≡ true → b ≡ false → ⊥
clash t f = cc (t, f)

-- how far a run goes, from what it is made of and what follows it
until_is : (test : ℕ → ℕ → Bool) (bs : List ℕ) (m : ℕ) → ((k : ℕ) → k < m → test (get_or bs k 0) (get_or bs (k + 1) 0) ≡ false)
    → (m ≡ length bs) ⊎ ((m < length bs) × (test (get_or bs m 0) (get_or bs (m + 1) 0) ≡ true)) → until test bs ≡ m
until_is test bs m none ends = elim (cases_lt (until test bs) m) [
  | inl lt ↦ absurd (clash (until-at test bs (omega (arith, lt, in_all ends))) (none (until test bs) lt))
  | inr ge ↦ elim (cases_lt m (until test bs)) [
    | inl more ↦ absurd (ended ends more)
    | inr le ↦ omega arith
  ]
]
  where
    in_all : (m ≡ length bs) ⊎ ((m < length bs) × (test (get_or bs m 0) (get_or bs (m + 1) 0) ≡ true)) → m ≤ length bs
    in_all (inl e) = omega arith
    in_all (inr h) = omega (arith, h.0)

    ended : (m ≡ length bs) ⊎ ((m < length bs) × (test (get_or bs m 0) (get_or bs (m + 1) 0) ≡ true)) → m < until test bs → ⊥
    ended (inl e) more = omega (arith, until-le-length test bs)
    ended (inr h) more = clash h.1 (until-before test bs m more)

-- the same of a run with the byte before it
run_is : (test : ℕ → ℕ → Bool) (c : ℕ) (cs : List ℕ) (len : ℕ) → 0 < len → len ≤ length (c ∷ cs) → IsRun test len (c ∷ cs) → until test cs + 1 ≡ len
run_is test c cs zero some within run = absurd (omega arith)
run_is test c cs (suc m) some within run =
    let e : until test cs ≡ m = until_is test cs m inside (ends run.whole) in
    omega (arith, e)
  where
    inside : (k : ℕ) → k < m → test (get_or cs k 0) (get_or cs (k + 1) 0) ≡ false
    inside k lt =
        let here : test (slice_index (c ∷ cs) (suc k)) (slice_index (c ∷ cs) (suc k + 1)) ≡ false = run.inside (suc k) (omega arith) in
        simp add-one (simp add-one at here)

    ends : (suc m ≡ length (c ∷ cs)) ⊎ (test (slice_index (c ∷ cs) (suc m)) (slice_index (c ∷ cs) (suc m + 1)) ≡ true) → (m ≡ length cs) ⊎ ((m < length cs) × (test (get_or cs m 0) (get_or cs (m + 1) 0) ≡ true))
    ends (inl e) = inl (omega (arith, e))
    ends (inr t) = elim (cases_lt m (length cs)) [
      | inl lt ↦
          let here : test (slice_index (c ∷ cs) (suc m)) (slice_index (c ∷ cs) (suc m + 1)) ≡ true = t in
          inr (lt, simp add-one (simp add-one at here))
      | inr ge ↦ inl (omega arith)
    ]

first_of : (test : ℕ → ℕ → Bool) (c : ℕ) (cs : List ℕ) (len : ℕ) → 0 < len → IsRun test len (c ∷ cs) → test c (slice_index cs 0) ≡ false
first_of test c cs len some run = run.inside 0 some

-- the rest of a line
line_is : (c : ℕ) (cs : List ℕ) (len : ℕ) → c ≢ 10 → IsRestOfLine len (c ∷ cs) → until is_newline cs + 1 ≡ len
line_is c cs zero first rest = absurd (elim rest.ends [
  | inl e ↦ omega (arith, e)
  | inr e ↦ first e
])
line_is c cs (suc m) first rest =
    let e : until is_newline cs ≡ m = until_is is_newline cs m (λ k lt. no_end (get_or cs k 0) (rest.one_line (suc k) (omega arith))) (ends rest.ends) in
    omega (arith, e)
  where
    no_end : (x : ℕ) → x ≢ 10 → x == 10 ≡ false
    no_end x e = grind (arith, nat_tests, e)

    ten : (x : ℕ) → x ≡ 10 → x == 10 ≡ true
    ten x e = grind (arith, nat_tests)

    ends : (suc m ≡ length (c ∷ cs)) ⊎ (slice_index (c ∷ cs) (suc m) ≡ 10) → (m ≡ length cs) ⊎ ((m < length cs) × (get_or cs m 0 == 10 ≡ true))
    ends (inl e) = inl (omega (arith, e))
    ends (inr t) = elim (cases_lt m (length cs)) [
      | inl lt ↦ inr (lt, ten (get_or cs m 0) t)
      | inr ge ↦ absurd (past (get_or_past cs m 0 ge) t)
    ]
      where
        past : {x : ℕ} → x ≡ 0 → x ≡ 10 → ⊥
        past z f = omega (arith, z, f)

-- a comment between slash and star, and star and slash
block_is : (c d : ℕ) (ds : List ℕ) (len : ℕ) → IsBlockComment len (c ∷ d ∷ ds) → comment_front ds ≡ Passed len
block_is c d ds len b =
    let m : ℕ = len - 4 in
    let at : (k j : ℕ) → j ≡ suc (suc k) → slice_index (c ∷ d ∷ ds) j ≡ get_or ds k 0 = λ k j e. ap (λ i. get_or (c ∷ d ∷ ds) i 0) e in
    let star : get_or ds m 0 ≡ 42 = sym (at m (len - 2) (omega (arith, b.size))) ∙ b.closing_star in
    let slash : get_or ds (m + 1) 0 ≡ 47 = sym (at (m + 1) (len - 1) (omega (arith, b.size))) ∙ b.closing_slash in
    let within : m < length ds = inside m ds star in
    let e : until closes_comment ds ≡ m = until_is closes_comment ds m
    (λ k lt. apart (get_or ds k 0) (get_or ds (k + 1) 0) (λ s t. b.first (k + 2) (omega arith) (omega arith) (at k (k + 2) (omega arith) ∙ s) (at (k + 1) (k + 2 + 1) (omega arith) ∙ t)))
    (inr (within, closes (get_or ds m 0) (get_or ds (m + 1) 0) star slash)) in
    let size : until closes_comment ds + 4 ≡ len = omega (arith, e, b.size) in
    is_so (nat_lt (until closes_comment ds) (length ds)) _ _ (less (until closes_comment ds) (length ds) (omega (arith, e, within))) ∙ ap Passed size
  where
    inside : (m : ℕ) (ds : List ℕ) → get_or ds m 0 ≡ 42 → m < length ds
    inside m ds e = elim (cases_lt m (length ds)) [
      | inl lt ↦ lt
      | inr ge ↦ absurd (past (get_or_past ds m 0 ge) e)
    ]
      where
        past : {x : ℕ} → x ≡ 0 → x ≡ 42 → ⊥
        past z f = omega (arith, z, f)

    apart : (a b : ℕ) → (a ≡ 42 → b ≢ 47) → closes_comment a b ≡ false
    apart a b n = by (closes_comment a b) refl
      where
        both : closes_comment a b ≡ true → (a ≡ 42) × (b ≡ 47)
        both e = (grind (arith, nat_tests), grind (arith, nat_tests))

        by : (x : Bool) → closes_comment a b ≡ x → closes_comment a b ≡ false
        by true e = let q : (a ≡ 42) × (b ≡ 47) = both e in absurd (n q.0 q.1)
        by false e = e

    closes : (a b : ℕ) → a ≡ 42 → b ≡ 47 → closes_comment a b ≡ true
    closes a b s t = grind (arith, nat_tests)

    less : (m n : ℕ) → m < n → nat_lt m n ≡ true
    less m n lt = grind (arith, nat_tests)

-- white begins nothing else
pub white_front : (style : Style) (braced begun : Bool) (c : ℕ) (cs : List ℕ) → is_white c ≡ true → front style braced begun c cs ≡ Gap
white_front Verilog braced begun c cs e = is_so (is_white c) _ _ e
white_front Lib braced begun c cs e = is_so (is_white c) _ _ e
white_front Spef braced begun c cs e = is_so (is_white c) _ _ e
white_front Sdc braced begun c cs e = is_so (is_white c) _ _ e

-- Liberty
word_white : (c d : ℕ) → ends_liberty_word c d ≡ false → is_white c ≡ false
word_white c d e = grind (arith, nat_tests)

word_joined : (c d : ℕ) → ends_liberty_word c d ≡ false → continues c d ≡ false
word_joined c d e = grind (arith, nat_tests)

word_quote : (c d : ℕ) → ends_liberty_word c d ≡ false → c == 34 ≡ false
word_quote c d e = grind (arith, nat_tests)

word_mark : (c d : ℕ) → ends_liberty_word c d ≡ false → is_liberty_mark c ≡ false
word_mark c d e = grind (arith, nat_tests)

word_comment : (c d : ℕ) → ends_liberty_word c d ≡ false → opens_comment c d ≡ false
word_comment c d e = grind (arith, nat_tests)

quote_white : (c : ℕ) → c ≡ 34 → is_white c ≡ false
quote_white c e = grind (arith, nat_tests)

quote_joined : (c d : ℕ) → c ≡ 34 → continues c d ≡ false
quote_joined c d e = grind (arith, nat_tests)

same : (c n : ℕ) → c ≡ n → c == n ≡ true
same c n e = grind (arith, nat_tests)

other : (c n : ℕ) → c ≢ n → c == n ≡ false
other c n e = grind (arith, nat_tests, e)

less : (m n : ℕ) → m < n → nat_lt m n ≡ true
less m n lt = grind (arith, nat_tests)

mark_white : (c : ℕ) → is_liberty_mark c ≡ true → is_white c ≡ false
mark_white c e = grind (arith, nat_tests)

mark_joined : (c d : ℕ) → is_liberty_mark c ≡ true → continues c d ≡ false
mark_joined c d e = grind (arith, nat_tests)

mark_quote : (c : ℕ) → is_liberty_mark c ≡ true → c == 34 ≡ false
mark_quote c e = grind (arith, nat_tests)

liberty_word : (c : ℕ) (cs : List ℕ) (len : ℕ) → 0 < len → len ≤ length (c ∷ cs) → IsRun ends_liberty_word len (c ∷ cs) → liberty_front c cs ≡ Found Word len
liberty_word c cs len some within run =
    let d : ℕ = slice_index cs 0 in
    let e : ends_liberty_word c (slice_index cs 0) ≡ false = first_of ends_liberty_word c cs len some run in
    not_so (is_white c) _ _ (word_white c d e) ∙ not_so (continues c d) _ _ (word_joined c d e) ∙ not_so (c == 34) _ _ (word_quote c d e)
    ∙ not_so (is_liberty_mark c) _ _ (word_mark c d e) ∙ not_so (opens_comment c d) _ _ (word_comment c d e)
    ∙ ap (Found Word) (run_is ends_liberty_word c cs len some within run)

-- how far a string goes past its opening quote
string_is : (c : ℕ) (cs : List ℕ) (m : ℕ) → m + 2 ≤ length (c ∷ cs) → IsQuoted (m + 2) (c ∷ cs) → (get_or cs m 0 ≡ 34) × ((k : ℕ) → k < m → get_or cs k 0 ≢ 34)
string_is c cs m within q =
    let last : m + 2 - 1 ≡ suc m = omega arith in
    (ap (λ i. get_or (c ∷ cs) i 0) (sym last) ∙ q.closes, λ k lt. q.inside (suc k) (omega arith) (omega arith))

liberty_string : (c : ℕ) (cs : List ℕ) (len : ℕ) → len ≤ length (c ∷ cs) → IsQuoted len (c ∷ cs) → liberty_front c cs ≡ Found Text len
liberty_string c cs len within q =
    not_so (is_white c) _ _ (quote_white c q.opens) ∙ not_so (continues c (slice_index cs 0)) _ _ (quote_joined c (slice_index cs 0) q.opens)
    ∙ is_so (c == 34) _ _ (same c 34 q.opens) ∙ by (len - 2) (omega (arith, q.size))
  where
    by : (m : ℕ) → m + 2 ≡ len → string_front cs ≡ Found Text len
    by m e =
        let P : ℕ → Type 0 = λ n. IsQuoted n (c ∷ cs) in
        let s : (get_or cs m 0 ≡ 34) × ((k : ℕ) → k < m → get_or cs k 0 ≢ 34) = string_is c cs m (omega arith) (subst P (sym e) q) in
        let n : until is_quote cs ≡ m = until_is is_quote cs m (λ k lt. other (get_or cs k 0) 34 (s.1 k lt)) (inr (omega arith, same (get_or cs m 0) 34 s.0)) in
        let size : until is_quote cs + 2 ≡ len = omega (arith, n, e) in
        is_so (nat_lt (until is_quote cs) (length cs)) _ _ (less (until is_quote cs) (length cs) (omega (arith, n, e, within))) ∙ ap (Found Text) size

liberty_mark : (c : ℕ) (cs : List ℕ) (len : ℕ) → len ≡ 1 → is_liberty_mark c ≡ true → liberty_front c cs ≡ Found Mark len
liberty_mark c cs len one e =
    not_so (is_white c) _ _ (mark_white c e) ∙ not_so (continues c (slice_index cs 0)) _ _ (mark_joined c (slice_index cs 0) e)
    ∙ not_so (c == 34) _ _ (mark_quote c e) ∙ is_so (is_liberty_mark c) _ _ e ∙ ap (Found Mark) (sym one)

-- a slash and a star, or another slash
slash_white : (c : ℕ) → c ≡ 47 → is_white c ≡ false
slash_white c e = grind (arith, nat_tests)

slash_joined : (c d : ℕ) → c ≡ 47 → continues c d ≡ false
slash_joined c d e = grind (arith, nat_tests)

slash_mark : (c : ℕ) → c ≡ 47 → is_liberty_mark c ≡ false
slash_mark c e = grind (arith, nat_tests)

slash_word : (c : ℕ) → c ≡ 47 → is_word_byte c ≡ false
slash_word c e = grind (arith, nat_tests)

star_opens : (c d : ℕ) → c ≡ 47 → d ≡ 42 → opens_comment c d ≡ true
star_opens c d e f = grind (arith, nat_tests)

star_apart : (c d : ℕ) → d ≡ 42 → opens_line_comment c d ≡ false
star_apart c d f = grind (arith, nat_tests)

slash_opens : (c d : ℕ) → c ≡ 47 → d ≡ 47 → opens_line_comment c d ≡ true
slash_opens c d e f = grind (arith, nat_tests)

not_ten : (c n : ℕ) → c ≡ n → n ≢ 10 → c ≢ 10
not_ten c n e f g = f (sym e ∙ g)

block_front : (c : ℕ) (cs : List ℕ) (len : ℕ) → IsBlockComment len (c ∷ cs) → comment_front (drop 1 cs) ≡ Passed len
block_front c [] len b = absurd (none 0 refl b.star)
  where
    none : (x : ℕ) → x ≡ 0 → x ≡ 42 → ⊥
    none x z e = omega (arith, z, e)
block_front c (d ∷ ds) len b = block_is c d ds len b

liberty_comment : (c : ℕ) (cs : List ℕ) (len : ℕ) → IsBlockComment len (c ∷ cs) → liberty_front c cs ≡ Passed len
liberty_comment c cs len b =
    let d : ℕ = slice_index cs 0 in
    let quote : c == 34 ≡ false = other c 34 (λ q. omega (arith, q, b.slash)) in
    not_so (is_white c) _ _ (slash_white c b.slash) ∙ not_so (continues c d) _ _ (slash_joined c d b.slash) ∙ not_so (c == 34) _ _ quote
    ∙ not_so (is_liberty_mark c) _ _ (slash_mark c b.slash) ∙ is_so (opens_comment c d) _ _ (star_opens c d b.slash b.star) ∙ block_front c cs len b

back_white : (c : ℕ) → c ≡ 92 → is_white c ≡ false
back_white c e = grind (arith, nat_tests)

joins : (c d : ℕ) → c ≡ 92 → d ≡ 10 → continues c d ≡ true
joins c d e f = grind (arith, nat_tests)

liberty_continuation : (c : ℕ) (cs : List ℕ) (len : ℕ) → IsContinuation len (c ∷ cs) → liberty_front c cs ≡ Passed len
liberty_continuation c cs len t =
    not_so (is_white c) _ _ (back_white c t.backslash) ∙ is_so (continues c (slice_index cs 0)) _ _ (joins c (slice_index cs 0) t.backslash t.newline) ∙ ap Passed (sym t.size)

-- SPEF
spef_word : (c : ℕ) (cs : List ℕ) (len : ℕ) → 0 < len → len ≤ length (c ∷ cs) → IsRun is_blank len (c ∷ cs) → opens_line_comment c (slice_index cs 0) ≡ false → spef_front c cs ≡ Found Word len
spef_word c cs len some within run apart =
    not_so (is_white c) _ _ (first_of is_blank c cs len some run) ∙ not_so (opens_line_comment c (slice_index cs 0)) _ _ apart ∙ ap (Found Word) (run_is is_blank c cs len some within run)

spef_comment : (c : ℕ) (cs : List ℕ) (len : ℕ) → IsSlashComment len (c ∷ cs) → spef_front c cs ≡ Passed len
spef_comment c cs len s =
    not_so (is_white c) _ _ (slash_white c s.slash) ∙ is_so (opens_line_comment c (slice_index cs 0)) _ _ (slash_opens c (slice_index cs 0) s.slash s.slashes)
    ∙ ap Passed (line_is c cs len (not_ten c 47 s.slash (λ e. omega (arith, e))) s.rest)

-- Verilog
word_is_no_white : (c : ℕ) → is_word_byte c ≡ true → is_white c ≡ false
word_is_no_white c e = grind (arith, nat_tests)

verilog_word : (c : ℕ) (cs : List ℕ) (len : ℕ) → IsVerilogWord len (c ∷ cs) → verilog_front c cs ≡ Found Word len
verilog_word c cs len w =
    not_so (is_white c) _ _ (word_is_no_white c (w.inside 0 w.some)) ∙ is_so (is_word_byte c) _ _ (w.inside 0 w.some)
    ∙ ap (Found Word) (by w.run w.some w.inside w.whole w.index)
  where
    n : ℕ
    n = prefix_len is_word_byte cs

    by : (run : ℕ) → 0 < run → ((k : ℕ) → k < run → is_word_byte (slice_index (c ∷ cs) k) ≡ true) → is_word_byte (slice_index (c ∷ cs) run) ≡ false → len ≡ run + index_len (drop run (c ∷ cs)) → word_len cs + 1 ≡ len
    by zero some inside whole index = absurd (omega arith)
    by (suc m) some inside whole index = elim (cases_lt n m) [
      | inl lt ↦ absurd (clash (inside (suc n) (omega arith)) (word-stops cs))
      | inr ge ↦ elim (cases_lt m n) [
        | inl more ↦ absurd (clash (prefix_len_passes is_word_byte cs m 0 more) whole)
        | inr le ↦
            let e : n ≡ m = omega arith in
            let P : ℕ → Type 0 = λ k. len ≡ suc k + index_len (drop k cs) in
            let q : len ≡ suc n + index_len (drop n cs) = subst P (sym e) index in
            omega (arith, q)
      ]
    ]

back_word : (c : ℕ) → c ≡ 92 → is_word_byte c ≡ false
back_word c e = grind (arith, nat_tests)

back_line : (c d : ℕ) → c ≡ 92 → opens_line_comment c d ≡ false
back_line c d e = grind (arith, nat_tests)

back_comment : (c d : ℕ) → c ≡ 92 → opens_comment c d ≡ false
back_comment c d e = grind (arith, nat_tests)

-- what begins in Verilog with a byte that begins no white, no word and no comment
apart_front : (c : ℕ) (cs : List ℕ) → is_white c ≡ false → is_word_byte c ≡ false → opens_line_comment c (slice_index cs 0) ≡ false → opens_comment c (slice_index cs 0) ≡ false
    → verilog_front c cs ≡ cond (c == 92) (escaped_front cs) (Found Mark 1)
apart_front c cs white word line comment =
    not_so (is_white c) _ _ white ∙ not_so (is_word_byte c) _ _ word ∙ not_so (opens_line_comment c (slice_index cs 0)) _ _ line ∙ not_so (opens_comment c (slice_index cs 0)) _ _ comment

verilog_escaped : (c : ℕ) (cs : List ℕ) (len : ℕ) → len ≤ length (c ∷ cs) → IsEscapedName len (c ∷ cs) → verilog_front c cs ≡ Found Escaped len
verilog_escaped c cs len within w =
    let run : IsRun is_blank len (c ∷ cs) = record { inside = w.inside; whole = w.whole } in
    let e : until is_blank cs + 1 ≡ len = run_is is_blank c cs len (omega (arith, w.some)) within run in
    apart_front c cs (back_white c w.backslash) (back_word c w.backslash) (back_line c (slice_index cs 0) w.backslash) (back_comment c (slice_index cs 0) w.backslash)
    ∙ is_so (c == 92) _ _ (same c 92 w.backslash) ∙ is_so (nat_lt 0 (until is_blank cs)) _ _ (less 0 (until is_blank cs) (omega (arith, e, w.some))) ∙ ap (Found Escaped) e

verilog_mark : (c : ℕ) (cs : List ℕ) (len : ℕ) → len ≡ 1 → IsLoneByte (c ∷ cs) → verilog_front c cs ≡ Found Mark len
verilog_mark c cs len one w = apart_front c cs w.solid w.apart w.line_comment w.comment ∙ by (c == 92) refl ∙ ap (Found Mark) (sym one)
  where
    is_back : (c : ℕ) → c == 92 ≡ true → c ≡ 92
    is_back c e = grind (arith, nat_tests)

    none : (n : ℕ) → n ≡ 0 → nat_lt 0 n ≡ false
    none n e = grind (arith, nat_tests)

    nothing : (cs : List ℕ) → (length (c ∷ cs) ≡ 1) ⊎ (is_white (slice_index (c ∷ cs) 1) ≡ true) → until is_blank cs ≡ 0
    nothing [] h = refl
    nothing (d ∷ ds) (inl e) = absurd (omega (arith, e))
    nothing (d ∷ ds) (inr e) = chosen (is_white d) (until is_blank ds) e
      where
        chosen : (b : Bool) (m : ℕ) → b ≡ true → cond b 0 (m + 1) ≡ 0
        chosen true m e = refl
        chosen false m e = cc

    by : (b : Bool) → c == 92 ≡ b → cond b (escaped_front cs) (Found Mark 1) ≡ Found Mark 1
    by true e = not_so (nat_lt 0 (until is_blank cs)) _ _ (none (until is_blank cs) (nothing cs (w.alone (is_back c e))))
    by false e = refl

verilog_comment : (c : ℕ) (cs : List ℕ) (len : ℕ) → IsBlockComment len (c ∷ cs) → verilog_front c cs ≡ Passed len
verilog_comment c cs len b =
    let d : ℕ = slice_index cs 0 in
    not_so (is_white c) _ _ (slash_white c b.slash) ∙ not_so (is_word_byte c) _ _ (slash_word c b.slash) ∙ not_so (opens_line_comment c d) _ _ (star_apart c d b.star)
    ∙ is_so (opens_comment c d) _ _ (star_opens c d b.slash b.star) ∙ block_front c cs len b

verilog_line : (c : ℕ) (cs : List ℕ) (len : ℕ) → IsSlashComment len (c ∷ cs) → verilog_front c cs ≡ Passed len
verilog_line c cs len s =
    let d : ℕ = slice_index cs 0 in
    not_so (is_white c) _ _ (slash_white c s.slash) ∙ not_so (is_word_byte c) _ _ (slash_word c s.slash) ∙ is_so (opens_line_comment c d) _ _ (slash_opens c d s.slash s.slashes)
    ∙ ap Passed (line_is c cs len (not_ten c 47 s.slash (λ e. omega (arith, e))) s.rest)

-- SDC
braced_white : (c d : ℕ) → ends_braced_word c d ≡ false → is_white c ≡ false
braced_white c d e = grind (arith, nat_tests)

braced_joined : (c d : ℕ) → ends_braced_word c d ≡ false → continues c d ≡ false
braced_joined c d e = grind (arith, nat_tests)

braced_end : (c d : ℕ) → ends_braced_word c d ≡ false → c == 125 ≡ false
braced_end c d e = grind (arith, nat_tests)

sdc_white : (c d : ℕ) → ends_sdc_word c d ≡ false → is_white c ≡ false
sdc_white c d e = grind (arith, nat_tests)

sdc_joined : (c d : ℕ) → ends_sdc_word c d ≡ false → continues c d ≡ false
sdc_joined c d e = grind (arith, nat_tests)

sdc_no_mark : (c d : ℕ) → ends_sdc_word c d ≡ false → is_sdc_mark c ≡ false
sdc_no_mark c d e = grind (arith, nat_tests)

sdc_no_quote : (c d : ℕ) → ends_sdc_word c d ≡ false → c == 34 ≡ false
sdc_no_quote c d e = grind (arith, nat_tests)

-- a hash that begins no command begins no comment
begun_hash : (c : ℕ) (begun : Bool) → (c ≡ 35 → begun ≡ true) → c == 35 && not begun ≡ false
begun_hash c begun h = by (c == 35) begun refl refl
  where
    is_hash : (c : ℕ) → c == 35 ≡ true → c ≡ 35
    is_hash c e = grind (arith, nat_tests)

    by : (x y : Bool) → c == 35 ≡ x → begun ≡ y → x && not y ≡ false
    by false y e f = refl
    by true true e f = refl
    by true false e f = absurd (clash (h (is_hash c e)) f)

past_gap : (braced begun : Bool) (c : ℕ) (cs : List ℕ) → is_white c ≡ false → continues c (slice_index cs 0) ≡ false → sdc_front braced begun c cs ≡ cond braced (braced_front c cs) (command_front begun c cs)
past_gap braced begun c cs white joined = not_so (is_white c) _ _ white ∙ not_so (continues c (slice_index cs 0)) _ _ joined

sdc_braced_word : (begun : Bool) (c : ℕ) (cs : List ℕ) (len : ℕ) → 0 < len → len ≤ length (c ∷ cs) → IsRun ends_braced_word len (c ∷ cs) → sdc_front true begun c cs ≡ Found Word len
sdc_braced_word begun c cs len some within run =
    let d : ℕ = slice_index cs 0 in
    let e : ends_braced_word c (slice_index cs 0) ≡ false = first_of ends_braced_word c cs len some run in
    past_gap true begun c cs (braced_white c d e) (braced_joined c d e) ∙ not_so (c == 125) _ _ (braced_end c d e) ∙ ap (Found Word) (run_is ends_braced_word c cs len some within run)

sdc_word : (begun : Bool) (c : ℕ) (cs : List ℕ) (len : ℕ) → 0 < len → len ≤ length (c ∷ cs) → IsRun ends_sdc_word len (c ∷ cs) → (c ≡ 35 → begun ≡ true) → sdc_front false begun c cs ≡ Found Word len
sdc_word begun c cs len some within run hash =
    let d : ℕ = slice_index cs 0 in
    let e : ends_sdc_word c (slice_index cs 0) ≡ false = first_of ends_sdc_word c cs len some run in
    past_gap false begun c cs (sdc_white c d e) (sdc_joined c d e) ∙ not_so (c == 35 && not begun) _ _ (begun_hash c begun hash)
    ∙ not_so (is_sdc_mark c) _ _ (sdc_no_mark c d e) ∙ not_so (c == 34) _ _ (sdc_no_quote c d e) ∙ ap (Found Word) (run_is ends_sdc_word c cs len some within run)

quote_mark : (c : ℕ) → c ≡ 34 → is_sdc_mark c ≡ false
quote_mark c e = grind (arith, nat_tests)

no_text_end : (x : ℕ) → x ≢ 34 → x ≢ 10 → ends_sdc_text x 0 ≡ false
no_text_end x q n = neither x (other x 34 q) (other x 10 n)
  where
    neither : (x : ℕ) → x == 34 ≡ false → x == 10 ≡ false → ends_sdc_text x 0 ≡ false
    neither x e f = grind (arith, nat_tests)

text_end : (x : ℕ) → x ≡ 34 → ends_sdc_text x 0 ≡ true
text_end x e = grind (arith, nat_tests)

-- what begins with a quote outside of braces
at_quote : (begun : Bool) (c : ℕ) (cs : List ℕ) → c ≡ 34 → sdc_front false begun c cs ≡ quote_front cs
at_quote begun c cs q =
    past_gap false begun c cs (quote_white c q) (quote_joined c (slice_index cs 0) q)
    ∙ not_so (c == 35 && not begun) _ _ (begun_hash c begun (λ h. absurd (omega (arith, q, h)))) ∙ not_so (is_sdc_mark c) _ _ (quote_mark c q) ∙ is_so (c == 34) _ _ (same c 34 q)

sdc_string : (begun : Bool) (c : ℕ) (cs : List ℕ) (len : ℕ) → len ≤ length (c ∷ cs) → IsQuoted len (c ∷ cs) → IsOnOneLine len (c ∷ cs) → sdc_front false begun c cs ≡ Found Text len
sdc_string begun c cs len within q one = at_quote begun c cs q.opens ∙ by (len - 2) (omega (arith, q.size))
  where
    by : (m : ℕ) → m + 2 ≡ len → quote_front cs ≡ Found Text len
    by m e =
        let P : ℕ → Type 0 = λ n. IsQuoted n (c ∷ cs) in
        let s : (get_or cs m 0 ≡ 34) × ((k : ℕ) → k < m → get_or cs k 0 ≢ 34) = string_is c cs m (omega arith) (subst P (sym e) q) in
        let n : until ends_sdc_text cs ≡ m = until_is ends_sdc_text cs m (λ k lt. no_text_end (get_or cs k 0) (s.1 k lt) (one (suc k) (omega arith))) (inr (omega arith, text_end (get_or cs m 0) s.0)) in
        let size : until ends_sdc_text cs + 2 ≡ len = omega (arith, n, e) in
        is_so (slice_index cs (until ends_sdc_text cs) == 34) _ _ (same (slice_index cs (until ends_sdc_text cs)) 34 (ap (λ i. get_or cs i 0) n ∙ s.0)) ∙ ap (Found Text) size

sdc_braced_mark : (begun : Bool) (c : ℕ) (cs : List ℕ) (len : ℕ) → len ≡ 1 → c ≡ 125 → sdc_front true begun c cs ≡ Found Mark len
sdc_braced_mark begun c cs len one e = past_gap true begun c cs (white c e) (joined c (slice_index cs 0) e) ∙ is_so (c == 125) _ _ (same c 125 e) ∙ ap (Found Mark) (sym one)
  where
    white : (c : ℕ) → c ≡ 125 → is_white c ≡ false
    white c e = grind (arith, nat_tests)

    joined : (c d : ℕ) → c ≡ 125 → continues c d ≡ false
    joined c d e = grind (arith, nat_tests)

sdc_mark : (begun : Bool) (c : ℕ) (cs : List ℕ) (len : ℕ) → len ≡ 1 → is_sdc_mark c ≡ true → sdc_front false begun c cs ≡ Found Mark len
sdc_mark begun c cs len one e =
    past_gap false begun c cs (white c e) (joined c (slice_index cs 0) e) ∙ not_so (c == 35 && not begun) _ _ (begun_hash c begun (λ h. absurd (no_hash c e h))) ∙ is_so (is_sdc_mark c) _ _ e ∙ ap (Found Mark) (sym one)
  where
    white : (c : ℕ) → is_sdc_mark c ≡ true → is_white c ≡ false
    white c e = grind (arith, nat_tests)

    joined : (c d : ℕ) → is_sdc_mark c ≡ true → continues c d ≡ false
    joined c d e = grind (arith, nat_tests)

    no_hash : (c : ℕ) → is_sdc_mark c ≡ true → c ≢ 35
    no_hash c e f = grind (arith, nat_tests)

sdc_lone_quote : (begun : Bool) (c : ℕ) (cs : List ℕ) (len : ℕ) → len ≡ 1 → IsLoneQuote (c ∷ cs) → sdc_front false begun c cs ≡ Found Mark len
sdc_lone_quote begun c cs len one q = at_quote begun c cs q.0 ∙ by (slice_index cs (until ends_sdc_text cs) == 34) refl ∙ ap (Found Mark) (sym one)
  where
    n : ℕ
    n = until ends_sdc_text cs

    is_quote_byte : (x : ℕ) → x == 34 ≡ true → x ≡ 34
    is_quote_byte x e = grind (arith, nat_tests)

    newline : (x : ℕ) → x ≡ 10 → ends_sdc_text x 0 ≡ true
    newline x e = grind (arith, nat_tests)

    none : (j : ℕ) → j < suc n → slice_index (c ∷ cs) j ≡ 10 → ⊥
    none zero lt e = not_ten c 34 q.0 (λ f. omega (arith, f)) e
    none (suc i) lt e = clash (newline (get_or cs i 0) e) (until-before ends_sdc_text cs i (omega arith))

    by : (b : Bool) → slice_index cs (until ends_sdc_text cs) == 34 ≡ b → cond b (Found Text (until ends_sdc_text cs + 2)) (Found Mark 1) ≡ Found Mark 1
    by true e =
        let h : (j : ℕ) × (j < suc n) × (slice_index (c ∷ cs) j ≡ 10) = q.1 (suc n) (omega arith) (is_quote_byte (get_or cs n 0) e) in
        absurd (none h.0 h.1 h.2)
    by false e = refl

sdc_comment : (c : ℕ) (cs : List ℕ) (len : ℕ) → IsHashComment len (c ∷ cs) → sdc_front false false c cs ≡ Passed len
sdc_comment c cs len h =
    past_gap false false c cs (white c h.hash) (joined c (slice_index cs 0) h.hash) ∙ is_so (c == 35 && not false) _ _ (begins c h.hash) ∙ ap Passed (line_is c cs len (not_ten c 35 h.hash (λ e. omega (arith, e))) h.rest)
  where
    white : (c : ℕ) → c ≡ 35 → is_white c ≡ false
    white c e = grind (arith, nat_tests)

    joined : (c d : ℕ) → c ≡ 35 → continues c d ≡ false
    joined c d e = grind (arith, nat_tests)

    begins : (c : ℕ) → c ≡ 35 → c == 35 && not false ≡ true
    begins c e = grind (arith, nat_tests)

sdc_continuation : (braced begun : Bool) (c : ℕ) (cs : List ℕ) (len : ℕ) → IsContinuation len (c ∷ cs) → sdc_front braced begun c cs ≡ Passed len
sdc_continuation braced begun c cs len t =
    not_so (is_white c) _ _ (back_white c t.backslash) ∙ is_so (continues c (slice_index cs 0)) _ _ (joins c (slice_index cs 0) t.backslash t.newline) ∙ ap Passed (sym t.size)

-- a whole piece is what begins
pub whole_front : (style : Style) (braced begun : Bool) (kind : Kind) (len c : ℕ) (cs : List ℕ) → 0 < len → len ≤ length (c ∷ cs) → IsWhole style braced begun kind len (c ∷ cs) → front style braced begun c cs ≡ Found kind len
whole_front Verilog braced begun Word len c cs some within w = verilog_word c cs len w
whole_front Verilog braced begun Escaped len c cs some within w = verilog_escaped c cs len within w
whole_front Verilog braced begun Text len c cs some within w = absurd w
whole_front Verilog braced begun Mark len c cs some within w = verilog_mark c cs len w.0 w.1
whole_front Lib braced begun Word len c cs some within w = liberty_word c cs len some within w
whole_front Lib braced begun Escaped len c cs some within w = absurd w
whole_front Lib braced begun Text len c cs some within w = liberty_string c cs len within w
whole_front Lib braced begun Mark len c cs some within w = liberty_mark c cs len w.0 w.1
whole_front Spef braced begun Word len c cs some within w = spef_word c cs len some within w.0 w.1
whole_front Spef braced begun Escaped len c cs some within w = absurd w
whole_front Spef braced begun Text len c cs some within w = absurd w
whole_front Spef braced begun Mark len c cs some within w = absurd w.1
whole_front Sdc true begun Word len c cs some within w = sdc_braced_word begun c cs len some within w
whole_front Sdc false begun Word len c cs some within w = sdc_word begun c cs len some within w.0 w.1
whole_front Sdc braced begun Escaped len c cs some within w = absurd w
whole_front Sdc true begun Text len c cs some within w = absurd w
whole_front Sdc false begun Text len c cs some within w = sdc_string begun c cs len within w.0 w.1
whole_front Sdc true begun Mark len c cs some within w = sdc_braced_mark begun c cs len w.0 w.1
whole_front Sdc false begun Mark len c cs some within w = mark w.1
  where
    mark : (is_sdc_mark c ≡ true) ⊎ IsLoneQuote (c ∷ cs) → sdc_front false begun c cs ≡ Found Mark len
    mark (inl e) = sdc_mark begun c cs len w.0 e
    mark (inr q) = sdc_lone_quote begun c cs len w.0 q

-- a comment or a continued line end, which in SDC begins its command outside of braces, is what begins
abbrev pub SkipsHere : Style → (braced begun : Bool) → (len : ℕ) → List ℕ → Type 0
SkipsHere Verilog braced begun len bs = IsSlashComment len bs ⊎ IsBlockComment len bs
SkipsHere Lib braced begun len bs = IsBlockComment len bs ⊎ IsContinuation len bs
SkipsHere Spef braced begun len bs = IsSlashComment len bs
SkipsHere Sdc braced begun len bs = (IsHashComment len bs × (braced ≡ false) × (begun ≡ false)) ⊎ IsContinuation len bs

pub skipped_front : (style : Style) (braced begun : Bool) (len c : ℕ) (cs : List ℕ) → SkipsHere style braced begun len (c ∷ cs) → front style braced begun c cs ≡ Passed len
skipped_front Verilog braced begun len c cs (inl s) = verilog_line c cs len s
skipped_front Verilog braced begun len c cs (inr b) = verilog_comment c cs len b
skipped_front Lib braced begun len c cs (inl b) = liberty_comment c cs len b
skipped_front Lib braced begun len c cs (inr t) = liberty_continuation c cs len t
skipped_front Spef braced begun len c cs s = spef_comment c cs len s
skipped_front Sdc braced begun len c cs (inl h) = rw (h.1, h.2) (sdc_comment c cs len h.0)
skipped_front Sdc braced begun len c cs (inr t) = sdc_continuation braced begun c cs len t
