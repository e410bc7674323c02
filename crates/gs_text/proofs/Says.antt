-- What is known of what begins at a byte.
use Rattle.std.proofs.Common.{◌≡◌, ◌≢◌, ◌⊎◌, ◌∙◌, sym, ap, refl, ℕ, zero, suc, ◌+◌, ◌-◌, ◌<◌, ◌≤◌, nat_lt, slice_index, get_or, Bool, true, false, cond, List, ◌∷◌, length, inl, inr, arith}
use Rattle.std.proofs.lemmas.Bool.Decides.{nat_tests}
use Rattle.std.proofs.lemmas.Bool.{cases_lt}
use Rattle.std.proofs.lemmas.List.{get_or_past}
use Rattle.gs_text.proofs.Until.{until-before, until-at, run-ends}
use Rattle.gs_text.specs.Bytes.{is_white}
use Rattle.gs_text.specs.Comments.{comment_front}
use Rattle.gs_text.specs.Skips.{IsBlockComment, IsSlashComment, IsHashComment, IsContinuation, IsRestOfLine}
use Rattle.gs_text.specs.Pieces.{opening_len, closing_len}
use Rattle.gs_text.specs.Runs.{until, is_newline, closes_comment}
use Rattle.gs_text.specs.Whole.{IsMark, IsWhole}
use Rattle.gs_text.specs.declared.kinds.Kind.{Kind}
use Rattle.gs_text.specs.declared.kinds.Kind.TheVariants.{Word, Escaped, Text, Mark}
use Rattle.gs_text.specs.declared.kinds.Style.{Style}
use Rattle.gs_text.specs.declared.kinds.Style.TheVariants.{Verilog, Lib, Spef, Sdc}
use Rattle.gs_text.specs.declared.scan.Front.{Front}
use Rattle.gs_text.specs.declared.scan.Front.TheVariants.{Gap, Found, Passed, OpenString, OpenComment}

-- the test holds of no byte among the first n
abbrev pub Free : (ℕ → Bool) → ℕ → List ℕ → Type 0
Free test n bs = (k : ℕ) → k < n → test (get_or bs k 0) ≡ false

-- none is white
abbrev pub Solid : ℕ → List ℕ → Type 0
Solid n bs = Free is_white n bs

-- no piece but a string has white, and an escaped name has more than its backslash
abbrev pub IsSolid : Kind → ℕ → List ℕ → Type 0
IsSolid Word len bs = Solid len bs
IsSolid Escaped len bs = (1 < len) × Solid len bs
IsSolid Text len bs = Unit {0}
IsSolid Mark len bs = Solid len bs

-- so many of these bytes are a piece
pub record IsFound (style : Style) (braced begun : Bool) (kind : Kind) (len : ℕ) (bs : List ℕ) : Type 0 where
  pub room : opening_len kind + closing_len kind ≤ len
  pub some : 0 < len
  pub within : len ≤ length bs
  pub solid : IsSolid kind len bs
  pub whole : IsWhole style braced begun kind len bs

-- they are a comment or a continued line end, wherever they stand
abbrev pub Skips : Style → (len : ℕ) → List ℕ → Type 0
Skips Verilog len bs = IsSlashComment len bs ⊎ IsBlockComment len bs
Skips Lib len bs = IsBlockComment len bs ⊎ IsContinuation len bs
Skips Spef len bs = IsSlashComment len bs
Skips Sdc len bs = IsHashComment len bs ⊎ IsContinuation len bs

-- so many bytes are a comment or a continued line end
pub record IsPassed (style : Style) (len : ℕ) (bs : List ℕ) : Type 0 where
  pub some : 0 < len
  pub within : len ≤ length bs
  pub skipped : Skips style len bs

-- a comment opens, and nothing closes it
pub record IsUnclosed (bs : List ℕ) : Type 0 where
  pub slash : slice_index bs 0 ≡ 47
  pub star : slice_index bs 1 ≡ 42
  pub none : (k : ℕ) → 1 < k → k < length bs → slice_index bs k ≡ 42 → slice_index bs (k + 1) ≢ 47

-- a string opens, and nothing closes it
pub record IsUnquoted (bs : List ℕ) : Type 0 where
  pub quote : slice_index bs 0 ≡ 34
  pub none : (k : ℕ) → 0 < k → k < length bs → slice_index bs k ≢ 34

abbrev pub OpensString : Style → List ℕ → Type 0
OpensString Verilog bs = ⊥
OpensString Lib bs = IsUnquoted bs
OpensString Spef bs = ⊥
OpensString Sdc bs = ⊥

abbrev pub OpensComment : Style → List ℕ → Type 0
OpensComment Verilog bs = IsUnclosed bs
OpensComment Lib bs = IsUnclosed bs
OpensComment Spef bs = ⊥
OpensComment Sdc bs = ⊥

-- what f says of the bytes that it begins with
abbrev pub Says : Style → (braced begun : Bool) → List ℕ → Front → Type 0
Says style braced begun bs Gap = is_white (slice_index bs 0) ≡ true
Says style braced begun bs (Found kind len) = IsFound style braced begun kind len bs
Says style braced begun bs (Passed len) = IsPassed style len bs
Says style braced begun bs OpenString = OpensString style bs
Says style braced begun bs OpenComment = OpensComment style bs

pub either : (P : Front → Type 0) (b : Bool) (f g : Front) → (b ≡ true → P f) → (b ≡ false → P g) → P (cond b f g)
either P true f g p q = p refl
either P false f g p q = q refl

pub after_first : (test : ℕ → Bool) (c n : ℕ) (cs : List ℕ) → test c ≡ false → Free test n cs → Free test (n + 1) (c ∷ cs)
after_first test c n cs e s zero lt = e
after_first test c n cs e s (suc k) lt = s k (omega arith)

-- a run that ends before white at the latest has none
pub solid_run : (test : ℕ → ℕ → Bool) → ((b next : ℕ) → test b next ≡ false → is_white b ≡ false) → (c : ℕ) (cs : List ℕ) → is_white c ≡ false → Solid (until test cs + 1) (c ∷ cs)
solid_run test stops c cs e = after_first is_white c (until test cs) cs e (λ k lt. stops (get_or cs k 0) (get_or cs (k + 1) 0) (until-before test cs k lt))

-- one byte that is no white
pub one-solid : (c : ℕ) (cs : List ℕ) → is_white c ≡ false → Solid 1 (c ∷ cs)
one-solid c cs e zero lt = e
one-solid c cs e (suc k) lt = absurd (omega arith)

pub a_mark : (style : Style) (braced begun : Bool) (c : ℕ) (cs : List ℕ) → is_white c ≡ false → IsMark style braced (c ∷ cs) → IsFound style braced begun Mark 1 (c ∷ cs)
a_mark style braced begun c cs e mark = record { room = omega arith; some = omega arith; within = omega arith; solid = one-solid c cs e; whole = (refl, mark) }

-- a comment up to the end of its line
no_newline : (c : ℕ) → is_newline c 0 ≡ false → c ≢ 10
no_newline c e = grind (arith, nat_tests)

is_ten : (c : ℕ) → is_newline c 0 ≡ true → c ≡ 10
is_ten c e = grind (arith, nat_tests)

pub rest_of_line : (c : ℕ) (cs : List ℕ) → c ≢ 10 → IsRestOfLine (until is_newline cs + 1) (c ∷ cs)
rest_of_line c cs first = record {
  one_line = one_line;
  ends = elim (run-ends is_newline c cs) [
    | inl e ↦ inl e
    | inr t ↦ inr (is_ten (slice_index (c ∷ cs) (until is_newline cs + 1)) t)
  ];
}
  where
    one_line : (k : ℕ) → k < until is_newline cs + 1 → slice_index (c ∷ cs) k ≢ 10
    one_line zero lt = first
    one_line (suc k) lt = no_newline (get_or cs k 0) (until-before is_newline cs k (omega arith))

-- a comment between slash and star, and star and slash
not_closing : (c d : ℕ) → closes_comment c d ≡ false → c ≡ 42 → d ≢ 47
not_closing c d e f g = grind (arith, nat_tests)

closing : (c d : ℕ) → closes_comment c d ≡ true → (c ≡ 42) × (d ≡ 47)
closing c d e = (grind (arith, nat_tests), grind (arith, nat_tests))

-- the comment that is found after a slash and a star is whole, or nothing closes it
abbrev pub CommentSays : List ℕ → Front → Type 0
CommentSays bs Gap = ⊥
CommentSays bs (Found kind len) = ⊥
CommentSays bs (Passed len) = (0 < len) × (len ≤ length bs) × IsBlockComment len bs
CommentSays bs OpenString = ⊥
CommentSays bs OpenComment = IsUnclosed bs

lt_true : (m n : ℕ) → nat_lt m n ≡ true → m < n
lt_true m n e = grind (arith, nat_tests)

lt_false : (m n : ℕ) → nat_lt m n ≡ false → n ≤ m
lt_false m n e = grind (arith, nat_tests)

slash_within : (n : ℕ) (bs : List ℕ) → get_or bs n 0 ≡ 47 → n < length bs
slash_within n bs e = elim (cases_lt n (length bs)) [
  | inl lt ↦ lt
  | inr le ↦ absurd (zero_is (get_or_past bs n 0 le ∙ refl) e)
]
  where
    zero_is : {x : ℕ} → x ≡ 0 → x ≡ 47 → ⊥
    zero_is z f = omega (arith, z, f)

pub comment_end-within : (bs : List ℕ) → until closes_comment bs < length bs → until closes_comment bs + 1 < length bs
comment_end-within bs lt = slash_within (until closes_comment bs + 1) bs (closing (get_or bs (until closes_comment bs) 0) (get_or bs (until closes_comment bs + 1) 0) (until-at closes_comment bs lt)).1

two_on : (a b : ℕ) (bs : List ℕ) (k : ℕ) → get_or (a ∷ b ∷ bs) (k + 2) 0 ≡ get_or bs k 0
two_on a b bs k = let e : k + 2 ≡ suc (suc k) = omega arith in ap (λ i. get_or (a ∷ b ∷ bs) i 0) e

pub comment_says : (a b : ℕ) (bs : List ℕ) → a ≡ 47 → b ≡ 42 → CommentSays (a ∷ b ∷ bs) (comment_front bs)
comment_says a b bs sl st =
    let n : ℕ = until closes_comment bs in
    let at : (k : ℕ) → 2 ≤ k → slice_index (a ∷ b ∷ bs) k ≡ get_or bs (k - 2) 0 = λ k le.
    let e : k - 2 + 2 ≡ k = omega arith in
    ap (λ i. get_or (a ∷ b ∷ bs) i 0) (sym e) ∙ two_on a b bs (k - 2) in
    let free : (k : ℕ) → 2 ≤ k → k - 2 < n → slice_index (a ∷ b ∷ bs) k ≡ 42 → slice_index (a ∷ b ∷ bs) (k + 1) ≢ 47 = λ k le lt first second.
    let e : k + 1 - 2 ≡ k - 2 + 1 = omega arith in
    not_closing (get_or bs (k - 2) 0) (get_or bs (k - 2 + 1) 0) (until-before closes_comment bs (k - 2) lt) (sym (at k le) ∙ first) (ap (λ i. get_or bs i 0) (sym e) ∙ sym (at (k + 1) (omega arith)) ∙ second) in
    either (CommentSays (a ∷ b ∷ bs)) (nat_lt n (length bs)) _ _
    (λ e.
    let lt : n < length bs = lt_true n (length bs) e in
    let c : (get_or bs n 0 ≡ 42) × (get_or bs (n + 1) 0 ≡ 47) = closing (get_or bs n 0) (get_or bs (n + 1) 0) (until-at closes_comment bs lt) in
    let within : n + 1 < length bs = comment_end-within bs lt in
    let star_at : n + 4 - 2 - 2 ≡ n = omega arith in
    let slash_at : n + 4 - 1 - 2 ≡ n + 1 = omega arith in (
      omega arith,
      omega arith,
      record {
        size = omega arith;
        slash = sl;
        star = st;
        closing_star = at (n + 4 - 2) (omega arith) ∙ ap (λ i. get_or bs i 0) star_at ∙ c.0;
        closing_slash = at (n + 4 - 1) (omega arith) ∙ ap (λ i. get_or bs i 0) slash_at ∙ c.1;
        first = λ k le lt. free k le (omega arith);
      },
    ))
    (λ e.
    let ge : length bs ≤ n = lt_false n (length bs) e in
    record { slash = sl; star = st; none = λ k more lt. free k (omega arith) (omega arith) })
