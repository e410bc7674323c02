-- The steps of a search.

use Rattle.std.proofs.Common.{◌≡◌, ℕ, zero, suc, slice_get, ◌+◌, ◌-◌, ◌<◌, ◌==◌, Bool, true, false, ◌&&◌, ◌||◌, List, [], ◌∷◌, drop, length, refl, sym, ap, ◌∙◌, arith, if◌then◌else◌, ◌⊎◌, inl, inr}
use Rattle.std.proofs.lemmas.Bool.{cases_eq}
use Rattle.gs_text.specs.declared.kinds.Piece.{Piece}
use Rattle.gs_text.specs.declared.kinds.Style.{Style}
use Rattle.gs_text.specs.declared.kinds.Style.TheVariants.{Lib}
use Rattle.gs_locate.specs.Found.{passing}
use Rattle.gs_locate.specs.Liberty.{has_arg, opens_group}
use Rattle.gs_locate.specs.Nest.{depth_of, item_of, nest_of, nest_past}
use Rattle.gs_locate.specs.Piece.{is_any_mark, is_mark, is_name, mark_before}
use Rattle.gs_locate.specs.Statement.{ends, start_of}
use Rattle.gs_locate.specs.declared.nest.Nest.{Nest}

next : (at : ℕ) → suc at ≡ at + 1
next at = omega arith

-- where the statement of the piece after one begins
pub starts : (style : Style) (bytes : List ℕ) (ps : List Piece) (at start later : ℕ) → start ≡ start_of style bytes ps at
    → later ≡ (if ends style bytes ps at then at + 1 else start) → later ≡ start_of style bytes ps (at + 1)
starts style bytes ps at start later s e =
    e ∙ ap (λ x. if ends style bytes ps at then at + 1 else x) s
    ∙ ap (λ n. if ends style bytes ps at then n else start_of style bytes ps at) (sym (next at))
    ∙ ap (start_of style bytes ps) (next at)

-- what was answered of a place is so of the statement in which it stands
pub fails_at : (test : ℕ → Bool) (start known : ℕ) (result : Bool) → start ≡ known → result ≡ test start → result ≡ false → test known ≡ false
fails_at test start known result e is fails = ap test (sym e) ∙ sym is ∙ fails

none_at : (test : ℕ → Bool) (at k : ℕ) → ((k : ℕ) → k < at → test k ≡ false) → test at ≡ false → k < at + 1 → (k ≡ at) ⊎ (k ≡ at → ⊥) → test k ≡ false
none_at test at k before here lt (inl e) = ap test e ∙ here
none_at test at k before here lt (inr apart) = before k (omega (arith, apart))

-- none passes up to a place, and none at it
pub none_past : (test : ℕ → Bool) (at : ℕ) → ((k : ℕ) → k < at → test k ≡ false) → test at ≡ false → (k : ℕ) → k < at + 1 → test k ≡ false
none_past test at before here k lt = none_at test at k before here lt (cases_eq k at)

passing_suc : (test : ℕ → Bool) (at : ℕ) (b : Bool) → test at ≡ b → passing test (suc at) ≡ (if b then passing test at + 1 else passing test at)
passing_suc test at b e = ap (λ x. if x then passing test at + 1 else passing test at) e

-- one more passes
pub passing_more : (test : ℕ → Bool) (at n : ℕ) → test at ≡ true → n ≡ passing test at → n + 1 ≡ passing test (at + 1)
passing_more test at n e s = ap (λ k. k + 1) s ∙ sym (ap (passing test) (sym (next at)) ∙ passing_suc test at true e)

-- no more pass
pub passing_same : (test : ℕ → Bool) (at n : ℕ) → test at ≡ false → n ≡ passing test at → n ≡ passing test (at + 1)
passing_same test at n e s = s ∙ sym (ap (passing test) (sym (next at)) ∙ passing_suc test at false e)

-- the latest mark before a place, by the piece directly before it
pub mark_back : (ps : List Piece) (at : ℕ) (b : Bool) → 0 < at → is_any_mark (slice_get ps (at - 1)) ≡ b
    → mark_before ps at ≡ (if b then at - 1 else mark_before ps (at - 1))
mark_back ps zero b lt e = absurd (omega (arith, lt))
mark_back ps (suc at) b lt e =
    let same : suc at - 1 ≡ at = omega arith in
    ap (λ x. if x then at else mark_before ps at) (ap (λ k. is_any_mark (slice_get ps k)) (sym same) ∙ e)
    ∙ ap (λ k. if b then k else mark_before ps k) (sym same)

-- the groups around the next piece
pub nests_on : (bytes : List ℕ) (ps : List Piece) (at : ℕ) (n m : Nest) → n ≡ nest_of bytes ps at → m ≡ nest_past bytes ps n at → m ≡ nest_of bytes ps (at + 1)
nests_on bytes ps at n m e is =
    let deep = depth_of bytes ps (suc at) in
    let with_next : ℕ → Nest = λ k. record {
      depth = deep;
      cell = if ends Lib bytes ps at && (deep == 1) then k else item_of 1 bytes ps at;
      part = if ends Lib bytes ps at && (deep == 2) then k else item_of 2 bytes ps at;
      detail = if ends Lib bytes ps at && (deep == 3) then k else item_of 3 bytes ps at;
    } in
    is ∙ ap (λ x. nest_past bytes ps x at) e ∙ ap with_next (sym (next at)) ∙ ap (nest_of bytes ps) (next at)

opens_suc : (bytes : List ℕ) (ps : List Piece) (at : ℕ) → at < length ps
    → opens_group bytes (drop at ps) ≡ (if is_mark 41 bytes ps at then is_mark 123 bytes ps (suc at) else opens_group bytes (drop (suc at) ps))
opens_suc bytes [] at lt = absurd (omega (arith, lt))
opens_suc bytes (p ∷ ps) zero lt = refl
opens_suc bytes (p ∷ ps) (suc at) lt = opens_suc bytes ps at (omega (arith, lt))

-- the args from a place on, by the piece there
pub opens_on : (bytes : List ℕ) (ps : List Piece) (at : ℕ) (b : Bool) → at < length ps → is_mark 41 bytes ps at ≡ b
    → opens_group bytes (drop at ps) ≡ (if b then is_mark 123 bytes ps (at + 1) else opens_group bytes (drop (at + 1) ps))
opens_on bytes ps at b lt e =
    opens_suc bytes ps at lt
    ∙ ap (λ x. if x then is_mark 123 bytes ps (suc at) else opens_group bytes (drop (suc at) ps)) e
    ∙ ap (λ k. if b then is_mark 123 bytes ps k else opens_group bytes (drop k ps)) (next at)

arg_suc : (name bytes : List ℕ) (ps : List Piece) (at : ℕ) → at < length ps
    → has_arg name bytes (drop at ps) ≡ (if is_mark 41 bytes ps at then false else is_name name bytes ps at || has_arg name bytes (drop (suc at) ps))
arg_suc name bytes [] at lt = absurd (omega (arith, lt))
arg_suc name bytes (p ∷ ps) zero lt = refl
arg_suc name bytes (p ∷ ps) (suc at) lt = arg_suc name bytes ps at (omega (arith, lt))

pub arg_on : (name bytes : List ℕ) (ps : List Piece) (at : ℕ) (a b : Bool) → at < length ps → is_mark 41 bytes ps at ≡ a → is_name name bytes ps at ≡ b
    → has_arg name bytes (drop at ps) ≡ (if a then false else b || has_arg name bytes (drop (at + 1) ps))
arg_on name bytes ps at a b lt e f =
    arg_suc name bytes ps at lt
    ∙ ap (λ x. if x then false else is_name name bytes ps at || has_arg name bytes (drop (suc at) ps)) e
    ∙ ap (λ x. if a then false else x || has_arg name bytes (drop (suc at) ps)) f
    ∙ ap (λ k. if a then false else b || has_arg name bytes (drop k ps)) (next at)

-- a closing parenthesis ends the args
pub arg_ends : (name bytes : List ℕ) (ps : List Piece) (at : ℕ) → at < length ps → is_mark 41 bytes ps at ≡ true → has_arg name bytes (drop at ps) ≡ false
arg_ends name bytes ps at lt e = arg_on name bytes ps at true (is_name name bytes ps at) lt e refl
