-- The limit on parentheses: a run without it keeps it exactly where the tokens are no deeper.

use Rattle.std.proofs.Common.{◌≡◌, ℕ, ◌+◌, ◌≤◌, max, Bool, true, false, nat_lt, List, [], ◌∷◌, ◌++◌, length, refl, sym, ap, subst, ◌∙◌, Result, Ok, Err, IfOk, arith}
use Rattle.std.proofs.lemmas.Bool.Decides.{nat_tests}
use Rattle.gs_grammar.specs.Machine.{run}
use Rattle.gs_grammar.proofs.Runs.{run-nil, run-ok, begins}
use Rattle.gs_expr.specs.Token.{Token, operand, bang, tick, star, caret, plus, opens, closes, other}
use Rattle.gs_expr.specs.Tree.{Post, open_after, depth_from}
use Rattle.gs_expr.specs.declared.error.StepErr.{StepErr}
use Rattle.gs_expr.specs.declared.error.StepErr.TheVariants.{Bad, Deep}
use Rattle.gs_expr.proofs.Trees.{Frame, Place, want, have, State, Room, limit, no_limit, entered, wants, left, has, step_at, step}

-- how many parentheses are open after the tokens where n are open before them
abbrev pub opened : ℕ → List Token → ℕ
opened n [] = n
opened n (t ∷ ts) = opened (open_after n t) ts

-- ---- a step counts

abbrev Counts : ℕ → Token → Result State StepErr → Type 0
Counts n t r = IfOk r (λ m. open_after n t ≡ length m.outer)

enters_counts : (b : Bool) (f : Frame) (fs : List Frame) → Counts (length fs) opens (entered b f fs)
enters_counts true f fs = omega arith
enters_counts false f fs = tt

wants_counts : (room : Room) (f : Frame) (fs : List Frame) (t : Token) → Counts (length fs) t (wants room f fs t)
wants_counts room f fs (operand l) = refl
wants_counts room f fs bang = refl
wants_counts room f fs tick = tt
wants_counts room f fs star = tt
wants_counts room f fs caret = tt
wants_counts room f fs plus = tt
wants_counts room f fs opens = enters_counts (room (length fs)) f fs
wants_counts room f fs closes = tt
wants_counts room f fs other = tt

left_counts : (p : Post) (fs : List Frame) → Counts (length fs) closes (left p fs)
left_counts p [] = tt
left_counts p (f ∷ fs) = omega arith

has_counts : (room : Room) (p : Post) (f : Frame) (fs : List Frame) (t : Token) → Counts (length fs) t (has room p f fs t)
has_counts room p f fs (operand l) = refl
has_counts room p f fs bang = refl
has_counts room p f fs tick = refl
has_counts room p f fs star = refl
has_counts room p f fs caret = refl
has_counts room p f fs plus = refl
has_counts room p f fs opens = enters_counts (room (length fs)) _ fs
has_counts room p f fs closes = left_counts _ fs
has_counts room p f fs other = tt

step_counts_at : (room : Room) (p : Place) (f : Frame) (fs : List Frame) (t : Token) → Counts (length fs) t (step_at room p f fs t)
step_counts_at room want f fs t = wants_counts room f fs t
step_counts_at room (have p) f fs t = has_counts room p f fs t

pub step_counts : (room : Room) (s m : State) (t : Token) → step room s t ≡ Ok m → open_after (length s.outer) t ≡ length m.outer
step_counts room s m t h = subst (Counts (length s.outer) t) h (step_counts_at room s.place s.frame s.outer t)

pub run_counts : (room : Room) (s m : State) (ts : List Token) → run (step room) s ts ≡ Ok m → opened (length s.outer) ts ≡ length m.outer
run_counts room s m [] h = let e : s ≡ m = cc (run-nil (step room) s) in ap (λ (x : State). length x.outer) e
run_counts room s m (t ∷ ts) h =
    let b = begins (step room) s m t ts h in
    ap (λ n. opened n ts) (step_counts room s b.middle t b.first) ∙ run_counts room b.middle m ts b.rest

-- ---- the limit and its absence

-- what the limit makes of a step where n parentheses are open: it lets it be, or refuses a parenthesis that would be too deep
pub data Limited (n : ℕ) (t : Token) (strict free : Result State StepErr) : Type 0 where
  passes : (m : State) → strict ≡ Ok m → free ≡ Ok m → (n ≤ 64 → open_after n t ≤ 64) → Limited n t strict free
  bad : strict ≡ Err Bad → free ≡ Err Bad → Limited n t strict free
  deep : (m : State) → strict ≡ Err Deep → free ≡ Ok m → t ≡ opens → 64 ≤ n → Limited n t strict free

enters_limited : (b : Bool) (f : Frame) (fs : List Frame) → nat_lt (length fs) 64 ≡ b → Limited (length fs) opens (entered b f fs) (entered true f fs)
enters_limited true f fs e = passes _ refl refl (λ le. grind (arith, nat_tests, e))
enters_limited false f fs e = deep _ refl refl refl (grind (arith, nat_tests, e))

wants_limited : (f : Frame) (fs : List Frame) (t : Token) → Limited (length fs) t (wants limit f fs t) (wants no_limit f fs t)
wants_limited f fs (operand l) = passes _ refl refl (λ le. le)
wants_limited f fs bang = passes _ refl refl (λ le. le)
wants_limited f fs tick = bad refl refl
wants_limited f fs star = bad refl refl
wants_limited f fs caret = bad refl refl
wants_limited f fs plus = bad refl refl
wants_limited f fs opens = enters_limited (nat_lt (length fs) 64) f fs refl
wants_limited f fs closes = bad refl refl
wants_limited f fs other = bad refl refl

left_limited : (p : Post) (fs : List Frame) → Limited (length fs) closes (left p fs) (left p fs)
left_limited p [] = bad refl refl
left_limited p (f ∷ fs) = passes _ refl refl (λ le. omega (arith, le))

has_limited : (p : Post) (f : Frame) (fs : List Frame) (t : Token) → Limited (length fs) t (has limit p f fs t) (has no_limit p f fs t)
has_limited p f fs (operand l) = passes _ refl refl (λ le. le)
has_limited p f fs bang = passes _ refl refl (λ le. le)
has_limited p f fs tick = passes _ refl refl (λ le. le)
has_limited p f fs star = passes _ refl refl (λ le. le)
has_limited p f fs caret = passes _ refl refl (λ le. le)
has_limited p f fs plus = passes _ refl refl (λ le. le)
has_limited p f fs opens = enters_limited (nat_lt (length fs) 64) _ fs refl
has_limited p f fs closes = left_limited _ fs
has_limited p f fs other = bad refl refl

limited_at : (p : Place) (f : Frame) (fs : List Frame) (t : Token) → Limited (length fs) t (step_at limit p f fs t) (step_at no_limit p f fs t)
limited_at want f fs t = wants_limited f fs t
limited_at (have p) f fs t = has_limited p f fs t

pub limited : (s : State) (t : Token) → Limited (length s.outer) t (step limit s t) (step no_limit s t)
limited s t = limited_at s.place s.frame s.outer t

-- ---- a run within the limit

pub record Within (s m : State) (ts : List Token) : Type 0 where
  pub free : run (step no_limit) s ts ≡ Ok m
  pub shallow : depth_from (length s.outer) ts ≤ 64

within_more : (s b m : State) (t : Token) (ts : List Token) → length s.outer ≤ 64 → step limit s t ≡ Ok b
    → Limited (length s.outer) t (step limit s t) (step no_limit s t) → (length b.outer ≤ 64 → Within b m ts) → Within s m (t ∷ ts)
within_more s b m t ts le e (passes n strict free fits) later =
    let same : n ≡ b = cc (strict, e) in
    let counts : open_after (length s.outer) t ≡ length b.outer = step_counts limit s b t e in
    let w = later (subst (λ k. k ≤ 64) counts (fits le)) in
    let deep : depth_from (open_after (length s.outer) t) ts ≤ 64 = subst (λ k. depth_from k ts ≤ 64) (sym counts) w.shallow in
    record {
      free = run-ok (step no_limit) s b t ts (free ∙ ap Ok same) ∙ w.free;
      shallow = omega (arith, le, deep);
    }
within_more s b m t ts le e (bad strict free) later = let never : Ok b ≡ Err Bad = sym e ∙ strict in cc
within_more s b m t ts le e (deep n strict free is full) later = let never : Ok b ≡ Err Deep = sym e ∙ strict in cc

-- a run within the limit is a run without it, and its tokens are shallow
pub within : (s m : State) (ts : List Token) → length s.outer ≤ 64 → run (step limit) s ts ≡ Ok m → Within s m ts
within s m [] le h =
    let same : s ≡ m = cc (run-nil (step limit) s) in
    record { free = run-nil (step no_limit) s ∙ ap Ok same; shallow = le }
within s m (t ∷ ts) le h =
    let b = begins (step limit) s m t ts h in
    within_more s b.middle m t ts le b.first (limited s t) (λ fits. within b.middle m ts fits b.rest)

depth_start : (n : ℕ) (ts : List Token) → n ≤ depth_from n ts
depth_start n [] = omega arith
depth_start n (t ∷ ts) = omega arith

keeps_more : (s b m : State) (t : Token) (ts : List Token) → step no_limit s t ≡ Ok b
    → Limited (length s.outer) t (step limit s t) (step no_limit s t) → max (length s.outer) (depth_from (open_after (length s.outer) t) ts) ≤ 64
    → (depth_from (length b.outer) ts ≤ 64 → run (step limit) b ts ≡ Ok m) → run (step limit) s (t ∷ ts) ≡ Ok m
keeps_more s b m t ts e (passes n strict free fits) le later =
    let same : n ≡ b = cc (free, e) in
    let counts : open_after (length s.outer) t ≡ length b.outer = step_counts no_limit s b t e in
    let rest : depth_from (open_after (length s.outer) t) ts ≤ 64 = omega (arith, le) in
    run-ok (step limit) s b t ts (strict ∙ ap Ok same) ∙ later (subst (λ k. depth_from k ts ≤ 64) counts rest)
keeps_more s b m t ts e (bad strict free) le later = let never : Ok b ≡ Err Bad = sym e ∙ free in cc
keeps_more s b m t ts e (deep n strict free is full) le later =
    let more : open_after (length s.outer) t ≡ length s.outer + 1 = ap (open_after (length s.outer)) is in
    absurd (omega (arith, le, full, more, depth_start (open_after (length s.outer) t) ts))

-- a run without the limit over shallow tokens keeps it
pub keeps : (s m : State) (ts : List Token) → depth_from (length s.outer) ts ≤ 64 → run (step no_limit) s ts ≡ Ok m → run (step limit) s ts ≡ Ok m
keeps s m [] le h = let same : s ≡ m = cc (run-nil (step no_limit) s) in run-nil (step limit) s ∙ ap Ok same
keeps s m (t ∷ ts) le h =
    let b = begins (step no_limit) s m t ts h in
    keeps_more s b.middle m t ts b.first (limited s t) le (λ fits. keeps b.middle m ts fits b.rest)

-- the depth of one token more
pub depth_push : (n : ℕ) (ts : List Token) (t : Token) → depth_from n (ts ++ t ∷ []) ≡ max (depth_from n ts) (open_after (opened n ts) t)
depth_push n [] t = refl
depth_push n (u ∷ ts) t = omega (arith, depth_push (open_after n u) ts t)

-- no more are open than at the deepest place
pub opened_depth : (n : ℕ) (ts : List Token) → opened n ts ≤ depth_from n ts
opened_depth n [] = omega arith
opened_depth n (t ∷ ts) = omega (arith, opened_depth (open_after n t) ts)
