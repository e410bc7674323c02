-- Without the limit the machine takes the spelling of each tree, and each state that it reaches can be finished.

use Rattle.std.proofs.Common.{◌≡◌, ℕ, zero, suc, Bool, true, false, List, [], ◌∷◌, ◌++◌, refl, sym, ap, subst, ◌∙◌, Option, Some, None, Result, Ok, append_assoc, append-nil}
use Rattle.gs_grammar.specs.Machine.{run}
use Rattle.gs_grammar.proofs.Runs.{run-nil, run-ok, run-append, run-front}
use Rattle.gs_expr.specs.Token.{Token, low, operand, bang, tick, star, caret, plus, opens, closes, other}
use Rattle.gs_expr.specs.Tree.{Or, just_and, plus_of, And, just_xor, star_of, beside, Xor, just_not, caret_of, Not, just_post, bang_of, Post, leaf, group, tick_of, or_tokens, and_tokens, xor_tokens, not_tokens, post_tokens, IsFront}
use Rattle.gs_expr.specs.declared.error.StepErr.{StepErr}
use Rattle.gs_expr.proofs.Sound.{sound}
use Rattle.gs_expr.proofs.Trees.{Factors, no_factor, before_star, next_to, Frame, Place, want, have, State, at, frame_of, fresh, start, with_bangs, xor_with, and_with, or_with, xor_of, and_of, or_of, after_none, no_limit, step}

abbrev go : State → Token → Result State StepErr
go = step no_limit

-- ---- where the spelling of a tree ends

abbrev bangs_after : ℕ → Not → ℕ
bangs_after k (just_post p) = k
bangs_after k (bang_of n) = bangs_after (suc k) n

abbrev not_post : Not → Post
not_post (just_post p) = p
not_post (bang_of n) = not_post n

abbrev xor_parity : Xor → Option Xor
xor_parity (just_not n) = None
xor_parity (caret_of x n) = Some x

abbrev xor_last : Xor → Not
xor_last (just_not n) = n
xor_last (caret_of x n) = n

abbrev and_factors : And → Factors
and_factors (just_xor x) = no_factor
and_factors (star_of a x) = before_star a
and_factors (beside a x) = next_to a

abbrev and_last : And → Xor
and_last (just_xor x) = x
and_last (star_of a x) = x
and_last (beside a x) = x

abbrev or_sum : Or → Option Or
or_sum (just_and a) = None
or_sum (plus_of o a) = Some o

abbrev or_last : Or → And
or_last (just_and a) = a
or_last (plus_of o a) = a

abbrev xor_frame : Option Or → Factors → Xor → Frame
xor_frame s g x = frame_of s g (xor_parity x) (bangs_after zero (xor_last x))

abbrev xor_post : Xor → Post
xor_post x = not_post (xor_last x)

abbrev and_frame : Option Or → And → Frame
and_frame s a = xor_frame s (and_factors a) (and_last a)

abbrev and_post : And → Post
and_post a = xor_post (and_last a)

abbrev pub or_frame : Or → Frame
or_frame o = and_frame (or_sum o) (or_last o)

abbrev pub or_post : Or → Post
or_post o = and_post (or_last o)

bang_in : (k : ℕ) (n : Not) → with_bangs k (bang_of n) ≡ bang_of (with_bangs k n)
bang_in zero n = refl
bang_in (suc k) n = ap bang_of (bang_in k n)

bangs_back : (k : ℕ) (n : Not) → with_bangs (bangs_after k n) (just_post (not_post n)) ≡ with_bangs k n
bangs_back k (just_post p) = refl
bangs_back k (bang_of n) = bangs_back (suc k) n ∙ sym (bang_in k n)

xor_join : (x : Xor) → xor_with (xor_parity x) (xor_last x) ≡ x
xor_join (just_not n) = refl
xor_join (caret_of x n) = refl

and_join : (a : And) → and_with (and_factors a) (and_last a) ≡ a
and_join (just_xor x) = refl
and_join (star_of a x) = refl
and_join (beside a x) = refl

or_join : (o : Or) → or_with (or_sum o) (or_last o) ≡ o
or_join (just_and a) = refl
or_join (plus_of o a) = refl

xor_back : (s : Option Or) (g : Factors) (x : Xor) → xor_of (xor_frame s g x) (xor_post x) ≡ x
xor_back s g x = ap (xor_with (xor_parity x)) (bangs_back zero (xor_last x)) ∙ xor_join x

and_back : (s : Option Or) (a : And) → and_of (and_frame s a) (and_post a) ≡ a
and_back s a = ap (and_with (and_factors a)) (xor_back s (and_factors a) (and_last a)) ∙ and_join a

pub or_back : (o : Or) → or_of (or_frame o) (or_post o) ≡ o
or_back o = ap (or_with (or_sum o)) (and_back (or_sum o) (or_last o)) ∙ or_join o

-- ---- the runs

-- from one state to another over these tokens, whatever follows
abbrev Run : State → List Token → State → List Token → Type 0
Run s ts m us = run go s (ts ++ us) ≡ run go m us

-- an operand may begin with this token
abbrev is_start : Token → Bool
is_start (operand l) = true
is_start bang = true
is_start tick = false
is_start star = false
is_start caret = false
is_start plus = false
is_start opens = true
is_start closes = false
is_start other = false

-- the list begins with a token that an operand may begin with
record Starts (ts : List Token) : Type 0 where
  first : Token
  more : List Token
  list : ts ≡ first ∷ more
  good : is_start first ≡ true

starts_more : (ts us : List Token) → Starts ts → Starts (ts ++ us)
starts_more ts us s = record { first = s.first; more = s.more ++ us; list = ap (λ vs. vs ++ us) s.list; good = s.good }

mutual
  or_starts : (o : Or) → Starts (or_tokens o)
  or_starts (just_and a) = and_starts a
  or_starts (plus_of o a) = starts_more (or_tokens o) (plus ∷ and_tokens a) (or_starts o)

  and_starts : (a : And) → Starts (and_tokens a)
  and_starts (just_xor x) = xor_starts x
  and_starts (star_of a x) = starts_more (and_tokens a) (star ∷ xor_tokens x) (and_starts a)
  and_starts (beside a x) = starts_more (and_tokens a) (xor_tokens x) (and_starts a)

  xor_starts : (x : Xor) → Starts (xor_tokens x)
  xor_starts (just_not n) = not_starts n
  xor_starts (caret_of x n) = starts_more (xor_tokens x) (caret ∷ not_tokens n) (xor_starts x)

  not_starts : (n : Not) → Starts (not_tokens n)
  not_starts (just_post p) = post_starts p
  not_starts (bang_of n) = record { first = bang; more = not_tokens n; list = refl; good = refl }

  post_starts : (p : Post) → Starts (post_tokens p)
  post_starts (leaf l) = record { first = operand l; more = []; list = refl; good = refl }
  post_starts (group o) = record { first = opens; more = or_tokens o ++ closes ∷ []; list = refl; good = refl }
  post_starts (tick_of p) = starts_more (post_tokens p) (tick ∷ []) (post_starts p)

neighbour_at : (p : Post) (f : Frame) (fs : List Frame) (t : Token) (us : List Token) → is_start t ≡ true
    → run go (at (have p) f fs) (t ∷ us) ≡ run go (at want (after_none f p) fs) (t ∷ us)
unfolding run
neighbour_at p f fs (operand l) us h = refl
neighbour_at p f fs bang us h = refl
neighbour_at p f fs tick us h = cc
neighbour_at p f fs star us h = cc
neighbour_at p f fs caret us h = cc
neighbour_at p f fs plus us h = cc
neighbour_at p f fs opens us h = refl
neighbour_at p f fs closes us h = cc
neighbour_at p f fs other us h = cc

-- without an operator the next operand is a neighbour
neighbour : (p : Post) (f : Frame) (fs : List Frame) (ts us : List Token) → Starts ts
    → run go (at (have p) f fs) (ts ++ us) ≡ run go (at want (after_none f p) fs) (ts ++ us)
neighbour p f fs ts us s =
    let list : ts ++ us ≡ s.first ∷ (s.more ++ us) = ap (λ vs. vs ++ us) s.list in
    ap (run go (at (have p) f fs)) list ∙ neighbour_at p f fs s.first (s.more ++ us) s.good ∙ sym (ap (run go (at want (after_none f p) fs)) list)

mutual
  or_run : (o : Or) (fs : List Frame) (us : List Token) → Run (at want fresh fs) (or_tokens o) (at (have (or_post o)) (or_frame o) fs) us
  or_run (just_and a) fs us = and_run a None fs us
  or_run (plus_of o a) fs us =
      ap (run go (at want fresh fs)) (append_assoc (or_tokens o) (plus ∷ and_tokens a) us)
      ∙ or_run o fs (plus ∷ (and_tokens a ++ us))
      ∙ run-ok go (at (have (or_post o)) (or_frame o) fs) (at want (frame_of (Some o) no_factor None zero) fs) plus (and_tokens a ++ us) (ap (λ q. Ok (at want (frame_of (Some q) no_factor None zero) fs)) (or_back o))
      ∙ and_run a (Some o) fs us

  and_run : (a : And) (s : Option Or) (fs : List Frame) (us : List Token)
      → Run (at want (frame_of s no_factor None zero) fs) (and_tokens a) (at (have (and_post a)) (and_frame s a) fs) us
  and_run (just_xor x) s fs us = xor_run x s no_factor fs us
  and_run (star_of a x) s fs us =
      ap (run go (at want (frame_of s no_factor None zero) fs)) (append_assoc (and_tokens a) (star ∷ xor_tokens x) us)
      ∙ and_run a s fs (star ∷ (xor_tokens x ++ us))
      ∙ run-ok go (at (have (and_post a)) (and_frame s a) fs) (at want (frame_of s (before_star a) None zero) fs) star (xor_tokens x ++ us) (ap (λ q. Ok (at want (frame_of s (before_star q) None zero) fs)) (and_back s a))
      ∙ xor_run x s (before_star a) fs us
  and_run (beside a x) s fs us =
      ap (run go (at want (frame_of s no_factor None zero) fs)) (append_assoc (and_tokens a) (xor_tokens x) us)
      ∙ and_run a s fs (xor_tokens x ++ us)
      ∙ neighbour (and_post a) (and_frame s a) fs (xor_tokens x) us (xor_starts x)
      ∙ ap (λ q. run go (at want (frame_of s (next_to q) None zero) fs) (xor_tokens x ++ us)) (and_back s a)
      ∙ xor_run x s (next_to a) fs us

  xor_run : (x : Xor) (s : Option Or) (g : Factors) (fs : List Frame) (us : List Token)
      → Run (at want (frame_of s g None zero) fs) (xor_tokens x) (at (have (xor_post x)) (xor_frame s g x) fs) us
  xor_run (just_not n) s g fs us = not_run n s g None zero fs us
  xor_run (caret_of x n) s g fs us =
      ap (run go (at want (frame_of s g None zero) fs)) (append_assoc (xor_tokens x) (caret ∷ not_tokens n) us)
      ∙ xor_run x s g fs (caret ∷ (not_tokens n ++ us))
      ∙ run-ok go (at (have (xor_post x)) (xor_frame s g x) fs) (at want (frame_of s g (Some x) zero) fs) caret (not_tokens n ++ us) (ap (λ q. Ok (at want (frame_of s g (Some q) zero) fs)) (xor_back s g x))
      ∙ not_run n s g (Some x) zero fs us

  not_run : (n : Not) (s : Option Or) (g : Factors) (x : Option Xor) (k : ℕ) (fs : List Frame) (us : List Token)
      → Run (at want (frame_of s g x k) fs) (not_tokens n) (at (have (not_post n)) (frame_of s g x (bangs_after k n)) fs) us
  not_run (just_post p) s g x k fs us = post_run p (frame_of s g x k) fs us
  not_run (bang_of n) s g x k fs us =
      run-ok go (at want (frame_of s g x k) fs) (at want (frame_of s g x (suc k)) fs) bang (not_tokens n ++ us) refl
      ∙ not_run n s g x (suc k) fs us

  post_run : (p : Post) (f : Frame) (fs : List Frame) (us : List Token) → Run (at want f fs) (post_tokens p) (at (have p) f fs) us
  post_run (leaf l) f fs us = run-ok go (at want f fs) (at (have (leaf l)) f fs) (operand l) us refl
  post_run (group o) f fs us =
      run-ok go (at want f fs) (at want fresh (f ∷ fs)) opens ((or_tokens o ++ closes ∷ []) ++ us) refl
      ∙ ap (run go (at want fresh (f ∷ fs))) (append_assoc (or_tokens o) (closes ∷ []) us)
      ∙ or_run o (f ∷ fs) (closes ∷ us)
      ∙ run-ok go (at (have (or_post o)) (or_frame o) (f ∷ fs)) (at (have (group o)) f fs) closes us (ap (λ q. Ok (at (have (group q)) f fs)) (or_back o))
  post_run (tick_of p) f fs us =
      ap (run go (at want f fs)) (append_assoc (post_tokens p) (tick ∷ []) us)
      ∙ post_run p f fs (tick ∷ us)
      ∙ run-ok go (at (have p) f fs) (at (have (tick_of p)) f fs) tick us refl

-- the spelling of a tree is taken, up to the tree's last operand
pub complete : (o : Or) → run go start (or_tokens o) ≡ Ok (at (have (or_post o)) (or_frame o) [])
complete o = ap (run go start) (sym (append-nil (or_tokens o))) ∙ or_run o [] [] ∙ run-nil go (at (have (or_post o)) (or_frame o) [])

-- what begins an expression is taken
pub front_taken : (ts : List Token) → IsFront ts → (m : State) × (run go start ts ≡ Ok m)
front_taken ts f =
    let whole : or_tokens f.1.0 ≡ ts ++ f.0 = sym f.1.1 in
    let all = subst (λ us. run go start us ≡ Ok (at (have (or_post f.1.0)) (or_frame f.1.0) [])) whole (complete f.1.0) in
    run-front go start (at (have (or_post f.1.0)) (or_frame f.1.0) []) ts f.0 all

-- ---- each state can be finished

record Finishes (s : State) : Type 0 where
  more : List Token
  post : Post
  frame : Frame
  all : run go s more ≡ Ok (at (have post) frame [])

close : (fs : List Frame) (p : Post) (f : Frame) → Finishes (at (have p) f fs)
close [] p f = record { more = []; post = p; frame = f; all = run-nil go (at (have p) f []) }
close (g ∷ fs) p f =
    let q = close fs (group (or_of f p)) g in
    record {
      more = closes ∷ q.more;
      post = q.post;
      frame = q.frame;
      all = run-ok go (at (have p) f (g ∷ fs)) (at (have (group (or_of f p))) g fs) closes q.more refl ∙ q.all;
    }

finish_at : (p : Place) (f : Frame) (fs : List Frame) → Finishes (at p f fs)
finish_at (have p) f fs = close fs p f
finish_at want f fs =
    let q = close fs (leaf low) f in
    record {
      more = operand low ∷ q.more;
      post = q.post;
      frame = q.frame;
      all = run-ok go (at want f fs) (at (have (leaf low)) f fs) (operand low) q.more refl ∙ q.all;
    }

-- what is taken begins an expression
pub taken_front : (ts : List Token) (s : State) → run go start ts ≡ Ok s → IsFront ts
taken_front ts s h =
    let q = finish_at s.place s.frame s.outer in
    (q.more, (or_of q.frame q.post, sound no_limit (ts ++ q.more) q.post q.frame (run-append go start s ts q.more h ∙ q.all)))
