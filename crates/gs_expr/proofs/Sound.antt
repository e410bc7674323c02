-- What the machine takes is what its state spells; so what it takes to the end is the spelling of a tree.

use Rattle.std.proofs.Common.{◌≡◌, ℕ, zero, suc, Bool, true, false, List, [], ◌∷◌, ◌++◌, length, refl, sym, ap, subst, ◌∙◌, Option, Some, None, Result, Ok, IfOk, append_assoc, append-nil}
use Rattle.gs_grammar.specs.Machine.{run}
use Rattle.gs_grammar.proofs.Runs.{run-nil, begins}
use Rattle.gs_expr.specs.Token.{Token, operand, bang, tick, star, caret, plus, opens, closes, other}
use Rattle.gs_expr.specs.Tree.{Or, And, Xor, Not, just_post, Post, group, or_tokens, and_tokens, xor_tokens, not_tokens, post_tokens}
use Rattle.gs_expr.specs.declared.error.StepErr.{StepErr}
use Rattle.gs_expr.proofs.Trees.{Factors, no_factor, before_star, next_to, Frame, Place, want, have, State, at, start, with_bangs, xor_with, and_with, or_with, xor_of, and_of, or_of, after_none, Room, entered, wants, left, has, step_at, step, sum_part, factors_part, parity_part, bang_part, frame_part, open_part, spelled}

-- ---- the trees that an operand ends

bangs_spell : (k : ℕ) (n : Not) → not_tokens (with_bangs k n) ≡ bang_part k ++ not_tokens n
bangs_spell zero n = refl
bangs_spell (suc k) n = ap (λ ts. bang ∷ ts) (bangs_spell k n)

xor_spells : (x : Option Xor) (n : Not) → xor_tokens (xor_with x n) ≡ parity_part x ++ not_tokens n
xor_spells None n = refl
xor_spells (Some x) n = sym (append_assoc (xor_tokens x) (caret ∷ []) (not_tokens n))

and_spells : (g : Factors) (x : Xor) → and_tokens (and_with g x) ≡ factors_part g ++ xor_tokens x
and_spells no_factor x = refl
and_spells (before_star a) x = sym (append_assoc (and_tokens a) (star ∷ []) (xor_tokens x))
and_spells (next_to a) x = refl

or_spells : (o : Option Or) (a : And) → or_tokens (or_with o a) ≡ sum_part o ++ and_tokens a
or_spells None a = refl
or_spells (Some o) a = sym (append_assoc (or_tokens o) (plus ∷ []) (and_tokens a))

xor_of_spells : (f : Frame) (p : Post) → xor_tokens (xor_of f p) ≡ parity_part f.parity ++ (bang_part f.bangs ++ post_tokens p)
xor_of_spells f p = xor_spells f.parity (with_bangs f.bangs (just_post p)) ∙ ap (λ ts. parity_part f.parity ++ ts) (bangs_spell f.bangs (just_post p))

and_of_spells : (f : Frame) (p : Post) → and_tokens (and_of f p) ≡ factors_part f.factors ++ (parity_part f.parity ++ (bang_part f.bangs ++ post_tokens p))
and_of_spells f p = and_spells f.factors (xor_of f p) ∙ ap (λ ts. factors_part f.factors ++ ts) (xor_of_spells f p)

or_of_spells : (f : Frame) (p : Post) → or_tokens (or_of f p) ≡ sum_part f.sum ++ (factors_part f.factors ++ (parity_part f.parity ++ (bang_part f.bangs ++ post_tokens p)))
or_of_spells f p = or_spells f.sum (and_of f p) ∙ ap (λ ts. sum_part f.sum ++ ts) (and_of_spells f p)

more_bangs : (k : ℕ) → bang_part k ++ bang ∷ [] ≡ bang ∷ bang_part k
more_bangs zero = refl
more_bangs (suc k) = ap (λ ts. bang ∷ ts) (more_bangs k)

-- ---- the steps

-- a step adds its token to what is spelled
abbrev Adds : List Token → Token → Result State StepErr → Type 0
Adds ts t r = IfOk r (λ m. spelled m ≡ ts ++ t ∷ [])

enters_adds : (b : Bool) (f : Frame) (fs : List Frame) → Adds (open_part fs ++ (frame_part f ++ [])) opens (entered b f fs)
enters_adds true f fs = simp (append_assoc, append-nil) refl
enters_adds false f fs = tt

wants_adds : (room : Room) (f : Frame) (fs : List Frame) (t : Token) → Adds (open_part fs ++ (frame_part f ++ [])) t (wants room f fs t)
wants_adds room f fs (operand l) = simp (append_assoc, append-nil) refl
wants_adds room f fs bang = simp (append_assoc, append-nil, more_bangs) refl
wants_adds room f fs tick = tt
wants_adds room f fs star = tt
wants_adds room f fs caret = tt
wants_adds room f fs plus = tt
wants_adds room f fs opens = enters_adds (room (length fs)) f fs
wants_adds room f fs closes = tt
wants_adds room f fs other = tt

-- a neighbour without an operator spells the same
beside_same : (f : Frame) (p : Post) (fs : List Frame) → open_part fs ++ (frame_part (after_none f p) ++ []) ≡ open_part fs ++ (frame_part f ++ post_tokens p)
beside_same f p fs = rw (and_of_spells f p) (simp (append_assoc, append-nil) refl)

left_adds : (f : Frame) (p : Post) (fs : List Frame) → Adds (open_part fs ++ (frame_part f ++ post_tokens p)) closes (left (group (or_of f p)) fs)
left_adds f p [] = tt
left_adds f p (g ∷ fs) = rw (or_of_spells f p) (simp append_assoc refl)

neighbour : (room : Room) (f : Frame) (p : Post) (fs : List Frame) (t : Token) → Adds (open_part fs ++ (frame_part f ++ post_tokens p)) t (wants room (after_none f p) fs t)
neighbour room f p fs t = subst (λ ts. Adds ts t (wants room (after_none f p) fs t)) (beside_same f p fs) (wants_adds room (after_none f p) fs t)

has_adds : (room : Room) (p : Post) (f : Frame) (fs : List Frame) (t : Token) → Adds (open_part fs ++ (frame_part f ++ post_tokens p)) t (has room p f fs t)
has_adds room p f fs (operand l) = neighbour room f p fs (operand l)
has_adds room p f fs bang = neighbour room f p fs bang
has_adds room p f fs tick = simp append_assoc refl
has_adds room p f fs star = rw (and_of_spells f p) (simp (append_assoc, append-nil) refl)
has_adds room p f fs caret = rw (xor_of_spells f p) (simp (append_assoc, append-nil) refl)
has_adds room p f fs plus = rw (or_of_spells f p) (simp (append_assoc, append-nil) refl)
has_adds room p f fs opens = neighbour room f p fs opens
has_adds room p f fs closes = left_adds f p fs
has_adds room p f fs other = tt

step_adds : (room : Room) (p : Place) (f : Frame) (fs : List Frame) (t : Token) → Adds (spelled (at p f fs)) t (step_at room p f fs t)
step_adds room want f fs t = wants_adds room f fs t
step_adds room (have p) f fs t = has_adds room p f fs t

-- ---- the runs

pub reads : (room : Room) (s m : State) (ts : List Token) → run (step room) s ts ≡ Ok m → spelled m ≡ spelled s ++ ts
reads room s m [] h = let e : s ≡ m = cc (run-nil (step room) s) in rw e (sym (append-nil (spelled m)))
reads room s m (t ∷ ts) h =
    let b = begins (step room) s m t ts h in
    let one : spelled b.middle ≡ spelled s ++ t ∷ [] = subst (Adds (spelled s) t) b.first (step_adds room s.place s.frame s.outer t) in
    reads room b.middle m ts b.rest ∙ ap (λ us. us ++ ts) one ∙ append_assoc (spelled s) (t ∷ []) ts

-- what is taken up to an operand with no parenthesis open is the spelling of a tree
pub sound : (room : Room) (ts : List Token) (p : Post) (f : Frame) → run (step room) start ts ≡ Ok (at (have p) f []) → ts ≡ or_tokens (or_of f p)
sound room ts p f h =
    let e : frame_part f ++ post_tokens p ≡ ts = reads room start (at (have p) f []) ts h in
    sym e ∙ simp append_assoc refl ∙ sym (or_of_spells f p)
