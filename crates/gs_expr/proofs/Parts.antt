-- What some tokens complete to a whole expression, and the fronts by the cases of the form, are the same.

use Rattle.std.proofs.Common.{◌≡◌, ◌∙◌, ◌↔◌, sym, ap, refl, ℕ, zero, suc, List, [], ◌∷◌, ◌++◌, Option, Some, None, append_assoc, append-nil}
use Rattle.gs_expr.specs.Parts.{OrFront, first_and, next_and, AndFront, first_xor, next_xor, neighbour, XorFront, first_not, next_not, NotFront, some_post, after_bang, PostFront, nothing, whole, within, or_front, and_front, xor_front, not_front, post_front, IsFrontByCases}
use Rattle.gs_expr.specs.Token.{Token, low, operand, bang, star, caret, plus, opens, closes}
use Rattle.gs_expr.specs.Tree.{Or, just_and, plus_of, And, just_xor, star_of, beside, Xor, just_not, caret_of, Not, just_post, bang_of, Post, leaf, group, or_tokens, and_tokens, xor_tokens, not_tokens, post_tokens, IsFront}
use Rattle.gs_expr.proofs.Complete.{front_taken}
use Rattle.gs_expr.proofs.Sound.{reads}
use Rattle.gs_expr.proofs.Trees.{Factors, no_factor, before_star, next_to, Frame, Place, want, have, State, start, no_limit, sum_part, factors_part, parity_part, bang_part, frame_part, place_part, open_part, spelled}

-- ---- each front by cases is completed

record Completes (Tree : Type 0) (spell : Tree → List Token) (ts : List Token) : Type 0 where
  more : List Token
  tree : Tree
  all : ts ++ more ≡ spell tree

mutual
  or_completed : (o : OrFront) → Completes Or or_tokens (or_front o)
  or_completed (first_and a) = let q = and_completed a in record { more = q.more; tree = just_and q.tree; all = q.all }
  or_completed (next_and o a) =
      let q = and_completed a in
      record {
        more = q.more;
        tree = plus_of o q.tree;
        all = append_assoc (or_tokens o) (plus ∷ and_front a) q.more ∙ ap (λ ts. or_tokens o ++ plus ∷ ts) q.all;
      }

  and_completed : (a : AndFront) → Completes And and_tokens (and_front a)
  and_completed (first_xor x) = let q = xor_completed x in record { more = q.more; tree = just_xor q.tree; all = q.all }
  and_completed (next_xor a x) =
      let q = xor_completed x in
      record {
        more = q.more;
        tree = star_of a q.tree;
        all = append_assoc (and_tokens a) (star ∷ xor_front x) q.more ∙ ap (λ ts. and_tokens a ++ star ∷ ts) q.all;
      }
  and_completed (neighbour a x) =
      let q = xor_completed x in
      record {
        more = q.more;
        tree = beside a q.tree;
        all = append_assoc (and_tokens a) (xor_front x) q.more ∙ ap (λ ts. and_tokens a ++ ts) q.all;
      }

  xor_completed : (x : XorFront) → Completes Xor xor_tokens (xor_front x)
  xor_completed (first_not n) = let q = not_completed n in record { more = q.more; tree = just_not q.tree; all = q.all }
  xor_completed (next_not x n) =
      let q = not_completed n in
      record {
        more = q.more;
        tree = caret_of x q.tree;
        all = append_assoc (xor_tokens x) (caret ∷ not_front n) q.more ∙ ap (λ ts. xor_tokens x ++ caret ∷ ts) q.all;
      }

  not_completed : (n : NotFront) → Completes Not not_tokens (not_front n)
  not_completed (some_post p) = let q = post_completed p in record { more = q.more; tree = just_post q.tree; all = q.all }
  not_completed (after_bang n) =
      let q = not_completed n in record { more = q.more; tree = bang_of q.tree; all = ap (λ ts. bang ∷ ts) q.all }

  post_completed : (p : PostFront) → Completes Post post_tokens (post_front p)
  post_completed nothing = record { more = operand low ∷ []; tree = leaf low; all = refl }
  post_completed (whole p) = record { more = []; tree = p; all = append-nil (post_tokens p) }
  post_completed (within o) =
      let q = or_completed o in
      record {
        more = q.more ++ closes ∷ [];
        tree = group q.tree;
        all = ap (λ ts. opens ∷ ts) (sym (append_assoc (or_front o) q.more (closes ∷ [])) ∙ ap (λ ts. ts ++ closes ∷ []) q.all);
      }

cases_front : (ts : List Token) → IsFrontByCases ts → IsFront ts
cases_front ts f = let q = or_completed f.0 in (q.more, (q.tree, ap (λ us. us ++ q.more) f.1 ∙ q.all))

-- ---- each state of the machine is a front by cases

bangs_front : ℕ → PostFront → NotFront
bangs_front zero p = some_post p
bangs_front (suc k) p = after_bang (bangs_front k p)

parity_front : Option Xor → NotFront → XorFront
parity_front None n = first_not n
parity_front (Some x) n = next_not x n

factors_front : Factors → XorFront → AndFront
factors_front no_factor x = first_xor x
factors_front (before_star a) x = next_xor a x
factors_front (next_to a) x = neighbour a x

sum_front : Option Or → AndFront → OrFront
sum_front None a = first_and a
sum_front (Some o) a = next_and o a

frame_front : Frame → PostFront → OrFront
frame_front f p = sum_front f.sum (factors_front f.factors (parity_front f.parity (bangs_front f.bangs p)))

bangs_spell : (k : ℕ) (p : PostFront) → not_front (bangs_front k p) ≡ bang_part k ++ post_front p
unfolding bangs_front
bangs_spell zero p = refl
bangs_spell (suc k) p = ap (λ ts. bang ∷ ts) (bangs_spell k p)

parity_spells : (x : Option Xor) (n : NotFront) → xor_front (parity_front x n) ≡ parity_part x ++ not_front n
unfolding parity_front
parity_spells None n = refl
parity_spells (Some x) n = sym (append_assoc (xor_tokens x) (caret ∷ []) (not_front n))

factors_spell : (g : Factors) (x : XorFront) → and_front (factors_front g x) ≡ factors_part g ++ xor_front x
unfolding factors_front
factors_spell no_factor x = refl
factors_spell (before_star a) x = sym (append_assoc (and_tokens a) (star ∷ []) (xor_front x))
factors_spell (next_to a) x = refl

sum_spells : (o : Option Or) (a : AndFront) → or_front (sum_front o a) ≡ sum_part o ++ and_front a
unfolding sum_front
sum_spells None a = refl
sum_spells (Some o) a = sym (append_assoc (or_tokens o) (plus ∷ []) (and_front a))

frame_spells : (f : Frame) (p : PostFront) → or_front (frame_front f p) ≡ frame_part f ++ post_front p
unfolding frame_front
frame_spells f p =
    sum_spells f.sum (factors_front f.factors (parity_front f.parity (bangs_front f.bangs p)))
    ∙ ap (λ ts. sum_part f.sum ++ ts)
    (factors_spell f.factors (parity_front f.parity (bangs_front f.bangs p))
    ∙ ap (λ ts. factors_part f.factors ++ ts) (parity_spells f.parity (bangs_front f.bangs p) ∙ ap (λ ts. parity_part f.parity ++ ts) (bangs_spell f.bangs p)))
    ∙ simp append_assoc refl

-- the front with so many parentheses open round it
opened_front : List Frame → OrFront → OrFront
opened_front [] o = o
opened_front (f ∷ fs) o = opened_front fs (frame_front f (within o))

opened_spells : (fs : List Frame) (o : OrFront) → or_front (opened_front fs o) ≡ open_part fs ++ or_front o
unfolding opened_front
opened_spells [] o = refl
opened_spells (f ∷ fs) o =
    opened_spells fs (frame_front f (within o))
    ∙ ap (λ ts. open_part fs ++ ts) (frame_spells f (within o))
    ∙ simp append_assoc refl

place_front : Place → PostFront
place_front want = nothing
place_front (have p) = whole p

place_spells : (p : Place) → post_front (place_front p) ≡ place_part p
unfolding place_front
place_spells want = refl
place_spells (have p) = refl

front_cases : (ts : List Token) → IsFront ts → IsFrontByCases ts
front_cases ts f =
    let m = front_taken ts f in
    let s : State = m.0 in
    let spells : spelled s ≡ ts = reads no_limit start s ts m.1 in (
      opened_front s.outer (frame_front s.frame (place_front s.place)),
      sym spells
          ∙ sym (opened_spells s.outer (frame_front s.frame (place_front s.place))
          ∙ ap (λ us. open_part s.outer ++ us) (frame_spells s.frame (place_front s.place) ∙ ap (λ us. frame_part s.frame ++ us) (place_spells s.place))),
    )

pub same_fronts : (ts : List Token) → IsFront ts ↔ IsFrontByCases ts
same_fronts ts = (front_cases ts, cases_front ts)
