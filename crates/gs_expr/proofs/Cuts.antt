-- How the cutting goes on past white and past a token, and what is cut from the bytes before a token.

use Rattle.std.proofs.Common.{◌≡◌, ◌∙◌, sym, ap, subst, refl, ℕ, zero, suc, ◌+◌, ◌-◌, ◌<◌, ◌≤◌, Bool, true, false, if◌then◌else◌, List, [], ◌∷◌, ◌++◌, map, length, get_or, take, drop, add-zero, length-drop, arith, cond}
use Rattle.std.specs.Prelude.{slice_get, Some}
use Rattle.std.specs.List.{prefix_len}
use Rattle.std.proofs.lemmas.List.{drop_more, drop_all, take_rest, drop-drop, take-take}
use Rattle.gs_text.specs.Bytes.{is_white}
use Rattle.gs_expr.specs.Cutting.{begins, begins_name, is_name_byte, mark, put, cut, lexemes}
use Rattle.gs_expr.specs.Refusal.{before}
use Rattle.gs_expr.specs.Token.{token, Lexeme}
use Rattle.gs_expr.specs.Truth.{StandsAt}
use Rattle.gs_expr.specs.declared.token.Class.{Class}
use Rattle.gs_expr.specs.declared.token.Class.TheVariants.{Name}
use Rattle.gs_expr.specs.declared.token.Front.{Front}
use Rattle.gs_expr.specs.declared.token.Front.TheVariants.{Gap, Found}

abbrev pub lexeme : Class → (len : ℕ) → List ℕ → (at : ℕ) → Lexeme
lexeme class len bytes at = record { token = token class (take len bytes); at = at }

-- bytes that belong to the last token are passed over
pub skipped : (at n : ℕ) (bs : List ℕ) → cut at n bs ≡ cut (at + n) 0 (drop n bs)
unfolding cut
skipped at zero bs = simp add-zero refl
skipped at (suc n) [] = refl
skipped at (suc n) (c ∷ cs) =
    let ats : at + 1 + n ≡ at + suc n = omega arith in
    skipped (at + 1) n cs ∙ ap (λ k. cut k 0 (drop n cs)) ats

-- what is cut from the byte c on, by what begins there
cut_front : (at c : ℕ) (cs : List ℕ) (f : Front) → f ≡ begins c cs → cut at 0 (c ∷ cs) ≡ put f (c ∷ cs) at (λ skip. cut (at + 1) skip cs)
unfolding cut
cut_front at c cs f e = rw e refl

-- a token, and what is cut from its end on
cut_found : (at c : ℕ) (cs : List ℕ) (class : Class) (len : ℕ) → Found class len ≡ begins c cs → 0 < len
    → cut at 0 (c ∷ cs) ≡ lexeme class len (c ∷ cs) at ∷ cut (at + len) 0 (drop len (c ∷ cs))
cut_found at c cs class zero e pos = absurd (omega arith)
cut_found at c cs class (suc n) e pos =
    let less : suc n - 1 ≡ n = omega arith in
    let ats : at + 1 + n ≡ at + suc n = omega arith in
    cut_front at c cs (Found class (suc n)) e
    ∙ ap (λ ls. lexeme class (suc n) (c ∷ cs) at ∷ ls) (ap (λ k. cut (at + 1) k cs) less ∙ skipped (at + 1) n cs ∙ ap (λ k. cut k 0 (drop n cs)) ats)

-- ---- the loop at a place

module _ (bs : List ℕ) (at : ℕ) (lt : at < length bs) where
  abbrev pub byte : ℕ
  byte = get_or bs at 0

  abbrev pub rest : List ℕ
  rest = take (length bs - (at + 1)) (drop (at + 1) bs)

  split : drop at bs ≡ byte ∷ rest
  split = drop_more bs at 0 lt ∙ ap (λ r. byte ∷ r) (sym (take_rest bs (at + 1)))

  -- white
  pub passes : Gap ≡ begins byte rest → cut at 0 (drop at bs) ≡ cut (at + 1) 0 (drop (at + 1) bs)
  passes e = ap (cut at 0) split ∙ cut_front at byte rest Gap e ∙ ap (cut (at + 1) 0) (take_rest bs (at + 1))

  -- a token
  pub finds : (class : Class) (len : ℕ) → Found class len ≡ begins byte rest → 0 < len
      → cut at 0 (drop at bs) ≡ lexeme class len (drop at bs) at ∷ cut (at + len) 0 (drop (at + len) bs)
  finds class len e pos =
      let step : cut at 0 (byte ∷ rest) ≡ lexeme class len (byte ∷ rest) at ∷ cut (at + len) 0 (drop len (byte ∷ rest)) = cut_found at byte rest class len e pos in
      let step' : cut at 0 (drop at bs) ≡ lexeme class len (drop at bs) at ∷ cut (at + len) 0 (drop len (drop at bs)) = rw split step in
      step' ∙ ap (λ r. lexeme class len (drop at bs) at ∷ cut (at + len) 0 r) (drop-drop len at bs)

pub ends : (bs : List ℕ) (at : ℕ) → length bs ≤ at → cut at 0 (drop at bs) ≡ []
unfolding cut
ends bs at le = ap (cut at 0) (drop_all at bs le)

-- ---- what is cut from the bytes before a token

prefix_by : (p : ℕ → Bool) (c : ℕ) (cs : List ℕ) (m : ℕ) (b : Bool) → p c ≡ b
    → ((k : ℕ) → prefix_len p cs ≤ k → prefix_len p (take k cs) ≡ prefix_len p cs)
    → cond b (1 + prefix_len p cs) 0 ≤ m → prefix_len p (take m (c ∷ cs)) ≡ cond b (1 + prefix_len p cs) 0
prefix_by p c cs zero true e later le = absurd (omega (arith, le))
prefix_by p c cs (suc k) true e later le = rw e (ap (λ n. 1 + n) (later k (omega (arith, le))))
prefix_by p c cs zero false e later le = refl
prefix_by p c cs (suc k) false e later le = rw e refl

prefix_cut : (p : ℕ → Bool) (cs : List ℕ) (m : ℕ) → prefix_len p cs ≤ m → prefix_len p (take m cs) ≡ prefix_len p cs
prefix_cut p [] zero le = refl
prefix_cut p [] (suc m) le = refl
prefix_cut p (c ∷ cs) m le = prefix_by p c cs m (p c) refl (prefix_cut p cs) le

begins_by : (white name : Bool) (c k : ℕ) → Front
begins_by white name c k = if white then Gap else if name then Found Name (k + 1) else Found (mark c) 1

gap_by : (white name : Bool) (c k j : ℕ) → begins_by white name c k ≡ Gap → begins_by white name c j ≡ Gap
unfolding begins_by
gap_by true name c k j h = refl
gap_by false true c k j h = cc
gap_by false false c k j h = cc

gap_before : (c : ℕ) (cs ds : List ℕ) → begins c cs ≡ Gap → begins c ds ≡ Gap
unfolding begins_by
gap_before c cs ds h = gap_by (is_white c) (begins_name c) c (prefix_len is_name_byte cs) (prefix_len is_name_byte ds) h

found_by : (white name : Bool) (c k j m : ℕ) (class : Class) (len : ℕ) → begins_by white name c k ≡ Found class len → len ≤ m + 1
    → (k ≤ m → j ≡ k) → begins_by white name c j ≡ Found class len
unfolding begins_by
found_by true name c k j m class len h le same = cc
found_by false true c k j m class len h le same =
    let size : k + 1 ≡ len = cc in
    let n : j ≡ k = same (omega arith) in
    ap (λ q. Found Name (q + 1)) n ∙ h
found_by false false c k j m class len h le same = h

found_before : (c : ℕ) (cs : List ℕ) (m : ℕ) (class : Class) (len : ℕ) → begins c cs ≡ Found class len → len ≤ m + 1 → begins c (take m cs) ≡ Found class len
unfolding begins_by
found_before c cs m class len h le =
    found_by (is_white c) (begins_name c) c (prefix_len is_name_byte cs) (prefix_len is_name_byte (take m cs)) m class len h le (prefix_cut is_name_byte cs m)

record Before (at skip : ℕ) (bs : List ℕ) (front : List Lexeme) (l : Lexeme) : Type 0 where
  low : at + skip ≤ l.at
  same : cut at skip (take (l.at - at) bs) ≡ front

take_same : (len c m : ℕ) (cs : List ℕ) → len ≤ m + 1 → take len (c ∷ take m cs) ≡ take len (c ∷ cs)
take_same zero c m cs le = refl
take_same (suc k) c m cs le = ap (λ ds. c ∷ ds) (take-take k m cs (omega arith))

before_by : (at c : ℕ) (cs : List ℕ) (front : List Lexeme) (l : Lexeme) (more : List Lexeme) (f : Front) → begins c cs ≡ f
    → ((skip : ℕ) (fs : List Lexeme) → cut (at + 1) skip cs ≡ fs ++ l ∷ more → Before (at + 1) skip cs fs l)
    → put f (c ∷ cs) at (λ skip. cut (at + 1) skip cs) ≡ front ++ l ∷ more → Before at 0 (c ∷ cs) front l
unfolding cut
before_by at c cs front l more Gap e later h =
    let q = later 0 front h in
    let low : at + 1 ≤ l.at = omega (arith, q.low) in
    let m : l.at - at ≡ suc (l.at - (at + 1)) = omega arith in
    record {
      low = omega arith;
      same = ap (λ k. cut at 0 (take k (c ∷ cs))) m ∙ cut_front at c (take (l.at - (at + 1)) cs) Gap (sym (gap_before c cs (take (l.at - (at + 1)) cs) e)) ∙ q.same;
    }
before_by at c cs [] l more (Found class len) e later h =
    let same : lexeme class len (c ∷ cs) at ≡ l = cc in
    let here : at ≡ l.at = ap (λ (x : Lexeme). x.at) same in
    let none : l.at - at ≡ 0 = omega arith in
    record {
      low = omega arith;
      same = ap (λ k. cut at 0 (take k (c ∷ cs))) none;
    }
before_by at c cs (x ∷ front) l more (Found class len) e later h =
    let head : lexeme class len (c ∷ cs) at ≡ x = cc in
    let tail : cut (at + 1) (len - 1) cs ≡ front ++ l ∷ more = cc in
    let q = later (len - 1) front tail in
    let low : at + 1 + (len - 1) ≤ l.at = q.low in
    let m : l.at - at ≡ suc (l.at - (at + 1)) = omega arith in
    let fits : len ≤ l.at - (at + 1) + 1 = omega arith in
    record {
      low = omega arith;
      same =
          ap (λ k. cut at 0 (take k (c ∷ cs))) m
          ∙ cut_front at c (take (l.at - (at + 1)) cs) (Found class len) (sym (found_before c cs (l.at - (at + 1)) class len e fits))
          ∙ ap (λ text. record { token = token class text; at = at } ∷ cut (at + 1) (len - 1) (take (l.at - (at + 1)) cs)) (take_same len c (l.at - (at + 1)) cs fits)
          ∙ ap (λ ls. lexeme class len (c ∷ cs) at ∷ ls) q.same
          ∙ ap (λ y. y ∷ front) head;
    }

no_end : (front : List Lexeme) (l : Lexeme) (more : List Lexeme) → [] ≡ front ++ l ∷ more → ⊥
no_end [] l more h = cc
no_end (x ∷ front) l more h = cc

before_of : (at skip : ℕ) (bs : List ℕ) (front : List Lexeme) (l : Lexeme) (more : List Lexeme) → cut at skip bs ≡ front ++ l ∷ more → Before at skip bs front l
unfolding cut
before_of at skip [] front l more h = absurd (no_end front l more h)
before_of at (suc skip) (c ∷ cs) front l more h =
    let q = before_of (at + 1) skip cs front l more h in
    let low : at + 1 + skip ≤ l.at = q.low in
    let m : l.at - at ≡ suc (l.at - (at + 1)) = omega arith in
    record {
      low = omega arith;
      same = ap (λ k. cut at (suc skip) (take k (c ∷ cs))) m ∙ q.same;
    }
before_of at zero (c ∷ cs) front l more h =
    before_by at c cs front l more (begins c cs) refl (λ skip fs. before_of (at + 1) skip cs fs l more) h

-- the tokens of the bytes before a token are the tokens before it
pub tokens_before : (bytes : List ℕ) (front : List Lexeme) (l : Lexeme) (more : List Lexeme) → lexemes bytes ≡ front ++ l ∷ more
    → before bytes l.at ≡ map (λ (x : Lexeme). x.token) front
tokens_before bytes front l more h =
    let q = before_of 0 0 bytes front l more h in
    let all : l.at - 0 ≡ l.at = omega arith in
    ap (λ k. map (λ (x : Lexeme). x.token) (cut 0 0 (take k bytes))) (sym all) ∙ ap (map (λ (x : Lexeme). x.token)) q.same

-- ---- a token's number

number_of : (front : List Lexeme) (l : Lexeme) (more : List Lexeme) → (k : ℕ) × (slice_get (front ++ l ∷ more) k ≡ Some l)
number_of [] l more = (zero, refl)
number_of (x ∷ front) l more = let q = number_of front l more in (suc q.0, q.1)

pub stands : (bytes : List ℕ) (front : List Lexeme) (l : Lexeme) (more : List Lexeme) → lexemes bytes ≡ front ++ l ∷ more → StandsAt bytes l.at l.token
stands bytes front l more h =
    let q = number_of front l more in
    record { number = q.0; is = ap (λ ls. slice_get ls q.0) h ∙ q.1 }

pub record Split (ls : List Lexeme) (l : Lexeme) : Type 0 where
  pub front : List Lexeme
  pub more : List Lexeme
  pub list : ls ≡ front ++ l ∷ more

pub split_at : (ls : List Lexeme) (k : ℕ) (l : Lexeme) → slice_get ls k ≡ Some l → Split ls l
split_at [] k l h = cc
split_at (x ∷ ls) zero l h = let same : x ≡ l = cc in record { front = []; more = ls; list = ap (λ y. y ∷ ls) same }
split_at (x ∷ ls) (suc k) l h =
    let q = split_at ls k l h in
    record { front = x ∷ q.front; more = q.more; list = ap (λ ys. x ∷ ys) q.list }

-- ---- places rise

abbrev pub Above : ℕ → List Lexeme → Type 0
Above n [] = Unit {0}
Above n (l ∷ ls) = (n ≤ l.at) × Above (l.at + 1) ls

above_less : (m n : ℕ) (ls : List Lexeme) → m ≤ n → Above n ls → Above m ls
above_less m n [] le h = tt
above_less m n (l ∷ ls) le h = (omega (arith, h.0), h.1)

put_above : (f : Front) (bytes : List ℕ) (at : ℕ) (go : ℕ → List Lexeme) → ((k : ℕ) → Above (at + 1) (go k)) → Above at (put f bytes at go)
put_above Gap bytes at go h = above_less at (at + 1) (go 0) (omega arith) (h 0)
put_above (Found class len) bytes at go h = (omega arith, h (len - 1))

pub cut_above : (at skip : ℕ) (bs : List ℕ) → Above at (cut at skip bs)
unfolding cut
cut_above at skip [] = tt
cut_above at (suc skip) (c ∷ cs) = above_less at (at + 1) (cut (at + 1) skip cs) (omega arith) (cut_above (at + 1) skip cs)
cut_above at zero (c ∷ cs) = put_above (begins c cs) (c ∷ cs) at (λ skip. cut (at + 1) skip cs) (λ k. cut_above (at + 1) k cs)

pub above_get : (n : ℕ) (ls : List Lexeme) (k : ℕ) (l : Lexeme) → Above n ls → slice_get ls k ≡ Some l → n ≤ l.at
above_get n [] k l h e = cc
above_get n (x ∷ ls) zero l h e = let same : x ≡ l = cc in subst (λ (y : Lexeme). n ≤ y.at) same h.0
above_get n (x ∷ ls) (suc k) l h e = let later : x.at + 1 ≤ l.at = above_get (x.at + 1) ls k l h.1 e in omega (arith, h.0)

-- how long the rest of a text is
pub length-rest : (bs : List ℕ) (i : ℕ) → length (take (length bs - i) (drop i bs)) ≡ length bs - i
length-rest bs i = ap length (take_rest bs i) ∙ length-drop i bs
