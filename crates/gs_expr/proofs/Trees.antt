-- The machine that keeps trees where the code keeps tables: its state spells what it has read.

use Rattle.std.specs.Prelude.{ℕ, zero, suc, Bool, true, nat_lt, List, [], ◌∷◌, ◌++◌, length, Option, Some, None, Result, Ok, Err, if◌then◌else◌}
use Rattle.gs_expr.specs.Token.{Token, operand, bang, tick, star, caret, plus, opens, closes, other}
use Rattle.gs_expr.specs.Tree.{Or, just_and, plus_of, And, just_xor, star_of, beside, Xor, just_not, caret_of, Not, just_post, bang_of, Post, leaf, group, tick_of, or_tokens, and_tokens, xor_tokens, post_tokens}
use Rattle.gs_expr.specs.declared.error.StepErr.{StepErr}
use Rattle.gs_expr.specs.declared.error.StepErr.TheVariants.{Bad, Deep}

pub data Factors : Type 0 where
  no_factor : Factors
  before_star : And → Factors
  -- before a neighbour
  next_to : And → Factors

-- what waits for the operand that is read, at one depth of parentheses
pub record Frame : Type 0 where
  pub sum : Option Or
  pub factors : Factors
  pub parity : Option Xor
  pub bangs : ℕ

-- an operand is wanted, or this one was read
pub data Place : Type 0 where
  want : Place
  have : Post → Place

-- a frame for each open parenthesis stands in outer, the innermost first
pub record State : Type 0 where
  pub place : Place
  pub frame : Frame
  pub outer : List Frame

abbrev pub at : Place → Frame → List Frame → State
at p f fs = record { place = p; frame = f; outer = fs }

abbrev pub frame_of : Option Or → Factors → Option Xor → ℕ → Frame
frame_of s fs x k = record { sum = s; factors = fs; parity = x; bangs = k }

abbrev pub fresh : Frame
fresh = frame_of None no_factor None zero

abbrev pub start : State
start = at want fresh []

abbrev pub with_bangs : ℕ → Not → Not
with_bangs zero n = n
with_bangs (suc k) n = bang_of (with_bangs k n)

abbrev pub xor_with : Option Xor → Not → Xor
xor_with None n = just_not n
xor_with (Some x) n = caret_of x n

abbrev pub and_with : Factors → Xor → And
and_with no_factor x = just_xor x
and_with (before_star a) x = star_of a x
and_with (next_to a) x = beside a x

abbrev pub or_with : Option Or → And → Or
or_with None a = just_and a
or_with (Some o) a = plus_of o a

-- the trees that an operand ends
abbrev pub xor_of : Frame → Post → Xor
xor_of f p = xor_with f.parity (with_bangs f.bangs (just_post p))

abbrev pub and_of : Frame → Post → And
and_of f p = and_with f.factors (xor_of f p)

abbrev pub or_of : Frame → Post → Or
or_of f p = or_with f.sum (and_of f p)

abbrev pub after_bang : Frame → Frame
after_bang f = frame_of f.sum f.factors f.parity (suc f.bangs)

abbrev pub after_caret : Frame → Post → Frame
after_caret f p = frame_of f.sum f.factors (Some (xor_of f p)) zero

abbrev pub after_star : Frame → Post → Frame
after_star f p = frame_of f.sum (before_star (and_of f p)) None zero

abbrev pub after_none : Frame → Post → Frame
after_none f p = frame_of f.sum (next_to (and_of f p)) None zero

abbrev pub after_plus : Frame → Post → Frame
after_plus f p = frame_of (Some (or_of f p)) no_factor None zero

-- whether one more parenthesis may open where so many are open
abbrev pub Room : Type 0
Room = ℕ → Bool

-- 64 at most
abbrev pub limit : Room
limit n = nat_lt n 64

-- the form alone
abbrev pub no_limit : Room
no_limit n = true

abbrev pub entered : Bool → Frame → List Frame → Result State StepErr
entered fits f fs = if fits then Ok (at want fresh (f ∷ fs)) else Err Deep

-- a token where an operand is wanted
abbrev pub wants : Room → Frame → List Frame → Token → Result State StepErr
wants room f fs (operand l) = Ok (at (have (leaf l)) f fs)
wants room f fs bang = Ok (at want (after_bang f) fs)
wants room f fs tick = Err Bad
wants room f fs star = Err Bad
wants room f fs caret = Err Bad
wants room f fs plus = Err Bad
wants room f fs opens = entered (room (length fs)) f fs
wants room f fs closes = Err Bad
wants room f fs other = Err Bad

abbrev pub left : Post → List Frame → Result State StepErr
left p [] = Err Bad
left p (f ∷ fs) = Ok (at (have p) f fs)

-- a token after an operand
abbrev pub has : Room → Post → Frame → List Frame → Token → Result State StepErr
has room p f fs (operand l) = wants room (after_none f p) fs (operand l)
has room p f fs bang = wants room (after_none f p) fs bang
has room p f fs tick = Ok (at (have (tick_of p)) f fs)
has room p f fs star = Ok (at want (after_star f p) fs)
has room p f fs caret = Ok (at want (after_caret f p) fs)
has room p f fs plus = Ok (at want (after_plus f p) fs)
has room p f fs opens = wants room (after_none f p) fs opens
has room p f fs closes = left (group (or_of f p)) fs
has room p f fs other = Err Bad

abbrev pub step_at : Room → Place → Frame → List Frame → Token → Result State StepErr
step_at room want f fs t = wants room f fs t
step_at room (have p) f fs t = has room p f fs t

abbrev pub step : Room → State → Token → Result State StepErr
step room s t = step_at room s.place s.frame s.outer t

-- ---- what a state spells

abbrev pub sum_part : Option Or → List Token
sum_part None = []
sum_part (Some o) = or_tokens o ++ plus ∷ []

abbrev pub factors_part : Factors → List Token
factors_part no_factor = []
factors_part (before_star a) = and_tokens a ++ star ∷ []
factors_part (next_to a) = and_tokens a

abbrev pub parity_part : Option Xor → List Token
parity_part None = []
parity_part (Some x) = xor_tokens x ++ caret ∷ []

abbrev pub bang_part : ℕ → List Token
bang_part zero = []
bang_part (suc k) = bang ∷ bang_part k

abbrev pub frame_part : Frame → List Token
frame_part f = sum_part f.sum ++ (factors_part f.factors ++ (parity_part f.parity ++ bang_part f.bangs))

abbrev pub place_part : Place → List Token
place_part want = []
place_part (have p) = post_tokens p

abbrev pub open_part : List Frame → List Token
open_part [] = []
open_part (f ∷ fs) = open_part fs ++ (frame_part f ++ opens ∷ [])

abbrev pub spelled : State → List Token
spelled s = open_part s.outer ++ (frame_part s.frame ++ place_part s.place)
