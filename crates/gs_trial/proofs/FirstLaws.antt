-- The first limit that passes a test, found net by net.

use Rattle.std.proofs.Common.{◌≡◌, ℕ, ◌+◌, ◌<◌, ◌≤◌, Bool, true, false, not, ◌&&◌, All, List, [], ◌∷◌, length, Option, None, Some, refl, sym, ◌∙◌, ap, subst, arith, ◌⊎◌, inl, inr}
use Rattle.std.specs.Prelude.{if◌then◌else◌, nat_lt}
use Rattle.std.specs.List.{find}
use Rattle.std.proofs.lemmas.Bool.{cases_eq}
use Rattle.std.proofs.lemmas.Bool.Decides.{Decides-ltb, nat_tests}
use Rattle.gs_design.specs.Limits.{IsLimitOf, is_met_in, limit_net, limits, limits_at}
use Rattle.gs_design.specs.Times.{time_at}
use Rattle.gs_design.specs.declared.design.Design.{Design}
use Rattle.gs_design.specs.declared.limit.Limit.{Limit}
use Rattle.gs_design.specs.declared.limit.Limit.TheVariants.{Setup, Slew, Load, Area}
use Rattle.gs_design.specs.declared.time.NetTime.{NetTime}
use Rattle.gs_limits.specs.Outcome.{first_broken, is_broken}
use Rattle.gs_move.specs.Change.{is_lost}
use Rattle.gs_trial.specs.Order.{earlier, limit_rank}
use Rattle.gs_trial.proofs.LimitLaws.{all_at, all_limits, each_at, each_limit, rising_at, rising_limits}
use Rattle.gs_trial.proofs.Lists.{Rising, find_in, find_least, find_none, find_passes, find_same}

-- a limit of the design on a net of a set that passes the test, and the first of those
pub record IsBest (d : Design) (p : Limit → Bool) (On : ℕ → Type 0) (b : Limit) : Type 0 where
  pub of_it : IsLimitOf d b
  pub on : On (limit_net d b)
  pub passes : p b ≡ true
  pub least : (l : Limit) → IsLimitOf d l → On (limit_net d l) → p l ≡ true → limit_rank d b ≤ limit_rank d l

-- the first limit on the nets of a set that passes the test, or none where none does
abbrev pub IsFirst : Design → (Limit → Bool) → (ℕ → Type 0) → Option Limit → Type 0
IsFirst d p On None = (l : Limit) → IsLimitOf d l → On (limit_net d l) → p l ≡ false
IsFirst d p On (Some b) = IsBest d p On b

-- two limits with the same rank are the same
rank_same : (d : Design) (a b : Limit) → IsLimitOf d a → IsLimitOf d b → limit_rank d a ≡ limit_rank d b → a ≡ b
rank_same d (Setup e) (Setup f) x y h = ap (λ k. Setup k) h
rank_same d (Setup e) (Slew m) x y h = absurd (omega (arith, x, h))
rank_same d (Setup e) (Load m) x y h = absurd (omega (arith, x, h))
rank_same d (Slew n) (Setup f) x y h = absurd (omega (arith, y, h))
rank_same d (Slew n) (Slew m) x y h = let e : n ≡ m = omega (arith, h) in ap (λ k. Slew k) e
rank_same d (Slew n) (Load m) x y h = absurd (omega (arith, x, h))
rank_same d (Load n) (Setup f) x y h = absurd (omega (arith, y, h))
rank_same d (Load n) (Slew m) x y h = absurd (omega (arith, y, h))
rank_same d (Load n) (Load m) x y h = let e : n ≡ m = omega (arith, h) in ap (λ k. Load k) e
rank_same d Area b x y h = absurd x
rank_same d (Setup e) Area x y h = absurd y
rank_same d (Slew n) Area x y h = absurd y
rank_same d (Load n) Area x y h = absurd y

never : (b : Bool) → b ≡ true → b ≡ false → ⊥
never true e h = absurd cc
never false e h = absurd cc

pub first_is_one : (d : Design) (p : Limit → Bool) (On : ℕ → Type 0) (o r : Option Limit) → IsFirst d p On o → IsFirst d p On r → o ≡ r
first_is_one d p On None None x y = refl
first_is_one d p On None (Some b) x y = absurd (never (p b) y.passes (x b y.of_it y.on))
first_is_one d p On (Some a) None x y = absurd (never (p a) x.passes (y a x.of_it x.on))
first_is_one d p On (Some a) (Some b) x y =
    let ab = x.least b y.of_it y.on y.passes in
    let ba = y.least a x.of_it x.on x.passes in
    ap (λ l. Some l) (rank_same d a b x.of_it y.of_it (omega (arith, ab, ba)))

-- the first on two sets is the earlier of the first on each
module _ (d : Design) (p : Limit → Bool) (P Q S : ℕ → Type 0) (split : (n : ℕ) → S n → P n ⊎ Q n) (left : (n : ℕ) → P n → S n) (right : (n : ℕ) → Q n → S n) where
  none_on : IsFirst d p P None → IsFirst d p Q None → IsFirst d p S None
  none_on x y l of_it on = elim (split (limit_net d l) on) [ inl a ↦ x l of_it a | inr b ↦ y l of_it b ]

  keep_left : (a : Limit) → IsBest d p P a → ((l : Limit) → IsLimitOf d l → Q (limit_net d l) → p l ≡ true → limit_rank d a ≤ limit_rank d l) → IsBest d p S a
  keep_left a x more = record {
    of_it = x.of_it;
    on = left (limit_net d a) x.on;
    passes = x.passes;
    least = λ l of_it on pass. elim (split (limit_net d l) on) [ inl here ↦ x.least l of_it here pass | inr there ↦ more l of_it there pass ];
  }

  keep_right : (b : Limit) → IsBest d p Q b → ((l : Limit) → IsLimitOf d l → P (limit_net d l) → p l ≡ true → limit_rank d b ≤ limit_rank d l) → IsBest d p S b
  keep_right b y more = record {
    of_it = y.of_it;
    on = right (limit_net d b) y.on;
    passes = y.passes;
    least = λ l of_it on pass. elim (split (limit_net d l) on) [ inl here ↦ more l of_it here pass | inr there ↦ y.least l of_it there pass ];
  }

  by_rank : (a b : Limit) → IsBest d p P a → IsBest d p Q b → (t : Bool) → nat_lt (limit_rank d b) (limit_rank d a) ≡ t → IsFirst d p S (if t then Some b else Some a)
  by_rank a b x y true lower =
      let lt = (Decides-ltb (limit_rank d b) (limit_rank d a)).0 lower in
      keep_right b y (λ l of_it here pass. let le = x.least l of_it here pass in omega (arith, lt, le))
  by_rank a b x y false lower =
      let ge : limit_rank d a ≤ limit_rank d b = grind (arith, nat_tests) in
      keep_left a x (λ l of_it there pass. let le = y.least l of_it there pass in omega (arith, ge, le))

  pub first_of_both : (o r : Option Limit) → IsFirst d p P o → IsFirst d p Q r → IsFirst d p S (earlier d o r)
  first_of_both None None x y = none_on x y
  first_of_both None (Some b) x y = keep_right b y (λ l of_it here pass. absurd (never (p l) pass (x l of_it here)))
  first_of_both (Some a) None x y = keep_left a x (λ l of_it there pass. absurd (never (p l) pass (y l of_it there)))
  first_of_both (Some a) (Some b) x y = by_rank a b x y (nat_lt (limit_rank d b) (limit_rank d a)) refl

-- what a search finds in a list of the limits on a set
module _ (d : Design) (p : Limit → Bool) (On : ℕ → Type 0) (ls : List Limit) (rising : Rising (limit_rank d) ls)
    (all : All (λ l. IsLimitOf d l × On (limit_net d l)) ls) (each : (P : Limit → Type 0) → All P ls → (l : Limit) → IsLimitOf d l → On (limit_net d l) → P l) where
  found : (o : Option Limit) → find p ls ≡ o → IsFirst d p On o
  found None e = each (λ l. p l ≡ false) (find_none p ls e)
  found (Some b) e =
      let here = find_in (λ l. IsLimitOf d l × On (limit_net d l)) p ls b all e in
      record {
        of_it = here.0;
        on = here.1;
        passes = find_passes p ls b e;
        least = each (λ l. p l ≡ true → limit_rank d b ≤ limit_rank d l) (find_least (limit_rank d) p ls b rising e);
      }

pub first_at : (d : Design) (p : Limit → Bool) (n : ℕ) → n < length d.nets → IsFirst d p (λ m. m ≡ n) (find p (limits_at d n))
first_at d p n lt =
    found d p (λ m. m ≡ n) (limits_at d n) (rising_at d n lt)
    (all_at d n lt (λ l. IsLimitOf d l × (limit_net d l ≡ n)) (λ l of_it here. (of_it, here)))
    (λ P h l of_it here. each_at d n lt P h l of_it here)
    (find p (limits_at d n)) refl

pub net_in : (d : Design) (l : Limit) → IsLimitOf d l → limit_net d l < length d.nets
net_in d (Setup e) of_it = d.well.ends_kept.nets_in e of_it
net_in d (Slew n) of_it = of_it
net_in d (Load n) of_it = of_it.0
net_in d Area of_it = absurd of_it

pub first_of_all : (d : Design) (p : Limit → Bool) → IsFirst d p (λ m. m < length d.nets) (find p (limits d))
first_of_all d p =
    found d p (λ m. m < length d.nets) (limits d) (rising_limits d)
    (all_limits d (λ l. IsLimitOf d l × (limit_net d l < length d.nets)) (λ l of_it. (of_it, net_in d l of_it)))
    (λ P h l of_it on. each_limit d P h l of_it)
    (find p (limits d)) refl

-- ---- what the outcome of a net says

first_is_find : (d : Design) (old new : NetTime) (ls : List Limit) → first_broken d old new ls ≡ find (is_broken d old new) ls
first_is_find d old new [] = refl
first_is_find d old new (l ∷ ls) = ap (λ o. if is_broken d old new l then Some l else o) (first_is_find d old new ls)

pub lost_at : (d : Design) (t u : List NetTime) (n : ℕ) (l : Limit) → limit_net d l ≡ n → is_broken d (time_at t n) (time_at u n) l ≡ is_lost d t u l
lost_at d t u n l here = ap (λ m. is_met_in d (time_at t m) l && not (is_met_in d (time_at u m) l)) (sym here)

pub broken_at : (d : Design) (t u : List NetTime) (n : ℕ) → n < length d.nets → first_broken d (time_at t n) (time_at u n) (limits_at d n) ≡ find (is_lost d t u) (limits_at d n)
broken_at d t u n lt =
    first_is_find d (time_at t n) (time_at u n) (limits_at d n)
    ∙ find_same (is_broken d (time_at t n) (time_at u n)) (is_lost d t u) (limits_at d n)
    (all_at d n lt (λ l. is_broken d (time_at t n) (time_at u n) l ≡ is_lost d t u l) (λ l of_it here. lost_at d t u n l here))

-- ---- the loop

below_more : (i n : ℕ) → n < i + 1 → (n < i) ⊎ (n ≡ i)
below_more i n lt = elim (cases_eq n i) [ inl e ↦ inr e | inr other ↦ inl (omega (arith, lt, other)) ]

pub first_none : (d : Design) (p : Limit → Bool) → IsFirst d p (λ m. m < 0) None
first_none d p l of_it on = absurd (omega (arith, on))

pub first_more : (d : Design) (t u : List NetTime) (i : ℕ) (o r : Option Limit) → i < length d.nets → IsFirst d (is_lost d t u) (λ m. m < i) o
    → r ≡ first_broken d (time_at t i) (time_at u i) (limits_at d i) → IsFirst d (is_lost d t u) (λ m. m < i + 1) (earlier d o r)
first_more d t u i o r lt so_far is =
    let here : IsFirst d (is_lost d t u) (λ m. m ≡ i) r = subst (IsFirst d (is_lost d t u) (λ m. m ≡ i)) (sym (is ∙ broken_at d t u i lt)) (first_at d (is_lost d t u) i lt) in
    first_of_both d (is_lost d t u) (λ m. m < i) (λ m. m ≡ i) (λ m. m < i + 1) (below_more i) (λ n below. omega (arith, below)) (λ n e. omega (arith, e)) o r so_far here

pub first_is : (d : Design) (t u : List NetTime) (i : ℕ) (o : Option Limit) → i ≡ length d.nets → IsFirst d (is_lost d t u) (λ m. m < i) o → o ≡ find (is_lost d t u) (limits d)
first_is d t u i o e so_far =
    first_is_one d (is_lost d t u) (λ m. m < length d.nets) o (find (is_lost d t u) (limits d))
    (subst (λ k. IsFirst d (is_lost d t u) (λ m. m < k) o) e so_far) (first_of_all d (is_lost d t u))
