-- Fronts of a form, and the places at which a list of tokens is refused.
--
-- A form is a property of whole lists of tokens, and a text is a list of the form that keeps the rules besides.

use Rattle.std.specs.Prelude.{◌≡◌, ℕ, ◌+◌, ◌<◌, List, ◌++◌, length, take}

-- the list is a front: some list completes it to a whole
abbrev pub IsFrontOf : {T : Type 0} → (List T → Type 0) → List T → Type 0
IsFrontOf {T = T} Whole ts = (more : List T) × Whole (ts ++ more)

-- token i is the first with which the list doesn't begin a text, and with it the list isn't even a front of the form
pub record IsFirstBad {T : Type 0} (Form Whole : List T → Type 0) (ts : List T) (i : ℕ) : Type 0 where
  pub inside : i < length ts
  pub before : IsFrontOf Whole (take i ts)
  pub here : IsFrontOf Form (take (i + 1) ts) → ⊥

-- token i is the first with which the list doesn't begin a text; with it the list is still a front of the form, so it only breaks a rule
pub record IsFirstBroken {T : Type 0} (Form Whole : List T → Type 0) (ts : List T) (i : ℕ) : Type 0 where
  pub inside : i < length ts
  pub before : IsFrontOf Whole (take i ts)
  pub form : IsFrontOf Form (take (i + 1) ts)
  pub here : IsFrontOf Whole (take (i + 1) ts) → ⊥

-- the list begins a text and is none: it ends early, and i is the number of its tokens
pub record EndsEarly {T : Type 0} (Whole : List T → Type 0) (ts : List T) (i : ℕ) : Type 0 where
  pub all : i ≡ length ts
  pub before : IsFrontOf Whole ts
  pub here : Whole ts → ⊥
