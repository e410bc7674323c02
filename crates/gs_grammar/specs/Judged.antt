-- Items judged one after another, each by what stands before it: all good, or a first fault.
--
-- The past is the list of the items so far, the latest first, so that one more item is `t ∷ past` and a judgement that asks
-- for the latest is a recursion that looks at the head.

use Rattle.std.specs.Prelude.{◌≡◌, List, [], ◌∷◌, ◌++◌, Option, None, Some}

-- the past after these items in turn
abbrev pub upon : {T : Type 0} → (past : List T) → List T → List T
upon past [] = past
upon past (t ∷ ts) = upon (t ∷ past) ts

-- no item has a fault
abbrev pub AreGood : {T F : Type 0} → (judge : List T → T → Option F) → (past : List T) → List T → Type 0
AreGood judge past [] = Unit {0}
AreGood judge past (t ∷ ts) = (judge past t ≡ None) × AreGood judge (t ∷ past) ts

-- the items are before, this one and after; those before have no fault, and here is one
pub record IsFirstFault {T F : Type 0} (judge : List T → T → Option F) (ts : List T) (t : T) (f : F) : Type 0 where
  pub before : List T
  pub after : List T
  pub list_is : ts ≡ before ++ t ∷ after
  pub good : AreGood judge [] before
  pub here : judge (upon [] before) t ≡ Some f

-- the item's fault, or what comes later
abbrev pub or_later : {T F : Type 0} → Option F → T → Option (T × F) → Option (T × F)
or_later (Some f) t later = Some (t, f)
or_later None t later = later

-- the first item that has a fault, and its fault
unfoldable pub first_fault : {T F : Type 0} → (judge : List T → T → Option F) → (past : List T) → List T → Option (T × F)
first_fault judge past [] = None
first_fault judge past (t ∷ ts) = or_later (judge past t) t (first_fault judge (t ∷ past) ts)
