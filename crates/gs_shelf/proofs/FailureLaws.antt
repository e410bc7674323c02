-- How often a pair stands in the list of failed calls once a call was entered.
use Rattle.std.proofs.Common.{◌≡◌, ℕ, ◌+◌, Bool, true, false, cond, ◌&&◌, List, [], ◌∷◌, ◌++◌, refl, ◌∙◌, ap, arith}
use Rattle.std.specs.Str.{bytes_eq}
use Rattle.std.proofs.lemmas.Slice.Eq.{bytes_eq-Decides}
use Rattle.gs_shelf.specs.declared.calls.Op.{Op}
use Rattle.gs_shelf.specs.declared.calls.Op.TheVariants.{Fetch, Store, Say}
use Rattle.gs_shelf.specs.declared.lists.Failure.{Failure}
use Rattle.gs_shelf.specs.Faults.{Rose, NoneFell}
use Rattle.gs_shelf.specs.Lists.{same_op, times}

times-push : (fs : List Failure) (f : Failure) (op : Op) (name : List ℕ) → times (fs ++ f ∷ []) op name ≡ times fs op name + cond (same_op f.op op && bytes_eq f.name name) 1 0
times-push [] f op name = omega arith
times-push (g ∷ fs) f op name = let ih = times-push fs f op name in omega arith

same_itself : (op : Op) → same_op op op ≡ true
same_itself Fetch = refl
same_itself Store = refl
same_itself Say = refl

-- no count falls where a call is entered
pub NoneFell-entered : (old new : List Failure) (f : Failure) → new ≡ old ++ f ∷ [] → NoneFell (times old) (times new)
NoneFell-entered old new f e op name = let more = ap (λ fs. times fs op name) e ∙ times-push old f op name in omega arith

risen : (b : Bool) (n m : ℕ) → b ≡ true → m ≡ n + cond b 1 0 → Rose n m
risen true n m e h = omega arith
risen false n m e h = cc

-- the count of a failed call rises
pub Rose-entered : (old new : List Failure) (f : Failure) → new ≡ old ++ f ∷ [] → Rose (times old f.op f.name) (times new f.op f.name)
Rose-entered old new f e =
    let same : (same_op f.op f.op && bytes_eq f.name f.name) ≡ true = rw (same_itself f.op, (bytes_eq-Decides f.name f.name).1 refl) refl in
    risen (same_op f.op f.op && bytes_eq f.name f.name) _ _ same (ap (λ fs. times fs f.op f.name) e ∙ times-push old f f.op f.name)
