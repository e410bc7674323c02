-- What is there by a test.

use Rattle.std.proofs.Common.{◌≡◌, Bool, true, false, None, Some, refl, sym}
use Rattle.std.specs.Prelude.{if◌then◌else◌}

some_same : {X : Type 0} (x y : X) → Some x ≡ Some y → x ≡ y
some_same x y e = cc

pub not_there : {X : Type 0} (b : Bool) (c : X) → (if b then Some c else None) ≡ None → b ≡ false
not_there true c e = absurd cc
not_there false c e = refl

pub is_there : {X : Type 0} (b : Bool) (c x : X) → (if b then Some c else None) ≡ Some x → b ≡ true
is_there true c x e = refl
is_there false c x e = absurd cc

pub there_is : {X : Type 0} (b : Bool) (c x : X) → (if b then Some c else None) ≡ Some x → x ≡ c
there_is true c x e = sym (some_same c x e)
there_is false c x e = absurd cc
