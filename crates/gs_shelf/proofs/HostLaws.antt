-- What a shelf over the system owes its trait: an error is a fault that was counted, and nothing else is counted.
use Rattle.std.proofs.Common.{◌≡◌, ◌≢◌, ℕ, Result, Ok, Err, IfErr, OnOk, OnErr, ap, arith}
use Rattle.gs_shelf.specs.declared.calls.ShelfErr.{ShelfErr}
use Rattle.gs_shelf.specs.declared.calls.ShelfErr.TheVariants.{Failed}
use Rattle.gs_shelf.specs.Faults.{next_count, HasCause}

pub still_of : {T : Type 0} → (before now : ℕ) (r : Result T ShelfErr) → IfErr r (λ e. e ≡ Failed) → OnOk r (now ≡ before) → r ≢ Err Failed → now ≡ before
still_of before now (Ok x) failed still ne = still
still_of before now (Err e) failed still ne = absurd (ne (ap Err failed))

pub counted_of : {T : Type 0} → (before now : ℕ) (r : Result T ShelfErr) → OnErr r (now ≡ next_count before) → r ≡ Err Failed → now ≡ next_count before
counted_of before now (Ok x) counted is = cc
counted_of before now (Err e) counted is = counted

pub cause_of : {T : Type 0} → (before now : ℕ) (r : Result T ShelfErr) → (r ≡ Err Failed → now ≡ next_count before) → HasCause before now r
cause_of before now (Ok x) counted = tt
cause_of before now (Err e) counted = λ failed. let risen : now ≡ next_count before = counted (ap Err failed) in omega (arith, risen)
