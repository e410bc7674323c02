-- What holds of what is read, and of what isn't.
use Rattle.std.proofs.Common.{◌≡◌, ◌≢◌, refl, sym, subst, inl, inr, Option, None, Result, Ok, Err, IfOk}
use Rattle.gs_drivers.specs.Twice.{OfRead}
use Rattle.gs_drivers.specs.declared.twice.Drivers.{Drivers}

module _ {V E : Type 0} (IsRead : V → Type 0) (Holds : V → Option Drivers → Type 0) where
  pub by_read : (v : V) (r : Result (Option Drivers) E) → IsRead v → IfOk r (Holds v) → IfOk r (OfRead IsRead Holds)
  by_read v (Ok found) is holds = inl (v, is, holds)
  by_read v (Err e) is holds = tt

  -- the refusal isn't want of memory, and where there is a value, it is
  pub unread : {F : Type 0} (mem refusal : F) (r : Result (Option Drivers) E) → IfOk r (λ found. found ≡ None) → IfOk r (λ found. refusal ≢ mem)
      → ((v : V) → IsRead v → refusal ≡ mem) → IfOk r (OfRead IsRead Holds)
  unread mem refusal (Ok found) none cause only = subst (OfRead IsRead Holds) (sym none) (inr (λ v is. cause (only v is), refl))
  unread mem refusal (Err e) none cause only = tt
