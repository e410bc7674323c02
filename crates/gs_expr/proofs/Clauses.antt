-- The clauses of the public call, from its answer as a function of the bytes and names.

use Rattle.std.proofs.Common.{◌≡◌, ◌≢◌, ◌⊎◌, ◌↔◌, ◌∙◌, inl, inr, sym, ap, subst, refl, ℕ, ◌<◌, ◌≤◌, Bool, true, false, nat_lt, List, length, Result, Ok, Err, IfOk, IfErr, MatchResult, if◌then◌else◌, arith}
use Rattle.std.proofs.lemmas.Bool.Decides.{nat_tests}
use Rattle.gs_grammar.proofs.Lawful.{lawful}
use Rattle.gs_grammar.specs.Lawful.{IsLawful}
use Rattle.gs_expr.specs.Machine.{reading, outcome, Fails}
use Rattle.gs_expr.specs.Refusal.{HasCause, IsDecided}
use Rattle.gs_expr.specs.Truth.{IsTruth}
use Rattle.gs_expr.specs.declared.error.ExprErr.{ExprErr}
use Rattle.gs_expr.specs.declared.error.ExprErr.TheVariants.{TooMany, TooDeep, Syntax, UnknownPin, Mem}
use Rattle.gs_expr.proofs.Outcome.{reading_ok, truth_reading, reading_err, fault_reading, deep_reading, pin_reading}

abbrev pub Gives : Result ℕ ExprErr → Result ℕ ExprErr → Type 0
Gives r x = MatchResult r (λ v. x ≡ Ok v) (λ e. Fails e x)

module _ (bytes : List ℕ) (names : List (List ℕ)) where
  abbrev whole : Result ℕ ExprErr
  whole = outcome bytes names

  many_is : 6 < length names → nat_lt 6 (length names) ≡ true
  many_is lt = grind (arith, nat_tests)

  few_is : length names ≤ 6 → nat_lt 6 (length names) ≡ false
  few_is le = grind (arith, nat_tests)

  abbrev by_count : Bool → Result ℕ ExprErr
  by_count b = if b then Err ExprErr.TooMany else reading bytes names

  pub many : 6 < length names → whole ≡ Err ExprErr.TooMany
  many lt = ap by_count (many_is lt)

  pub few : length names ≤ 6 → whole ≡ reading bytes names
  few le = ap by_count (few_is le)

  -- ---- the answer as a function, and the relations

  ok_by : (b : Bool) (v : ℕ) → nat_lt 6 (length names) ≡ b → by_count b ≡ Ok v → IsTruth bytes names v
  ok_by true v e h = cc
  ok_by false v e h = reading_ok bytes names (grind (arith, nat_tests, e)) v h

  ok_truth : (v : ℕ) → whole ≡ Ok v → IsTruth bytes names v
  ok_truth v h = ok_by (nat_lt 6 (length names)) v refl h

  truth_ok : (v : ℕ) → IsTruth bytes names v → whole ≡ Ok v
  truth_ok v t = few t.few ∙ truth_reading bytes names v t

  abbrev Why : ExprErr → Type 0
  Why e = (e ≢ ExprErr.Mem) × HasCause bytes names e

  err_by : (b : Bool) (e : ExprErr) → nat_lt 6 (length names) ≡ b → by_count b ≡ Err e → Why e
  err_by true e count h =
      let same : ExprErr.TooMany ≡ e = cc in
      let lt : 6 < length names = grind (arith, nat_tests, count) in
      subst Why same (λ m. cc, lt)
  err_by false e count h = reading_err bytes names (grind (arith, nat_tests, count)) e h

  err_why : (e : ExprErr) → whole ≡ Err e → Why e
  err_why e h = err_by (nat_lt 6 (length names)) e refl h

  cause_err : (e : ExprErr) → e ≢ ExprErr.Mem → HasCause bytes names e → whole ≡ Err e
  cause_err TooMany n c = many c
  cause_err (TooDeep k) n c = few c.0 ∙ deep_reading bytes names k c.1
  cause_err (Syntax k) n c = few c.0 ∙ fault_reading bytes names k c.1
  cause_err (UnknownPin k) n c = few c.0 ∙ pin_reading bytes names k c.1
  cause_err Mem n c = absurd (n refl)

  -- ---- the clauses

  pub answers_ok : (r : Result ℕ ExprErr) → Gives r whole → IfOk r (λ v. IsTruth bytes names v)
  answers_ok (Ok v) h = ok_truth v h
  answers_ok (Err e) h = tt

  only_err : (v : ℕ) (e : ExprErr) → whole ≡ Ok v → Fails e whole → e ≡ ExprErr.Mem
  only_err v e h (inl m) = m
  only_err v e h (inr k) = let never : Ok v ≡ Err e = sym h ∙ k in cc

  pub answers_only : (r : Result ℕ ExprErr) → Gives r whole → (v : ℕ) → IsTruth bytes names v → MatchResult r (λ found. found ≡ v) (λ e. e ≡ ExprErr.Mem)
  answers_only (Ok f) h v t = let both : Ok f ≡ Ok v = sym h ∙ truth_ok v t in cc
  answers_only (Err e) h v t = only_err v e (truth_ok v t) h

  cause_of : (e : ExprErr) → Fails e whole → HasCause bytes names e
  cause_of e (inl m) = subst (HasCause bytes names) (sym m) tt
  cause_of e (inr k) = (err_why e k).1

  pub answers_err : (r : Result ℕ ExprErr) → Gives r whole → IfErr r (λ e. HasCause bytes names e)
  answers_err (Ok v) h = tt
  answers_err (Err e) h = cause_of e h

  exact_err : (e f : ExprErr) → whole ≡ Err e → Fails f whole → (f ≡ e) ⊎ (f ≡ ExprErr.Mem)
  exact_err e f h (inl m) = inr m
  exact_err e f h (inr k) = let both : Err f ≡ Err e = sym k ∙ h in inl cc

  pub answers_exact : (r : Result ℕ ExprErr) → Gives r whole → (e : ExprErr) → e ≢ ExprErr.Mem → HasCause bytes names e
      → MatchResult r (λ v. ⊥) (λ f. (f ≡ e) ⊎ (f ≡ ExprErr.Mem))
  answers_exact (Ok v) h e n c = let never : Ok v ≡ Err e = sym h ∙ cause_err e n c in cc
  answers_exact (Err f) h e n c = exact_err e f (cause_err e n c) h

  decided_by : (r : Result ℕ ExprErr) → whole ≡ r → IsDecided bytes names
  decided_by (Ok v) h = inl (v, ok_truth v h)
  decided_by (Err e) h = let w = err_why e h in inr (e, w.0, w.1)

  pub decided : IsDecided bytes names
  decided = decided_by whole refl

  -- ---- the law

  pub is_lawful : IsLawful ExprErr.Mem (IsTruth bytes names) (HasCause bytes names)
  is_lawful = lawful ExprErr.Mem whole (IsTruth bytes names) (HasCause bytes names) truth_ok cause_err decided

  pub is_table : (v : ℕ) → (whole ≡ Ok v) ↔ IsTruth bytes names v
  is_table v = (ok_truth v, truth_ok v)

  pub is_refusal : (e : ExprErr) → (whole ≡ Err e) ↔ ((e ≢ ExprErr.Mem) × HasCause bytes names e)
  is_refusal e = (err_why e, λ w. cause_err e w.0 w.1)
