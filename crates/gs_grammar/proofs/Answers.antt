-- The clauses of a call, from what is said of its input; and the same clauses where its errors get other names.

use Rattle.std.proofs.Common.{◌≡◌, ◌≢◌, ◌⊎◌, inl, inr, refl, sym, ap, subst, ◌∙◌, Result, Ok, Err, IfOk, IfErr, MatchResult}
use Rattle.gs_grammar.specs.Answers.{Fails, Answers, IsOnly, IsExact, IsRefused, IsDecided, renamed}

module _ {V E : Type 0} (mem : E) (said : Result V E) where
  -- a value is answered only where it is said
  pub answers_ok : (Text : V → Type 0) → ((v : V) → said ≡ Ok v → Text v) → (r : Result V E) → Answers mem said r → IfOk r Text
  answers_ok Text sound (Ok v) h = sound v h
  answers_ok Text sound (Err e) h = tt

  only_err : (v : V) (e : E) → said ≡ Ok v → Fails mem e said → e ≡ mem
  only_err v e h (inl m) = m
  only_err v e h (inr k) = let never : ◌≡◌ {A = Result V E} (Ok v) (Err e) = sym h ∙ k in cc

  -- and wherever it is said, unless memory runs out
  pub answers_only : (Text : V → Type 0) → ((v : V) → Text v → said ≡ Ok v) → (r : Result V E) → Answers mem said r → IsOnly mem Text r
  answers_only Text complete (Ok f) h v t = let both : ◌≡◌ {A = Result V E} (Ok f) (Ok v) = sym h ∙ complete v t in cc
  answers_only Text complete (Err e) h v t = only_err v e (complete v t) h

  err_by : (Cause : E → Type 0) → ((e : E) → said ≡ Err e → Cause e) → Cause mem → (e : E) → Fails mem e said → Cause e
  err_by Cause causes free e (inl m) = subst Cause (sym m) free
  err_by Cause causes free e (inr k) = causes e k

  -- a refusal is answered only by its cause
  pub answers_err : (Cause : E → Type 0) → ((e : E) → said ≡ Err e → Cause e) → Cause mem → (r : Result V E) → Answers mem said r → IfErr r Cause
  answers_err Cause causes free (Ok v) h = tt
  answers_err Cause causes free (Err e) h = err_by Cause causes free e h

  exact_err : (e f : E) → said ≡ Err e → Fails mem f said → (f ≡ e) ⊎ (f ≡ mem)
  exact_err e f h (inl m) = inr m
  exact_err e f h (inr k) = let both : ◌≡◌ {A = Result V E} (Err f) (Err e) = sym k ∙ h in inl cc

  -- and wherever its cause stands, unless memory runs out
  pub answers_exact : (Cause : E → Type 0) → ((e : E) → e ≢ mem → Cause e → said ≡ Err e) → (r : Result V E) → Answers mem said r → IsExact mem Cause r
  answers_exact Cause caused (Ok v) h e n k = let never : ◌≡◌ {A = Result V E} (Ok v) (Err e) = sym h ∙ caused e n k in cc
  answers_exact Cause caused (Err f) h e n k = exact_err e f (caused e n k) h

  decided_by : (Text : V → Type 0) (Cause : E → Type 0) → ((v : V) → said ≡ Ok v → Text v) → ((e : E) → said ≡ Err e → Cause e)
      → ((e : E) → said ≡ Err e → e ≢ mem) → (r : Result V E) → said ≡ r → IsDecided mem Text Cause
  decided_by Text Cause sound causes lasts (Ok v) h = inl (v, sound v h)
  decided_by Text Cause sound causes lasts (Err e) h = inr (e, lasts e h, causes e h)

  -- what is said decides, where it is never want of memory
  pub decided : (Text : V → Type 0) (Cause : E → Type 0) → ((v : V) → said ≡ Ok v → Text v) → ((e : E) → said ≡ Err e → Cause e)
      → ((e : E) → said ≡ Err e → e ≢ mem) → IsDecided mem Text Cause
  decided Text Cause sound causes lasts = decided_by Text Cause sound causes lasts said refl

-- the causes under two names: each cause of an error is one of its new name, and each cause of a new name is one of an error that has it
pub record SameCauses {E F : Type 0} (mem : E) (last : F) (name : E → F) (Cause : E → Type 0) (Named : F → Type 0) : Type 0 where
  pub memory : name mem ≡ last
  pub there : (e : E) → Cause e → Named (name e)
  pub back : (f : F) → f ≢ last → Named f → (e : E) × (Cause e) × (name e ≡ f)
  pub stays : (e : E) → e ≢ mem → Cause e → name e ≢ last

which : {E F : Type 0} (mem : E) (last : F) (name : E → F) → name mem ≡ last → (f : F) (d e : E) → name e ≡ f
    → (d ≡ e) ⊎ (d ≡ mem) → (name d ≡ f) ⊎ (name d ≡ last)
which mem last name memory f d e is (inl h) = inl (ap name h ∙ is)
which mem last name memory f d e is (inr h) = inr (ap name h ∙ memory)

module _ {V E F : Type 0} (mem : E) (last : F) (name : E → F) where
  pub renamed_ok : (P : V → Type 0) (r : Result V E) → IfOk r P → IfOk (renamed name r) P
  renamed_ok P (Ok v) h = h
  renamed_ok P (Err e) h = tt

  pub renamed_refused : (e : E) (r : Result V E) → IsRefused e r → IsRefused (name e) (renamed name r)
  renamed_refused e (Ok v) h = h
  renamed_refused e (Err d) h = ap name h

  only_by : (P : V → Type 0) (r : Result V E) → name mem ≡ last → MatchResult r P (λ e. e ≡ mem) → MatchResult (renamed name r) P (λ f. f ≡ last)
  only_by P (Ok v) m h = h
  only_by P (Err e) m h = ap name h ∙ m

  pub renamed_only : (Text : V → Type 0) (r : Result V E) → name mem ≡ last → IsOnly mem Text r → IsOnly last Text (renamed name r)
  renamed_only Text r m h v t = only_by (λ found. found ≡ v) r m (h v t)

  module _ (Cause : E → Type 0) (Named : F → Type 0) (same : SameCauses mem last name Cause Named) where
    pub renamed_err : (r : Result V E) → IfErr r Cause → IfErr (renamed name r) Named
    renamed_err (Ok v) h = tt
    renamed_err (Err e) h = same.there e h

    exact_by : (f : F) (e : E) (r : Result V E) → name e ≡ f → MatchResult r (λ _. ⊥) (λ d. (d ≡ e) ⊎ (d ≡ mem))
        → MatchResult (renamed name r) (λ _. ⊥) (λ g. (g ≡ f) ⊎ (g ≡ last))
    exact_by f e (Ok v) is h = h
    exact_by f e (Err d) is h = which mem last name same.memory f d e is h

    pub renamed_exact : (r : Result V E) → IsExact mem Cause r → IsExact last Named (renamed name r)
    renamed_exact r h f n k =
        let b = same.back f n k in
        let other : b.0 ≢ mem = λ m. n (sym b.2 ∙ ap name m ∙ same.memory) in
        exact_by f b.0 r b.2 (h b.0 other b.1)

    pub renamed_decided : (Text : V → Type 0) → IsDecided mem Text Cause → IsDecided last Text Named
    renamed_decided Text (inl t) = inl t
    renamed_decided Text (inr c) = inr (name c.0, same.stays c.0 c.1 c.2, same.there c.0 c.2)
