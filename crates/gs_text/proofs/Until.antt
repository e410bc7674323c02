-- Counting up to the first byte at which a test of the byte and the next one holds.
use Rattle.std.proofs.Common.{◌≡◌, refl, ℕ, zero, suc, ◌+◌, ◌<◌, ◌≤◌, Bool, true, false, cond, get_or, slice_index, inl, inr, ◌⊎◌, List, [], ◌∷◌, length, add-one, arith}
use Rattle.std.proofs.lemmas.Bool.{cases_lt}
use Rattle.gs_text.specs.Runs.{until}

at_most_more : (b : Bool) (m n : ℕ) → m ≤ n → cond b 0 (m + 1) ≤ suc n
at_most_more true m n le = omega arith
at_most_more false m n le = omega arith

not_first : (b : Bool) (m k : ℕ) → k < cond b 0 (m + 1) → b ≡ false
not_first true m k lt = absurd (omega arith)
not_first false m k lt = refl

more_before : (b : Bool) (m k : ℕ) → suc k < cond b 0 (m + 1) → k < m
more_before true m k lt = absurd (omega arith)
more_before false m k lt = omega arith

module _ (test : ℕ → ℕ → Bool) where
  pub until-le-length : (bs : List ℕ) → until test bs ≤ length bs
  until-le-length [] = omega arith
  until-le-length (c ∷ cs) = at_most_more (test c (slice_index cs 0)) (until test cs) (length cs) (until-le-length cs)

  -- at no place before it does the test hold
  pub until-before : (bs : List ℕ) (k : ℕ) → k < until test bs → test (get_or bs k 0) (get_or bs (k + 1) 0) ≡ false
  until-before [] k lt = absurd (omega arith)
  until-before (c ∷ cs) zero lt = not_first (test c (slice_index cs 0)) (until test cs) 0 lt
  until-before (c ∷ cs) (suc k) lt =
      let here : test (get_or cs k 0) (get_or cs (k + 1) 0) ≡ false = until-before cs k (more_before (test c (slice_index cs 0)) (until test cs) k lt) in
      simp add-one (simp add-one at here)

  at_of : (b : Bool) (c m : ℕ) (cs : List ℕ) → test c (get_or cs 0 0) ≡ b → cond b 0 (m + 1) < suc (length cs) → (m < length cs → test (get_or cs m 0) (get_or cs (m + 1) 0) ≡ true)
      → test (get_or (c ∷ cs) (cond b 0 (m + 1)) 0) (get_or (c ∷ cs) (cond b 0 (m + 1) + 1) 0) ≡ true
  at_of true c m cs e lt later = e
  at_of false c m cs e lt later =
      let here : test (get_or cs m 0) (get_or cs (m + 1) 0) ≡ true = later (omega arith) in
      simp add-one (simp add-one at here)

  -- at its own place it does
  pub until-at : (bs : List ℕ) → until test bs < length bs → test (get_or bs (until test bs) 0) (get_or bs (until test bs + 1) 0) ≡ true
  until-at [] lt = absurd (omega arith)
  until-at (c ∷ cs) lt = at_of (test c (slice_index cs 0)) c (until test cs) cs refl lt (until-at cs)

  -- a run that is one byte longer, since its first byte isn't tested, ends at the text's end or where the test holds
  pub run-ends : (c : ℕ) (cs : List ℕ) → (until test cs + 1 ≡ length (c ∷ cs)) ⊎ (test (slice_index (c ∷ cs) (until test cs + 1)) (slice_index (c ∷ cs) (until test cs + 1 + 1)) ≡ true)
  run-ends c cs = elim (cases_lt (until test cs) (length cs)) [
    | inl lt ↦
        let here : test (get_or cs (until test cs) 0) (get_or cs (until test cs + 1) 0) ≡ true = until-at cs lt in
        inr (simp add-one (simp add-one at here))
    | inr le ↦ let most : until test cs ≤ length cs = until-le-length cs in inl (omega arith)
  ]

  pub run-before : (c : ℕ) (cs : List ℕ) (k : ℕ) → 0 < k → k < until test cs + 1 → test (slice_index (c ∷ cs) k) (slice_index (c ∷ cs) (k + 1)) ≡ false
  run-before c cs zero some lt = absurd (omega arith)
  run-before c cs (suc k) some lt =
      let here : test (get_or cs k 0) (get_or cs (k + 1) 0) ≡ false = until-before cs k (omega arith) in
      simp add-one (simp add-one at here)

  -- where it doesn't hold at the first byte either, it holds at none of the run
  pub run-inside : (c : ℕ) (cs : List ℕ) → test c (slice_index cs 0) ≡ false → (k : ℕ) → k < until test cs + 1 → test (slice_index (c ∷ cs) k) (slice_index (c ∷ cs) (k + 1)) ≡ false
  run-inside c cs e zero lt = e
  run-inside c cs e (suc k) lt = run-before c cs (suc k) (omega arith) lt

  -- where the test holds nowhere, the run is all
  pub until-all : (bs : List ℕ) → ((k : ℕ) → k < length bs → test (get_or bs k 0) (get_or bs (k + 1) 0) ≡ false) → until test bs ≡ length bs
  until-all bs none = elim (cases_lt (until test bs) (length bs)) [
    | inl lt ↦ absurd (both (until-at bs lt) (none (until test bs) lt))
    | inr le ↦ let most : until test bs ≤ length bs = until-le-length bs in omega arith
  ]
    where
      both : {b : Bool} → b ≡ true → b ≡ false → ⊥
      both t f = cc (t, f)
