-- Settling keeps entries legal, and a move that is known isn't Fair.

use Rattle.std.proofs.Common.{◌≡◌, ℕ, zero, suc, ◌+◌, ◌<◌, ◌≤◌, ◌==◌, Bool, true, false, ◌&&◌, List, [], ◌∷◌, ◌++◌, take, length, refl, sym, ◌∙◌, ap, subst, arith, ◌⊎◌, inl, inr}
use Rattle.std.specs.Prelude.{if◌then◌else◌, nat_lt}
use Rattle.std.proofs.lemmas.Bool.{cases_eq}
use Rattle.std.proofs.lemmas.Bool.Decides.{Decides-eqb, Decides-ltb, nat_tests}
use Rattle.std.proofs.lemmas.List.{get_or_append_left, get_or_at, length_push, take-append-le, take_all, take_at, take_more}
use Rattle.gs_design.specs.declared.design.Design.{Design}
use Rattle.gs_move.specs.Entries.{commits_of, is_commit, move_of}
use Rattle.gs_move.specs.Judge.{Answers, is_fair_by}
use Rattle.gs_move.specs.Legal.{IsLegal, sizes_before}
use Rattle.gs_move.specs.Moves.{is_move}
use Rattle.gs_move.specs.Run.{sizes_after}
use Rattle.gs_move.specs.Settle.{entries_after, entry_at, known_at, last_commit, last_moved, last_reject, last_where, no_entry, rejects, same_move, settle_of}
use Rattle.gs_move.specs.State.{sizes_now}
use Rattle.gs_move.specs.declared.entry.Entry.{Entry}
use Rattle.gs_move.specs.declared.entry.Entry.TheVariants.{Commit, Reject}
use Rattle.gs_move.specs.declared.moves.Move.{Move}
use Rattle.gs_move.specs.declared.settled.Settled.TheVariants.{Spent, Stale, Known, Rejected, Committed}
use Rattle.gs_move.specs.declared.site.Site.TheVariants.{Inst}
use Rattle.gs_move.proofs.RunLaws.{commits_stay}

-- ---- the last that passes a test

last_same : (p q : ℕ → Bool) (n : ℕ) → ((k : ℕ) → k < n → p k ≡ q k) → last_where p n ≡ last_where q n
last_same p q zero h = refl
last_same p q (suc n) h =
    ap (λ b. if b then suc n else last_where p n) (h n (omega arith))
    ∙ ap (λ k. if q n then suc n else k) (last_same p q n (λ k lt. h k (omega (arith, lt))))

pub last_le : (p : ℕ → Bool) (n : ℕ) → last_where p n ≤ n
last_le p zero = omega arith
last_le p (suc n) = by_test (p n) (last_le p n)
  where
    by_test : (b : Bool) → last_where p n ≤ n → (if b then suc n else last_where p n) ≤ suc n
    by_test true le = omega arith
    by_test false le = omega (arith, le)

abbrev known_by : (commit reject : ℕ) → ℕ
known_by commit reject = if nat_lt commit reject then reject else 0

entry_same : (es : List Entry) (e : Entry) (k : ℕ) → k < length es → entry_at (es ++ e ∷ []) k ≡ entry_at es k
entry_same es e k lt = get_or_append_left es (e ∷ []) no_entry k lt

pub known_same : (es : List Entry) (e : Entry) (n : ℕ) (m : Move) → n ≤ length es → known_at (es ++ e ∷ []) n m ≡ known_at es n m
known_same es e n m le =
    ap (λ c. known_by c (last_reject (es ++ e ∷ []) n m))
    (last_same (λ k. is_commit (entry_at (es ++ e ∷ []) k)) (λ k. is_commit (entry_at es k)) n (λ k lt. ap is_commit (entry_same es e k (omega (arith, lt, le)))))
    ∙ ap (λ r. known_by (last_commit es n) r)
    (last_same (λ k. rejects m (entry_at (es ++ e ∷ []) k)) (λ k. rejects m (entry_at es k)) n (λ k lt. ap (rejects m) (entry_same es e k (omega (arith, lt, le)))))

-- ---- one entry more

module _ (es : List Entry) (e : Entry) (P : List Entry → Entry → Type 0) (here : P es e) where
  entry_more : ((k : ℕ) → k < length es → P (take k es) (entry_at es k)) → (k : ℕ) → k < length (es ++ e ∷ []) → (k ≡ length es) ⊎ (k ≡ length es → ⊥)
      → P (take k (es ++ e ∷ [])) (entry_at (es ++ e ∷ []) k)
  entry_more so_far k lt (inl at_end) =
      subst (λ j. P (take j (es ++ e ∷ [])) (entry_at (es ++ e ∷ []) j)) (sym at_end)
      (subst (λ xs. P xs (entry_at (es ++ e ∷ []) (length es))) (sym (take_at es (e ∷ []) (length es) refl))
      (subst (λ x. P es x) (sym (get_or_at es e [] no_entry (length es) refl)) here))
  entry_more so_far k lt (inr other) =
      let below : k < length es = omega (arith, lt, other, length_push es e) in
      subst (λ xs. P xs (entry_at (es ++ e ∷ []) k)) (sym (take-append-le k es (e ∷ []) (omega (arith, below))))
      (subst (λ x. P (take k es) x) (sym (entry_same es e k below)) (so_far k below))

module _ (J : Answers) (d : Design) (start : List ℕ) (budget : ℕ) (es : List Entry) (e : Entry) (legal : IsLegal J d start budget es) (room : length es < budget)
    (move_now : is_move d (sizes_now start es) (move_of e) ≡ true) (judged_now : is_fair_by J d (sizes_now start es) (move_of e) ≡ is_commit e)
    (new_now : is_commit e ≡ false → known_at es (length es) (move_of e) ≡ 0) where
  once_more : (k : ℕ) → k < length (es ++ e ∷ []) → (k ≡ length es) ⊎ (k ≡ length es → ⊥) → is_commit (entry_at (es ++ e ∷ []) k) ≡ false
      → known_at (es ++ e ∷ []) k (move_of (entry_at (es ++ e ∷ []) k)) ≡ 0
  once_more k lt (inl at_end) rejected =
      let last : entry_at (es ++ e ∷ []) k ≡ e = ap (entry_at (es ++ e ∷ [])) at_end ∙ get_or_at es e [] no_entry (length es) refl in
      ap (known_at (es ++ e ∷ []) k) (ap move_of last) ∙ known_same es e k (move_of e) (omega (arith, at_end))
      ∙ ap (λ n. known_at es n (move_of e)) at_end ∙ new_now (sym (ap is_commit last) ∙ rejected)
  once_more k lt (inr other) rejected =
      let below : k < length es = omega (arith, lt, other, length_push es e) in
      let same : entry_at (es ++ e ∷ []) k ≡ entry_at es k = entry_same es e k below in
      ap (known_at (es ++ e ∷ []) k) (ap move_of same) ∙ known_same es e k (move_of (entry_at es k)) (omega (arith, below)) ∙ legal.once k below (sym (ap is_commit same) ∙ rejected)

  pub legal_push : IsLegal J d start budget (es ++ e ∷ [])
  legal_push = record {
    few = omega (arith, room, length_push es e);
    moves = λ k lt. entry_more es e (λ xs x. is_move d (sizes_now start xs) (move_of x) ≡ true) move_now legal.moves k lt (cases_eq k (length es));
    judged = λ k lt. entry_more es e (λ xs x. is_fair_by J d (sizes_now start xs) (move_of x) ≡ is_commit x) judged_now legal.judged k lt (cases_eq k (length es));
    once = λ k lt. once_more k lt (cases_eq k (length es));
  }

-- ---- settling

unequal : (x y : ℕ) → (x == y) ≡ false → x ≡ y → ⊥
unequal x y e h = absurd (let same = (Decides-eqb x y).1 h in cc)

none_known : (n : ℕ) → nat_lt 0 n ≡ false → n ≡ 0
none_known n e = grind (arith, nat_tests)

module _ (J : Answers) (d : Design) (start : List ℕ) (budget : ℕ) (es : List Entry) (m : Move) (w front : ℕ) (legal : IsLegal J d start budget es) (moves : is_move d (sizes_now start es) m ≡ true) where
  by_tests : (spent stale known fair : Bool) → (length es == budget) ≡ spent → nat_lt 0 (known_at es (length es) m) ≡ known → is_fair_by J d (sizes_now start es) m ≡ fair
      → IsLegal J d start budget (entries_after es m w
      (if spent then Spent (length es)
      else if stale then Stale (Inst (last_moved es)) (length (commits_of es))
      else if known then Known (known_at es (length es) m)
      else if fair then Committed (length (commits_of es) + 1)
      else Rejected (length es + 1)))
  by_tests true stale known fair a c f = legal
  by_tests false true known fair a c f = legal
  by_tests false false true fair a c f = legal
  by_tests false false false true a c f =
      legal_push J d start budget es (Commit m w) legal (let few = legal.few in let apart = unequal (length es) budget a in omega (arith, few, apart)) moves f (λ never. absurd cc)
  by_tests false false false false a c f =
      legal_push J d start budget es (Reject m w) legal (let few = legal.few in let apart = unequal (length es) budget a in omega (arith, few, apart)) moves f (λ _. none_known (known_at es (length es) m) c)

  pub settled_legal : IsLegal J d start budget (entries_after es m w (settle_of J d start budget es m front))
  settled_legal = by_tests (length es == budget) (nat_lt front (length (commits_of es))) (nat_lt 0 (known_at es (length es) m)) (is_fair_by J d (sizes_now start es) m) refl refl refl

-- ---- a known move isn't Fair

both : (a b : Bool) → (a && b) ≡ true → (a ≡ true) × (b ≡ true)
both true b e = (refl, e)
both false b e = absurd cc

pub move_is : (a b : Move) → same_move a b ≡ true → a ≡ b
move_is a b e =
    let parts = both (a.inst == b.inst) (a.place == b.place) e in
    λ i. record { inst = (Decides-eqb a.inst b.inst).0 parts.0 i; place = (Decides-eqb a.place b.place).0 parts.1 i }

rejected_move : (m : Move) (e : Entry) → rejects m e ≡ true → same_move m (move_of e) ≡ true
rejected_move m (Commit n w) is = absurd cc
rejected_move m (Reject n w) is = is

none_after : (commit reject : ℕ) → reject ≤ commit → 0 < known_by commit reject → ⊥
none_after commit reject le some = by_test (nat_lt commit reject) refl some
  where
    by_test : (b : Bool) → nat_lt commit reject ≡ b → 0 < (if b then reject else 0) → ⊥
    by_test true is more = absurd (let lt = (Decides-ltb commit reject).0 is in omega (arith, lt, le))
    by_test false is more = absurd (omega (arith, more))

module _ (J : Answers) (d : Design) (start : List ℕ) (budget : ℕ) (es : List Entry) (legal : IsLegal J d start budget es) (m : Move) where
  -- a reject changes no size
  sizes_stay : (n : ℕ) → n < length es → is_commit (entry_at es n) ≡ false → sizes_before start es (suc n) ≡ sizes_before start es n
  sizes_stay n lt rejected =
      let one : suc n ≡ n + 1 = omega arith in
      ap (λ k. sizes_before start es k) one ∙ ap (sizes_now start) (take_more es n no_entry lt) ∙ ap (sizes_after start) (commits_stay (take n es) (entry_at es n) rejected)

  step : (n : ℕ) → n < length es → (0 < known_at es n m → is_fair_by J d (sizes_before start es n) m ≡ false) → (c r : Bool) → is_commit (entry_at es n) ≡ c → rejects m (entry_at es n) ≡ r
      → 0 < known_by (if c then suc n else last_commit es n) (if r then suc n else last_reject es n m) → is_fair_by J d (sizes_before start es (suc n)) m ≡ false
  step n lt rest true true is_c is_r some = absurd (none_after (suc n) (suc n) (omega arith) some)
  step n lt rest true false is_c is_r some = absurd (none_after (suc n) (last_reject es n m) (let low = last_le (λ k. rejects m (entry_at es k)) n in omega (arith, low)) some)
  step n lt rest false true is_c is_r some =
      let same : m ≡ move_of (entry_at es n) = move_is m (move_of (entry_at es n)) (rejected_move m (entry_at es n) is_r) in
      ap (λ s. is_fair_by J d s m) (sizes_stay n lt is_c) ∙ ap (is_fair_by J d (sizes_before start es n)) same ∙ legal.judged n lt ∙ is_c
  step n lt rest false false is_c is_r some = ap (λ s. is_fair_by J d s m) (sizes_stay n lt is_c) ∙ rest some

  pub known_unfair : (n : ℕ) → n ≤ length es → 0 < known_at es n m → is_fair_by J d (sizes_before start es n) m ≡ false
  known_unfair zero le some = absurd (omega (arith, some))
  known_unfair (suc n) le some =
      step n (omega (arith, le)) (known_unfair n (omega (arith, le))) (is_commit (entry_at es n)) (rejects m (entry_at es n)) refl refl some

  fair_by_test : (k : ℕ) → (0 < k → is_fair_by J d (sizes_now start es) m ≡ false) → is_fair_by J d (sizes_now start es) m ≡ true → k ≡ 0
  fair_by_test zero h fair = refl
  fair_by_test (suc k) h fair = absurd (let unfair = h (omega arith) in cc)

  pub fair_unknown : is_fair_by J d (sizes_now start es) m ≡ true → known_at es (length es) m ≡ 0
  fair_unknown =
      fair_by_test (known_at es (length es) m)
      (λ some. ap (λ xs. is_fair_by J d (sizes_now start xs) m) (sym (take_all (length es) es (omega arith))) ∙ known_unfair (length es) (omega arith) some)
