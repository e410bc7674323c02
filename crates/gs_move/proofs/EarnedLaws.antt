-- A round keeps that each reject was earned: its moves were Fair as it began, and its first move is committed.

use Rattle.std.proofs.Common.{◌≡◌, ℕ, zero, suc, ◌+◌, ◌<◌, ◌≤◌, ◌==◌, Bool, true, false, ◌&&◌, ◌||◌, All, List, [], ◌∷◌, ◌++◌, drop, filter, map, take, length, get_or, slice_index, refl, sym, ◌∙◌, ap, subst, arith, ◌⊎◌, inl, inr}
use Rattle.std.specs.Prelude.{if◌then◌else◌}
use Rattle.std.specs.List.{list_any, range_with_len}
use Rattle.std.proofs.lemmas.Bool.{cases_eq, ne_eqb}
use Rattle.std.proofs.lemmas.List.{get_or_append_left, get_or_at, length-append, length_push, map-append, take-append-drop, take-append-le, take_all, take_at}
use Rattle.std.proofs.lemmas.List.Elements.{All-head, All-tail, All-weaker, filter-append}
use Rattle.std.proofs.lemmas.List.Folds.{list_any_at}
use Rattle.std.proofs.lemmas.List.FromFn.{get_or-range_with_len, length-range_with_len}
use Rattle.gs_design.specs.declared.design.Design.{Design}
use Rattle.gs_move.specs.Alone.{after_move, after_round, sweep_of}
use Rattle.gs_move.specs.Earned.{IsEarned, was_fair_at}
use Rattle.gs_move.specs.Entries.{commits_of, is_commit, move_of}
use Rattle.gs_move.specs.Judge.{Answers, is_fair_by}
use Rattle.gs_move.specs.Legal.{IsLegal}
use Rattle.gs_move.specs.Moves.{is_move}
use Rattle.gs_move.specs.Run.{sizes_after}
use Rattle.gs_move.specs.Settle.{entries_after, entry_at, no_entry, settle_of}
use Rattle.gs_move.specs.State.{sizes_at, sizes_now}
use Rattle.gs_move.specs.declared.entry.Entry.{Entry}
use Rattle.gs_move.specs.declared.entry.Entry.TheVariants.{Commit, Reject}
use Rattle.gs_move.specs.declared.moves.Move.{Move}
use Rattle.gs_move.specs.declared.settled.Settled.{Settled}
use Rattle.gs_move.specs.declared.settled.Settled.TheVariants.{Spent, Stale, Known, Rejected, Committed}
use Rattle.gs_move.proofs.AloneLaws.{first_commits, swept, swept_fair}
use Rattle.gs_move.proofs.RunLaws.{commits_push, commits_stay}

commits_append : (xs ys : List Entry) → commits_of (xs ++ ys) ≡ commits_of xs ++ commits_of ys
commits_append xs ys = ap (map move_of) (filter-append is_commit xs ys) ∙ map-append move_of (filter is_commit xs) (filter is_commit ys)

commits_before : (es : List Entry) (k : ℕ) → length (commits_of (take k es)) ≤ length (commits_of es)
commits_before es k =
    let whole : length (commits_of es) ≡ length (commits_of (take k es) ++ commits_of (drop k es)) =
    ap (λ xs. length (commits_of xs)) (sym (take-append-drop k es)) ∙ ap length (commits_append (take k es) (drop k es)) in
    omega (arith, whole, length-append (commits_of (take k es)) (commits_of (drop k es)))

-- tests that agree below a number
any_same : (p q : ℕ → Bool) (a n : ℕ) → ((k : ℕ) → k < a + n → p k ≡ q k) → list_any p (range_with_len a n) ≡ list_any q (range_with_len a n)
any_same p q a zero h = refl
any_same p q a (suc n) h =
    ap (λ b. b || list_any p (range_with_len (a + 1) n)) (h a (omega arith))
    ∙ ap (λ b. q a || b) (any_same p q (a + 1) n (λ k lt. h k (omega (arith, lt))))

any_below : (p : ℕ → Bool) (n j : ℕ) → j < n → p j ≡ true → list_any p (range_with_len 0 n) ≡ true
any_below p n j lt h =
    let at : get_or (range_with_len 0 n) j 0 ≡ j = omega (arith, get_or-range_with_len 0 n j 0 lt) in
    list_any_at p (range_with_len 0 n) j 0 (omega (arith, lt, length-range_with_len 0 n)) (ap p at ∙ h)

module _ (J : Answers) (d : Design) (start : List ℕ) where
  -- the sizes after the first j commits stay as entries come
  sizes_keep : (es more : List Entry) (j : ℕ) → j ≤ length (commits_of es) → sizes_at start (es ++ more) j ≡ sizes_at start es j
  sizes_keep es more j le = ap (λ ms. sizes_after start (take j ms)) (commits_append es more) ∙ ap (sizes_after start) (take-append-le j (commits_of es) (commits_of more) le)

  fair_keep : (es more : List Entry) (m : Move) (j : ℕ) → j ≤ length (commits_of es) → was_fair_at J d start (es ++ more) m j ≡ was_fair_at J d start es m j
  fair_keep es more m j le = ap (λ s. is_move d s m && is_fair_by J d s m) (sizes_keep es more j le)

  abbrev was_fair : List Entry → Move → ℕ → Bool
  was_fair es m count = list_any (was_fair_at J d start es m) (range_with_len 0 count)

  was_fair_keep : (es more : List Entry) (m : Move) (count : ℕ) → count ≤ length (commits_of es) → was_fair (es ++ more) m count ≡ was_fair es m count
  was_fair_keep es more m count le = any_same (was_fair_at J d start (es ++ more) m) (was_fair_at J d start es m) 0 count (λ j lt. fair_keep es more m j (omega (arith, lt, le)))

  module _ (es : List Entry) (e : Entry) (n : ℕ) (h : IsEarned J d start es n) (here : is_commit e ≡ false → was_fair es (move_of e) (length (commits_of es)) ≡ true) where
    earned_at : (k : ℕ) → n ≤ k → k < length (es ++ e ∷ []) → (k ≡ length es) ⊎ (k ≡ length es → ⊥) → is_commit (entry_at (es ++ e ∷ []) k) ≡ false
        → was_fair (es ++ e ∷ []) (move_of (entry_at (es ++ e ∷ []) k)) (length (commits_of (take k (es ++ e ∷ [])))) ≡ true
    earned_at k from lt (inl at_end) rejected =
        let last : entry_at (es ++ e ∷ []) k ≡ e = ap (entry_at (es ++ e ∷ [])) at_end ∙ get_or_at es e [] no_entry (length es) refl in
        let before : take k (es ++ e ∷ []) ≡ es = ap (λ j. take j (es ++ e ∷ [])) at_end ∙ take_at es (e ∷ []) (length es) refl in
        ap (λ x. was_fair (es ++ e ∷ []) (move_of x) (length (commits_of (take k (es ++ e ∷ []))))) last
        ∙ ap (λ xs. was_fair (es ++ e ∷ []) (move_of e) (length (commits_of xs))) before
        ∙ was_fair_keep es (e ∷ []) (move_of e) (length (commits_of es)) (omega arith)
        ∙ here (sym (ap is_commit last) ∙ rejected)
    earned_at k from lt (inr other) rejected =
        let below : k < length es = omega (arith, lt, other, length_push es e) in
        let same : entry_at (es ++ e ∷ []) k ≡ entry_at es k = get_or_append_left es (e ∷ []) no_entry k below in
        let before : take k (es ++ e ∷ []) ≡ take k es = take-append-le k es (e ∷ []) (omega (arith, below)) in
        ap (λ x. was_fair (es ++ e ∷ []) (move_of x) (length (commits_of (take k (es ++ e ∷ []))))) same
        ∙ ap (λ xs. was_fair (es ++ e ∷ []) (move_of (entry_at es k)) (length (commits_of xs))) before
        ∙ was_fair_keep es (e ∷ []) (move_of (entry_at es k)) (length (commits_of (take k es))) (commits_before es k)
        ∙ h k from below (sym (ap is_commit same) ∙ rejected)

    earned_push : IsEarned J d start (es ++ e ∷ []) n
    earned_push k from lt = earned_at k from lt (cases_eq k (length es))

  -- moves that were Fair after the first j commits, of which there are more by now
  record WereFair (es : List Entry) (n j : ℕ) (ms : List Move) : Type 0 where
    earned : IsEarned J d start es n
    more : j < length (commits_of es)
    fair : All (λ m. was_fair_at J d start es m j ≡ true) ms

  fair_more : (es : List Entry) (e : Entry) (j : ℕ) (ms : List Move) → j < length (commits_of es) → All (λ m. was_fair_at J d start es m j ≡ true) ms → All (λ m. was_fair_at J d start (es ++ e ∷ []) m j ≡ true) ms
  fair_more es e j ms lt all = All-weaker (λ m. was_fair_at J d start es m j ≡ true) (λ m. was_fair_at J d start (es ++ e ∷ []) m j ≡ true) (λ m is. fair_keep es (e ∷ []) m j (omega (arith, lt)) ∙ is) ms all

  settled_earned : (es : List Entry) (n j : ℕ) (m : Move) (ms : List Move) → WereFair es n j (m ∷ ms) → (w : ℕ) (a : Settled) → WereFair (entries_after es m w a) n j ms
  settled_earned es n j m ms h w (Spent k) = record { earned = h.earned; more = h.more; fair = All-tail (λ x. was_fair_at J d start es x j ≡ true) m ms h.fair }
  settled_earned es n j m ms h w (Stale site at') = record { earned = h.earned; more = h.more; fair = All-tail (λ x. was_fair_at J d start es x j ≡ true) m ms h.fair }
  settled_earned es n j m ms h w (Known k) = record { earned = h.earned; more = h.more; fair = All-tail (λ x. was_fair_at J d start es x j ≡ true) m ms h.fair }
  settled_earned es n j m ms h w (Rejected k) =
      let more = h.more in
      record {
        earned = earned_push es (Reject m w) n h.earned (λ _. any_below (was_fair_at J d start es m) (length (commits_of es)) j h.more (All-head (λ x. was_fair_at J d start es x j ≡ true) m ms h.fair));
        more = omega (arith, more, ap length (commits_stay es (Reject m w) refl));
        fair = fair_more es (Reject m w) j ms h.more (All-tail (λ x. was_fair_at J d start es x j ≡ true) m ms h.fair);
      }
  settled_earned es n j m ms h w (Committed k) =
      let more = h.more in
      record {
        earned = earned_push es (Commit m w) n h.earned (λ never. absurd cc);
        more = omega (arith, more, ap length (commits_push es (Commit m w) refl), length_push (commits_of es) m);
        fair = fair_more es (Commit m w) j ms h.more (All-tail (λ x. was_fair_at J d start es x j ≡ true) m ms h.fair);
      }

  module _ (budget : ℕ) where
    moved : (es : List Entry) (n j : ℕ) (m : Move) (ms : List Move) → WereFair es n j (m ∷ ms) → (present : Bool)
        → WereFair (if present then es else entries_after es m 0 (settle_of J d start budget es m (length (commits_of es)))) n j ms
    moved es n j m ms h true = record { earned = h.earned; more = h.more; fair = All-tail (λ x. was_fair_at J d start es x j ≡ true) m ms h.fair }
    moved es n j m ms h false = settled_earned es n j m ms h 0 (settle_of J d start budget es m (length (commits_of es)))

    rest_earned : (ms : List Move) (es : List Entry) (n j : ℕ) → WereFair es n j ms → IsEarned J d start (after_round J d start budget es ms) n
    rest_earned [] es n j h = h.earned
    rest_earned (m ∷ ms) es n j h =
        by_test (length es == budget) (rest_earned ms (after_move J d start budget es m) n j (moved es n j m ms h (m.place == slice_index (sizes_now start es) m.inst)))
      where
        by_test : (full : Bool) → IsEarned J d start (after_round J d start budget (after_move J d start budget es m) ms) n
            → IsEarned J d start (if full then es else after_round J d start budget (after_move J d start budget es m) ms) n
        by_test true rest = h.earned
        by_test false rest = rest

    both_true : (a b : Bool) → a ≡ true → b ≡ true → (a && b) ≡ true
    both_true true b e h = h
    both_true false b e h = absurd cc

    -- the moves that are Fair now are Fair after all commits so far
    fair_now : (es : List Entry) (e : Entry) (m : Move) → is_move d (sizes_now start es) m ≡ true → is_fair_by J d (sizes_now start es) m ≡ true → was_fair_at J d start (es ++ e ∷ []) m (length (commits_of es)) ≡ true
    fair_now es e m is fair =
        fair_keep es (e ∷ []) m (length (commits_of es)) (omega arith)
        ∙ ap (λ ms. is_move d (sizes_after start ms) m && is_fair_by J d (sizes_after start ms) m) (take_all (length (commits_of es)) (commits_of es) (omega arith))
        ∙ both_true (is_move d (sizes_now start es) m) (is_fair_by J d (sizes_now start es) m) is fair

    all_both : (es : List Entry) (e : Entry) (ms : List Move) → All (λ m. is_move d (sizes_now start es) m ≡ true) ms → All (λ m. is_fair_by J d (sizes_now start es) m ≡ true) ms
        → All (λ m. was_fair_at J d start (es ++ e ∷ []) m (length (commits_of es)) ≡ true) ms
    all_both es e ms moves fair k x kt = fair_now es e (get_or ms k x) (moves k x kt) (fair k x kt)

    earns_by : (es : List Entry) (n : ℕ) (ms : List Move) → IsLegal J d start budget es → length es < budget → IsEarned J d start es n → All (λ m. is_move d (sizes_now start es) m ≡ true) ms
        → All (λ m. is_fair_by J d (sizes_now start es) m ≡ true) ms → IsEarned J d start (after_round J d start budget es ms) n
    earns_by es n [] legal room h moves fair = h
    earns_by es n (m ∷ ms) legal room h moves fair =
        let is_m : is_move d (sizes_now start es) m ≡ true = All-head (λ x. is_move d (sizes_now start es) x ≡ true) m ms moves in
        let fair_m : is_fair_by J d (sizes_now start es) m ≡ true = All-head (λ x. is_fair_by J d (sizes_now start es) x ≡ true) m ms fair in
        let first : after_move J d start budget es m ≡ es ++ Commit m 0 ∷ [] = first_commits J d start budget es m legal room is_m fair_m in
        let begun : WereFair (es ++ Commit m 0 ∷ []) n (length (commits_of es)) ms = record {
          earned = earned_push es (Commit m 0) n h (λ never. absurd cc);
          more = omega (arith, ap length (commits_push es (Commit m 0) refl), length_push (commits_of es) m);
          fair = all_both es (Commit m 0) ms (All-tail (λ x. is_move d (sizes_now start es) x ≡ true) m ms moves) (All-tail (λ x. is_fair_by J d (sizes_now start es) x ≡ true) m ms fair);
        } in
        subst (λ full. IsEarned J d start (if full then es else after_round J d start budget (after_move J d start budget es m) ms) n) (sym (ne_eqb (length es) budget (λ e. omega (arith, e, room))))
        (rest_earned ms (after_move J d start budget es m) n (length (commits_of es)) (subst (λ xs. WereFair xs n (length (commits_of es)) ms) (sym first) begun))

    pub sweep_earns : (es : List Entry) (n : ℕ) → IsLegal J d start budget es → length es < budget → IsEarned J d start es n → IsEarned J d start (after_round J d start budget es (sweep_of J d start es)) n
    sweep_earns es n legal room h = earns_by es n (sweep_of J d start es) legal room h (swept J d start budget es) (swept_fair J d start budget es)
