-- What settling answers, where the tests of the code went one way or the other; and a trial that was made at the present sizes.

use Rattle.std.proofs.Common.{◌≡◌, ℕ, ◌+◌, ◌-◌, ◌<◌, ◌≤◌, ◌==◌, Bool, true, false, List, length, map, sym, ◌∙◌, ap, arith}
use Rattle.std.specs.Prelude.{if◌then◌else◌, nat_lt}
use Rattle.std.proofs.lemmas.Bool.{le-ltb, lt-ltb, ne_eqb}
use Rattle.std.proofs.lemmas.Bool.Decides.{Decides-eqb}
use Rattle.std.proofs.lemmas.List.{take_all}
use Rattle.gs_book.specs.Book.{IsKept, IsTrialOf}
use Rattle.gs_book.specs.Journal.{journal_move, journal_of}
use Rattle.gs_book.specs.Noted.{Noted, number_of}
use Rattle.gs_design.specs.declared.design.Design.{Design}
use Rattle.gs_design.specs.declared.time.NetTime.{NetTime}
use Rattle.gs_move.specs.Change.{change_of}
use Rattle.gs_move.specs.Entries.{IsMoveOf, commits_of}
use Rattle.gs_move.specs.Judge.{Answers, is_fair, is_fair_by}
use Rattle.gs_move.specs.Moves.{is_move}
use Rattle.gs_move.specs.Run.{move_at, sizes_after}
use Rattle.gs_move.specs.Settle.{known_at, last_commit, last_moved, last_reject, settle_of}
use Rattle.gs_move.specs.State.{sizes_at, sizes_now}
use Rattle.gs_move.specs.Trial.{changed_nets, delta_of, trial_of}
use Rattle.gs_move.specs.declared.entry.Entry.{Entry}
use Rattle.gs_move.specs.declared.moves.Move.{Move}
use Rattle.gs_move.specs.declared.outcome.Outcome.TheVariants.{Fair, NotFair}
use Rattle.gs_move.specs.declared.outcome.Why.{Why}
use Rattle.gs_move.specs.declared.settled.Settled.{Settled}
use Rattle.gs_move.specs.declared.settled.Settled.TheVariants.{Spent, Stale, Known, Rejected, Committed}
use Rattle.gs_move.specs.declared.site.Site.TheVariants.{Inst}
use Rattle.gs_move.specs.declared.trial.JournalEntry.{JournalEntry}
use Rattle.gs_move.specs.declared.trial.Trial.{Trial}
use Rattle.gs_book.proofs.JournalLaws.{journal_length, journal_moves}

module _ (J : Answers) (d : Design) (start : List ℕ) (budget : ℕ) (es : List Entry) (m : Move) (front : ℕ) where
  -- the answer by its four tests
  abbrev by_tests : (spent stale known fair : Bool) → Settled
  by_tests spent stale known fair =
      if spent then Spent (length es)
      else if stale then Stale (Inst (last_moved es)) (length (commits_of es))
      else if known then Known (known_at es (length es) m)
      else if fair then Committed (length (commits_of es) + 1)
      else Rejected (length es + 1)

  abbrev is_spent : Bool
  is_spent = length es == budget

  abbrev is_stale : Bool
  is_stale = nat_lt front (length (commits_of es))

  abbrev is_known : Bool
  is_known = nat_lt 0 (known_at es (length es) m)

  abbrev now_fair : Bool
  now_fair = is_fair_by J d (sizes_now start es) m

  spent_is : length es ≡ budget → settle_of J d start budget es m front ≡ Spent (length es)
  spent_is e = ap (λ b. by_tests b is_stale is_known now_fair) ((Decides-eqb (length es) budget).1 e)

  module _ (room : length es ≡ budget → ⊥) where
    not_spent : settle_of J d start budget es m front ≡ by_tests false is_stale is_known now_fair
    not_spent = ap (λ b. by_tests b is_stale is_known now_fair) (ne_eqb (length es) budget room)

    stale_is : front < length (commits_of es) → settle_of J d start budget es m front ≡ Stale (Inst (last_moved es)) (length (commits_of es))
    stale_is lt = not_spent ∙ ap (λ b. by_tests false b is_known now_fair) (lt-ltb front (length (commits_of es)) lt)

    module _ (fresh : length (commits_of es) ≤ front) where
      not_stale : settle_of J d start budget es m front ≡ by_tests false false is_known now_fair
      not_stale = not_spent ∙ ap (λ b. by_tests false b is_known now_fair) (le-ltb front (length (commits_of es)) fresh)

      known_is : last_commit es (length es) < last_reject es (length es) m → settle_of J d start budget es m front ≡ Known (last_reject es (length es) m)
      known_is lt =
          let is : known_at es (length es) m ≡ last_reject es (length es) m
          = ap (λ b. if b then last_reject es (length es) m else 0) (lt-ltb (last_commit es (length es)) (last_reject es (length es) m) lt) in
          not_stale ∙ ap (λ b. by_tests false false b now_fair) (ap (nat_lt 0) is ∙ lt-ltb 0 (last_reject es (length es) m) (omega (arith, lt))) ∙ ap Known is

      module _ (new : last_reject es (length es) m ≤ last_commit es (length es)) where
        not_known : settle_of J d start budget es m front ≡ by_tests false false false now_fair
        not_known =
            not_stale
            ∙ ap (λ b. by_tests false false (nat_lt 0 (if b then last_reject es (length es) m else 0)) now_fair) (le-ltb (last_commit es (length es)) (last_reject es (length es) m) new)

        committed_is : now_fair ≡ true → settle_of J d start budget es m front ≡ Committed (length (commits_of es) + 1)
        committed_is fair = not_known ∙ ap (λ b. by_tests false false false b) fair

        rejected_is : now_fair ≡ false → settle_of J d start budget es m front ≡ Rejected (length es + 1)
        rejected_is unfair = not_known ∙ ap (λ b. by_tests false false false b) unfair

-- the instance that the journal's last commit moved
journal_last : (d : Design) (start : List ℕ) (es : List Entry) (journal : List JournalEntry) → journal ≡ journal_of d start es
    → (move_at (map journal_move journal) (length journal - 1)).inst ≡ last_moved es
journal_last d start es journal is =
    ap (λ js. (move_at (map journal_move js) (length js - 1)).inst) is
    ∙ ap (λ ms. (move_at ms (length (journal_of d start es) - 1)).inst) (journal_moves d start es)
    ∙ ap (λ n. (move_at (commits_of es) (n - 1)).inst) (journal_length d start es)

-- what judges and deltas are at every sizes, as the laws of moves say it
abbrev IsJudged : Answers → Design → Trial → Type 0
IsJudged J d t = (s : List ℕ) → (trial_of J d s t.mv t.front t.worker).outcome ≡ J.judge (change_of d s t.mv)

abbrev IsWhole : Answers → Design → Trial → Type 0
IsWhole J d t = (s : List ℕ) → is_fair_by J d s t.mv ≡ true → (trial_of J d s t.mv t.front t.worker).delta ≡ delta_of t.mv (changed_nets d s t.mv)

-- what a book's parts say, and what is read of them: how many entries and commits there are, and the number noted for a trial's move
module _ (J : Answers) (d : Design) (start : List ℕ) (budget : ℕ) (es : List Entry) (journal : List JournalEntry) (sizes : List ℕ) (timing : List NetTime) (x : Noted) (last : ℕ)
    (kept : IsKept J d start budget es journal sizes timing x last) (t : Trial) (trial : IsTrialOf J d start es t)
    (settled commits : ℕ) (entries : settled ≡ length es) (journals : commits ≡ length journal) where
  commits_are : commits ≡ length (commits_of es)
  commits_are = journals ∙ ap length kept.journal_is ∙ journal_length d start es

  no_room : (settled ≡ budget → ⊥) → length es ≡ budget → ⊥
  no_room room e = room (entries ∙ e)

  pub spent_answer : settled ≡ budget → Spent settled ≡ settle_of J d start budget es t.mv t.front
  spent_answer e = ap Spent entries ∙ sym (spent_is J d start budget es t.mv t.front (sym entries ∙ e))

  pub stale_answer : (settled ≡ budget → ⊥) → t.front < commits → (inst : ℕ) → inst ≡ (move_at (map journal_move journal) (length journal - 1)).inst
      → Stale (Inst inst) commits ≡ settle_of J d start budget es t.mv t.front
  stale_answer room lt inst is =
      let at : commits ≡ length (commits_of es) = commits_are in
      ap (λ g. Stale (Inst g) commits) (is ∙ journal_last d start es journal kept.journal_is) ∙ ap (Stale (Inst (last_moved es))) at
      ∙ sym (stale_is J d start budget es t.mv t.front (no_room room) (omega (arith, at, lt)))

  module _ (room : settled ≡ budget → ⊥) (fresh : commits ≤ t.front) where
    pub none_later : length (commits_of es) ≤ t.front
    none_later = let at : commits ≡ length (commits_of es) = commits_are in omega (arith, at, fresh)

    -- so the trial was made at the present sizes
    here : sizes_at start es t.front ≡ sizes_now start es
    here = ap (sizes_after start) (take_all t.front (commits_of es) none_later)

    pub move_now : is_move d (sizes_now start es) t.mv ≡ true
    move_now = ap (λ s. is_move d s t.mv) (sym here) ∙ trial.moves

    trial_is : t ≡ trial_of J d (sizes_now start es) t.mv t.front t.worker
    trial_is = trial.is ∙ ap (λ s. trial_of J d s t.mv t.front t.worker) here

    outcome_is : IsJudged J d t → t.outcome ≡ J.judge (change_of d (sizes_now start es) t.mv)
    outcome_is judged = ap (λ (u : Trial). u.outcome) trial_is ∙ judged (sizes_now start es)

    taken : IsJudged J d t → t.outcome ≡ Fair → is_fair_by J d (sizes_now start es) t.mv ≡ true
    taken judged is = ap is_fair (sym (outcome_is judged) ∙ is)

    refused : IsJudged J d t → (why : Why) → t.outcome ≡ NotFair why → is_fair_by J d (sizes_now start es) t.mv ≡ false
    refused judged why is = ap is_fair (sym (outcome_is judged) ∙ is)

    pub delta_now : IsJudged J d t → IsWhole J d t → t.outcome ≡ Fair → t.delta ≡ delta_of t.mv (changed_nets d (sizes_now start es) t.mv)
    delta_now judged whole is = ap (λ (u : Trial). u.delta) trial_is ∙ whole (sizes_now start es) (taken judged is)

    module _ (place : IsMoveOf d t.mv) (k : ℕ) (number : k ≡ number_of x t.mv) where
      number_is : k ≡ last_reject es (length es) t.mv
      number_is = number ∙ kept.noted.each t.mv place

      pub known_answer : last < k → Known k ≡ settle_of J d start budget es t.mv t.front
      known_answer lt =
          let is : k ≡ last_reject es (length es) t.mv = number_is in
          let commit : last ≡ last_commit es (length es) = kept.last_is in
          ap Known is ∙ sym (known_is J d start budget es t.mv t.front (no_room room) none_later (omega (arith, is, commit, lt)))

      module _ (le : k ≤ last) (judged : IsJudged J d t) where
        not_known_now : last_reject es (length es) t.mv ≤ last_commit es (length es)
        not_known_now =
            let is : k ≡ last_reject es (length es) t.mv = number_is in
            let commit : last ≡ last_commit es (length es) = kept.last_is in
            omega (arith, is, commit, le)

        -- whatever state it is said to be made at, as long as no commit came after
        pub rejected_answer : (why : Why) → t.outcome ≡ NotFair why → (front : ℕ) → length (commits_of es) ≤ front → settle_of J d start budget es t.mv front ≡ Rejected (length es + 1)
        rejected_answer why is front later = rejected_is J d start budget es t.mv front (no_room room) later not_known_now (refused judged why is)

        pub committed_answer : t.outcome ≡ Fair → (front : ℕ) → length (commits_of es) ≤ front → settle_of J d start budget es t.mv front ≡ Committed (length (commits_of es) + 1)
        committed_answer is front later = committed_is J d start budget es t.mv front (no_room room) later not_known_now (taken judged is)
