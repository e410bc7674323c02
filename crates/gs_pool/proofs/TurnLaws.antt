-- A turn of recovery: its sweep, and its round.

use Rattle.std.proofs.Common.{◌≡◌, ℕ, ◌<◌, ◌↔◌, List, length, sym, ◌∙◌, ap, subst}
use Rattle.gs_book.specs.Book.{BookOf}
use Rattle.gs_design.specs.declared.design.Design.{Design}
use Rattle.gs_move.specs.Alone.{after_round, alone_from, sweep_of}
use Rattle.gs_move.specs.Earned.{IsEarned}
use Rattle.gs_move.specs.Judge.{Answers, fair_moves}
use Rattle.gs_move.specs.Legal.{IsLegal}
use Rattle.gs_move.specs.Minimum.{IsMinimumBy}
use Rattle.gs_move.specs.State.{sizes_now}
use Rattle.gs_move.specs.declared.ended.Ended.TheVariants.{Settled, Spent}
use Rattle.gs_move.specs.declared.entry.Entry.{Entry}
use Rattle.gs_move.specs.declared.moves.Move.{Move}
use Rattle.gs_pool.proofs.GrowLaws.{IsGrown, grown_on, round_grown}

-- the laws of a design that a turn rests on
abbrev pub NoneIsMinimum : Design → Type 0
NoneIsMinimum d = (J : Answers) (s : List ℕ) → (length (fair_moves J d s) ≡ 0) ↔ IsMinimumBy J d s

abbrev pub GoesOn : Design → Type 0
GoesOn d = (J : Answers) (start : List ℕ) (budget : ℕ) (es : List Entry) → IsLegal J d start budget es → 0 < length (sweep_of J d start es) → length es < budget
    → alone_from J d start budget (after_round J d start budget es (sweep_of J d start es)) ≡ alone_from J d start budget es

abbrev pub Earns : Design → Type 0
Earns d = (J : Answers) (start : List ℕ) (budget : ℕ) (es : List Entry) (n : ℕ) → IsLegal J d start budget es → length es < budget → IsEarned J d start es n
    → IsEarned J d start (after_round J d start budget es (sweep_of J d start es)) n

pub spent_is_other : Spent ≡ Settled → ⊥
spent_is_other e = absurd cc

module _ {X : Type 0} (answers : X → Answers) (first old : BookOf X) (same : old ≡ record first { entries = old.entries; spare = old.spare }) where
  pub same_design : (d : Design) → d ≡ old.design → d ≡ first.design
  same_design d is = is ∙ ap (λ (b : BookOf X). b.design) same

  pub same_sweep : (ms : List Move) → ms ≡ sweep_of (answers old.judge) old.design old.start old.entries → ms ≡ sweep_of (answers first.judge) first.design first.start old.entries
  same_sweep ms is = is ∙ ap (λ (b : BookOf X). sweep_of (answers b.judge) b.design b.start old.entries) same

  pub same_legal : IsLegal (answers old.judge) old.design old.start old.budget old.entries → IsLegal (answers first.judge) first.design first.start first.budget old.entries
  same_legal legal = subst (λ (b : BookOf X). IsLegal (answers b.judge) b.design b.start b.budget old.entries) same legal

  -- a sweep finds no move exactly at a minimum
  pub minimum_at : (d : Design) → d ≡ old.design → NoneIsMinimum d → (ms : List Move) → ms ≡ sweep_of (answers old.judge) old.design old.start old.entries
      → (length ms ≡ 0) ↔ IsMinimumBy (answers first.judge) first.design (sizes_now first.start old.entries)
  minimum_at d is law ms found =
      let here : NoneIsMinimum first.design = subst NoneIsMinimum (same_design d is) law in
      let both = here (answers first.judge) (sizes_now first.start old.entries) in
      (λ none. both.0 (ap length (sym (same_sweep ms found)) ∙ none), λ minimum. ap length (same_sweep ms found) ∙ both.1 minimum)

module _ (J : Answers) (d : Design) (start : List ℕ) (budget : ℕ) (es news : List Entry) (legal : IsLegal J d start budget es) (some : 0 < length (sweep_of J d start es)) (room : length es < budget)
    (is : news ≡ after_round J d start budget es (sweep_of J d start es)) where
  pub run_on : GoesOn d → alone_from J d start budget news ≡ alone_from J d start budget es
  run_on law = ap (λ xs. alone_from J d start budget xs) is ∙ law J start budget es legal some room

  pub earned_on : Earns d → (n : ℕ) → IsEarned J d start es n → IsEarned J d start news n
  earned_on law n h = subst (λ xs. IsEarned J d start xs n) (sym is) (law J start budget es n legal room h)

  pub grown_round : (first : List Entry) → IsGrown first es → IsGrown first news
  grown_round first h =
      subst (IsGrown first) (sym is) (grown_on first es (after_round J d start budget es (sweep_of J d start es)) h (round_grown J d start budget (sweep_of J d start es) es))
