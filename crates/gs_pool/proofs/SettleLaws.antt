-- A move that is tried on a book itself and settled at once, and a round of such moves.

use Rattle.std.proofs.Common.{◌≡◌, ℕ, suc, ◌+◌, ◌<◌, ◌==◌, Bool, true, false, not, ◌&&◌, List, ◌∷◌, drop, length, get_or, slice_index, Option, None, Some, refl, sym, ◌∙◌, ap, subst, arith, add-one, drop-cons}
use Rattle.std.specs.Prelude.{if◌then◌else◌, nat_lt}
use Rattle.std.proofs.lemmas.Bool.{ne_eqb}
use Rattle.std.proofs.lemmas.Bool.Decides.{Decides-ltb}
use Rattle.std.proofs.lemmas.List.{take_all}
use Rattle.gs_book.specs.Book.{BookOf, IsTrialOf}
use Rattle.gs_design.specs.declared.design.Design.{Design}
use Rattle.gs_move.specs.Alone.{after_move, after_round}
use Rattle.gs_move.specs.Entries.{IsMoveOf, commits_of}
use Rattle.gs_move.specs.Judge.{Answers}
use Rattle.gs_move.specs.Moves.{alt_count, is_move}
use Rattle.gs_move.specs.Run.{sizes_after}
use Rattle.gs_move.specs.Settle.{entries_after, settle_of}
use Rattle.gs_move.specs.State.{sizes_at, sizes_now}
use Rattle.gs_move.specs.Trial.{trial_after_glance, trial_of}
use Rattle.gs_move.specs.Fair.{new_leak, present_leak}
use Rattle.gs_move.specs.declared.entry.Entry.{Entry}
use Rattle.gs_move.specs.declared.moves.Move.{Move}
use Rattle.gs_move.specs.declared.outcome.Why.{Why}
use Rattle.gs_move.specs.declared.settled.Settled.{Settled}
use Rattle.gs_move.specs.declared.trial.Trial.{Trial}

both_true : (a b : Bool) → a ≡ true → b ≡ true → (a && b) ≡ true
both_true true b e h = h
both_true false b e h = absurd cc

pub moves_if : (d : Design) (s : List ℕ) (m : Move) → IsMoveOf d m → (m.place == slice_index s m.inst) ≡ false → is_move d s m ≡ true
moves_if d s m is apart =
    both_true (nat_lt m.inst (length d.insts)) (nat_lt m.place (alt_count d m.inst) && not (m.place == slice_index s m.inst)) ((Decides-ltb m.inst (length d.insts)).1 is.inst_in)
    (both_true (nat_lt m.place (alt_count d m.inst)) (not (m.place == slice_index s m.inst)) ((Decides-ltb m.place (alt_count d m.inst)).1 is.place_in) (ap not apart))

-- what a trial was made of
record Parts (m : Move) (front worker : ℕ) (t : Trial) : Type 0 where
  mv_is : t.mv ≡ m
  front_is : t.front ≡ front
  worker_is : t.worker ≡ worker

parts_by : (J : Answers) (d : Design) (s : List ℕ) (m : Move) (front worker : ℕ) (o : Option Why) → Parts m front worker (trial_after_glance J d s m front worker o)
parts_by J d s m front worker None = record { mv_is = refl; front_is = refl; worker_is = refl }
parts_by J d s m front worker (Some why) = record { mv_is = refl; front_is = refl; worker_is = refl }

parts_of : (J : Answers) (d : Design) (s : List ℕ) (m : Move) (front worker : ℕ) (t : Trial) → t ≡ trial_of J d s m front worker → Parts m front worker t
parts_of J d s m front worker t is = subst (Parts m front worker) (sym is) (parts_by J d s m front worker (J.glance (present_leak d s m) (new_leak d m)))

module _ (J : Answers) (d : Design) (start : List ℕ) (es : List Entry) (m : Move) (t : Trial) (is : t ≡ trial_of J d (sizes_now start es) m (length (commits_of es)) 0) where
  parts : Parts m (length (commits_of es)) 0 t
  parts = parts_of J d (sizes_now start es) m (length (commits_of es)) 0 t is

  state_is : sizes_at start es t.front ≡ sizes_now start es
  state_is = ap (λ n. sizes_at start es n) parts.front_is ∙ ap (sizes_after start) (take_all (length (commits_of es)) (commits_of es) (omega arith))

  -- the trial of a move at the present state is one that the book settles
  pub trial_fits : is_move d (sizes_now start es) m ≡ true → IsTrialOf J d start es t
  trial_fits moves = record {
    front = (let e = parts.front_is in omega (arith, e));
    moves = ap (λ s. is_move d s t.mv) state_is ∙ ap (λ n. is_move d (sizes_now start es) n) parts.mv_is ∙ moves;
    is = is ∙ sym (
        ap (λ s. trial_of J d s t.mv t.front t.worker) state_is
        ∙ ap (λ x. trial_of J d (sizes_now start es) x t.front t.worker) parts.mv_is
        ∙ ap (λ n. trial_of J d (sizes_now start es) m n t.worker) parts.front_is
        ∙ ap (λ w. trial_of J d (sizes_now start es) m (length (commits_of es)) w) parts.worker_is);
  }

  settled_is : (budget : ℕ) (a : Settled) → a ≡ settle_of J d start budget es t.mv t.front → (m.place == slice_index (sizes_now start es) m.inst) ≡ false
      → entries_after es t.mv t.worker a ≡ after_move J d start budget es m
  settled_is budget a answer apart =
      ap (λ x. entries_after es t.mv t.worker x) answer
      ∙ ap (λ x. entries_after es x t.worker (settle_of J d start budget es x t.front)) parts.mv_is
      ∙ ap (λ n. entries_after es m t.worker (settle_of J d start budget es m n)) parts.front_is
      ∙ ap (λ w. entries_after es m w (settle_of J d start budget es m (length (commits_of es)))) parts.worker_is
      ∙ sym (ap (λ b. if b then es else entries_after es m 0 (settle_of J d start budget es m (length (commits_of es)))) apart)

-- ---- books

module _ {X : Type 0} (answers : X → Answers) where
  -- with room for one more entry, the trial of a move at the present state is one that the book settles
  pub trial_on : (old room : BookOf X) (m : Move) (t : Trial) → room ≡ record old { spare = room.spare } → IsMoveOf old.design m
      → (m.place == slice_index (sizes_now old.start old.entries) m.inst) ≡ false
      → t ≡ trial_of (answers room.judge) room.design (sizes_now room.start room.entries) m (length (commits_of room.entries)) 0
      → IsTrialOf (answers room.judge) room.design room.start room.entries t
  trial_on old room m t kept placed apart is =
      trial_fits (answers room.judge) room.design room.start room.entries m t is
      (moves_if room.design (sizes_now room.start room.entries) m (subst (λ (b : BookOf X). IsMoveOf b.design m) (sym kept) placed)
      (subst (λ (b : BookOf X). (m.place == slice_index (sizes_now b.start b.entries) m.inst) ≡ false) (sym kept) apart))

  -- and settling it leaves what the move leaves
  pub settled_on : (old room new : BookOf X) (m : Move) (t : Trial) (a : Settled) → room ≡ record old { spare = room.spare }
      → (m.place == slice_index (sizes_now old.start old.entries) m.inst) ≡ false
      → t ≡ trial_of (answers room.judge) room.design (sizes_now room.start room.entries) m (length (commits_of room.entries)) 0
      → a ≡ settle_of (answers room.judge) room.design room.start room.budget room.entries t.mv t.front
      → new ≡ record room { entries = entries_after room.entries t.mv t.worker a; spare = new.spare }
      → new ≡ record old { entries = after_move (answers old.judge) old.design old.start old.budget old.entries m; spare = new.spare }
  settled_on old room new m t a kept apart is answer book =
      subst (λ (b : BookOf X). new ≡ record b { entries = after_move (answers b.judge) b.design b.start b.budget b.entries m; spare = new.spare }) kept
      (book ∙ ap (λ es. record room { entries = es; spare = new.spare })
      (settled_is (answers room.judge) room.design room.start room.entries m t is room.budget a answer
      (subst (λ (b : BookOf X). (m.place == slice_index (sizes_now b.start b.entries) m.inst) ≡ false) (sym kept) apart)))

  -- a step from a book that stands where a first one stood but for its entries
  pub step_on : (first old new : BookOf X) (step : Answers → Design → List ℕ → ℕ → List Entry → List Entry) → old ≡ record first { entries = old.entries; spare = old.spare }
      → new ≡ record old { entries = step (answers old.judge) old.design old.start old.budget old.entries; spare = new.spare }
      → new ≡ record first { entries = step (answers first.judge) first.design first.start first.budget old.entries; spare = new.spare }
  step_on first old new step same made =
      subst (λ (b : BookOf X). new ≡ record b { entries = step (answers b.judge) b.design b.start b.budget old.entries; spare = new.spare }) same made

  pub still_same : (first new : BookOf X) (es : List Entry) → new ≡ record first { entries = es; spare = new.spare } → new ≡ record first { entries = new.entries; spare = new.spare }
  still_same first new es made = made ∙ ap (λ xs. record first { entries = xs; spare = new.spare }) (sym (ap (λ (b : BookOf X). b.entries) made))

  pub entries_are : (first new : BookOf X) (es : List Entry) → new ≡ record first { entries = es; spare = new.spare } → new.entries ≡ es
  entries_are first new es made = ap (λ (b : BookOf X). b.entries) made

  pub same_budget : (first old : BookOf X) → old ≡ record first { entries = old.entries; spare = old.spare } → old.budget ≡ first.budget
  same_budget first old same = ap (λ (b : BookOf X). b.budget) same

-- one move of a round
pub round_on : (J : Answers) (d : Design) (start : List ℕ) (budget : ℕ) (es news : List Entry) (moves : List Move) (i : ℕ) (m : Move) → m ≡ get_or moves i m → i < length moves
    → (length es ≡ budget → ⊥) → news ≡ after_move J d start budget es m
    → after_round J d start budget news (drop (i + 1) moves) ≡ after_round J d start budget es (drop i moves)
round_on J d start budget es news moves i m at lt apart is =
    let left : drop i moves ≡ m ∷ drop (i + 1) moves = rw add-one (drop-cons moves i m lt ∙ ap (λ x. x ∷ drop (suc i) moves) (sym at)) in
    ap (λ xs. after_round J d start budget xs (drop (i + 1) moves)) is
    ∙ sym (
    ap (λ ms. after_round J d start budget es ms) left
    ∙ ap (λ b. if b then es else after_round J d start budget (after_move J d start budget es m) (drop (i + 1) moves)) (ne_eqb (length es) budget apart))
