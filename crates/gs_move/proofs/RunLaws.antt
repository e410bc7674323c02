-- The commits of legal entries are a run.

use Rattle.std.proofs.Common.{◌≡◌, ℕ, zero, suc, ◌+◌, ◌<◌, ◌≤◌, Bool, true, false, List, [], ◌∷◌, ◌++◌, filter, map, take, length, cond, refl, sym, ◌∙◌, ap, subst, arith, ◌⊎◌, inl, inr}
use Rattle.std.proofs.lemmas.Bool.{cases_eq}
use Rattle.std.proofs.lemmas.List.{append-nil, get_or_append_left, get_or_at, length_push, map-append, take-append-le, take_all, take_at, take_more}
use Rattle.std.proofs.lemmas.List.Elements.{filter-append}
use Rattle.gs_design.specs.declared.design.Design.{Design}
use Rattle.gs_move.specs.Entries.{commits_of, is_commit, move_of}
use Rattle.gs_move.specs.Fair.{IsFair}
use Rattle.gs_move.specs.Legal.{IsLegal}
use Rattle.gs_move.specs.Moves.{is_move}
use Rattle.gs_move.specs.Recovery.{recovery}
use Rattle.gs_move.specs.Run.{IsRun, move_at, no_move, sizes_after}
use Rattle.gs_move.specs.Settle.{entry_at, no_entry}
use Rattle.gs_move.specs.declared.entry.Entry.{Entry}
use Rattle.gs_move.specs.declared.moves.Move.{Move}
use Rattle.gs_move.proofs.FairLaws.{fair_by_recovery}

-- the commits of one entry more
commits_by : (es : List Entry) (e : Entry) (b : Bool) → is_commit e ≡ b → commits_of (es ++ e ∷ []) ≡ commits_of es ++ cond b (move_of e ∷ []) []
commits_by es e true is =
    ap (map move_of) (filter-append is_commit es (e ∷ []) ∙ ap (λ b. filter is_commit es ++ cond b (e ∷ []) []) is) ∙ map-append move_of (filter is_commit es) (e ∷ [])
commits_by es e false is =
    ap (map move_of) (filter-append is_commit es (e ∷ []) ∙ ap (λ b. filter is_commit es ++ cond b (e ∷ []) []) is) ∙ map-append move_of (filter is_commit es) []

pub commits_push : (es : List Entry) (e : Entry) → is_commit e ≡ true → commits_of (es ++ e ∷ []) ≡ commits_of es ++ move_of e ∷ []
commits_push es e is = commits_by es e true is

pub commits_stay : (es : List Entry) (e : Entry) → is_commit e ≡ false → commits_of (es ++ e ∷ []) ≡ commits_of es
commits_stay es e is = commits_by es e false is ∙ append-nil (commits_of es)

-- a run, and a move that is Fair after it
module _ (d : Design) (s : List ℕ) (ms : List Move) (m : Move) (P : List ℕ → Move → Type 0) (here : P (sizes_after s ms) m) where
  pub more_at : ((k : ℕ) → k < length ms → P (sizes_after s (take k ms)) (move_at ms k)) → (k : ℕ) → k < length (ms ++ m ∷ []) → (k ≡ length ms) ⊎ (k ≡ length ms → ⊥)
      → P (sizes_after s (take k (ms ++ m ∷ []))) (move_at (ms ++ m ∷ []) k)
  more_at so_far k lt (inl e) =
      subst (λ j. P (sizes_after s (take j (ms ++ m ∷ []))) (move_at (ms ++ m ∷ []) j)) (sym e)
      (subst (λ ns. P (sizes_after s ns) (move_at (ms ++ m ∷ []) (length ms))) (sym (take_at ms (m ∷ []) (length ms) refl))
      (subst (λ n. P (sizes_after s ms) n) (sym (get_or_at ms m [] no_move (length ms) refl)) here))
  more_at so_far k lt (inr other) =
      let below : k < length ms = omega (arith, lt, other, length_push ms m) in
      subst (λ ns. P (sizes_after s ns) (move_at (ms ++ m ∷ []) k)) (sym (take-append-le k ms (m ∷ []) (omega (arith, below))))
      (subst (λ n. P (sizes_after s (take k ms)) n) (sym (get_or_append_left ms (m ∷ []) no_move k below)) (so_far k below))

run_push : (d : Design) (s : List ℕ) (ms : List Move) (m : Move) → IsRun d s ms → is_move d (sizes_after s ms) m ≡ true → IsFair d (sizes_after s ms) m → IsRun d s (ms ++ m ∷ [])
run_push d s ms m run moves fair = record {
  moves = λ k lt. more_at d s ms m (λ r n. is_move d r n ≡ true) moves run.moves k lt (cases_eq k (length ms));
  fair = λ k lt. more_at d s ms m (λ r n. IsFair d r n) fair run.fair k lt (cases_eq k (length ms));
}

module _ (d : Design) (start : List ℕ) (budget : ℕ) (es : List Entry) (legal : IsLegal recovery d start budget es) where
  one_more : (k : ℕ) → k < length es → IsRun d start (commits_of (take k es)) → (b : Bool) → is_commit (entry_at es k) ≡ b → IsRun d start (commits_of (take k es ++ entry_at es k ∷ []))
  one_more k lt run true is =
      subst (IsRun d start) (sym (commits_push (take k es) (entry_at es k) is))
      (run_push d start (commits_of (take k es)) (move_of (entry_at es k)) run (legal.moves k lt)
      (fair_by_recovery d (sizes_after start (commits_of (take k es))) (move_of (entry_at es k)) (legal.judged k lt ∙ is)))
  one_more k lt run false is = subst (IsRun d start) (sym (commits_stay (take k es) (entry_at es k) is)) run

  run_to : (k : ℕ) → k ≤ length es → IsRun d start (commits_of (take k es))
  run_to zero le = record { moves = λ k lt. absurd (omega (arith, lt)); fair = λ k lt. absurd (omega (arith, lt)) }
  run_to (suc k) le =
      let lt : k < length es = omega (arith, le) in
      let one : k + 1 ≡ suc k = omega arith in
      subst (λ j. IsRun d start (commits_of (take j es))) one
      (subst (λ xs. IsRun d start (commits_of xs)) (sym (take_more es k no_entry lt)) (one_more k lt (run_to k (omega (arith, le))) (is_commit (entry_at es k)) refl))

  pub legal_run : IsRun d start (commits_of es)
  legal_run = subst (λ xs. IsRun d start (commits_of xs)) (take_all (length es) es (omega arith)) (run_to (length es) (omega arith))
