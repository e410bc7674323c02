-- What a log of leakage recovery says, from what recovery promises.
use Rattle.std.proofs.Common.{◌≡◌, ◌∙◌, refl, sym, ap, subst, ℕ, ◌+◌, ◌-◌, ◌*◌, ◌^◌, ◌<◌, ◌≤◌, true, List, [], ◌∷◌, All, length, take, sum_by, Option, None, Some, arith}
use Rattle.std.specs.Prelude.{◌↔◌}
use Rattle.std.proofs.lemmas.List.{take_all, take_more}
use Rattle.std.proofs.lemmas.List.Elements.{All-from_get_or}
use Rattle.std.proofs.lemmas.List.Sums.{sum_by-append, sum_by-cons}
use Rattle.gs_design.specs.Insts.{Inst, inst_at, no_inst}
use Rattle.gs_design.specs.Sizes.{FitSizes, move_count}
use Rattle.gs_design.specs.declared.design.Design.{Design}
use Rattle.gs_move.specs.Alone.{alone, alone_from}
use Rattle.gs_move.specs.Earned.{IsEarned}
use Rattle.gs_move.specs.Entries.{AreEntriesOf, IsMoveOf, commits_of, move_of, worker_of}
use Rattle.gs_move.specs.Legal.{IsLegal, sizes_before}
use Rattle.gs_move.specs.Minimum.{IsMinimum, IsMinimumBy}
use Rattle.gs_move.specs.Moves.{is_move}
use Rattle.gs_move.specs.Recovery.{recovery}
use Rattle.gs_move.specs.Run.{IsRun}
use Rattle.gs_move.specs.Settle.{entry_at, no_entry}
use Rattle.gs_move.specs.State.{sizes_now}
use Rattle.gs_move.specs.declared.ended.Ended.{Ended}
use Rattle.gs_move.specs.declared.ended.Ended.TheVariants.{Settled, Spent}
use Rattle.gs_move.specs.declared.entry.Entry.{Entry}
use Rattle.gs_move.specs.declared.moves.Move.{Move}
use Rattle.gs_report.specs.Log.{IsLogOf, log_text}
use Rattle.gs_report.specs.declared.run.Log.{Log}
use Rattle.gs_top.specs.Recovery.{IsRecovery, log_with, most_entries}

-- the entries of a legal log are of moves of the design
pub entries_of : (d : Design) (start : List ℕ) (budget : ℕ) (es : List Entry) → ((s : List ℕ) (m : Move) → is_move d s m ≡ true → IsMoveOf d m)
    → IsLegal recovery d start budget es → AreEntriesOf d es
entries_of d start budget es places legal =
    All-from_get_or (λ e. IsMoveOf d (move_of e)) es no_entry (λ k lt. places (sizes_before start es k) (move_of (entry_at es k)) (legal.moves k lt))

-- without entries, every reject was earned
pub none_earned : (d : Design) (start : List ℕ) → IsEarned recovery d start [] 0
none_earned d start k le lt reject = absurd (omega (arith, lt))

small_worker : (w : ℕ) → w ≡ 0 → w < 2 ^ 32
small_worker w is = omega (arith, is)

module _ (d : Design) (start : List ℕ) (budget : ℕ) (es : List Entry) (ended : Ended) where
  settles : (e : Ended) → ended ≡ e → (ended ≡ Spent → length es ≡ budget) → length es ≤ most_entries d → most_entries d < budget → ended ≡ Settled
  settles Settled is spent few enough = is
  settles Spent is spent few enough =
      let whole : length es ≡ budget = spent is in
      absurd (omega (arith, whole, few, enough))

  pub recovered : alone recovery d start budget ≡ (es, ended)
      → (ended ≡ Settled) ↔ IsMinimumBy recovery d (sizes_now start es)
      → (ended ≡ Spent → length es ≡ budget)
      → IsLegal recovery d start budget es
      → ((n : ℕ) → IsEarned recovery d start [] n → IsEarned recovery d start es n)
      → ((k : ℕ) → 0 ≤ k → k < length es → worker_of (entry_at es k) ≡ 0)
      → (IsLegal recovery d start budget es → IsRun d start (commits_of es))
      → (IsLegal recovery d start budget es → length es ≤ most_entries d)
      → IsMinimumBy recovery d (sizes_now start es) ↔ IsMinimum d (sizes_now start es)
      → (IsLogOf d (log_with es ended budget) → (k : Log) → IsLogOf d k → log_text d k ≡ log_text d (log_with es ended budget) → k ≡ log_with es ended budget)
      → ((s : List ℕ) (m : Move) → is_move d s m ≡ true → IsMoveOf d m)
      → budget < 2 ^ 64
      → IsRecovery d start budget 0 (log_with es ended budget)
  recovered is settled spent legal earned workers run few minimum told places small = record {
    budget_is = refl;
    legal = legal;
    run = run legal;
    earned = earned 0 (none_earned d start);
    by_workers =
        All-from_get_or (λ e. worker_of e ≤ 0) es no_entry (λ k lt. let zero_is : worker_of (entry_at es k) ≡ 0 = workers k (omega arith) lt in omega (arith, zero_is));
    settled = (λ h. minimum.0 (settled.0 h), λ h. settled.1 (minimum.1 h));
    spent = spent;
    enough = settles ended refl spent (few legal);
    told = told (record { entries = entries_of d start budget es places legal; workers = All-from_get_or (λ e. worker_of e < 2 ^ 32) es no_entry (λ k lt. small_worker (worker_of (entry_at es k)) (workers k (omega arith) lt)); budget = small });
    one = λ none. is;
  }

-- what recovery promises of the entries with which it ends, from those with which it began
pub record Ends (d : Design) (start : List ℕ) (budget : ℕ) (begun es : List Entry) (ended : Ended) : Type 0 where
  pub is : alone_from recovery d start budget begun ≡ (es, ended)
  pub settled : (ended ≡ Settled) ↔ IsMinimumBy recovery d (sizes_now start es)
  pub spent : ended ≡ Spent → length es ≡ budget
  pub legal : IsLegal recovery d start budget es
  pub earned : (n : ℕ) → IsEarned recovery d start begun n → IsEarned recovery d start es n
  pub workers : (k : ℕ) → length begun ≤ k → k < length es → worker_of (entry_at es k) ≡ 0

pub record Laws (d : Design) : Type 0 where
  pub run : (start : List ℕ) (budget : ℕ) (es : List Entry) → IsLegal recovery d start budget es → IsRun d start (commits_of es)
  pub few : (start : List ℕ) (budget : ℕ) (es : List Entry) → FitSizes d start → IsLegal recovery d start budget es → length es ≤ most_entries d
  pub minimum : (s : List ℕ) → IsMinimumBy recovery d s ↔ IsMinimum d s
  pub places : (s : List ℕ) (m : Move) → is_move d s m ≡ true → IsMoveOf d m
  pub told : (k l : Log) → IsLogOf d k → IsLogOf d l → log_text d k ≡ log_text d l → k ≡ l

pub from_start : (d : Design) (start : List ℕ) (budget : ℕ) (es : List Entry) (ended : Ended) → FitSizes d start → Laws d → budget < 2 ^ 64 → Ends d start budget [] es ended
    → IsRecovery d start budget 0 (log_with es ended budget)
from_start d start budget es ended fits laws small h =
    recovered d start budget es ended h.is h.settled h.spent h.legal h.earned h.workers (laws.run start budget es) (laws.few start budget es fits) (laws.minimum (sizes_now start es))
    (λ here k hk e. laws.told k (log_with es ended budget) hk here e) laws.places small

-- one instance more
pub moves_more : (insts : List Inst) (g : ℕ) → g < length insts
    → sum_by (λ i. length i.alts - 1) (take (g + 1) insts) ≡ sum_by (λ i. length i.alts - 1) (take g insts) + (length (inst_at insts g).alts - 1)
moves_more insts g lt =
    ap (sum_by (λ i. length i.alts - 1)) (take_more insts g no_inst lt)
    ∙ sum_by-append (λ i. length i.alts - 1) (take g insts) (inst_at insts g ∷ [])
    ∙ ap (λ n. sum_by (λ i. length i.alts - 1) (take g insts) + n) (sum_by-cons (λ i. length i.alts - 1) (inst_at insts g) [])
    ∙ omega arith

pub moves_all : (d : Design) (n : ℕ) → n ≡ length d.insts → sum_by (λ i. length i.alts - 1) (take n d.insts) ≡ move_count d
moves_all d n is = ap (sum_by (λ i. length i.alts - 1)) (ap (λ k. take k d.insts) is ∙ take_all (length d.insts) d.insts (omega arith))
