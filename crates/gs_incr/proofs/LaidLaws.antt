-- Records laid over a timing: what is read after one more is laid, and how they lie in memory.

use Rattle.std.proofs.Common.{◌≡◌, ◌≢◌, ℕ, ◌<◌, ◌≤◌, ◌==◌, List, length, get_or, slice_index, slice_set, Option, None, Some, unwrap_or, refl, sym, ◌∙◌, ap, subst, arith, ◌⊎◌, inl, inr}
use Rattle.std.specs.Prelude.{if◌then◌else◌}
use Rattle.std.proofs.lemmas.Bool.{cases_eq, cases_lt, ne_eqb}
use Rattle.std.proofs.lemmas.Bool.Decides.{Decides-eqb}
use Rattle.std.proofs.lemmas.List.{ext_get_or, get_or_past, get_or-set_other, get_or-set_same, get_or_read, length-set}
use Rattle.std.proofs.lemmas.List.FromFn.{get_or-map-range_with_len, length-map-range_with_len}
use Rattle.gs_design.specs.Times.{no_time, time_at}
use Rattle.gs_design.specs.declared.time.NetTime.{NetTime}
use Rattle.gs_incr.specs.Laid.{AreMarks, laid_at, record_laid, records_laid, time_over, times_over}

-- ---- reading

pub length_over : (base : List NetTime) (laid : List (Option NetTime)) → length (times_over base laid) ≡ length base
length_over base laid = length-map-range_with_len (time_over base laid) 0 (length base)

pub over_at : (base : List NetTime) (laid : List (Option NetTime)) (n : ℕ) → n < length base → time_at (times_over base laid) n ≡ time_over base laid n
over_at base laid n lt = get_or-map-range_with_len (time_over base laid) 0 (length base) n n no_time lt (omega arith)

pub over_none : (base : List NetTime) (laid : List (Option NetTime)) → ((n : ℕ) → laid_at laid n ≡ None) → (n : ℕ) → n < length base → time_at (times_over base laid) n ≡ time_at base n
over_none base laid none n lt = over_at base laid n lt ∙ ap (λ o. unwrap_or o (time_at base n)) (none n)

-- one record more
module _ (base : List NetTime) (laid next : List (Option NetTime)) (net : ℕ) (time : NetTime) (is : next ≡ slice_set laid net (Some time)) where
  pub over_here : net < length base → net < length laid → time_at (times_over base next) net ≡ time
  over_here in_base in_laid =
      over_at base next net in_base
      ∙ ap (λ o. unwrap_or o (time_at base net)) (ap (λ l. laid_at l net) is ∙ get_or-set_same laid net (Some time) None in_laid)

  pub over_other : (n : ℕ) → n < length base → n ≢ net → time_at (times_over base next) n ≡ time_at (times_over base laid) n
  over_other n lt apart =
      over_at base next n lt
      ∙ ap (λ o. unwrap_or o (time_at base n)) (ap (λ l. laid_at l n) is ∙ get_or-set_other laid net n (Some time) None apart)
      ∙ sym (over_at base laid n lt)

-- ---- memory

pub length_laid : (turn : ℕ) (marks : List ℕ) (records : List NetTime) → length (records_laid turn marks records) ≡ length marks
length_laid turn marks records = length-map-range_with_len (record_laid turn marks records) 0 (length marks)

pub laid_is : (turn : ℕ) (marks : List ℕ) (records : List NetTime) (n : ℕ) → n < length marks → laid_at (records_laid turn marks records) n ≡ record_laid turn marks records n
laid_is turn marks records n lt = get_or-map-range_with_len (record_laid turn marks records) 0 (length marks) n n None lt (omega arith)

-- no net has the mark of a later turn
pub laid_none : (turn : ℕ) (marks : List ℕ) (records : List NetTime) → ((n : ℕ) → n < length marks → slice_index marks n < turn) → (n : ℕ) → laid_at (records_laid turn marks records) n ≡ None
laid_none turn marks records past n = by (cases_lt n (length marks))
  where
    by : (n < length marks) ⊎ (length marks ≤ n) → laid_at (records_laid turn marks records) n ≡ None
    by (inl lt) =
        let below = past n lt in
        laid_is turn marks records n lt ∙ ap (λ b. if b then Some (time_at records n) else None) (ne_eqb (slice_index marks n) turn (λ e. omega (arith, e, below)))
    by (inr out) = get_or_past (records_laid turn marks records) n None (omega (arith, out, length_laid turn marks records))

-- what is read in a row
pub laid_read : (turn : ℕ) (marks : List ℕ) (records : List NetTime) (n mark : ℕ) (time : NetTime) (found : Option NetTime) → n < length marks → n < length records
    → mark ≡ get_or marks n mark → time ≡ get_or records n time → found ≡ (if mark == turn then Some time else None) → found ≡ laid_at (records_laid turn marks records) n
laid_read turn marks records n mark time found lt in_rows mark_is time_is is =
    is
    ∙ ap (λ k. if k == turn then Some time else None) (get_or_read marks n mark lt mark_is 0)
    ∙ ap (λ r. if slice_index marks n == turn then Some r else None) (get_or_read records n time in_rows time_is no_time)
    ∙ sym (laid_is turn marks records n lt)

-- the mark and the row of one net change
module _ (turn : ℕ) (marks : List ℕ) (records : List NetTime) (kept : AreMarks turn marks records) (net : ℕ) (time : NetTime) (lt : net < length marks) where
  abbrev marked : List ℕ
  marked = slice_set marks net turn

  abbrev written : List NetTime
  written = slice_set records net time

  past_at : (n : ℕ) → n < length marks → (n ≡ net) ⊎ (n ≡ net → ⊥) → slice_index marked n ≤ turn
  past_at n nt (inl e) = let here : slice_index marked net ≡ turn = get_or-set_same marks net turn 0 lt in subst (λ k. slice_index marked k ≤ turn) (sym e) (omega (arith, here))
  past_at n nt (inr apart) = let there : slice_index marked n ≡ slice_index marks n = get_or-set_other marks net n turn 0 apart in omega (arith, there, kept.past n nt)

  pub marks_kept : AreMarks turn marked written
  marks_kept = record {
    as_many = length-set records net time ∙ kept.as_many ∙ sym (length-set marks net turn);
    past = λ n nt. let nt' : n < length marks = omega (arith, nt, length-set marks net turn) in past_at n nt' (cases_eq n net);
  }

  put_at : (n : ℕ) → n < length marks → (n ≡ net) ⊎ (n ≡ net → ⊥) → record_laid turn marked written n ≡ get_or (slice_set (records_laid turn marks records) net (Some time)) n None
  put_at n nt (inl e) =
      let in_laid : net < length (records_laid turn marks records) = omega (arith, lt, length_laid turn marks records) in
      let in_rows : net < length records = omega (arith, lt, kept.as_many) in
      subst (λ k. record_laid turn marked written k ≡ get_or (slice_set (records_laid turn marks records) net (Some time)) k None) (sym e)
      (ap (λ k. if k == turn then Some (time_at written net) else None) (get_or-set_same marks net turn 0 lt)
      ∙ ap (λ b. if b then Some (time_at written net) else None) ((Decides-eqb turn turn).1 refl)
      ∙ ap (λ r. Some r) (get_or-set_same records net time no_time in_rows)
      ∙ sym (get_or-set_same (records_laid turn marks records) net (Some time) None in_laid))
  put_at n nt (inr apart) =
      ap (λ k. if k == turn then Some (time_at written n) else None) (get_or-set_other marks net n turn 0 apart)
      ∙ ap (λ r. if slice_index marks n == turn then Some r else None) (get_or-set_other records net n time no_time apart)
      ∙ sym (laid_is turn marks records n nt)
      ∙ sym (get_or-set_other (records_laid turn marks records) net n (Some time) None apart)

  pub laid_put : records_laid turn marked written ≡ slice_set (records_laid turn marks records) net (Some time)
  laid_put =
      let as_marks : length (records_laid turn marked written) ≡ length marks = length_laid turn marked written ∙ length-set marks net turn in
      let as_many : length (records_laid turn marked written) ≡ length (slice_set (records_laid turn marks records) net (Some time)) = as_marks ∙ sym (length_laid turn marks records) ∙ sym (length-set (records_laid turn marks records) net (Some time)) in
      ext_get_or None (records_laid turn marked written) (slice_set (records_laid turn marks records) net (Some time)) as_many
      (λ n nt. let nt' : n < length marks = omega (arith, nt, as_marks) in
      laid_is turn marked written n (omega (arith, nt', length-set marks net turn)) ∙ put_at n nt' (cases_eq n net))
