-- Recovery adds entries of worker 0 after those that stand.

use Rattle.std.proofs.Common.{◌≡◌, ℕ, ◌-◌, ◌<◌, ◌≤◌, ◌==◌, Bool, true, false, All, List, [], ◌∷◌, ◌++◌, take, length, slice_index, refl, sym, ◌∙◌, ap, subst, arith, ◌⊎◌, inl, inr}
use Rattle.std.specs.Prelude.{if◌then◌else◌}
use Rattle.std.proofs.lemmas.Bool.{cases_lt}
use Rattle.std.proofs.lemmas.List.{append_assoc, append-nil, get_or_append_left, length-append, take-append-le, take_all}
use Rattle.std.proofs.Math.Seq.{get_or-append_right}
use Rattle.std.proofs.lemmas.List.Elements.{All-append, All-cons, All-nil}
use Rattle.gs_design.specs.declared.design.Design.{Design}
use Rattle.gs_move.specs.Alone.{after_move, after_round}
use Rattle.gs_move.specs.Entries.{commits_of, worker_of}
use Rattle.gs_move.specs.Judge.{Answers}
use Rattle.gs_move.specs.Settle.{entries_after, entry_at, no_entry, settle_of}
use Rattle.gs_move.specs.State.{sizes_now}
use Rattle.gs_move.specs.declared.entry.Entry.{Entry}
use Rattle.gs_move.specs.declared.entry.Entry.TheVariants.{Commit, Reject}
use Rattle.gs_move.specs.declared.moves.Move.{Move}
use Rattle.gs_move.specs.declared.settled.Settled.{Settled}
use Rattle.gs_move.specs.declared.settled.Settled.TheVariants.{Spent, Stale, Known, Rejected, Committed}

abbrev IsOwn : Entry → Type 0
IsOwn e = worker_of e ≡ 0

-- more entries, each of worker 0
pub record Grown (es fs : List Entry) : Type 0 where
  pub more : List Entry
  pub is : fs ≡ es ++ more
  pub own : All IsOwn more

grown_none : (es : List Entry) → Grown es es
grown_none es = record { more = []; is = sym (append-nil es); own = All-nil IsOwn }

grown_one : (es : List Entry) (e : Entry) → worker_of e ≡ 0 → Grown es (es ++ e ∷ [])
grown_one es e own = record { more = e ∷ []; is = refl; own = All-cons IsOwn e [] own (All-nil IsOwn) }

grown_twice : (es fs gs : List Entry) → Grown es fs → Grown fs gs → Grown es gs
grown_twice es fs gs a b = record {
  more = a.more ++ b.more;
  is = b.is ∙ ap (λ xs. xs ++ b.more) a.is ∙ append_assoc es a.more b.more;
  own = All-append IsOwn a.more b.more a.own b.own;
}

settled_grown : (es : List Entry) (m : Move) (a : Settled) → Grown es (entries_after es m 0 a)
settled_grown es m (Spent n) = grown_none es
settled_grown es m (Stale site at') = grown_none es
settled_grown es m (Known k) = grown_none es
settled_grown es m (Rejected k) = grown_one es (Reject m 0) refl
settled_grown es m (Committed k) = grown_one es (Commit m 0) refl

module _ (J : Answers) (d : Design) (start : List ℕ) (budget : ℕ) where
  move_by : (es : List Entry) (m : Move) (present : Bool) → Grown es (if present then es else entries_after es m 0 (settle_of J d start budget es m (length (commits_of es))))
  move_by es m true = grown_none es
  move_by es m false = settled_grown es m (settle_of J d start budget es m (length (commits_of es)))

  move_grown : (es : List Entry) (m : Move) → Grown es (after_move J d start budget es m)
  move_grown es m = move_by es m (m.place == slice_index (sizes_now start es) m.inst)

  pub round_grown : (ms : List Move) (es : List Entry) → Grown es (after_round J d start budget es ms)
  round_grown [] es = grown_none es
  round_grown (m ∷ ms) es = by_test (length es == budget) (round_grown ms (after_move J d start budget es m))
    where
      by_test : (full : Bool) → Grown (after_move J d start budget es m) (after_round J d start budget (after_move J d start budget es m) ms)
          → Grown es (if full then es else after_round J d start budget (after_move J d start budget es m) ms)
      by_test true rest = grown_none es
      by_test false rest = grown_twice es (after_move J d start budget es m) (after_round J d start budget (after_move J d start budget es m) ms) (move_grown es m) rest

-- Entries that began with some, and of which the others are of worker 0.
pub record IsGrown (es fs : List Entry) : Type 0 where
  pub longer : length es ≤ length fs
  pub front : take (length es) fs ≡ es
  pub own : (k : ℕ) → length es ≤ k → k < length fs → worker_of (entry_at fs k) ≡ 0

pub is_grown_none : (es : List Entry) → IsGrown es es
is_grown_none es = record {
  longer = omega arith;
  front = take_all (length es) es (omega arith);
  own = λ k from below. absurd (omega (arith, from, below));
}

own_at : (fs more : List Entry) (k : ℕ) → All IsOwn more → length fs ≤ k → k < length (fs ++ more) → worker_of (entry_at (fs ++ more) k) ≡ 0
own_at fs more k own from below =
    let whole = length-append fs more in
    ap worker_of (get_or-append_right fs more k no_entry from) ∙ own (k - length fs) no_entry (omega (arith, from, below, whole))

module _ (es fs more : List Entry) (a : IsGrown es fs) (own : All IsOwn more) where
  own_by : (k : ℕ) → length es ≤ k → k < length (fs ++ more) → (k < length fs) ⊎ (length fs ≤ k) → worker_of (entry_at (fs ++ more) k) ≡ 0
  own_by k from below (inl old) = ap worker_of (get_or_append_left fs more no_entry k old) ∙ a.own k from old
  own_by k from below (inr new) = own_at fs more k own new below

  grown_by : IsGrown es (fs ++ more)
  grown_by = record {
    longer = (let whole = length-append fs more in let so_far = a.longer in omega (arith, whole, so_far));
    front = take-append-le (length es) fs more a.longer ∙ a.front;
    own = λ k from below. own_by k from below (cases_lt k (length fs));
  }

pub grown_on : (es fs gs : List Entry) → IsGrown es fs → Grown fs gs → IsGrown es gs
grown_on es fs gs a b = subst (IsGrown es) (sym b.is) (grown_by es fs b.more a b.own)
