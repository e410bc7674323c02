-- Commits counted worker by worker.

use Rattle.std.proofs.Common.{◌≡◌, ℕ, ◌+◌, ◌<◌, ◌≤◌, ◌==◌, ◌&&◌, List, [], ◌∷◌, ◌++◌, drop, length, get_or, take, slice_index, map, sym, ◌∙◌, ap, arith}
use Rattle.std.specs.List.{range_with_len}
use Rattle.std.proofs.lemmas.List.{append-nil, drop_all, length-take-le, take_all, take_more}
use Rattle.std.proofs.lemmas.List.FromFn.{get_or-map-range_with_len, length-map-range_with_len}
use Rattle.std.proofs.lemmas.List.Sums.{sum_by-append, count_by-le-length}
use Rattle.gs_move.specs.Entries.{is_commit, worker_commits, worker_of}
use Rattle.gs_move.specs.declared.entry.Entry.{Entry}

-- one entry more
pub count_more : (es : List Entry) (i : ℕ) (e : Entry) (w : ℕ) → i < length es → e ≡ get_or es i e → worker_commits (take (i + 1) es) w ≡ worker_commits (take i es) w + worker_commits (e ∷ []) w
count_more es i e w lt is =
    ap (λ l. worker_commits l w) (take_more es i e lt ∙ ap (λ x. take i es ++ x ∷ []) (sym is)) ∙ sum_by-append _ (take i es) (e ∷ [])

-- no more commits than entries
pub count_few : (es : List Entry) (i w : ℕ) → i < length es → worker_commits (take i es) w ≤ i
count_few es i w lt =
    omega (arith, count_by-le-length (λ e. is_commit e && (worker_of e == w)) (take i es), length-take-le i es (omega arith))

-- one of the counts
pub count_at : (es : List Entry) (counts : List ℕ) (n k : ℕ) → counts ≡ map (worker_commits es) (range_with_len 0 n) → k < length counts → slice_index counts k ≡ worker_commits es k
count_at es counts n k is lt =
    let inside : k < n = omega (arith, ap length is, length-map-range_with_len (worker_commits es) 0 n) in
    ap (λ xs. slice_index xs k) is ∙ get_or-map-range_with_len (worker_commits es) 0 n k k 0 inside (omega arith)

pub count_many : (es : List Entry) (counts : List ℕ) (n : ℕ) → counts ≡ map (worker_commits es) (range_with_len 0 n) → length counts ≡ n
count_many es counts n is = ap length is ∙ length-map-range_with_len (worker_commits es) 0 n

-- a list that was written whole through a slice
pub whole : (n : ℕ) (new old : List ℕ) → length new ≡ length old → n ≡ length old → take n (new ++ drop (length new) old) ≡ new
whole n new old same all =
    ap (λ rest. take n (new ++ rest)) (drop_all (length new) old (omega arith)) ∙ ap (take n) (append-nil new) ∙ take_all n new (omega arith)
