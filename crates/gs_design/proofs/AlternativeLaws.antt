-- What the alternatives of a cell keep.

use Rattle.std.proofs.Common.{◌≡◌, ◌≢◌, ℕ, zero, suc, ◌+◌, ◌<◌, ◌≤◌, ◌==◌, Bool, true, false, cond, not, ◌&&◌, ◌||◌, Option, All, AllPairs, List, [], ◌∷◌, map, filter, fold, length, slice_index_or, if◌then◌else◌, ℤ, refl, sym, ◌∙◌, ap, subst, arith}
use Rattle.std.specs.BTreeMap.{insert_entry}
use Rattle.std.specs.FinMap.{nat_cmp-IsAntisymmetric, slice_cmp-IsAntisymmetric}
use Rattle.std.specs.List.{list_any, range_with_len}
use Rattle.std.specs.Map.{values_of}
use Rattle.std.specs.Ordering.{int_cmp, match_ordering, nat_cmp, ordering_reverse, ordering_then}
use Rattle.std.specs.Cmp.Lexicographic.{pointwise, slice_cmp}
use Rattle.std.specs.Str.{bytes_eq}
use Rattle.std.specs.declared.cmp.Ordering.{Ordering}
use Rattle.std.specs.declared.cmp.Ordering.TheVariants.{Less, Equal, Greater}
use Rattle.std.proofs.lemmas.Bool.{eq-eqb, eqb-true, false≢true}
use Rattle.std.specs.Cmp.{IsTotalOrder}
use Rattle.std.proofs.lemmas.Cmp.{int_cmp_total, nat_list_cmp_total, on_total, then_total}
use Rattle.std.proofs.lemmas.List.Folds.{list_any_at}
use Rattle.std.proofs.lemmas.List.{length-map}
use Rattle.std.proofs.lemmas.List.Elements.{All-filter}
use Rattle.std.proofs.lemmas.List.FromFn.{fill_by_all, get_or-range_with_len, length-range_with_len}
use Rattle.std.proofs.lemmas.List.Kept.{AllPairs-cons, AllPairs-filter}
use Rattle.std.proofs.lemmas.Map.Views.{All-values-insert_entry}
use Rattle.std.proofs.Math.ListN.{get_or-map}
use Rattle.gs_design.specs.Alternatives.{alike, alternatives, class_size, is_sizable, rank_cmp, rank_key, ranked, same_truth}
use Rattle.gs_design.specs.Cell.{is_gate, pin_name}
use Rattle.gs_design.specs.declared.kind.CellKind.{CellKind}
use Rattle.gs_design.specs.declared.kind.CellKind.TheVariants.{Gate, Flop}
use Rattle.gs_design.specs.Cells.{cell_at, cell_name, no_cell}
use Rattle.gs_design.specs.Class.{AreAlternativesOf, IsAmong}
use Rattle.gs_design.specs.Library.{IsLibrary}
use Rattle.gs_design.specs.declared.cell.Cell.{Cell}

-- one more element in front
count-cons : (p : ℕ → Bool) (x : ℕ) (xs : List ℕ) → length (filter p (x ∷ xs)) ≡ (if p x then 1 else 0) + length (filter p xs)
count-cons p x xs = by_test (p x)
  where
    by_test : (b : Bool) → length (cond b (x ∷ filter p xs) (filter p xs)) ≡ (if b then 1 else 0) + length (filter p xs)
    by_test true = omega arith
    by_test false = omega arith

all-head : {X : Type 0} (P : X → Type 0) (x : X) (xs : List X) → All P (x ∷ xs) → P x
all-head P x xs h = h 0 x (omega arith)

all-tail : {X : Type 0} (P : X → Type 0) (x : X) (xs : List X) → All P (x ∷ xs) → All P xs
all-tail P x xs h k d lt = h (suc k) d (omega arith)

all-cons : {X : Type 0} (P : X → Type 0) (x : X) (xs : List X) → P x → All P xs → All P (x ∷ xs)
all-cons P x xs p h zero d lt = p
all-cons P x xs p h (suc k) d lt = h k d (omega arith)

pairs-head : {X : Type 0} (R : X → X → Type 0) (x : X) (xs : List X) → AllPairs R (x ∷ xs) → All (R x) xs
pairs-head R x xs h k d lt = h 0 (suc k) d (omega arith) (omega arith)

pairs-tail : {X : Type 0} (R : X → X → Type 0) (x : X) (xs : List X) → AllPairs R (x ∷ xs) → AllPairs R xs
pairs-tail R x xs h i j d ij lt = h (suc i) (suc j) d (omega arith) (omega arith)

or-true : (b : Bool) → (b || true) ≡ true
or-true true = refl
or-true false = refl

or-false : (b : Bool) → (b || false) ≡ true → b ≡ true
or-false true h = refl
or-false false h = h

or_mono : (a b c : Bool) → (b ≡ true → c ≡ true) → (a || b) ≡ true → (a || c) ≡ true
or_mono true b c f h = refl
or_mono false b c f h = f h

then_second : (r t : Ordering) → ordering_then r t ≡ Equal → t ≡ Equal
then_second Less t e = absurd cc
then_second Equal t e = e
then_second Greater t e = absurd cc

module _ {K : Type 0} (cmp : K → K → Ordering) where
  -- an entry that is put in passes a test once more at most
  count-insert : (p : ℕ → Bool) (es : List (K × ℕ)) (k : K) (v : ℕ) → length (filter p (values_of (insert_entry cmp es k v))) ≤ length (filter p (values_of es)) + (if p v then 1 else 0)
  count-insert p [] k v = omega (arith, count-cons p v [])
  count-insert p (e ∷ es) k v = by_order (cmp k e.0) (count-insert p es k v)
    where
      by_order : (r : Ordering) → length (filter p (values_of (insert_entry cmp es k v))) ≤ length (filter p (values_of es)) + (if p v then 1 else 0)
          → length (filter p (values_of (match_ordering r ((k, v) ∷ e ∷ es) ((e.0, v) ∷ es) (e ∷ insert_entry cmp es k v)))) ≤ length (filter p (values_of (e ∷ es))) + (if p v then 1 else 0)
      by_order Less h = omega (arith, count-cons p v (e.1 ∷ values_of es), count-cons p e.1 (values_of es))
      by_order Equal h = omega (arith, count-cons p v (values_of es), count-cons p e.1 (values_of es))
      by_order Greater h = omega (arith, h, count-cons p e.1 (values_of es), count-cons p e.1 (values_of (insert_entry cmp es k v)))

  -- the values stay apart where the new one is apart from them
  apart-insert : (es : List (K × ℕ)) (k : K) (v : ℕ) → AllPairs (λ x y. x ≢ y) (values_of es) → All (λ x. x ≢ v) (values_of es) → AllPairs (λ x y. x ≢ y) (values_of (insert_entry cmp es k v))
  apart-insert [] k v h new = λ i j d ij lt. absurd (omega arith)
  apart-insert (e ∷ es) k v h new =
      by_order (cmp k e.0) (apart-insert es k v (pairs-tail (λ x y. x ≢ y) e.1 (values_of es) h) (all-tail (λ x. x ≢ v) e.1 (values_of es) new))
    where
      other : All (λ x. v ≢ x) (e.1 ∷ values_of es)
      other i d lt = λ same. new i d lt (sym same)

      others : All (λ x. v ≢ x) (values_of es)
      others i d lt = λ same. new (suc i) d (omega arith) (sym same)

      by_order : (r : Ordering) → AllPairs (λ x y. x ≢ y) (values_of (insert_entry cmp es k v))
          → AllPairs (λ x y. x ≢ y) (values_of (match_ordering r ((k, v) ∷ e ∷ es) ((e.0, v) ∷ es) (e ∷ insert_entry cmp es k v)))
      by_order Less rest = AllPairs-cons (λ x y. x ≢ y) v (e.1 ∷ values_of es) other h
      by_order Equal rest = AllPairs-cons (λ x y. x ≢ y) v (values_of es) others (pairs-tail (λ x y. x ≢ y) e.1 (values_of es) h)
      by_order Greater rest = AllPairs-cons (λ x y. x ≢ y) e.1 (values_of (insert_entry cmp es k v))
          (All-values-insert_entry cmp k v (λ x. e.1 ≢ x) es (pairs-head (λ x y. x ≢ y) e.1 (values_of es) h) (all-head (λ x. x ≢ v) e.1 (values_of es) new)) rest

  -- what is put in is there
  has_new : (es : List (K × ℕ)) (k : K) (v : ℕ) → list_any (λ x. x == v) (values_of (insert_entry cmp es k v)) ≡ true
  has_new [] k v = rw (eq-eqb v v refl) refl
  has_new (e ∷ es) k v = by_order (cmp k e.0) (has_new es k v)
    where
      by_order : (r : Ordering) → list_any (λ x. x == v) (values_of (insert_entry cmp es k v)) ≡ true
          → list_any (λ x. x == v) (values_of (match_ordering r ((k, v) ∷ e ∷ es) ((e.0, v) ∷ es) (e ∷ insert_entry cmp es k v))) ≡ true
      by_order Less h = rw (eq-eqb v v refl) refl
      by_order Equal h = rw (eq-eqb v v refl) refl
      by_order Greater h = rw h (or-true (e.1 == v))

  -- what was there stays, where no key is as the new one
  has_stays : (c : ℕ) (es : List (K × ℕ)) (k : K) (v : ℕ) → All (λ (e : K × ℕ). cmp k e.0 ≢ Equal) es → list_any (λ x. x == c) (values_of es) ≡ true
      → list_any (λ x. x == c) (values_of (insert_entry cmp es k v)) ≡ true
  has_stays c [] k v new h = absurd cc
  has_stays c (e ∷ es) k v new h =
      by_order (cmp k e.0) (all-head (λ (x : K × ℕ). cmp k x.0 ≢ Equal) e es new) (has_stays c es k v (all-tail (λ (x : K × ℕ). cmp k x.0 ≢ Equal) e es new))
    where
      by_order : (r : Ordering) → r ≢ Equal → (list_any (λ x. x == c) (values_of es) ≡ true → list_any (λ x. x == c) (values_of (insert_entry cmp es k v)) ≡ true)
          → list_any (λ x. x == c) (values_of (match_ordering r ((k, v) ∷ e ∷ es) ((e.0, v) ∷ es) (e ∷ insert_entry cmp es k v))) ≡ true
      by_order Less ne rest = rw h (or-true (v == c))
      by_order Equal ne rest = absurd (ne refl)
      by_order Greater ne rest = or_mono (e.1 == c) (list_any (λ x. x == c) (values_of es)) (list_any (λ x. x == c) (values_of (insert_entry cmp es k v))) rest h

  all-insert : (P : K × ℕ → Type 0) (es : List (K × ℕ)) (k : K) (v : ℕ) → All (λ (e : K × ℕ). cmp k e.0 ≢ Equal) es → All P es → P (k, v) → All P (insert_entry cmp es k v)
  all-insert P [] k v new h p = all-cons P (k, v) [] p h
  all-insert P (e ∷ es) k v new h p =
      by_order (cmp k e.0) (all-head (λ (x : K × ℕ). cmp k x.0 ≢ Equal) e es new) (all-insert P es k v (all-tail (λ (x : K × ℕ). cmp k x.0 ≢ Equal) e es new) (all-tail P e es h) p)
    where
      by_order : (r : Ordering) → r ≢ Equal → All P (insert_entry cmp es k v) → All P (match_ordering r ((k, v) ∷ e ∷ es) ((e.0, v) ∷ es) (e ∷ insert_entry cmp es k v))
      by_order Less ne rest = all-cons P (k, v) (e ∷ es) p h
      by_order Equal ne rest = absurd (ne refl)
      by_order Greater ne rest = all-cons P e (insert_entry cmp es k v) (all-head P e es h) rest

  -- where the keys rise and none is as the new one, they rise still
  abbrev IsBelow : K × ℕ → K × ℕ → Type 0
  IsBelow x y = cmp x.0 y.0 ≡ Less

  rise-insert : IsTotalOrder cmp → (es : List (K × ℕ)) (k : K) (v : ℕ) → All (λ (e : K × ℕ). cmp k e.0 ≢ Equal) es → AllPairs IsBelow es → AllPairs IsBelow (insert_entry cmp es k v)
  rise-insert o [] k v new h = λ i j d ij lt. absurd (omega arith)
  rise-insert o (e ∷ es) k v new h =
      by_order (cmp k e.0) refl (all-head (λ (x : K × ℕ). cmp k x.0 ≢ Equal) e es new) (rise-insert o es k v rest (pairs-tail IsBelow e es h))
    where
      rest : All (λ (x : K × ℕ). cmp k x.0 ≢ Equal) es
      rest = all-tail (λ (x : K × ℕ). cmp k x.0 ≢ Equal) e es new

      above : All (IsBelow e) es
      above = pairs-head IsBelow e es h

      by_order : (r : Ordering) → cmp k e.0 ≡ r → r ≢ Equal → AllPairs IsBelow (insert_entry cmp es k v)
          → AllPairs IsBelow (match_ordering r ((k, v) ∷ e ∷ es) ((e.0, v) ∷ es) (e ∷ insert_entry cmp es k v))
      by_order Less is ne later = AllPairs-cons IsBelow (k, v) (e ∷ es)
          (all-cons (IsBelow (k, v)) e es is (λ i d lt. o.trans k e.0 (slice_index_or es i d).0 is (above i d lt))) h
      by_order Equal is ne later = absurd (ne refl)
      by_order Greater is ne later = AllPairs-cons IsBelow e (insert_entry cmp es k v)
          (all-insert (IsBelow e) es k v rest above (o.antisymm e.0 k ∙ ap ordering_reverse is)) later

-- Cells put in order one after another.
module _ (cells : List Cell) where
  abbrev put : List ((ℤ × List ℕ) × ℕ) → ℕ → List ((ℤ × List ℕ) × ℕ)
  put es c = insert_entry rank_cmp es (rank_key (cell_at cells c)) c

  count-all : (p : ℕ → Bool) (cs : List ℕ) (es : List ((ℤ × List ℕ) × ℕ)) → length (filter p (values_of (fold put es cs))) ≤ length (filter p (values_of es)) + length (filter p cs)
  count-all p [] es = omega arith
  count-all p (c ∷ cs) es = omega (arith, count-all p cs (put es c), count-insert rank_cmp p es (rank_key (cell_at cells c)) c, count-cons p c cs)

  inside-all : (P : ℕ → Type 0) (cs : List ℕ) (es : List ((ℤ × List ℕ) × ℕ)) → All P (values_of es) → All P cs → All P (values_of (fold put es cs))
  inside-all P [] es h g = h
  inside-all P (c ∷ cs) es h g = inside-all P cs (put es c) (All-values-insert_entry rank_cmp (rank_key (cell_at cells c)) c P es h (all-head P c cs g)) (all-tail P c cs g)

  apart-all : (cs : List ℕ) (es : List ((ℤ × List ℕ) × ℕ)) → AllPairs (λ x y. x ≢ y) (values_of es) → All (λ x. All (λ y. x ≢ y) cs) (values_of es) → AllPairs (λ x y. x ≢ y) cs
      → AllPairs (λ x y. x ≢ y) (values_of (fold put es cs))
  apart-all [] es h g f = h
  apart-all (c ∷ cs) es h g f =
      apart-all cs (put es c)
      (apart-insert rank_cmp es (rank_key (cell_at cells c)) c h (λ k d lt. all-head (λ y. slice_index_or (values_of es) k d ≢ y) c cs (g k d lt)))
      (All-values-insert_entry rank_cmp (rank_key (cell_at cells c)) c (λ x. All (λ y. x ≢ y) cs) es
      (λ k d lt. all-tail (λ y. slice_index_or (values_of es) k d ≢ y) c cs (g k d lt)) (pairs-head (λ x y. x ≢ y) c cs f))
      (pairs-tail (λ x y. x ≢ y) c cs f)

  -- no later cell has the key of an entry
  abbrev AreNew : List ℕ → (ℤ × List ℕ) × ℕ → Type 0
  AreNew cs e = All (λ c. rank_cmp (rank_key (cell_at cells c)) e.0 ≢ Equal) cs

  abbrev Differ : ℕ → ℕ → Type 0
  Differ x y = rank_cmp (rank_key (cell_at cells y)) (rank_key (cell_at cells x)) ≢ Equal

  has-all : (q : ℕ) (cs : List ℕ) (es : List ((ℤ × List ℕ) × ℕ)) → All (AreNew cs) es → AllPairs Differ cs
      → (list_any (λ x. x == q) (values_of es) || list_any (λ x. x == q) cs) ≡ true → list_any (λ x. x == q) (values_of (fold put es cs)) ≡ true
  has-all q [] es new f h = or-false (list_any (λ x. x == q) (values_of es)) h
  has-all q (c ∷ cs) es new f h =
      has-all q cs (put es c)
      (all-insert rank_cmp (AreNew cs) es (rank_key (cell_at cells c)) c fresh (λ k d lt. all-tail (λ y. rank_cmp (rank_key (cell_at cells y)) (slice_index_or es k d).0 ≢ Equal) c cs (new k d lt)) (pairs-head Differ c cs f))
      (pairs-tail Differ c cs f)
      (now (list_any (λ x. x == q) (values_of es)) (c == q) refl refl h)
    where
      fresh : All (λ (e : (ℤ × List ℕ) × ℕ). rank_cmp (rank_key (cell_at cells c)) e.0 ≢ Equal) es
      fresh k d lt = all-head (λ y. rank_cmp (rank_key (cell_at cells y)) (slice_index_or es k d).0 ≢ Equal) c cs (new k d lt)

      now : (a b : Bool) → list_any (λ x. x == q) (values_of es) ≡ a → (c == q) ≡ b → (a || (b || list_any (λ x. x == q) cs)) ≡ true
          → (list_any (λ x. x == q) (values_of (put es c)) || list_any (λ x. x == q) cs) ≡ true
      now true b ea eb t = rw (has_stays rank_cmp q es (rank_key (cell_at cells c)) c fresh ea) refl
      now false true ea eb t =
          let P : ℕ → Type 0 = λ n. list_any (λ x. x == n) (values_of (put es c)) ≡ true in
          rw (subst P (eqb-true c q eb) (has_new rank_cmp es (rank_key (cell_at cells c)) c)) refl
      now false false ea eb t = rw t (or-true (list_any (λ x. x == q) (values_of (put es c))))

  -- the keys rise, and each is its cell's
  rank_total : IsTotalOrder rank_cmp
  rank_total = then_total {R = λ x y. int_cmp x.0 y.0} {S = λ x y. slice_cmp nat_cmp x.1 y.1} (on_total (λ (x : ℤ × List ℕ). x.0) int_cmp_total) (on_total (λ (x : ℤ × List ℕ). x.1) nat_list_cmp_total)

  abbrev IsKeyed : (ℤ × List ℕ) × ℕ → Type 0
  IsKeyed e = e.0 ≡ rank_key (cell_at cells e.1)

  abbrev IsRankedBelow : ℕ → ℕ → Type 0
  IsRankedBelow x y = rank_cmp (rank_key (cell_at cells x)) (rank_key (cell_at cells y)) ≡ Less

  record AreRanked (es : List ((ℤ × List ℕ) × ℕ)) : Type 0 where
    rise : AllPairs (IsBelow rank_cmp) es
    keyed : All IsKeyed es

  ranked-all : (cs : List ℕ) (es : List ((ℤ × List ℕ) × ℕ)) → All (AreNew cs) es → AllPairs Differ cs → AreRanked es → AreRanked (fold put es cs)
  ranked-all [] es new f h = h
  ranked-all (c ∷ cs) es new f h =
      ranked-all cs (put es c)
      (all-insert rank_cmp (AreNew cs) es (rank_key (cell_at cells c)) c fresh (λ k d lt. all-tail (λ y. rank_cmp (rank_key (cell_at cells y)) (slice_index_or es k d).0 ≢ Equal) c cs (new k d lt)) (pairs-head Differ c cs f))
      (pairs-tail Differ c cs f)
      (record {
        rise = rise-insert rank_cmp rank_total es (rank_key (cell_at cells c)) c fresh h.rise;
        keyed = all-insert rank_cmp IsKeyed es (rank_key (cell_at cells c)) c fresh h.keyed refl;
      })
    where
      fresh : All (λ (e : (ℤ × List ℕ) × ℕ). rank_cmp (rank_key (cell_at cells c)) e.0 ≢ Equal) es
      fresh k d lt = all-head (λ y. rank_cmp (rank_key (cell_at cells y)) (slice_index_or es k d).0 ≢ Equal) c cs (new k d lt)

  values_rise : (es : List ((ℤ × List ℕ) × ℕ)) → AreRanked es → AllPairs IsRankedBelow (values_of es)
  values_rise es h i j d ij lt =
      let many : length (values_of es) ≡ length es = length-map es (λ (e : (ℤ × List ℕ) × ℕ). e.1) in
      let j_in : j < length es = omega arith in
      let filler : (ℤ × List ℕ) × ℕ = (rank_key (cell_at cells d), d) in
      let value_i : slice_index_or (values_of es) i d ≡ (slice_index_or es i filler).1 = get_or-map (λ (e : (ℤ × List ℕ) × ℕ). e.1) es i filler in
      let value_j : slice_index_or (values_of es) j d ≡ (slice_index_or es j filler).1 = get_or-map (λ (e : (ℤ × List ℕ) × ℕ). e.1) es j filler in
      let key_i : (slice_index_or es i filler).0 ≡ rank_key (cell_at cells (slice_index_or es i filler).1) = h.keyed i filler (omega arith) in
      let key_j : (slice_index_or es j filler).0 ≡ rank_key (cell_at cells (slice_index_or es j filler).1) = h.keyed j filler j_in in
      let From : ℤ × List ℕ → Type 0 = λ k. rank_cmp k (slice_index_or es j filler).0 ≡ Less in
      let To : ℤ × List ℕ → Type 0 = λ k. rank_cmp (rank_key (cell_at cells (slice_index_or es i filler).1)) k ≡ Less in
      rw (value_i, value_j) (subst To key_j (subst From key_i (h.rise i j filler ij j_in)))

  numbers_apart : AllPairs (λ x y. x ≢ y) (range_with_len 0 (length cells))
  numbers_apart i j d ij lt =
      let j_in : j < length cells = omega (arith, length-range_with_len 0 (length cells)) in
      rw (get_or-range_with_len 0 (length cells) i d (omega arith), get_or-range_with_len 0 (length cells) j d j_in) (λ e. omega arith)

  numbers_in : All (λ c. c < length cells) (range_with_len 0 (length cells))
  numbers_in k d lt =
      let k_in : k < length cells = omega (arith, length-range_with_len 0 (length cells)) in
      rw (get_or-range_with_len 0 (length cells) k d k_in) (omega arith)

  module _ (differ : AllPairs (λ x y. x ≢ y) (map cell_name cells)) where
    keys_differ : AllPairs Differ (range_with_len 0 (length cells))
    keys_differ i j d ij lt =
        let j_in : j < length cells = omega (arith, length-range_with_len 0 (length cells)) in
        let name_i : slice_index_or (map cell_name cells) i (cell_name no_cell) ≡ (cell_at cells i).name = get_or-map cell_name cells i no_cell in
        let name_j : slice_index_or (map cell_name cells) j (cell_name no_cell) ≡ (cell_at cells j).name = get_or-map cell_name cells j no_cell in
        let numbers_i : slice_index_or (range_with_len 0 (length cells)) i d ≡ i = get_or-range_with_len 0 (length cells) i d (omega arith) ∙ omega arith in
        let numbers_j : slice_index_or (range_with_len 0 (length cells)) j d ≡ j = get_or-range_with_len 0 (length cells) j d j_in ∙ omega arith in
        rw (numbers_i, numbers_j) (λ e. differ i j (cell_name no_cell) ij (omega (arith, length-map cells cell_name))
        (name_i ∙ sym (slice_cmp-IsAntisymmetric nat_cmp-IsAntisymmetric (cell_at cells j).name (cell_at cells i).name
        (then_second (int_cmp (cell_at cells j).leakage (cell_at cells i).leakage) (slice_cmp nat_cmp (cell_at cells j).name (cell_at cells i).name) e)) ∙ sym name_j))

    has_itself : (c : ℕ) → c < length cells → list_any (λ x. x == c) (ranked cells) ≡ true
    has_itself c lt = has-all c (range_with_len 0 (length cells)) [] (λ k d l. absurd (omega arith)) keys_differ
        (list_any_at (λ x. x == c) (range_with_len 0 (length cells)) c 0 (omega (arith, length-range_with_len 0 (length cells)))
        (eq-eqb (slice_index_or (range_with_len 0 (length cells)) c 0) c (get_or-range_with_len 0 (length cells) c 0 lt ∙ omega arith)))

    ranked_rise : AllPairs IsRankedBelow (ranked cells)
    ranked_rise = values_rise (fold put [] (range_with_len 0 (length cells))) (ranked-all (range_with_len 0 (length cells)) [] (λ k d l. absurd (omega arith)) keys_differ
        (record { rise = λ i j d ij l. absurd (omega arith); keyed = λ k d l. absurd (omega arith) }))

  count-map : (q : Cell → Bool) (cs : List ℕ) → length (filter (λ x. q (cell_at cells x)) cs) ≡ length (filter q (map (cell_at cells) cs))
  count-map q [] = refl
  count-map q (c ∷ cs) = by_test (q (cell_at cells c)) (count-map q cs)
    where
      by_test : (b : Bool) → length (filter (λ x. q (cell_at cells x)) cs) ≡ length (filter q (map (cell_at cells) cs))
          → length (cond b (c ∷ filter (λ x. q (cell_at cells x)) cs) (filter (λ x. q (cell_at cells x)) cs)) ≡ length (cond b (cell_at cells c ∷ filter q (map (cell_at cells) cs)) (filter q (map (cell_at cells) cs)))
      by_test true h = ap suc h
      by_test false h = h

  by_number : cells ≡ map (cell_at cells) (range_with_len 0 (length cells))
  by_number = fill_by_all (cell_at cells) cells (length cells) no_cell refl (λ k lt. refl)

has-filter : (p : ℕ → Bool) (q : ℕ) (xs : List ℕ) → p q ≡ true → list_any (λ x. x == q) xs ≡ true → list_any (λ x. x == q) (filter p xs) ≡ true
has-filter p q [] passes h = absurd cc
has-filter p q (x ∷ xs) passes h = by_test (x == q) (p x) refl refl h (has-filter p q xs passes)
  where
    by_test : (a b : Bool) → (x == q) ≡ a → p x ≡ b → (a || list_any (λ y. y == q) xs) ≡ true
        → (list_any (λ y. y == q) xs ≡ true → list_any (λ y. y == q) (filter p xs) ≡ true) → list_any (λ y. y == q) (cond b (x ∷ filter p xs) (filter p xs)) ≡ true
    by_test true true ea eb t rest = rw ea refl
    by_test true false ea eb t rest = absurd (false≢true (sym eb ∙ ap p (eqb-true x q ea) ∙ passes))
    by_test false true ea eb t rest = rw (rest t) (or-true (x == q))
    by_test false false ea eb t rest = rest t

passes-filter : (p : ℕ → Bool) (xs : List ℕ) → All (λ x. p x ≡ true) (filter p xs)
passes-filter p [] = λ k d lt. absurd (omega arith)
passes-filter p (x ∷ xs) = by_test (p x) refl (passes-filter p xs)
  where
    by_test : (b : Bool) → p x ≡ b → All (λ y. p y ≡ true) (filter p xs) → All (λ y. p y ≡ true) (cond b (x ∷ filter p xs) (filter p xs))
    by_test true e h = all-cons (λ y. p y ≡ true) x (filter p xs) e h
    by_test false e h = h

bytes_eq-self : (xs : List ℕ) → bytes_eq xs xs ≡ true
bytes_eq-self [] = refl
bytes_eq-self (x ∷ xs) = rw (eq-eqb x x refl) (bytes_eq-self xs)

names_eq-self : (xs : List (List ℕ)) → pointwise bytes_eq xs xs ≡ true
names_eq-self [] = refl
names_eq-self (x ∷ xs) = rw (bytes_eq-self x) (names_eq-self xs)

truth-self : (k : CellKind) → is_gate k ≡ true → same_truth k k ≡ true
truth-self (Gate t) h = eq-eqb t t refl
truth-self Flop h = absurd cc

and-second : (a b : Bool) → (a && b) ≡ true → b ≡ true
and-second true b h = h
and-second false b h = absurd cc

alike-self : (c : Cell) → is_sizable c ≡ true → alike c c ≡ true
alike-self c h = rw (h, bytes_eq-self c.footprint, names_eq-self (map pin_name c.pins), truth-self c.kind (and-second (not c.marked) (is_gate c.kind) h)) refl

module _ (cells : List Cell) (slew_default : Option ℤ) (l : IsLibrary slew_default cells) (c : ℕ) (lt : c < length cells) where
  abbrev passes : ℕ → Bool
  passes x = alike (cell_at cells c) (cell_at cells x)

  few : length (alternatives cells c) ≤ 1024
  few = by_test (is_sizable (cell_at cells c))
    where
      counted : length (filter passes (range_with_len 0 (length cells))) ≡ class_size cells (cell_at cells c)
      counted = count-map cells (alike (cell_at cells c)) (range_with_len 0 (length cells)) ∙ ap (λ xs. length (filter (alike (cell_at cells c)) xs)) (sym (by_number cells))

      by_test : (b : Bool) → length (if b then filter passes (ranked cells) else c ∷ []) ≤ 1024
      by_test true = omega (arith, count-all cells passes (range_with_len 0 (length cells)) [], counted, l.classes c no_cell lt)
      by_test false = omega arith

  inside : All (λ x. x < length cells) (alternatives cells c)
  inside = by_test (is_sizable (cell_at cells c))
    where
      by_test : (b : Bool) → All (λ x. x < length cells) (if b then filter passes (ranked cells) else c ∷ [])
      by_test true = All-filter passes (λ x. x < length cells) (ranked cells) (inside-all cells (λ x. x < length cells) (range_with_len 0 (length cells)) [] (λ k d h. absurd (omega arith)) (numbers_in cells))
      by_test false = all-cons (λ x. x < length cells) c [] lt (λ k d h. absurd (omega arith))

  differ : AllPairs (λ x y. x ≢ y) (alternatives cells c)
  differ = by_test (is_sizable (cell_at cells c))
    where
      by_test : (b : Bool) → AllPairs (λ x y. x ≢ y) (if b then filter passes (ranked cells) else c ∷ [])
      by_test true = AllPairs-filter (λ x y. x ≢ y) passes (ranked cells)
          (apart-all cells (range_with_len 0 (length cells)) [] (λ i j d ij h. absurd (omega arith)) (λ k d h. absurd (omega arith)) (numbers_apart cells))
      by_test false = λ i j d ij h. absurd (omega arith)

  itself : list_any (λ x. x == c) (alternatives cells c) ≡ true
  itself = by_test (is_sizable (cell_at cells c)) refl
    where
      by_test : (b : Bool) → is_sizable (cell_at cells c) ≡ b → list_any (λ x. x == c) (if b then filter passes (ranked cells) else c ∷ []) ≡ true
      by_test true e = has-filter passes c (ranked cells) (alike-self (cell_at cells c) e) (has_itself cells l.differ c lt)
      by_test false e = rw (eq-eqb c c refl) refl

  are_alike : is_sizable (cell_at cells c) ≡ true → All (λ x. alike (cell_at cells c) (cell_at cells x) ≡ true) (alternatives cells c)
  are_alike e = by_test (is_sizable (cell_at cells c)) e
    where
      by_test : (b : Bool) → b ≡ true → All (λ x. passes x ≡ true) (if b then filter passes (ranked cells) else c ∷ [])
      by_test true h = passes-filter passes (ranked cells)
      by_test false h = absurd cc

  all_alike : is_sizable (cell_at cells c) ≡ true → (x : ℕ) → x < length cells → passes x ≡ true → IsAmong (alternatives cells c) x
  all_alike e x inside alike = by_test (is_sizable (cell_at cells c)) e
    where
      by_test : (b : Bool) → b ≡ true → IsAmong (if b then filter passes (ranked cells) else c ∷ []) x
      by_test true h = has-filter passes x (ranked cells) alike (has_itself cells l.differ x inside)
      by_test false h = absurd cc

  rise : AllPairs (IsRankedBelow cells) (alternatives cells c)
  rise = by_test (is_sizable (cell_at cells c))
    where
      by_test : (b : Bool) → AllPairs (IsRankedBelow cells) (if b then filter passes (ranked cells) else c ∷ [])
      by_test true = AllPairs-filter (IsRankedBelow cells) passes (ranked cells) (ranked_rise cells l.differ)
      by_test false = λ i j d ij h. absurd (omega arith)

  alone : is_sizable (cell_at cells c) ≡ false → alternatives cells c ≡ c ∷ []
  alone e = by_test (is_sizable (cell_at cells c)) e
    where
      by_test : (b : Bool) → b ≡ false → (if b then filter passes (ranked cells) else c ∷ []) ≡ c ∷ []
      by_test true h = absurd cc
      by_test false h = refl

  pub kept : AreAlternativesOf cells c (alternatives cells c)
  kept = record {
    few = few;
    inside = inside;
    differ = differ;
    itself = itself;
    are_alike = are_alike;
    all_alike = all_alike;
    rise = rise;
    alone = alone;
  }
