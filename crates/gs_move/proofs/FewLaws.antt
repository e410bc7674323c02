-- How many entries a legal list has under leakage recovery. Each commit takes an instance to a cell that leaks less, so that fewer of its
-- alternatives leak less than its cell; and between two commits each move is rejected at most once.

use Rattle.std.proofs.Common.{◌≡◌, ℕ, zero, suc, ◌+◌, ◌-◌, ◌*◌, ◌<◌, ◌≤◌, ◌==◌, Bool, true, false, not, ◌||◌, List, [], ◌∷◌, ◌++◌, cond, filter, take, length, get_or, slice_index, sum_by, ℤ, ◌<ℤ◌, refl, sym, ◌∙◌, ap, subst, arith, ◌⊎◌, inl, inr}
use Rattle.std.specs.Prelude.{if◌then◌else◌, int_lt, nat_lt}
use Rattle.std.specs.Cmp.{IsEquivalence}
use Rattle.std.specs.List.{IsDistinct, range_with_len}
use Rattle.std.specs.Set.{is_member}
use Rattle.std.proofs.lemmas.Bool.{cases_eq}
use Rattle.std.proofs.lemmas.Bool.Decides.{Decides-eqb, Decides-ltb}
use Rattle.std.proofs.lemmas.Cmp.{and_equiv, nat_eq_equiv, on_equiv}
use Rattle.std.proofs.lemmas.Int.{ints}
use Rattle.std.proofs.lemmas.List.{get_or-set_other, get_or-set_same, length-map, length_push, take_all, take_more}
use Rattle.std.proofs.lemmas.List.Concat.{length-flat_map}
use Rattle.std.proofs.lemmas.List.Folds.{list_any-append}
use Rattle.std.proofs.lemmas.List.FromFn.{get_or-range_with_len, length-range_with_len}
use Rattle.std.proofs.lemmas.List.Sums.{sum_by_push}
use Rattle.std.proofs.lemmas.Map.Keys.{IsDistinct-push}
use Rattle.std.proofs.lemmas.Map.Made.{All-is_member, length-le_from_is_member}
use Rattle.std.proofs.lemmas.Nat.{mul-le}
use Rattle.gs_design.specs.Cells.{cell_at}
use Rattle.gs_design.specs.Ends.{alt_cell}
use Rattle.gs_design.specs.Insts.{Inst, inst_at, no_inst}
use Rattle.gs_design.specs.Sizes.{FitSizes, cell_of, move_count}
use Rattle.gs_design.specs.declared.design.Design.{Design}
use Rattle.gs_move.specs.Entries.{commits_of, is_commit, move_of}
use Rattle.gs_move.specs.Fair.{new_leak, present_leak}
use Rattle.gs_move.specs.Legal.{IsLegal, sizes_before}
use Rattle.gs_move.specs.Moves.{after, alt_count, is_move, moves_at, moves_of_inst}
use Rattle.gs_move.specs.Recovery.{recovery}
use Rattle.gs_move.specs.Run.{sizes_after}
use Rattle.gs_move.specs.Settle.{entry_at, known_at, last_commit, last_reject, no_entry, rejects, same_move}
use Rattle.gs_move.specs.declared.entry.Entry.{Entry}
use Rattle.gs_move.specs.declared.entry.Entry.TheVariants.{Commit, Reject}
use Rattle.gs_move.specs.declared.moves.Move.{Move}
use Rattle.gs_move.proofs.FairLaws.{fair_by_recovery, lt_true, true_lt}
use Rattle.gs_move.proofs.LegalLaws.{last_le, move_is}
use Rattle.gs_move.proofs.Lists.{range_more}
use Rattle.gs_move.proofs.MinimumLaws.{each_move}
use Rattle.gs_move.proofs.MoveLaws.{after_fits, inst_in, place_in}
use Rattle.gs_move.proofs.RunLaws.{commits_push, commits_stay}

-- ---- lists and sums

module _ {X : Type 0} (p q : X → Bool) (more : (x : X) → p x ≡ true → q x ≡ true) where
  one_le : (x : X) (xs : List X) → length (filter p xs) ≤ length (filter q xs) → (a b : Bool) → p x ≡ a → q x ≡ b → length (cond a (x ∷ filter p xs) (filter p xs)) ≤ length (cond b (x ∷ filter q xs) (filter q xs))
  one_le x xs le true true e h = omega (arith, le)
  one_le x xs le true false e h = absurd (let yes' = more x e in cc)
  one_le x xs le false true e h = omega (arith, le)
  one_le x xs le false false e h = le

  filter_le : (xs : List X) → length (filter p xs) ≤ length (filter q xs)
  filter_le [] = omega arith
  filter_le (x ∷ xs) = one_le x xs (filter_le xs) (p x) (q x) refl refl

  one_less : (x : X) (xs : List X) → length (filter p xs) < length (filter q xs) → (a b : Bool) → p x ≡ a → q x ≡ b → length (cond a (x ∷ filter p xs) (filter p xs)) < length (cond b (x ∷ filter q xs) (filter q xs))
  one_less x xs lt true true e h = omega (arith, lt)
  one_less x xs lt true false e h = absurd (let yes' = more x e in cc)
  one_less x xs lt false true e h = omega (arith, lt)
  one_less x xs lt false false e h = lt

  here_less : (x : X) (xs : List X) → length (filter p xs) ≤ length (filter q xs) → (a b : Bool) → a ≡ false → b ≡ true → length (cond a (x ∷ filter p xs) (filter p xs)) < length (cond b (x ∷ filter q xs) (filter q xs))
  here_less x xs le true b e h = absurd cc
  here_less x xs le false true e h = omega (arith, le)
  here_less x xs le false false e h = absurd cc

  filter_fewer : (xs : List X) (i : ℕ) (d : X) → i < length xs → q (get_or xs i d) ≡ true → p (get_or xs i d) ≡ false → length (filter p xs) < length (filter q xs)
  filter_fewer [] i d lt yes' no' = absurd (omega (arith, lt))
  filter_fewer (x ∷ xs) zero d lt yes' no' = here_less x xs (filter_le xs) (p x) (q x) no' yes'
  filter_fewer (x ∷ xs) (suc i) d lt yes' no' = one_less x xs (filter_fewer xs i d (omega (arith, lt)) yes' no') (p x) (q x) refl refl

filter_whole : {X : Type 0} (xs : List X) → length (filter (λ x. true) xs) ≡ length xs
filter_whole [] = refl
filter_whole (x ∷ xs) = ap (λ n. suc n) (filter_whole xs)

-- one element that doesn't pass
filter_misses : {X : Type 0} (p : X → Bool) (xs : List X) (i : ℕ) (d : X) → i < length xs → p (get_or xs i d) ≡ false → length (filter p xs) < length xs
filter_misses {X} p xs i d lt no' =
    let less = filter_fewer p (λ (x : X). true) (λ x e. refl) xs i d lt refl no' in
    omega (arith, less, filter_whole xs)

sum_more : (f : ℕ → ℕ) (n : ℕ) → sum_by f (range_with_len 0 (suc n)) ≡ sum_by f (range_with_len 0 n) + f n
sum_more f n =
    let one : suc n ≡ n + 1 = omega arith in
    ap (λ k. sum_by f (range_with_len 0 k)) one ∙ ap (λ ks. sum_by f ks) (range_more n) ∙ sum_by_push f (range_with_len 0 n) n

sum_le : (f h : ℕ → ℕ) (n : ℕ) → ((k : ℕ) → k < n → f k ≤ h k) → sum_by f (range_with_len 0 n) ≤ sum_by h (range_with_len 0 n)
sum_le f h zero le = omega arith
sum_le f h (suc n) le =
    let rest = sum_le f h n (λ k lt. le k (omega (arith, lt))) in
    let last = le n (omega arith) in
    omega (arith, rest, last, sum_more f n, sum_more h n)

sum_less : (f h : ℕ → ℕ) (n i : ℕ) → i < n → f i < h i → ((k : ℕ) → k < n → f k ≤ h k) → sum_by f (range_with_len 0 n) < sum_by h (range_with_len 0 n)
sum_less f h zero i lt fewer le = absurd (omega (arith, lt))
sum_less f h (suc n) i lt fewer le = by_place (cases_eq i n) (λ below. sum_less f h n i below fewer (λ k kt. le k (omega (arith, kt))))
  where
    by_place : (i ≡ n) ⊎ (i ≡ n → ⊥) → (i < n → sum_by f (range_with_len 0 n) < sum_by h (range_with_len 0 n)) → sum_by f (range_with_len 0 (suc n)) < sum_by h (range_with_len 0 (suc n))
    by_place (inl e) rest =
        let last : f n < h n = subst (λ k. f k < h k) e fewer in
        let before = sum_le f h n (λ k kt. le k (omega (arith, kt))) in
        omega (arith, last, before, sum_more f n, sum_more h n)
    by_place (inr other) rest =
        let before = rest (omega (arith, lt, other)) in
        let last = le n (omega arith) in
        omega (arith, before, last, sum_more f n, sum_more h n)

sum_of_list : {X : Type 0} (f : X → ℕ) (xs : List X) (d : X) (n : ℕ) → n ≤ length xs → sum_by (λ k. f (get_or xs k d)) (range_with_len 0 n) ≡ sum_by f (take n xs)
sum_of_list f xs d zero le = refl
sum_of_list f xs d (suc n) le =
    let one : n + 1 ≡ suc n = omega arith in
    sum_more (λ k. f (get_or xs k d)) n ∙ ap (λ k. k + f (get_or xs n d)) (sum_of_list f xs d n (omega (arith, le)))
    ∙ sym (sum_by_push f (take n xs) (get_or xs n d)) ∙ ap (λ ys. sum_by f ys) (sym (take_more xs n d (omega (arith, le)))) ∙ ap (λ k. sum_by f (take k xs)) one

-- ---- the weight of sizes: how many alternatives leak less than the cells

module _ (d : Design) where
  abbrev leaks_below : ℤ → ℕ → Bool
  leaks_below z c = int_lt (cell_at d.cells c).leakage z

  abbrev lower_than : ℕ → ℤ → ℕ
  lower_than g z = length (filter (leaks_below z) (inst_at d.insts g).alts)

  abbrev lower : List ℕ → ℕ → ℕ
  lower s g = lower_than g (cell_of d s g).leakage

  abbrev weight : List ℕ → ℕ
  weight s = sum_by (lower s) (range_with_len 0 (length d.insts))

  not_below : (z : ℤ) → int_lt z z ≡ false
  not_below z = by_test (int_lt z z) refl
    where
      by_test : (b : Bool) → int_lt z z ≡ b → b ≡ false
      by_test true is = absurd (let lt = lt_true z z is in omega (arith, ints, lt))
      by_test false is = refl

  lower_few : (s : List ℕ) → FitSizes d s → (g : ℕ) → g < length d.insts → lower s g ≤ alt_count d g - 1
  lower_few s fit g lt =
      let less = filter_misses (leaks_below (cell_of d s g).leakage) (inst_at d.insts g).alts (slice_index s g) 0 (fit.places_in g lt) (not_below (cell_of d s g).leakage) in
      omega (arith, less)

  others_count : sum_by (λ g. alt_count d g - 1) (range_with_len 0 (length d.insts)) ≡ move_count d
  others_count =
      sum_of_list (λ (i : Inst). length i.alts - 1) d.insts no_inst (length d.insts) (omega arith)
      ∙ ap (λ is. sum_by (λ (i : Inst). length i.alts - 1) is) (take_all (length d.insts) d.insts (omega arith))

  weight_few : (s : List ℕ) → FitSizes d s → weight s ≤ move_count d
  weight_few s fit = let le = sum_le (lower s) (λ g. alt_count d g - 1) (length d.insts) (lower_few s fit) in omega (arith, le, others_count)

  -- a move to a cell that leaks less
  module _ (s : List ℕ) (m : Move) (fit : FitSizes d s) (is : is_move d s m ≡ true) (less : new_leak d m <ℤ present_leak d s m) where
    in_sizes : m.inst < length s
    in_sizes = let many = fit.as_many in omega (arith, many, inst_in d s m is)

    new_cell : (cell_of d (after s m) m.inst).leakage ≡ new_leak d m
    new_cell = ap (λ p. (alt_cell d.cells (inst_at d.insts m.inst) p).leakage) (get_or-set_same s m.inst m.place 0 in_sizes)

    fewer_here : lower (after s m) m.inst < lower s m.inst
    fewer_here =
        subst (λ z. lower_than m.inst z < lower s m.inst) (sym new_cell)
        (filter_fewer (leaks_below (new_leak d m)) (leaks_below (present_leak d s m))
        (λ c below. true_lt (cell_at d.cells c).leakage (present_leak d s m) (let lt = lt_true (cell_at d.cells c).leakage (new_leak d m) below in omega (arith, ints, lt, less)))
        (inst_at d.insts m.inst).alts m.place 0 (place_in d s m is) (true_lt (new_leak d m) (present_leak d s m) less) (not_below (new_leak d m)))

    lower_at : (g : ℕ) → (g ≡ m.inst) ⊎ (g ≡ m.inst → ⊥) → lower (after s m) g ≤ lower s g
    lower_at g (inl e) = subst (λ k. lower (after s m) k ≤ lower s k) (sym e) (let lt = fewer_here in omega (arith, lt))
    lower_at g (inr apart) =
        let same : lower (after s m) g ≡ lower s g = ap (λ p. lower_than g (alt_cell d.cells (inst_at d.insts g) p).leakage) (get_or-set_other s m.inst g m.place 0 apart) in
        omega (arith, same)

    weight_falls : weight (after s m) < weight s
    weight_falls = sum_less (lower (after s m)) (lower s) (length d.insts) m.inst (inst_in d s m is) fewer_here (λ g lt. lower_at g (cases_eq g m.inst))

  -- ---- all moves at sizes

  moves_here : (s : List ℕ) → FitSizes d s → (g : ℕ) → g < length d.insts → length (moves_of_inst d s g) ≤ alt_count d g - 1
  moves_here s fit g lt =
      let inside = fit.places_in g lt in
      let place : get_or (range_with_len 0 (alt_count d g)) (slice_index s g) 0 ≡ slice_index s g = omega (arith, get_or-range_with_len 0 (alt_count d g) (slice_index s g) 0 inside) in
      let less =
      filter_misses (λ p. not (p == slice_index s g)) (range_with_len 0 (alt_count d g)) (slice_index s g) 0 (omega (arith, inside, length-range_with_len 0 (alt_count d g)))
      (ap (λ b. not b) ((Decides-eqb (get_or (range_with_len 0 (alt_count d g)) (slice_index s g) 0) (slice_index s g)).1 place)) in
      omega (arith, less, length-range_with_len 0 (alt_count d g), length-map {B = Move} (filter (λ p. not (p == slice_index s g)) (range_with_len 0 (alt_count d g))) (λ p. record { inst = g; place = p }))

  moves_few : (s : List ℕ) → FitSizes d s → length (moves_at d s) ≤ move_count d
  moves_few s fit =
      let le = sum_le (λ g. length (moves_of_inst d s g)) (λ g. alt_count d g - 1) (length d.insts) (moves_here s fit) in
      omega (arith, le, others_count, length-flat_map (moves_of_inst d s) (range_with_len 0 (length d.insts)))

-- ---- the moves that were rejected since the last commit, among the first k entries

same_move_equiv : IsEquivalence same_move
same_move_equiv = and_equiv (on_equiv (λ (m : Move). m.inst) nat_eq_equiv) (on_equiv (λ (m : Move). m.place) nat_eq_equiv)

none_distinct : IsDistinct same_move []
unfolding IsDistinct
none_distinct = tt

abbrev tried : List Entry → ℕ → List Move
tried es zero = []
tried es (suc k) = if is_commit (entry_at es k) then [] else tried es k ++ move_of (entry_at es k) ∷ []

abbrev known_by : (commit reject : ℕ) → ℕ
known_by commit reject = if nat_lt commit reject then reject else 0

below_known : (commit reject : ℕ) → commit < reject → 0 < known_by commit reject
below_known commit reject lt = subst (λ b. 0 < (if b then reject else 0)) (sym ((Decides-ltb commit reject).1 lt)) (omega (arith, lt))

-- of an entry that is no commit
reject_is : (q : Move) (e : Entry) → is_commit e ≡ false → rejects q e ≡ same_move q (move_of e)
reject_is q (Commit m w) is = absurd cc
reject_is q (Reject m w) is = refl

member_push : (ts : List Move) (m q : Move) (t : Bool) → same_move q m ≡ t → is_member same_move (ts ++ m ∷ []) q ≡ true → t ≡ false → is_member same_move ts q ≡ true
member_push ts m q true e h other = absurd cc
member_push ts m q false e h other = by_test (is_member same_move ts q) (sym (list_any-append (same_move q) ts (m ∷ [])) ∙ h)
  where
    by_test : (b : Bool) → (b || (same_move q m || false)) ≡ true → b ≡ true
    by_test true g = refl
    by_test false g = absurd (by_last (same_move q m) e g)
      where
        by_last : (c : Bool) → c ≡ false → (c || false) ≡ true → ⊥
        by_last true x y = absurd cc
        by_last false x y = absurd cc

tried_by : (es : List Entry) (k : ℕ) (q : Move) → (is_member same_move (tried es k) q ≡ true → 0 < known_at es k q) → (c t : Bool) → is_commit (entry_at es k) ≡ c → rejects q (entry_at es k) ≡ t
    → is_member same_move (if c then [] else tried es k ++ move_of (entry_at es k) ∷ []) q ≡ true → 0 < known_by (if c then suc k else last_commit es k) (if t then suc k else last_reject es k q)
tried_by es k q rest true t is_c is_t h = absurd cc
tried_by es k q rest false true is_c is_t h =
    below_known (last_commit es k) (suc k) (let le = last_le (λ j. is_commit (entry_at es j)) k in omega (arith, le))
tried_by es k q rest false false is_c is_t h =
    rest (member_push (tried es k) (move_of (entry_at es k)) q false (sym (reject_is q (entry_at es k) is_c) ∙ is_t) h refl)

tried_known : (es : List Entry) (k : ℕ) (q : Move) → is_member same_move (tried es k) q ≡ true → 0 < known_at es k q
tried_known es zero q h = absurd cc
tried_known es (suc k) q h = tried_by es k q (tried_known es k q) (is_commit (entry_at es k)) (rejects q (entry_at es k)) refl refl h

-- ---- the count

sizes_push : (s : List ℕ) (ms : List Move) (m : Move) → sizes_after s (ms ++ m ∷ []) ≡ after (sizes_after s ms) m
sizes_push s [] m = refl
sizes_push s (n ∷ ms) m = sizes_push (after s n) ms m

module _ (d : Design) (start : List ℕ) (budget : ℕ) (es : List Entry) (legal : IsLegal recovery d start budget es) (fit : FitSizes d start) where
  abbrev committed : ℕ → ℕ
  committed k = length (commits_of (take k es))

  record Tally (k : ℕ) : Type 0 where
    fits : FitSizes d (sizes_before start es k)
    falls : weight d (sizes_before start es k) + committed k ≤ weight d start
    distinct : IsDistinct same_move (tried es k)
    moves : (q : Move) → is_member same_move (tried es k) q ≡ true → is_move d (sizes_before start es k) q ≡ true
    few : k ≤ committed k * (move_count d + 1) + length (tried es k)

  tried_few : (k : ℕ) → Tally k → length (tried es k) ≤ move_count d
  tried_few k h =
      let s : List ℕ = sizes_before start es k in
      let le = length-le_from_is_member same_move_equiv (tried es k) (moves_at d (sizes_before start es k)) h.distinct
      (λ q member. each_move d (sizes_before start es k) (λ m. is_member same_move (moves_at d (sizes_before start es k)) m ≡ true) (All-is_member same_move_equiv (moves_at d (sizes_before start es k))) q (h.moves q member)) in
      omega (arith, le, moves_few d (sizes_before start es k) h.fits)

  record After (k : ℕ) (ts : List Move) : Type 0 where
    fits : FitSizes d (sizes_before start es (suc k))
    falls : weight d (sizes_before start es (suc k)) + committed (suc k) ≤ weight d start
    distinct : IsDistinct same_move ts
    moves : (q : Move) → is_member same_move ts q ≡ true → is_move d (sizes_before start es (suc k)) q ≡ true
    few : suc k ≤ committed (suc k) * (move_count d + 1) + length ts

  one_on : (k : ℕ) → k < length es → take (suc k) es ≡ take k es ++ entry_at es k ∷ []
  one_on k lt = let one : suc k ≡ k + 1 = omega arith in ap (λ j. take j es) one ∙ take_more es k no_entry lt

  step : (k : ℕ) → k < length es → Tally k → (c : Bool) → is_commit (entry_at es k) ≡ c → After k (if c then [] else tried es k ++ move_of (entry_at es k) ∷ [])
  step k lt h true is_c =
      let m : Move = move_of (entry_at es k) in
      let s : List ℕ = sizes_before start es k in
      let commits : commits_of (take (suc k) es) ≡ commits_of (take k es) ++ move_of (entry_at es k) ∷ [] = ap commits_of (one_on k lt) ∙ commits_push (take k es) (entry_at es k) is_c in
      let sizes : sizes_before start es (suc k) ≡ after (sizes_before start es k) (move_of (entry_at es k)) = ap (sizes_after start) commits ∙ sizes_push start (commits_of (take k es)) (move_of (entry_at es k)) in
      let count : committed (suc k) ≡ committed k + 1 = ap length commits ∙ length_push (commits_of (take k es)) (move_of (entry_at es k)) in
      let fair = fair_by_recovery d (sizes_before start es k) (move_of (entry_at es k)) (legal.judged k lt ∙ is_c) in
      let fall = weight_falls d (sizes_before start es k) (move_of (entry_at es k)) h.fits (legal.moves k lt) fair.leaks_less in
      let falls = h.falls in
      let few = h.few in
      let spread : (committed k + 1) * (move_count d + 1) ≡ committed k * (move_count d + 1) + (move_count d + 1) = grind arith in
      record {
        fits = subst (FitSizes d) (sym sizes) (after_fits d (sizes_before start es k) (move_of (entry_at es k)) (legal.moves k lt) h.fits);
        falls = omega (arith, ap (weight d) sizes, count, fall, falls);
        distinct = none_distinct;
        moves = λ q member. absurd cc;
        few = omega (arith, ap (λ n. n * (move_count d + 1)) count, spread, few, tried_few k h);
      }
  step k lt h false is_c =
      let m : Move = move_of (entry_at es k) in
      let commits : commits_of (take (suc k) es) ≡ commits_of (take k es) = ap commits_of (one_on k lt) ∙ commits_stay (take k es) (entry_at es k) is_c in
      let sizes : sizes_before start es (suc k) ≡ sizes_before start es k = ap (sizes_after start) commits in
      let falls = h.falls in
      let few = h.few in
      record {
        fits = subst (FitSizes d) (sym sizes) h.fits;
        falls = omega (arith, ap (weight d) sizes, ap length commits, falls);
        distinct = IsDistinct-push same_move_equiv (tried es k) (move_of (entry_at es k)) h.distinct (new_here k lt is_c (is_member same_move (tried es k) (move_of (entry_at es k))) refl);
        moves = λ q member. subst (λ s. is_move d s q ≡ true) (sym sizes) (moves_more k lt h q member (same_move q (move_of (entry_at es k))) refl);
        few = omega (arith, ap (λ cs. length cs * (move_count d + 1)) commits, few, length_push (tried es k) (move_of (entry_at es k)));
      }
    where
      new_here : (j : ℕ) → j < length es → is_commit (entry_at es j) ≡ false → (b : Bool) → is_member same_move (tried es j) (move_of (entry_at es j)) ≡ b → b ≡ false
      new_here j jt is_r true member = absurd (let some = tried_known es j (move_of (entry_at es j)) member in let none = legal.once j jt is_r in omega (arith, some, none))
      new_here j jt is_r false member = refl

      moves_more : (j : ℕ) → j < length es → Tally j → (q : Move) → is_member same_move (tried es j ++ move_of (entry_at es j) ∷ []) q ≡ true → (t : Bool) → same_move q (move_of (entry_at es j)) ≡ t
          → is_move d (sizes_before start es j) q ≡ true
      moves_more j jt g q member true same = subst (λ n. is_move d (sizes_before start es j) n ≡ true) (sym (move_is q (move_of (entry_at es j)) same)) (legal.moves j jt)
      moves_more j jt g q member false same = g.moves q (member_push (tried es j) (move_of (entry_at es j)) q false same member refl)

  tally : (k : ℕ) → k ≤ length es → Tally k
  tally zero le = record { fits = fit; falls = omega arith; distinct = none_distinct; moves = λ q member. absurd cc; few = omega arith }
  tally (suc k) le =
      let next = step k (omega (arith, le)) (tally k (omega (arith, le))) (is_commit (entry_at es k)) refl in
      record { fits = next.fits; falls = next.falls; distinct = next.distinct; moves = next.moves; few = next.few }

  pub few_commits : length (commits_of es) ≤ move_count d
  few_commits =
      let falls = (tally (length es) (omega arith)).falls in
      let all : committed (length es) ≡ length (commits_of es) = ap (λ xs. length (commits_of xs)) (take_all (length es) es (omega arith)) in
      omega (arith, falls, all, weight_few d start fit)

  pub few_entries : length es ≤ move_count d * (move_count d + 2)
  few_entries =
      let h = tally (length es) (omega arith) in
      let few = h.few in
      let all : committed (length es) ≡ length (commits_of es) = ap (λ xs. length (commits_of xs)) (take_all (length es) es (omega arith)) in
      let product = mul-le (committed (length es)) (move_count d + 1) (move_count d) (move_count d + 1) (omega (arith, all, few_commits)) (omega arith) in
      let spread : move_count d * (move_count d + 2) ≡ move_count d * (move_count d + 1) + move_count d = grind arith in
      omega (arith, few, tried_few (length es) h, product, spread)
