-- The search keeps its facts as a node is begun, as an edge is followed and as a node is done.
use Rattle.std.proofs.Common.{◌≡◌, ◌<◌, ◌≤◌, ◌+◌, ◌-◌, ◌⊎◌, ◌==◌, ◌||◌, ◌++◌, ◌∷◌, [], ℕ, Bool, true, false, List, length, take, max, get_or, set, slice_index, refl, sym, ◌∙◌, ap, inl, inr, arith}
use Rattle.std.proofs.lemmas.List.{get_or-set_same, get_or-set_other, length-set, get_or_append_left, get_or_push, get_or-take, take_more, length-append, length-take-le, take_all}
use Rattle.std.proofs.lemmas.List.Folds.{list_any-append, list_any_at}
use Rattle.std.proofs.lemmas.List.Sums.{sum_by-set, sum_by-cons}
use Rattle.std.proofs.lemmas.Bool.{cases_eq, cases_lt, eq-eqb, ne_eqb}
use Rattle.std.proofs.Math.Nat.{le-max_left, le-max_right}
use Rattle.gs_levels.specs.declared.edges.Edge.{Edge}
use Rattle.gs_levels.specs.declared.progress.Progress.{Progress}
use Rattle.gs_levels.specs.declared.progress.Progress.TheVariants.{Fresh, Open, Done}
use Rattle.gs_levels.specs.Graph.{edge_at}
use Rattle.gs_levels.specs.Incoming.{IsShortestFront}
use Rattle.gs_levels.specs.Progress.{progress_at, is_fresh, is_open, done_one, steps_ahead}
use Rattle.gs_levels.specs.Search.{IsSearch, IsReached, StaysBegun, done_count, work, awaited, has}

-- no more nodes are done than there are
pub done_count-le : (P : List Progress) → done_count P ≤ length P
done_count-le [] = omega arith
done_count-le (Fresh ∷ P) = omega (arith, sum_by-cons done_one Fresh P, done_count-le P)
done_count-le (Open left ∷ P) = omega (arith, sum_by-cons done_one (Open left) P, done_count-le P)
done_count-le (Done ∷ P) = omega (arith, sum_by-cons done_one Done P, done_count-le P)

-- what a change of one node's progress leaves
same_at : (P : List Progress) (x : ℕ) (y : Progress) → x < length P → progress_at (set P x y) x ≡ y
same_at P x y lt = get_or-set_same P x y Fresh lt

other_at : (P : List Progress) (x : ℕ) (y : Progress) (n : ℕ) → (n ≡ x → ⊥) → progress_at (set P x y) n ≡ progress_at P n
other_at P x y n ne = get_or-set_other P x n y Fresh ne

-- a test of a node after a change
at_change : (P : List Progress) (x : ℕ) (y : Progress) (n : ℕ) → x < length P → ((n ≡ x) × (progress_at (set P x y) n ≡ y)) ⊎ ((n ≡ x → ⊥) × (progress_at (set P x y) n ≡ progress_at P n))
at_change P x y n lt = by_case (cases_eq n x)
  where
    by_case : (n ≡ x) ⊎ (n ≡ x → ⊥) → ((n ≡ x) × (progress_at (set P x y) n ≡ y)) ⊎ ((n ≡ x → ⊥) × (progress_at (set P x y) n ≡ progress_at P n))
    by_case (inl e) = let h = same_at P x y lt in inl (e, rw e h)
    by_case (inr ne) = inr (ne, other_at P x y n ne)

pub has_push_old : (xs : List ℕ) (x n : ℕ) → has xs n ≡ true → has (xs ++ x ∷ []) n ≡ true
has_push_old xs x n h = rw (list_any-append (λ y. y == n) xs (x ∷ []), h) refl

pub has_push_new : (xs : List ℕ) (x n : ℕ) → n ≡ x → has (xs ++ x ∷ []) n ≡ true
has_push_new xs x n e =
    let last : get_or (xs ++ x ∷ []) (length xs) 0 ≡ x = get_or_push xs x 0 (length xs) refl in
    let inside : length xs < length (xs ++ x ∷ []) = omega (arith, length-append xs (x ∷ [])) in
    list_any_at (λ y. y == n) (xs ++ x ∷ []) (length xs) 0 inside (eq-eqb (get_or (xs ++ x ∷ []) (length xs) 0) n (last ∙ sym e))

or_false : (b : Bool) → (b || false) ≡ b
or_false true = refl
or_false false = refl

-- what a list has beside its last number stands before it
pub has_before_last : (xs : List ℕ) (n : ℕ) → 0 < length xs → (n ≡ slice_index xs (length xs - 1) → ⊥) → has xs n ≡ true → has (take (length xs - 1) xs) n ≡ true
has_before_last xs n some ne h =
    let k : ℕ = length xs - 1 in
    let more : take (k + 1) xs ≡ take k xs ++ get_or xs k 0 ∷ [] = take_more xs k 0 (omega arith) in
    let all : take (k + 1) xs ≡ xs = take_all (k + 1) xs (omega arith) in
    let whole : has (take k xs ++ get_or xs k 0 ∷ []) n ≡ true = ap (λ ys. has ys n) (sym more ∙ all) ∙ h in
    let split : has (take k xs ++ get_or xs k 0 ∷ []) n ≡ (has (take k xs) n || has (get_or xs k 0 ∷ []) n) = list_any-append (λ y. y == n) (take k xs) (get_or xs k 0 ∷ []) in
    let last : (get_or xs k 0 == n) ≡ false = ne_eqb (get_or xs k 0) n (λ e. ne (sym e)) in
    let none : has (get_or xs k 0 ∷ []) n ≡ false = rw last refl in
    sym (or_false (has (take k xs) n)) ∙ ap (λ b. has (take k xs) n || b) (sym none) ∙ sym split ∙ whole

module _ (nodes : ℕ) (edges : List Edge) (P : List Progress) (L stack : List ℕ) (S : IsSearch nodes edges P L stack) where
  -- Begins with a fresh node w, whose edges are among the first so many.
  module _ (w front : ℕ) (lt : w < nodes) (fresh : progress_at P w ≡ Fresh) (shortest : IsShortestFront edges (length edges) w front)
      (waited : (k : ℕ) → k + 1 ≡ length stack → (1 < steps_ahead (length edges) (progress_at P (slice_index stack k))) × ((awaited edges (progress_at P (slice_index stack k))).from ≡ w)) where
    abbrev P' : List Progress
    P' = set P w (Open front)

    inside : w < length P
    inside = omega (arith, S.each_progress)

    done_stays : (n : ℕ) → progress_at P n ≡ Done → progress_at P' n ≡ Done
    done_stays n d = by_case (at_change P w (Open front) n inside)
      where
        by_case : ((n ≡ w) × (progress_at P' n ≡ Open front)) ⊎ ((n ≡ w → ⊥) × (progress_at P' n ≡ progress_at P n)) → progress_at P' n ≡ Done
        by_case (inl (e, o)) = let h : progress_at P n ≡ Fresh = rw e fresh in cc
        by_case (inr (ne, same)) = same ∙ d

    done_back : (n : ℕ) → progress_at P' n ≡ Done → progress_at P n ≡ Done
    done_back n d = by_case (at_change P w (Open front) n inside)
      where
        by_case : ((n ≡ w) × (progress_at P' n ≡ Open front)) ⊎ ((n ≡ w → ⊥) × (progress_at P' n ≡ progress_at P n)) → progress_at P n ≡ Done
        by_case (inl (e, o)) = cc
        by_case (inr (ne, same)) = sym same ∙ d

    count_is : done_count P' ≡ done_count P
    count_is = omega (arith, sum_by-set done_one P w (Open front) Fresh inside, ap done_one fresh)

    front_of : (n left : ℕ) → n < nodes → progress_at P' n ≡ Open left → (left ≤ length edges) × (0 < left → (edge_at edges (left - 1)).to ≡ n)
    front_of n left ln o = by_case (at_change P w (Open front) n inside)
      where
        by_case : ((n ≡ w) × (progress_at P' n ≡ Open front)) ⊎ ((n ≡ w → ⊥) × (progress_at P' n ≡ progress_at P n)) → (left ≤ length edges) × (0 < left → (edge_at edges (left - 1)).to ≡ n)
        by_case (inl (e, here)) =
            let same : left ≡ front = cc in
            (omega (arith, shortest.within), λ some. rw (same, e) (shortest.last (omega arith)))
        by_case (inr (ne, same)) = (S.open_front n left ln (sym same ∙ o), S.open_edge n left ln (sym same ∙ o))

    followed_of : (n i : ℕ) → n < nodes → i < length edges → (edge_at edges i).to ≡ n → steps_ahead (length edges) (progress_at P' n) ≤ i + 1
        → (progress_at P' (edge_at edges i).from ≡ Done) × (slice_index L (edge_at edges i).from < slice_index L n)
    followed_of n i ln li to_n st = by_case (at_change P w (Open front) n inside)
      where
        by_case : ((n ≡ w) × (progress_at P' n ≡ Open front)) ⊎ ((n ≡ w → ⊥) × (progress_at P' n ≡ progress_at P n))
            → (progress_at P' (edge_at edges i).from ≡ Done) × (slice_index L (edge_at edges i).from < slice_index L n)
        by_case (inl (e, here)) =
            let h : front + 1 ≤ i + 1 = rw here at st in
            absurd (shortest.none_past i (omega arith) li (to_n ∙ e))
        by_case (inr (ne, same)) =
            let was = S.followed n i ln li to_n (rw same at st) in
            (done_stays (edge_at edges i).from was.0, was.1)

    reached_of : (n : ℕ) → IsReached edges P L n → IsReached edges P' L n
    reached_of n (inl zero_level) = inl zero_level
    reached_of n (inr (i, li, to_n, d, e)) = inr (i, li, to_n, done_stays (edge_at edges i).from d, e)

    on_stack_of : (n : ℕ) → n < nodes → is_open (progress_at P' n) ≡ true → has (stack ++ w ∷ []) n ≡ true
    on_stack_of n ln o = by_case (at_change P w (Open front) n inside)
      where
        by_case : ((n ≡ w) × (progress_at P' n ≡ Open front)) ⊎ ((n ≡ w → ⊥) × (progress_at P' n ≡ progress_at P n)) → has (stack ++ w ∷ []) n ≡ true
        by_case (inl (e, here)) = has_push_new stack w n e
        by_case (inr (ne, same)) = has_push_old stack w n (S.on_stack n ln (ap is_open (sym same) ∙ o))

    -- a place of the longer stack is one of the stack, or the last
    place_of : (k : ℕ) → k < length (stack ++ w ∷ []) → ((k < length stack) × (slice_index (stack ++ w ∷ []) k ≡ slice_index stack k)) ⊎ ((k ≡ length stack) × (slice_index (stack ++ w ∷ []) k ≡ w))
    place_of k lk = by_case (cases_eq k (length stack))
      where
        by_case : (k ≡ length stack) ⊎ (k ≡ length stack → ⊥) → ((k < length stack) × (slice_index (stack ++ w ∷ []) k ≡ slice_index stack k)) ⊎ ((k ≡ length stack) × (slice_index (stack ++ w ∷ []) k ≡ w))
        by_case (inl e) = inr (e, get_or_push stack w 0 k (sym e))
        by_case (inr ne) = let below : k < length stack = omega (arith, length-append stack (w ∷ [])) in inl (below, get_or_append_left stack (w ∷ []) 0 k below)

    open_of : (k : ℕ) → k < length stack → progress_at P' (slice_index stack k) ≡ progress_at P (slice_index stack k)
    open_of k lk = other_at P w (Open front) (slice_index stack k) (λ e. let h = S.stack_open k lk in let f : is_open (progress_at P (slice_index stack k)) ≡ false = rw (e, fresh) refl in cc)

    inside_of : (k : ℕ) → k < length (stack ++ w ∷ []) → slice_index (stack ++ w ∷ []) k < nodes
    inside_of k lk = by_case (place_of k lk)
      where
        by_case : ((k < length stack) × (slice_index (stack ++ w ∷ []) k ≡ slice_index stack k)) ⊎ ((k ≡ length stack) × (slice_index (stack ++ w ∷ []) k ≡ w)) → slice_index (stack ++ w ∷ []) k < nodes
        by_case (inl (below, e)) = omega (arith, S.stack_inside k below)
        by_case (inr (at_end, e)) = omega arith

    opened_of : (k : ℕ) → k < length (stack ++ w ∷ []) → is_open (progress_at P' (slice_index (stack ++ w ∷ []) k)) ≡ true
    opened_of k lk = by_case (place_of k lk)
      where
        by_case : ((k < length stack) × (slice_index (stack ++ w ∷ []) k ≡ slice_index stack k)) ⊎ ((k ≡ length stack) × (slice_index (stack ++ w ∷ []) k ≡ w)) → is_open (progress_at P' (slice_index (stack ++ w ∷ []) k)) ≡ true
        by_case (inl (below, e)) = rw (e, open_of k below) (S.stack_open k below)
        by_case (inr (at_end, e)) = rw (e, same_at P w (Open front) inside) refl

    apart_of : (j k : ℕ) → j < k → k < length (stack ++ w ∷ []) → slice_index (stack ++ w ∷ []) j ≡ slice_index (stack ++ w ∷ []) k → ⊥
    apart_of j k jk lk = by_case (place_of k lk)
      where
        below_j : j < length stack
        below_j = omega (arith, length-append stack (w ∷ []))

        left_j : slice_index (stack ++ w ∷ []) j ≡ slice_index stack j
        left_j = get_or_append_left stack (w ∷ []) 0 j below_j

        by_case : ((k < length stack) × (slice_index (stack ++ w ∷ []) k ≡ slice_index stack k)) ⊎ ((k ≡ length stack) × (slice_index (stack ++ w ∷ []) k ≡ w)) → slice_index (stack ++ w ∷ []) j ≡ slice_index (stack ++ w ∷ []) k → ⊥
        by_case (inl (below, e)) same = S.apart j k jk below (sym left_j ∙ same ∙ e)
        by_case (inr (at_end, e)) same =
            let is_w : slice_index stack j ≡ w = sym left_j ∙ same ∙ e in
            let o = S.stack_open j below_j in
            let f : is_open (progress_at P (slice_index stack j)) ≡ false = rw (is_w, fresh) refl in cc

    waits_of : (k : ℕ) → k + 1 < length (stack ++ w ∷ []) → (1 < steps_ahead (length edges) (progress_at P' (slice_index (stack ++ w ∷ []) k)))
        × ((awaited edges (progress_at P' (slice_index (stack ++ w ∷ []) k))).from ≡ slice_index (stack ++ w ∷ []) (k + 1))
    waits_of k lk = by_case (place_of (k + 1) lk)
      where
        below_k : k < length stack
        below_k = omega (arith, length-append stack (w ∷ []))

        left_k : slice_index (stack ++ w ∷ []) k ≡ slice_index stack k
        left_k = get_or_append_left stack (w ∷ []) 0 k below_k

        by_case : ((k + 1 < length stack) × (slice_index (stack ++ w ∷ []) (k + 1) ≡ slice_index stack (k + 1))) ⊎ ((k + 1 ≡ length stack) × (slice_index (stack ++ w ∷ []) (k + 1) ≡ w))
            → (1 < steps_ahead (length edges) (progress_at P' (slice_index (stack ++ w ∷ []) k))) × ((awaited edges (progress_at P' (slice_index (stack ++ w ∷ []) k))).from ≡ slice_index (stack ++ w ∷ []) (k + 1))
        by_case (inl (below, e)) = rw (left_k, e, open_of k below_k) (S.waits k below)
        by_case (inr (at_end, e)) = rw (left_k, e, open_of k below_k) (waited k at_end)

    pub begun : IsSearch nodes edges P' L (stack ++ w ∷ [])
    begun = record {
      each_progress = length-set P w (Open front) ∙ S.each_progress;
      each_level = S.each_level;
      open_front = λ n left ln o. (front_of n left ln o).0;
      open_edge = λ n left ln o. (front_of n left ln o).1;
      followed = followed_of;
      reached = λ n ln. reached_of n (S.reached n ln);
      low = λ n ln. omega (arith, S.low n ln, count_is);
      low_done = λ n ln d. omega (arith, S.low_done n ln (done_back n d), count_is);
      on_stack = on_stack_of;
      stack_inside = inside_of;
      stack_open = opened_of;
      apart = apart_of;
      waits = waits_of;
    }

    pub begun_stays : StaysBegun P P'
    begun_stays n f = by_case (at_change P w (Open front) n inside)
      where
        by_case : ((n ≡ w) × (progress_at P' n ≡ Open front)) ⊎ ((n ≡ w → ⊥) × (progress_at P' n ≡ progress_at P n)) → is_fresh (progress_at P' n) ≡ false
        by_case (inl (e, here)) = rw here refl
        by_case (inr (ne, same)) = rw same f

    pub begun_work : work (length edges) P' < work (length edges) P
    begun_work = omega (arith, sum_by-set (steps_ahead (length edges)) P w (Open front) Fresh inside, ap (steps_ahead (length edges)) fresh, shortest.within)

  -- the next edge of the last node leads into it
  pub next_into : (v p : ℕ) → 0 < length stack → v ≡ slice_index stack (length stack - 1) → progress_at P v ≡ Open (p + 1) → (edge_at edges p).to ≡ v
  next_into v p some top waiting =
      let inside : v < nodes = omega (arith, S.stack_inside (length stack - 1) (omega arith)) in
      let place : p + 1 - 1 ≡ p = omega arith in
      rw place at (S.open_edge v (p + 1) inside waiting (omega arith))

  -- The last node v of the stack waits for the edge at place p, which comes from a done node u: the edge is followed.
  module _ (v u p before : ℕ) (some : 0 < length stack) (top : v ≡ slice_index stack (length stack - 1)) (waiting : progress_at P v ≡ Open (p + 1))
      (lp : p < length edges) (to_v : (edge_at edges p).to ≡ v) (from_u : (edge_at edges p).from ≡ u) (done : progress_at P u ≡ Done)
      (u_inside : u < nodes) (shortest : IsShortestFront edges p v before) where
    abbrev Q : List Progress
    Q = set P v (Open before)

    abbrev M : List ℕ
    M = set L v (max (slice_index L v) (slice_index L u + 1))

    v_inside : v < nodes
    v_inside = omega (arith, S.stack_inside (length stack - 1) (omega arith))

    in_progress : v < length P
    in_progress = omega (arith, S.each_progress, v_inside)

    in_level : v < length L
    in_level = omega (arith, S.each_level, v_inside)

    abbrev Changed : ℕ → Type 0
    Changed n = ((n ≡ v) × (progress_at Q n ≡ Open before)) ⊎ ((n ≡ v → ⊥) × (progress_at Q n ≡ progress_at P n))

    change : (n : ℕ) → Changed n
    change n = at_change P v (Open before) n in_progress

    -- the levels after the step
    level_there : slice_index M v ≡ max (slice_index L v) (slice_index L u + 1)
    level_there = get_or-set_same L v (max (slice_index L v) (slice_index L u + 1)) 0 in_level

    level_else : (n : ℕ) → (n ≡ v → ⊥) → slice_index M n ≡ slice_index L n
    level_else n ne = get_or-set_other L v n (max (slice_index L v) (slice_index L u + 1)) 0 ne

    rises : (n : ℕ) → slice_index L n ≤ slice_index M n
    rises n = by_case (cases_eq n v)
      where
        by_case : (n ≡ v) ⊎ (n ≡ v → ⊥) → slice_index L n ≤ slice_index M n
        by_case (inl e) = rw e (omega (arith, level_there, le-max_left (slice_index L v) (slice_index L u + 1)))
        by_case (inr ne) = omega (arith, level_else n ne)

    -- a node that is done is another
    not_done : (n : ℕ) → progress_at P n ≡ Done → n ≡ v → ⊥
    not_done n d e = let h : progress_at P n ≡ Open (p + 1) = rw e waiting in cc

    done_stays' : (n : ℕ) → progress_at P n ≡ Done → (progress_at Q n ≡ Done) × (slice_index M n ≡ slice_index L n)
    done_stays' n d = (other_at P v (Open before) n (not_done n d) ∙ d, level_else n (not_done n d))

    done_back' : (n : ℕ) → progress_at Q n ≡ Done → progress_at P n ≡ Done
    done_back' n d = by_case (change n)
      where
        by_case : Changed n → progress_at P n ≡ Done
        by_case (inl (e, here)) = cc
        by_case (inr (ne, same)) = sym same ∙ d

    count_is' : done_count Q ≡ done_count P
    count_is' = omega (arith, sum_by-set done_one P v (Open before) Fresh in_progress, ap done_one waiting)

    front_of' : (n left : ℕ) → n < nodes → progress_at Q n ≡ Open left → (left ≤ length edges) × (0 < left → (edge_at edges (left - 1)).to ≡ n)
    front_of' n left ln o = by_case (change n)
      where
        by_case : Changed n → (left ≤ length edges) × (0 < left → (edge_at edges (left - 1)).to ≡ n)
        by_case (inl (e, here)) =
            let same : left ≡ before = cc in
            (omega (arith, shortest.within), λ positive. rw (same, e) (shortest.last (omega arith)))
        by_case (inr (ne, same)) = (S.open_front n left ln (sym same ∙ o), S.open_edge n left ln (sym same ∙ o))

    -- what came before the edge, the edge, and what was followed earlier
    followed_here : (i : ℕ) → i < length edges → (edge_at edges i).to ≡ v → before ≤ i
        → (progress_at P (edge_at edges i).from ≡ Done) × (slice_index L (edge_at edges i).from < slice_index M v)
    followed_here i li to_it from_before = by_order (cases_eq i p) (cases_lt i p)
      where
        by_order : (i ≡ p) ⊎ (i ≡ p → ⊥) → (i < p) ⊎ (p ≤ i)
            → (progress_at P (edge_at edges i).from ≡ Done) × (slice_index L (edge_at edges i).from < slice_index M v)
        by_order (inl e) any =
            let source : (edge_at edges i).from ≡ u = rw e from_u in
            let higher : slice_index L u < slice_index M v = omega (arith, level_there, le-max_right (slice_index L v) (slice_index L u + 1)) in
            (rw source done, rw source higher)
        by_order (inr ne) (inl earlier) = absurd (shortest.none_past i from_before earlier to_it)
        by_order (inr ne) (inr later) =
            let st : steps_ahead (length edges) (progress_at P v) ≤ i + 1 = rw waiting (omega arith) in
            let was = S.followed v i v_inside li to_it st in
            let low : slice_index L (edge_at edges i).from < slice_index L v = was.1 in
            (was.0, omega (arith, rises v))

    followed_of' : (n i : ℕ) → n < nodes → i < length edges → (edge_at edges i).to ≡ n → steps_ahead (length edges) (progress_at Q n) ≤ i + 1
        → (progress_at Q (edge_at edges i).from ≡ Done) × (slice_index M (edge_at edges i).from < slice_index M n)
    followed_of' n i ln li to_n st = by_case (change n)
      where
        by_case : Changed n → (progress_at Q (edge_at edges i).from ≡ Done) × (slice_index M (edge_at edges i).from < slice_index M n)
        by_case (inl (e, here)) =
            let few : before + 1 ≤ i + 1 = rw here at st in
            let was = followed_here i li (to_n ∙ e) (omega arith) in
            let stays = done_stays' (edge_at edges i).from was.0 in
            (stays.0, rw (stays.1, e) was.1)
        by_case (inr (ne, same)) =
            let was = S.followed n i ln li to_n (rw same at st) in
            let stays = done_stays' (edge_at edges i).from was.0 in
            (stays.0, rw (stays.1, level_else n ne) was.1)

    reached_else : (n : ℕ) → slice_index M n ≡ slice_index L n → IsReached edges P L n → IsReached edges Q M n
    reached_else n same (inl zero_level) = inl (same ∙ zero_level)
    reached_else n same (inr (i, li, to_n, d, e)) =
        let stays = done_stays' (edge_at edges i).from d in
        inr (i, li, to_n, stays.0, same ∙ e ∙ ap (λ k. k + 1) (sym stays.1))

    reached_there : IsReached edges Q M v
    reached_there = by_order (cases_lt (slice_index L v) (slice_index L u + 1))
      where
        by_order : (slice_index L v < slice_index L u + 1) ⊎ (slice_index L u + 1 ≤ slice_index L v) → IsReached edges Q M v
        by_order (inl lower) =
            let stays = done_stays' u done in
            let now : slice_index M v ≡ slice_index L u + 1 = omega (arith, level_there) in
            inr (p, lp, to_v, rw from_u stays.0, rw from_u (now ∙ ap (λ k. k + 1) (sym stays.1)))
        by_order (inr higher) = reached_else v (omega (arith, level_there)) (S.reached v v_inside)

    reached_of' : (n : ℕ) → n < nodes → IsReached edges Q M n
    reached_of' n ln = by_case (cases_eq n v)
      where
        by_case : (n ≡ v) ⊎ (n ≡ v → ⊥) → IsReached edges Q M n
        by_case (inl e) = rw e reached_there
        by_case (inr ne) = reached_else n (level_else n ne) (S.reached n ln)

    low_of' : (n : ℕ) → n < nodes → slice_index M n ≤ done_count Q
    low_of' n ln = by_case (cases_eq n v)
      where
        by_case : (n ≡ v) ⊎ (n ≡ v → ⊥) → slice_index M n ≤ done_count Q
        by_case (inl e) = rw e (omega (arith, level_there, S.low v v_inside, S.low_done u u_inside done, count_is'))
        by_case (inr ne) = omega (arith, level_else n ne, S.low n ln, count_is')

    open_stays : (n : ℕ) → is_open (progress_at Q n) ≡ is_open (progress_at P n)
    open_stays n = by_case (change n)
      where
        by_case : Changed n → is_open (progress_at Q n) ≡ is_open (progress_at P n)
        by_case (inl (e, here)) = rw (here, e, waiting) refl
        by_case (inr (ne, same)) = ap is_open same

    waits_of' : (k : ℕ) → k + 1 < length stack → (1 < steps_ahead (length edges) (progress_at Q (slice_index stack k)))
        × ((awaited edges (progress_at Q (slice_index stack k))).from ≡ slice_index stack (k + 1))
    waits_of' k lk =
        let other : progress_at Q (slice_index stack k) ≡ progress_at P (slice_index stack k) =
        other_at P v (Open before) (slice_index stack k) (λ e. S.apart k (length stack - 1) (omega arith) (omega arith) (e ∙ top)) in
        rw other (S.waits k lk)

    pub followed_on : IsSearch nodes edges Q M stack
    followed_on = record {
      each_progress = length-set P v (Open before) ∙ S.each_progress;
      each_level = length-set L v (max (slice_index L v) (slice_index L u + 1)) ∙ S.each_level;
      open_front = λ n left ln o. (front_of' n left ln o).0;
      open_edge = λ n left ln o. (front_of' n left ln o).1;
      followed = followed_of';
      reached = reached_of';
      low = low_of';
      low_done = λ n ln d. omega (arith, (done_stays' n (done_back' n d)).1, S.low_done n ln (done_back' n d), count_is');
      on_stack = λ n ln o. S.on_stack n ln (sym (open_stays n) ∙ o);
      stack_inside = S.stack_inside;
      stack_open = λ k lk. open_stays (slice_index stack k) ∙ S.stack_open k lk;
      apart = S.apart;
      waits = waits_of';
    }

    pub followed_stays : StaysBegun P Q
    followed_stays n f = by_case (change n)
      where
        by_case : Changed n → is_fresh (progress_at Q n) ≡ false
        by_case (inl (e, here)) = rw here refl
        by_case (inr (ne, same)) = rw same f

    pub followed_work : work (length edges) Q < work (length edges) P
    followed_work = omega (arith, sum_by-set (steps_ahead (length edges)) P v (Open before) Fresh in_progress, ap (steps_ahead (length edges)) waiting, shortest.within)

    pub room : slice_index L u + 1 ≤ nodes
    room = omega (arith, S.low_done u u_inside done, done_count-le P, S.each_progress)

  -- The last node v of the stack has no edge ahead: it is done.
  module _ (v : ℕ) (some : 0 < length stack) (top : v ≡ slice_index stack (length stack - 1)) (spent : progress_at P v ≡ Open 0) where
    abbrev R : List Progress
    R = set P v Done

    abbrev rest : List ℕ
    rest = take (length stack - 1) stack

    v_within : v < nodes
    v_within = omega (arith, S.stack_inside (length stack - 1) (omega arith))

    at_v : v < length P
    at_v = omega (arith, S.each_progress, v_within)

    abbrev Ended : ℕ → Type 0
    Ended n = ((n ≡ v) × (progress_at R n ≡ Done)) ⊎ ((n ≡ v → ⊥) × (progress_at R n ≡ progress_at P n))

    ending : (n : ℕ) → Ended n
    ending n = at_change P v Done n at_v

    stays_done : (n : ℕ) → progress_at P n ≡ Done → progress_at R n ≡ Done
    stays_done n d = by_case (ending n)
      where
        by_case : Ended n → progress_at R n ≡ Done
        by_case (inl (e, here)) = here
        by_case (inr (ne, same)) = same ∙ d

    one_more : done_count R ≡ done_count P + 1
    one_more = omega (arith, sum_by-set done_one P v Done Fresh at_v, ap done_one spent)

    -- an open node is another than v, and was open
    was_open : (n : ℕ) → is_open (progress_at R n) ≡ true → (n ≡ v → ⊥) × (progress_at R n ≡ progress_at P n)
    was_open n o = by_case (ending n)
      where
        by_case : Ended n → (n ≡ v → ⊥) × (progress_at R n ≡ progress_at P n)
        by_case (inl (e, here)) = let f : is_open (progress_at R n) ≡ false = rw here refl in cc
        by_case (inr both) = both

    open_else : (n left : ℕ) → progress_at R n ≡ Open left → progress_at P n ≡ Open left
    open_else n left o = sym (was_open n (rw o refl)).1 ∙ o

    followed_still : (n i : ℕ) → n < nodes → i < length edges → (edge_at edges i).to ≡ n → steps_ahead (length edges) (progress_at R n) ≤ i + 1
        → (progress_at R (edge_at edges i).from ≡ Done) × (slice_index L (edge_at edges i).from < slice_index L n)
    followed_still n i ln li to_n st = by_case (ending n)
      where
        was : steps_ahead (length edges) (progress_at P n) ≤ i + 1 → (progress_at R (edge_at edges i).from ≡ Done) × (slice_index L (edge_at edges i).from < slice_index L n)
        was few = let h = S.followed n i ln li to_n few in (stays_done (edge_at edges i).from h.0, h.1)

        by_case : Ended n → (progress_at R (edge_at edges i).from ≡ Done) × (slice_index L (edge_at edges i).from < slice_index L n)
        by_case (inl (e, here)) = was (rw (e, spent) (omega arith))
        by_case (inr (ne, same)) = was (rw same at st)

    reached_still : (n : ℕ) → IsReached edges P L n → IsReached edges R L n
    reached_still n (inl zero_level) = inl zero_level
    reached_still n (inr (i, li, to_n, d, e)) = inr (i, li, to_n, stays_done (edge_at edges i).from d, e)

    low_done_still : (n : ℕ) → n < nodes → progress_at R n ≡ Done → slice_index L n < done_count R
    low_done_still n ln d = omega (arith, S.low n ln, one_more)

    length_rest : length rest ≡ length stack - 1
    length_rest = length-take-le (length stack - 1) stack (omega arith)

    at_rest : (k : ℕ) → k < length rest → slice_index rest k ≡ slice_index stack k
    at_rest k lk = get_or-take (length stack - 1) stack k 0 (omega (arith, length_rest))

    other_still : (k : ℕ) → k < length rest → progress_at R (slice_index stack k) ≡ progress_at P (slice_index stack k)
    other_still k lk = other_at P v Done (slice_index stack k) (λ e. S.apart k (length stack - 1) (omega (arith, length_rest)) (omega arith) (e ∙ top))

    pub finished : IsSearch nodes edges R L rest
    finished = record {
      each_progress = length-set P v Done ∙ S.each_progress;
      each_level = S.each_level;
      open_front = λ n left ln o. S.open_front n left ln (open_else n left o);
      open_edge = λ n left ln o. S.open_edge n left ln (open_else n left o);
      followed = followed_still;
      reached = λ n ln. reached_still n (S.reached n ln);
      low = λ n ln. omega (arith, S.low n ln, one_more);
      low_done = low_done_still;
      on_stack = λ n ln o. has_before_last stack n some (λ e. (was_open n o).0 (e ∙ sym top)) (S.on_stack n ln (ap is_open (sym (was_open n o).1) ∙ o));
      stack_inside = λ k lk. rw (at_rest k lk) (S.stack_inside k (omega (arith, length_rest)));
      stack_open = λ k lk. rw (at_rest k lk, other_still k lk) (S.stack_open k (omega (arith, length_rest)));
      apart = λ j k jk lk. let below : j < length rest = omega arith in rw (at_rest j below, at_rest k lk) (S.apart j k jk (omega (arith, length_rest)));
      waits = λ k lk. let below : k < length rest = omega arith in rw (at_rest k below, at_rest (k + 1) lk, other_still k below) (S.waits k (omega (arith, length_rest)));
    }

    pub finished_stays : StaysBegun P R
    finished_stays n f = by_case (ending n)
      where
        by_case : Ended n → is_fresh (progress_at R n) ≡ false
        by_case (inl (e, here)) = rw here refl
        by_case (inr (ne, same)) = rw same f

    pub finished_work : work (length edges) R < work (length edges) P
    finished_work = omega (arith, sum_by-set (steps_ahead (length edges)) P v Done Fresh at_v, ap (steps_ahead (length edges)) spent)

-- a node that is fresh
pub is_fresh-true : (p : Progress) → is_fresh p ≡ true → p ≡ Fresh
is_fresh-true Fresh h = refl
is_fresh-true (Open left) h = cc
is_fresh-true Done h = cc

-- a node that was just begun isn't fresh
pub root_begun : (P : List Progress) (x front : ℕ) → x < length P → is_fresh (progress_at (set P x (Open front)) x) ≡ false
root_begun P x front lt = let here = same_at P x (Open front) lt in rw here refl
