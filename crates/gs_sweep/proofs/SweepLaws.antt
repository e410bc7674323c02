-- The Fair moves of one place more, and of one instance more; and that each is a move.

use Rattle.std.proofs.Common.{◌≡◌, ℕ, ◌+◌, ◌<◌, ◌==◌, Bool, true, false, not, ◌&&◌, All, List, [], ◌∷◌, ◌++◌, filter, flat_map, map, get_or, length, cond, slice_index, sym, ◌∙◌, ap, subst, arith}
use Rattle.std.specs.Prelude.{nat_lt}
use Rattle.std.specs.List.{range_with_len}
use Rattle.std.proofs.lemmas.Bool.{ne_eqb}
use Rattle.std.proofs.lemmas.Bool.Decides.{Decides-eqb, Decides-ltb}
use Rattle.std.proofs.lemmas.Grind.{flat_map-append}
use Rattle.std.proofs.lemmas.List.{append-nil, map-append, map-id}
use Rattle.std.proofs.lemmas.List.Elements.{All-append, All-filter, All-head, All-map, All-nil, All-tail, filter-append, filter_passes}
use Rattle.std.proofs.lemmas.List.FromFn.{get_or-range_with_len, length-range_with_len, map-range_with_len_more}
use Rattle.gs_design.specs.declared.design.Design.{Design}
use Rattle.gs_move.specs.Judge.{Answers, fair_moves, is_fair_by}
use Rattle.gs_move.specs.Moves.{alt_count, is_move, moves_at, moves_of_inst}
use Rattle.gs_move.specs.declared.moves.Move.{Move}
use Rattle.gs_sweep.specs.Inst.{fair_of_inst}
use Rattle.gs_sweep.proofs.ListLaws.{filter_flat_map, flat_map_by}

range_more : (n : ℕ) → range_with_len 0 (n + 1) ≡ range_with_len 0 n ++ n ∷ []
range_more n =
    sym (map-id (range_with_len 0 (n + 1))) ∙ map-range_with_len_more (λ (k : ℕ). k) 0 n n (omega arith) ∙ ap (λ ks. ks ++ n ∷ []) (map-id (range_with_len 0 n))

-- of the numbers below a count
all_below : (P : ℕ → Type 0) (n : ℕ) → ((k : ℕ) → k < n → P k) → All P (range_with_len 0 n)
all_below P n h k d lt =
    let k_in : k < n = omega (arith, lt, length-range_with_len 0 n) in
    subst P (sym (omega (arith, get_or-range_with_len 0 n k d k_in))) (h k k_in)

both_true : (a b : Bool) → a ≡ true → b ≡ true → (a && b) ≡ true
both_true true b e h = h
both_true false b e h = absurd cc

apart_by : (m n : ℕ) → not (m == n) ≡ true → m ≡ n → ⊥
apart_by m n e same = let equal = (Decides-eqb m n).1 same in absurd cc

all_in_flat : {X Y : Type 0} (P : X → Type 0) (f : Y → List X) (ys : List Y) → All (λ y. All P (f y)) ys → All P (flat_map f ys)
all_in_flat P f [] h = All-nil P
all_in_flat P f (y ∷ ys) h = All-append P (f y) (flat_map f ys) (All-head (λ z. All P (f z)) y ys h) (all_in_flat P f ys (All-tail (λ z. All P (f z)) y ys h))

abbrev pub to : ℕ → ℕ → Move
to g p = record { inst = g; place = p }

module _ (J : Answers) (d : Design) (s : List ℕ) where
  -- ---- the places of one instance below a place

  abbrev elsewhere : ℕ → ℕ → Bool
  elsewhere g p = not (p == slice_index s g)

  abbrev pub fair_below : ℕ → ℕ → List Move
  fair_below g count = filter (is_fair_by J d s) (map (to g) (filter (elsewhere g) (range_with_len 0 count)))

  place_more : (g p : ℕ) (b : Bool) → elsewhere g p ≡ b → fair_below g (p + 1) ≡ fair_below g p ++ filter (is_fair_by J d s) (map (to g) (cond b (p ∷ []) []))
  place_more g p b is =
      ap (λ ps. filter (is_fair_by J d s) (map (to g) (filter (elsewhere g) ps))) (range_more p)
      ∙ ap (λ ps. filter (is_fair_by J d s) (map (to g) ps))
      (filter-append (elsewhere g) (range_with_len 0 p) (p ∷ []) ∙ ap (λ c. filter (elsewhere g) (range_with_len 0 p) ++ cond c (p ∷ []) []) is)
      ∙ ap (filter (is_fair_by J d s)) (map-append (to g) (filter (elsewhere g) (range_with_len 0 p)) (cond b (p ∷ []) []))
      ∙ filter-append (is_fair_by J d s) (map (to g) (filter (elsewhere g) (range_with_len 0 p))) (map (to g) (cond b (p ∷ []) []))

  pub place_present : (g p : ℕ) → p ≡ slice_index s g → fair_below g (p + 1) ≡ fair_below g p
  place_present g p here = place_more g p false (ap not ((Decides-eqb p (slice_index s g)).1 here)) ∙ append-nil (fair_below g p)

  place_other : (g p : ℕ) (b : Bool) → (p ≡ slice_index s g → ⊥) → is_fair_by J d s (to g p) ≡ b → fair_below g (p + 1) ≡ fair_below g p ++ cond b (to g p ∷ []) []
  place_other g p b apart is =
      place_more g p true (ap not (ne_eqb p (slice_index s g) apart)) ∙ ap (λ c. fair_below g p ++ cond c (to g p ∷ []) []) is

  pub place_unfair : (g p : ℕ) → (p ≡ slice_index s g → ⊥) → is_fair_by J d s (to g p) ≡ false → fair_below g (p + 1) ≡ fair_below g p
  place_unfair g p apart unfair = place_other g p false apart unfair ∙ append-nil (fair_below g p)

  pub place_fair : (g p : ℕ) → (p ≡ slice_index s g → ⊥) → is_fair_by J d s (to g p) ≡ true → fair_below g (p + 1) ≡ fair_below g p ++ to g p ∷ []
  place_fair g p apart fair = place_other g p true apart fair

  -- ---- the lists of all instances

  pub all_fair : {L : Type 0} (items : L → List Move) (lists : List L) → map items lists ≡ map (fair_of_inst J d s) (range_with_len 0 (length d.insts)) → flat_map items lists ≡ fair_moves J d s
  all_fair items lists is =
      flat_map_by items (fair_of_inst J d s) lists (range_with_len 0 (length d.insts)) is
      ∙ filter_flat_map (is_fair_by J d s) (moves_of_inst d s) (range_with_len 0 (length d.insts))

  -- ---- each is a move

  pub is_one : (g p : ℕ) → g < length d.insts → p < alt_count d g → (p ≡ slice_index s g → ⊥) → is_move d s (to g p) ≡ true
  is_one g p g_in p_in apart =
      both_true (nat_lt g (length d.insts)) (nat_lt p (alt_count d g) && elsewhere g p) ((Decides-ltb g (length d.insts)).1 g_in)
      (both_true (nat_lt p (alt_count d g)) (elsewhere g p) ((Decides-ltb p (alt_count d g)).1 p_in) (ap not (ne_eqb p (slice_index s g) apart)))

  abbrev IsOne : Move → Type 0
  IsOne m = is_move d s m ≡ true

  of_inst : (g : ℕ) → g < length d.insts → All IsOne (moves_of_inst d s g)
  of_inst g g_in =
      let places = filter (elsewhere g) (range_with_len 0 (alt_count d g)) in
      let below : All (λ p. p < alt_count d g) places =
      All-filter (elsewhere g) (λ p. p < alt_count d g) (range_with_len 0 (alt_count d g)) (all_below (λ p. p < alt_count d g) (alt_count d g) (λ p lt. lt)) in
      let apart : All (λ p. elsewhere g p ≡ true) places = filter_passes (elsewhere g) (range_with_len 0 (alt_count d g)) in
      All-map IsOne (to g) places (λ k e lt. is_one g (get_or places k e) g_in (below k e lt) (apart_by (get_or places k e) (slice_index s g) (apart k e lt)))

  pub each_is_one : All IsOne (fair_moves J d s)
  each_is_one =
      All-filter (is_fair_by J d s) IsOne (moves_at d s)
      (all_in_flat IsOne (moves_of_inst d s) (range_with_len 0 (length d.insts)) (all_below (λ g. All IsOne (moves_of_inst d s g)) (length d.insts) of_inst))
