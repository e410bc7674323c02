-- All moves are in the list of moves, so sizes are a minimum exactly where no move of the list is Fair.

use Rattle.std.proofs.Common.{◌≡◌, ℕ, ◌==◌, Bool, true, false, not, ◌&&◌, All, List, [], ◌∷◌, filter, flat_map, length, slice_index, refl, sym, subst}
use Rattle.std.specs.Prelude.{nat_lt}
use Rattle.std.specs.List.{range_with_len}
use Rattle.std.proofs.lemmas.Bool.Decides.{Decides-ltb}
use Rattle.std.proofs.lemmas.List.{nil_from_length}
use Rattle.std.proofs.lemmas.List.Elements.{All-append, All-cons, All-head, All-map, All-nil, All-tail}
use Rattle.gs_design.specs.declared.design.Design.{Design}
use Rattle.gs_move.specs.Judge.{Answers, fair_moves, is_fair_by}
use Rattle.gs_move.specs.Minimum.{IsMinimum, IsMinimumBy}
use Rattle.gs_move.specs.Moves.{alt_count, is_move, moves_at, moves_of_inst}
use Rattle.gs_move.specs.Recovery.{recovery}
use Rattle.gs_move.specs.declared.moves.Move.{Move}
use Rattle.gs_move.proofs.FairLaws.{fair_by_recovery, recovery_by_fair}
use Rattle.gs_move.proofs.Lists.{all_below, all_in_filter, all_left, all_of_filter, all_of_map, all_right, below_all}

all_of_flat : {X Y : Type 0} (P : X → Type 0) (f : Y → List X) (ys : List Y) → All P (flat_map f ys) → All (λ y. All P (f y)) ys
all_of_flat P f [] h = All-nil (λ y. All P (f y))
all_of_flat P f (y ∷ ys) h = All-cons (λ z. All P (f z)) y ys (all_left P (f y) (flat_map f ys) h) (all_of_flat P f ys (all_right P (f y) (flat_map f ys) h))

all_in_flat : {X Y : Type 0} (P : X → Type 0) (f : Y → List X) (ys : List Y) → All (λ y. All P (f y)) ys → All P (flat_map f ys)
all_in_flat P f [] h = All-nil P
all_in_flat P f (y ∷ ys) h = All-append P (f y) (flat_map f ys) (All-head (λ z. All P (f z)) y ys h) (all_in_flat P f ys (All-tail (λ z. All P (f z)) y ys h))

both : (a b : Bool) → (a && b) ≡ true → (a ≡ true) × (b ≡ true)
both true b e = (refl, e)
both false b e = absurd cc

both_true : (a b : Bool) → a ≡ true → b ≡ true → (a && b) ≡ true
both_true true b e h = h
both_true false b e h = absurd cc

module _ (d : Design) (s : List ℕ) (P : Move → Type 0) where
  pub each_move : All P (moves_at d s) → (m : Move) → is_move d s m ≡ true → P m
  each_move h m is =
      let parts = both (nat_lt m.inst (length d.insts)) (nat_lt m.place (alt_count d m.inst) && not (m.place == slice_index s m.inst)) is in
      let rest = both (nat_lt m.place (alt_count d m.inst)) (not (m.place == slice_index s m.inst)) parts.1 in
      let of_inst : All P (moves_of_inst d s m.inst) =
      below_all (λ g. All P (moves_of_inst d s g)) (length d.insts) (all_of_flat P (moves_of_inst d s) (range_with_len 0 (length d.insts)) h) m.inst ((Decides-ltb m.inst (length d.insts)).0 parts.0) in
      below_all (λ p. not (p == slice_index s m.inst) ≡ true → P (record { inst = m.inst; place = p })) (alt_count d m.inst)
      (all_of_filter (λ p. P (record { inst = m.inst; place = p })) (λ p. not (p == slice_index s m.inst)) (range_with_len 0 (alt_count d m.inst))
      (all_of_map P (λ p. record { inst = m.inst; place = p }) (filter (λ p. not (p == slice_index s m.inst)) (range_with_len 0 (alt_count d m.inst))) of_inst))
      m.place ((Decides-ltb m.place (alt_count d m.inst)).0 rest.0) rest.1

  pub all_moves : ((m : Move) → is_move d s m ≡ true → P m) → All P (moves_at d s)
  all_moves h =
      all_in_flat P (moves_of_inst d s) (range_with_len 0 (length d.insts))
      (all_below (λ g. All P (moves_of_inst d s g)) (length d.insts)
      (λ g g_in.
      All-map P (λ p. record { inst = g; place = p }) (filter (λ p. not (p == slice_index s g)) (range_with_len 0 (alt_count d g)))
      (all_in_filter (λ p. P (record { inst = g; place = p })) (λ p. not (p == slice_index s g)) (range_with_len 0 (alt_count d g))
      (all_below (λ p. not (p == slice_index s g) ≡ true → P (record { inst = g; place = p })) (alt_count d g)
      (λ p p_in apart.
      h (record { inst = g; place = p })
      (both_true (nat_lt g (length d.insts)) (nat_lt p (alt_count d g) && not (p == slice_index s g)) ((Decides-ltb g (length d.insts)).1 g_in)
      (both_true (nat_lt p (alt_count d g)) (not (p == slice_index s g)) ((Decides-ltb p (alt_count d g)).1 p_in) apart)))))))

not_true : (b : Bool) → (b ≡ true → ⊥) → b ≡ false
not_true true h = absurd (h refl)
not_true false h = refl

none_left : {X : Type 0} (xs : List X) → All (λ x. ⊥) xs → length xs ≡ 0
none_left [] h = refl
none_left (x ∷ xs) h = absurd (All-head (λ y. ⊥) x xs h)

module _ (J : Answers) (d : Design) (s : List ℕ) where
  pub minimum_of_none : length (fair_moves J d s) ≡ 0 → IsMinimumBy J d s
  minimum_of_none none m is =
      not_true (is_fair_by J d s m)
      (each_move d s (λ n. is_fair_by J d s n ≡ true → ⊥)
      (all_of_filter (λ n. ⊥) (is_fair_by J d s) (moves_at d s) (subst (All (λ n. ⊥)) (sym (nil_from_length (fair_moves J d s) none)) (All-nil (λ n. ⊥)))) m is)

  pub none_of_minimum : IsMinimumBy J d s → length (fair_moves J d s) ≡ 0
  none_of_minimum h =
      none_left (fair_moves J d s)
      (all_in_filter (λ n. ⊥) (is_fair_by J d s) (moves_at d s)
      (all_moves d s (λ n. is_fair_by J d s n ≡ true → ⊥) (λ m is fair. absurd (let unfair = h m is in cc))))

module _ (d : Design) (s : List ℕ) where
  pub minimum_by_recovery : IsMinimumBy recovery d s → IsMinimum d s
  minimum_by_recovery h m is fair = absurd (let unfair = h m is in let taken = recovery_by_fair d s m fair in cc)

  pub recovery_by_minimum : IsMinimum d s → IsMinimumBy recovery d s
  recovery_by_minimum h m is = not_true (is_fair_by recovery d s m) (λ taken. h m is (fair_by_recovery d s m taken))
