-- Recovery without further workers, round by round.

use Rattle.std.proofs.Common.{◌≡◌, ℕ, zero, suc, ◌+◌, ◌-◌, ◌<◌, ◌≤◌, ◌==◌, Bool, true, false, not, ◌&&◌, All, List, [], ◌∷◌, ◌++◌, length, slice_index, refl, sym, ◌∙◌, ap, subst, arith}
use Rattle.std.specs.Prelude.{if◌then◌else◌, nat_lt}
use Rattle.std.proofs.lemmas.Bool.{ne_eqb}
use Rattle.std.proofs.lemmas.Bool.Decides.{Decides-eqb, Decides-ltb, nat_tests}
use Rattle.std.proofs.lemmas.List.{length_push}
use Rattle.std.proofs.lemmas.List.Elements.{All-filter, All-head, All-tail, All-weaker, filter_passes}
use Rattle.gs_design.specs.declared.design.Design.{Design}
use Rattle.gs_move.specs.Alone.{after_move, after_round, after_rounds, alone_from, sweep_of}
use Rattle.gs_move.specs.Entries.{commits_of}
use Rattle.gs_move.specs.Judge.{Answers, is_fair_by}
use Rattle.gs_move.specs.Legal.{IsLegal}
use Rattle.gs_move.specs.Moves.{alt_count, is_move, moves_at}
use Rattle.gs_move.specs.Settle.{entries_after, known_at, last_moved, settle_of}
use Rattle.gs_move.specs.State.{sizes_now}
use Rattle.gs_move.specs.declared.ended.Ended.{Ended}
use Rattle.gs_move.specs.declared.ended.Ended.TheVariants.{Settled as EndSettled, Spent as EndSpent}
use Rattle.gs_move.specs.declared.entry.Entry.{Entry}
use Rattle.gs_move.specs.declared.entry.Entry.TheVariants.{Commit, Reject}
use Rattle.gs_move.specs.declared.moves.Move.{Move}
use Rattle.gs_move.specs.declared.settled.Settled.{Settled}
use Rattle.gs_move.specs.declared.settled.Settled.TheVariants.{Spent, Stale, Known, Rejected, Committed}
use Rattle.gs_move.specs.declared.site.Site.TheVariants.{Inst}
use Rattle.gs_move.proofs.LegalLaws.{fair_unknown, settled_legal}
use Rattle.gs_move.proofs.MinimumLaws.{all_moves}

-- an instance and one of its places, the present one or another
abbrev pub IsPlaced : Design → Move → Type 0
IsPlaced d m = (m.inst < length d.insts) × (m.place < alt_count d m.inst)

both : (a b : Bool) → (a && b) ≡ true → (a ≡ true) × (b ≡ true)
both true b e = (refl, e)
both false b e = absurd cc

both_true : (a b : Bool) → a ≡ true → b ≡ true → (a && b) ≡ true
both_true true b e h = h
both_true false b e h = absurd cc

not_false : (b : Bool) → not b ≡ true → b ≡ false
not_false true e = absurd cc
not_false false e = refl

false_not : (b : Bool) → b ≡ false → not b ≡ true
false_not true e = absurd cc
false_not false e = refl

module _ (d : Design) (s : List ℕ) (m : Move) where
  abbrev here : Bool
  here = m.place == slice_index s m.inst

  placed : is_move d s m ≡ true → IsPlaced d m
  placed is =
      let parts = both (nat_lt m.inst (length d.insts)) (nat_lt m.place (alt_count d m.inst) && not here) is in
      ((Decides-ltb m.inst (length d.insts)).0 parts.0, (Decides-ltb m.place (alt_count d m.inst)).0 (both (nat_lt m.place (alt_count d m.inst)) (not here) parts.1).0)

  elsewhere : is_move d s m ≡ true → here ≡ false
  elsewhere is =
      let parts = both (nat_lt m.inst (length d.insts)) (nat_lt m.place (alt_count d m.inst) && not here) is in
      not_false here (both (nat_lt m.place (alt_count d m.inst)) (not here) parts.1).1

  moves_if : IsPlaced d m → here ≡ false → is_move d s m ≡ true
  moves_if is apart =
      both_true (nat_lt m.inst (length d.insts)) (nat_lt m.place (alt_count d m.inst) && not here) ((Decides-ltb m.inst (length d.insts)).1 is.0)
      (both_true (nat_lt m.place (alt_count d m.inst)) (not here) ((Decides-ltb m.place (alt_count d m.inst)).1 is.1) (false_not here apart))

longer : (es : List Entry) (m : Move) (w : ℕ) (a : Settled) → length es ≤ length (entries_after es m w a)
longer es m w (Spent n) = omega arith
longer es m w (Stale site at') = omega arith
longer es m w (Known k) = omega arith
longer es m w (Rejected k) = omega (arith, length_push es (Reject m w))
longer es m w (Committed k) = omega (arith, length_push es (Commit m w))

module _ (J : Answers) (d : Design) (start : List ℕ) (budget : ℕ) where
  abbrev settled : List Entry → Move → Settled
  settled es m = settle_of J d start budget es m (length (commits_of es))

  abbrev move_by : List Entry → Move → (present : Bool) → List Entry
  move_by es m present = if present then es else entries_after es m 0 (settled es m)

  move_longer : (es : List Entry) (m : Move) (b : Bool) → length es ≤ length (move_by es m b)
  move_longer es m true = omega arith
  move_longer es m false = longer es m 0 (settled es m)

  move_legal : (es : List Entry) (m : Move) → IsLegal J d start budget es → IsPlaced d m → (b : Bool) → here d (sizes_now start es) m ≡ b → IsLegal J d start budget (move_by es m b)
  move_legal es m legal is true present = legal
  move_legal es m legal is false present = settled_legal J d start budget es m 0 (length (commits_of es)) legal (moves_if d (sizes_now start es) m is present)

  abbrev round_by : List Entry → Move → List Move → (full : Bool) → List Entry
  round_by es m ms full = if full then es else after_round J d start budget (after_move J d start budget es m) ms

  round_longer : (ms : List Move) (es : List Entry) → length es ≤ length (after_round J d start budget es ms)
  round_longer [] es = omega arith
  round_longer (m ∷ ms) es = by_test (length es == budget) (round_longer ms)
    where
      by_test : (full : Bool) → ((xs : List Entry) → length xs ≤ length (after_round J d start budget xs ms)) → length es ≤ length (round_by es m ms full)
      by_test true rest = omega arith
      by_test false rest =
          let one = move_longer es m (here d (sizes_now start es) m) in
          let more = rest (after_move J d start budget es m) in
          omega (arith, one, more)

  round_legal : (ms : List Move) (es : List Entry) → All (IsPlaced d) ms → IsLegal J d start budget es → IsLegal J d start budget (after_round J d start budget es ms)
  round_legal [] es all legal = legal
  round_legal (m ∷ ms) es all legal = by_test (length es == budget) (round_legal ms (after_move J d start budget es m) (All-tail (IsPlaced d) m ms all))
    where
      by_test : (full : Bool) → (IsLegal J d start budget (after_move J d start budget es m) → IsLegal J d start budget (after_round J d start budget (after_move J d start budget es m) ms))
          → IsLegal J d start budget (round_by es m ms full)
      by_test true rest = legal
      by_test false rest = rest (move_legal es m legal (All-head (IsPlaced d) m ms all) (here d (sizes_now start es) m) refl)

  -- the first move of a round is committed
  commits_by : (es : List Entry) (m : Move) (present spent stale known fair : Bool) → present ≡ false → spent ≡ false → stale ≡ false → known ≡ false → fair ≡ true
      → (if present then es else entries_after es m 0
      (if spent then Spent (length es)
      else if stale then Stale (Inst (last_moved es)) (length (commits_of es))
      else if known then Known (known_at es (length es) m)
      else if fair then Committed (length (commits_of es) + 1)
      else Rejected (length es + 1))) ≡ es ++ Commit m 0 ∷ []
  commits_by es m false false false false true p a b c f = refl
  commits_by es m true spent stale known fair p a b c f = absurd cc
  commits_by es m false true stale known fair p a b c f = absurd cc
  commits_by es m false false true known fair p a b c f = absurd cc
  commits_by es m false false false true fair p a b c f = absurd cc
  commits_by es m false false false false false p a b c f = absurd cc

  not_below : (n : ℕ) → nat_lt n n ≡ false
  not_below n = grind (arith, nat_tests)

  pub first_commits : (es : List Entry) (m : Move) → IsLegal J d start budget es → length es < budget → is_move d (sizes_now start es) m ≡ true → is_fair_by J d (sizes_now start es) m ≡ true
      → after_move J d start budget es m ≡ es ++ Commit m 0 ∷ []
  first_commits es m legal room is fair =
      commits_by es m (here d (sizes_now start es) m) (length es == budget) (nat_lt (length (commits_of es)) (length (commits_of es))) (nat_lt 0 (known_at es (length es) m)) (is_fair_by J d (sizes_now start es) m)
      (elsewhere d (sizes_now start es) m is) (ne_eqb (length es) budget (λ e. omega (arith, e, room))) (not_below (length (commits_of es)))
      (ap (λ n. nat_lt 0 n) (fair_unknown J d start budget es legal m fair) ∙ not_below 0) fair

  -- ---- the sweep

  pub swept : (es : List Entry) → All (λ m. is_move d (sizes_now start es) m ≡ true) (sweep_of J d start es)
  swept es = All-filter (is_fair_by J d (sizes_now start es)) (λ m. is_move d (sizes_now start es) m ≡ true) (moves_at d (sizes_now start es)) (all_moves d (sizes_now start es) (λ m. is_move d (sizes_now start es) m ≡ true) (λ m is. is))

  pub swept_fair : (es : List Entry) → All (λ m. is_fair_by J d (sizes_now start es) m ≡ true) (sweep_of J d start es)
  swept_fair es = filter_passes (is_fair_by J d (sizes_now start es)) (moves_at d (sizes_now start es))

  pub sweep_legal : (es : List Entry) → IsLegal J d start budget es → IsLegal J d start budget (after_round J d start budget es (sweep_of J d start es))
  sweep_legal es legal =
      round_legal (sweep_of J d start es) es
      (All-weaker (λ m. is_move d (sizes_now start es) m ≡ true) (IsPlaced d) (λ m is. placed d (sizes_now start es) m is) (sweep_of J d start es) (swept es)) legal

  grows_by : (es : List Entry) (ms : List Move) → 0 < length ms → IsLegal J d start budget es → length es < budget → All (λ m. is_move d (sizes_now start es) m ≡ true) ms
      → All (λ m. is_fair_by J d (sizes_now start es) m ≡ true) ms → length es < length (after_round J d start budget es ms)
  grows_by es [] some legal room moves fair = absurd (omega (arith, some))
  grows_by es (m ∷ ms) some legal room moves fair =
      let first = first_commits es m legal room (All-head (λ n. is_move d (sizes_now start es) n ≡ true) m ms moves) (All-head (λ n. is_fair_by J d (sizes_now start es) n ≡ true) m ms fair) in
      let more = round_longer ms (after_move J d start budget es m) in
      let one = ap length first ∙ length_push es (Commit m 0) in
      subst (λ full. length es < length (round_by es m ms full)) (sym (ne_eqb (length es) budget (λ e. omega (arith, e, room)))) (omega (arith, more, one))

  pub sweep_grows : (es : List Entry) → IsLegal J d start budget es → 0 < length (sweep_of J d start es) → length es < budget
      → length es < length (after_round J d start budget es (sweep_of J d start es))
  sweep_grows es legal some room = grows_by es (sweep_of J d start es) some legal room (swept es) (swept_fair es)

  -- ---- the rounds

  abbrev rounds_by : ℕ → List Entry → (none full : Bool) → List Entry × Ended
  rounds_by n es none full = if none then (es, EndSettled) else if full then (es, EndSpent) else after_rounds J d start budget n (after_round J d start budget es (sweep_of J d start es))

  enough_by : (n k : ℕ) (es : List Entry) (none full : Bool) → (length (sweep_of J d start es) == 0) ≡ none → (length es == budget) ≡ full
      → (none ≡ false → full ≡ false
      → after_rounds J d start budget n (after_round J d start budget es (sweep_of J d start es)) ≡ after_rounds J d start budget k (after_round J d start budget es (sweep_of J d start es)))
      → rounds_by n es none full ≡ rounds_by k es none full
  enough_by n k es true full a b rest = refl
  enough_by n k es false true a b rest = refl
  enough_by n k es false false a b rest = rest refl refl

  unequal : (x y : ℕ) → (x == y) ≡ false → x ≡ y → ⊥
  unequal x y e h = absurd (let same = (Decides-eqb x y).1 h in cc)

  some_left : (n : ℕ) → (n == 0) ≡ false → 0 < n
  some_left n e = let apart = unequal n 0 e in omega (arith, apart)

  room_left : (es : List Entry) → IsLegal J d start budget es → (length es == budget) ≡ false → length es < budget
  room_left es legal e = let few = legal.few in let apart = unequal (length es) budget e in omega (arith, few, apart)

  rounds_enough : (n k : ℕ) (es : List Entry) → IsLegal J d start budget es → budget - length es < n → budget - length es < k → after_rounds J d start budget n es ≡ after_rounds J d start budget k es
  rounds_enough zero k es legal a b = absurd (omega (arith, a))
  rounds_enough (suc n) zero es legal a b = absurd (omega (arith, b))
  rounds_enough (suc n) (suc k) es legal a b =
      enough_by n k es (length (sweep_of J d start es) == 0) (length es == budget) refl refl
      (λ some room.
      let left = room_left es legal room in
      let grown = sweep_grows es legal (some_left (length (sweep_of J d start es)) some) left in
      rounds_enough n k (after_round J d start budget es (sweep_of J d start es)) (sweep_legal es legal) (omega (arith, a, grown, left)) (omega (arith, b, grown, left)))

  pub alone_settled : (es : List Entry) → length (sweep_of J d start es) ≡ 0 → alone_from J d start budget es ≡ (es, EndSettled)
  alone_settled es none = ap (λ b. rounds_by (budget - length es) es b (length es == budget)) ((Decides-eqb (length (sweep_of J d start es)) 0).1 none)

  pub alone_spent : (es : List Entry) → 0 < length (sweep_of J d start es) → length es ≡ budget → alone_from J d start budget es ≡ (es, EndSpent)
  alone_spent es some full =
      ap (λ b. rounds_by (budget - length es) es b (length es == budget)) (ne_eqb (length (sweep_of J d start es)) 0 (λ e. omega (arith, e, some)))
      ∙ ap (λ b. rounds_by (budget - length es) es false b) ((Decides-eqb (length es) budget).1 full)

  pub alone_goes_on : (es : List Entry) → IsLegal J d start budget es → 0 < length (sweep_of J d start es) → length es < budget
      → alone_from J d start budget (after_round J d start budget es (sweep_of J d start es)) ≡ alone_from J d start budget es
  alone_goes_on es legal some room =
      let grown = sweep_grows es legal some room in
      let unfolded =
      ap (λ b. rounds_by (budget - length es) es b (length es == budget)) (ne_eqb (length (sweep_of J d start es)) 0 (λ e. omega (arith, e, some)))
      ∙ ap (λ b. rounds_by (budget - length es) es false b) (ne_eqb (length es) budget (λ e. omega (arith, e, room))) in
      rounds_enough (suc (budget - length (after_round J d start budget es (sweep_of J d start es)))) (budget - length es) (after_round J d start budget es (sweep_of J d start es)) (sweep_legal es legal)
      (omega arith) (omega (arith, grown, room))
      ∙ sym unfolded
