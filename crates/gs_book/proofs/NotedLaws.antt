-- The last entry that passes a test, over one more entry; and where the number of each move stands.

use Rattle.std.proofs.Common.{◌≡◌, ℕ, zero, suc, ◌+◌, ◌-◌, ◌<◌, ◌≤◌, ◌==◌, Bool, true, ◌&&◌, ◌⊎◌, inl, inr, List, [], ◌∷◌, ◌++◌, take, length, refl, sym, ◌∙◌, ap, subst, arith}
use Rattle.std.specs.Prelude.{if◌then◌else◌, sum_by}
use Rattle.std.proofs.lemmas.Bool.{cases_order}
use Rattle.std.proofs.lemmas.Bool.Decides.{Decides-eqb}
use Rattle.std.proofs.lemmas.List.{get_or_append_left, get_or_at, length_push, take_more}
use Rattle.std.proofs.lemmas.List.Sums.{sum_by-append, sum_by-cons}
use Rattle.gs_book.specs.Noted.{AreStartsOf, Noted, alts_before, spot_of}
use Rattle.gs_design.specs.Insts.{Inst, inst_at, no_inst}
use Rattle.gs_design.specs.declared.design.Design.{Design}
use Rattle.gs_move.specs.Entries.{IsMoveOf}
use Rattle.gs_move.specs.Settle.{entry_at, last_where, no_entry, same_move}
use Rattle.gs_move.specs.declared.entry.Entry.{Entry}
use Rattle.gs_move.specs.declared.moves.Move.{Move}

last_same : (p q : ℕ → Bool) (n : ℕ) → ((k : ℕ) → k < n → p k ≡ q k) → last_where p n ≡ last_where q n
last_same p q zero h = refl
last_same p q (suc n) h =
    ap (λ b. if b then suc n else last_where p n) (h n (omega arith))
    ∙ ap (λ k. if q n then suc n else k) (last_same p q n (λ k lt. h k (omega (arith, lt))))

one_more : (es : List Entry) (e : Entry) → length (es ++ e ∷ []) ≡ suc (length es)
one_more es e = length_push es e ∙ omega arith

-- one more entry: it is the last that passes a test where it does
pub last_push : (p : Entry → Bool) (es : List Entry) (e : Entry)
    → last_where (λ k. p (entry_at (es ++ e ∷ []) k)) (length (es ++ e ∷ [])) ≡ (if p e then suc (length es) else last_where (λ k. p (entry_at es k)) (length es))
last_push p es e =
    ap (λ n. last_where (λ k. p (entry_at (es ++ e ∷ []) k)) n) (one_more es e)
    ∙ ap (λ x. if p x then suc (length es) else last_where (λ k. p (entry_at (es ++ e ∷ []) k)) (length es)) (get_or_at es e [] no_entry (length es) refl)
    ∙ ap (λ k. if p e then suc (length es) else k)
    (last_same (λ k. p (entry_at (es ++ e ∷ []) k)) (λ k. p (entry_at es k)) (length es) (λ k lt. ap p (get_or_append_left es (e ∷ []) no_entry k lt)))

-- ---- where numbers stand

pub alts_more : (insts : List Inst) (g : ℕ) → g < length insts → alts_before insts (g + 1) ≡ alts_before insts g + length (inst_at insts g).alts
alts_more insts g lt =
    ap (sum_by (λ i. length i.alts)) (take_more insts g no_inst lt)
    ∙ sum_by-append (λ i. length i.alts) (take g insts) (inst_at insts g ∷ [])
    ∙ ap (λ n. alts_before insts g + n) (sum_by-cons (λ i. length i.alts) (inst_at insts g) [])
    ∙ omega arith

alts_le : (insts : List Inst) (g k : ℕ) → g + k ≤ length insts → alts_before insts g ≤ alts_before insts (g + k)
alts_le insts g zero le = subst (λ j. alts_before insts g ≤ alts_before insts j) (plus_zero g) (omega arith)
  where
    plus_zero : (n : ℕ) → n ≡ n + 0
    plus_zero n = omega arith
alts_le insts g (suc k) le =
    let before : alts_before insts g ≤ alts_before insts (g + k) = alts_le insts g k (omega (arith, le)) in
    let one : alts_before insts (g + k + 1) ≡ alts_before insts (g + k) + length (inst_at insts (g + k)).alts = alts_more insts (g + k) (omega (arith, le)) in
    subst (λ j. alts_before insts g ≤ alts_before insts j) (next g k) (omega (arith, before, one))
  where
    next : (a b : ℕ) → a + b + 1 ≡ a + suc b
    next a b = omega arith

alts_up_to : (insts : List Inst) (g h : ℕ) → g ≤ h → h ≤ length insts → alts_before insts g ≤ alts_before insts h
alts_up_to insts g h le in_list =
    let whole : g + (h - g) ≡ h = omega (arith, le) in
    subst (λ j. alts_before insts g ≤ alts_before insts j) whole (alts_le insts g (h - g) (omega (arith, le, in_list)))

module _ (d : Design) (x : Noted) (places : AreStartsOf d.insts x) where
  spot_is : (m : Move) → IsMoveOf d m → spot_of x.starts m ≡ alts_before d.insts m.inst + m.place
  spot_is m h = ap (λ n. n + m.place) (places.begin m.inst h.inst_in)

  spot_below : (m : Move) → IsMoveOf d m → spot_of x.starts m < alts_before d.insts (m.inst + 1)
  spot_below m h =
      let is : spot_of x.starts m ≡ alts_before d.insts m.inst + m.place = spot_is m h in
      let more : alts_before d.insts (m.inst + 1) ≡ alts_before d.insts m.inst + length (inst_at d.insts m.inst).alts = alts_more d.insts m.inst h.inst_in in
      let inside : m.place < length (inst_at d.insts m.inst).alts = h.place_in in
      omega (arith, is, more, inside)

  -- the number of a move stands among the numbers
  pub spot_in : (m : Move) → IsMoveOf d m → spot_of x.starts m < length x.numbers
  spot_in m h =
      let below : spot_of x.starts m < alts_before d.insts (m.inst + 1) = spot_below m h in
      let up : alts_before d.insts (m.inst + 1) ≤ alts_before d.insts (length d.insts) = alts_up_to d.insts (m.inst + 1) (length d.insts) (omega (arith, h.inst_in)) (omega arith) in
      let whole : length x.numbers ≡ alts_before d.insts (length d.insts) = places.whole in
      omega (arith, below, up, whole)

  -- that of an earlier instance stands earlier
  pub spot_order : (m n : Move) → IsMoveOf d m → IsMoveOf d n → m.inst < n.inst → spot_of x.starts m < spot_of x.starts n
  spot_order m n hm hn lt =
      let below : spot_of x.starts m < alts_before d.insts (m.inst + 1) = spot_below m hm in
      let up : alts_before d.insts (m.inst + 1) ≤ alts_before d.insts n.inst = alts_up_to d.insts (m.inst + 1) n.inst (omega (arith, lt)) (omega (arith, hn.inst_in)) in
      let is : spot_of x.starts n ≡ alts_before d.insts n.inst + n.place = spot_is n hn in
      omega (arith, below, up, is)

  -- two moves whose numbers stand at one place are one move
  pub spot_alone : (m n : Move) → IsMoveOf d m → IsMoveOf d n → spot_of x.starts n ≡ spot_of x.starts m → same_move n m ≡ true
  spot_alone m n hm hn same = by_order (cases_order m.inst n.inst)
    where
      by_order : (m.inst ≡ n.inst) ⊎ ((m.inst < n.inst) ⊎ (n.inst < m.inst)) → same_move n m ≡ true
      by_order (inl inst) =
          let first : alts_before d.insts m.inst ≡ alts_before d.insts n.inst = ap (alts_before d.insts) inst in
          let here : spot_of x.starts m ≡ alts_before d.insts m.inst + m.place = spot_is m hm in
          let there : spot_of x.starts n ≡ alts_before d.insts n.inst + n.place = spot_is n hn in
          let place : n.place ≡ m.place = omega (arith, first, here, there, same) in
          ap (λ b. b && (n.place == m.place)) ((Decides-eqb n.inst m.inst).1 (sym inst)) ∙ (Decides-eqb n.place m.place).1 place
      by_order (inr (inl lt)) =
          let order : spot_of x.starts m < spot_of x.starts n = spot_order m n hm hn lt in
          absurd (omega (arith, order, same))
      by_order (inr (inr lt)) =
          let order : spot_of x.starts n < spot_of x.starts m = spot_order n m hn hm lt in
          absurd (omega (arith, order, same))
