-- The bytes of a log determine it.

use Rattle.std.proofs.Common.{◌≡◌, ◌≢◌, ◌⊎◌, inl, inr, ℕ, zero, suc, ◌^◌, ◌<◌, ◌&&◌, Bool, true, false, List, [], ◌∷◌, ◌++◌, All, AllPairs, map, length, drop, slice_index, slice_index_or, append_assoc, refl, sym, ◌∙◌, ap, subst, arith}
use Rattle.std.specs.Prelude.{codes, decimal, flat_map}
use Rattle.std.specs.Char.{is_ascii_digit}
use Rattle.std.specs.Str.{all_ascii_digits}
use Rattle.std.proofs.lemmas.Bool.{cases_order, false≢true}
use Rattle.std.proofs.lemmas.Fmt.{decimal_injective, digits_decimal}
use Rattle.std.proofs.lemmas.List.{length-map}
use Rattle.std.proofs.lemmas.Str.Parse.{numerals_by_value, tells_all_ascii_digits}
use Rattle.std.proofs.Math.ListN.{get_or-map}
use Rattle.gs_text.specs.Bytes.{is_white}
use Rattle.gs_text.specs.Pieces.{IsUnbroken}
use Rattle.gs_design.specs.Cells.{cell_at, cell_name, no_cell}
use Rattle.gs_design.specs.Ends.{alt_cell}
use Rattle.gs_design.specs.Insts.{inst_at, inst_name, no_inst}
use Rattle.gs_design.specs.declared.design.Design.{Design}
use Rattle.gs_move.specs.Entries.{AreEntriesOf, IsMoveOf, move_of, worker_of}
use Rattle.gs_move.specs.declared.ended.Ended.{Ended}
use Rattle.gs_move.specs.declared.ended.Ended.TheVariants.{Settled, Spent}
use Rattle.gs_move.specs.declared.entry.Entry.{Entry}
use Rattle.gs_move.specs.declared.entry.Entry.TheVariants.{Commit, Reject}
use Rattle.gs_move.specs.declared.moves.Move.{Move}
use Rattle.gs_report.specs.Lines.{line, spaced}
use Rattle.gs_report.specs.Log.{IsLogOf, end_line, ended_word, entry_line, entry_word, log_text}
use Rattle.gs_report.specs.declared.run.Log.{Log}

-- ---- lists

all-head : {X : Type 0} (P : X → Type 0) (x : X) (xs : List X) → All P (x ∷ xs) → P x
all-head P x xs h = h 0 x (omega arith)

all-tail : {X : Type 0} (P : X → Type 0) (x : X) (xs : List X) → All P (x ∷ xs) → All P xs
all-tail P x xs h k d lt = h (suc k) d (omega arith)

heads : {X : Type 0} (x y : X) (xs ys : List X) → x ∷ xs ≡ y ∷ ys → x ≡ y
heads x y xs ys e = ap (λ l. slice_index_or l 0 x) e

tails : {X : Type 0} (x y : X) (xs ys : List X) → x ∷ xs ≡ y ∷ ys → xs ≡ ys
tails x y xs ys e = ap (drop 1) e

after_front : (p xs ys : List ℕ) → p ++ xs ≡ p ++ ys → xs ≡ ys
after_front [] xs ys e = e
after_front (c ∷ p) xs ys e = after_front p xs ys (tails c c (p ++ xs) (p ++ ys) e)

abbrev IsNot : ℕ → ℕ → Type 0
IsNot c b = b ≢ c

-- what stands before the first byte c, and after it
split : (c : ℕ) (xs ys r t : List ℕ) → All (IsNot c) xs → All (IsNot c) ys → xs ++ c ∷ r ≡ ys ++ c ∷ t → (xs ≡ ys) × (r ≡ t)
split c [] [] r t hx hy e = (refl, tails c c r t e)
split c [] (y ∷ ys) r t hx hy e = absurd (all-head (IsNot c) y ys hy (sym (heads c y r (ys ++ c ∷ t) e)))
split c (x ∷ xs) [] r t hx hy e = absurd (all-head (IsNot c) x xs hx (heads x c (xs ++ c ∷ r) t e))
split c (x ∷ xs) (y ∷ ys) r t hx hy e =
    let first : x ≡ y = heads x y (xs ++ c ∷ r) (ys ++ c ∷ t) e in
    let rest = split c xs ys r t (all-tail (IsNot c) x xs hx) (all-tail (IsNot c) y ys hy) (tails x y (xs ++ c ∷ r) (ys ++ c ∷ t) e) in
    (ap (λ z. z ∷ xs) first ∙ ap (λ zs. y ∷ zs) rest.0, rest.1)

-- two places of a list without repetitions that hold the same are one
place_alone : {X : Type 0} (xs : List X) (none : X) → AllPairs (λ x y. x ≢ y) xs → (i j : ℕ) → i < length xs → j < length xs
    → slice_index_or xs i none ≡ slice_index_or xs j none → i ≡ j
place_alone xs none differ i j i_in j_in same = by_order (cases_order i j)
  where
    by_order : (i ≡ j) ⊎ ((i < j) ⊎ (j < i)) → i ≡ j
    by_order (inl e) = e
    by_order (inr (inl lt)) = absurd (differ i j none lt j_in same)
    by_order (inr (inr gt)) = absurd (differ j i none gt i_in (sym same))

-- ---- bytes that a word doesn't hold

digit_by : (c b : ℕ) → is_ascii_digit c ≡ false → is_ascii_digit b ≡ true → b ≢ c
digit_by c b odd is e = false≢true (sym odd ∙ ap is_ascii_digit (sym e) ∙ is)

both : (a b : Bool) → (a && b) ≡ true → (a ≡ true) × (b ≡ true)
both true b e = (refl, e)
both false b e = absurd cc

digits_not : (c : ℕ) → is_ascii_digit c ≡ false → (ds : List ℕ) → all_ascii_digits ds ≡ true → All (IsNot c) ds
digits_not c odd [] h k d lt = absurd (omega (arith, lt))
digits_not c odd (b ∷ ds) h zero d lt = digit_by c b odd (both (is_ascii_digit b) (all_ascii_digits ds) h).0
digits_not c odd (b ∷ ds) h (suc k) d lt = digits_not c odd ds (both (is_ascii_digit b) (all_ascii_digits ds) h).1 k d (omega (arith, lt))

number_not : (c : ℕ) → is_ascii_digit c ≡ false → (n : ℕ) → n < 2 ^ 64 → All (IsNot c) (decimal n)
number_not c odd n lt = digits_not c odd (decimal n) (digits_decimal (numerals_by_value (λ ds. all_ascii_digits ds ≡ true) tells_all_ascii_digits) n lt)

name_not : (c : ℕ) → is_white c ≡ true → (name : List ℕ) → IsUnbroken name → All (IsNot c) name
name_not c white name h k d lt e = false≢true (sym (h.solid k d lt) ∙ ap is_white e ∙ white)

-- ---- words of a line

-- words with a space before each, and what follows them
abbrev after_words : (words : List (List ℕ)) → (rest : List ℕ) → List ℕ
after_words [] rest = rest
after_words (w ∷ ws) rest = 32 ∷ (w ++ after_words ws rest)

spaced_words : (ws : List (List ℕ)) (rest : List ℕ) → flat_map spaced ws ++ rest ≡ after_words ws rest
spaced_words [] rest = refl
spaced_words (w ∷ ws) rest = append_assoc (spaced w) (flat_map spaced ws) rest ∙ ap (λ t. spaced w ++ t) (spaced_words ws rest)

line_then : (first : List ℕ) (ws : List (List ℕ)) (rest : List ℕ) → line first ws ++ rest ≡ first ++ after_words ws (10 ∷ rest)
line_then first ws rest =
    append_assoc (first ++ flat_map spaced ws) (10 ∷ []) rest ∙ append_assoc first (flat_map spaced ws) (10 ∷ rest)
    ∙ ap (λ t. first ++ t) (spaced_words ws (10 ∷ rest))

-- ---- names

module _ (d : Design) where
  abbrev inst_text : ℕ → List ℕ
  inst_text g = (inst_at d.insts g).name

  abbrev cell_text : (g p : ℕ) → List ℕ
  cell_text g p = (alt_cell d.cells (inst_at d.insts g) p).name

  inst_alone : (g h : ℕ) → g < length d.insts → h < length d.insts → inst_text g ≡ inst_text h → g ≡ h
  inst_alone g h g_in h_in same =
      let name_g : slice_index_or (map inst_name d.insts) g (inst_name no_inst) ≡ inst_text g = get_or-map inst_name d.insts g no_inst in
      let name_h : slice_index_or (map inst_name d.insts) h (inst_name no_inst) ≡ inst_text h = get_or-map inst_name d.insts h no_inst in
      place_alone (map inst_name d.insts) (inst_name no_inst) d.well.names_differ g h (omega (arith, g_in, length-map d.insts inst_name)) (omega (arith, h_in, length-map d.insts inst_name))
      (name_g ∙ same ∙ sym name_h)

  cell_alone : (a b : ℕ) → a < length d.cells → b < length d.cells → (cell_at d.cells a).name ≡ (cell_at d.cells b).name → a ≡ b
  cell_alone a b a_in b_in same =
      let name_a : slice_index_or (map cell_name d.cells) a (cell_name no_cell) ≡ (cell_at d.cells a).name = get_or-map cell_name d.cells a no_cell in
      let name_b : slice_index_or (map cell_name d.cells) b (cell_name no_cell) ≡ (cell_at d.cells b).name = get_or-map cell_name d.cells b no_cell in
      place_alone (map cell_name d.cells) (cell_name no_cell) d.well.library.differ a b (omega (arith, a_in, length-map d.cells cell_name)) (omega (arith, b_in, length-map d.cells cell_name))
      (name_a ∙ same ∙ sym name_b)

  alt_alone : (g p q : ℕ) → g < length d.insts → p < length (inst_at d.insts g).alts → q < length (inst_at d.insts g).alts → cell_text g p ≡ cell_text g q → p ≡ q
  alt_alone g p q g_in p_in q_in same =
      let kept = d.well.alts g g_in in
      let number : slice_index (inst_at d.insts g).alts p ≡ slice_index (inst_at d.insts g).alts q
      = cell_alone (slice_index (inst_at d.insts g).alts p) (slice_index (inst_at d.insts g).alts q) (kept.cells_in p 0 p_in) (kept.cells_in q 0 q_in) same in
      place_alone (inst_at d.insts g).alts 0 kept.differ p q p_in q_in number

  inst_unbroken : (g : ℕ) → g < length d.insts → IsUnbroken (inst_text g)
  inst_unbroken g lt = d.well.named g no_inst lt

  cell_unbroken : (g p : ℕ) → g < length d.insts → p < length (inst_at d.insts g).alts → IsUnbroken (cell_text g p)
  cell_unbroken g p lt p_in = d.well.library.named (slice_index (inst_at d.insts g).alts p) no_cell ((d.well.alts g lt).cells_in p 0 p_in)

  -- a move by its two names
  move_alone : (m n : Move) → IsMoveOf d m → IsMoveOf d n → inst_text m.inst ≡ inst_text n.inst → cell_text m.inst m.place ≡ cell_text n.inst n.place → m ≡ n
  move_alone m n hm hn insts cells =
      let inst : m.inst ≡ n.inst = inst_alone m.inst n.inst hm.inst_in hn.inst_in insts in
      let place : m.place ≡ n.place
      = alt_alone m.inst m.place n.place hm.inst_in hm.place_in (subst (λ g. n.place < length (inst_at d.insts g).alts) (sym inst) hn.place_in)
      (cells ∙ ap (λ g. cell_text g n.place) (sym inst)) in
      λ i. record { inst = inst i; place = place i }

  -- ---- lines

  -- the words of a line behind its first, and what follows the line
  abbrev words_text : Move → (worker : ℕ) → (rest : List ℕ) → List ℕ
  words_text m w rest = decimal w ++ (32 ∷ (inst_text m.inst ++ (32 ∷ (cell_text m.inst m.place ++ (10 ∷ rest)))))

  words_alone : (m n : Move) (w v : ℕ) (r t : List ℕ) → IsMoveOf d m → IsMoveOf d n → w < 2 ^ 32 → v < 2 ^ 32 → words_text m w r ≡ words_text n v t
      → (m ≡ n) × (w ≡ v) × (r ≡ t)
  words_alone m n w v r t hm hn w_in v_in e =
      let w_fits : w < 2 ^ 64 = omega (arith, w_in) in
      let v_fits : v < 2 ^ 64 = omega (arith, v_in) in
      let workers = split 32 (decimal w) (decimal v) _ _ (number_not 32 refl w w_fits) (number_not 32 refl v v_fits) e in
      let insts = split 32 (inst_text m.inst) (inst_text n.inst) _ _
      (name_not 32 refl (inst_text m.inst) (inst_unbroken m.inst hm.inst_in)) (name_not 32 refl (inst_text n.inst) (inst_unbroken n.inst hn.inst_in)) workers.1 in
      let cells = split 10 (cell_text m.inst m.place) (cell_text n.inst n.place) r t
      (name_not 10 refl (cell_text m.inst m.place) (cell_unbroken m.inst m.place hm.inst_in hm.place_in))
      (name_not 10 refl (cell_text n.inst n.place) (cell_unbroken n.inst n.place hn.inst_in hn.place_in)) insts.1 in
      (move_alone m n hm hn insts.0 cells.0, decimal_injective w v w_fits v_fits workers.0, cells.1)

  abbrev lines_text : List Entry → (rest : List ℕ) → List ℕ
  lines_text es rest = flat_map (entry_line d) es ++ rest

  first_line : (e : Entry) (es : List Entry) (rest : List ℕ) → lines_text (e ∷ es) rest ≡ entry_word e ++ (32 ∷ words_text (move_of e) (worker_of e) (lines_text es rest))
  first_line e es rest =
      append_assoc (entry_line d e) (flat_map (entry_line d) es) rest
      ∙ line_then (entry_word e) (decimal (worker_of e) ∷ inst_text (move_of e).inst ∷ cell_text (move_of e).inst (move_of e).place ∷ []) (lines_text es rest)

  first_commit : (m : Move) (w : ℕ) (es : List Entry) (rest : List ℕ) → lines_text (Commit m w ∷ es) rest ≡ 99 ∷ 32 ∷ words_text m w (lines_text es rest)
  first_commit m w es rest = first_line (Commit m w) es rest

  first_reject : (m : Move) (w : ℕ) (es : List Entry) (rest : List ℕ) → lines_text (Reject m w ∷ es) rest ≡ 114 ∷ 32 ∷ words_text m w (lines_text es rest)
  first_reject m w es rest = first_line (Reject m w) es rest

  abbrev AreFew : List Entry → Type 0
  AreFew es = All (λ e. worker_of e < 2 ^ 32) es

  abbrev IsOf : Entry → Type 0
  IsOf e = IsMoveOf d (move_of e)

  abbrev IsFew : Entry → Type 0
  IsFew e = worker_of e < 2 ^ 32

  lines_alone : (es fs : List Entry) (a b : List ℕ) → AreEntriesOf d es → AreEntriesOf d fs → AreFew es → AreFew fs
      → lines_text es (101 ∷ a) ≡ lines_text fs (101 ∷ b) → (es ≡ fs) × (a ≡ b)
  lines_alone [] [] a b he hf we wf e = (refl, tails 101 101 a b e)
  lines_alone [] (Commit n v ∷ fs) a b he hf we wf e =
      let first : 101 ≡ 99 = heads 101 99 _ _ (e ∙ first_commit n v fs (101 ∷ b)) in
      absurd (omega (arith, first))
  lines_alone [] (Reject n v ∷ fs) a b he hf we wf e =
      let first : 101 ≡ 114 = heads 101 114 _ _ (e ∙ first_reject n v fs (101 ∷ b)) in
      absurd (omega (arith, first))
  lines_alone (Commit m w ∷ es) [] a b he hf we wf e =
      let first : 99 ≡ 101 = heads 99 101 _ _ (sym (first_commit m w es (101 ∷ a)) ∙ e) in
      absurd (omega (arith, first))
  lines_alone (Reject m w ∷ es) [] a b he hf we wf e =
      let first : 114 ≡ 101 = heads 114 101 _ _ (sym (first_reject m w es (101 ∷ a)) ∙ e) in
      absurd (omega (arith, first))
  lines_alone (Commit m w ∷ es) (Reject n v ∷ fs) a b he hf we wf e =
      let first : 99 ≡ 114 = heads 99 114 _ _ (sym (first_commit m w es (101 ∷ a)) ∙ e ∙ first_reject n v fs (101 ∷ b)) in
      absurd (omega (arith, first))
  lines_alone (Reject m w ∷ es) (Commit n v ∷ fs) a b he hf we wf e =
      let first : 114 ≡ 99 = heads 114 99 _ _ (sym (first_reject m w es (101 ∷ a)) ∙ e ∙ first_commit n v fs (101 ∷ b)) in
      absurd (omega (arith, first))
  lines_alone (Commit m w ∷ es) (Commit n v ∷ fs) a b he hf we wf e =
      let both = sym (first_commit m w es (101 ∷ a)) ∙ e ∙ first_commit n v fs (101 ∷ b) in
      let first = words_alone m n w v (lines_text es (101 ∷ a)) (lines_text fs (101 ∷ b)) (all-head IsOf (Commit m w) es he) (all-head IsOf (Commit n v) fs hf)
      (all-head IsFew (Commit m w) es we) (all-head IsFew (Commit n v) fs wf) (ap (drop 2) both) in
      let rest = lines_alone es fs a b (all-tail IsOf (Commit m w) es he) (all-tail IsOf (Commit n v) fs hf) (all-tail IsFew (Commit m w) es we) (all-tail IsFew (Commit n v) fs wf) first.2 in
      (ap (λ x. Commit x w ∷ es) first.0 ∙ ap (λ x. Commit n x ∷ es) first.1 ∙ ap (λ xs. Commit n v ∷ xs) rest.0, rest.1)
  lines_alone (Reject m w ∷ es) (Reject n v ∷ fs) a b he hf we wf e =
      let both = sym (first_reject m w es (101 ∷ a)) ∙ e ∙ first_reject n v fs (101 ∷ b) in
      let first = words_alone m n w v (lines_text es (101 ∷ a)) (lines_text fs (101 ∷ b)) (all-head IsOf (Reject m w) es he) (all-head IsOf (Reject n v) fs hf)
      (all-head IsFew (Reject m w) es we) (all-head IsFew (Reject n v) fs wf) (ap (drop 2) both) in
      let rest = lines_alone es fs a b (all-tail IsOf (Reject m w) es he) (all-tail IsOf (Reject n v) fs hf) (all-tail IsFew (Reject m w) es we) (all-tail IsFew (Reject n v) fs wf) first.2 in
      (ap (λ x. Reject x w ∷ es) first.0 ∙ ap (λ x. Reject n x ∷ es) first.1 ∙ ap (λ xs. Reject n v ∷ xs) rest.0, rest.1)

-- ---- the last line

-- what follows the word `end`
abbrev end_text : Ended → (count budget : ℕ) → List ℕ
end_text ended n b = after_words (ended_word ended ∷ decimal n ∷ decimal b ∷ []) (10 ∷ [])

end_is : (l : Log) → end_line l ≡ 101 ∷ 110 ∷ 100 ∷ end_text l.ended (length l.entries) l.budget
end_is l = ap (λ t. codes "end" ++ t) (spaced_words (ended_word l.ended ∷ decimal (length l.entries) ∷ decimal l.budget ∷ []) (10 ∷ []))

budgets : (n a b : ℕ) → a < 2 ^ 64 → b < 2 ^ 64 → decimal n ++ (32 ∷ (decimal a ++ (10 ∷ []))) ≡ decimal n ++ (32 ∷ (decimal b ++ (10 ∷ []))) → a ≡ b
budgets n a b a_in b_in e =
    let rest = ap (drop 1) (after_front (decimal n) (32 ∷ (decimal a ++ (10 ∷ []))) (32 ∷ (decimal b ++ (10 ∷ []))) e) in
    decimal_injective a b a_in b_in (split 10 (decimal a) (decimal b) [] [] (number_not 10 refl a a_in) (number_not 10 refl b b_in) rest).0

end_alone : (k l : Ended) (n a b : ℕ) → a < 2 ^ 64 → b < 2 ^ 64 → end_text k n a ≡ end_text l n b → (k ≡ l) × (a ≡ b)
end_alone Settled Settled n a b a_in b_in e = (refl, budgets n a b a_in b_in (ap (drop 9) e))
end_alone Spent Spent n a b a_in b_in e = (refl, budgets n a b a_in b_in (ap (drop 7) e))
end_alone Settled Spent n a b a_in b_in e =
    let letter : 101 ≡ 112 = heads 101 112 _ _ (ap (drop 2) e) in
    absurd (omega (arith, letter))
end_alone Spent Settled n a b a_in b_in e =
    let letter : 112 ≡ 101 = heads 112 101 _ _ (ap (drop 2) e) in
    absurd (omega (arith, letter))

-- ---- the whole text

pub log_alone : (d : Design) (k l : Log) → IsLogOf d k → IsLogOf d l → log_text d k ≡ log_text d l → k ≡ l
log_alone d k l hk hl e =
    let lines : lines_text d k.entries (end_line k) ≡ lines_text d l.entries (end_line l)
    = after_front (line (codes "gate-sizing-log") (codes "1" ∷ [])) (lines_text d k.entries (end_line k)) (lines_text d l.entries (end_line l)) e in
    let ended = ap (lines_text d k.entries) (sym (end_is k)) ∙ lines ∙ ap (lines_text d l.entries) (end_is l) in
    let entries = lines_alone d k.entries l.entries _ _ hk.entries hl.entries hk.workers hl.workers ended in
    let last : end_text k.ended (length k.entries) k.budget ≡ end_text l.ended (length k.entries) l.budget
    = ap (drop 2) entries.1 ∙ ap (λ n. end_text l.ended n l.budget) (sym (ap length entries.0)) in
    let rest = end_alone k.ended l.ended (length k.entries) k.budget l.budget hk.budget hl.budget last in
    λ i. record { entries = entries.0 i; ended = rest.0 i; budget = rest.1 i }
