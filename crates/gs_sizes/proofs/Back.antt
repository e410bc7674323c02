-- A written text stands for the sizes of which it was written.

use Rattle.std.proofs.Common.{◌≡◌, ◌≢◌, ◌⊎◌, inl, inr, ℕ, zero, suc, ◌+◌, ◌-◌, ◌<◌, ◌≤◌, ◌==◌, ◌||◌, Bool, true, false, cond, List, [], ◌∷◌, ◌++◌, All, filter, map, length, take, slice_index, slice_index_or, if◌then◌else◌, None, Some, append_assoc, refl, sym, ◌∙◌, ap, subst, arith}
use Rattle.std.specs.List.{flat_map, range_with_len}
use Rattle.std.specs.Str.{bytes_eq}
use Rattle.std.proofs.lemmas.Bool.{cases_order, eq-eqb, eqb-true, false≢true}
use Rattle.std.proofs.lemmas.List.{length-map}
use Rattle.std.proofs.lemmas.List.Elements.{All-append}
use Rattle.std.proofs.lemmas.List.FromFn.{get_or-range_with_len, length-range_with_len}
use Rattle.std.proofs.lemmas.Slice.Eq.{bytes_eq-Decides}
use Rattle.std.proofs.Math.ListN.{get_or-map}
use Rattle.gs_text.specs.Bytes.{is_white}
use Rattle.gs_text.specs.Pieces.{IsUnbroken}
use Rattle.gs_design.specs.Cells.{cell_at, cell_name, no_cell}
use Rattle.gs_design.specs.Insts.{inst_at, inst_name, no_inst}
use Rattle.gs_design.specs.Sizes.{FitSizes, cell_of}
use Rattle.gs_design.specs.Parts.{parts_of}
use Rattle.gs_design.specs.declared.design.Design.{Design}
use Rattle.gs_grammar.specs.Judged.{AreGood, upon}
use Rattle.gs_sizes.specs.Lines.{Row, is_blank, lines, parts, row_of, rows_from, runs, with_first, without_return, words}
use Rattle.gs_sizes.specs.Sizes.{GivesSizes, IsSizes, cell_fault, fault, given, given_by, inst_fault, inst_named, is_at, place_fault, place_named, words_fault}
use Rattle.gs_sizes.specs.Written.{line_text, sizes_text}
use Rattle.gs_sizes.proofs.Positions.{found_at}
use Rattle.gs_sizes.proofs.Texts.{has_word}

all-head : {X : Type 0} (P : X → Type 0) (x : X) (xs : List X) → All P (x ∷ xs) → P x
all-head P x xs h = h 0 x (omega arith)

all-tail : {X : Type 0} (P : X → Type 0) (x : X) (xs : List X) → All P (x ∷ xs) → All P xs
all-tail P x xs h k d lt = h (suc k) d (omega arith)

all-cons : {X : Type 0} (P : X → Type 0) (x : X) (xs : List X) → P x → All P xs → All P (x ∷ xs)
all-cons P x xs p h zero d lt = p
all-cons P x xs p h (suc k) d lt = h k d (omega arith)

-- what a byte that isn't white is not
record IsSolid (c : ℕ) : Type 0 where
  newline : (c == 10) ≡ false
  return : (c == 13) ≡ false
  blank : is_blank c ≡ false

none_of : (a b x y z : Bool) → (a || b || x || y || z) ≡ false → (a ≡ false) × (b ≡ false) × (x ≡ false) × (z ≡ false)
none_of false false false false false h = (refl, refl, refl, refl)
none_of true b x y z h = absurd (false≢true (sym h))
none_of false true x y z h = absurd (false≢true (sym h))
none_of false false true y z h = absurd (false≢true (sym h))
none_of false false false true z h = absurd (false≢true (sym h))
none_of false false false false true h = absurd (false≢true (sym h))

solid : (c : ℕ) → is_white c ≡ false → IsSolid c
solid c h =
    let parts = none_of (c == 32) (c == 9) (c == 13) (c == 12) (c == 10) h in
    record { newline = parts.3; return = parts.2; blank = ap (λ b. b || c == 9) parts.0 ∙ parts.1 }

all_solid : (xs : List ℕ) → IsUnbroken xs → All IsSolid xs
all_solid xs h k d lt = solid (slice_index_or xs k d) (h.solid k d lt)

worded : (xs : List ℕ) → IsUnbroken xs → has_word xs ≡ true
worded [] h = absurd (omega (arith, h.some))
worded (x ∷ xs) h = refl

abbrev IsNoNewline : ℕ → Type 0
IsNoNewline c = (c == 10) ≡ false

-- a line and its newline
line_ends : (xs rest : List ℕ) → All IsNoNewline xs → lines (xs ++ 10 ∷ rest) ≡ xs ∷ lines rest
line_ends [] rest h = refl
line_ends (c ∷ cs) rest h =
    ap (λ b. if b then [] ∷ lines (cs ++ 10 ∷ rest) else with_first c (lines (cs ++ 10 ∷ rest))) (all-head IsNoNewline c cs h)
    ∙ ap (with_first c) (line_ends cs rest (all-tail IsNoNewline c cs h))

parts_split : (xs ys : List ℕ) → All IsSolid xs → parts (xs ++ 32 ∷ ys) ≡ xs ∷ parts ys
parts_split [] ys h = refl
parts_split (c ∷ cs) ys h =
    ap (λ b. if b then [] ∷ parts (cs ++ 32 ∷ ys) else with_first c (parts (cs ++ 32 ∷ ys))) (all-head IsSolid c cs h).blank
    ∙ ap (with_first c) (parts_split cs ys (all-tail IsSolid c cs h))

parts_one : (xs : List ℕ) → All IsSolid xs → parts xs ≡ xs ∷ []
parts_one [] h = refl
parts_one (c ∷ cs) h =
    ap (λ b. if b then [] ∷ parts cs else with_first c (parts cs)) (all-head IsSolid c cs h).blank ∙ ap (with_first c) (parts_one cs (all-tail IsSolid c cs h))

abbrev line_of : (inst cell : List ℕ) → List ℕ
line_of inst cell = inst ++ 32 ∷ cell

module _ (inst cell : List ℕ) (i : IsUnbroken inst) (l : IsUnbroken cell) where
  no_newline : All IsNoNewline (line_of inst cell)
  no_newline = All-append IsNoNewline inst (32 ∷ cell) (λ k d lt. (all_solid inst i k d lt).newline)
      (all-cons IsNoNewline 32 cell refl (λ k d lt. (all_solid cell l k d lt).newline))

  no_return : All (λ c. (c == 13) ≡ false) (line_of inst cell)
  no_return = All-append (λ c. (c == 13) ≡ false) inst (32 ∷ cell) (λ k d lt. (all_solid inst i k d lt).return)
      (all-cons (λ c. (c == 13) ≡ false) 32 cell refl (λ k d lt. (all_solid cell l k d lt).return))

  kept : (line : List ℕ) → 0 < length line → All (λ c. (c == 13) ≡ false) line → without_return line ≡ line
  kept line some h = ap (λ b. if b then take (length line - 1) line else line) (h (length line - 1) 0 (omega arith))

  some_line : (xs : List ℕ) → 0 < length (xs ++ 32 ∷ cell)
  some_line [] = omega arith
  some_line (x ∷ xs) = omega arith

  two_words : words (line_of inst cell) ≡ inst ∷ cell ∷ []
  two_words =
      ap runs (kept (line_of inst cell) (some_line inst) no_return)
      ∙ ap (filter has_word) (parts_split inst cell (all_solid inst i) ∙ ap (λ ps. inst ∷ ps) (parts_one cell (all_solid cell l)))
      ∙ ap (λ b. cond b (inst ∷ filter has_word (cell ∷ [])) (filter has_word (cell ∷ []))) (worded inst i)
      ∙ ap (λ b. inst ∷ cond b (cell ∷ []) []) (worded cell l)

same_bytes : (xs : List ℕ) → bytes_eq xs xs ≡ true
same_bytes xs = (bytes_eq-Decides xs xs).1 refl

other_bytes : (xs ys : List ℕ) → xs ≢ ys → bytes_eq xs ys ≡ false
other_bytes xs ys ne = by_test (bytes_eq xs ys) refl
  where
    by_test : (b : Bool) → bytes_eq xs ys ≡ b → b ≡ false
    by_test true e = absurd (ne ((bytes_eq-Decides xs ys).0 e))
    by_test false e = refl

module _ (d : Design) (s : List ℕ) (fit : FitSizes d s) where
  abbrev inst_text : ℕ → List ℕ
  inst_text g = (inst_at d.insts g).name

  abbrev cell_text : ℕ → List ℕ
  cell_text g = (cell_of d s g).name

  abbrev line_at : ℕ → List ℕ
  line_at g = line_of (inst_text g) (cell_text g)

  abbrev cell_number : ℕ → ℕ
  cell_number g = slice_index (inst_at d.insts g).alts (slice_index s g)

  -- the instances' names differ
  insts_apart : (h g : ℕ) → h < g → g < length d.insts → inst_text h ≢ inst_text g
  insts_apart h g below lt e =
      let name_h : slice_index_or (map inst_name d.insts) h (inst_name no_inst) ≡ inst_text h = get_or-map inst_name d.insts h no_inst in
      let name_g : slice_index_or (map inst_name d.insts) g (inst_name no_inst) ≡ inst_text g = get_or-map inst_name d.insts g no_inst in
      d.well.names_differ h g (inst_name no_inst) below (omega (arith, length-map d.insts inst_name)) (name_h ∙ e ∙ sym name_g)

  named : (g : ℕ) → g < length d.insts → inst_named (parts_of d) (inst_text g) ≡ Some g
  named g lt =
      found_at (λ i. bytes_eq i.name (inst_text g)) d.insts no_inst 0 g lt (same_bytes (inst_text g))
      (λ h below. other_bytes (inst_text h) (inst_text g) (insts_apart h g below lt)) ∙ ap Some (omega arith)

  -- and so do the cells'
  below_apart : (a b : ℕ) → a < b → b < length d.cells → (cell_at d.cells a).name ≢ (cell_at d.cells b).name
  below_apart a b below lt e =
      let name_a : slice_index_or (map cell_name d.cells) a (cell_name no_cell) ≡ (cell_at d.cells a).name = get_or-map cell_name d.cells a no_cell in
      let name_b : slice_index_or (map cell_name d.cells) b (cell_name no_cell) ≡ (cell_at d.cells b).name = get_or-map cell_name d.cells b no_cell in
      d.well.library.differ a b (cell_name no_cell) below (omega (arith, length-map d.cells cell_name)) (name_a ∙ e ∙ sym name_b)

  cells_apart : (a b : ℕ) → a ≢ b → a < length d.cells → b < length d.cells → (cell_at d.cells a).name ≢ (cell_at d.cells b).name
  cells_apart a b ne a_in b_in = by_order (cases_order a b)
    where
      by_order : (a ≡ b) ⊎ ((a < b) ⊎ (b < a)) → (cell_at d.cells a).name ≢ (cell_at d.cells b).name
      by_order (inl same) = absurd (ne same)
      by_order (inr (inl lt)) = below_apart a b lt b_in
      by_order (inr (inr gt)) = λ e. below_apart b a gt a_in (sym e)

  placed : (g : ℕ) → g < length d.insts → place_named (parts_of d) g (cell_text g) ≡ Some (slice_index s g)
  placed g lt =
      let kept = d.well.alts g lt in
      let p_in : slice_index s g < length (inst_at d.insts g).alts = fit.places_in g lt in
      found_at (λ c. bytes_eq (cell_text g) (cell_at d.cells c).name) (inst_at d.insts g).alts 0 0 (slice_index s g) p_in (same_bytes (cell_text g))
      (λ h below.
      let h_in : h < length (inst_at d.insts g).alts = omega arith in
      other_bytes (cell_text g) (cell_at d.cells (slice_index (inst_at d.insts g).alts h)).name
      (cells_apart (cell_number g) (slice_index (inst_at d.insts g).alts h) (λ e. kept.differ h (slice_index s g) 0 below p_in (sym e)) (kept.cells_in (slice_index s g) 0 p_in) (kept.cells_in h 0 h_in)))
      ∙ ap Some (omega arith)

  inst_unbroken : (g : ℕ) → g < length d.insts → IsUnbroken (inst_text g)
  inst_unbroken g lt = d.well.named g no_inst lt

  cell_unbroken : (g : ℕ) → g < length d.insts → IsUnbroken (cell_text g)
  cell_unbroken g lt = d.well.library.named (cell_number g) no_cell ((d.well.alts g lt).cells_in (slice_index s g) 0 (fit.places_in g lt))

  line_words : (g : ℕ) → g < length d.insts → words (line_at g) ≡ inst_text g ∷ cell_text g ∷ []
  line_words g lt = two_words (inst_text g) (cell_text g) (inst_unbroken g lt) (cell_unbroken g lt)

  text_lines : (gs : List ℕ) → All (λ g. g < length d.insts) gs → lines (flat_map (line_text d s) gs) ≡ map line_at gs
  text_lines [] h = refl
  text_lines (g ∷ gs) h =
      let lt : g < length d.insts = all-head (λ g. g < length d.insts) g gs h in
      let rest = flat_map (line_text d s) gs in
      let front : line_text d s g ++ flat_map (line_text d s) gs ≡ line_at g ++ 10 ∷ flat_map (line_text d s) gs = simp append_assoc in
      ap lines front
      ∙ line_ends (line_at g) rest (no_newline (inst_text g) (cell_text g) (inst_unbroken g lt) (cell_unbroken g lt))
      ∙ ap (λ ls. line_at g ∷ ls) (text_lines gs (all-tail (λ g. g < length d.insts) g gs h))

  -- what the lines of the first k instances give
  record IsGivenTo (k : ℕ) (past : List Row) : Type 0 where
    pub there : (g : ℕ) → g < length d.insts → g < k → given (parts_of d) past g ≡ Some (slice_index s g)
    pub none : (g : ℕ) → g < length d.insts → k ≤ g → given (parts_of d) past g ≡ None

  module _ (k i : ℕ) (past : List Row) (lt : k < length d.insts) (h : IsGivenTo k past) where
    here : (g : ℕ) → given (parts_of d) (row_of i (line_at k) ∷ past) g ≡ (if k == g then place_named (parts_of d) g (cell_text k) else given (parts_of d) past g)
    here g =
        ap (λ ws. given_by (parts_of d) ws g (given (parts_of d) past g)) (line_words k lt)
        ∙ ap (λ o. if is_at g o then place_named (parts_of d) g (cell_text k) else given (parts_of d) past g) (named k lt)

    there_by : (g : ℕ) → g < length d.insts → g < k + 1 → (b : Bool) → (k == g) ≡ b → (if b then place_named (parts_of d) g (cell_text k) else given (parts_of d) past g) ≡ Some (slice_index s g)
    there_by g g_in below true e =
        let same : k ≡ g = eqb-true k g e in
        ap (λ j. place_named (parts_of d) g (cell_text j)) same ∙ placed g g_in
    there_by g g_in below false e =
        let other : k ≢ g = λ same. false≢true (sym e ∙ eq-eqb k g same) in
        h.there g g_in (omega arith)

    none_by : (g : ℕ) → g < length d.insts → k + 1 ≤ g → (b : Bool) → (k == g) ≡ b → (if b then place_named (parts_of d) g (cell_text k) else given (parts_of d) past g) ≡ None
    none_by g g_in above true e =
        let same : k ≡ g = eqb-true k g e in
        absurd (omega arith)
    none_by g g_in above false e = h.none g g_in (omega arith)

    one_more : IsGivenTo (k + 1) (row_of i (line_at k) ∷ past)
    one_more = record {
      there = λ g g_in below. here g ∙ there_by g g_in below (k == g) refl;
      none = λ g g_in above. here g ∙ none_by g g_in above (k == g) refl;
    }

    no_fault : fault (parts_of d) past (row_of i (line_at k)) ≡ None
    no_fault =
        ap (words_fault (parts_of d) past) (line_words k lt)
        ∙ ap (λ o. inst_fault (parts_of d) past o (cell_text k)) (named k lt)
        ∙ ap (λ o. place_fault (parts_of d) o k (cell_text k)) (h.none k lt (omega arith))
        ∙ ap cell_fault (placed k lt)

  abbrev rows_to : (k m i : ℕ) → List Row
  rows_to k m i = rows_from i (map line_at (range_with_len k m))

  record IsRead (k m i : ℕ) (past : List Row) : Type 0 where
    pub good : AreGood (fault (parts_of d)) past (rows_to k m i)
    pub given_to : IsGivenTo (length d.insts) (upon past (rows_to k m i))

  all_read : (k m i : ℕ) (past : List Row) → k + m ≡ length d.insts → IsGivenTo k past → IsRead k m i past
  all_read k zero i past e h =
      let all : k ≡ length d.insts = omega arith in
      record { good = tt; given_to = subst (λ n. IsGivenTo n past) all h }
  all_read k (suc m) i past e h =
      let lt : k < length d.insts = omega arith in
      let rest = all_read (k + 1) m (i + 1) (row_of i (line_at k) ∷ past) (omega arith) (one_more k i past lt h) in
      record { good = (no_fault k i past lt h, rest.good); given_to = rest.given_to }

  numbers_in : All (λ g. g < length d.insts) (range_with_len 0 (length d.insts))
  numbers_in k x lt =
      let k_in : k < length d.insts = omega (arith, length-range_with_len 0 (length d.insts)) in
      rw (get_or-range_with_len 0 (length d.insts) k x k_in) (omega arith)

  pub written_back : IsSizes (parts_of d) (sizes_text d s) s
  written_back =
      let read = all_read 0 (length d.insts) 1 [] (omega arith) (record { there = λ g g_in below. absurd (omega arith); none = λ g g_in above. refl }) in
      subst (λ ls. GivesSizes (parts_of d) (rows_from 1 ls) s) (sym (text_lines (range_with_len 0 (length d.insts)) numbers_in))
      (record { good = read.good; as_many = fit.as_many; each = λ g lt. read.given_to.there g lt lt })
