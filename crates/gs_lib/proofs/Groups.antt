-- Cells that may take each other's place have one footprint, and so one group.

use Rattle.std.proofs.Common.{◌≡◌, ◌≢◌, ◌∙◌, ap, sym, refl, ℕ, ◌+◌, ◌<◌, ◌≤◌, ◌&&◌, List, [], ◌∷◌, length, get_or, set, map, take, filter, Bool, true, false, cond, arith, eqb}
use Rattle.std.specs.Prelude.{◌*◌, ◌%◌, fold}
use Rattle.std.specs.Str.{bytes_eq}
use Rattle.std.proofs.lemmas.Bool.Decides.{Decides-eqb, nat_tests}
use Rattle.std.proofs.lemmas.List.{get_or-set_other, get_or-set_same}
use Rattle.std.proofs.lemmas.Slice.Eq.{bytes_eq-Decides}
use Rattle.gs_design.specs.declared.cell.Cell.{Cell}
use Rattle.gs_design.specs.Alternatives.{same_truth}
use Rattle.gs_lib.specs.Classes.{group_count, group_of, is_in_group}
use Rattle.gs_lib.specs.Draft.{CellLists, cell_lists}
use Rattle.gs_lib.specs.Library.{alike_lists, has_large_class, is_sizable_lists, same_pins_lists}
use Rattle.gs_lib.proofs.ClassCounts.{and_first, and_second, none_alike, passed_more}

-- ---- a group's number

rest_below : (n x : ℕ) → 0 < n → x % n < n
rest_below n x some = omega (arith, some)

below_from : (groups start : ℕ) (footprint : List ℕ) → 0 < groups → start < groups → fold (λ group byte. (group * 31 + byte) % groups) start footprint < groups
below_from groups start [] some lt = lt
below_from groups start (b ∷ bs) some lt = below_from groups ((start * 31 + b) % groups) bs some (rest_below groups (start * 31 + b) some)

pub group_below : (groups : ℕ) (footprint : List ℕ) → 0 < groups → group_of groups footprint < groups
group_below groups footprint some = below_from groups 0 footprint some some

-- ---- one more counted

set_count : (counts : List ℕ) (g n h : ℕ) (b : Bool) → g < length counts → n ≡ get_or counts g 0 + 1 → eqb g h ≡ b
    → get_or (set counts g n) h 0 ≡ get_or counts h 0 + cond b 1 0
set_count counts g n h true lt e at =
    let same : g ≡ h = grind (arith, nat_tests, at) in
    ap (λ k. get_or (set counts g n) k 0) (sym same) ∙ get_or-set_same counts g n 0 lt ∙ e ∙ ap (λ k. get_or counts k 0 + 1) same
set_count counts g n h false lt e at =
    let other : h ≢ g = grind (arith, nat_tests, at) in
    let none : get_or counts h 0 ≡ get_or counts h 0 + 0 = omega arith in
    get_or-set_other counts g h n 0 other ∙ none

module _ (groups : ℕ) (cells : List Cell) (i : ℕ) (d : Cell) (lt : i < length cells) where
  abbrev g : ℕ
  g = group_of groups (cell_lists (get_or cells i d)).footprint

  pub counted_more : (counts : List ℕ) (n : ℕ) → length counts ≡ groups → 0 < groups → n ≡ get_or counts g 0 + 1
      → ((h : ℕ) → get_or counts h 0 ≡ group_count groups h (map cell_lists (take i cells)))
      → (h : ℕ) → get_or (set counts g n) h 0 ≡ group_count groups h (map cell_lists (take (i + 1) cells))
  counted_more counts n size some e counted h =
      let inside : g < length counts = omega (arith, size, group_below groups (cell_lists (get_or cells i d)).footprint some) in
      set_count counts g n h (eqb g h) inside e refl
      ∙ ap (λ k. k + cond (eqb g h) 1 0) (counted h)
      ∙ sym (passed_more cells i d lt (is_in_group groups h))

  small_by : (n h : ℕ) (b : Bool) → eqb g h ≡ b → n ≤ 1024 → n ≡ group_count groups g (map cell_lists (take (i + 1) cells))
      → group_count groups h (map cell_lists (take i cells)) ≤ 1024 → group_count groups h (map cell_lists (take (i + 1) cells)) ≤ 1024
  small_by n h true at le own small =
      let same : g ≡ h = grind (arith, nat_tests, at) in
      omega (arith, le, own, ap (λ k. group_count groups k (map cell_lists (take (i + 1) cells))) same)
  small_by n h false at le own small =
      omega (arith, small, passed_more cells i d lt (is_in_group groups h) ∙ ap (λ b. group_count groups h (map cell_lists (take i cells)) + cond b 1 0) at)

  pub small_more : (n : ℕ) → n ≤ 1024 → n ≡ group_count groups g (map cell_lists (take (i + 1) cells))
      → ((h : ℕ) → group_count groups h (map cell_lists (take i cells)) ≤ 1024) → (h : ℕ) → group_count groups h (map cell_lists (take (i + 1) cells)) ≤ 1024
  small_more n le own small h = small_by n h (eqb g h) refl le own (small h)

  -- the count that was set is that of the group
  pub own_count : (counts : List ℕ) (n : ℕ) → length counts ≡ groups → 0 < groups → n ≡ get_or counts g 0 + 1
      → ((h : ℕ) → get_or counts h 0 ≡ group_count groups h (map cell_lists (take i cells)))
      → n ≡ group_count groups g (map cell_lists (take (i + 1) cells))
  own_count counts n size some e counted =
      let inside : g < length counts = omega (arith, size, group_below groups (cell_lists (get_or cells i d)).footprint some) in
      sym (get_or-set_same counts g n 0 inside) ∙ counted_more counts n size some e counted g

-- ---- classes and groups

fewer_by : (p q : CellLists → Bool) (x : CellLists) (xs : List CellLists) (a b : Bool) → p x ≡ a → q x ≡ b → (a ≡ true → b ≡ true)
    → length (filter p xs) ≤ length (filter q xs) → length (filter p (x ∷ xs)) ≤ length (filter q (x ∷ xs))
fewer_by p q x xs true true e f h le = rw (e, f) (omega (arith, le))
fewer_by p q x xs true false e f h le = let never : false ≡ true = h refl in cc
fewer_by p q x xs false true e f h le = rw (e, f) (omega (arith, le))
fewer_by p q x xs false false e f h le = rw (e, f) le

fewer : (p q : CellLists → Bool) → ((x : CellLists) → p x ≡ true → q x ≡ true) → (xs : List CellLists) → length (filter p xs) ≤ length (filter q xs)
fewer p q h [] = omega arith
fewer p q h (x ∷ xs) = fewer_by p q x xs (p x) (q x) refl refl (h x) (fewer p q h xs)

one_group : (groups : ℕ) (c x : CellLists) → alike_lists c x ≡ true → is_in_group groups (group_of groups c.footprint) x ≡ true
one_group groups c x h =
    let rest = same_pins_lists c x && same_truth c.kind x.kind in
    let both : (bytes_eq c.footprint x.footprint && rest) ≡ true =
    and_second (is_sizable_lists c && is_sizable_lists x) (bytes_eq c.footprint x.footprint && rest) h in
    let same : c.footprint ≡ x.footprint = (bytes_eq-Decides c.footprint x.footprint).0 (and_first (bytes_eq c.footprint x.footprint) rest both) in
    (Decides-eqb (group_of groups x.footprint) (group_of groups c.footprint)).1 (ap (group_of groups) (sym same))

pub no_large_group : (groups : ℕ) (cells : List CellLists) → ((h : ℕ) → group_count groups h cells ≤ 1024) → has_large_class cells ≡ false
no_large_group groups cells small =
    none_alike cells (λ c. omega (arith, small (group_of groups c.footprint), fewer (alike_lists c) (is_in_group groups (group_of groups c.footprint)) (one_group groups c) cells))
