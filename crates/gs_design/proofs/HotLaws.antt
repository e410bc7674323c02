-- The copies that a design keeps for timing: the data of pins, and the endpoints by net.

use Rattle.std.proofs.Common.{◌≡◌, ℕ, zero, suc, ◌+◌, ◌*◌, ◌<◌, ◌≤◌, ◌==◌, Bool, true, false, List, [], ◌∷◌, ◌++◌, All, map, filter, length, take, slice_index_or, sum_by, Option, None, ℤ, pos, if◌then◌else◌, refl, sym, ◌∙◌, ap, arith, inl, inr, zero-add}
use Rattle.std.specs.List.{range_with_len}
use Rattle.std.proofs.lemmas.List.{ext_get_or, get_or_append_left, get_or_at, get_or_default, length-map, length_push, map_more}
use Rattle.std.proofs.lemmas.Bool.{cases_lt}
use Rattle.std.proofs.Math.ListN.{get_or-map}
use Rattle.std.proofs.lemmas.List.FromFn.{fill_by_all, get_or-map-range_with_len, get_or-range_with_len, length-map-range_with_len, length-range_with_len}
use Rattle.std.proofs.lemmas.List.Sums.{sum_by-append}
use Rattle.gs_list.specs.Groups.{by_key_of, with_key}
use Rattle.gs_design.specs.Cell.{no_pin, pin_at}
use Rattle.gs_design.specs.Cells.{cell_at, no_cell}
use Rattle.gs_design.specs.Ends.{end_at, end_net, ends_at, no_end}
use Rattle.gs_design.specs.Hot.{ends_by_net, hot_pins, pin_data}
use Rattle.gs_design.specs.declared.cell.Cell.{Cell}
use Rattle.gs_design.specs.declared.end.End.{End}
use Rattle.gs_design.specs.declared.hot.PinData.{PinData}
use Rattle.gs_design.specs.declared.pin.CellPin.{CellPin}

abbrev pub no_data : PinData
no_data = record { cap = pos 0; slew_bound = None; load_bound = None }

-- the data of the first i cells' pins
pub record PinsTo (slew_default : Option ℤ) (cells : List Cell) (i : ℕ) (so_far : List (List PinData)) : Type 0 where
  pub are : so_far ≡ hot_pins slew_default (take i cells)
  pub few : sum_by length so_far ≤ 7 * i

pub one_cell : (slew_default : Option ℤ) (cells : List Cell) (i : ℕ) (so_far : List (List PinData)) → i < length cells → PinsTo slew_default cells i so_far
    → PinsTo slew_default cells (i + 1) (so_far ++ map (pin_data slew_default) (cell_at cells i).pins ∷ [])
one_cell slew_default cells i so_far lt h = record {
  are = rw h.are (sym (map_more (λ (c : Cell). map (pin_data slew_default) c.pins) cells i no_cell lt));
  few =
      let sum : sum_by length (so_far ++ map (pin_data slew_default) (cell_at cells i).pins ∷ []) ≡ sum_by length so_far + length (map (pin_data slew_default) (cell_at cells i).pins) =
      sum_by-append length so_far (map (pin_data slew_default) (cell_at cells i).pins ∷ [])
      ∙ ap (λ n. sum_by length so_far + n) (zero-add (length (map (pin_data slew_default) (cell_at cells i).pins))) in
      omega (arith, sum, h.few, length-map (cell_at cells i).pins (pin_data slew_default), (cell_at cells i).well.few_inputs);
}

pub length-hot_pins : (slew_default : Option ℤ) (cells : List Cell) → length (hot_pins slew_default cells) ≡ length cells
length-hot_pins slew_default cells = length-map cells (λ (c : Cell). map (pin_data slew_default) c.pins)

pub pins_at : (slew_default : Option ℤ) (cells : List Cell) (c : ℕ) → c < length cells → slice_index_or (hot_pins slew_default cells) c [] ≡ map (pin_data slew_default) (cell_at cells c).pins
pins_at slew_default cells c lt =
    get_or_default (hot_pins slew_default cells) c [] (map (pin_data slew_default) no_cell.pins) (omega (arith, length-hot_pins slew_default cells))
    ∙ get_or-map (λ (x : Cell). map (pin_data slew_default) x.pins) cells c no_cell

pub data_of_pin : (slew_default : Option ℤ) (pins : List CellPin) (p : ℕ) (d : PinData) → p < length pins → slice_index_or (map (pin_data slew_default) pins) p d ≡ pin_data slew_default (pin_at pins p)
data_of_pin slew_default pins p d lt =
    get_or_default (map (pin_data slew_default) pins) p d (pin_data slew_default no_pin) (omega (arith, length-map pins (pin_data slew_default)))
    ∙ get_or-map (pin_data slew_default) pins p no_pin

-- the nets of all endpoints are in range
pub nets_in : (ends : List End) (count : ℕ) → ((e : ℕ) → e < length ends → (end_at ends e).net < count) → All (λ n. n < count) (map end_net ends)
nets_in ends count h k d lt =
    let many : length (map end_net ends) ≡ length ends = length-map ends end_net in
    let is : slice_index_or (map end_net ends) k d ≡ (end_at ends k).net =
    get_or_default (map end_net ends) k d 0 lt ∙ get_or-map end_net ends k no_end in
    rw is (h k (omega (arith, many)))

with_key-map : (f : ℕ → ℕ) (n : ℕ) (xs : List ℕ) → with_key n (map f xs) xs ≡ filter (λ x. f x == n) xs
with_key-map f n [] = refl
with_key-map f n (x ∷ xs) = by_test (f x == n) (with_key-map f n xs)
  where
    by_test : (b : Bool) → with_key n (map f xs) xs ≡ filter (λ y. f y == n) xs
        → (if b then x ∷ with_key n (map f xs) xs else with_key n (map f xs) xs) ≡ (if b then x ∷ filter (λ y. f y == n) xs else filter (λ y. f y == n) xs)
    by_test true h = ap (λ zs. x ∷ zs) h
    by_test false h = h

nets_by_number : (ends : List End) → map end_net ends ≡ map (λ e. (end_at ends e).net) (range_with_len 0 (length ends))
nets_by_number ends = fill_by_all (λ e. (end_at ends e).net) (map end_net ends) (length ends) 0 (length-map ends end_net) (λ k lt. get_or-map end_net ends k no_end)

pub length-ends_by_net : (ends : List End) (count : ℕ) → length (ends_by_net ends count) ≡ count
length-ends_by_net ends count = length-map-range_with_len (λ k. with_key k (map end_net ends) (range_with_len 0 (length ends))) 0 count

pub ends_on : (ends : List End) (count n : ℕ) → n < count → slice_index_or (ends_by_net ends count) n [] ≡ ends_at ends n
ends_on ends count n lt =
    get_or-map-range_with_len (λ k. with_key k (map end_net ends) (range_with_len 0 (length ends))) 0 count n n [] lt (omega arith)
    ∙ rw (nets_by_number ends) (with_key-map (λ e. (end_at ends e).net) n (range_with_len 0 (length ends)))

-- the numbers to a count, and one more
pub range_push : (n : ℕ) → range_with_len 0 n ++ n ∷ [] ≡ range_with_len 0 (n + 1)
range_push n = ext_get_or 0 (range_with_len 0 n ++ n ∷ []) (range_with_len 0 (n + 1)) many each
  where
    many : length (range_with_len 0 n ++ n ∷ []) ≡ length (range_with_len 0 (n + 1))
    many = length_push (range_with_len 0 n) n ∙ omega (arith, length-range_with_len 0 n, length-range_with_len 0 (n + 1))

    each : (k : ℕ) → k < length (range_with_len 0 n ++ n ∷ []) → slice_index_or (range_with_len 0 n ++ n ∷ []) k 0 ≡ slice_index_or (range_with_len 0 (n + 1)) k 0
    each k lt =
        let k_in : k < n + 1 = omega (arith, lt, length_push (range_with_len 0 n) n, length-range_with_len 0 n) in
        elim (cases_lt k n) [
          | inl low ↦ get_or_append_left (range_with_len 0 n) (n ∷ []) 0 k (omega (arith, length-range_with_len 0 n))
              ∙ get_or-range_with_len 0 n k 0 low ∙ sym (get_or-range_with_len 0 (n + 1) k 0 k_in)
          | inr high ↦ get_or_at (range_with_len 0 n) n [] 0 k (length-range_with_len 0 n ∙ omega arith)
              ∙ omega (arith, get_or-range_with_len 0 (n + 1) k 0 k_in)
        ]
