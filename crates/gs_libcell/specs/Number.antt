-- Numbers of a library, in millionths: single ones that may not be negative, and lists of them.

use Rattle.std.specs.Prelude.{ℕ, List, [], ◌∷◌, ◌++◌, map, Option, None, Some, Result, Ok, Err, ℤ, pos, int_lt, if◌then◌else◌}
use Rattle.std.specs.List.{flat_map}
use Rattle.gs_libtree.specs.declared.tree.Item.{Item}
use Rattle.gs_quantity.specs.Decimal.{read_of}
use Rattle.gs_quantity.specs.declared.micro.NumErr.{NumErr}
use Rattle.gs_libcell.specs.Attribute.{last_simple, last_complex}
use Rattle.gs_libcell.specs.Text.{entries_of}
use Rattle.gs_libcell.specs.declared.number.Amount.{Amount}
use Rattle.gs_libcell.specs.declared.number.Amount.TheVariants as amount
use Rattle.gs_libcell.specs.declared.numbers.Points.{Points}
use Rattle.gs_libcell.specs.declared.numbers.Points.TheVariants as points

-- what was read, where it is a number
abbrev pub number_read : Result ℤ NumErr → Option ℤ
number_read (Ok m) = Some m
number_read (Err e) = None

-- the millionths that a text writes, times 10 ^ tens
abbrev pub number_of : (tens : ℕ) (text : List ℕ) → Option ℤ
number_of tens text = number_read (read_of text tens)

-- a number that may not be negative, and is below 2^40 millionths; it is judged after it is rounded
abbrev pub in_range : Option ℤ → Option ℤ
in_range None = None
in_range (Some m) = if int_lt m (pos 0) then None else if int_lt m (pos 1099511627776) then Some m else None

abbrev pub amount_of : (tens : ℕ) (text : List ℕ) → Option ℤ
amount_of tens text = in_range (number_of tens text)

-- what an attribute with this value gives: nothing, a number that isn't negative, or something else
abbrev pub amount_read : Option ℤ → Amount
amount_read None = amount.Bad
amount_read (Some m) = amount.Is m

abbrev pub amount_by : (tens : ℕ) → Option (List ℕ) → Amount
amount_by tens None = amount.Absent
amount_by tens (Some text) = amount_read (amount_of tens text)

-- what the simple attribute of the name gives
abbrev pub amount_in : (name : List ℕ) (tens : ℕ) → List Item → Amount
amount_in name tens items = amount_by tens (last_simple name items)

-- a capacitance of a pin is below 2^34 millionths
abbrev pub narrow : Amount → Amount
narrow amount.Absent = amount.Absent
narrow amount.Bad = amount.Bad
narrow (amount.Is m) = if int_lt m (pos 17179869184) then amount.Is m else amount.Bad

-- ---- lists of numbers

-- what all give, behind what there is; none where one gives nothing
abbrev pub gather : {X : Type 0} → List X → List (Option X) → Option (List X)
gather done [] = Some done
gather done (None ∷ os) = None
gather done (Some x ∷ os) = gather (done ++ x ∷ []) os

-- all numbers of some texts, in order; none where one is no number
abbrev pub numbers_of : (tens : ℕ) → List (List ℕ) → Option (List ℤ)
numbers_of tens texts = gather [] (map (number_of tens) (flat_map entries_of texts))

-- the points of an axis as a complex attribute gives them
abbrev pub points_read : Option (List ℤ) → Points
points_read None = points.Bad
points_read (Some ms) = points.Are ms

abbrev pub points_by : (tens : ℕ) → Option (List (List ℕ)) → Points
points_by tens None = points.Absent
points_by tens (Some texts) = points_read (numbers_of tens texts)

abbrev pub points_in : (name : List ℕ) (tens : ℕ) → List Item → Points
points_in name tens items = points_by tens (last_complex name items)
