-- Lookup tables of a `timing` group: slew points `xs`, load points `ys`, and values row by row over the slew points.

use Rattle.std.specs.Prelude.{ℕ, ◌+◌, ◌*◌, ◌==◌, List, [], ◌∷◌, codes, length, map, unwrap_or, Option, None, Some, ℤ, pos, if◌then◌else◌}
use Rattle.std.specs.List.{flat_map, range_with_len}
use Rattle.std.specs.Option.{option_and_then, option_map}
use Rattle.std.specs.Str.{bytes_eq}
use Rattle.gs_libtree.specs.declared.tree.Item.{Item}
use Rattle.gs_libtree.specs.declared.tree.Node.{Node}
use Rattle.gs_quantity.specs.Lookup.{at}
use Rattle.gs_quantity.specs.TableFault.{table_fault}
use Rattle.gs_quantity.specs.declared.lookup.fault.TableErr.{TableErr}
use Rattle.gs_quantity.specs.declared.lookup.table.Table.{Table}
use Rattle.gs_libcell.specs.Attribute.{last_complex, last_group}
use Rattle.gs_libcell.specs.Number.{numbers_of, points_in}
use Rattle.gs_libcell.specs.Template.{Frame, given_label, template_named, tens_of}
use Rattle.gs_libcell.specs.declared.grid.Grid.{Grid}
use Rattle.gs_libcell.specs.declared.grid.Grid.TheVariants as grids
use Rattle.gs_libcell.specs.declared.grid.Lists.{Lists}
use Rattle.gs_libcell.specs.declared.numbers.Points.{Points}
use Rattle.gs_libcell.specs.declared.numbers.Points.TheVariants as points
use Rattle.gs_libcell.specs.declared.template.Template.{Template}
use Rattle.gs_libcell.specs.declared.template.Variable.{Variable}
use Rattle.gs_libcell.specs.declared.template.Variable.TheVariants.{Absent, Slew, Load, Other}

-- a table as a `timing` group gives it: it is missing, it is bad, or it has these lists
pub data GridLists : Type 0 where
  absent : GridLists
  bad : GridLists
  given : Lists → GridLists

-- the lists of a table
abbrev pub table_lists : Table → Lists
table_lists t = record { xs = t.xs; ys = t.ys; zs = t.zs }

abbrev pub grid_lists : Grid → GridLists
grid_lists grids.Absent = absent
grid_lists grids.Bad = bad
grid_lists (grids.Is t) = given (table_lists t)

-- points that are given and are numbers
abbrev pub points_given : Points → Option (List ℤ)
points_given points.Absent = None
points_given points.Bad = None
points_given (points.Are ps) = Some ps

-- the points of an axis: the table's own, and else the template's
abbrev pub axis_of : (own templates : Points) → Option (List ℤ)
axis_of points.Absent templates = points_given templates
axis_of points.Bad templates = None
axis_of (points.Are ps) templates = Some ps

-- a missing axis is one point 0
abbrev pub one_point : List ℤ
one_point = pos 0 ∷ []

-- values that stand row by row over `rows` rows of `cols`, one column after another
abbrev pub turned : (rows cols : ℕ) → List ℤ → List ℤ
turned rows cols zs = flat_map (λ col. map (λ row. at zs (row * cols + col)) (range_with_len 0 rows)) (range_with_len 0 cols)

-- values that stand row by row over the load points, where there is one for each pair of points
abbrev pub by_slews : (xs ys zs : List ℤ) → List ℤ
by_slews xs ys zs = if length zs == length ys * length xs then turned (length ys) (length xs) zs else zs

-- a table of one variable
abbrev pub of_one : Variable → (ps zs : List ℤ) → Option Lists
of_one Absent ps zs = None
of_one Slew ps zs = Some (record { xs = ps; ys = one_point; zs = zs })
of_one Load ps zs = Some (record { xs = one_point; ys = ps; zs = zs })
of_one Other ps zs = None

-- a table of a slew and a load, the points of the first variable outermost in its values
abbrev pub of_two : Variable → Variable → (ps qs zs : List ℤ) → Option Lists
of_two Slew Load ps qs zs = Some (record { xs = ps; ys = qs; zs = zs })
of_two Load Slew ps qs zs = Some (record { xs = qs; ys = ps; zs = by_slews qs ps zs })
of_two Slew Absent ps qs zs = None
of_two Slew Slew ps qs zs = None
of_two Slew Other ps qs zs = None
of_two Load Absent ps qs zs = None
of_two Load Load ps qs zs = None
of_two Load Other ps qs zs = None
of_two Absent second ps qs zs = None
of_two Other second ps qs zs = None

-- the numbers of `values`, none of them where it is missing
abbrev pub values_in : (tens : ℕ) → List Item → Option (List ℤ)
values_in tens items = numbers_of tens (unwrap_or (last_complex (codes "values") items) [])

-- the lists of a table with this template, whose own axes and values are these
abbrev pub lists_with : Template → (second : Variable) → (own_1 own_2 : Points) → (zs : List ℤ) → Option Lists
lists_with t Absent own_1 own_2 zs = option_and_then (λ ps. of_one t.first ps zs) (axis_of own_1 t.index_1)
lists_with t Slew own_1 own_2 zs = option_and_then (λ ps. option_and_then (λ qs. of_two t.first Slew ps qs zs) (axis_of own_2 t.index_2)) (axis_of own_1 t.index_1)
lists_with t Load own_1 own_2 zs = option_and_then (λ ps. option_and_then (λ qs. of_two t.first Load ps qs zs) (axis_of own_2 t.index_2)) (axis_of own_1 t.index_1)
lists_with t Other own_1 own_2 zs = None

abbrev pub lists_by : Frame → Option Template → List Item → (zs : List ℤ) → Option Lists
lists_by lib None items zs = None
lists_by lib (Some t) items zs = lists_with t t.second
    (points_in (codes "index_1") (tens_of lib.units t.first) items)
    (points_in (codes "index_2") (tens_of lib.units t.second) items) zs

-- `scalar` is one value
abbrev pub lists_named : Frame → Option (List ℕ) → List Item → (zs : List ℤ) → Option Lists
lists_named lib None items zs = None
lists_named lib (Some name) items zs =
    if bytes_eq (codes "scalar") name then Some (record { xs = one_point; ys = one_point; zs = zs })
    else lists_by lib (template_named lib name) items zs

-- the lists that a table's group gives: none where its template is unknown or has other variables, where a variable has no
-- points, or where what has to be a number is none
abbrev pub lists_of : Frame → Node → Option Lists
lists_of lib g = option_and_then (λ zs. lists_named lib (given_label g.args) g.items zs) (values_in lib.units.time g.items)

abbrev pub checked_by : Lists → Option TableErr → GridLists
checked_by lists None = given lists
checked_by lists (Some fault) = bad

-- lists that make a table
abbrev pub checked : Option Lists → GridLists
checked None = bad
checked (Some lists) = checked_by lists (table_fault lists.xs lists.ys lists.zs)

abbrev pub grid_by : Frame → Option Node → GridLists
grid_by lib None = absent
grid_by lib (Some g) = checked (lists_of lib g)

-- the table of the name: the last group that has it
abbrev pub grid_in : Frame → (name : List ℕ) → List Item → GridLists
grid_in lib name items = grid_by lib (last_group name items)
