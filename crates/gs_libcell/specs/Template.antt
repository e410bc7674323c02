-- Templates of tables: which variables their axes have, and the points of these.

use Rattle.std.specs.Prelude.{ℕ, Bool, ◌||◌, List, [], ◌∷◌, codes, Option, None, Some, if◌then◌else◌}
use Rattle.std.specs.Option.{option_and_then}
use Rattle.std.specs.Str.{bytes_eq}
use Rattle.gs_libcell.specs.Unit.{Tens}
use Rattle.gs_libtree.specs.declared.tree.Item.{Item}
use Rattle.gs_libtree.specs.declared.tree.Node.{Node}
use Rattle.gs_libcell.specs.Attribute.{group_in, last_simple, last_some}
use Rattle.gs_libcell.specs.Number.{points_in}
use Rattle.gs_libcell.specs.declared.template.Template.{Template}
use Rattle.gs_libcell.specs.declared.template.Variable.{Variable}
use Rattle.gs_libcell.specs.declared.template.Variable.TheVariants.{Absent, Slew, Load, Other}

-- what the parts of a library are read by: its units, and the items among which its templates stand
pub record Frame : Type 0 where
  pub units : Tens
  pub items : List Item

abbrev pub is_slew : List ℕ → Bool
is_slew text = bytes_eq (codes "input_net_transition") text || bytes_eq (codes "input_transition_time") text

abbrev pub variable_by : Option (List ℕ) → Variable
variable_by None = Absent
variable_by (Some text) =
    if is_slew text then Slew else if bytes_eq (codes "total_output_net_capacitance") text then Load else Other

-- the variable that the simple attribute of the name gives
abbrev pub variable_in : (name : List ℕ) → List Item → Variable
variable_in name items = variable_by (last_simple name items)

-- the unit of a variable's points, as a power of ten of 1 ps or 1 fF
abbrev pub tens_of : Tens → Variable → ℕ
tens_of units Absent = 0
tens_of units Slew = units.time
tens_of units Load = units.load
tens_of units Other = 0

-- what a group says as a template
abbrev pub template_of : Tens → List Item → Template
template_of units items = record {
  first = variable_in (codes "variable_1") items;
  second = variable_in (codes "variable_2") items;
  index_1 = points_in (codes "index_1") (tens_of units (variable_in (codes "variable_1") items)) items;
  index_2 = points_in (codes "index_2") (tens_of units (variable_in (codes "variable_2") items)) items;
}

-- the name that a template, or a table for its template, gives; none without args
abbrev pub given_label : List (List ℕ) → Option (List ℕ)
given_label [] = None
given_label (label ∷ more) = Some label

abbrev pub template_if : Tens → (name : List ℕ) → List Item → Option (List ℕ) → Option Template
template_if units name items None = None
template_if units name items (Some label) = if bytes_eq name label then Some (template_of units items) else None

abbrev pub template_by : Tens → (name : List ℕ) → Option Node → Option Template
template_by units name None = None
template_by units name (Some g) = template_if units name g.items (given_label g.args)

-- the template of the name: the last `lu_table_template` that has it
abbrev pub template_named : Frame → (name : List ℕ) → Option Template
template_named lib name = last_some (λ i. template_by lib.units name (group_in (codes "lu_table_template") i)) lib.items
