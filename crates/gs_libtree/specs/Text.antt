-- What a Liberty text stands for: the relation between a whole list of tokens and one group.

use Rattle.std.specs.Prelude.{ℕ, ◌≡◌, ◌≤◌, ◌+◌, max, List, [], ◌∷◌, map}
use Rattle.gs_libtree.specs.Token.{Token}
use Rattle.gs_libtree.specs.Tree.{Value, bare, in_quotes, Next, beside, after_comma, Args, no_args, some_args, Content, nothing, stray, simple, complex, subgroup, Tree, spelling}
use Rattle.gs_libtree.specs.declared.tree.Node.{Node}
use Rattle.gs_libtree.specs.declared.tree.Item.{Item}
use Rattle.gs_libtree.specs.declared.tree.Item.TheVariants.{Simple, Complex, Sub}

abbrev pub value_text : Value → List ℕ
value_text (bare text) = text
value_text (in_quotes text) = text

abbrev pub next_text : Next → List ℕ
next_text (beside v) = value_text v
next_text (after_comma v) = value_text v

abbrev pub args_texts : Args → List (List ℕ)
args_texts no_args = []
args_texts (some_args v ns) = value_text v ∷ map next_text ns

-- the items of a content, in order; of a simple attribute only the first value counts
abbrev pub items_of : Content → List Item
items_of nothing = []
items_of (stray c) = items_of c
items_of (simple n v vs c) = Simple n (value_text v) ∷ items_of c
items_of (complex n a c) = Complex n (args_texts a) ∷ items_of c
items_of (subgroup n a i c) = Sub (record { name = n; args = args_texts a; items = items_of i }) ∷ items_of c

-- the group that a tree stands for
abbrev pub group_of : Tree → Node
group_of t = record { name = t.name; args = args_texts t.args; items = items_of t.content }

-- how many groups stand in one another in a content
abbrev pub depth : Content → ℕ
depth nothing = 0
depth (stray c) = depth c
depth (simple n v vs c) = depth c
depth (complex n a c) = depth c
depth (subgroup n a i c) = max (depth i + 1) (depth c)

-- how many groups may stand in one another, the root among them
abbrev pub max_depth : ℕ
max_depth = 64

-- the tokens are the spelling of a tree that stands for the group, and no group is too deep
pub record LibText (ts : List Token) (g : Node) : Type 0 where
  pub tree : Tree
  pub spells : ts ≡ spelling tree
  pub stands : g ≡ group_of tree
  pub shallow : depth tree.content + 1 ≤ max_depth

abbrev pub IsText : List Token → Type 0
IsText ts = (g : Node) × LibText ts g
