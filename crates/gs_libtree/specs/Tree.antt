-- The form of a Liberty text: one group, as a whole tree with its spelling.
--
-- A group is `name ( args ) { items }`, args being words or strings with one comma or none between two neighbours. An item
-- is `name : value .. ;`, `name ( args ) ;` or a group, and semicolons may stand between items.

use Rattle.std.specs.Prelude.{ℕ, ◌≡◌, List, [], ◌∷◌, ◌++◌, map}
use Rattle.std.specs.List.{flat_map}
use Rattle.gs_libtree.specs.Token.{Token, word, quoted, opens, closes, enters, leaves, comma, semicolon, colon}

-- a word or a string
pub data Value : Type 0 where
  bare : List ℕ → Value
  in_quotes : List ℕ → Value

-- a value after another one, with a comma between them or none
pub data Next : Type 0 where
  beside : Value → Next
  after_comma : Value → Next

-- what stands between parentheses
pub data Args : Type 0 where
  no_args : Args
  some_args : Value → List Next → Args

-- what stands between a group's braces
pub data Content : Type 0 where
  nothing : Content
  -- a semicolon on its own
  stray : Content → Content
  -- a simple attribute: its name, its value, and what follows the value
  simple : List ℕ → Value → List Value → Content → Content
  -- a complex attribute: its name and its values
  complex : List ℕ → Args → Content → Content
  -- a group: its name, its args and its content
  subgroup : List ℕ → Args → Content → Content → Content

-- the root group
pub record Tree : Type 0 where
  pub name : List ℕ
  pub args : Args
  pub content : Content

abbrev pub value_token : Value → Token
value_token (bare text) = word text
value_token (in_quotes text) = quoted text

abbrev pub next_tokens : Next → List Token
next_tokens (beside v) = value_token v ∷ []
next_tokens (after_comma v) = comma ∷ value_token v ∷ []

abbrev pub args_tokens : Args → List Token
args_tokens no_args = []
args_tokens (some_args v ns) = value_token v ∷ flat_map next_tokens ns

abbrev pub content_tokens : Content → List Token
content_tokens nothing = []
content_tokens (stray c) = semicolon ∷ content_tokens c
content_tokens (simple n v vs c) =
    word n ∷ colon ∷ value_token v ∷ (map value_token vs ++ semicolon ∷ content_tokens c)
content_tokens (complex n a c) =
    word n ∷ opens ∷ (args_tokens a ++ closes ∷ semicolon ∷ content_tokens c)
content_tokens (subgroup n a i c) =
    word n ∷ opens ∷ (args_tokens a ++ closes ∷ enters ∷ (content_tokens i ++ leaves ∷ content_tokens c))

-- the spelling of a whole text
abbrev pub spelling : Tree → List Token
spelling t = word t.name ∷ opens ∷ (args_tokens t.args ++ closes ∷ enters ∷ (content_tokens t.content ++ leaves ∷ []))

-- the tokens are the spelling of some tree
abbrev pub IsForm : List Token → Type 0
IsForm ts = (t : Tree) × (ts ≡ spelling t)
