-- What is left of a text at each place of the form, and the group that it ends in.

use Rattle.std.proofs.Common.{◌≡◌, ℕ, ◌⊎◌, true, List, [], ◌∷◌, ◌++◌, length, map}
use Rattle.std.specs.List.{flat_map}
use Rattle.gs_libtree.specs.Depth.{Fits}
use Rattle.gs_libtree.specs.Machine.{Room, State, with_item}
use Rattle.gs_libtree.specs.Text.{value_text, next_text, args_texts, items_of, group_of}
use Rattle.gs_libtree.specs.Token.{Token, opens, closes, enters, leaves, semicolon, colon}
use Rattle.gs_libtree.specs.Tree.{Value, Next, Args, Content, Tree, value_token, next_tokens, args_tokens, content_tokens, spelling}
use Rattle.gs_libtree.specs.declared.reader.Place.{Place}
use Rattle.gs_libtree.specs.declared.reader.Place.TheVariants.{Start, Named, FirstArg, Arg, NextArg, Closed, Body, FirstValue, Values, Done}
use Rattle.gs_libtree.specs.declared.tree.Node.{Node}
use Rattle.gs_libtree.specs.declared.tree.Item.{Item}
use Rattle.gs_libtree.specs.declared.tree.Item.TheVariants.{Simple, Complex, Sub}

-- a group with more items
abbrev pub grown : Node → List Item → Node
grown g is = record g { items = g.items ++ is }

-- a new group
abbrev pub fresh : List ℕ → List (List ℕ) → Node
fresh n vs = record { name = n; args = vs; items = [] }

-- the rest of the root group's content, to the end of the text
pub record LastLeft (room : Room) (g : Node) (ts : List Token) (r : Node) : Type 0 where
  pub content : Content
  pub fits : Fits room 1 content
  pub spells : ts ≡ content_tokens content ++ leaves ∷ []
  pub makes : r ≡ grown g (items_of content)

-- the rest of a group's content, and P of the group and what follows it
pub record InnerLeft (room : Room) (o : ℕ) (g : Node) (ts : List Token) (P : Node → List Token → Type 0) : Type 0 where
  pub content : Content
  pub rest : List Token
  pub fits : Fits room o content
  pub spells : ts ≡ content_tokens content ++ leaves ∷ rest
  pub left : P (grown g (items_of content)) rest

-- what is left where the group g is open in these
abbrev pub CloseLeft : Room → Node → List Node → List Token → Node → Type 0
CloseLeft room g [] ts r = LastLeft room g ts r
CloseLeft room g (h ∷ gs) ts r = InnerLeft room (length (g ∷ h ∷ gs)) g ts (λ k us. CloseLeft room (record h { items = h.items ++ Sub k ∷ [] }) gs us r)

abbrev pub BodyLeft : Room → List Node → List Token → Node → Type 0
BodyLeft room [] ts r = Unit {0}
BodyLeft room (g ∷ gs) ts r = CloseLeft room g gs ts r

pub record ValuesLeft (room : Room) (gs : List Node) (ts : List Token) (r : Node) : Type 0 where
  pub more : List Value
  pub rest : List Token
  pub spells : ts ≡ map value_token more ++ semicolon ∷ rest
  pub left : BodyLeft room gs rest r

pub record ValueLeft (room : Room) (n : List ℕ) (gs : List Node) (ts : List Token) (r : Node) : Type 0 where
  pub value : Value
  pub rest : List Token
  pub spells : ts ≡ value_token value ∷ rest
  pub left : ValuesLeft room (with_item gs (Simple n (value_text value))) rest r

-- a complex attribute, which stands in a group
abbrev pub ComplexLeft : Room → List ℕ → List (List ℕ) → List Node → List Token → Node → Type 0
ComplexLeft room n vs [] ts r = ⊥
ComplexLeft room n vs (g ∷ gs) ts r = CloseLeft room (record g { items = g.items ++ Complex n vs ∷ [] }) gs ts r

pub record EndedLeft (room : Room) (n : List ℕ) (vs : List (List ℕ)) (gs : List Node) (ts : List Token) (r : Node) : Type 0 where
  pub rest : List Token
  pub spells : ts ≡ semicolon ∷ rest
  pub left : ComplexLeft room n vs gs rest r

pub record EnteredLeft (room : Room) (n : List ℕ) (vs : List (List ℕ)) (gs : List Node) (ts : List Token) (r : Node) : Type 0 where
  pub rest : List Token
  pub spells : ts ≡ enters ∷ rest
  pub fits : room (length gs) ≡ true
  pub left : CloseLeft room (fresh n vs) gs rest r

abbrev pub ClosedLeft : Room → List ℕ → List (List ℕ) → List Node → List Token → Node → Type 0
ClosedLeft room n vs gs ts r = EndedLeft room n vs gs ts r ⊎ EnteredLeft room n vs gs ts r

pub record ArgLeft (room : Room) (n : List ℕ) (vs : List (List ℕ)) (gs : List Node) (ts : List Token) (r : Node) : Type 0 where
  pub nexts : List Next
  pub rest : List Token
  pub spells : ts ≡ flat_map next_tokens nexts ++ closes ∷ rest
  pub left : ClosedLeft room n (vs ++ map next_text nexts) gs rest r

pub record NextLeft (room : Room) (n : List ℕ) (vs : List (List ℕ)) (gs : List Node) (ts : List Token) (r : Node) : Type 0 where
  pub value : Value
  pub rest : List Token
  pub spells : ts ≡ value_token value ∷ rest
  pub left : ArgLeft room n (vs ++ value_text value ∷ []) gs rest r

pub record ArgsLeft (room : Room) (n : List ℕ) (vs : List (List ℕ)) (gs : List Node) (ts : List Token) (r : Node) : Type 0 where
  pub args : Args
  pub rest : List Token
  pub spells : ts ≡ args_tokens args ++ closes ∷ rest
  pub left : ClosedLeft room n (vs ++ args_texts args) gs rest r

pub record OpenedLeft (room : Room) (n : List ℕ) (gs : List Node) (ts : List Token) (r : Node) : Type 0 where
  pub rest : List Token
  pub spells : ts ≡ opens ∷ rest
  pub left : ArgsLeft room n [] gs rest r

-- a simple attribute, which stands in a group
abbrev pub SimpleLeft : Room → List ℕ → List Node → List Token → Node → Type 0
SimpleLeft room n [] ts r = ⊥
SimpleLeft room n (g ∷ gs) ts r = ValueLeft room n (g ∷ gs) ts r

pub record ColonLeft (room : Room) (n : List ℕ) (gs : List Node) (ts : List Token) (r : Node) : Type 0 where
  pub rest : List Token
  pub spells : ts ≡ colon ∷ rest
  pub left : SimpleLeft room n gs rest r

abbrev pub NamedLeft : Room → List ℕ → List Node → List Token → Node → Type 0
NamedLeft room n gs ts r = OpenedLeft room n gs ts r ⊎ ColonLeft room n gs ts r

-- a whole text
pub record TreeLeft (room : Room) (ts : List Token) (r : Node) : Type 0 where
  pub tree : Tree
  pub root : room 0 ≡ true
  pub fits : Fits room 1 tree.content
  pub spells : ts ≡ spelling tree
  pub makes : r ≡ group_of tree

abbrev pub StartLeft : Room → List Node → List Token → Node → Type 0
StartLeft room [] ts r = TreeLeft room ts r
StartLeft room (g ∷ gs) ts r = Unit {0}

abbrev pub Left : Room → Place → List ℕ → List (List ℕ) → List Node → List Token → Node → Type 0
Left room Start n vs gs ts r = StartLeft room gs ts r
Left room Named n vs gs ts r = NamedLeft room n gs ts r
Left room FirstArg n vs gs ts r = ArgsLeft room n vs gs ts r
Left room Arg n vs gs ts r = ArgLeft room n vs gs ts r
Left room NextArg n vs gs ts r = NextLeft room n vs gs ts r
Left room Closed n vs gs ts r = ClosedLeft room n vs gs ts r
Left room Body n vs gs ts r = BodyLeft room gs ts r
Left room FirstValue n vs gs ts r = ValueLeft room n gs ts r
Left room Values n vs gs ts r = ValuesLeft room gs ts r
Left room Done n vs gs ts r = (ts ≡ []) × (gs ≡ r ∷ [])

abbrev pub LeftAt : Room → State → List Token → Node → Type 0
LeftAt room s ts r = Left room s.place s.name s.values s.groups ts r
