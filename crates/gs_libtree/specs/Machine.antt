-- The group of a list of tokens, token by token: the steps of a machine whose open groups stand in a list.

use Rattle.std.specs.Prelude.{ℕ, Bool, true, nat_lt, List, [], ◌∷◌, ◌++◌, length, Option, None, Some, Result, Ok, Err, if◌then◌else◌}
use Rattle.gs_drive.specs.declared.machine.Fault.{Fault}
use Rattle.gs_libtree.specs.Text.{max_depth}
use Rattle.gs_libtree.specs.Token.{Token, word, quoted, opens, closes, enters, leaves, comma, semicolon, colon, other}
use Rattle.gs_libtree.specs.declared.error.Rule.{Rule}
use Rattle.gs_libtree.specs.declared.reader.Place.{Place}
use Rattle.gs_libtree.specs.declared.reader.Place.TheVariants.{Start, Named, FirstArg, Arg, NextArg, Closed, Body, FirstValue, Values, Done}
use Rattle.gs_libtree.specs.declared.tree.Node.{Node}
use Rattle.gs_libtree.specs.declared.tree.Item.{Item}
use Rattle.gs_libtree.specs.declared.tree.Item.TheVariants.{Simple, Complex, Sub}

-- the place, the name that was read last, the values so far, and the open groups, the innermost first
pub record State : Type 0 where
  pub place : Place
  pub name : List ℕ
  pub values : List (List ℕ)
  pub groups : List Node

abbrev pub at : Place → List ℕ → List (List ℕ) → List Node → State
at p n vs gs = record { place = p; name = n; values = vs; groups = gs }

abbrev pub start : State
start = at Start [] [] []

-- the innermost group has one more item
abbrev pub with_item : List Node → Item → List Node
with_item [] i = []
with_item (g ∷ gs) i = record g { items = g.items ++ i ∷ [] } ∷ gs

-- where a group is open
abbrev pub in_group : List Node → State → Result State (Fault Rule)
in_group [] s = Err Fault.Bad
in_group (g ∷ gs) s = Ok s

-- whether one more group may open where so many are open
abbrev pub Room : Type 0
Room = ℕ → Bool

-- so many groups at most
abbrev pub limit : Room
limit n = nat_lt n max_depth

-- the form alone
abbrev pub no_limit : Room
no_limit n = true

-- a word or a string where a value may stand
abbrev pub value_step : Place → List ℕ → List (List ℕ) → List Node → List ℕ → Result State (Fault Rule)
value_step FirstArg n vs gs t = Ok (at Arg n (vs ++ t ∷ []) gs)
value_step Arg n vs gs t = Ok (at Arg n (vs ++ t ∷ []) gs)
value_step NextArg n vs gs t = Ok (at Arg n (vs ++ t ∷ []) gs)
value_step FirstValue n vs gs t = Ok (at Values [] vs (with_item gs (Simple n t)))
value_step Values n vs gs t = Ok (at Values n vs gs)
value_step _ n vs gs t = Err Fault.Bad

abbrev pub word_step : Place → List ℕ → List (List ℕ) → List Node → List ℕ → Result State (Fault Rule)
word_step Start n vs gs t = Ok (at Named t vs gs)
word_step Body n vs gs t = Ok (at Named t vs gs)
word_step p n vs gs t = value_step p n vs gs t

abbrev pub opens_step : Place → List ℕ → List (List ℕ) → List Node → Result State (Fault Rule)
opens_step Named n vs gs = Ok (at FirstArg n [] gs)
opens_step _ n vs gs = Err Fault.Bad

abbrev pub closes_step : Place → List ℕ → List (List ℕ) → List Node → Result State (Fault Rule)
closes_step FirstArg n vs gs = Ok (at Closed n vs gs)
closes_step Arg n vs gs = Ok (at Closed n vs gs)
closes_step _ n vs gs = Err Fault.Bad

-- a group opens, with the name and the values that were read
abbrev pub entered : Bool → List ℕ → List (List ℕ) → List Node → Result State (Fault Rule)
entered fits n vs gs =
    if fits then Ok (at Body [] [] (record { name = n; args = vs; items = [] } ∷ gs)) else Err (Fault.Broken Rule.TooDeep)

abbrev pub enters_step : Room → Place → List ℕ → List (List ℕ) → List Node → Result State (Fault Rule)
enters_step room Closed n vs gs = entered (room (length gs)) n vs gs
enters_step room _ n vs gs = Err Fault.Bad

-- the innermost group closes: it is an item of the next one, or the whole text
abbrev pub left : List ℕ → List (List ℕ) → List Node → Result State (Fault Rule)
left n vs [] = Err Fault.Bad
left n vs (g ∷ []) = Ok (at Done n vs (g ∷ []))
left n vs (f ∷ g ∷ gs) = Ok (at Body n vs (with_item (g ∷ gs) (Sub f)))

abbrev pub leaves_step : Place → List ℕ → List (List ℕ) → List Node → Result State (Fault Rule)
leaves_step Body n vs gs = left n vs gs
leaves_step _ n vs gs = Err Fault.Bad

abbrev pub comma_step : Place → List ℕ → List (List ℕ) → List Node → Result State (Fault Rule)
comma_step Arg n vs gs = Ok (at NextArg n vs gs)
comma_step _ n vs gs = Err Fault.Bad

abbrev pub semicolon_step : Place → List ℕ → List (List ℕ) → List Node → Result State (Fault Rule)
semicolon_step Body n vs gs = Ok (at Body n vs gs)
semicolon_step Values n vs gs = Ok (at Body n vs gs)
semicolon_step Closed n vs gs = in_group gs (at Body [] [] (with_item gs (Complex n vs)))
semicolon_step _ n vs gs = Err Fault.Bad

abbrev pub colon_step : Place → List ℕ → List (List ℕ) → List Node → Result State (Fault Rule)
colon_step Named n vs gs = in_group gs (at FirstValue n vs gs)
colon_step _ n vs gs = Err Fault.Bad

abbrev pub step_at : Room → Place → List ℕ → List (List ℕ) → List Node → Token → Result State (Fault Rule)
step_at room p n vs gs (word t) = word_step p n vs gs t
step_at room p n vs gs (quoted t) = value_step p n vs gs t
step_at room p n vs gs opens = opens_step p n vs gs
step_at room p n vs gs closes = closes_step p n vs gs
step_at room p n vs gs enters = enters_step room p n vs gs
step_at room p n vs gs leaves = leaves_step p n vs gs
step_at room p n vs gs comma = comma_step p n vs gs
step_at room p n vs gs semicolon = semicolon_step p n vs gs
step_at room p n vs gs colon = colon_step p n vs gs
step_at room p n vs gs other = Err Fault.Bad

abbrev pub step : Room → State → Token → Result State (Fault Rule)
step room s t = step_at room s.place s.name s.values s.groups t

-- the group that the tokens so far stand for, where they are a whole text
abbrev pub end_at : Place → List Node → Option Node
end_at Done (g ∷ gs) = Some g
end_at _ _ = None

abbrev pub end_of : State → Option Node
end_of s = end_at s.place s.groups
