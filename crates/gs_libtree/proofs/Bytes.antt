-- The tree of a text has no more bytes than the text.

use Rattle.std.proofs.Common.{◌≡◌, ℕ, ◌+◌, ◌-◌, ◌≤◌, List, [], ◌∷◌, ◌++◌, length, map, drop, length-take, refl, sym, ap, ◌∙◌, Result, Ok, Err, IfOk, arith}
use Rattle.std.specs.List.{flat_map, sum, sum_by, All}
use Rattle.std.proofs.lemmas.List.Sums.{sum-map, sum_by-cons}
use Rattle.std.proofs.lemmas.List.Elements.{All-head, All-tail}
use Rattle.gs_drive.specs.Pieces.{HasPieces}
use Rattle.gs_drive.specs.Tokens.{token_of as token_in, tokens_from}
use Rattle.gs_drive.specs.declared.refusal.Refusal.{Refusal}
use Rattle.gs_text.specs.declared.kinds.Style.TheVariants.{Lib}
use Rattle.gs_text.specs.Pieces.{LiesIn, InOrder, text_of, opening_len, closing_len}
use Rattle.gs_text.specs.declared.kinds.Piece.{Piece}
use Rattle.gs_libtree.specs.Bytes.{item_bytes, group_bytes, bytes_of}
use Rattle.gs_libtree.specs.Text.{LibText, value_text, next_text, args_texts, items_of, group_of}
use Rattle.gs_libtree.specs.Token.{Token, word, quoted, closes, enters, leaves, semicolon, token, class_of, token_of, tokens}
use Rattle.gs_libtree.specs.Tree.{Value, bare, in_quotes, Next, beside, after_comma, Args, no_args, some_args, Content, nothing, stray, simple, complex, subgroup, Tree, value_token, next_tokens, args_tokens, content_tokens, spelling}
use Rattle.gs_libtree.specs.Refusal.{IsLiberty}
use Rattle.gs_libtree.specs.declared.error.Rule.{Rule}
use Rattle.gs_libtree.specs.declared.token.Class.{Class}
use Rattle.gs_libtree.specs.declared.tree.Node.{Node}
use Rattle.gs_libtree.specs.declared.tree.Item.{Item}
use Rattle.gs_libtree.specs.declared.tree.Item.TheVariants.{Simple, Complex, Sub, rolls-Simple, rolls-Complex, rolls-Sub}
use Rattle.gs_libtree.specs.declared.tree.Item.TheOpen.{Item-F}
use Rattle.gs_libtree.specs.declared.tree.Item.TheFolds.{fold-Item, fold-roll-Item, fold-roll-Node}

abbrev bytes_of_item : Item → ℕ
bytes_of_item = fold-Item ℕ ℕ item_bytes group_bytes

simple_bytes : (n v : List ℕ) → bytes_of_item (Simple n v) ≡ length n + length v
simple_bytes n v = ap bytes_of_item (sym (rolls-Simple n v)) ∙ fold-roll-Item ℕ ℕ item_bytes group_bytes (Item-F.Simple n v)

complex_bytes : (n : List ℕ) (vs : List (List ℕ)) → bytes_of_item (Complex n vs) ≡ length n + sum_by length vs
complex_bytes n vs = ap bytes_of_item (sym (rolls-Complex n vs)) ∙ fold-roll-Item ℕ ℕ item_bytes group_bytes (Item-F.Complex n vs)

sub_bytes : (g : Node) → bytes_of_item (Sub g) ≡ bytes_of g
sub_bytes g = ap bytes_of_item (sym (rolls-Sub g)) ∙ fold-roll-Item ℕ ℕ item_bytes group_bytes (Item-F.Sub g)

node_bytes : (n : List ℕ) (vs : List (List ℕ)) (is : List Item) → bytes_of (record { name = n; args = vs; items = is }) ≡ length n + sum_by length vs + sum (map bytes_of_item is)
node_bytes n vs is = fold-roll-Node ℕ ℕ item_bytes group_bytes (record { name = n; args = vs; items = is })

items_bytes : (i : Item) (is : List Item) → sum (map bytes_of_item (i ∷ is)) ≡ bytes_of_item i + sum (map bytes_of_item is)
items_bytes i is = sum-map bytes_of_item (i ∷ is) ∙ sum_by-cons bytes_of_item i is ∙ ap (λ n. bytes_of_item i + n) (sym (sum-map bytes_of_item is))

-- ---- a tree and its tokens

abbrev token_bytes : Token → ℕ
token_bytes (word t) = length t
token_bytes (quoted t) = length t
token_bytes _ = 0

abbrev tokens_bytes : List Token → ℕ
tokens_bytes [] = 0
tokens_bytes (t ∷ ts) = token_bytes t + tokens_bytes ts

tokens_append : (ts us : List Token) → tokens_bytes (ts ++ us) ≡ tokens_bytes ts + tokens_bytes us
tokens_append [] us = omega arith
tokens_append (t ∷ ts) us = omega (arith, tokens_append ts us)

value_bytes : (v : Value) → token_bytes (value_token v) ≡ length (value_text v)
value_bytes (bare t) = refl
value_bytes (in_quotes t) = refl

nexts_bytes : (ns : List Next) → sum_by length (map next_text ns) ≡ tokens_bytes (flat_map next_tokens ns)
nexts_bytes [] = refl
nexts_bytes (beside v ∷ ns) =
    omega (arith, sum_by-cons length (value_text v) (map next_text ns), value_bytes v, nexts_bytes ns)
nexts_bytes (after_comma v ∷ ns) =
    omega (arith, sum_by-cons length (value_text v) (map next_text ns), value_bytes v, nexts_bytes ns)

args_bytes : (a : Args) → sum_by length (args_texts a) ≡ tokens_bytes (args_tokens a)
args_bytes no_args = refl
args_bytes (some_args v ns) =
    omega (arith, sum_by-cons length (value_text v) (map next_text ns), value_bytes v, nexts_bytes ns)

-- a content's items have no more bytes than its tokens
content_bytes : (c : Content) → sum (map bytes_of_item (items_of c)) ≤ tokens_bytes (content_tokens c)
content_bytes nothing = omega arith
content_bytes (stray c) = omega (arith, content_bytes c)
content_bytes (simple n v vs c) =
    omega (
      arith,
      items_bytes (Simple n (value_text v)) (items_of c),
      simple_bytes n (value_text v),
      value_bytes v,
      tokens_append (map value_token vs) (semicolon ∷ content_tokens c),
      content_bytes c,
    )
content_bytes (complex n a c) =
    omega (
      arith,
      items_bytes (Complex n (args_texts a)) (items_of c),
      complex_bytes n (args_texts a),
      args_bytes a,
      tokens_append (args_tokens a) (closes ∷ semicolon ∷ content_tokens c),
      content_bytes c,
    )
content_bytes (subgroup n a i c) =
    let g : Node = record { name = n; args = args_texts a; items = items_of i } in
    omega (
      arith,
      items_bytes (Sub g) (items_of c),
      sub_bytes g,
      node_bytes n (args_texts a) (items_of i),
      args_bytes a,
      tokens_append (args_tokens a) (closes ∷ enters ∷ (content_tokens i ++ leaves ∷ content_tokens c)),
      tokens_append (content_tokens i) (leaves ∷ content_tokens c),
      content_bytes i,
      content_bytes c,
    )

tree_bytes : (t : Tree) → bytes_of (group_of t) ≤ tokens_bytes (spelling t)
tree_bytes t =
    omega (
      arith,
      node_bytes t.name (args_texts t.args) (items_of t.content),
      args_bytes t.args,
      tokens_append (args_tokens t.args) (closes ∷ enters ∷ (content_tokens t.content ++ leaves ∷ [])),
      tokens_append (content_tokens t.content) (leaves ∷ []),
      content_bytes t.content,
    )

text_bytes : (ts : List Token) (g : Node) → LibText ts g → bytes_of g ≤ tokens_bytes ts
text_bytes ts g t =
    let same = ap bytes_of t.stands in
    let tokens = ap tokens_bytes t.spells in
    omega (arith, tree_bytes t.tree)

-- ---- tokens and the text

class_bytes : (k : Class) (text : List ℕ) → token_bytes (token k text) ≤ length text
class_bytes Class.Word text = omega arith
class_bytes Class.Quoted text = omega arith
class_bytes _ text = omega arith

piece_bytes : (bytes : List ℕ) (p : Piece) → LiesIn (length bytes) p → token_bytes (token_in token_of bytes p) ≤ p.to - p.from
piece_bytes bytes p h =
    let text = text_of bytes p in
    let cut = length-take (p.to - closing_len p.kind - (p.from + opening_len p.kind)) (drop (p.from + opening_len p.kind) bytes) in
    omega (arith, class_bytes (class_of p.kind text) text)

-- pieces in order, none before a place, have no more bytes than the text after it
pieces_bytes : (bytes : List ℕ) (ps : List Piece) (at : ℕ) → All (LiesIn (length bytes)) ps → InOrder at ps → at ≤ length bytes
    → at + tokens_bytes (map (token_in token_of bytes) ps) ≤ length bytes
pieces_bytes bytes [] at all order le = omega arith
pieces_bytes bytes (p ∷ ps) at all order le =
    let h : LiesIn (length bytes) p = All-head (LiesIn (length bytes)) p ps all in
    let rest : p.to + tokens_bytes (map (token_in token_of bytes) ps) ≤ length bytes =
    pieces_bytes bytes ps p.to (All-tail (LiesIn (length bytes)) p ps all) order.1 h.within in
    omega (arith, h.some, order.0, piece_bytes bytes p h)

small_by : (bytes : List ℕ) (g : Node) → IsLiberty bytes g → HasPieces Lib bytes → bytes_of g ≤ length bytes
small_by bytes g v h =
    let found : tokens bytes ≡ Ok (map (token_in token_of bytes) h.found) = ap (tokens_from token_of bytes) h.cut_is in
    let same : v.0 ≡ map (token_in token_of bytes) h.found = cc (v.1, found) in
    omega (arith, text_bytes v.0 g v.2, ap tokens_bytes same, pieces_bytes bytes h.found 0 h.inside h.ordered (omega arith))

-- what is read has no more bytes than its text
pub read_small : (bytes : List ℕ) (r : Result Node (Refusal Rule)) → IfOk r (λ g. IsLiberty bytes g) → IfOk r (λ _. HasPieces Lib bytes)
    → IfOk r (λ g. bytes_of g ≤ length bytes)
read_small bytes (Ok g) v h = small_by bytes g v h
read_small bytes (Err e) v h = tt

-- and so where the text has at most so many
pub smaller : (m n : ℕ) (r : Result Node (Refusal Rule)) → m ≤ n → IfOk r (λ g. bytes_of g ≤ m) → IfOk r (λ g. bytes_of g ≤ n)
smaller m n (Ok g) le h = omega (arith, h)
smaller m n (Err e) le h = tt
