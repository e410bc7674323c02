-- The open groups of a reader, which keeps the innermost last.

use Rattle.std.proofs.Common.{◌≡◌, ◌∙◌, sym, ap, ℕ, suc, ◌+◌, ◌-◌, ◌<◌, List, [], ◌∷◌, ◌++◌, length, get_or, take, reverse, length-take, arith}
use Rattle.std.proofs.Math.ListN.{set}
use Rattle.std.proofs.Math.Seq.{set-append_seam, take-length, take-suc}
use Rattle.std.proofs.lemmas.List.{reverse-append}
use Rattle.gs_libtree.specs.Machine.{with_item}
use Rattle.gs_libtree.specs.declared.tree.Node.{Node}
use Rattle.gs_libtree.specs.declared.tree.Item.{Item}

-- a list by its last element
pub by_last : (gs : List Node) (n : ℕ) (d : Node) → n + 1 ≡ length gs → gs ≡ take n gs ++ get_or gs n d ∷ []
by_last gs n d e =
    let size : length gs ≡ suc n = omega arith in
    sym (take-length gs) ∙ ap (λ k. take k gs) size ∙ take-suc gs n d (omega arith)

pub reverse_last : (gs : List Node) (g : Node) → reverse (gs ++ g ∷ []) ≡ g ∷ reverse gs
reverse_last gs g = reverse-append gs (g ∷ [])

pub reverse_by_last : (gs : List Node) (n : ℕ) (d : Node) → n + 1 ≡ length gs → reverse gs ≡ get_or gs n d ∷ reverse (take n gs)
reverse_by_last gs n d e = ap reverse (by_last gs n d e) ∙ reverse_last (take n gs) (get_or gs n d)

set_last : (gs : List Node) (n : ℕ) (d y : Node) → n + 1 ≡ length gs → set gs n y ≡ take n gs ++ y ∷ []
set_last gs n d y e =
    let size : length (take n gs) ≡ n = length-take n gs ∙ omega arith in
    ap (λ hs. set hs n y) (by_last gs n d e) ∙ ap (λ k. set (take n gs ++ get_or gs n d ∷ []) k y) (sym size) ∙ set-append_seam (take n gs) (get_or gs n d) [] y

-- the innermost group with one more item
pub item_put : (gs : List Node) (count : ℕ) (last : Node) (items : List Item) (i : Item) → count ≡ length gs → 0 < count
    → last ≡ get_or gs (count - 1) last → items ≡ last.items ++ i ∷ []
    → reverse (set gs (count - 1) (record last { items = items })) ≡ with_item (reverse gs) i
item_put gs count last items i e lt same h =
    let place : count - 1 + 1 ≡ length gs = omega arith in
    let rest : List Node = take (count - 1) gs in
    ap reverse (set_last gs (count - 1) last (record last { items = items }) place)
    ∙ reverse_last rest (record last { items = items })
    ∙ ap (λ is. record last { items = is } ∷ reverse rest) h
    ∙ ap (λ (x : Node). record x { items = x.items ++ i ∷ [] } ∷ reverse rest) same
    ∙ ap (λ hs. with_item hs i) (sym (reverse_by_last gs (count - 1) last place))
