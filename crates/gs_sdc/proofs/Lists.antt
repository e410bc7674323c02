-- Words up to a closing brace, by the place in the pieces.

use Rattle.std.proofs.Common.{◌≡◌, ℕ, ◌+◌, ◌<◌, ◌≤◌, List, [], ◌∷◌, ◌++◌, length, take, drop, map, get_or, refl, sym, ap, ◌∙◌, append_assoc, append-nil, arith, Option, None, Some}
use Rattle.std.proofs.lemmas.List.{drop_all, drop_more, map-append, take_more}
use Rattle.gs_text.specs.Pieces.{text_of}
use Rattle.gs_text.specs.declared.kinds.Piece.{Piece}
use Rattle.gs_sdc.specs.Front.{Found, Words, list_front, with_names}
use Rattle.gs_sdc.specs.Reads.{names_of}
use Rattle.gs_sdc.specs.Token.{Token, mark_of, token_by, token_of}
use Rattle.gs_sdc.specs.declared.token.Mark.{Mark}
use Rattle.gs_sdc.specs.declared.token.Mark.TheVariants as mark

with_more : (xs ys : Words) (o : Option (Found Words)) → with_names xs (with_names ys o) ≡ with_names (xs ++ ys) o
with_more xs ys None = refl
with_more xs ys (Some f) = ap (λ zs. Some (record { item = zs; rest = f.rest })) (sym (append_assoc xs ys f.item))

-- the names before a place, and what is found from there on
abbrev pub found_at : (bytes : List ℕ) → List Piece → ℕ → Option (Found Words)
found_at bytes ps i = with_names (names_of bytes (take i ps)) (list_front (map (token_of bytes) (drop i ps)))

at_place : (bytes : List ℕ) (ps : List Piece) (i : ℕ) (d : Piece) (m : Mark) → i < length ps → mark_of (get_or ps i d).kind (text_of bytes (get_or ps i d)) ≡ m
    → found_at bytes ps i ≡ with_names (names_of bytes (take i ps)) (list_front (token_by m (text_of bytes (get_or ps i d)) ∷ map (token_of bytes) (drop (i + 1) ps)))
at_place bytes ps i d m lt is =
    ap (λ qs. with_names (names_of bytes (take i ps)) (list_front (map (token_of bytes) qs))) (drop_more ps i d lt)
    ∙ ap (λ k. with_names (names_of bytes (take i ps)) (list_front (token_by k (text_of bytes (get_or ps i d)) ∷ map (token_of bytes) (drop (i + 1) ps)))) is

-- a word goes on
pub goes_on : (bytes : List ℕ) (ps : List Piece) (i : ℕ) (d : Piece) → i < length ps → mark_of (get_or ps i d).kind (text_of bytes (get_or ps i d)) ≡ mark.Word
    → found_at bytes ps (i + 1) ≡ found_at bytes ps i
goes_on bytes ps i d lt is =
    let text = text_of bytes (get_or ps i d) in
    let others = list_front (map (token_of bytes) (drop (i + 1) ps)) in
    let more : names_of bytes (take (i + 1) ps) ≡ names_of bytes (take i ps) ++ text ∷ [] =
    ap (names_of bytes) (take_more ps i d lt) ∙ map-append (text_of bytes) (take i ps) (get_or ps i d ∷ []) in
    ap (λ xs. with_names xs others) more ∙ sym (with_more (names_of bytes (take i ps)) (text ∷ []) others) ∙ sym (at_place bytes ps i d mark.Word lt is)

-- a closing brace ends
pub ends : (bytes : List ℕ) (ps : List Piece) (i : ℕ) (d : Piece) → i < length ps → mark_of (get_or ps i d).kind (text_of bytes (get_or ps i d)) ≡ mark.ClosesList
    → found_at bytes ps i ≡ Some (record { item = names_of bytes (take i ps); rest = map (token_of bytes) (drop (i + 1) ps) })
ends bytes ps i d lt is =
    at_place bytes ps i d mark.ClosesList lt is
    ∙ ap (λ xs. Some (record { item = xs; rest = map (token_of bytes) (drop (i + 1) ps) })) (append-nil (names_of bytes (take i ps)))
