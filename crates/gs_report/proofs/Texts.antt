-- A text that grows by a line for each number.

use Rattle.std.proofs.Common.{◌≡◌, ℕ, ◌+◌, List, [], ◌∷◌, ◌++◌, map, refl, sym, ◌∙◌, ap, arith}
use Rattle.std.specs.List.{flat_map, range_with_len}
use Rattle.std.proofs.lemmas.List.FromFn.{map-range_with_len_more}
use Rattle.std.proofs.lemmas.List.{flat_map_more}

map_same : (ns : List ℕ) → map (λ n. n) ns ≡ ns
map_same [] = refl
map_same (n ∷ ns) = ap (λ ms. n ∷ ms) (map_same ns)

numbers_more : (n : ℕ) → range_with_len 0 n ++ n ∷ [] ≡ range_with_len 0 (n + 1)
numbers_more n =
    sym (sym (map_same (range_with_len 0 (n + 1))) ∙ map-range_with_len_more (λ k. k) 0 n n (omega arith) ∙ ap (λ ns. ns ++ n ∷ []) (map_same (range_with_len 0 n)))

-- a line for one number more
pub numbered_more : (f : ℕ → List ℕ) (start text now : List ℕ) (n : ℕ) → text ≡ start ++ flat_map f (range_with_len 0 n) → now ≡ text ++ f n → now ≡ start ++ flat_map f (range_with_len 0 (n + 1))
numbered_more f start text now n so_far added =
    added ∙ ap (λ t. t ++ f n) so_far ∙ flat_map_more f start (range_with_len 0 n) n ∙ ap (λ ns. start ++ flat_map f ns) (numbers_more n)
