-- The hash of a name by that of its front.

use Rattle.std.proofs.Common.{◌≡◌, ℕ, ◌+◌, ◌-◌, ◌<◌, ◌≤◌, List, [], ◌∷◌, ◌++◌, length, get_or, take, refl, sym, ap, ◌∙◌, arith}
use Rattle.std.proofs.lemmas.List.{take_all, take_more}
use Rattle.std.proofs.lemmas.List.Sums.{fold-append}
use Rattle.std.specs.Int.Bits.{bit_and}
use Rattle.std.specs.List.{fold}
use Rattle.gs_verilog.specs.Names.{front_of, hash_of, hash_with, place_in}

pub no_bytes : (name : List ℕ) → length name < 1 → 0 ≡ hash_of name
unfolding hash_of
no_bytes [] lt = refl
no_bytes (x ∷ xs) lt = absurd (omega (arith, lt))

pub no_front : (name : List ℕ) → length name < 1 → 0 ≡ hash_of (front_of name)
unfolding hash_of
no_front [] lt = refl
no_front (x ∷ xs) lt = absurd (omega (arith, lt))

-- a name is its front and its last byte
last_apart : (name : List ℕ) → 1 ≤ length name → name ≡ front_of name ++ get_or name (length name - 1) 0 ∷ []
last_apart name some =
    let n = length name - 1 in
    let more : n + 1 ≡ length name = omega (arith, some) in
    let in_it : n < length name = omega (arith, some) in
    sym (take_all (length name) name (omega arith)) ∙ ap (λ k. take k name) (sym more) ∙ take_more name n 0 in_it

pub whole_hash : (name : List ℕ) → 1 ≤ length name → hash_with (hash_of (front_of name)) (get_or name (length name - 1) 0) ≡ hash_of name
unfolding hash_of
whole_hash name some =
    sym (fold-append hash_with 0 (front_of name) (get_or name (length name - 1) 0 ∷ [])) ∙ ap (fold hash_with 0) (sym (last_apart name some))

-- the place of a name's bucket, from the hash of its front
pub place_by : (name : List ℕ) (front n p : ℕ) → p ≡ bit_and front (n - 1) → front ≡ hash_of (front_of name) → p ≡ place_in n name
unfolding place_in
place_by name front n p at is = at ∙ ap (λ h. bit_and h (n - 1)) is
