-- Lines up to a place.
use Rattle.std.proofs.Common.{◌≡◌, ◌≢◌, ◌∙◌, ◌⊎◌, inl, inr, sym, ap, ℕ, ◌+◌, ◌≤◌, List, arith}
use Rattle.gs_explain.specs.Place.{line_of}

up_to : (k i : ℕ) → k ≤ i + 1 → (k ≤ i) ⊎ (k ≡ i + 1)
up_to k i h = grind arith

-- where no place up to here has the line, and the next has another, none up to the next has it
pub none_more : (bytes : List ℕ) (i here line : ℕ) → ((k : ℕ) → k ≤ i → line_of bytes k ≡ line → ⊥) → here ≡ line_of bytes (i + 1) → here ≢ line
    → (k : ℕ) → k ≤ i + 1 → line_of bytes k ≡ line → ⊥
none_more bytes i here line none is other k h e =
    elim (up_to k i h) [ inl below ↦ none k below e | inr last ↦ other (is ∙ ap (line_of bytes) (sym last) ∙ e) ]
