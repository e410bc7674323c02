-- A line of a text.

use Rattle.std.specs.Prelude.{ℕ, List, [], ◌∷◌, ◌++◌, flat_map}

-- a word after a space
abbrev pub spaced : List ℕ → List ℕ
spaced word = 32 ∷ word

-- a line: words, one space apart, and a newline
abbrev pub line : (first : List ℕ) → (others : List (List ℕ)) → List ℕ
line first others = first ++ flat_map spaced others ++ 10 ∷ []
