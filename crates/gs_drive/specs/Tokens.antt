-- The tokens of a text: what a reader makes of the kind, the text and the line of each piece.

use Rattle.std.specs.Prelude.{◌≡◌, ℕ, List, map, Result, Ok, Err}
use Rattle.gs_text.specs.Cut.{pieces}
use Rattle.gs_text.specs.Pieces.{text_of}
use Rattle.gs_text.specs.declared.kinds.Kind.{Kind}
use Rattle.gs_text.specs.declared.kinds.Piece.{Piece}
use Rattle.gs_text.specs.declared.kinds.Style.{Style}
use Rattle.gs_text.specs.declared.kinds.TextErr.{TextErr}

abbrev pub token_of : {T : Type 0} → (Kind → List ℕ → ℕ → T) → List ℕ → Piece → T
token_of token bytes p = token p.kind (text_of bytes p) p.line

-- the tokens of pieces, or why there are none
abbrev pub tokens_from : {T : Type 0} → (Kind → List ℕ → ℕ → T) → List ℕ → Result (List Piece) TextErr → Result (List T) TextErr
tokens_from token bytes (Ok ps) = Ok (map (token_of token bytes) ps)
tokens_from token bytes (Err e) = Err e

-- the tokens of a text
abbrev pub tokens : {T : Type 0} → (Kind → List ℕ → ℕ → T) → Style → List ℕ → Result (List T) TextErr
tokens token style bytes = tokens_from token bytes (pieces style bytes)

-- the text has tokens, and P holds of them
abbrev pub OfTokens : {T : Type 0} → Result (List T) TextErr → (List T → Type 0) → Type 0
OfTokens {T} found P = (ts : List T) × (found ≡ Ok ts) × P ts
