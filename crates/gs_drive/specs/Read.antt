-- What a machine may rest on: its state is the one after the tokens of some pieces.

use Rattle.std.specs.Prelude.{◌≡◌, ℕ, ◌≤◌, List, length, map, Result, Ok}
use Rattle.std.specs.List.{All}
use Rattle.gs_grammar.specs.Machine.{run}
use Rattle.gs_text.specs.Bytes.{max_text}
use Rattle.gs_text.specs.Pieces.{HasGoodText, text_of}
use Rattle.gs_text.specs.declared.kinds.Kind.{Kind}
use Rattle.gs_text.specs.declared.kinds.Piece.{Piece}
use Rattle.gs_drive.specs.Tokens.{token_of}
use Rattle.gs_drive.specs.declared.machine.Fault.{Fault}

-- the state is the one after the tokens of some pieces, which are few enough to be counted and have good texts
pub record HasRead {S T R : Type 0} (token : Kind → List ℕ → ℕ → T) (step : S → T → Result S (Fault R)) (begin s : S) : Type 0 where
  pub bytes : List ℕ
  pub pieces : List Piece
  pub few : length pieces ≤ max_text
  pub solid : All (λ p. HasGoodText p.kind (text_of bytes p)) pieces
  pub run_is : run step begin (map (token_of token bytes) pieces) ≡ Ok s
