-- Why a text is no Liberty text.

use Rattle.std.specs.Prelude.{ℕ, ◌⊎◌, List}
use Rattle.gs_drive.specs.Cause.{Reads}
use Rattle.gs_drive.specs.Tokens.{OfTokens}
use Rattle.gs_grammar.specs.Fronts.{IsFirstBad, IsFirstBroken, EndsEarly}
use Rattle.gs_text.specs.Faults.{HasFault}
use Rattle.gs_text.specs.declared.kinds.Style.TheVariants.{Lib}
use Rattle.gs_text.specs.declared.kinds.TextErr.{TextErr}
use Rattle.gs_libtree.specs.Text.{LibText, IsText}
use Rattle.gs_libtree.specs.Token.{tokens}
use Rattle.gs_libtree.specs.Tree.{IsForm}
use Rattle.gs_libtree.specs.declared.error.LibTextErr.{LibTextErr}
use Rattle.gs_libtree.specs.declared.error.LibTextErr.TheVariants.{OpenString, OpenComment, TooDeep, BadPiece, Mem}
use Rattle.gs_libtree.specs.declared.tree.Node.{Node}

-- the bytes are a Liberty text that stands for this group
abbrev pub IsLiberty : List ℕ → Node → Type 0
IsLiberty bytes g = Reads LibText (tokens bytes) g

-- the cause of each refusal: a string or a comment without an end, or a place among the text's pieces
abbrev pub HasCause : List ℕ → LibTextErr → Type 0
HasCause bytes (OpenString at) = HasFault Lib bytes (TextErr.OpenString at)
HasCause bytes (OpenComment at) = HasFault Lib bytes (TextErr.OpenComment at)
-- with the piece the text only breaks the rule on depth
HasCause bytes (TooDeep i) = OfTokens (tokens bytes) (λ ts. IsFirstBroken IsForm IsText ts i)
-- the piece is the first that fits no text, or the text ends early
HasCause bytes (BadPiece i) = OfTokens (tokens bytes) (λ ts. IsFirstBad IsForm IsText ts i ⊎ EndsEarly IsText ts i)
HasCause bytes Mem = Unit {0}
