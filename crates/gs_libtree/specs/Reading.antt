-- The state of a reader, and its refusals.

use Rattle.std.specs.Prelude.{reverse}
use Rattle.gs_drive.specs.declared.refusal.Refusal.{Refusal}
use Rattle.gs_text.specs.declared.kinds.TextErr.{TextErr}
use Rattle.gs_libtree.specs.Machine.{State, at}
use Rattle.gs_libtree.specs.declared.error.LibTextErr.{LibTextErr}
use Rattle.gs_libtree.specs.declared.error.Rule.{Rule}
use Rattle.gs_libtree.specs.declared.reader.Reader.{Reader}

-- a reader keeps the innermost group last
abbrev pub state_of : Reader → State
state_of r = at r.place r.name r.values.items (reverse r.groups.items)

-- the text's refusal for the driver's; where the text ends early, its end is the bad piece
abbrev pub refusal_of : Refusal Rule → LibTextErr
refusal_of (Refusal.Text (TextErr.OpenString at)) = LibTextErr.OpenString at
refusal_of (Refusal.Text (TextErr.OpenComment at)) = LibTextErr.OpenComment at
refusal_of (Refusal.Text TextErr.Mem) = LibTextErr.Mem
refusal_of (Refusal.Bad i) = LibTextErr.BadPiece i
refusal_of (Refusal.Broken i rule) = LibTextErr.TooDeep i
refusal_of (Refusal.Early i) = LibTextErr.BadPiece i
refusal_of Refusal.Mem = LibTextErr.Mem
