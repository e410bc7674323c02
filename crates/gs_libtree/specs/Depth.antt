-- Where the groups of a content may open.

use Rattle.std.specs.Prelude.{ℕ, ◌≡◌, ◌+◌, true}
use Rattle.gs_libtree.specs.Machine.{Room}
use Rattle.gs_libtree.specs.Tree.{Content, nothing, stray, simple, complex, subgroup}

-- each group of a content in which so many groups are open has room to open
abbrev pub Fits : Room → ℕ → Content → Type 0
Fits room o nothing = Unit {0}
Fits room o (stray c) = Fits room o c
Fits room o (simple n v vs c) = Fits room o c
Fits room o (complex n a c) = Fits room o c
Fits room o (subgroup n a i c) = (room o ≡ true) × Fits room (o + 1) i × Fits room o c
