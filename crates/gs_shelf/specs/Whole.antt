-- The answers of reading a whole file.
use Rattle.std.specs.Prelude.{ℕ, ◌<◌, List, length}
use Rattle.gs_shelf.specs.declared.calls.ShelfErr.{ShelfErr}
use Rattle.gs_shelf.specs.declared.calls.ShelfErr.TheVariants as calls
use Rattle.gs_shelf.specs.declared.whole.FetchErr.{FetchErr}
use Rattle.gs_shelf.specs.declared.whole.FetchErr.TheVariants.{Failed, TooLarge, Mem}
use Rattle.gs_shelf.specs.Faults.{Rose}

-- `Failed` only where the file's count rose; `TooLarge` only for a file of more bytes than the limit; `Mem` is free
abbrev pub FetchCause : (tells : Type 0) (limit before now : ℕ) (bytes : List ℕ) → FetchErr → Type 0
FetchCause tells limit before now bytes Failed = Rose before now
FetchCause tells limit before now bytes TooLarge = tells → limit < length bytes
FetchCause tells limit before now bytes Mem = Unit {0}

-- the fault of one fetch as that of the whole file
abbrev pub fetch_err : ShelfErr → FetchErr
fetch_err calls.Failed = Failed
fetch_err calls.Mem = Mem
