-- The exit codes of the program.
use Rattle.std.specs.Prelude.{ℕ, ◌==◌, if◌then◌else◌}
use Rattle.gs_top.specs.declared.status.Status.{Status}
use Rattle.gs_top.specs.declared.status.Status.TheVariants.{Done, Checked, Usage, ReadFault, TooLarge, BadText, BadLibrary, BadDesign, WriteFault, OutOfMemory}

abbrev pub exit_of : Status → ℕ
exit_of (Done ended violations leakage commits) = if violations == 0 then 0 else 1
exit_of (Checked violations leakage) = if violations == 0 then 0 else 1
exit_of Usage = 2
exit_of (BadText file why place) = 3
exit_of (TooLarge file) = 3
exit_of (BadLibrary e) = 3
exit_of (BadDesign e) = 3
exit_of (ReadFault file) = 4
exit_of (WriteFault file) = 5
exit_of OutOfMemory = 6
