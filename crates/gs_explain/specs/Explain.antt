-- What is printed of a status.
use Rattle.std.specs.Prelude.{◌≡◌, ◌⊎◌, ◌<◌, ℕ, List, [], ◌∷◌, length, codes, Option, None, Some}
use Rattle.std.specs.List.{concat}
use Rattle.gs_lib.specs.declared.error.LibErr.{LibErr}
use Rattle.gs_shelf.specs.Faults.{Counts, Rose}
use Rattle.gs_shelf.specs.Files.{Files, content}
use Rattle.gs_shelf.specs.declared.calls.Op.TheVariants.{Fetch}
use Rattle.gs_shelf.specs.declared.reason.Reason.{Reason}
use Rattle.gs_shelf.specs.declared.whole.TheConstants.{FILE_LIMIT}
use Rattle.gs_survey.specs.declared.error.LinkErr.{LinkErr}
use Rattle.gs_survey.specs.declared.error.LinkErr.TheVariants.{TwoDrivers}
use Rattle.gs_top.specs.Job.{input_of, job_of, output_of}
use Rattle.gs_top.specs.declared.job.Job.{Job}
use Rattle.gs_top.specs.declared.status.Input.{Input}
use Rattle.gs_top.specs.declared.status.Input.TheVariants.{Lib, Verilog}
use Rattle.gs_top.specs.declared.status.Output.{Output}
use Rattle.gs_top.specs.declared.status.Output.TheVariants.{Sizes, Log, Report, Console}
use Rattle.gs_top.specs.declared.status.TextWhy.{TextWhy}
use Rattle.gs_top.specs.declared.status.Status.{Status}
use Rattle.gs_top.specs.declared.status.Status.TheVariants.{Done, Checked, Usage, ReadFault, TooLarge, BadText, BadLibrary, BadDesign, WriteFault, OutOfMemory}
use Rattle.gs_explain.specs.Located.{unplaced}
use Rattle.gs_explain.specs.Object.{IsLibPlace, IsLinkPlace, IsPlaced}
use Rattle.gs_explain.specs.Rest.{lib_text, link_file, link_text, reason_text}
use Rattle.gs_explain.specs.Spot.{IsTold}
use Rattle.gs_explain.specs.Text.{spot_of, why_text}
use Rattle.gs_explain.specs.Twice.{IsTwiceBy, IsTwiceTold, twice_driven}
use Rattle.gs_explain.specs.Words.{usage_text}

abbrev pub memory_text : List ℕ
memory_text = codes "gate-sizer: memory ran out\n"

-- the name of a file that the words' job reads; words without a job name none
abbrev pub input_name : Option Job → Input → List ℕ
input_name None file = []
input_name (Some job) file = input_of job file

-- the name of what the job writes; standard output has none in the words
abbrev pub output_name : Option Job → Output → List ℕ
output_name None Sizes = []
output_name None Log = []
output_name None Report = []
output_name None Console = codes "standard output"
output_name (Some job) Sizes = output_of job Sizes
output_name (Some job) Log = output_of job Log
output_name (Some job) Report = output_of job Report
output_name (Some job) Console = codes "standard output"

abbrev pub unread_text : Option Reason → List ℕ
unread_text reason = concat (codes "the file cannot be read" ∷ reason_text reason ∷ [])

abbrev pub unwritten_text : Option Reason → List ℕ
unwritten_text reason = concat (codes "the file cannot be written" ∷ reason_text reason ∷ [])

-- the file can't be fetched again: a fetch of it failed, or it is too long by now
abbrev pub IsLost : (tells : Type 0) → (name : List ℕ) → Files → (old new : Counts) → Type 0
IsLost tells name files old new = Rose (old Fetch name) (new Fetch name) ⊎ (tells → FILE_LIMIT < length (content files name))

-- of a refused file: what its bytes tell, or, where it is lost, what is said of it
abbrev pub IsToldOf : (Tells : (bytes text : List ℕ) → Type 0) → (tells : Type 0) → (name what : List ℕ) → Files → (old new : Counts) → (text : List ℕ) → Type 0
IsToldOf Tells tells name what files old new text =
    (tells → Tells (content files name) text) ⊎ (IsLost tells name files old new × (text ≡ unplaced name what))

abbrev pub IsTextExplained : (tells : Type 0) → (name : List ℕ) → Input → TextWhy → (place : ℕ) → Files → (old new : Counts) → (text : List ℕ) → Type 0
IsTextExplained tells name file why place files old new text =
    IsToldOf (IsTold name (spot_of file why place) (why_text file why)) tells name (why_text file why) files old new text

abbrev pub IsLibraryExplained : (tells : Type 0) → (name : List ℕ) → LibErr → Files → (old new : Counts) → (text : List ℕ) → Type 0
IsLibraryExplained tells name e files old new text = IsToldOf (IsPlaced (IsLibPlace e) name (lib_text e)) tells name (lib_text e) files old new text

-- of a net with two drivers, by the netlist's bytes: the library is fetched too, and where it is lost, the drivers aren't told
abbrev pub IsTwiceWith : (tells : Type 0) → (lib net name : List ℕ) → Files → (old new : Counts) → (bytes text : List ℕ) → Type 0
IsTwiceWith tells lib net name files old new bytes text =
    (tells → IsTwiceTold (content files lib) net name bytes text) ⊎ (IsLost tells lib files old new × IsTwiceBy None net name bytes text)

abbrev pub IsTwiceExplained : (tells : Type 0) → (lib net name : List ℕ) → Files → (old new : Counts) → (text : List ℕ) → Type 0
IsTwiceExplained tells lib net name files old new text =
    IsToldOf (IsTwiceWith tells lib net name files old new) tells name (link_text (TwoDrivers net)) files old new text

abbrev pub IsObjectExplained : (tells : Type 0) → (name : List ℕ) → LinkErr → Files → (old new : Counts) → (text : List ℕ) → Type 0
IsObjectExplained tells name e files old new text = IsToldOf (IsPlaced (IsLinkPlace e) name (link_text e)) tells name (link_text e) files old new text

abbrev pub IsDesignBy : (twice : Option (List ℕ)) → (tells : Type 0) → Option Job → LinkErr → Files → (old new : Counts) → (text : List ℕ) → Type 0
IsDesignBy (Some net) tells job e files old new text = IsTwiceExplained tells (input_name job Lib) net (input_name job Verilog) files old new text
IsDesignBy None tells job e files old new text = IsObjectExplained tells (input_name job (link_file e)) e files old new text

-- of a net with two drivers both, of another refusal its object
abbrev pub IsDesignExplained : (tells : Type 0) → Option Job → LinkErr → Files → (old new : Counts) → (text : List ℕ) → Type 0
IsDesignExplained tells job e files old new text = IsDesignBy (twice_driven e) tells job e files old new text

-- of the status of words
abbrev pub IsExplained : (tells : Type 0) → (words : List (List ℕ)) → Status → Option Reason → Files → (old new : Counts) → (text : List ℕ) → Type 0
IsExplained tells words (Done ended violations leakage commits) reason files old new text = text ≡ []
IsExplained tells words (Checked violations leakage) reason files old new text = text ≡ []
IsExplained tells words Usage reason files old new text = text ≡ usage_text words
IsExplained tells words (ReadFault file) reason files old new text = text ≡ unplaced (input_name (job_of words) file) (unread_text reason)
IsExplained tells words (TooLarge file) reason files old new text = text ≡ unplaced (input_name (job_of words) file) (codes "the file has more than 268435456 bytes")
IsExplained tells words (BadText file why place) reason files old new text =
    IsTextExplained tells (input_name (job_of words) file) file why place files old new text
IsExplained tells words (BadLibrary e) reason files old new text = IsLibraryExplained tells (input_name (job_of words) Lib) e files old new text
IsExplained tells words (BadDesign e) reason files old new text = IsDesignExplained tells (job_of words) e files old new text
IsExplained tells words (WriteFault to) reason files old new text = text ≡ unplaced (output_name (job_of words) to) (unwritten_text reason)
IsExplained tells words OutOfMemory reason files old new text = text ≡ memory_text
