-- The pieces that could stand at a place of a text, in the place of one that is refused.
use Rattle.std.specs.Prelude.{◌≡◌, ◌≤◌, ◌⊎◌, ℕ, ◌==◌, List, [], ◌∷◌, length, codes, if◌then◌else◌}
use Rattle.std.specs.List.{concat}
use Rattle.gs_libtree.specs.Refusal as liberty
use Rattle.gs_libtree.specs.declared.error.LibTextErr.TheVariants as lib_err
use Rattle.gs_text.specs.Bytes.{max_text}
use Rattle.gs_text.specs.declared.kinds.Style.{Style}
use Rattle.gs_text.specs.declared.kinds.Style.TheVariants as style
use Rattle.gs_verilog.specs.Refusal as verilog
use Rattle.gs_verilog.specs.declared.error.VerilogErr.TheVariants as verilog_err
use Rattle.gs_explain.specs.declared.form.Form.{Form}
use Rattle.gs_explain.specs.declared.form.Form.TheVariants.{Netlist, Liberty}
use Rattle.gs_explain.specs.declared.form.Wanted.{Wanted}
use Rattle.gs_explain.specs.declared.form.Wanted.TheVariants.{Name, Text, Module, EndModule, Input, Output, Wire, Open, Close, OpenBrace, CloseBrace, Comma, Semicolon, Colon, Dot}

abbrev pub style_of : Form → Style
style_of Netlist = style.Verilog
style_of Liberty = style.Lib

-- a piece of this sort
abbrev pub wanted_text : Wanted → List ℕ
wanted_text Name = codes "x"
wanted_text Text = codes "\"x\""
wanted_text Module = codes "module"
wanted_text EndModule = codes "endmodule"
wanted_text Input = codes "input"
wanted_text Output = codes "output"
wanted_text Wire = codes "wire"
wanted_text Open = codes "("
wanted_text Close = codes ")"
wanted_text OpenBrace = codes "{"
wanted_text CloseBrace = codes "}"
wanted_text Comma = codes ","
wanted_text Semicolon = codes ";"
wanted_text Colon = codes ":"
wanted_text Dot = codes "."

-- what it is called
abbrev pub wanted_name : Wanted → List ℕ
wanted_name Name = codes "a name"
wanted_name Text = codes "a string"
wanted_name Module = codes "'module'"
wanted_name EndModule = codes "'endmodule'"
wanted_name Input = codes "'input'"
wanted_name Output = codes "'output'"
wanted_name Wire = codes "'wire'"
wanted_name Open = codes "'('"
wanted_name Close = codes "')'"
wanted_name OpenBrace = codes "'{'"
wanted_name CloseBrace = codes "'}'"
wanted_name Comma = codes "','"
wanted_name Semicolon = codes "';'"
wanted_name Colon = codes "':'"
wanted_name Dot = codes "'.'"

-- the sorts of pieces that texts of the form have, in the order in which they are told
abbrev pub sorts_of : Form → List Wanted
sorts_of Netlist =
    Name ∷ Module ∷ EndModule ∷ Input ∷ Output ∷ Wire ∷ Open ∷ Close ∷ Dot ∷ Comma ∷ Semicolon ∷ []
sorts_of Liberty = Name ∷ Text ∷ Open ∷ Close ∷ OpenBrace ∷ CloseBrace ∷ Colon ∷ Comma ∷ Semicolon ∷ []

-- the piece of this number is the first with which no text of the form begins
abbrev pub IsBad : Form → (bytes : List ℕ) → (i : ℕ) → Type 0
IsBad Netlist bytes i = verilog.HasCause bytes (verilog_err.BadPiece i)
IsBad Liberty bytes i = liberty.HasCause bytes (lib_err.BadPiece i)

-- the text before a piece, and one of this sort in the piece's place
abbrev pub with_piece : (before : List ℕ) → Wanted → List ℕ
with_piece before w = concat (before ∷ codes " " ∷ wanted_text w ∷ [])

-- a piece of this sort could stand after the text before piece number i: it isn't the one that is refused. A text past the limit isn't asked of
pub record CouldStand (form : Form) (before : List ℕ) (i : ℕ) (w : Wanted) : Type 0 where
  pub fits : length (with_piece before w) ≤ max_text
  pub good : IsBad form (with_piece before w) i → ⊥

-- of all these, just those of which this holds, in their order
abbrev pub AreThose : (Holds : Wanted → Type 0) → (all those : List Wanted) → Type 0
AreThose Holds [] those = those ≡ []
AreThose Holds (w ∷ ws) those = (Holds w × (vs : List Wanted) × (those ≡ w ∷ vs) × AreThose Holds ws vs) ⊎ ((Holds w → ⊥) × AreThose Holds ws those)

-- what could stand there
abbrev pub AreWanted : (form : Form) → (before : List ℕ) → (i : ℕ) → List Wanted → Type 0
AreWanted form before i those = AreThose (CouldStand form before i) (sorts_of form) those

-- what stands between a name and those after it, of which there are so many
abbrev pub between : ℕ → List ℕ
between n = if n == 0 then [] else if n == 1 then codes " or " else codes ", "

-- the names as a sentence has them: `a`, `a or b`, `a, b or c`
abbrev pub names : List Wanted → List ℕ
names [] = []
names (w ∷ ws) = concat (wanted_name w ∷ between (length ws) ∷ names ws ∷ [])
