-- The pieces of a text: from the front on, white is passed over, and what begins at a byte that no piece has taken is a
-- piece, or the text's fault. `IsCutting` says of the same pieces what they are, and the laws of a text that the two agree.
use Rattle.std.specs.Prelude.{◌≡◌, ℕ, zero, suc, ◌+◌, ◌==◌, List, [], ◌∷◌, ◌++◌, Result, Ok, Err, if◌then◌else◌}
use Rattle.gs_text.specs.Before.{in_braces, has_begun}
use Rattle.gs_text.specs.Front.{front}
use Rattle.gs_text.specs.declared.kinds.Kind.{Kind}
use Rattle.gs_text.specs.declared.kinds.Piece.{Piece}
use Rattle.gs_text.specs.declared.kinds.Style.{Style}
use Rattle.gs_text.specs.declared.kinds.Style.TheVariants.{Verilog, Lib, Spef, Sdc}
use Rattle.gs_text.specs.declared.kinds.TextErr.{TextErr}
use Rattle.gs_text.specs.declared.scan.Front.{Front}
use Rattle.gs_text.specs.declared.scan.Front.TheVariants.{Gap, Found, Passed, OpenString, OpenComment}

-- the line after the byte c
abbrev pub line_after : ℕ → ℕ → ℕ
line_after c line = if c == 10 then line + 1 else line

-- the first line of the command that is read past the byte of white c on the line: a newline ends a command
abbrev pub first_after : (c line first : ℕ) → ℕ
first_after c line first = if c == 10 then line + 1 else first

-- the line that a piece is given: the one on which it begins, or the first line of its command
abbrev pub line_of : Style → (line first : ℕ) → ℕ
line_of Verilog line first = line
line_of Lib line first = line
line_of Spef line first = line
line_of Sdc line first = first

-- the piece of so many bytes from place at on
abbrev pub piece_at : Kind → (at len line : ℕ) → Piece
piece_at kind at len line = record { kind = kind; from = at; to = at + len; line = line }

-- the pieces with these before them
abbrev pub onto : List Piece → Result (List Piece) TextErr → Result (List Piece) TextErr
onto ps (Ok qs) = Ok (ps ++ qs)
onto ps (Err e) = Err e

-- what begins at place at with the byte c, and then what go gives past it: of the pieces before, the first line of the
-- command, and how many further bytes belong to what begins
abbrev pub put : Style → Front → (c : ℕ) → (before : List Piece) → (line first at : ℕ) → (List Piece → (now skip : ℕ) → Result (List Piece) TextErr) → Result (List Piece) TextErr
put style Gap c before line first at go = go before (first_after c line first) 0
put style (Found kind zero) c before line first at go = go before first 0
put style (Found kind (suc n)) c before line first at go =
    onto (piece_at kind at (suc n) (line_of style line first) ∷ []) (go (piece_at kind at (suc n) (line_of style line first) ∷ before) first n)
put style (Passed zero) c before line first at go = go before first 0
put style (Passed (suc n)) c before line first at go = go before first n
put style OpenString c before line first at go = Err (TextErr.OpenString at)
put style OpenComment c before line first at go = Err (TextErr.OpenComment at)

-- the pieces of what is left of the bytes, past its first skip: these pieces stand before it, the latest first, and at bytes;
-- it begins on the line, in a command that began on the line first. Or the first fault
unfoldable pub cut : Style → (bytes : List ℕ) → (before : List Piece) → (line first at skip : ℕ) → List ℕ → Result (List Piece) TextErr
cut style bytes before line first at skip [] = Ok []
cut style bytes before line first at (suc skip) (c ∷ cs) = cut style bytes before (line_after c line) first (at + 1) skip cs
cut style bytes before line first at zero (c ∷ cs) =
    put style (front style (in_braces bytes before) (has_begun first before) c cs) c before line first at
    (λ past now skip. cut style bytes past (line_after c line) now (at + 1) skip cs)

-- the pieces of a whole text
abbrev pub pieces : Style → List ℕ → Result (List Piece) TextErr
pieces style bytes = cut style bytes [] 1 1 0 0 bytes

-- what an error of the cutting says: the text has this fault, or nothing where memory ran out
abbrev pub Fails : TextErr → Result (List Piece) TextErr → Type 0
Fails (TextErr.OpenString at) cutting = cutting ≡ Err (TextErr.OpenString at)
Fails (TextErr.OpenComment at) cutting = cutting ≡ Err (TextErr.OpenComment at)
Fails TextErr.Mem cutting = Unit {0}

-- each fault is one of its own styles
abbrev pub ComesIn : Style → TextErr → Type 0
ComesIn Verilog (TextErr.OpenString at) = ⊥
ComesIn Verilog (TextErr.OpenComment at) = Unit {0}
ComesIn Verilog TextErr.Mem = Unit {0}
ComesIn Lib (TextErr.OpenString at) = Unit {0}
ComesIn Lib (TextErr.OpenComment at) = Unit {0}
ComesIn Lib TextErr.Mem = Unit {0}
ComesIn Spef (TextErr.OpenString at) = ⊥
ComesIn Spef (TextErr.OpenComment at) = ⊥
ComesIn Spef TextErr.Mem = Unit {0}
ComesIn Sdc (TextErr.OpenString at) = ⊥
ComesIn Sdc (TextErr.OpenComment at) = ⊥
ComesIn Sdc TextErr.Mem = Unit {0}
