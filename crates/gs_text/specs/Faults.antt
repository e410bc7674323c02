-- Why a text is not cut: a string or a comment begins at a place and has no end.
use Rattle.std.specs.Prelude.{◌≡◌, ◌≢◌, ◌⊎◌, ◌↔◌, ℕ, ◌+◌, ◌<◌, ◌≤◌, false, List, [], ◌∷◌, length, drop, slice_index, Result, Err, MatchResult}
use Rattle.gs_text.specs.Cut.{pieces}
use Rattle.gs_text.specs.Gaps.{IsGap}
use Rattle.gs_text.specs.Whole.{IsWhole}
use Rattle.gs_text.specs.declared.kinds.Kind.{Kind}
use Rattle.gs_text.specs.declared.kinds.Style.{Style}
use Rattle.gs_text.specs.declared.kinds.Style.TheVariants.{Verilog, Lib, Spef, Sdc}
use Rattle.gs_text.specs.declared.kinds.TextErr.{TextErr}

-- so many bytes from place at on are white, a comment, a continued line end, or a whole piece. In the styles that have faults
-- this doesn't depend on what stands before
abbrev pub IsPart : Style → (bytes : List ℕ) → (at len : ℕ) → Type 0
IsPart style bytes at len =
    IsGap style bytes [] at len ⊎ ((0 < len) × (at + len ≤ length bytes) × (kind : Kind) × IsWhole style false false kind len (drop at bytes))

-- parts of these lengths follow one another from place at up to place to
abbrev pub Leads : Style → (bytes : List ℕ) → (at to : ℕ) → List ℕ → Type 0
Leads style bytes at to [] = at ≡ to
Leads style bytes at to (n ∷ ns) = IsPart style bytes at n × Leads style bytes (at + n) to ns

-- the text before the place is cut well, so that something begins there, and not in the middle of a piece or a comment
pub record IsReached (style : Style) (bytes : List ℕ) (at : ℕ) : Type 0 where
  pub parts : List ℕ
  pub leads : Leads style bytes 0 at parts

-- a string begins with the quote at byte at, and no quote follows
pub record IsOpenString (style : Style) (bytes : List ℕ) (at : ℕ) : Type 0 where
  pub reached : IsReached style bytes at
  pub quote : slice_index bytes at ≡ 34
  pub none : (k : ℕ) → at < k → k < length bytes → slice_index bytes k ≢ 34

-- a comment begins with the slash at byte at and the star after it, and no star and slash follow
pub record IsOpenComment (style : Style) (bytes : List ℕ) (at : ℕ) : Type 0 where
  pub reached : IsReached style bytes at
  pub slash : slice_index bytes at ≡ 47
  pub star : slice_index bytes (at + 1) ≡ 42
  pub none : (k : ℕ) → at + 1 < k → k < length bytes → slice_index bytes k ≡ 42 → slice_index bytes (k + 1) ≢ 47

-- the text has the fault; each style has its own
abbrev pub HasFault : Style → List ℕ → TextErr → Type 0
HasFault Verilog bytes (TextErr.OpenString at) = ⊥
HasFault Verilog bytes (TextErr.OpenComment at) = IsOpenComment Verilog bytes at
HasFault Verilog bytes TextErr.Mem = ⊥
HasFault Lib bytes (TextErr.OpenString at) = IsOpenString Lib bytes at
HasFault Lib bytes (TextErr.OpenComment at) = IsOpenComment Lib bytes at
HasFault Lib bytes TextErr.Mem = ⊥
HasFault Spef bytes (TextErr.OpenString at) = ⊥
HasFault Spef bytes (TextErr.OpenComment at) = ⊥
HasFault Spef bytes TextErr.Mem = ⊥
HasFault Sdc bytes (TextErr.OpenString at) = ⊥
HasFault Sdc bytes (TextErr.OpenComment at) = ⊥
HasFault Sdc bytes TextErr.Mem = ⊥

-- the cutting ends with a fault exactly where the text has it
abbrev pub IsDecided : Style → List ℕ → Type 0
IsDecided style bytes = (e : TextErr) → (pieces style bytes ≡ Err e) ↔ HasFault style bytes e

-- where the text has the fault, the answer is that fault, or want of memory
abbrev pub IsRefusedBy : {T : Type 0} → TextErr → Result T TextErr → Type 0
IsRefusedBy e r = MatchResult r (λ _. ⊥) (λ x. (x ≡ e) ⊎ (x ≡ TextErr.Mem))
