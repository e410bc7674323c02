-- The clauses of the public call: the driver's, under the names of a Liberty text's refusals.

use Rattle.std.proofs.Common.{◌≡◌, ◌≢◌, ◌⊎◌, ℕ, List, refl, inl, inr, Ok}
use Rattle.gs_drive.specs.Cause.{Cause}
use Rattle.gs_drive.specs.declared.refusal.Refusal.{Refusal}
use Rattle.gs_grammar.specs.Fronts.{IsFirstBad, EndsEarly}
use Rattle.gs_grammar.proofs.Answers.{SameCauses}
use Rattle.gs_text.specs.Faults.{HasFault}
use Rattle.gs_text.specs.declared.kinds.Style.TheVariants.{Lib}
use Rattle.gs_text.specs.declared.kinds.TextErr.{TextErr}
use Rattle.gs_libtree.specs.Reading.{refusal_of}
use Rattle.gs_libtree.specs.Refusal.{HasCause}
use Rattle.gs_libtree.specs.Text.{LibText, IsText}
use Rattle.gs_libtree.specs.Token.{Token, tokens}
use Rattle.gs_libtree.specs.Tree.{IsForm}
use Rattle.gs_libtree.specs.declared.error.LibTextErr.{LibTextErr}
use Rattle.gs_libtree.specs.declared.error.Rule.{Rule}

-- the driver's causes
abbrev pub Causes : List ℕ → Refusal Rule → Type 0
Causes bytes e = Cause (HasFault Lib bytes) IsForm LibText (λ _ (_ : Rule). Unit {0}) (tokens bytes) e

named : (bytes : List ℕ) (e : Refusal Rule) → Causes bytes e → HasCause bytes (refusal_of e)
named bytes (Refusal.Text (TextErr.OpenString at)) c = c
named bytes (Refusal.Text (TextErr.OpenComment at)) c = c
named bytes (Refusal.Text TextErr.Mem) c = tt
named bytes (Refusal.Bad i) c = (c.0, c.1, inl c.2)
named bytes (Refusal.Broken i rule) c = (c.0, c.1, c.2.0)
named bytes (Refusal.Early i) c = (c.0, c.1, inr c.2)
named bytes Refusal.Mem c = tt

abbrev Named : List ℕ → LibTextErr → Type 0
Named bytes f = (e : Refusal Rule) × (Causes bytes e) × (refusal_of e ≡ f)

-- a bad piece, or the end as one
late : (bytes : List ℕ) (i : ℕ) (ts : List Token) → tokens bytes ≡ Ok ts → (IsFirstBad IsForm IsText ts i ⊎ EndsEarly IsText ts i) → Named bytes (LibTextErr.BadPiece i)
late bytes i ts e (inl b) = (Refusal.Bad i, (ts, e, b), refl)
late bytes i ts e (inr q) = (Refusal.Early i, (ts, e, q), refl)

back : (bytes : List ℕ) (f : LibTextErr) → f ≢ LibTextErr.Mem → HasCause bytes f → Named bytes f
back bytes (LibTextErr.OpenString at) n c = (Refusal.Text (TextErr.OpenString at), c, refl)
back bytes (LibTextErr.OpenComment at) n c = (Refusal.Text (TextErr.OpenComment at), c, refl)
back bytes (LibTextErr.TooDeep i) n c = (Refusal.Broken i Rule.TooDeep, (c.0, c.1, (c.2, tt)), refl)
back bytes (LibTextErr.BadPiece i) n c = late bytes i c.0 c.1 c.2
back bytes LibTextErr.Mem n c = absurd (n refl)

stays : (bytes : List ℕ) (e : Refusal Rule) → e ≢ Refusal.Mem → Causes bytes e → refusal_of e ≢ LibTextErr.Mem
stays bytes (Refusal.Text (TextErr.OpenString at)) n c h = cc
stays bytes (Refusal.Text (TextErr.OpenComment at)) n c h = cc
stays bytes (Refusal.Text TextErr.Mem) n c h = c
stays bytes (Refusal.Bad i) n c h = cc
stays bytes (Refusal.Broken i rule) n c h = cc
stays bytes (Refusal.Early i) n c h = cc
stays bytes Refusal.Mem n c h = n refl

pub same_causes : (bytes : List ℕ) → SameCauses Refusal.Mem LibTextErr.Mem refusal_of (Causes bytes) (HasCause bytes)
same_causes bytes = record { memory = refl; there = named bytes; back = back bytes; stays = stays bytes }
