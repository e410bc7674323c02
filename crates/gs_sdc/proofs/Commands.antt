-- What is read of a command is what the command says.

use Rattle.std.proofs.Common.{◌≡◌, ℕ, ◌≤◌, List, [], ◌∷◌, ◌++◌, length, map, codes, inl, inr, refl, sym, ap, subst, ◌∙◌, Bool, true, false, Option, None, Some, arith, if◌then◌else◌}
use Rattle.std.specs.Str.{bytes_eq}
use Rattle.gs_design.specs.declared.units.Units.{Units}
use Rattle.gs_sdc.specs.Command.{Reading, not_built, meaning, heading, IsForm, IsBuilt, IsUnbuilt, IsCommand}
use Rattle.gs_sdc.specs.Front.{Heading, unknown, unbuilt, heads, keyword_of, version_by, heading_by, heading_of, parts_of, said_by, reading_by, reading_of}
use Rattle.gs_sdc.specs.Parts.{Part}
use Rattle.gs_sdc.specs.Token.{Token, word, opens, closes, opens_list, closes_list, stray}
use Rattle.gs_sdc.specs.declared.command.Command.{Command}
use Rattle.gs_sdc.specs.declared.command.Command.TheVariants as command
use Rattle.gs_sdc.specs.declared.command.Keyword.{Keyword}
use Rattle.gs_sdc.specs.declared.command.Keyword.TheVariants as keyword
use Rattle.gs_sdc.proofs.Fitting.{fit_all, fits_from, nothing_taken}
use Rattle.gs_sdc.proofs.PartLaws.{complete, sound}
use Rattle.gs_sdc.proofs.Spelling.{choose, same_bytes}

-- ---- headings

-- a keyword is written so
abbrev IsWritten : List ℕ → Keyword → Type 0
IsWritten w keyword.Set = w ≡ codes "set"
IsWritten w keyword.Design = w ≡ codes "current_design"
IsWritten w keyword.Clock = w ≡ codes "create_clock"
IsWritten w keyword.InputDelay = w ≡ codes "set_input_delay"
IsWritten w keyword.OutputDelay = w ≡ codes "set_output_delay"
IsWritten w keyword.DrivingCell = w ≡ codes "set_driving_cell"
IsWritten w keyword.Load = w ≡ codes "set_load"
IsWritten w keyword.MaxArea = w ≡ codes "set_max_area"
IsWritten w keyword.Other = Unit {0}

keyword_written : (w : List ℕ) → IsWritten w (keyword_of w)
keyword_written w =
    choose (IsWritten w) w (codes "set_input_delay") keyword.InputDelay _ (λ e. e)
    (choose (IsWritten w) w (codes "set_output_delay") keyword.OutputDelay _ (λ e. e)
    (choose (IsWritten w) w (codes "set_driving_cell") keyword.DrivingCell _ (λ e. e)
    (choose (IsWritten w) w (codes "set_load") keyword.Load _ (λ e. e)
    (choose (IsWritten w) w (codes "create_clock") keyword.Clock _ (λ e. e)
    (choose (IsWritten w) w (codes "set") keyword.Set _ (λ e. e)
    (choose (IsWritten w) w (codes "current_design") keyword.Design _ (λ e. e)
    (choose (IsWritten w) w (codes "set_max_area") keyword.MaxArea keyword.Other (λ e. e) tt)))))))

-- what a heading says of the tokens
abbrev HasHeading : List Token → Heading → Type 0
HasHeading ts unknown = Unit {0}
HasHeading ts unbuilt = (rest : List Token) × (ts ≡ word (codes "set_max_area") ∷ rest)
HasHeading ts (heads c rest) = ts ≡ map word (heading c) ++ rest

version_test : (w : List ℕ) (ts : List Token) (b : Bool) → bytes_eq w (codes "sdc_version") ≡ b
    → HasHeading (word (codes "set") ∷ word w ∷ ts) (if b then heads command.Version ts else unknown)
version_test w ts true e = ap (λ (x : List ℕ). word (codes "set") ∷ word x ∷ ts) (same_bytes w (codes "sdc_version") e)
version_test w ts false e = tt

version_heading : (ts : List Token) → HasHeading (word (codes "set") ∷ ts) (version_by ts)
version_heading [] = tt
version_heading (word w ∷ ts) = version_test w ts (bytes_eq w (codes "sdc_version")) refl
version_heading (opens ∷ ts) = tt
version_heading (closes ∷ ts) = tt
version_heading (opens_list ∷ ts) = tt
version_heading (closes_list ∷ ts) = tt
version_heading (stray ∷ ts) = tt

keyword_heading : (w : List ℕ) (k : Keyword) (ts : List Token) → IsWritten w k → HasHeading (word w ∷ ts) (heading_by k ts)
keyword_heading w keyword.Set ts e = subst (λ (x : List ℕ). HasHeading (word x ∷ ts) (version_by ts)) (sym e) (version_heading ts)
keyword_heading w keyword.Design ts e = ap (λ (x : List ℕ). word x ∷ ts) e
keyword_heading w keyword.Clock ts e = ap (λ (x : List ℕ). word x ∷ ts) e
keyword_heading w keyword.InputDelay ts e = ap (λ (x : List ℕ). word x ∷ ts) e
keyword_heading w keyword.OutputDelay ts e = ap (λ (x : List ℕ). word x ∷ ts) e
keyword_heading w keyword.DrivingCell ts e = ap (λ (x : List ℕ). word x ∷ ts) e
keyword_heading w keyword.Load ts e = ap (λ (x : List ℕ). word x ∷ ts) e
keyword_heading w keyword.MaxArea ts e = (ts, ap (λ (x : List ℕ). word x ∷ ts) e)
keyword_heading w keyword.Other ts e = tt

has_heading : (ts : List Token) → HasHeading ts (heading_of ts)
has_heading [] = tt
has_heading (word w ∷ ts) = keyword_heading w (keyword_of w) ts (keyword_written w)
has_heading (opens ∷ ts) = tt
has_heading (closes ∷ ts) = tt
has_heading (opens_list ∷ ts) = tt
has_heading (closes_list ∷ ts) = tt
has_heading (stray ∷ ts) = tt

heading_found : (c : Command) (rest : List Token) → heading_of (map word (heading c) ++ rest) ≡ heads c rest
heading_found command.Version rest = refl
heading_found command.Design rest = refl
heading_found command.Clock rest = refl
heading_found command.InputDelay rest = refl
heading_found command.OutputDelay rest = refl
heading_found command.DrivingCell rest = refl
heading_found command.Load rest = refl

-- ---- readings

sound_parts : (u : Units) (c : Command) (ts rest : List Token) (o : Option (List Part)) (r : Reading) → ts ≡ map word (heading c) ++ rest → parts_of c rest ≡ o
    → said_by u c o ≡ Some r → IsCommand u ts r
sound_parts u c ts rest None r e k h = cc
sound_parts u c ts rest (Some ps) r e k h =
    let s = sound c [] (length rest) rest ps k in
    let f = fit_all c [] ps s.good in
    inl (record { command_is = c; parts = ps; form = record { rest = rest; heading_is = e; spelled = s.spelled; known = f.known; once = f.once }; says = h })

sound_heading : (u : Units) (ts : List Token) (g : Heading) (r : Reading) → HasHeading ts g → reading_by u g ≡ Some r → IsCommand u ts r
sound_heading u ts unknown r e h = cc
sound_heading u ts unbuilt r e h = inr (record { rest = e.0; heading_is = e.1; says = let same : not_built ≡ r = cc in sym same })
sound_heading u ts (heads c rest) r e h = sound_parts u c ts rest (parts_of c rest) r e refl h

pub reading_sound : (u : Units) (ts : List Token) (r : Reading) → reading_of u ts ≡ Some r → IsCommand u ts r
reading_sound u ts r h = sound_heading u ts (heading_of ts) r (has_heading ts) h

pub reading_complete : (u : Units) (ts : List Token) (r : Reading) → IsCommand u ts r → reading_of u ts ≡ Some r
reading_complete u ts r (inl b) =
    let le : length b.form.rest ≤ length b.form.rest = omega arith in
    ap (reading_of u) b.form.heading_is
    ∙ ap (reading_by u) (heading_found b.command_is b.form.rest)
    ∙ ap (said_by u b.command_is) (complete b.command_is [] (length b.form.rest) b.parts b.form.rest le b.form.spelled
    (fits_from b.command_is [] b.parts b.form.known b.form.once (nothing_taken b.parts)))
    ∙ b.says
reading_complete u ts r (inr n) = ap (reading_of u) n.heading_is ∙ ap (λ x. Some x) (sym n.says)
