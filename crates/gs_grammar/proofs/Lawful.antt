-- The law of a reader, from what is said of its input; and the same law where its errors get other names.

use Rattle.std.proofs.Common.{◌≡◌, ◌≢◌, sym, ap, ◌∙◌, Result, Ok, Err}
use Rattle.gs_grammar.specs.Answers.{IsDecided}
use Rattle.gs_grammar.specs.Lawful.{IsLawful}
use Rattle.gs_grammar.proofs.Answers.{SameCauses, renamed_decided}

module _ {V E : Type 0} (mem : E) (said : Result V E) (Text : V → Type 0) (Cause : E → Type 0) where
  never : (v : V) (e : E) → ◌≡◌ {A = Result V E} (Ok v) (Err e) → ⊥
  never v e h = cc

  same_value : (v w : V) → ◌≡◌ {A = Result V E} (Ok v) (Ok w) → w ≡ v
  same_value v w h = cc

  same_cause : (e f : E) → ◌≡◌ {A = Result V E} (Err e) (Err f) → f ≡ e
  same_cause e f h = cc

  pub lawful : ((v : V) → Text v → said ≡ Ok v) → ((e : E) → e ≢ mem → Cause e → said ≡ Err e) → IsDecided mem Text Cause → IsLawful mem Text Cause
  lawful complete caused decides = record {
    decided = decides;
    apart = λ v e t n c. never v e (sym (complete v t) ∙ caused e n c);
    one_value = λ v w t u. same_value v w (sym (complete v t) ∙ complete w u);
    one_cause = λ e f n c m d. same_cause e f (sym (caused e n c) ∙ caused f m d);
  }

module _ {E F : Type 0} (mem : E) (last : F) (name : E → F) (Cause : E → Type 0) (Named : F → Type 0) (same : SameCauses mem last name Cause Named) where
  other : (f : F) (e : E) → f ≢ last → name e ≡ f → e ≢ mem
  other f e n is m = n (sym is ∙ ap name m ∙ same.memory)

  pub renamed_lawful : {V : Type 0} (Text : V → Type 0) → IsLawful mem Text Cause → IsLawful last Text Named
  renamed_lawful Text law = record {
    decided = renamed_decided mem last name Cause Named same Text law.decided;
    apart = λ v f t n c. let b = same.back f n c in law.apart v b.0 t (other f b.0 n b.2) b.1;
    one_value = law.one_value;
    one_cause = λ f g n c m d.
        let b = same.back f n c in
        let k = same.back g m d in
        sym k.2 ∙ ap name (law.one_cause b.0 k.0 (other f b.0 n b.2) b.1 (other g k.0 m k.2) k.1) ∙ b.2;
  }
