-- What the class of a token says of the token, and the other way round.

use Rattle.std.proofs.Common.{◌≡◌, ℕ, List, refl, ap, Bool, true, false, not, codes, if◌then◌else◌, ◌&&◌, ◌||◌}
use Rattle.std.specs.Str.{bytes_eq}
use Rattle.std.proofs.lemmas.Slice.Eq.{bytes_eq-Decides}
use Rattle.gs_text.specs.declared.kinds.Kind.{Kind}
use Rattle.gs_text.specs.declared.kinds.Kind.TheVariants.{Word, Escaped, Text, Mark}
use Rattle.gs_verilog.specs.Machine.{class, class_of}
use Rattle.gs_verilog.specs.Token.{Token, keyword, mark, IsName, is_name_of, begins_name}
use Rattle.gs_verilog.specs.Tree.{role_word}
use Rattle.gs_verilog.specs.declared.machine.Class.{Class}
use Rattle.gs_verilog.specs.declared.machine.Class.TheVariants.{Module, EndModule, Declares, Name, Open, Close, Comma, Dot, Semicolon, Other}
use Rattle.gs_verilog.specs.declared.machine.Role.TheVariants.{Input, Output, Wire}

-- what a class says of its token
abbrev pub Means : Class → Token → Type 0
Means Module t = t ≡ keyword (codes "module")
Means EndModule t = t ≡ keyword (codes "endmodule")
Means (Declares role) t = t ≡ role_word role
Means Name t = IsName t
Means Open t = t ≡ mark (codes "(")
Means Close t = t ≡ mark (codes ")")
Means Comma t = t ≡ mark (codes ",")
Means Dot t = t ≡ mark (codes ".")
Means Semicolon t = t ≡ mark (codes ";")
Means Other t = Unit {0}

choose : (P : Class → Type 0) (b : Bool) (x y : Class) → (b ≡ true → P x) → (b ≡ false → P y) → P (if b then x else y)
choose P true x y f g = f refl
choose P false x y f g = g refl

same : (a b : List ℕ) → bytes_eq a b ≡ true → a ≡ b
same a b h = (bytes_eq-Decides a b).0 h

is_name_by : (a b c d e n : Bool) → a ≡ false → b ≡ false → c ≡ false → d ≡ false → e ≡ false → n ≡ true → (n && not (a || b || c || d || e)) ≡ true
is_name_by false false false false false true ha hb hc hd he hn = refl
is_name_by a b c d e n ha hb hc hd he hn = cc

means_word : (text : List ℕ) → Means (class_of Word text) (keyword text)
means_word t =
    let P : Class → Type 0 = λ k. Means k (keyword t) in
    choose P (bytes_eq t (codes "module")) Module _ (λ h. ap keyword (same t _ h)) (λ a.
    choose P (bytes_eq t (codes "endmodule")) EndModule _ (λ h. ap keyword (same t _ h)) (λ b.
    choose P (bytes_eq t (codes "input")) (Declares Input) _ (λ h. ap keyword (same t _ h)) (λ c.
    choose P (bytes_eq t (codes "output")) (Declares Output) _ (λ h. ap keyword (same t _ h)) (λ d.
    choose P (bytes_eq t (codes "wire")) (Declares Wire) _ (λ h. ap keyword (same t _ h)) (λ e.
    choose P (begins_name t) Name Other (λ n. is_name_by _ _ _ _ _ _ a b c d e n) (λ _. tt))))))

means_mark : (text : List ℕ) → Means (class_of Mark text) (mark text)
means_mark t =
    let P : Class → Type 0 = λ k. Means k (mark t) in
    choose P (bytes_eq t (codes "(")) Open _ (λ h. ap mark (same t _ h)) (λ _.
    choose P (bytes_eq t (codes ")")) Close _ (λ h. ap mark (same t _ h)) (λ _.
    choose P (bytes_eq t (codes ",")) Comma _ (λ h. ap mark (same t _ h)) (λ _.
    choose P (bytes_eq t (codes ".")) Dot _ (λ h. ap mark (same t _ h)) (λ _.
    choose P (bytes_eq t (codes ";")) Semicolon Other (λ h. ap mark (same t _ h)) (λ _. tt)))))

means_of : (kind : Kind) (text : List ℕ) → Means (class_of kind text) (record { kind = kind; text = text })
means_of Word text = means_word text
means_of Escaped text = refl
means_of Text text = tt
means_of Mark text = means_mark text

pub means : (t : Token) (k : Class) → class t ≡ k → Means k t
means t k e = rw (← e) (means_of t.kind t.text)

word_class : (a b c d e n : Bool) → (n && not (a || b || c || d || e)) ≡ true
    → (if a then Module else if b then EndModule else if c then Declares Input else if d then Declares Output else if e then Declares Wire else if n then Name else Other) ≡ Name
word_class false false false false false true h = refl
word_class a b c d e false h = cc
word_class a b c d e true h = cc

class_of_name : (kind : Kind) (text : List ℕ) → is_name_of kind text ≡ true → class_of kind text ≡ Name
class_of_name Word text h = word_class _ _ _ _ _ _ h
class_of_name Escaped text h = refl
class_of_name Text text h = cc
class_of_name Mark text h = cc

pub class_name : (t : Token) → IsName t → class t ≡ Name
class_name t h = class_of_name t.kind t.text h
