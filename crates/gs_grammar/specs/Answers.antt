-- What a call answers, where something is said of its input: that, or want of memory, which is free.

use Rattle.std.specs.Prelude.{◌≡◌, ◌≢◌, ◌⊎◌, Result, Ok, Err, MatchResult}

-- the error is what is said, or memory ran out
abbrev pub Fails : {V E : Type 0} → (mem e : E) → (said : Result V E) → Type 0
Fails mem e said = (e ≡ mem) ⊎ (said ≡ Err e)

-- the answer is what is said, or memory ran out
abbrev pub Answers : {V E : Type 0} → (mem : E) → (said result : Result V E) → Type 0
Answers mem said result = MatchResult result (λ v. said ≡ Ok v) (λ e. Fails mem e said)

-- what stands for a value is answered by that value, unless memory runs out
abbrev pub IsOnly : {V E : Type 0} → (mem : E) → (Text : V → Type 0) → (result : Result V E) → Type 0
IsOnly {V} mem Text result = (v : V) → Text v → MatchResult result (λ found. found ≡ v) (λ e. e ≡ mem)

-- where a cause stands, its refusal is answered, unless memory runs out
abbrev pub IsExact : {V E : Type 0} → (mem : E) → (Cause : E → Type 0) → (result : Result V E) → Type 0
IsExact {E = E} mem Cause result = (e : E) → e ≢ mem → Cause e → MatchResult result (λ _. ⊥) (λ f. (f ≡ e) ⊎ (f ≡ mem))

-- this refusal is answered, whether memory runs out or not
abbrev pub IsRefused : {V E : Type 0} → (e : E) → (result : Result V E) → Type 0
IsRefused e result = MatchResult result (λ _. ⊥) (λ f. f ≡ e)

-- the input stands for a value, or there is a cause other than want of memory
abbrev pub IsDecided : {V E : Type 0} → (mem : E) → (Text : V → Type 0) → (Cause : E → Type 0) → Type 0
IsDecided {V} {E} mem Text Cause = ((v : V) × Text v) ⊎ ((e : E) × (e ≢ mem) × Cause e)

-- the answer with its error under another name
abbrev pub renamed : {V E F : Type 0} → (name : E → F) → Result V E → Result V F
renamed name (Ok v) = Ok v
renamed name (Err e) = Err (name e)
