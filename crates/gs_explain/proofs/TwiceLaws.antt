-- What is told of a net with two drivers, by what was fetched.
use Rattle.std.proofs.Common.{◌≡◌, ap, subst, inl, inr, ℕ, ◌+◌, ◌≤◌, ◌<◌, ◌^◌, ◌-◌, List, [], length, Option, None, Result, Ok, Err, IfOk, arith}
use Rattle.std.specs.Prelude.{min, unwrap_or}
use Rattle.gs_drivers.specs.Twice.{AreDrivers}
use Rattle.gs_drivers.specs.declared.twice.Drivers.{Drivers}
use Rattle.gs_shelf.specs.Faults.{Counts, NoneFell}
use Rattle.gs_shelf.specs.Files.{AllStay, Files, content}
use Rattle.gs_shelf.specs.declared.calls.Op.TheVariants.{Fetch}
use Rattle.gs_shelf.specs.declared.whole.TheConstants.{FILE_LIMIT}
use Rattle.gs_explain.specs.Explain.{IsLost, IsTwiceExplained, IsTwiceWith}
use Rattle.gs_explain.specs.Twice.{IsTwiceBy, IsTwiceTold}

rose_on : (a b c most : ℕ) → a ≤ b → min (b + 1) most ≤ c → min (a + 1) most ≤ c
rose_on a b c most le h = grind (arith, le, h)

module _ (tells : Type 0) (lib net name : List ℕ) (files mid_files : Files) (old mid new : Counts) (stay : AllStay files mid_files) (later : NoneFell old mid) where
  same : content mid_files lib ≡ content files lib
  same = ap (λ o. unwrap_or o []) (stay lib)

  lost_on : IsLost tells lib mid_files mid new → IsLost tells lib files old new
  lost_on (inl rose) = inl (rose_on (old Fetch lib) (mid Fetch lib) (new Fetch lib) (2 ^ 64 - 1) (later Fetch lib) rose)
  lost_on (inr long) = inr (λ t. subst (λ c. FILE_LIMIT < length c) same (long t))

  carried : (bytes text : List ℕ) → IsTwiceWith tells lib net name mid_files mid new bytes text → IsTwiceWith tells lib net name files old new bytes text
  carried bytes text (inl told) = inl (λ t. subst (λ c. IsTwiceTold c net name bytes text) same (told t))
  carried bytes text (inr lost) = inr (lost_on lost.0, lost.1)

module _ {V E : Type 0} (items : V → List ℕ) where
  -- by the places of the drivers, or by none
  pub told_by : (r : Result V E) (found o : Option Drivers) (library key net name bytes : List ℕ) → AreDrivers library key bytes o → key ≡ net → o ≡ found
      → IfOk r (λ v. IsTwiceBy found net name bytes (items v)) → IfOk r (λ v. IsTwiceTold library net name bytes (items v))
  told_by (Ok v) found o library key net name bytes are e is h =
      (found, subst (λ k. AreDrivers library k bytes found) e (subst (AreDrivers library key bytes) is are), h)
  told_by (Err x) found o library key net name bytes are e is h = tt

  module _ (tells : Type 0) (lib net name : List ℕ) (files : Files) (old new : Counts) (bytes : List ℕ) where
    -- with the library
    pub with_library : (r : Result V E) (library m : List ℕ) → (tells → library ≡ content files lib) → m ≡ name
        → IfOk r (λ v. IsTwiceTold library net m bytes (items v)) → IfOk r (λ v. IsTwiceWith tells lib net name files old new bytes (items v))
    with_library (Ok v) library m is e h =
        inl (λ t. subst (λ l. IsTwiceTold l net name bytes (items v)) (is t) (subst (λ n. IsTwiceTold library net n bytes (items v)) e h))
    with_library (Err x) library m is e h = tt

    -- without it
    pub without_library : (r : Result V E) (m : List ℕ) → IsLost tells lib files old new → m ≡ name
        → IfOk r (λ v. IsTwiceBy None net m bytes (items v)) → IfOk r (λ v. IsTwiceWith tells lib net name files old new bytes (items v))
    without_library (Ok v) m lost e h = inr (lost, subst (λ n. IsTwiceBy None net n bytes (items v)) e h)
    without_library (Err x) m lost e h = tt

  module _ (tells : Type 0) (lib net name : List ℕ) (files mid_files : Files) (old mid new : Counts) where
    -- what is told after the netlist was fetched too
    pub explained : AllStay files mid_files → NoneFell old mid → (r : Result V E) (bytes : List ℕ) → (tells → bytes ≡ content files name)
        → IfOk r (λ v. IsTwiceWith tells lib net name mid_files mid new bytes (items v)) → IfOk r (λ v. IsTwiceExplained tells lib net name files old new (items v))
    explained stay later (Ok v) bytes is h =
        inl (λ t. subst (λ b. IsTwiceWith tells lib net name files old new b (items v)) (is t) (carried tells lib net name files mid_files old mid new stay later bytes (items v) h))
    explained stay later (Err x) bytes is h = tt

  -- of the files of these names
  pub of_files : (tells : Type 0) (net : List ℕ) (files : Files) (old new : Counts) (r : Result V E) (l lib n name : List ℕ) → l ≡ lib → n ≡ name
      → IfOk r (λ v. IsTwiceExplained tells l net n files old new (items v)) → IfOk r (λ v. IsTwiceExplained tells lib net name files old new (items v))
  of_files tells net files old new (Ok v) l lib n name e i h =
      subst (λ x. IsTwiceExplained tells lib net x files old new (items v)) i (subst (λ x. IsTwiceExplained tells x net n files old new (items v)) e h)
  of_files tells net files old new (Err x) l lib n name e i h = tt
