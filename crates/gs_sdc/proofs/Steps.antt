-- The steps of the reader.

use Rattle.std.proofs.Common.{◌≡◌, ℕ, ℤ, List, [], ◌∷◌, ◌++◌, map, refl, sym, ap, subst, ◌∙◌, append-nil, Bool, true, false, Option, None, Some, Result, Ok, Err, IfErr, if◌then◌else◌}
use Rattle.std.specs.Prelude.{OnOk}
use Rattle.std.specs.List.{AllByRecursion}
use Rattle.std.specs.Option.{is_some, option_map}
use Rattle.gs_amount.specs.Amount.{IsAmount, IsLimited}
use Rattle.gs_sdc.specs.Command.{Reading, passes, not_built, clocks, gives, drives}
use Rattle.gs_sdc.specs.Reader.{ClockKept, Holds, IsDriven, IsReader, IsValues, Stops, StopsAgain}
use Rattle.gs_sdc.specs.Reads.{IsOf, reading_is}
use Rattle.gs_sdc.specs.declared.reading.Reading.{Reading as Read}
use Rattle.gs_sdc.specs.Sdc.{Item, clock, driven, drivers, fault_by, repeats, two_values, valued, values}
use Rattle.gs_sdc.specs.Terms.{HasTransitions, driver_port, value_port}
use Rattle.gs_sdc.specs.declared.command.Quantity.{Quantity}
use Rattle.gs_sdc.specs.declared.command.Quantity.TheVariants.{InputDelay, OutputDelay, PortLoad}
use Rattle.gs_sdc.specs.declared.constraints.Clock.{Clock}
use Rattle.gs_sdc.specs.declared.constraints.PortValue.{PortValue}
use Rattle.gs_sdc.specs.declared.constraints.DriverSpec.{DriverSpec}
use Rattle.gs_sdc.specs.declared.error.Fault.{Fault}
use Rattle.gs_sdc.specs.declared.error.Fault.TheVariants as faults
use Rattle.gs_sdc.specs.declared.error.Stop.{Stop}
use Rattle.gs_sdc.specs.declared.error.Stop.TheVariants as stops
use Rattle.gs_sdc.specs.declared.given.Values.{Values}
use Rattle.gs_sdc.specs.declared.given.Driven.{Driven}
use Rattle.gs_sdc.specs.declared.reader.Reader.{Reader}
use Rattle.gs_sdc.proofs.PortLaws.{drivers_numbers, values_numbers}

pub on_ok : {T E : Type 0} {P Q : Type 0} (r : Result T E) → (P → Q) → OnOk r P → OnOk r Q
on_ok (Ok v) k h = k h
on_ok (Err e) k h = tt

pub on_ok2 : {T E : Type 0} {P Q R : Type 0} (r : Result T E) → (P → Q → R) → OnOk r P → OnOk r Q → OnOk r R
on_ok2 (Ok v) k h l = k h l
on_ok2 (Err e) k h l = tt

-- ---- a command that gives a quantity

abbrev pub values_in : Quantity → Reader → Values
values_in InputDelay r = r.inputs
values_in OutputDelay r = r.outputs
values_in PortLoad r = r.loads

abbrev pub with_values : Quantity → Reader → Values → Reader
with_values InputDelay r v = record r { inputs = v }
with_values OutputDelay r v = record r { outputs = v }
with_values PortLoad r v = record r { loads = v }

pub given_kept : (q : Quantity) (r : Reader) (v : Values) (amount : ℤ) (xs : List (List ℕ)) → IsReader r → IsOf q amount → IsValues v
    → v.list.items ≡ (values_in q r).list.items ++ valued amount xs → IsReader (with_values q r v)
given_kept InputDelay r v amount xs k h good more =
    record {
      clock_kept = k.clock_kept;
      inputs = good;
      outputs = k.outputs;
      loads = k.loads;
      drivers_kept = k.drivers_kept;
      input_numbers = values_numbers IsLimited amount xs r.inputs.list.items v.list.items more h k.input_numbers;
      output_numbers = k.output_numbers;
      load_numbers = k.load_numbers;
      driver_numbers = k.driver_numbers;
    }
given_kept OutputDelay r v amount xs k h good more =
    record {
      clock_kept = k.clock_kept;
      inputs = k.inputs;
      outputs = good;
      loads = k.loads;
      drivers_kept = k.drivers_kept;
      input_numbers = k.input_numbers;
      output_numbers = values_numbers IsLimited amount xs r.outputs.list.items v.list.items more h k.output_numbers;
      load_numbers = k.load_numbers;
      driver_numbers = k.driver_numbers;
    }
given_kept PortLoad r v amount xs k h good more =
    record {
      clock_kept = k.clock_kept;
      inputs = k.inputs;
      outputs = k.outputs;
      loads = good;
      drivers_kept = k.drivers_kept;
      input_numbers = k.input_numbers;
      output_numbers = k.output_numbers;
      load_numbers = values_numbers IsAmount amount xs r.loads.list.items v.list.items more h k.load_numbers;
      driver_numbers = k.driver_numbers;
    }

none_more : {T : Type 0} (xs ys : List T) → xs ≡ ys → xs ≡ ys ++ []
none_more xs ys e = e ∙ sym (append-nil ys)

pub given_holds : (q : Quantity) (r : Reader) (v : Values) (amount : ℤ) (xs : List (List ℕ)) → v.list.items ≡ (values_in q r).list.items ++ valued amount xs
    → (past : List Item) → Holds r past → (number : ℕ) → Holds (with_values q r v) (record { number = number; reading = Some (gives q amount xs) } ∷ past)
given_holds InputDelay r v amount xs more past h number =
    record {
      clock_is = h.clock_is;
      inputs = more ∙ ap (λ vs. vs ++ valued amount xs) h.inputs;
      outputs = none_more r.outputs.list.items (values OutputDelay past) h.outputs;
      loads = none_more r.loads.list.items (values PortLoad past) h.loads;
      drivers_are = none_more r.drivers.list.items (drivers past) h.drivers_are;
    }
given_holds OutputDelay r v amount xs more past h number =
    record {
      clock_is = h.clock_is;
      inputs = none_more r.inputs.list.items (values InputDelay past) h.inputs;
      outputs = more ∙ ap (λ vs. vs ++ valued amount xs) h.outputs;
      loads = none_more r.loads.list.items (values PortLoad past) h.loads;
      drivers_are = none_more r.drivers.list.items (drivers past) h.drivers_are;
    }
given_holds PortLoad r v amount xs more past h number =
    record {
      clock_is = h.clock_is;
      inputs = none_more r.inputs.list.items (values InputDelay past) h.inputs;
      outputs = none_more r.outputs.list.items (values OutputDelay past) h.outputs;
      loads = more ∙ ap (λ vs. vs ++ valued amount xs) h.loads;
      drivers_are = none_more r.drivers.list.items (drivers past) h.drivers_are;
    }

in_past : (q : Quantity) (r : Reader) (past : List Item) → Holds r past → (values_in q r).list.items ≡ values q past
in_past InputDelay r past h = h.inputs
in_past OutputDelay r past h = h.outputs
in_past PortLoad r past h = h.loads

abbrev again : Quantity → Reader → List (List ℕ) → Bool
again q r xs = repeats (map value_port (values_in q r).list.items) xs

given_fault : (q : Quantity) (r : Reader) (amount : ℤ) (xs : List (List ℕ)) (past : List Item) → Holds r past
    → fault_by past (Some (gives q amount xs)) ≡ two_values (again q r xs)
given_fault q r amount xs past h = ap (λ vs. two_values (repeats (map value_port vs) xs)) (sym (in_past q r past h))

pub given_good : (q : Quantity) (r : Reader) (amount : ℤ) (xs : List (List ℕ)) → again q r xs ≡ false
    → (past : List Item) → Holds r past → fault_by past (Some (gives q amount xs)) ≡ None
given_good q r amount xs e past h = given_fault q r amount xs past h ∙ ap two_values e

again_stops : (e : Stop) (b : Bool) → StopsAgain e b → Stops e (two_values b)
again_stops (stops.At faults.TwoValues) b h = ap two_values h
again_stops (stops.At faults.NotBuilt) b h = absurd h
again_stops (stops.At faults.BadLine) b h = absurd h
again_stops (stops.At faults.TwoClocks) b h = absurd h
again_stops stops.Mem b h = tt

pub given_stops : (q : Quantity) (r : Reader) (amount : ℤ) (xs : List (List ℕ)) (e : Stop) → StopsAgain e (again q r xs)
    → (past : List Item) → Holds r past → Stops e (fault_by past (Some (gives q amount xs)))
given_stops q r amount xs e h past k = subst (Stops e) (sym (given_fault q r amount xs past k)) (again_stops e (again q r xs) h)

-- ---- a command that gives a driving cell

module _ (cell : List ℕ) (pin : Option (List ℕ)) (rise fall : ℤ) (xs : List (List ℕ)) (r : Reader) where
  pub driven_kept : (d : Driven) → IsReader r → IsAmount rise → IsAmount fall → IsDriven d → d.list.items ≡ r.drivers.list.items ++ driven cell pin rise fall xs
      → IsReader (record r { drivers = d })
  driven_kept d k a b good more =
      record {
        clock_kept = k.clock_kept;
        inputs = k.inputs;
        outputs = k.outputs;
        loads = k.loads;
        drivers_kept = good;
        input_numbers = k.input_numbers;
        output_numbers = k.output_numbers;
        load_numbers = k.load_numbers;
        driver_numbers = drivers_numbers cell pin rise fall xs r.drivers.list.items d.list.items more (a, b) k.driver_numbers;
      }

  pub driven_holds : (d : Driven) → d.list.items ≡ r.drivers.list.items ++ driven cell pin rise fall xs
      → (past : List Item) → Holds r past → (number : ℕ) → Holds (record r { drivers = d }) (record { number = number; reading = Some (drives cell pin rise fall xs) } ∷ past)
  driven_holds d more past h number =
      record {
        clock_is = h.clock_is;
        inputs = none_more r.inputs.list.items (values InputDelay past) h.inputs;
        outputs = none_more r.outputs.list.items (values OutputDelay past) h.outputs;
        loads = none_more r.loads.list.items (values PortLoad past) h.loads;
        drivers_are = more ∙ ap (λ ds. ds ++ driven cell pin rise fall xs) h.drivers_are;
      }

  driven_fault : (past : List Item) → Holds r past
      → fault_by past (Some (drives cell pin rise fall xs)) ≡ two_values (repeats (map driver_port r.drivers.list.items) xs)
  driven_fault past h = ap (λ ds. two_values (repeats (map driver_port ds) xs)) (sym h.drivers_are)

  pub driven_good : repeats (map driver_port r.drivers.list.items) xs ≡ false → (past : List Item) → Holds r past
      → fault_by past (Some (drives cell pin rise fall xs)) ≡ None
  driven_good e past h = driven_fault past h ∙ ap two_values e

  pub driven_stops : (e : Stop) → StopsAgain e (repeats (map driver_port r.drivers.list.items) xs) → (past : List Item) → Holds r past
      → Stops e (fault_by past (Some (drives cell pin rise fall xs)))
  driven_stops e h past k = subst (Stops e) (sym (driven_fault past k)) (again_stops e (repeats (map driver_port r.drivers.list.items) xs) h)

-- ---- a clock, and what doesn't count

pub clock_holds : (r : Reader) (period : ℤ) (xs : List (List ℕ)) (past : List Item) → Holds r past → (number : ℕ)
    → Holds (record r { clock = Some (record { period = period; names = xs }) }) (record { number = number; reading = Some (clocks period xs) } ∷ past)
clock_holds r period xs past h number =
    record {
      clock_is = refl;
      inputs = none_more r.inputs.list.items (values InputDelay past) h.inputs;
      outputs = none_more r.outputs.list.items (values OutputDelay past) h.outputs;
      loads = none_more r.loads.list.items (values PortLoad past) h.loads;
      drivers_are = none_more r.drivers.list.items (drivers past) h.drivers_are;
    }

clock_fault : (r : Reader) (period : ℤ) (xs : List (List ℕ)) (past : List Item) → Holds r past
    → fault_by past (Some (clocks period xs)) ≡ (if is_some r.clock then Some faults.TwoClocks else None)
clock_fault r period xs past h = ap (λ (o : Option Clock). if is_some o then Some faults.TwoClocks else None) (sym h.clock_is)

pub clock_good : (r : Reader) (period : ℤ) (xs : List (List ℕ)) → is_some r.clock ≡ false → (past : List Item) → Holds r past → fault_by past (Some (clocks period xs)) ≡ None
clock_good r period xs e past h = clock_fault r period xs past h ∙ ap (λ b. if b then Some faults.TwoClocks else None) e

pub clock_stops : (r : Reader) (period : ℤ) (xs : List (List ℕ)) → is_some r.clock ≡ true → (past : List Item) → Holds r past
    → fault_by past (Some (clocks period xs)) ≡ Some faults.TwoClocks
clock_stops r period xs e past h = clock_fault r period xs past h ∙ ap (λ b. if b then Some faults.TwoClocks else None) e

pub passes_holds : (r : Reader) (past : List Item) → Holds r past → (number : ℕ) → Holds r (record { number = number; reading = Some passes } ∷ past)
passes_holds r past h number =
    record {
      clock_is = h.clock_is;
      inputs = none_more r.inputs.list.items (values InputDelay past) h.inputs;
      outputs = none_more r.outputs.list.items (values OutputDelay past) h.outputs;
      loads = none_more r.loads.list.items (values PortLoad past) h.loads;
      drivers_are = none_more r.drivers.list.items (drivers past) h.drivers_are;
    }

-- ---- the steps whole, over the answer of the call that makes them

pub on_err : {T E : Type 0} {P Q : E → Type 0} (r : Result T E) → ((e : E) → P e → Q e) → IfErr r P → IfErr r Q
on_err (Ok v) k h = tt
on_err (Err e) k h = k e h

-- a step to a new reader, by a command that says this
pub record IsStep {T : Type 0} (r : Result T Stop) (old new : Reader) (reading : Option Reading) : Type 0 where
  pub kept : OnOk r (IsReader new)
  pub holds : OnOk r ((past : List Item) → Holds old past → (number : ℕ) → Holds new (record { number = number; reading = reading } ∷ past))
  pub good : OnOk r ((past : List Item) → Holds old past → fault_by past reading ≡ None)
  pub err : IfErr r (λ e. (past : List Item) → Holds old past → Stops e (fault_by past reading))

given_step : {T : Type 0} (r : Result T Stop) (q : Quantity) (old : Reader) (v : Values) (amount : ℤ) (xs : List (List ℕ)) → IsReader old → IsOf q amount
    → OnOk r (IsValues v) → OnOk r (v.list.items ≡ (values_in q old).list.items ++ valued amount xs) → OnOk r (again q old xs ≡ false)
    → IfErr r (λ e. StopsAgain e (again q old xs)) → IsStep r old (with_values q old v) (Some (gives q amount xs))
given_step r q old v amount xs k h good more fresh err =
    record {
      kept = on_ok2 r (λ a b. given_kept q old v amount xs k h a b) good more;
      holds = on_ok r (λ b. given_holds q old v amount xs b) more;
      good = on_ok r (λ e. given_good q old amount xs e) fresh;
      err = on_err r (λ e s. given_stops q old amount xs e s) err;
    }

pub gives_step : {T : Type 0} (r : Result T Stop) (q k : Quantity) → q ≡ k → (old : Reader) (v : Values) (amount : ℤ) (xs : List (List ℕ)) → IsReader old → IsOf q amount
    → OnOk r (IsValues v) → OnOk r (v.list.items ≡ (values_in k old).list.items ++ valued amount xs) → OnOk r (again k old xs ≡ false)
    → IfErr r (λ e. StopsAgain e (again k old xs)) → IsStep r old (with_values k old v) (Some (gives q amount xs))
gives_step r q k is old v amount xs kept h good more fresh err =
    subst (λ (p : Quantity). IsStep r old (with_values k old v) (Some (gives p amount xs))) (sym is)
    (given_step r k old v amount xs kept (subst (λ (p : Quantity). IsOf p amount) is h) good more fresh err)

pub drives_step : {T : Type 0} (r : Result T Stop) (old : Reader) (d : Driven) (cell : List ℕ) (pin : Option (List ℕ)) (rise fall : ℤ) (xs : List (List ℕ)) → IsReader old
    → IsAmount rise → IsAmount fall → OnOk r (IsDriven d) → OnOk r (d.list.items ≡ old.drivers.list.items ++ driven cell pin rise fall xs)
    → OnOk r (repeats (map driver_port old.drivers.list.items) xs ≡ false) → IfErr r (λ e. StopsAgain e (repeats (map driver_port old.drivers.list.items) xs))
    → IsStep r old (record old { drivers = d }) (Some (drives cell pin rise fall xs))
drives_step r old d cell pin rise fall xs kept a b good more fresh err =
    record {
      kept = on_ok2 r (λ x y. driven_kept cell pin rise fall xs old d kept a b x y) good more;
      holds = on_ok r (λ y. driven_holds cell pin rise fall xs old d y) more;
      good = on_ok r (λ e. driven_good cell pin rise fall xs old e) fresh;
      err = on_err r (λ e s. driven_stops cell pin rise fall xs old e s) err;
    }

-- ---- the same steps by what the reader's reading stands for

pub says : {T : Type 0} (r : Result T Stop) (old new : Reader) (bytes : List ℕ) (x y : Read) → x ≡ y → IsStep r old new (Some (reading_is bytes y))
    → IsStep r old new (Some (reading_is bytes x))
says r old new bytes x y e s = subst (λ (z : Read). IsStep r old new (Some (reading_is bytes z))) (sym e) s

pub says_some : {T : Type 0} (r : Result T Stop) (old new : Reader) (bytes : List ℕ) (o : Option Read) (x : Read) → o ≡ Some x → IsStep r old new (Some (reading_is bytes x))
    → IsStep r old new (option_map (reading_is bytes) o)
says_some r old new bytes o x e s = subst (λ (p : Option Read). IsStep r old new (option_map (reading_is bytes) p)) (sym e) s

pub says_read : {T : Type 0} (r : Result T Stop) (old new : Reader) (x y : Option Reading) → x ≡ y → IsStep r old new x → IsStep r old new y
says_read r old new x y e s = subst (λ (z : Option Reading). IsStep r old new z) e s

-- ---- what is told whatever memory there is

-- a step by y says nothing of what a step by z has to tell
pub other_told : {T X : Type 0} (f : Fault) (r : Result T Stop) (x y z : X) → x ≡ y → (y ≡ z → ⊥) → IfErr r (λ e. x ≡ z → e ≡ stops.At f)
other_told f (Ok v) x y z same apart = tt
other_told f (Err e) x y z same apart = λ h. absurd (apart (sym same ∙ h))

pub some_apart : {X : Type 0} (x : X) → Some x ≡ None → ⊥
some_apart x h = let never : Some x ≡ None = h in cc

pub clocks_apart : (period : ℤ) (names : List (List ℕ)) → clocks period names ≡ not_built → ⊥
clocks_apart period names h = let never : clocks period names ≡ not_built = h in cc

pub gives_apart : (q : Quantity) (amount : ℤ) (names : List (List ℕ)) → gives q amount names ≡ not_built → ⊥
gives_apart q amount names h = let never : gives q amount names ≡ not_built = h in cc

pub drives_apart : (cell : List ℕ) (pin : Option (List ℕ)) (rise fall : ℤ) (names : List (List ℕ)) → drives cell pin rise fall names ≡ not_built → ⊥
drives_apart cell pin rise fall names h = let never : drives cell pin rise fall names ≡ not_built = h in cc
