-- The words of a command, and the job that they make.
use Rattle.std.proofs.Common.{◌≡◌, ◌≢◌, ◌∙◌, refl, sym, ap, subst, ℕ, ◌+◌, ◌*◌, ◌-◌, ◌<◌, ◌≤◌, ◌==◌, ◌&&◌, ◌||◌, not, Bool, true, false, List, [], ◌∷◌, fold, None, Some, length, map, arith}
use Rattle.std.specs.Prelude.{nat_le, slice_index, unwrap_or, codes, if◌then◌else◌}
use Rattle.std.specs.List.{list_any}
use Rattle.std.specs.Str.{all_ascii_digits, bytes_eq}
use Rattle.std.proofs.lemmas.Bool.Decides.{nat_tests}
use Rattle.std.proofs.lemmas.Bool.Decides.{Decides-eqb}
use Rattle.std.proofs.lemmas.Slice.Eq.{bytes_eq-Decides}
use Rattle.gs_top.specs.Job.{are_given, are_names, check_of, check_with, has_check_form, has_numbers, has_size_form, if_within, is_check, is_good, name_if_given, names_of, number_in, output_of, passes_of, is_size, size_of, size_with, value_of, with_digit}
use Rattle.gs_top.specs.Plan.{AllDiffer}
use Rattle.gs_top.specs.declared.status.Output.TheVariants.{Sizes, Log, Report}
use Rattle.gs_top.specs.declared.job.Job.TheVariants.{Size, Check}
use Rattle.gs_top.specs.declared.job.CheckJob.{CheckJob}
use Rattle.gs_top.specs.declared.job.SizeJob.{SizeJob}
use Rattle.gs_top.specs.declared.job.TheConstants.{MOST_PASSES}

-- too few words for an option
pub given_few : {X Y : Type 0} (f : X → List ℕ) (g : Y → List ℕ) (os : List X) (ws : List Y) → (length os == 0) ≡ false → length ws < 2
    → false ≡ are_given (map f os) (map g ws)
given_few f g [] ws h k = absurd cc
given_few f g (o ∷ os) [] h k = refl
given_few f g (o ∷ os) (w ∷ []) h k = refl
given_few f g (o ∷ os) (w ∷ v ∷ ws) h k = absurd (omega (arith, k))

-- too few words for a value
pub value_few : {Y : Type 0} (o : List ℕ) (g : Y → List ℕ) (ws : List Y) → length ws < 2 → [] ≡ value_of o (map g ws)
value_few o g [] k = refl
value_few o g (w ∷ []) k = refl
value_few o g (w ∷ v ∷ ws) k = absurd (omega (arith, k))

both : (a b : Bool) → (a && b) ≡ true → b ≡ true
both true b h = h
both false b h = absurd cc

-- a number within the most is not above it
within_most : (most : ℕ) (b : Bool) (n : ℕ) → nat_le (unwrap_or (if_within most b n) 0) most ≡ true
within_most most b n = by_test (b && nat_le n most) (both b (nat_le n most))
  where
    by_test : (t : Bool) → (t ≡ true → nat_le n most ≡ true) → nat_le (unwrap_or (if t then Some n else None) 0) most ≡ true
    by_test true h = h refl
    by_test false h = grind (arith, nat_tests)

-- the numbers of the words after `size` are in their ranges
numbers_hold : (ws : List (List ℕ)) → has_numbers (Size (size_with ws)) ≡ true
numbers_hold ws =
    let word = value_of (codes "--passes") ws in
    within_most MOST_PASSES (not (length word == 0) && all_ascii_digits word) (number_in word)

-- where the words have the form, the names alone are left to judge
pub size_names : (ws : List (List ℕ)) → has_size_form ws ≡ true → are_names (names_of (Size (size_with ws))) ≡ is_size ws
size_names ws h =
    let names = are_names (names_of (Size (size_with ws))) in
    sym (ap (λ b. b && is_good (Size (size_with ws))) h ∙ ap (λ b. b && names) (numbers_hold ws))

-- a number does not fall as digits come to it
never_less : (n : ℕ) (digits : List ℕ) → n ≤ fold with_digit n digits
never_less n [] = omega arith
never_less n (c ∷ cs) =
    let more = never_less (n * 10 + (c - 48)) cs in
    omega (arith, more)

-- digits that lead above the most
past : (most n : ℕ) (digits : List ℕ) (b : Bool) → most < n → None ≡ if_within most b (fold with_digit n digits)
past most n digits b lt =
    let above : most < fold with_digit n digits = omega (arith, lt, never_less n digits) in
    by_test b (nat_le (fold with_digit n digits) most) (grind (arith, nat_tests))
  where
    by_test : (b t : Bool) → t ≡ false → None ≡ (if b && t then Some (fold with_digit n digits) else None)
    by_test true true e = absurd cc
    by_test false true e = absurd cc
    by_test true false e = refl
    by_test false false e = refl

-- the same, where the first digit leads above it
pub past_first : (most n : ℕ) (digits : List ℕ) (b : Bool) → 1 ≤ length digits → most < n * 10 + (slice_index digits 0 - 48)
    → None ≡ if_within most b (fold with_digit n digits)
past_first most n [] b some lt = absurd (omega (arith, some))
past_first most n (c ∷ cs) b some lt = past most (n * 10 + (c - 48)) cs b lt

pub size_good : (ws : List (List ℕ)) (j : SizeJob) → is_size ws ≡ true → j ≡ size_with ws → is_good (Size j) ≡ true
size_good ws j h e =
    subst (λ x. is_good (Size x) ≡ true) (sym e) (both (has_size_form ws) (is_good (Size (size_with ws))) h)

pub size_made : (ws : List (List ℕ)) → is_size ws ≡ true → size_of ws ≡ Some (Size (size_with ws))
size_made ws h = rw h refl

pub check_good : (ws : List (List ℕ)) (j : CheckJob) → is_check ws ≡ true → j ≡ check_with ws → is_good (Check j) ≡ true
check_good ws j h e =
    subst (λ x. is_good (Check x) ≡ true) (sym e) (both (has_check_form ws) (is_good (Check (check_with ws))) h)

pub check_made : (ws : List (List ℕ)) → is_check ws ≡ true → check_of ws ≡ Some (Check (check_with ws))
check_made ws h = rw h refl

-- the one output of `check`
pub report_differs : (j : CheckJob) → AllDiffer (output_of (Check j)) (Report ∷ [])
report_differs j = ((λ e. cc), tt, tt)

-- the names after the first are names too
rest_good : (n : List ℕ) (ns : List (List ℕ)) → are_names (n ∷ ns) ≡ true → are_names ns ≡ true
rest_good n ns h =
    both (not (list_any (bytes_eq n) ns)) (are_names ns) (both (not (length n == 0)) (not (list_any (bytes_eq n) ns) && are_names ns) h)

front : (a b : Bool) → (a && b) ≡ true → a ≡ true
front true b h = refl
front false b h = absurd cc

-- a name is among none of those after it
none_after : (n : List ℕ) (ns : List (List ℕ)) → are_names (n ∷ ns) ≡ true → not (list_any (bytes_eq n) ns) ≡ true
none_after n ns h =
    front (not (list_any (bytes_eq n) ns)) (are_names ns) (both (not (length n == 0)) (not (list_any (bytes_eq n) ns) && are_names ns) h)

clash : (b c : Bool) → b ≡ true → not (b || c) ≡ true → ⊥
clash true c e h = cc
clash false c e h = cc

later : (b c : Bool) → not (b || c) ≡ true → not c ≡ true
later true c h = absurd cc
later false c h = h

-- a name that is among none of these is not the first of them, nor among the others
not_first : (n m : List ℕ) (ns : List (List ℕ)) → not (list_any (bytes_eq n) (m ∷ ns)) ≡ true → n ≢ m
not_first n m ns h e = clash (bytes_eq n m) (list_any (bytes_eq n) ns) ((bytes_eq-Decides n m).1 e) h

not_later : (n m : List ℕ) (ns : List (List ℕ)) → not (list_any (bytes_eq n) (m ∷ ns)) ≡ true → not (list_any (bytes_eq n) ns) ≡ true
not_later n m ns h = later (bytes_eq n m) (list_any (bytes_eq n) ns) h

-- the names of the three outputs of `size` differ
pub outputs_differ : (j : SizeJob) → is_good (Size j) ≡ true → AllDiffer (output_of (Size j)) (Sizes ∷ Log ∷ Report ∷ [])
outputs_differ j h =
    let from = name_if_given j.from in
    let names = both (has_numbers (Size j)) (are_names (names_of (Size j))) h in
    let three = rest_good j.lib (j.verilog ∷ j.spef ∷ j.sdc ∷ j.sizes ∷ j.log ∷ j.report ∷ from) names in
    let four = rest_good j.verilog (j.spef ∷ j.sdc ∷ j.sizes ∷ j.log ∷ j.report ∷ from) three in
    let five = rest_good j.spef (j.sdc ∷ j.sizes ∷ j.log ∷ j.report ∷ from) four in
    let written = rest_good j.sdc (j.sizes ∷ j.log ∷ j.report ∷ from) five in
    let others = none_after j.sizes (j.log ∷ j.report ∷ from) written in
    let last = none_after j.log (j.report ∷ from) (rest_good j.sizes (j.log ∷ j.report ∷ from) written) in
    let sizes_log = not_first j.sizes j.log (j.report ∷ from) others in
    let sizes_report = not_first j.sizes j.report from (not_later j.sizes j.log (j.report ∷ from) others) in
    let log_report = not_first j.log j.report from last in
    ((λ e. cc), (sizes_log, (sizes_report, tt)), ((λ e. cc), (log_report, tt), ((λ e. cc), tt, tt)))

-- a job of `size` has no workers
pub no_workers : (j : SizeJob) → is_good (Size j) ≡ true → j.workers ≡ 0
no_workers j h =
    let numbers = front (has_numbers (Size j)) (are_names (names_of (Size j))) h in
    let workers = front (j.workers == 0) (nat_le j.passes MOST_PASSES) numbers in
    (Decides-eqb j.workers 0).0 workers
