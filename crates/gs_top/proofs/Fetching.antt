-- What the fetch of a file answers.
use Rattle.std.proofs.Common.{◌≡◌, ◌≢◌, ◌∙◌, refl, sym, ap, subst, ℕ, ◌<◌, ◌≤◌, List, length, Result, Err, arith}
use Rattle.gs_shelf.specs.Faults.{Counts, CountsStay}
use Rattle.gs_shelf.specs.Files.{Files, content}
use Rattle.gs_shelf.specs.Whole.{FetchCause}
use Rattle.gs_shelf.specs.declared.calls.Op.TheVariants.{Fetch}
use Rattle.gs_shelf.specs.declared.whole.FetchErr.{FetchErr}
use Rattle.gs_shelf.specs.declared.whole.FetchErr.TheVariants as fetched
use Rattle.gs_shelf.specs.declared.whole.TheConstants.{FILE_LIMIT}
use Rattle.gs_top.specs.Answer.{IsMade, IsRefused, Stopped, ByMemory, ByFault, ByRefusal, Unfetched}
use Rattle.gs_top.specs.Kind.{cycle_aside}
use Rattle.gs_top.specs.Refusal.{fetch_status}
use Rattle.gs_top.specs.Stage.{Bytes, bytes_of, fetch}
use Rattle.gs_top.specs.declared.status.Input.{Input}
use Rattle.gs_top.specs.declared.status.Status.{Status}

not_both : (m n : ℕ) → m < n → n ≤ m → ⊥
not_both m n h k = omega arith

module _ (file : Input) (b : Bytes) where
  pub fetch_made : (bytes : List ℕ) → bytes ≡ b file → length bytes ≤ FILE_LIMIT → IsMade ((fetch file).makes b) ((fetch file).refuses b) bytes
  fetch_made bytes e few =
      let within : length (b file) ≤ FILE_LIMIT = subst (λ x. length x ≤ FILE_LIMIT) e few in
      record {
        stands = (e, within);
        only = λ w h. h.0 ∙ sym e;
        accepted = λ s h. not_both FILE_LIMIT (length (b file)) h.1 within;
      }

  too_large : FILE_LIMIT < length (b file) → IsRefused ((fetch file).makes b) ((fetch file).refuses b) (fetch_status file fetched.TooLarge)
  too_large h = record {
    refusal = record { kind = refl; no_mem = tt };
    stands = (refl, h);
    only = λ t k. ap cycle_aside k.0;
    nothing = λ v k. not_both FILE_LIMIT (length (b file)) h k.1;
  }

  module _ (tells : Type 0) (names : Input → List ℕ) (old new : Counts) where
    unfetched_here : {X : Type 0} (e : FetchErr) → FetchCause tells FILE_LIMIT (old Fetch (names file)) (new Fetch (names file)) (b file) e
        → (◌≢◌ {A = Result X FetchErr} (Err e) (Err fetched.Failed) → CountsStay old new) → Stopped tells (fetch file) b (Unfetched names old new) (CountsStay old new) (fetch_status file e)
    unfetched_here fetched.Failed cause still = ByFault file refl cause (λ t. refl)
    unfetched_here fetched.TooLarge cause still =
        ByRefusal (record { kind = refl; no_mem = tt }) (still (λ h. cc)) (λ t. too_large (cause t))
    unfetched_here fetched.Mem cause still = ByMemory refl (still (λ h. cc))

-- a file of this name was not fetched
pub unfetched : {X : Type 0} (file : Input) (files : Files) (tells : Type 0) (names : Input → List ℕ) (old new : Counts) (name : List ℕ) (s : Status) (e : FetchErr)
    → name ≡ names file → s ≡ fetch_status file e → FetchCause tells FILE_LIMIT (old Fetch name) (new Fetch name) (content files name) e
    → (◌≢◌ {A = Result X FetchErr} (Err e) (Err fetched.Failed) → CountsStay old new) → Stopped tells (fetch file) (bytes_of names files) (Unfetched names old new) (CountsStay old new) s
unfetched file files tells names old new name s e is status cause still =
    let At : List ℕ → Type 0 = λ n. FetchCause tells FILE_LIMIT (old Fetch n) (new Fetch n) (content files n) e in
    let b = bytes_of names files in
    subst (Stopped tells (fetch file) b (Unfetched names old new) (CountsStay old new)) (sym status) (unfetched_here file b tells names old new e (subst At is cause) still)
