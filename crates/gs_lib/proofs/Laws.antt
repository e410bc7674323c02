-- The law of a tree, and the clauses of the public call.

use Rattle.std.proofs.Common.{◌≡◌, ◌≢◌, ◌⊎◌, inl, inr, ◌∙◌, sym, refl, Option, None, Some, Result, Ok, Err, IfOk, IfErr, MatchResult}
use Rattle.gs_design.specs.declared.library.Library.{Library}
use Rattle.gs_grammar.specs.Answers.{IsDecided, IsExact, IsOnly}
use Rattle.gs_grammar.specs.Lawful.{IsLawful}
use Rattle.gs_lib.specs.Library.{HasCause, IsLibraryOf, LibraryLists, LibraryOf, first_fault, library_lists}
use Rattle.gs_lib.specs.declared.error.LibErr.{LibErr}
use Rattle.gs_lib.specs.declared.error.LibErr.TheVariants as errors
use Rattle.gs_libtree.specs.declared.tree.Node.{Node}
use Rattle.gs_lib.proofs.Reading.{IsMem, cause, judge, mem, no_mem}
use Rattle.gs_lib.proofs.Same.{library_same}
use Rattle.gs_lib.proofs.There.{HasLibrary, library_there}

module _ (root : Node) where
  same_lists : (l m : LibraryLists) → LibraryOf root l → LibraryOf root m → l ≡ m
  same_lists l m a b = λ i. record {
    units = (a.units ∙ sym b.units) i;
    leak_unit = (a.leak ∙ sym b.leak) i;
    slew_default = (a.slew ∙ sym b.slew) i;
    cells = (a.cells ∙ sym b.cells) i;
  }

  same_library : (l m : Library) → IsLibraryOf root l → IsLibraryOf root m → m ≡ l
  same_library l m a b = library_same m l (same_lists (library_lists m) (library_lists l) b a)

  same_cause : (e f : LibErr) → first_fault root ≡ Some e → first_fault root ≡ Some f → f ≡ e
  same_cause e f h k =
      let both : Some f ≡ Some e = sym k ∙ h in
      cc

  decided_by : (o : Option LibErr) → first_fault root ≡ o → IsDecided errors.Mem (IsLibraryOf root) (HasCause root)
  decided_by None h = let l : HasLibrary root = library_there root h in inl (l.library, l.is)
  decided_by (Some e) h = inr (e, no_mem root e h, λ other. h)

  pub lawful : IsLawful errors.Mem (IsLibraryOf root) (HasCause root)
  lawful = record {
    decided = decided_by (first_fault root) refl;
    apart = λ l e is other has. let never : None ≡ Some e = sym is.faultless ∙ has other in absurd cc;
    one_value = λ l m a b. same_library l m a b;
    one_cause = λ e f n h m k. same_cause e f (h n) (k m);
  }

  -- ---- the clauses

  abbrev pub Answers : Result Library LibErr → Type 0
  Answers r = MatchResult r (λ l. IsLibraryOf root l) (λ e. HasCause root e)

  pub answers_ok : (r : Result Library LibErr) → Answers r → IfOk r (λ l. IsLibraryOf root l)
  answers_ok (Ok l) h = h
  answers_ok (Err e) h = tt

  pub answers_err : (r : Result Library LibErr) → Answers r → IfErr r (λ e. HasCause root e)
  answers_err (Ok l) h = tt
  answers_err (Err e) h = h

  mem_by : (e : LibErr) → first_fault root ≡ None → HasCause root e → IsMem e → e ≡ errors.Mem
  mem_by e none has (mem m) = m
  mem_by e none has (cause c) = let never : None ≡ Some e = sym none ∙ has c in absurd cc

  pub answers_only : (r : Result Library LibErr) → Answers r → IsOnly errors.Mem (IsLibraryOf root) r
  answers_only (Ok l) h m is = same_library m l is h
  answers_only (Err e) h m is = mem_by e is.faultless h (judge e)

  exact_by : (e f : LibErr) → first_fault root ≡ Some e → HasCause root f → IsMem f → (f ≡ e) ⊎ (f ≡ errors.Mem)
  exact_by e f is has (mem m) = inr m
  exact_by e f is has (cause c) = inl (same_cause e f is (has c))

  pub answers_exact : (r : Result Library LibErr) → Answers r → IsExact errors.Mem (HasCause root) r
  answers_exact (Ok l) h e other has = let never : None ≡ Some e = sym h.faultless ∙ has other in absurd cc
  answers_exact (Err f) h e other has = exact_by e f (has other) h (judge f)
