-- What linking four files settles.
use Rattle.std.proofs.Common.{◌≡◌, ◌≢◌, ◌∙◌, refl, sym, ap, subst, inl, inr, ◌⊎◌, Err}
use Rattle.gs_link.specs.Cause as linking
use Rattle.gs_survey.specs.declared.error.LinkErr.{LinkErr}
use Rattle.gs_survey.specs.declared.error.LinkErr.TheVariants as link
use Rattle.gs_top.specs.Answer.{Settles}
use Rattle.gs_top.specs.Kind.{IsRefusal, SameRefusal, cycle_aside}
use Rattle.gs_top.specs.Refusal.{link_status}
use Rattle.gs_top.specs.Stage.{Caused}
use Rattle.gs_top.specs.declared.status.Status.{Status}
use Rattle.gs_top.specs.declared.status.Status.TheVariants.{BadDesign}
use Rattle.gs_top.proofs.Readers.{Split}

pub link_split : (e : LinkErr) → Split link.Mem link_status e
link_split (link.UnknownCell by) = inr (λ h. cc, record { kind = refl; no_mem = λ h. cc })
link_split (link.UnknownPin by pin) = inr (λ h. cc, record { kind = refl; no_mem = λ h. cc })
link_split (link.OpenPin inst pin) = inr (λ h. cc, record { kind = refl; no_mem = λ h. cc })
link_split (link.TwoDrivers net) = inr (λ h. cc, record { kind = refl; no_mem = λ h. cc })
link_split (link.Undriven net) = inr (λ h. cc, record { kind = refl; no_mem = λ h. cc })
link_split (link.UnknownPort name) = inr (λ h. cc, record { kind = refl; no_mem = λ h. cc })
link_split (link.UnknownNet name) = inr (λ h. cc, record { kind = refl; no_mem = λ h. cc })
link_split (link.NoArc cell pin) = inr (λ h. cc, record { kind = refl; no_mem = λ h. cc })
link_split (link.TooMany what count) = inr (λ h. cc, record { kind = refl; no_mem = λ h. cc })
link_split (link.Loop cycle) = inr (λ h. cc, record { kind = refl; no_mem = λ h. cc })
link_split link.Mem = inl refl

-- a refusal but want of memory is a bad design
bad : (e : LinkErr) → e ≢ link.Mem → link_status e ≡ BadDesign e
bad (link.UnknownCell by) h = refl
bad (link.UnknownPin by pin) h = refl
bad (link.OpenPin inst pin) h = refl
bad (link.TwoDrivers net) h = refl
bad (link.Undriven net) h = refl
bad (link.UnknownPort name) h = refl
bad (link.UnknownNet name) h = refl
bad (link.NoArc cell pin) h = refl
bad (link.TooMany what count) h = refl
bad (link.Loop cycle) h = refl
bad link.Mem h = absurd (h refl)

aside_bad : (e : LinkErr) → cycle_aside (BadDesign e) ≡ BadDesign (linking.cycle_aside e)
unfolding cycle_aside
aside_bad e = refl

aside : (e : LinkErr) → e ≢ link.Mem → cycle_aside (link_status e) ≡ BadDesign (linking.cycle_aside e)
aside e h = ap cycle_aside (bad e h) ∙ aside_bad e

-- refusals that differ in the cycle at most are one
pub one_status : (e f : LinkErr) → e ≢ link.Mem → f ≢ link.Mem → linking.SameRefusal e f → SameRefusal (link_status e) (link_status f)
one_status e f h k same = aside e h ∙ ap BadDesign same ∙ sym (aside f k)

module _ {V : Type 0} (Is : V → Type 0) (Has : LinkErr → Type 0) (e : LinkErr) (s : Status) (is : s ≡ link_status e) (exact : (f : LinkErr) → f ≢ link.Mem → Has f → linking.SameRefusal e f ⊎ (e ≡ link.Mem)) where
  same : e ≢ link.Mem → (t : Status) → Caused link.Mem link_status Has t → SameRefusal t s
  same ne t h =
      elim (exact h.0 h.1 h.2) [ inl x ↦ ap cycle_aside h.3 ∙ one_status h.0 e h.1 ne (sym x) ∙ sym (ap cycle_aside is) | inr x ↦ absurd (ne x) ]

  pub unlinked : Split link.Mem link_status e → Has e → ((w : V) → Is w → e ≡ link.Mem) → Settles Is (Caused link.Mem link_status Has) (Err s)
  unlinked (inl m) has only = inl (is ∙ ap link_status m)
  unlinked (inr k) has only = inr (record {
    refusal = subst IsRefusal (sym is) k.1;
    stands = (e, k.0, has, is);
    only = same k.0;
    nothing = λ v h. k.0 (only v h);
  })
