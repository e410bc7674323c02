-- From the clauses of a reader to what its call settles.
use Rattle.std.proofs.Common.{◌≡◌, ◌≢◌, ◌∙◌, refl, sym, ap, subst, inl, inr, ◌⊎◌, Ok, Err}
use Rattle.gs_lib.specs.declared.error.LibErr.{LibErr}
use Rattle.gs_lib.specs.declared.error.LibErr.TheVariants as lib
use Rattle.gs_libtree.specs.declared.error.LibTextErr.{LibTextErr}
use Rattle.gs_libtree.specs.declared.error.LibTextErr.TheVariants as tree
use Rattle.gs_sdc.specs.declared.error.SdcErr.{SdcErr}
use Rattle.gs_sdc.specs.declared.error.SdcErr.TheVariants as sdc
use Rattle.gs_sizes.specs.declared.error.SizesErr.{SizesErr}
use Rattle.gs_sizes.specs.declared.error.SizesErr.TheVariants as sizes
use Rattle.gs_spef.specs.declared.error.SpefErr.{SpefErr}
use Rattle.gs_spef.specs.declared.error.SpefErr.TheVariants as spef
use Rattle.gs_verilog.specs.declared.error.VerilogErr.{VerilogErr}
use Rattle.gs_verilog.specs.declared.error.VerilogErr.TheVariants as verilog
use Rattle.gs_top.specs.Answer.{Settles}
use Rattle.gs_top.specs.Kind.{IsRefusal, SameRefusal, cycle_aside}
use Rattle.gs_top.specs.Refusal.{tree_status, lib_status, verilog_status, spef_status, sdc_status, sizes_status}
use Rattle.gs_top.specs.Stage.{Caused}
use Rattle.gs_top.specs.declared.status.Status.{Status}
use Rattle.gs_top.specs.declared.status.Status.TheVariants.{OutOfMemory}

-- an error is want of memory, or isn't, and is a refusal then
abbrev pub Split : {E : Type 0} → (mem : E) → (E → Status) → E → Type 0
Split mem status_of e = (e ≡ mem) ⊎ ((e ≢ mem) × IsRefusal (status_of e))

module _ {V E : Type 0} (mem : E) (status_of : E → Status) (Is : V → Type 0) (Has : E → Type 0) where
  pub read_ok : (v : V) → Is v → ((w : V) → Is w → v ≡ w) → ((e : E) → e ≢ mem → Has e → ⊥) → Settles Is (Caused mem status_of Has) (Ok v)
  read_ok v is only exact = record {
    stands = is;
    only = λ w h. sym (only w h);
    accepted = λ s h. exact h.0 h.1 h.2;
  }

  module _ (e : E) (s : Status) (is : s ≡ status_of e) (exact : (f : E) → f ≢ mem → Has f → (e ≡ f) ⊎ (e ≡ mem)) where
    same : e ≢ mem → (t : Status) → Caused mem status_of Has t → SameRefusal t s
    same ne t h =
        elim (exact h.0 h.1 h.2) [ inl x ↦ ap cycle_aside (h.3 ∙ ap status_of (sym x) ∙ sym is) | inr x ↦ absurd (ne x) ]

    pub read_err : status_of mem ≡ OutOfMemory → Split mem status_of e → Has e → ((w : V) → Is w → e ≡ mem) → Settles Is (Caused mem status_of Has) (Err s)
    read_err lost (inl m) has only = inl (is ∙ ap status_of m ∙ lost)
    read_err lost (inr k) has only = inr (record {
      refusal = subst IsRefusal (sym is) k.1;
      stands = (e, k.0, has, is);
      only = same k.0;
      nothing = λ v h. k.0 (only v h);
    })

pub tree_split : (e : LibTextErr) → Split tree.Mem tree_status e
tree_split (tree.OpenString at) = inr (λ h. cc, record { kind = refl; no_mem = tt })
tree_split (tree.OpenComment at) = inr (λ h. cc, record { kind = refl; no_mem = tt })
tree_split (tree.TooDeep i) = inr (λ h. cc, record { kind = refl; no_mem = tt })
tree_split (tree.BadPiece i) = inr (λ h. cc, record { kind = refl; no_mem = tt })
tree_split tree.Mem = inl refl

pub lib_split : (e : LibErr) → Split lib.Mem lib_status e
lib_split (lib.Missing cell what) = inr (λ h. cc, record { kind = refl; no_mem = λ h. cc })
lib_split lib.NoUnit = inr (λ h. cc, record { kind = refl; no_mem = λ h. cc })
lib_split lib.BadUnit = inr (λ h. cc, record { kind = refl; no_mem = λ h. cc })
lib_split (lib.TwoCells name) = inr (λ h. cc, record { kind = refl; no_mem = λ h. cc })
lib_split (lib.BadNumber cell) = inr (λ h. cc, record { kind = refl; no_mem = λ h. cc })
lib_split (lib.BadTable cell i) = inr (λ h. cc, record { kind = refl; no_mem = λ h. cc })
lib_split lib.TooMany = inr (λ h. cc, record { kind = refl; no_mem = λ h. cc })
lib_split lib.Mem = inl refl

pub verilog_split : (e : VerilogErr) → Split verilog.Mem verilog_status e
verilog_split (verilog.OpenComment at) = inr (λ h. cc, record { kind = refl; no_mem = tt })
verilog_split (verilog.BadPiece i) = inr (λ h. cc, record { kind = refl; no_mem = tt })
verilog_split (verilog.TwoNames i) = inr (λ h. cc, record { kind = refl; no_mem = tt })
verilog_split (verilog.NoEnd i) = inr (λ h. cc, record { kind = refl; no_mem = tt })
verilog_split verilog.Mem = inl refl

pub spef_split : (e : SpefErr) → Split spef.Mem spef_status e
spef_split (spef.BadLine i) = inr (λ h. cc, record { kind = refl; no_mem = tt })
spef_split (spef.Distributed i) = inr (λ h. cc, record { kind = refl; no_mem = tt })
spef_split (spef.UnknownIndex i) = inr (λ h. cc, record { kind = refl; no_mem = tt })
spef_split (spef.TwoNets i) = inr (λ h. cc, record { kind = refl; no_mem = tt })
spef_split spef.Mem = inl refl

pub sdc_split : (e : SdcErr) → Split sdc.Mem sdc_status e
sdc_split (sdc.NotBuilt i) = inr (λ h. cc, record { kind = refl; no_mem = tt })
sdc_split (sdc.BadLine i) = inr (λ h. cc, record { kind = refl; no_mem = tt })
sdc_split (sdc.TwoClocks i) = inr (λ h. cc, record { kind = refl; no_mem = tt })
sdc_split (sdc.TwoValues i) = inr (λ h. cc, record { kind = refl; no_mem = tt })
sdc_split (sdc.NoClock i) = inr (λ h. cc, record { kind = refl; no_mem = tt })
sdc_split sdc.Mem = inl refl

pub sizes_split : (e : SizesErr) → Split sizes.Mem sizes_status e
sizes_split (sizes.BadLine i) = inr (λ h. cc, record { kind = refl; no_mem = tt })
sizes_split (sizes.Unknown i) = inr (λ h. cc, record { kind = refl; no_mem = tt })
sizes_split (sizes.Twice i) = inr (λ h. cc, record { kind = refl; no_mem = tt })
sizes_split (sizes.WrongCell i) = inr (λ h. cc, record { kind = refl; no_mem = tt })
sizes_split (sizes.Absent name i) = inr (λ h. cc, record { kind = refl; no_mem = tt })
sizes_split sizes.Mem = inl refl
