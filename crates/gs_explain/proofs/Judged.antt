-- What a reader's answer says of a piece.
use Rattle.std.proofs.Common.{◌≡◌, ◌≢◌, refl, sym, subst, ℕ, Bool, true, false, ◌==◌, Option, Result, Ok, Err, IfSome, IfOk, ◌⊎◌, inl, inr, arith}
use Rattle.std.specs.Result.{result_ok}
use Rattle.gs_libtree.specs.declared.error.LibTextErr.{LibTextErr}
use Rattle.gs_libtree.specs.declared.error.LibTextErr.TheVariants as lib_err
use Rattle.gs_verilog.specs.declared.error.VerilogErr.{VerilogErr}
use Rattle.gs_verilog.specs.declared.error.VerilogErr.TheVariants as verilog_err
use Rattle.gs_explain.specs.Judging.{Decides, liberty_judged, verilog_judged}

pub told : {E : Type 0} (P : Bool → Type 0) (r : Result Bool E) (o : Option Bool) → result_ok r ≡ o → IfSome o P → IfOk r P
told P (Ok b) o e h = subst (λ x. IfSome x P) (sym e) h
told P (Err x) o e h = tt

module _ (Has : VerilogErr → Type 0) (i : ℕ) where
  same_place : (bad : ℕ) → verilog_err.BadPiece bad ≡ verilog_err.BadPiece i → bad ≡ i
  same_place bad e = cc

  verilog_at : (bad : ℕ) (b : Bool) → (bad == i) ≡ b → Has (verilog_err.BadPiece bad) → (Has (verilog_err.BadPiece i) → verilog_err.BadPiece bad ≡ verilog_err.BadPiece i) → Decides (Has (verilog_err.BadPiece i)) b
  verilog_at bad true e has only = subst (λ k. Has (verilog_err.BadPiece k)) (grind (arith, e)) has
  verilog_at bad false e has only = λ h. let same : bad ≡ i = same_place bad (only h) in grind (arith, e, same)

  pub verilog_says : (e : VerilogErr) → Has e → ((f : VerilogErr) → f ≢ verilog_err.Mem → Has f → (e ≡ f) ⊎ (e ≡ verilog_err.Mem)) → IfSome (verilog_judged e i) (Decides (Has (verilog_err.BadPiece i)))
  verilog_says (verilog_err.BadPiece bad) has exact =
      verilog_at bad (bad == i) refl has (λ h. elim (exact (verilog_err.BadPiece i) (λ k. cc) h) [ inl e ↦ e | inr e ↦ cc ])
  verilog_says verilog_err.Mem has exact = tt
  verilog_says (verilog_err.OpenComment at) has exact = λ h. elim (exact (verilog_err.BadPiece i) (λ k. cc) h) [ inl e ↦ cc | inr e ↦ cc ]
  verilog_says (verilog_err.TwoNames at) has exact = λ h. elim (exact (verilog_err.BadPiece i) (λ k. cc) h) [ inl e ↦ cc | inr e ↦ cc ]
  verilog_says (verilog_err.NoEnd at) has exact = λ h. elim (exact (verilog_err.BadPiece i) (λ k. cc) h) [ inl e ↦ cc | inr e ↦ cc ]

module _ (Has : LibTextErr → Type 0) (i : ℕ) where
  same_spot : (bad : ℕ) → lib_err.BadPiece bad ≡ lib_err.BadPiece i → bad ≡ i
  same_spot bad e = cc

  liberty_at : (bad : ℕ) (b : Bool) → (bad == i) ≡ b → Has (lib_err.BadPiece bad) → (Has (lib_err.BadPiece i) → lib_err.BadPiece bad ≡ lib_err.BadPiece i) → Decides (Has (lib_err.BadPiece i)) b
  liberty_at bad true e has only = subst (λ k. Has (lib_err.BadPiece k)) (grind (arith, e)) has
  liberty_at bad false e has only = λ h. let same : bad ≡ i = same_spot bad (only h) in grind (arith, e, same)

  pub liberty_says : (e : LibTextErr) → Has e → ((f : LibTextErr) → f ≢ lib_err.Mem → Has f → (e ≡ f) ⊎ (e ≡ lib_err.Mem)) → IfSome (liberty_judged e i) (Decides (Has (lib_err.BadPiece i)))
  liberty_says (lib_err.BadPiece bad) has exact =
      liberty_at bad (bad == i) refl has (λ h. elim (exact (lib_err.BadPiece i) (λ k. cc) h) [ inl e ↦ e | inr e ↦ cc ])
  liberty_says lib_err.Mem has exact = tt
  liberty_says (lib_err.OpenString at) has exact = λ h. elim (exact (lib_err.BadPiece i) (λ k. cc) h) [ inl e ↦ cc | inr e ↦ cc ]
  liberty_says (lib_err.OpenComment at) has exact = λ h. elim (exact (lib_err.BadPiece i) (λ k. cc) h) [ inl e ↦ cc | inr e ↦ cc ]
  liberty_says (lib_err.TooDeep at) has exact = λ h. elim (exact (lib_err.BadPiece i) (λ k. cc) h) [ inl e ↦ cc | inr e ↦ cc ]
