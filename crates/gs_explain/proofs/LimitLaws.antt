-- The place of a net's block, by the answer of the reader of wires.
use Rattle.std.proofs.Common.{◌≡◌, ◌≢◌, subst, inl, inr, ℕ, List, Option, None, Result, Ok, Err, IfOk}
use Rattle.std.specs.List.{position_or_len}
use Rattle.std.specs.Str.{bytes_eq}
use Rattle.gs_locate.specs.Found.{IsNthLocated}
use Rattle.gs_locate.specs.Spef.{is_net_block}
use Rattle.gs_spef.specs.Spef.{IsSpef}
use Rattle.gs_spef.specs.declared.error.SpefErr.{SpefErr}
use Rattle.gs_spef.specs.declared.error.SpefErr.TheVariants.{Mem}
use Rattle.gs_spef.specs.declared.wires.Wire.{Wire}
use Rattle.gs_text.specs.declared.kinds.Style.TheVariants.{Spef}
use Rattle.gs_explain.specs.Limits.{IsWirePlace}

module _ {E : Type 0} (net bytes : List ℕ) where
  pub of_wires : (ws : List Wire) (r : Result (Option ℕ) E) (n : ℕ) → IsSpef bytes ws → n ≡ position_or_len (λ w. bytes_eq net w.net) ws
      → IfOk r (IsNthLocated is_net_block n Spef bytes) → IfOk r (IsWirePlace net bytes)
  of_wires ws (Ok o) n is e h = inl (ws, is, subst (λ k. IsNthLocated is_net_block k Spef bytes o) e h)
  of_wires ws (Err x) n is e h = tt

  pub of_unread : (error : SpefErr) (r : Result (Option ℕ) E) → IfOk r (λ o. o ≡ None) → IfOk r (λ o. error ≢ Mem)
      → ((ws : List Wire) → IsSpef bytes ws → error ≡ Mem) → IfOk r (IsWirePlace net bytes)
  of_unread error (Ok o) none cause only = inr (λ ws is. cause (only ws is), none)
  of_unread error (Err x) none cause only = tt
