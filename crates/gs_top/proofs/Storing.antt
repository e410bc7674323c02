-- Texts stored one after another.
use Rattle.std.proofs.Common.{◌≡◌, ◌∙◌, refl, sym, ap, subst, inl, inr, ℕ, ◌+◌, ◌<◌, List, [], ◌∷◌, length, get_or, drop, Some, Ok, Err}
use Rattle.std.proofs.lemmas.List.{drop_more}
use Rattle.gs_shelf.specs.Faults.{CountsStay, NoneFell}
use Rattle.gs_shelf.specs.Files.{Files, HoldsPart, OthersStay}
use Rattle.gs_top.specs.Answer.{Seen}
use Rattle.gs_top.specs.Plan.{outputs_in, TheseStay, IsNoneOf, AllDiffer, StoredTo, IsStored}
use Rattle.gs_top.specs.Store.{StoreFails, Stores}
use Rattle.gs_top.specs.declared.plan.Text.{Text}
use Rattle.gs_top.specs.declared.status.Output.{Output}
use Rattle.gs_top.specs.declared.status.Output.TheVariants.{Console}
use Rattle.gs_top.specs.declared.status.Status.{Status}
use Rattle.gs_top.proofs.Counts.{fell_still, fell_on, stay_on, rose_later}

-- the texts from number i on begin with that one
pub item_at : (ts : List Text) (i : ℕ) (t : Text) → i < length ts → t ≡ get_or ts i t → drop i ts ≡ t ∷ drop (i + 1) ts
item_at ts i t inside is = drop_more ts i t inside ∙ ap (λ x. x ∷ drop (i + 1) ts) (sym is)

module _ (names : Output → List ℕ) where
  -- a file of another name was written, so these stay
  these_stay : (tos : List Output) (name : List ℕ) (old new : Files) → OthersStay name old new → IsNoneOf names tos name → TheseStay names tos old new
  these_stay [] name old new others h = tt
  these_stay (to ∷ tos) name old new others h = (others (names to) (λ e. h.0 (sym e)), these_stay tos name old new others h.1)

  these_on : (tos : List Output) (old mid new : Files) → TheseStay names tos old mid → TheseStay names tos mid new → TheseStay names tos old new
  these_on [] old mid new h k = tt
  these_on (to ∷ tos) old mid new h k = (k.0 ∙ h.0, these_on tos old mid new h.1 k.1)

  part_on : (name bytes : List ℕ) (old mid new : Files) → mid name ≡ old name → HoldsPart name bytes mid new → HoldsPart name bytes old new
  part_on name bytes old mid new e (inl h) = inl (h ∙ e)
  part_on name bytes old mid new e (inr h) = inr h

  module _ (tells : Type 0) where
    -- what is stored since these files held what they held before
    stored_over : (to : Output) (ts : List Text) (old mid new : Files) → TheseStay names (outputs_in ts) old mid → StoredTo tells names to ts mid new → StoredTo tells names to ts old new
    stored_over to [] old mid new same h = h
    stored_over to (t ∷ ts) old mid new same (inl h) =
        inl (h.0, h.1, (λ x. part_on (names t.to) t.bytes old mid new same.0 (h.2 x)), these_on (outputs_in ts) old mid new same.1 h.3)
    stored_over to (t ∷ ts) old mid new same (inr h) = inr (h.0, stored_over to ts old mid new same.1 h.1)

    -- the first text is stored, and then the others
    module _ (t : Text) (ts : List Text) (old mid : Files) (others : OthersStay (names t.to) old mid) (differ : AllDiffer names (outputs_in (t ∷ ts))) where
      pub first_stored : (tells → mid (names t.to) ≡ Some t.bytes) → (to : Output) (new : Files) → IsStored tells names to ts mid new → IsStored tells names to (t ∷ ts) old new
      first_stored whole to new h = record {
        stored =
            inr ((λ x. h.others (names t.to) differ.1 ∙ whole x), stored_over to ts old mid new (these_stay (outputs_in ts) (names t.to) old mid others differ.1) h.stored);
        others = λ name k. h.others name k.1 ∙ others name k.0;
      }

      -- it could not be stored
      pub first_fails : (tells → HoldsPart (names t.to) t.bytes old mid) → IsStored tells names t.to (t ∷ ts) old mid
      first_fails part = record {
        stored = inl (refl, differ.0, part, these_stay (outputs_in ts) (names t.to) old mid others differ.1);
        others = λ name k. others name k.0;
      }

    -- the texts before number i are stored: what storing the rest leaves is what storing all leaves
    pub record Goes (ts : List Text) (i : ℕ) (old now : Seen) : Type 0 where
      pub differ : AllDiffer names (outputs_in (drop i ts))
      pub rest : (to : Output) (new : Files) → IsStored tells names to (drop i ts) now.files new → IsStored tells names to ts old.files new
      pub said : now.said ≡ old.said
      pub still : CountsStay old.faults now.faults

    pub begin : (ts : List Text) (now : Seen) → AllDiffer names (outputs_in ts) → Goes ts 0 now now
    begin ts now differ = record {
      differ = differ;
      rest = λ to new h. h;
      said = refl;
      still = λ op name. refl;
    }

    module _ (ts : List Text) (i : ℕ) (t : Text) (old mid new : Seen) (item : drop i ts ≡ t ∷ drop (i + 1) ts) (goes : Goes ts i old mid) (others : OthersStay (names t.to) mid.files new.files) (said : new.said ≡ mid.said) where
      differ_here : AllDiffer names (outputs_in (t ∷ drop (i + 1) ts))
      differ_here = subst (λ xs. AllDiffer names (outputs_in xs)) item goes.differ

      rest_here : (to : Output) (files : Files) → IsStored tells names to (t ∷ drop (i + 1) ts) mid.files files → IsStored tells names to ts old.files files
      rest_here to files h = goes.rest to files (subst (λ xs. IsStored tells names to xs mid.files files) (sym item) h)

      pub next : (tells → new.files (names t.to) ≡ Some t.bytes) → CountsStay mid.faults new.faults → Goes ts (i + 1) old new
      next whole still = record {
        differ = differ_here.2;
        rest = λ to files h. rest_here to files (first_stored t (drop (i + 1) ts) mid.files new.files others differ_here whole to files h);
        said = said ∙ goes.said;
        still = stay_on old.faults mid.faults new.faults goes.still still;
      }

      fails_on : (s : Status) → StoreFails names t.to mid.faults new.faults s → StoreFails names t.to old.faults new.faults s
      fails_on s (inl h) = inl (h.0, rose_later _ _ _ (fell_still old.faults mid.faults goes.still _ _) h.1)
      fails_on s (inr h) = inr (h.0, stay_on old.faults mid.faults new.faults goes.still h.1)

      pub fault : {X : Type 0} (s : Status) → (tells → HoldsPart (names t.to) t.bytes mid.files new.files) → NoneFell mid.faults new.faults → StoreFails names t.to mid.faults new.faults s
          → Stores {X = X} tells names ts old new (Err s)
      fault s part later fails = record {
        said = said ∙ goes.said;
        later = fell_on old.faults mid.faults new.faults (fell_still old.faults mid.faults goes.still) later;
        answer = record {
          to = t.to;
          file = differ_here.0;
          stored = rest_here t.to new.files (first_fails t (drop (i + 1) ts) mid.files new.files others differ_here part);
          fails = fails_on s fails;
        };
      }

    pub ended : {X : Type 0} (ts : List Text) (i : ℕ) (u : X) (old now : Seen) → drop i ts ≡ [] → Goes ts i old now → Stores tells names ts old now (Ok u)
    ended ts i u old now none goes = record {
      said = goes.said;
      later = fell_still old.faults now.faults goes.still;
      answer =
          (goes.rest Console now.files (subst (λ xs. IsStored tells names Console xs now.files now.files) (sym none) (record { stored = refl; others = λ name k. refl })), goes.still);
    }
