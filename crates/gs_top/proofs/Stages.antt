-- Stages one after another: what their calls answer together.
use Rattle.std.proofs.Common.{◌≡◌, ◌∙◌, refl, sym, subst, inl, inr, ℕ, ◌≤◌, List, Result, Ok, Err, arith}
use Rattle.gs_shelf.specs.Faults.{Counts, CountsStay, NoneFell}
use Rattle.gs_shelf.specs.Files.{Files}
use Rattle.gs_shelf.specs.declared.calls.Op.TheVariants.{Fetch}
use Rattle.gs_top.specs.Answer.{Seen, IsMade, IsRefused, Settles, Stopped, ByMemory, ByFault, ByRefusal, Answers, Unfetched, Works}
use Rattle.gs_top.specs.Stage.{Bytes, Stage, bytes_of, and_then, give, judge}
use Rattle.gs_top.specs.declared.status.Input.{Input}
use Rattle.gs_top.specs.declared.status.Status.{Status}
use Rattle.gs_top.proofs.Counts.{rose_later, fell_on, stay_on}

-- over the same bytes
module _ {V W : Type 0} (a : Stage V) (next : V → Stage W) (b : Bytes) where
  pub refused_first : (s : Status) → IsRefused (a.makes b) (a.refuses b) s → IsRefused ((and_then a next).makes b) ((and_then a next).refuses b) s
  refused_first s h = record {
    refusal = h.refusal;
    stands = inl h.stands;
    only = λ t k. elim k [ inl x ↦ h.only t x | inr x ↦ absurd (h.nothing x.0 x.1) ];
    nothing = λ w k. h.nothing k.0 k.1;
  }

  module _ (v : V) (first : IsMade (a.makes b) (a.refuses b) v) where
    pub made_then : (w : W) → IsMade ((next v).makes b) ((next v).refuses b) w → IsMade ((and_then a next).makes b) ((and_then a next).refuses b) w
    made_then w h = record {
      stands = (v, first.stands, h.stands);
      only = λ u k. h.only u (subst (λ x. (next x).makes b u) (first.only k.0 k.1) k.2);
      accepted = λ s k. elim k [ inl x ↦ first.accepted s x | inr x ↦ h.accepted s (subst (λ u. (next u).refuses b s) (first.only x.0 x.1) x.2) ];
    }

    pub refused_then : (s : Status) → IsRefused ((next v).makes b) ((next v).refuses b) s → IsRefused ((and_then a next).makes b) ((and_then a next).refuses b) s
    refused_then s h = record {
      refusal = h.refusal;
      stands = inr (v, first.stands, h.stands);
      only = λ t k. elim k [ inl x ↦ absurd (first.accepted t x) | inr x ↦ h.only t (subst (λ u. (next u).refuses b t) (first.only x.0 x.1) x.2) ];
      nothing = λ w k. h.nothing w (subst (λ u. (next u).makes b w) (first.only k.0 k.1) k.2);
    }

-- the second stage's answer is that of both
module _ {V W : Type 0} (tells : Type 0) (a : Stage V) (next : V → Stage W) (b : Bytes) (names : Input → List ℕ) (old mid new : Counts) (later : NoneFell old mid) (v : V) (still : CountsStay old mid) (first : tells → IsMade (a.makes b) (a.refuses b) v) where
  stopped_on : (s : Status) → Stopped tells (next v) b (Unfetched names mid new) (CountsStay mid new) s → Stopped tells (and_then a next) b (Unfetched names old new) (CountsStay old new) s
  stopped_on s (ByMemory e h) = ByMemory e (stay_on old mid new still h)
  stopped_on s (ByFault file e rose reads) =
      ByFault file e (rose_later (old Fetch (names file)) (mid Fetch (names file)) (new Fetch (names file)) (later Fetch (names file)) rose) (λ t. inr (v, (first t).stands, reads t))
  stopped_on s (ByRefusal is h cause) =
      ByRefusal is (stay_on old mid new still h) (λ t. refused_then a next b v (first t) s (cause t))

  answer_on : (r : Result W Status) → Answers tells (next v) b (Unfetched names mid new) (CountsStay mid new) r → Answers tells (and_then a next) b (Unfetched names old new) (CountsStay old new) r
  answer_on (Ok w) h = (stay_on old mid new still h.0, λ t. made_then a next b v (first t) w (h.1 t))
  answer_on (Err s) h = stopped_on s h

pub goes_on : {V W : Type 0} {tells : Type 0} {a : Stage V} {next : V → Stage W} {names : Input → List ℕ} {old mid new : Seen} {v : V} {r : Result W Status}
    → Works tells a names old mid (Ok v) → Works tells (next v) names mid new r → Works tells (and_then a next) names old new r
goes_on {tells = tells} {a = a} {next = next} {names = names} {old = old} {mid = mid} {new = new} {v = v} {r = r} f g =
    let same : mid.files ≡ old.files = λ i name. f.stay name i in
    let Then : Files → Type 0 = λ files. Answers tells (next v) (bytes_of names files) (Unfetched names mid.faults new.faults) (CountsStay mid.faults new.faults) r in
    record {
      stay = λ name. g.stay name ∙ f.stay name;
      said = g.said ∙ f.said;
      later = fell_on old.faults mid.faults new.faults f.later g.later;
      answer = answer_on tells a next (bytes_of names old.files) names old.faults mid.faults new.faults f.later v f.answer.0 f.answer.1 r (subst Then same g.answer);
    }

stopped_first : {V W : Type 0} (tells : Type 0) (a : Stage V) (next : V → Stage W) (b : Bytes) (Fault : Input → Type 0) (still : Type 0) (s : Status)
    → Stopped tells a b Fault still s → Stopped tells (and_then a next) b Fault still s
stopped_first tells a next b Fault still s (ByMemory e h) = ByMemory e h
stopped_first tells a next b Fault still s (ByFault file e fault reads) = ByFault file e fault (λ t. inl (reads t))
stopped_first tells a next b Fault still s (ByRefusal is h cause) = ByRefusal is h (λ t. refused_first a next b s (cause t))

pub stops : {V W : Type 0} {tells : Type 0} {a : Stage V} {next : V → Stage W} {names : Input → List ℕ} {old new : Seen} {s : Status}
    → Works tells a names old new (Err s) → Works tells (and_then a next) names old new (Err s)
stops {tells = tells} {a = a} {next = next} {names = names} {old = old} {new = new} {s = s} f = record {
  stay = f.stay;
  said = f.said;
  later = f.later;
  answer = stopped_first tells a next (bytes_of names old.files) (Unfetched names old.faults new.faults) (CountsStay old.faults new.faults) s f.answer;
}

no_less : (n : ℕ) → n ≤ n
no_less n = omega arith

-- a call that touches no shelf
settled_answer : {V : Type 0} (tells : Type 0) (Is : V → Type 0) (Cause : Status → Type 0) (b : Bytes) (Fault : Input → Type 0) (still : Type 0) → still
    → (r : Result V Status) → Settles Is Cause r → Answers tells (judge Is Cause) b Fault still r
settled_answer tells Is Cause b Fault still h (Ok v) made = (h, λ t. made)
settled_answer tells Is Cause b Fault still h (Err s) (inl e) = ByMemory e h
settled_answer tells Is Cause b Fault still h (Err s) (inr refused) = ByRefusal refused.refusal h (λ t. refused)

pub settled : {V : Type 0} {tells : Type 0} {names : Input → List ℕ} {now : Seen} {r : Result V Status} (Is : V → Type 0) (Cause : Status → Type 0)
    → Settles Is Cause r → Works tells (judge Is Cause) names now now r
settled {tells = tells} {names = names} {now = now} {r = r} Is Cause h = record {
  stay = λ name. refl;
  said = refl;
  later = λ op name. no_less (now.faults op name);
  answer = settled_answer tells Is Cause (bytes_of names now.files) (Unfetched names now.faults now.faults) (CountsStay now.faults now.faults) (λ op name. refl) r h;
}

-- the same, where the call is given what equals the value before
pub settled_on : {B V : Type 0} {tells : Type 0} {names : Input → List ℕ} {now : Seen} {r : Result V Status} {b c : B} (Is : B → V → Type 0) (Cause : B → Status → Type 0)
    → b ≡ c → Settles (Is b) (Cause b) r → Works tells (judge (Is c) (Cause c)) names now now r
settled_on {r = r} {c = c} Is Cause e h = settled (Is c) (Cause c) (subst (λ x. Settles (Is x) (Cause x) r) e h)

-- what is given is made
pub given : {V : Type 0} {tells : Type 0} {names : Input → List ℕ} {now : Seen} (v : V) → Works tells (give v) names now now (Ok v)
given v = settled (λ w. w ≡ v) (λ s. ⊥) (record { stands = refl; only = λ w h. h; accepted = λ s h. h })

-- the stage of a choice is that of the case that stands
pub chosen : {C V : Type 0} {tells : Type 0} {names : Input → List ℕ} {old new : Seen} {r : Result V Status} {chosen here : C} (at : C → Stage V)
    → chosen ≡ here → Works tells (at here) names old new r → Works tells (at chosen) names old new r
chosen {tells = tells} {names = names} {old = old} {new = new} {r = r} at e h = subst (λ c. Works tells (at c) names old new r) (sym e) h
