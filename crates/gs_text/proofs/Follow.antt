-- Where the pieces of a text lie: they follow one another, and have good text.
use Rattle.std.proofs.Common.{◌≡◌, ◌∙◌, sym, ap, refl, ℕ, suc, ◌+◌, ◌-◌, ◌<◌, ◌≤◌, ◌==◌, List, [], ◌∷◌, Result, Ok, Err, length, take, drop, length-take, add-zero, arith, subst, false}
use Rattle.std.specs.List.{All, AllByRecursion}
use Rattle.std.proofs.lemmas.List.{drop-drop, get_or-take}
use Rattle.std.proofs.lemmas.List.Elements.{All-from_recursion, All-from_get_or}
use Rattle.gs_text.specs.Bytes.{is_white}
use Rattle.gs_text.specs.Cut.{onto, pieces}
use Rattle.gs_text.specs.Pieces.{LiesIn, HasGoodText, InOrder, IsUnbroken, text_of, opening_len, closing_len}
use Rattle.gs_text.proofs.CutLaws.{Begins, piece_here}
use Rattle.gs_text.proofs.FrontLaws.{front-says}
use Rattle.gs_text.proofs.Says.{Says, IsFound, IsSolid, Solid}
use Rattle.gs_text.proofs.Walk.{Steps, walk_all}
use Rattle.gs_text.specs.declared.cutter.Place.{Place}
use Rattle.gs_text.specs.declared.kinds.Kind.{Kind}
use Rattle.gs_text.specs.declared.kinds.Kind.TheVariants.{Word, Escaped, Text, Mark}
use Rattle.gs_text.specs.declared.kinds.Piece.{Piece}
use Rattle.gs_text.specs.declared.kinds.Style.{Style}
use Rattle.gs_text.specs.declared.kinds.TextErr.{TextErr}
use Rattle.gs_text.specs.declared.scan.Front.TheVariants.{Found}

pub onto_ok : (p : Piece) (r : Result (List Piece) TextErr) (ps : List Piece) → onto (p ∷ []) r ≡ Ok ps → (qs : List Piece) × ((r ≡ Ok qs) × (ps ≡ p ∷ qs))
onto_ok p (Ok qs) ps e = (qs, (refl, cc))
onto_ok p (Err x) ps e = cc

unbroken : (n : ℕ) (xs : List ℕ) → 0 < n → 0 < length xs → Solid n xs → IsUnbroken (take n xs)
unbroken n xs some full solid = record {
  some = omega (arith, length-take n xs);
  solid = All-from_get_or (λ c. is_white c ≡ false) (take n xs) 0
      (λ i lt. let within : i < n = omega (arith, length-take n xs) in
      let P : ℕ → Type 0 = λ c. is_white c ≡ false in
      subst P (sym (get_or-take n xs i 0 within)) (solid i within));
}

-- a piece that begins lies in the text, and has good text
module _ (style : Style) (bs : List ℕ) (here : Place) (kind : Kind) (len : ℕ) (b : Begins style bs here (Found kind len)) where
  abbrev p : Piece
  p = piece_here style here kind len

  pub found : IsFound style here.braced (here.latest == here.first) kind len (b.first ∷ b.rest)
  found = subst (Says style here.braced (here.latest == here.first) (b.first ∷ b.rest)) b.front_is (front-says style here.braced (here.latest == here.first) b.first b.rest)

  pub lies : LiesIn (length bs) p
  lies = record { some = omega (arith, found.some); room = omega (arith, found.room); within = omega (arith, found.within, b.size) }

  one_on : drop (here.at + 1) bs ≡ b.rest
  one_on = sym (drop-drop 1 here.at bs) ∙ ap (drop 1) b.split

  good_text_of : (k : Kind) → IsSolid k len (b.first ∷ b.rest) → 0 < len → len ≤ length b.rest + 1
      → HasGoodText k (take (here.at + len - closing_len k - (here.at + opening_len k)) (drop (here.at + opening_len k) bs))
  good_text_of Word solid some within =
      let size : here.at + len - 0 - (here.at + 0) ≡ len = omega arith in
      rw (size, add-zero, b.split) (unbroken len (b.first ∷ b.rest) some (omega arith) solid)
  good_text_of Escaped solid some within =
      let size : here.at + len - 0 - (here.at + 1) ≡ len - 1 = omega arith in
      rw (size, one_on) (unbroken (len - 1) b.rest (omega (arith, solid.0)) (omega (arith, solid.0)) (λ k lt. solid.1 (suc k) (omega arith)))
  good_text_of Text solid some within = tt
  good_text_of Mark solid some within = tt

  pub good_text : HasGoodText kind (text_of bs p)
  good_text = good_text_of kind found.solid found.some (omega (arith, found.within))

-- the pieces follow one another from place at on, each with good text in the text
abbrev Follow : List ℕ → (at : ℕ) → List Piece → Type 0
Follow bs at [] = Unit {0}
Follow bs at (p ∷ ps) = (at ≤ p.from) × LiesIn (length bs) p × HasGoodText p.kind (text_of bs p) × Follow bs p.to ps

sooner : (bs : List ℕ) (at later : ℕ) (ps : List Piece) → at ≤ later → Follow bs later ps → Follow bs at ps
sooner bs at later [] le f = tt
sooner bs at later (p ∷ ps) le f = (omega (arith, f.0), f.1, f.2, f.3)

module _ (style : Style) (bs : List ℕ) where
  abbrev Good : List Piece → Place → Result (List Piece) TextErr → Type 0
  Good before here r = (ps : List Piece) → r ≡ Ok ps → Follow bs here.at ps

  good_steps : Steps style bs Good
  good_steps = record {
    at_end = λ before here a e ps h.
        let none : ◌≡◌ {A = List Piece} [] ps = cc h in
        subst (Follow bs here.at) none tt;
    at_white = λ before here a b r later ps h. sooner bs here.at (here.at + 1) ps (omega arith) (later ps h);
    at_piece = λ before here a kind len b pos within r later ps h.
        let p : Piece = piece_here style here kind len in
        let q : (qs : List Piece) × ((r ≡ Ok qs) × (ps ≡ p ∷ qs)) = onto_ok p r ps h in
        subst (Follow bs here.at) (sym q.1.1) (omega arith, lies style bs here kind len b, good_text style bs here kind len b, later q.0 q.1.0);
    at_comment = λ before here a len b pos within r later ps h. sooner bs here.at (here.at + len) ps (omega arith) (later ps h);
    at_fault = λ before here a f b e is ps h. cc h;
  }

  follows : (ps : List Piece) → pieces style bs ≡ Ok ps → Follow bs 0 ps
  follows = walk_all style bs Good good_steps

  all_lie : (at : ℕ) (ps : List Piece) → Follow bs at ps → AllByRecursion (LiesIn (length bs)) ps
  all_lie at [] f = tt
  all_lie at (p ∷ ps) f = (f.1, all_lie p.to ps f.3)

  all_good : (at : ℕ) (ps : List Piece) → Follow bs at ps → AllByRecursion (λ p. HasGoodText p.kind (text_of bs p)) ps
  all_good at [] f = tt
  all_good at (p ∷ ps) f = (f.2, all_good p.to ps f.3)

  in_order : (at : ℕ) (ps : List Piece) → Follow bs at ps → InOrder at ps
  in_order at [] f = tt
  in_order at (p ∷ ps) f = (f.0, in_order p.to ps f.3)

  few : (at : ℕ) (ps : List Piece) → Follow bs at ps → length ps ≤ length bs - at
  few at [] f = omega arith
  few at (p ∷ ps) f =
      let l : LiesIn (length bs) p = f.1 in
      omega (arith, few p.to ps f.3, f.0, l.some, l.within)

  pub pieces_inside : (ps : List Piece) → pieces style bs ≡ Ok ps → All (LiesIn (length bs)) ps
  pieces_inside ps e = All-from_recursion (LiesIn (length bs)) ps (all_lie 0 ps (follows ps e))

  pub pieces_good : (ps : List Piece) → pieces style bs ≡ Ok ps → All (λ p. HasGoodText p.kind (text_of bs p)) ps
  pieces_good ps e = All-from_recursion (λ p. HasGoodText p.kind (text_of bs p)) ps (all_good 0 ps (follows ps e))

  pub pieces_in_order : (ps : List Piece) → pieces style bs ≡ Ok ps → InOrder 0 ps
  pieces_in_order ps e = in_order 0 ps (follows ps e)

  pub pieces_few : (ps : List Piece) → pieces style bs ≡ Ok ps → length ps ≤ length bs
  pieces_few ps e = omega (arith, few 0 ps (follows ps e))
