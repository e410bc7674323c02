-- The first refusal of a tree, step by step.

use Rattle.std.specs.Prelude.{not, All, AllPairs}
use Rattle.std.proofs.Common.{◌≡◌, ◌≢◌, ◌∙◌, ap, sym, subst, refl, ℕ, suc, ℤ, ◌+◌, ◌<◌, ◌≤◌, nat_lt, List, [], ◌∷◌, ◌++◌, codes, length, get_or, drop, map, filter, Bool, true, false, ◌||◌, Option, None, Some, Result, Ok, Err, IfOk, IfErr, MatchResult, arith, add-one, drop-cons}
use Rattle.std.specs.List.{IsDistinct, list_any, filter_map}
use Rattle.std.specs.Option.{option_map}
use Rattle.std.specs.Str.{bytes_eq}
use Rattle.std.proofs.lemmas.Bool.Decides.{nat_tests}
use Rattle.std.proofs.lemmas.List.{append-nil, append_assoc, drop_all, get_or-map, length-map}
use Rattle.std.proofs.lemmas.List.Elements.{All-from_get_or}
use Rattle.std.proofs.lemmas.Map.Made.{AllPairs-from_IsDistinct}
use Rattle.std.proofs.lemmas.Slice.Eq.{bytes_eq-Decides}
use Rattle.gs_design.specs.Alternatives.{alike, class_size}
use Rattle.gs_design.specs.Amounts.{IsAmountIfGiven}
use Rattle.gs_design.specs.Cells.{cell_name}
use Rattle.gs_design.specs.Library.{IsLibrary}
use Rattle.gs_design.specs.declared.cell.Cell.{Cell}
use Rattle.gs_lib.specs.Draft.{CellLists, DraftLists, bad_table, cell_lists, cell_of, draft_is_bad, draft_missing, is_bad}
use Rattle.gs_lib.specs.Faults.{or_else}
use Rattle.gs_lib.specs.Index.{IsKept, cells_by, fault_by, names_by}
use Rattle.gs_lib.specs.Library.{Checks, Refuses, alike_lists, cells_in, count_fault, draft_by, draft_fault, drafts_fault, drafts_in, first_fault, frame_of, has_bad_units, has_large_class, header_fault, lacks_units, leak_unit, part_fault, slew_default, tens_of_items, when}
use Rattle.gs_lib.specs.declared.builder.Builder.{Builder}
use Rattle.gs_lib.specs.declared.error.LibErr.{LibErr}
use Rattle.gs_lib.specs.declared.error.LibErr.TheVariants as errors
use Rattle.gs_lib.specs.declared.error.What.{What}
use Rattle.gs_lib.specs.declared.error.What.TheVariants as missing
use Rattle.gs_libcell.specs.Attribute.{group_in}
use Rattle.gs_libcell.specs.Number.{amount_in}
use Rattle.gs_libcell.specs.Template.{Frame}
use Rattle.gs_libtree.specs.declared.tree.Item.{Item}
use Rattle.gs_libtree.specs.declared.tree.Node.{Node}
use Rattle.gs_text.specs.Pieces.{IsUnbroken}
use Rattle.gs_lib.proofs.Well.{amount_ranged}
use Rattle.gs_lib.proofs.Whole.{any_none, or_first, or_second}

-- ---- one item more

module _ (lib : Frame) where
  abbrev pub draft_at : Item → Option DraftLists
  draft_at i = draft_by lib (group_in (codes "cell") i)

  fault_first : (seen : List (List ℕ)) (i : Item) (is : List Item) (o : Option DraftLists) → draft_at i ≡ o
      → drafts_fault seen (drafts_in lib (i ∷ is)) ≡ or_else (fault_by seen o) (drafts_fault (seen ++ names_by o) (drafts_in lib is))
  fault_first seen i is None e = rw e (ap (λ names. drafts_fault names (drafts_in lib is)) (sym (append-nil seen)))
  fault_first seen i is (Some d) e = rw e refl

  cells_first : (i : Item) (is : List Item) (o : Option DraftLists) → draft_at i ≡ o
      → map cell_of (drafts_in lib (i ∷ is)) ≡ cells_by o ++ map cell_of (drafts_in lib is)
  cells_first i is None e = rw e refl
  cells_first i is (Some d) e = rw e refl

  module _ (items : List Item) (k : ℕ) (d item : Item) (lt : k < length items) (same : item ≡ get_or items k d) where
    front : drop k items ≡ item ∷ drop (k + 1) items
    front = rw (same, add-one) (drop-cons items k d lt)

    pub next_fault : (seen now : List (List ℕ)) (total : Option LibErr) → fault_by seen (draft_at item) ≡ None → now ≡ seen ++ names_by (draft_at item)
        → drafts_fault seen (drafts_in lib (drop k items)) ≡ total → drafts_fault now (drafts_in lib (drop (k + 1) items)) ≡ total
    next_fault seen now total none names so_far =
        ap (λ ns. drafts_fault ns (drafts_in lib (drop (k + 1) items))) names
        ∙ sym (ap (λ o. or_else o (drafts_fault (seen ++ names_by (draft_at item)) (drafts_in lib (drop (k + 1) items)))) none)
        ∙ sym (fault_first seen item (drop (k + 1) items) (draft_at item) refl)
        ∙ sym (ap (λ is. drafts_fault seen (drafts_in lib is)) front)
        ∙ so_far

    pub next_refusal : (seen : List (List ℕ)) (total : Option LibErr) (e : LibErr) → Refuses (fault_by seen (draft_at item)) e
        → drafts_fault seen (drafts_in lib (drop k items)) ≡ total → Refuses total e
    next_refusal seen total e refuses so_far other =
        sym so_far
        ∙ ap (λ is. drafts_fault seen (drafts_in lib is)) front
        ∙ fault_first seen item (drop (k + 1) items) (draft_at item) refl
        ∙ ap (λ o. or_else o (drafts_fault (seen ++ names_by (draft_at item)) (drafts_in lib (drop (k + 1) items)))) (refuses other)

    pub next_cells : (done now total : List CellLists) → now ≡ done ++ cells_by (draft_at item)
        → done ++ map cell_of (drafts_in lib (drop k items)) ≡ total → now ++ map cell_of (drafts_in lib (drop (k + 1) items)) ≡ total
    next_cells done now total more so_far =
        ap (λ cs. cs ++ map cell_of (drafts_in lib (drop (k + 1) items))) more
        ∙ append_assoc done (cells_by (draft_at item)) (map cell_of (drafts_in lib (drop (k + 1) items)))
        ∙ sym (ap (λ cs. done ++ cs) (cells_first item (drop (k + 1) items) (draft_at item) refl))
        ∙ sym (ap (λ is. done ++ map cell_of (drafts_in lib is)) front)
        ∙ so_far

  pub all_faults : (items : List Item) (k : ℕ) (seen : List (List ℕ)) → length items ≤ k → drafts_fault seen (drafts_in lib (drop k items)) ≡ None
  all_faults items k seen le = ap (λ is. drafts_fault seen (drafts_in lib is)) (drop_all k items le)

  pub all_cells : (items : List Item) (k : ℕ) (done : List CellLists) (total : List CellLists) → length items ≤ k
      → done ++ map cell_of (drafts_in lib (drop k items)) ≡ total → done ≡ total
  all_cells items k done total le so_far =
      sym (append-nil done) ∙ sym (ap (λ is. done ++ map cell_of (drafts_in lib is)) (drop_all k items le)) ∙ so_far

-- what a call that checks says
pub checks_ok : {T : Type 0} (o : Option LibErr) (r : Result T LibErr) (x : T) → r ≡ Ok x → Checks o r → o ≡ None
checks_ok o (Ok y) x e h = h
checks_ok o (Err f) x e h = let never : Err f ≡ Ok x = e in cc

pub checks_err : {T : Type 0} (o : Option LibErr) (r : Result T LibErr) (f : LibErr) → r ≡ Err f → Checks o r → Refuses o f
checks_err o (Ok y) f e h = let never : Ok y ≡ Err f = e in cc
checks_err o (Err g) f e h = let same : g ≡ f = cc in subst (Refuses o) same h

-- ---- the whole

or_later : {F : Type 0} (a b : Option F) → a ≡ None → or_else a b ≡ b
or_later a b e = ap (λ o. or_else o b) e

module _ (root : Node) (lib : Frame) (lib_is : lib ≡ frame_of root.items) where
  abbrev of_cells : Option LibErr
  of_cells = drafts_fault [] (drafts_in lib root.items)

  abbrev of_count : Option LibErr
  of_count = count_fault (map cell_of (drafts_in lib root.items))

  whole_fault : first_fault root ≡ or_else (header_fault root) (or_else of_cells of_count)
  whole_fault = ap (λ (f : Frame). or_else (header_fault root) (or_else (drafts_fault [] (drafts_in f root.items)) (count_fault (map cell_of (drafts_in f root.items))))) (sym lib_is)

  pub faultless : header_fault root ≡ None → of_cells ≡ None → of_count ≡ None → first_fault root ≡ None
  faultless a b c = whole_fault ∙ or_later (header_fault root) (or_else of_cells of_count) a ∙ or_later of_cells of_count b ∙ c

  pub refused_cells : (e : LibErr) → header_fault root ≡ None → Refuses of_cells e → Refuses (first_fault root) e
  refused_cells e a refuses other =
      whole_fault ∙ or_later (header_fault root) (or_else of_cells of_count) a ∙ ap (λ o. or_else o of_count) (refuses other)

  pub refused_count : (e : LibErr) → header_fault root ≡ None → of_cells ≡ None → Refuses of_count e → Refuses (first_fault root) e
  refused_count e a b refuses other =
      whole_fault ∙ or_later (header_fault root) (or_else of_cells of_count) a ∙ or_later of_cells of_count b ∙ refuses other

pub refused_header : (root : Node) (e : LibErr) → Refuses (header_fault root) e → Refuses (first_fault root) e
refused_header root e refuses other =
    ap (λ o. or_else o (or_else (drafts_fault [] (drafts_in (frame_of root.items) root.items)) (count_fault (cells_in root.items)))) (refuses other)

-- ---- what a library keeps

under_by : {X Y : Type 0} (p : Y → Bool) (f : X → Y) (x : X) (xs : List X) (b : Bool) → p (f x) ≡ b → length (filter p (map f xs)) ≡ length (filter (λ y. p (f y)) xs)
    → length (filter p (map f (x ∷ xs))) ≡ length (filter (λ y. p (f y)) (x ∷ xs))
under_by p f x xs true e h = rw e (ap suc h)
under_by p f x xs false e h = rw e h

length_under : {X Y : Type 0} (p : Y → Bool) (f : X → Y) (xs : List X) → length (filter p (map f xs)) ≡ length (filter (λ x. p (f x)) xs)
length_under p f [] = refl
length_under p f (x ∷ xs) = under_by p f x xs (p (f x)) refl (length_under p f xs)

module _ (cells : List Cell) (count : count_fault (map cell_lists cells) ≡ None) where
  when_none : (b : Bool) → when b errors.TooMany ≡ None → b ≡ false
  when_none true h = let never : Some errors.TooMany ≡ None = h in cc
  when_none false h = refl

  neither : (nat_lt 65535 (length (map cell_lists cells)) || has_large_class (map cell_lists cells)) ≡ false
  neither = when_none (nat_lt 65535 (length (map cell_lists cells)) || has_large_class (map cell_lists cells)) count

  few : length cells ≤ 65535
  few =
      let e : nat_lt 65535 (length (map cell_lists cells)) ≡ false = or_first (nat_lt 65535 (length (map cell_lists cells))) (has_large_class (map cell_lists cells)) neither in
      let le : length (map cell_lists cells) ≤ 65535 = grind (arith, nat_tests) in
      omega (arith, le, length-map cells cell_lists)

  small_by : (k : ℕ) (d : Cell) → k < length cells → class_size cells (get_or cells k d) ≤ 1024
  small_by k d lt =
      let none : has_large_class (map cell_lists cells) ≡ false = or_second (nat_lt 65535 (length (map cell_lists cells))) (has_large_class (map cell_lists cells)) neither in
      let inside : k < length (map cell_lists cells) = omega (arith, lt, length-map cells cell_lists) in
      let at = any_none (λ c. nat_lt 1024 (length (filter (alike_lists c) (map cell_lists cells)))) (map cell_lists cells) k (cell_lists d) none inside in
      let here : nat_lt 1024 (length (filter (alike_lists (cell_lists (get_or cells k d))) (map cell_lists cells))) ≡ false =
      ap (λ c. nat_lt 1024 (length (filter (alike_lists c) (map cell_lists cells)))) (sym (get_or-map cell_lists cells k d (cell_lists d) lt)) ∙ at in
      let le : length (filter (alike_lists (cell_lists (get_or cells k d))) (map cell_lists cells)) ≤ 1024 = grind (arith, nat_tests) in
      let same : length (filter (alike_lists (cell_lists (get_or cells k d))) (map cell_lists cells)) ≡ class_size cells (get_or cells k d) = length_under (alike_lists (cell_lists (get_or cells k d))) cell_lists cells in
      omega (arith, le, same)

  pub keeps_of : (items : List Item) (slew : Option ℤ) → slew ≡ slew_default items → AllPairs (λ x y. x ≢ y) (map cell_name cells) → All (λ (c : Cell). IsUnbroken c.name) cells → IsLibrary slew cells
  keeps_of items slew slew_is differ named = record {
    few = few;
    differ = differ;
    named = named;
    classes = λ k d lt. small_by k d lt;
    slew_default_in = subst IsAmountIfGiven (sym slew_is) (amount_ranged (codes "default_max_transition") (tens_of_items items).time items);
  }

  pub keeps : (items : List Item) (slew : Option ℤ) → slew ≡ slew_default items → (b : Builder) → b.cells.items ≡ cells → IsKept b → IsLibrary slew cells
  keeps items slew slew_is b cells_are k =
      keeps_of items slew slew_is
      (subst (λ cs. AllPairs (λ x y. x ≢ y) (map cell_name cs)) cells_are (AllPairs-from_IsDistinct bytes_eq-Decides (map cell_name b.cells.items) k.differ))
      (subst (All (λ (c : Cell). IsUnbroken c.name)) cells_are k.named)

-- ---- want of memory is no cause

pub data IsMem (e : LibErr) : Type 0 where
  mem : e ≡ errors.Mem → IsMem e
  cause : e ≢ errors.Mem → IsMem e

pub judge : (e : LibErr) → IsMem e
judge (errors.Missing cell what) = cause (λ h. cc)
judge errors.NoUnit = cause (λ h. cc)
judge errors.BadUnit = cause (λ h. cc)
judge (errors.BadNumber cell) = cause (λ h. cc)
judge (errors.TwoCells name) = cause (λ h. cc)
judge (errors.BadTable cell i) = cause (λ h. cc)
judge errors.TooMany = cause (λ h. cc)
judge errors.Mem = mem refl

abbrev pub NoMem : Option LibErr → Type 0
NoMem o = (e : LibErr) → o ≡ Some e → e ≢ errors.Mem

no_mem_or : (a b : Option LibErr) → NoMem a → NoMem b → NoMem (or_else a b)
no_mem_or None b h k = k
no_mem_or (Some x) b h k = h

no_mem_when : (b : Bool) (x : LibErr) → x ≢ errors.Mem → NoMem (when b x)
no_mem_when true x h e k m = let same : x ≡ e = cc in h (same ∙ m)
no_mem_when false x h e k m = let never : None ≡ Some e = k in cc

no_mem_missing : (n : List ℕ) (o : Option What) → NoMem (option_map (errors.Missing n) o)
no_mem_missing n None e k m = let never : None ≡ Some e = k in cc
no_mem_missing n (Some w) e k m = let same : errors.Missing n w ≡ e = cc in let never : errors.Missing n w ≡ errors.Mem = same ∙ m in cc

no_mem_table : (n : List ℕ) (o : Option ℕ) → NoMem (option_map (errors.BadTable n) o)
no_mem_table n None e k m = let never : None ≡ Some e = k in cc
no_mem_table n (Some i) e k m = let same : errors.BadTable n i ≡ e = cc in let never : errors.BadTable n i ≡ errors.Mem = same ∙ m in cc

no_mem_draft : (seen : List (List ℕ)) (d : DraftLists) → NoMem (draft_fault seen d)
no_mem_draft seen d =
    no_mem_or (when (list_any (bytes_eq d.name) seen) (errors.TwoCells d.name)) (part_fault d)
    (no_mem_when (list_any (bytes_eq d.name) seen) (errors.TwoCells d.name) (λ h. cc))
    (no_mem_or (option_map (errors.Missing d.name) (draft_missing d)) (or_else (when (draft_is_bad d) (errors.BadNumber d.name)) (option_map (errors.BadTable d.name) (bad_table 0 d.timings)))
    (no_mem_missing d.name (draft_missing d))
    (no_mem_or (when (draft_is_bad d) (errors.BadNumber d.name)) (option_map (errors.BadTable d.name) (bad_table 0 d.timings))
    (no_mem_when (draft_is_bad d) (errors.BadNumber d.name) (λ h. cc))
    (no_mem_table d.name (bad_table 0 d.timings))))

no_mem_drafts : (seen : List (List ℕ)) (ds : List DraftLists) → NoMem (drafts_fault seen ds)
no_mem_drafts seen [] e k m = let never : None ≡ Some e = k in cc
no_mem_drafts seen (d ∷ ds) e k m = no_mem_or (draft_fault seen d) (drafts_fault (seen ++ d.name ∷ []) ds) (no_mem_draft seen d) (no_mem_drafts (seen ++ d.name ∷ []) ds) e k m

module _ (root : Node) where
  abbrev bad_slew : Bool
  bad_slew = is_bad (amount_in (codes "default_max_transition") (tens_of_items root.items).time root.items)

  abbrev other_name : Bool
  other_name = not (bytes_eq (codes "library") root.name)

  no_mem_header : NoMem (header_fault root)
  no_mem_header =
      no_mem_or (when other_name (errors.Missing [] missing.Library)) (or_else (when (lacks_units root.items) errors.NoUnit) (or_else (when (has_bad_units root.items) errors.BadUnit) (when bad_slew (errors.BadNumber []))))
      (no_mem_when other_name (errors.Missing [] missing.Library) (λ h. cc))
      (no_mem_or (when (lacks_units root.items) errors.NoUnit) (or_else (when (has_bad_units root.items) errors.BadUnit) (when bad_slew (errors.BadNumber [])))
      (no_mem_when (lacks_units root.items) errors.NoUnit (λ h. cc))
      (no_mem_or (when (has_bad_units root.items) errors.BadUnit) (when bad_slew (errors.BadNumber []))
      (no_mem_when (has_bad_units root.items) errors.BadUnit (λ h. cc))
      (no_mem_when bad_slew (errors.BadNumber []) (λ h. cc))))

  pub no_mem : NoMem (first_fault root)
  no_mem =
      no_mem_or (header_fault root) (or_else (drafts_fault [] (drafts_in (frame_of root.items) root.items)) (count_fault (cells_in root.items))) no_mem_header
      (no_mem_or (drafts_fault [] (drafts_in (frame_of root.items) root.items)) (count_fault (cells_in root.items))
      (no_mem_drafts [] (drafts_in (frame_of root.items) root.items))
      (no_mem_when (nat_lt 65535 (length (cells_in root.items)) || has_large_class (cells_in root.items)) errors.TooMany (λ h. cc)))
