-- Two libraries with the same lists are the same: what a type keeps is a proposition.

use Rattle.std.proofs.Common.{◌≡◌, ap, refl, ℕ, List, [], ◌∷◌, map, Option, ℤ, ◌≤◌}
use Rattle.std.proofs.Props.{props}
use mathlib.Core.HLevel.{is_prop→PathP}
use Rattle.gs_design.specs.Cell.{IsCell}
use Rattle.gs_design.specs.Library.{IsLibrary}
use Rattle.gs_design.specs.declared.arc.Sense.{Sense}
use Rattle.gs_design.specs.declared.arc.TimingArc.{TimingArc}
use Rattle.gs_design.specs.declared.cell.Cell.{Cell}
use Rattle.gs_design.specs.declared.kind.CellKind.{CellKind}
use Rattle.gs_design.specs.declared.library.Library.{Library}
use Rattle.gs_design.specs.declared.pin.CellPin.{CellPin}
use Rattle.gs_design.specs.declared.units.Units.{Units}
use Rattle.gs_quantity.specs.Lookup.{IsTable}
use Rattle.gs_quantity.specs.declared.lookup.table.Table.{Table}
use Rattle.gs_lib.specs.Draft.{ArcLists, CellLists, arc_lists, cell_lists}
use Rattle.gs_lib.specs.Library.{LibraryLists, library_lists}
use Rattle.gs_libcell.specs.Grid.{table_lists}
use Rattle.gs_libcell.specs.Unit.{Tens, scale}
use Rattle.gs_libcell.specs.declared.grid.Lists.{Lists}

-- ---- lists

pub map_same : {X Y : Type 0} (f : X → Y) → ((x y : X) → f x ≡ f y → x ≡ y) → (xs ys : List X) → map f xs ≡ map f ys → xs ≡ ys
map_same f inj [] [] e = refl
map_same f inj [] (y ∷ ys) e = let never : [] ≡ f y ∷ map f ys = e in cc
map_same f inj (x ∷ xs) [] e = let never : f x ∷ map f xs ≡ [] = e in cc
map_same f inj (x ∷ xs) (y ∷ ys) e =
    let both : f x ∷ map f xs ≡ f y ∷ map f ys = e in
    let heads : f x ≡ f y = cc in
    let tails : map f xs ≡ map f ys = cc in
    let here : x ≡ y = inj x y heads in
    let rest : xs ≡ ys = map_same f inj xs ys tails in
    λ i. here i ∷ rest i

-- ---- tables, arcs and cells

IsTable-prop : (xs ys zs : List ℤ) → IsProp (IsTable xs ys zs)
IsTable-prop xs ys zs = hlevel props

table_same : (t u : Table) → table_lists t ≡ table_lists u → t ≡ u
table_same t u e =
    let xs : t.xs ≡ u.xs = ap (λ (l : Lists). l.xs) e in
    let ys : t.ys ≡ u.ys = ap (λ (l : Lists). l.ys) e in
    let zs : t.zs ≡ u.zs = ap (λ (l : Lists). l.zs) e in
    λ i. record {
      xs = xs i;
      ys = ys i;
      zs = zs i;
      well = is_prop→PathP (λ j. IsTable (xs j) (ys j) (zs j)) (λ j. IsTable-prop (xs j) (ys j) (zs j)) t.well u.well i;
    }

arc_same : (a b : TimingArc) → arc_lists a ≡ arc_lists b → a ≡ b
arc_same a b e =
    let pin : a.pin ≡ b.pin = ap (λ (l : ArcLists). l.pin) e in
    let sense : a.sense ≡ b.sense = ap (λ (l : ArcLists). l.sense) e in
    let cell_rise : a.cell_rise ≡ b.cell_rise = table_same a.cell_rise b.cell_rise (ap (λ (l : ArcLists). l.cell_rise) e) in
    let cell_fall : a.cell_fall ≡ b.cell_fall = table_same a.cell_fall b.cell_fall (ap (λ (l : ArcLists). l.cell_fall) e) in
    let rise_transition : a.rise_transition ≡ b.rise_transition = table_same a.rise_transition b.rise_transition (ap (λ (l : ArcLists). l.rise_transition) e) in
    let fall_transition : a.fall_transition ≡ b.fall_transition = table_same a.fall_transition b.fall_transition (ap (λ (l : ArcLists). l.fall_transition) e) in
    λ i. record {
      pin = pin i;
      sense = sense i;
      cell_rise = cell_rise i;
      cell_fall = cell_fall i;
      rise_transition = rise_transition i;
      fall_transition = fall_transition i;
    }

IsCell-prop : (leakage area : ℤ) (kind : CellKind) (pins : List CellPin) (arcs : List TimingArc) → IsProp (IsCell leakage area kind pins arcs)
IsCell-prop leakage area kind pins arcs = hlevel props

cell_same : (c d : Cell) → cell_lists c ≡ cell_lists d → c ≡ d
cell_same c d e =
    let name : c.name ≡ d.name = ap (λ (l : CellLists). l.name) e in
    let footprint : c.footprint ≡ d.footprint = ap (λ (l : CellLists). l.footprint) e in
    let leakage : c.leakage ≡ d.leakage = ap (λ (l : CellLists). l.leakage) e in
    let area : c.area ≡ d.area = ap (λ (l : CellLists). l.area) e in
    let marked : c.marked ≡ d.marked = ap (λ (l : CellLists). l.marked) e in
    let kind : c.kind ≡ d.kind = ap (λ (l : CellLists). l.kind) e in
    let pins : c.pins ≡ d.pins = ap (λ (l : CellLists). l.pins) e in
    let arcs : c.arcs ≡ d.arcs = map_same arc_lists arc_same c.arcs d.arcs (ap (λ (l : CellLists). l.arcs) e) in
    λ i. record {
      name = name i;
      footprint = footprint i;
      leakage = leakage i;
      area = area i;
      marked = marked i;
      kind = kind i;
      pins = pins i;
      arcs = arcs i;
      well = is_prop→PathP (λ j. IsCell (leakage j) (area j) (kind j) (pins j) (arcs j)) (λ j. IsCell-prop (leakage j) (area j) (kind j) (pins j) (arcs j)) c.well d.well i;
    }

-- ---- libraries

small-prop : (n : ℕ) → IsProp (n ≤ 9)
small-prop n = hlevel props

units_same : (u v : Units) → scale u ≡ scale v → u ≡ v
units_same u v e =
    let time : u.time_tens ≡ v.time_tens = ap (λ (t : Tens). t.time) e in
    let load : u.load_tens ≡ v.load_tens = ap (λ (t : Tens). t.load) e in
    λ i. record {
      time_tens = time i;
      load_tens = load i;
      time_small = is_prop→PathP (λ j. time j ≤ 9) (λ j. small-prop (time j)) u.time_small v.time_small i;
      load_small = is_prop→PathP (λ j. load j ≤ 9) (λ j. small-prop (load j)) u.load_small v.load_small i;
    }

IsLibrary-prop : (slew : Option ℤ) (cells : List Cell) → IsProp (IsLibrary slew cells)
IsLibrary-prop slew cells = hlevel props

pub library_same : (l m : Library) → library_lists l ≡ library_lists m → l ≡ m
library_same l m e =
    let units : l.units ≡ m.units = units_same l.units m.units (ap (λ (x : LibraryLists). x.units) e) in
    let leak_unit : l.leak_unit ≡ m.leak_unit = ap (λ (x : LibraryLists). x.leak_unit) e in
    let slew : l.slew_default ≡ m.slew_default = ap (λ (x : LibraryLists). x.slew_default) e in
    let cells : l.cells ≡ m.cells = map_same cell_lists cell_same l.cells m.cells (ap (λ (x : LibraryLists). x.cells) e) in
    λ i. record {
      units = units i;
      leak_unit = leak_unit i;
      slew_default = slew i;
      cells = cells i;
      well = is_prop→PathP (λ j. IsLibrary (slew j) (cells j)) (λ j. IsLibrary-prop (slew j) (cells j)) l.well m.well i;
    }
