-- Cells without gaps between them.
use Rattle.std.proofs.Common.{◌≡◌, ℕ, ◌+◌, ◌-◌, ◌<◌, ◌≤◌, ◌⊎◌, inl, inr, Bool, true, false, ◌||◌, List, [], ◌∷◌, ◌++◌, Option, Some, refl, sym, subst, ap, ◌∙◌}
use Rattle.std.proofs.Common.{arith}
use Rattle.std.specs.Prelude.{MatchOption}
use Rattle.std.proofs.lemmas.Bool.Decides.{nat_tests}
use Rattle.std.proofs.lemmas.List.{append-nil}
use Rattle.dbformat.specs.Head.{View, content_start}
use Rattle.dbformat.specs.Cell.{count}
use Rattle.dbformat.specs.Coverage.{Span, items, freeblocks, is_held}
use Rattle.dbpage.specs.Beginning.{IsCellRun, AreInRun, EndsRun, IsBegun}
use Rattle.dbpage.specs.declared.packed.Beginning.{Beginning}
use Rattle.dbpage.specs.Marking.{is_claimed, is_within, Marks, AreAdjoining, ShareNoByte, AreMarked, Holds, cells_upto, cell_spans}
use Rattle.dbpage.proofs.Items.{cells_upto_more}
use Rattle.dbpage.proofs.Overlaps.{IsBeside, holds, is_held_push, ShareNoByte_push}
use Rattle.dbpage.proofs.Unheld.{none_held}

pub no_cells : (v : View) (at : ℕ) → content_start v.number v.bytes ≤ at → at ≤ v.usable → AreInRun v 0 at at
no_cells v at low high = record {
  low = low;
  between = omega arith;
  high = high;
  held = λ byte from below. none byte;
  apart = record {
    apart = λ k h. absurd (omega arith);
    counted =
        omega (arith, none_held (content_start v.number v.bytes) (v.usable - content_start v.number v.bytes));
  };
}
  where
    none : (byte : ℕ) → false ≡ is_within at at byte
    none byte = grind (arith, nat_tests)

pub run_as : (v : View) (n : ℕ) {from from' to to' : ℕ} → AreInRun v n from to → from' ≡ from → to' ≡ to → AreInRun v n from' to'
run_as v n {from} {from'} {to} {to'} run f t = subst (λ (a : ℕ). AreInRun v n a to') (sym f) (subst (λ (a : ℕ). AreInRun v n from a) (sym t) run)

-- a cell ended the run
pub ends_run : (v : View) (b : Beginning) (offset len : ℕ) → b.next ≡ Some (offset, len) → IsBegun v b → EndsRun v b.cells b.run.from b.run.to offset len
ends_run v b offset len is begun = subst (λ (o : Option (ℕ × ℕ)). MatchOption o (AreInRun v b.cells b.run.from b.run.to)
    (λ held. EndsRun v b.cells b.run.from b.run.to held.0 held.1)) is begun.runs

-- one more span, beside the run
module _ (spans : List Span) (start end from to : ℕ) (was : IsCellRun spans start end from to) (s : Span) (low : start ≤ s.offset)
    (high : s.offset + s.len ≤ end) (first last : ℕ) (all : AreAdjoining from to s.offset s.len first last) where
  joined : (byte : ℕ) → (is_within from to byte || holds s byte) ≡ is_within first last byte
  joined byte = elim all [
    | inl under ↦ below byte under.0 under.1 under.2
    | inr over ↦ above byte over.0 over.1 over.2
  ]
    where
      below : (byte : ℕ) → s.offset + s.len ≡ from → first ≡ s.offset → last ≡ to → (is_within from to byte || holds s byte) ≡ is_within first last byte
      below byte a b c = grind (arith, nat_tests, was.between)

      above : (byte : ℕ) → s.offset ≡ to → first ≡ from → last ≡ s.offset + s.len → (is_within from to byte || holds s byte) ≡ is_within first last byte
      above byte a b c = grind (arith, nat_tests, was.between)

  beside : IsBeside spans s
  beside byte from_on below = was.held byte (omega (arith, low)) (omega (arith, high))
      ∙ other byte (elim all [ inl under ↦ inl (omega (arith, under)) | inr over ↦ inr (omega (arith, over)) ])
    where
      other : (byte : ℕ) → (byte < from) ⊎ (to ≤ byte) → is_within from to byte ≡ false
      other byte h = grind (arith, nat_tests)

  run_more : IsCellRun (spans ++ s ∷ []) start end first last
  run_more = record {
    low = elim all [ inl under ↦ omega (arith, under, low) | inr over ↦ omega (arith, over, was.low) ];
    between = elim all [ inl under ↦ omega (arith, under, was.between) | inr over ↦ omega (arith, over, was.between) ];
    high = elim all [ inl under ↦ omega (arith, under, was.high) | inr over ↦ omega (arith, over, high) ];
    held = λ byte from_on below. is_held_push spans s byte ∙ ap (λ b. b || holds s byte) (was.held byte from_on below) ∙ joined byte;
    apart =
        let len : to - from + s.len ≡ last - first = elim all [ inl under ↦ omega (arith, under, was.between) | inr over ↦ omega (arith, over, was.between) ] in
        subst (λ n. ShareNoByte (spans ++ s ∷ []) start end n) len (ShareNoByte_push spans s beside start end (to - from) was.apart low high);
  }

module _ (v : View) (n from to : ℕ) (run : AreInRun v n from to) where
  -- the next cell adjoins the run
  pub cell_joins : (offset len first last : ℕ) → Holds v n offset len → AreAdjoining from to offset len first last → AreInRun v (n + 1) first last
  cell_joins offset len first last has all =
      let s : Span = record { offset = offset; len = len } in
      let cells : cells_upto v (n + 1) ≡ cells_upto v n ++ s ∷ [] = cells_upto_more v n ∙ ap (λ (t : Span). cells_upto v n ++ t ∷ []) has.held in
      subst (λ (spans : List Span). IsCellRun spans (content_start v.number v.bytes) v.usable first last) (sym cells)
      (run_more (cells_upto v n) (content_start v.number v.bytes) v.usable from to run s has.from_start has.ends first last all)

  -- the run is all items, where there are no freeblocks
  pub run_of_items : n ≡ count v → freeblocks v ≡ [] → ShareNoByte (items v) (content_start v.number v.bytes) v.usable (to - from)
  unfolding items
  run_of_items whole none =
      let all : cell_spans v ++ freeblocks v ≡ cell_spans v = ap (λ (fs : List Span). cell_spans v ++ fs) none ∙ append-nil (cell_spans v) in
      subst (λ (spans : List Span). ShareNoByte spans (content_start v.number v.bytes) v.usable (to - from)) (sym all)
      (subst (λ (m : ℕ). ShareNoByte (cells_upto v m) (content_start v.number v.bytes) v.usable (to - from)) whole run.apart)

  run_end : (len : ℕ) → len ≡ to - from → from + len ≡ to
  run_end len h = omega (arith, run.between)

  -- the run can be marked where no byte is
  module _ (table : List ℕ) (free : (byte : ℕ) → byte < v.usable → is_claimed table byte ≡ false) (len : ℕ) (all : len ≡ to - from) where
    pub run_marked : (new : List ℕ) → Marks table from (from + len) new → AreMarked (cells_upto v n) (content_start v.number v.bytes) v.usable new len
    run_marked new marks =
        let now : Marks table from to new = subst (λ (e : ℕ). Marks table from e new) (run_end len all) marks in
        record {
          marked = λ byte from_on below. by_case now byte from_on below (is_within from to byte) refl;
          apart = run.apart.apart;
          counted =
              omega (arith, run.apart.counted, all);
        }
      where
        inside : (byte : ℕ) → is_within from to byte ≡ true → (from ≤ byte) × (byte < to)
        inside byte h = (grind (arith, nat_tests), grind (arith, nat_tests))

        by_case : Marks table from to new → (byte : ℕ) → content_start v.number v.bytes ≤ byte → byte < v.usable → (b : Bool) → is_within from to byte ≡ b
            → is_claimed new byte ≡ is_held (cells_upto v n) byte
        by_case now byte from_on below true h = now.are_marked byte (inside byte h).0 (inside byte h).1 ∙ sym (run.held byte from_on below ∙ h)
        by_case now byte from_on below false h = now.others byte h ∙ free byte below ∙ sym (run.held byte from_on below ∙ h)
