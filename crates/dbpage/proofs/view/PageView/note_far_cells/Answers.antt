use Rattle.std.proofs.Common.{◌≡◌, ℕ, ◌<◌, List, Option, None, ℤ, refl, sym, subst, ap, arith}
use Rattle.dbformat.specs.Head.{View, content_start}
use Rattle.dbformat.specs.Cell.{count}
use Rattle.dbpage.specs.Notes.{HaveNotes, end_at}
use Rattle.dbpage.specs.Packed.{AddUpTo, key_at}
use Rattle.dbpage.specs.declared.packed.CellSums.{CellSums}
use Rattle.dbpage.proofs.NotedLeaf.{AreNoted_none}
use Rattle.dbpage.proofs.PackedLemmas.{no_sums, none_read}
use Rattle.dbpage.proofs.view.PageView.note_far_cells.Goals as goal

-- no cell is noted
none_noted : (v : View) (first : Option ℤ) (table : List ℕ) (sums : CellSums) → sums ≡ no_sums first → (0 < count v → key_at v 0 ≡ first)
    → (count v ≡ 0 → first ≡ None) → ((at : ℕ) → end_at table (content_start v.number v.bytes) v.usable at ≡ 0)
    → HaveNotes v table (record { cells = 0; sums = sums; held = 0 })
none_noted v first table sums is some none free = record {
  few = omega arith;
  read = subst (AddUpTo v 0) (sym is) (none_read v first some none);
  noted = AreNoted_none v table free;
  small = omega arith;
}

pub returns-in_default : goal.returns-in_default
returns-in_default c = none_noted c.args.self.now c.args.first c.args.table.now c.new.result c.new.ensures c.requires.some c.requires.none c.requires.free

pub returns-in_default-2 : goal.returns-in_default-2
returns-in_default-2 c = none_noted c.args.self.now c.args.first c.args.table.now c.new.result c.new.ensures c.requires.some c.requires.none c.requires.free

pub returns-in_default-3 : goal.returns-in_default-3
returns-in_default-3 c = none_noted c.args.self.now c.args.first c.args.table.now c.new.result c.new.ensures c.requires.some c.requires.none c.requires.free

pub loop-i-init : goal.loop-i-init
loop-i-init c =
    record {
      cells = refl;
      noted = none_noted c.args.self.now c.args.first c.args.table.now c.new.result c.new.ensures c.requires.some c.requires.none c.requires.free;
      last = record { none = λ h. (refl, ap (λ (sums : CellSums). sums.last) c.new.ensures); some = λ h. absurd (omega (arith, h)) };
    }
