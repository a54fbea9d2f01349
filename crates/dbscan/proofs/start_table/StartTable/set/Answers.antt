use Rattle.dbscan.proofs.Common.{◌≡◌, ◌+◌, ◌≤◌, length, sym, ap, ap₂, ◌∙◌, arith, slice_set, vec_len, vec_capacity, freelist_start}
use Rattle.dbscan.proofs.StartTables.{freelist_set, grown, tree_set}
use Rattle.dbscan.proofs.start_table.StartTable.set.Goals.{then-index-len, else-index-len}
use Rattle.dbscan.proofs.start_table.StartTable.set.Goals as goal

pub returns-then-start-eq-FREELIST_START : goal.returns-then-start-eq-FREELIST_START
returns-then-start-eq-FREELIST_START g c =
    let t = c.self.inside in
    freelist_set freelist_start t.rest t.trees.items t.freelist c.args.value c.self.invariant.trees
    ∙ ap₂ (λ w k. slice_set w k c.args.value) c.self.view_is (sym c.if-start-eq-FREELIST_START.true)

pub returns-after-index-len : goal.returns-after-index-len
returns-after-index-len g c =
    let t = c.self.inside in
    let k = c.args.start in
    let x = c.args.value in
    elim c.if-index-len.branch [
      | then-index-len w ↦ (
          let long : vec_len t.trees ≡ length t.trees.items = omega arith in
          let room : k + 1 ≤ vec_capacity t.trees = omega arith in
          let items = rw (w.resize.ensures.succeeds room) at w.resize.ensures.items in
          let more = grown freelist_start t.rest t.trees.items w.resize.new.self.items t.freelist _ (k + 1) long (omega arith) (omega arith) items in
          rw w.self-inside-is (tree_set freelist_start t.rest w.resize.new.self.items t.freelist x k (omega (arith, more.0))
          ∙ ap (λ w. slice_set w k x) (more.1 ∙ c.self.view_is)))
      | else-index-len w ↦ rw w.self-inside-is (
          tree_set freelist_start t.rest t.trees.items t.freelist x k (omega arith) ∙ ap (λ w. slice_set w k x) c.self.view_is)
    ]
