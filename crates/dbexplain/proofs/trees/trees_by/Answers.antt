use Rattle.std.proofs.Common.{◌≡◌, ℕ, ◌+◌, ◌-◌, ◌≤◌, ◌&&◌, Bool, true, false, cond, List, length, refl, sym, ap, ap₂, ◌∙◌, arith}
use Rattle.std.specs.Prelude.{count_by, ◌==◌}
use Rattle.std.specs.List.{range_with_len}
use Rattle.std.proofs.lemmas.Bool.Decides.{nat_tests}
use Rattle.dbsurvey.proofs.Ranges.{count_push}
use Rattle.dbexplain.proofs.Common.{SchemaRow, is_of_kind, Tallied, count_at, StartCount}
use Rattle.dbexplain.specs.declared.trees.TreeSum.{TreeSum}
use Rattle.dbexplain.proofs.trees.trees_by.Goals as goal
use Rattle.dbexplain.proofs.trees.trees_by.Goals.{then-is_of_kind+then-start-eq0, then-is_of_kind+else-start-eq0, else-is_of_kind}

module _ (index : Bool) (rows : List SchemaRow) (counts : Tallied) where
  abbrev is_whole : ℕ → Bool
  is_whole k = is_of_kind index rows k && ((count_at counts k).faults == 0)

  -- the sum is that of the starts before this one
  abbrev AreBefore : ℕ → TreeSum → Type 0
  AreBefore start t = (t.all ≡ count_by (is_of_kind index rows) (range_with_len 1 (start - 1))) × (t.whole ≡ count_by is_whole (range_with_len 1 (start - 1)))
      × (t.whole ≤ t.all) × (t.all ≤ start)

  one_more : (test : ℕ → Bool) (start n : ℕ) (b : Bool) → 1 ≤ start → test start ≡ b → n ≡ count_by test (range_with_len 1 (start - 1))
      → n + cond b 1 0 ≡ count_by test (range_with_len 1 (start + 1 - 1))
  one_more test start n b low e is =
      let last : start + 1 - 1 ≡ start - 1 + 1 = omega (arith, low) in
      ap₂ (λ m b. m + cond b 1 0) is (sym e) ∙ sym (count_push test 1 (start - 1) start (omega (arith, low)))
      ∙ ap (λ m. count_by test (range_with_len 1 m)) (sym last)

  next : (start whole all : ℕ) (a b : Bool) → 1 ≤ start → is_of_kind index rows start ≡ a → ((count_at counts start).faults == 0) ≡ b
      → AreBefore start (record { whole = whole; all = all }) → AreBefore (start + 1) (record { whole = whole + cond (a && b) 1 0; all = all + cond a 1 0 })
  next start whole all a b low e f is = (
    one_more (is_of_kind index rows) start all a low e is.0,
    one_more is_whole start whole (a && b) low (ap₂ (λ a b. a && b) e f) is.1,
    by_case a b is.2,
    at_most a is.3,
  )
    where
      by_case : (a b : Bool) → whole ≤ all → whole + cond (a && b) 1 0 ≤ all + cond a 1 0
      by_case true true l = omega (arith, l)
      by_case true false l = omega (arith, l)
      by_case false b l = omega (arith, l)

      at_most : (a : Bool) → all ≤ start → all + cond a 1 0 ≤ start + 1
      at_most true l = omega (arith, l)
      at_most false l = omega (arith, l)

none_more : (n : ℕ) → n ≡ n + 0
none_more n = omega arith

same_faults : {c d : StartCount} → c ≡ d → c.faults ≡ d.faults
same_faults e = ap (λ (c : StartCount). c.faults) e

pub loop-start-preserved : goal.loop-start-preserved
loop-start-preserved g c =
    let index = c.args.index in
    let rows = c.args.roots.now.rows in
    let counts = c.args.tally.now in
    let start = c.loop-start.start in
    let t = c.loop-start.sum in
    let turn : (a b : Bool) → c.is_of_kind.result ≡ a → ((count_at counts start).faults == 0) ≡ b
    → AreBefore index rows counts (start + 1) (record { whole = t.whole + cond (a && b) 1 0; all = t.all + cond a 1 0 })
    = λ a b e f. next index rows counts start t.whole t.all a b (omega (arith, c.loop-start.auto.start)) (sym c.is_of_kind.ensures ∙ e) f
    c.loop-start.invariant in
    elim c.if-is_of_kind.branch [
      | then-is_of_kind+then-start-eq0 w ↦ rw w.sum-is
          (turn true true w.if-is_of_kind.true (let z = w.if-start-eq0.true in let s = same_faults w.start.ensures in grind (arith, nat_tests, z, s)))
      | then-is_of_kind+else-start-eq0 w ↦
          rw (w.sum-is, none_more t.whole)
          (turn true false w.if-is_of_kind.true (let z = w.if-start-eq0.false in let s = same_faults w.start.ensures in grind (arith, nat_tests, z, s)))
      | else-is_of_kind w ↦
          rw (w.sum-is, none_more t.all, none_more t.whole) (turn false ((count_at counts start).faults == 0) w.if-is_of_kind.false refl)
    ]

pub returns : goal.returns
returns g c =
    let rows = c.args.roots.now.rows in
    let t = c.loop-start.invariant in
    let last : c.loop-start.start - 1 ≡ length rows = omega (arith, c.loop-start.auto.start-end) in
    let sum : ℕ → ℕ → TreeSum = λ whole all. record { whole = whole; all = all } in
    ap₂ sum (t.1 ∙ ap (λ n. count_by (is_whole c.args.index rows c.args.tally.now) (range_with_len 1 n)) last)
    (t.0 ∙ ap (λ n. count_by (is_of_kind c.args.index rows) (range_with_len 1 n)) last)
