use Rattle.std.proofs.Common.{◌≡◌, ℕ, ◌+◌, ◌≤◌, Bool, true, false, cond, not, ◌&&◌, count_by, refl, sym, ap, ap₂, ◌∙◌, arith}
use Rattle.std.specs.List.{range_with_len}
use mir.Val.{bool_byte}
use Rattle.dbsurvey.proofs.Ranges.{count_push}
use Rattle.dbinjuries.specs.Bits.{has_bit}
use Rattle.dbpicture.specs.Faults.{is_weak}
use Rattle.dbpicture.proofs.fault_notes.FaultNotes.framed.Goals as goal

byte_is : (b : Bool) → bool_byte b ≡ cond b 1 0
byte_is true = refl
byte_is false = refl

one_at_most : (b : Bool) → bool_byte b ≤ 1
one_at_most true = omega arith
one_at_most false = omega arith

-- one page more, which passes a test or not
counted : (test : ℕ → Bool) (i old : ℕ) {b : Bool} {n : ℕ} → old ≡ count_by test (range_with_len 1 i) → b ≡ test (i + 1) → n ≡ bool_byte b
    → old + n ≡ count_by test (range_with_len 1 (i + 1))
counted test i old {b = b} h e is =
    let at : 1 + i ≡ i + 1 = omega arith in
    ap₂ (λ a n. a + n) h (is ∙ byte_is b ∙ ap (λ b. cond b 1 0) e) ∙ sym (count_push test 1 i (i + 1) at)

pub loop-index-preserved : goal.loop-index-preserved
loop-index-preserved g c =
    let i = c.loop-index.index in
    let at = c.loop-index.invariant in
    let strong = has_bit c.args.self.now.framed in
    let weak = is_weak (has_bit c.args.self.now.faulty) strong in
    let is_weak_one = ap₂ (λ a b. a && not b) c.has-is_faulty.ensures c.has-is_strong.ensures in
    let strong_most = one_at_most c.has-is_strong.result in
    let weak_most = one_at_most (c.has-is_faulty.result && not c.has-is_strong.result) in
    record {
      strong = counted strong i c.loop-index.strong at.strong c.has-is_strong.ensures c.from-strong.ensures;
      weak = counted weak i c.loop-index.weak at.weak is_weak_one c.from-weak.ensures;
      few = (omega (arith, at.few, c.from-strong.ensures, strong_most), omega (arith, at.few, c.from-weak.ensures, weak_most));
    }
