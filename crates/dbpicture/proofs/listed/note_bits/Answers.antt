use Rattle.std.proofs.Common.{◌≡◌, ℕ, ◌+◌, length, length-append, Bool, true, false, cond, List, [], ◌∷◌, ◌++◌, refl, sym, ap, ap₂, subst, ◌∙◌}
use Rattle.std.proofs.Common.{arith, append-nil, append_assoc}
use Rattle.std.specs.Prelude.{filter, flat_map}
use Rattle.std.specs.List.{range_with_len}
use Rattle.std.proofs.lemmas.List.Elements.{filter-append}
use Rattle.dbsurvey.proofs.Ranges.{range_push}
use Rattle.dbinjuries.specs.Bits.{has_bit}
use Rattle.dbpicture.specs.Faults.{with_sign}
use Rattle.dbpicture.specs.Keeping.{AreNoted}
use Rattle.dbpicture.specs.declared.fault_notes.FaultNotes.{FaultNotes}
use Rattle.dbpicture.specs.declared.faults.Sign.{Sign}
use Rattle.dbpicture.proofs.Steps.{flat_more}
use Rattle.dbpicture.proofs.listed.note_bits.Goals as goal
use Rattle.dbpicture.proofs.listed.note_bits.Goals.{then-has, else-has}

module _ (sign : Sign) (words : List ℕ) where
  abbrev sign_if : Bool → ℕ → List (ℕ × Sign)
  sign_if b p = cond b ((p, sign) ∷ []) []

  abbrev signs_to : ℕ → List (ℕ × Sign)
  signs_to n = with_sign sign (filter (has_bit words) (range_with_len 1 n))

  picked : (ps : List ℕ) → with_sign sign (filter (has_bit words) ps) ≡ flat_map (λ p. sign_if (has_bit words p) p) ps
  picked [] = refl
  picked (p ∷ ps) = by_case (has_bit words p) (picked ps)
    where
      by_case : {l : List (ℕ × Sign)} (b : Bool) → with_sign sign (filter (has_bit words) ps) ≡ l
          → with_sign sign (cond b (p ∷ filter (has_bit words) ps) (filter (has_bit words) ps)) ≡ sign_if b p ++ l
      by_case true e = ap (λ l. (p, sign) ∷ l) e
      by_case false e = e

  -- with one page more, where it has its bit
  one : {A : Type 0} (n : FaultNotes A) (i count : ℕ) (signs : List (ℕ × Sign)) (b : Bool) → has_bit words (i + 1) ≡ b
      → AreNoted count ((signs ++ signs_to i) ++ sign_if b (i + 1)) n → AreNoted count (signs ++ signs_to (i + 1)) n
  one n i count signs b e = subst (λ (l : List (ℕ × Sign)). AreNoted count l n)
      (append_assoc signs (signs_to i) (sign_if b (i + 1)) ∙ ap (λ l. signs ++ l) (ap₂ (λ l b. l ++ sign_if b (i + 1)) (picked (range_with_len 1 i)) (sym e)
      ∙ flat_more (λ p. sign_if (has_bit words p) p) 1 i (i + 1) (omega arith) refl ∙ sym (picked (range_with_len 1 (i + 1)))))

  -- how many there are, with one page more
  one_length : (p : ℕ) (b : Bool) → has_bit words p ≡ b → length (filter (has_bit words) (p ∷ [])) ≡ cond b 1 0
  one_length p b e = ap (λ (b : Bool). length (cond b (p ∷ []) [])) e ∙ by_case b
    where
      by_case : (b : Bool) → length (cond b (p ∷ []) []) ≡ cond b 1 0
      by_case true = refl
      by_case false = refl

  grown : (i : ℕ) (b : Bool) → has_bit words (i + 1) ≡ b
      → length (filter (has_bit words) (range_with_len 1 (i + 1))) ≡ length (filter (has_bit words) (range_with_len 1 i)) + cond b 1 0
  grown i b e =
      let same : 1 + i ≡ i + 1 = omega arith in
      ap (λ ps. length (filter (has_bit words) ps)) (range_push 1 i)
      ∙ ap length (filter-append (has_bit words) (range_with_len 1 i) ((1 + i) ∷ []))
      ∙ length-append (filter (has_bit words) (range_with_len 1 i)) (filter (has_bit words) ((1 + i) ∷ []))
      ∙ ap (λ n. length (filter (has_bit words) (range_with_len 1 i)) + n) (one_length (1 + i) b (ap (has_bit words) same ∙ e))

pub loop-index-init : goal.loop-index-init
loop-index-init g c = record {
  noted = λ count signs h. subst (λ (l : List (ℕ × Sign)). AreNoted count l c.args.notes.now) (sym (append-nil signs)) h;
  count = refl;
  few = omega arith;
}

pub loop-index-preserved : goal.loop-index-preserved
loop-index-preserved g c =
    let sign = c.args.sign in
    let words = c.args.bits.now in
    let i = c.loop-index.index in
    let bit = sym c.has.ensures in
    let was = c.loop-index.invariant in
    elim c.if-has.branch [
      | then-has w ↦ record {
        noted = λ count signs h. rw w.notes-is (one sign words w.note.new.self i count signs true (bit ∙ w.if-has.true)
            (w.note.ensures count (signs ++ signs_to sign words i) (was.noted count signs h)));
        count =
            let more : length (filter (has_bit words) (range_with_len 1 (i + 1))) ≡ length (filter (has_bit words) (range_with_len 1 i)) + 1 =
            grown sign words i true (bit ∙ w.if-has.true) in
            omega (arith, w.count-is, was.count, more);
        few = omega (arith, w.count-is, was.few);
      }
      | else-has w ↦ record {
        noted = λ count signs h. rw w.notes-is (one sign words c.loop-index.notes i count signs false (bit ∙ w.if-has.false)
            (subst (λ (l : List (ℕ × Sign)). AreNoted count l c.loop-index.notes) (sym (append-nil (signs ++ signs_to sign words i)))
            (was.noted count signs h)));
        count =
            let more : length (filter (has_bit words) (range_with_len 1 (i + 1))) ≡ length (filter (has_bit words) (range_with_len 1 i)) + 0 =
            grown sign words i false (bit ∙ w.if-has.false) in
            omega (arith, w.count-is, was.count, more);
        few = omega (arith, w.count-is, was.few);
      }
    ]

pub returns-clause-noted : goal.returns-clause-noted
returns-clause-noted g c = λ count signs h.
    (let end : c.loop-index.index ≡ c.args.pages = omega (arith, c.loop-index-test.false, c.loop-index.auto.index-end) in
    subst (λ n. AreNoted count (signs ++ signs_to c.args.sign c.args.bits.now n) c.loop-index.notes) end (c.loop-index.invariant.noted count signs h))

pub returns-clause-count : goal.returns-clause-count
returns-clause-count g c =
    let end : c.loop-index.index ≡ c.args.pages = omega (arith, c.loop-index-test.false, c.loop-index.auto.index-end) in
    c.loop-index.invariant.count ∙ ap (λ n. length (filter (has_bit c.args.bits.now) (range_with_len 1 n))) end
