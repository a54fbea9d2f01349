-- Pages that are zeros, or one byte throughout, by their bits.
use Rattle.std.proofs.Common.{◌≡◌, ℕ, ◌/◌, ◌≤◌, Bool, true, false, cond, ◌||◌, ◌&&◌, List, [], ◌∷◌, ◌++◌, length, refl, sym, ap, ap₂, subst, inl, inr}
use Rattle.std.proofs.Common.{arith, ◌∙◌, append-nil, append_assoc}
use Rattle.std.specs.Prelude.{◌==◌, filter, fold}
use Rattle.std.proofs.Math.Bool.{or-false}
use Rattle.std.proofs.Math.ListN.{length-set}
use Rattle.std.proofs.lemmas.List.Folds.{list_any-append}
use Rattle.dbsurvey.specs.Address.{IsIn}
use Rattle.dbsurvey.proofs.Elements.{IsIn-from_range}
use Rattle.dbformat.specs.EndFaults.{page_numbers}
use Rattle.dbformat.specs.File.{geometry}
use Rattle.dbformat.specs.Reference.{Reference}
use Rattle.dbtrace.specs.declared.Cause.{Cause}
use Rattle.dbtrace.specs.declared.TracedFault.{TracedFault}
use Rattle.dbinjuries.specs.Bits.{bit_set, has_bit, HasPageBit}
use Rattle.dbinjuries.specs.Listed.{listed_faults}
use Rattle.dbinjuries.specs.Zeros.{AreBitsOf, is_page_of, noted}
use Rattle.dbinjuries.proofs.Bits.{set_is}

same_filter : {X : Type 0} (f g : X → Bool) (xs : List X) → ((x : X) → IsIn x xs → f x ≡ g x) → filter f xs ≡ filter g xs
same_filter f g [] h = refl
same_filter f g (x ∷ xs) h = ap₂ (λ b ys. cond b (x ∷ ys) ys) (h x (inl refl)) (same_filter f g xs (λ y i. h y (inr i)))

module _ (is_of : Cause → Bool) where
  -- Of the pages up to n those have their bits of which this is so, by these faults.
  record AreNoted (n : ℕ) (xs : List TracedFault) (words : List ℕ) : Type 0 where
    room : HasPageBit words n
    bits : (p : ℕ) → p ≤ n → has_bit words p ≡ is_page_of is_of xs p

  -- with one fault more
  one_more : (n : ℕ) (xs : List TracedFault) (x : TracedFault) (words : List ℕ) → AreNoted n xs words → AreNoted n (xs ++ x ∷ []) (noted is_of words x)
  one_more n xs x words is = by_case (is_of x.cause) (λ p. list_any-append (λ (x : TracedFault). is_of x.cause && (x.fault.page == p)) xs (x ∷ [])
      ∙ ap (λ b. is_page_of is_of xs p || b) (or-false (is_of x.cause && (x.fault.page == p))))
    where
      by_case : (b : Bool) → ((p : ℕ) → is_page_of is_of (xs ++ x ∷ []) p ≡ (is_page_of is_of xs p || (b && (x.fault.page == p))))
          → AreNoted n (xs ++ x ∷ []) (cond b (bit_set x.fault.page words) words)
      by_case true now = record {
        room = let l : length (bit_set x.fault.page words) ≡ length words = length-set words (x.fault.page / 64) _ in let h = is.room in omega (arith, l, h);
        bits = λ p l. set_is words x.fault.page p (let h = is.room in omega (arith, l, h)) ∙ ap (λ b. b || (x.fault.page == p)) (is.bits p l) ∙ sym (now p);
      }
      by_case false now = record { room = is.room; bits = λ p l. is.bits p l ∙ sym (or-false (is_page_of is_of xs p)) ∙ sym (now p) }

  more_from : (n : ℕ) (ys xs : List TracedFault) (words : List ℕ) → AreNoted n xs words → AreNoted n (xs ++ ys) (fold (noted is_of) words ys)
  more_from n [] xs words is = subst (λ l. AreNoted n l words) (sym (append-nil xs)) is
  more_from n (y ∷ ys) xs words is =
      subst (λ l. AreNoted n l (fold (noted is_of) (noted is_of words y) ys)) (append_assoc xs (y ∷ []) ys)
      (more_from n ys (xs ++ y ∷ []) (noted is_of words y) (one_more n xs y words is))

  -- those with a bit are the pages of a file of which this is so, where no page was noted before
  pub bits_are : (file : List ℕ) (V : List Reference) (words : List ℕ) → HasPageBit words (geometry file).pages → ((p : ℕ) → has_bit words p ≡ false)
      → AreBitsOf is_of file V (fold (noted is_of) words (listed_faults file V))
  bits_are file V words room none =
      let xs = listed_faults file V in
      let is = more_from (geometry file).pages xs [] words (record { room = room; bits = λ p l. none p }) in
      same_filter (has_bit (fold (noted is_of) words xs)) (is_page_of is_of xs) (page_numbers (geometry file))
      (λ p i. is.bits p (let l = IsIn-from_range 1 (geometry file).pages p i in omega (arith, l.1)))
