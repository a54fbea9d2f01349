-- Counts of ranges, where that of one start and kind is apart.
use Rattle.std.proofs.Common.{◌≡◌, ℕ, ◌+◌, ◌<◌, ◌≤◌, true, List, length, refl, sym, ap, ◌∙◌, arith, length-set}
use Rattle.std.specs.Prelude.{slice_set, slice_index_or}
use Rattle.std.proofs.lemmas.List.{get_or-set_other, get_or-set_same, set-set, set_past}
use Rattle.dbexplain.proofs.Common.{counted, no_more, with_kind, RangeCount, RowsKind, NotReached, OnFaulty, CutShort}
use Rattle.dbexplain.specs.KeptRanges.{one_more}
use Rattle.dbexplain.specs.Ranges.{same_kind}

module _ (others : List RangeCount) (s : ℕ) (kind : RowsKind) (n : ℕ) where
  abbrev all : List RangeCount
  all = slice_set others s (with_kind kind n (slice_index_or others s no_more))

  -- of the start that is apart, and of another
  pub apart_is : s < length others → with_kind kind n (slice_index_or others s no_more) ≡ slice_index_or all s no_more
  apart_is l = sym (get_or-set_same others s (with_kind kind n (slice_index_or others s no_more)) no_more l)

  pub other_is : (k : ℕ) → (k ≡ s → ⊥) → slice_index_or others k no_more ≡ slice_index_or all k no_more
  other_is k d = sym (get_or-set_other others s k (with_kind kind n (slice_index_or others s no_more)) no_more d)

  -- one more
  pub one_apart : s < length others
      → slice_set others s (with_kind kind (counted (n + 1)) (slice_index_or others s no_more)) ≡ slice_set all s (one_more kind (slice_index_or all s no_more))
  one_apart l =
      let c = slice_index_or others s no_more in
      ap (slice_set others s) (one kind)
      ∙ sym (set-set others s (with_kind kind n c) (one_more kind (with_kind kind n c)))
      ∙ ap (λ c. slice_set all s (one_more kind c)) (apart_is l)
    where
      one : (k : RowsKind) → with_kind k (counted (n + 1)) (slice_index_or others s no_more) ≡ one_more k (with_kind k n (slice_index_or others s no_more))
      one NotReached = refl
      one OnFaulty = refl
      one CutShort = refl

  -- a number after the last start
  pub past_all : (k : ℕ) (c : RangeCount) → length others ≤ k → all ≡ slice_set all k c
  past_all k c l =
      let long = length-set others s (with_kind kind n (slice_index_or others s no_more)) in
      sym (set_past all k c (omega (arith, long, l)))

-- kinds that are the same
pub kinds_are : (one other : RowsKind) → same_kind one other ≡ true → other ≡ one
kinds_are NotReached NotReached e = refl
kinds_are OnFaulty OnFaulty e = refl
kinds_are CutShort CutShort e = refl
kinds_are NotReached OnFaulty e = absurd (let no : ⊥ = cc in no)
kinds_are NotReached CutShort e = absurd (let no : ⊥ = cc in no)
kinds_are OnFaulty NotReached e = absurd (let no : ⊥ = cc in no)
kinds_are OnFaulty CutShort e = absurd (let no : ⊥ = cc in no)
kinds_are CutShort NotReached e = absurd (let no : ⊥ = cc in no)
kinds_are CutShort OnFaulty e = absurd (let no : ⊥ = cc in no)
