-- Keys in the order of their places.
use Rattle.std.proofs.Common.{T, ℤ, ◌⊎◌, ◌<ℤ◌, ◌≤ℤ◌, int_lt, arith, ◌≡◌, ℕ, ◌≤◌, inl, inr, Bool, true, false, cond, Option, None, Some, List, [], ◌∷◌, ◌++◌}
use Rattle.std.proofs.Common.{refl, sym, subst}
use Rattle.std.specs.Prelude.{int_le}
use Rattle.std.proofs.lemmas.Int.{ints}
use Rattle.std.specs.Int.Signed.{lt_z_yes, le_z_yes}
use Rattle.std.proofs.lemmas.Bool.{cases_Bool}
use Rattle.dbsound.proofs.Common.{IsIn, Address, IsBefore, Key, is_out_of_order, IsUpTo, IsAbove}
use Rattle.dbsurvey.proofs.Order.{IsIn-cases, IsBefore-irreflexive}
use Rattle.dbsurvey.proofs.Each.{Each, Each-append, Each-none}

-- no key is out of order after one at a smaller place
abbrev pub IsSorted : List Key → Type 0
IsSorted K = (j k : Key) → IsIn j K → IsIn k K → IsBefore j.place k.place → is_out_of_order k j ≡ false

-- a rowid above low, another key not below it; and neither above high
pub record IsInside (low high : Option ℤ) (k : Key) : Type 0 where
  pub rowid : k.is_rowid ≡ true → IsAbove low k.value
  pub other : k.is_rowid ≡ false → IsUpTo low (Some k.value)
  pub within : IsUpTo (Some k.value) high

-- the keys of a part of a tree
pub record AreInOrder (low high : Option ℤ) (K : List Key) : Type 0 where
  pub sorted : IsSorted K
  pub inside : Each (IsInside low high) K

not_le : (x y : ℤ) → x <ℤ y → int_le y x ≡ false
not_le x y h = elim (cases_Bool (int_le y x)) [
  | inl e ↦ (let k : y ≤ℤ x = le_z_yes (subst (λ b. T b) (sym e) tt) in absurd (omega (arith, ints)))
  | inr e ↦ e
]

not_lt : (x y : ℤ) → x ≤ℤ y → int_lt y x ≡ false
not_lt x y h = elim (cases_Bool (int_lt y x)) [
  | inl e ↦ (let k : y <ℤ x = lt_z_yes (subst (λ b. T b) (sym e) tt) in absurd (omega (arith, ints)))
  | inr e ↦ e
]

above_up : (low : Option ℤ) (x y : ℤ) → IsUpTo low (Some x) → x <ℤ y → IsAbove low y
above_up None x y h k = tt
above_up (Some l) x y h k = omega (arith, ints)

up_up : (low : Option ℤ) (x y : ℤ) → IsUpTo low (Some x) → x ≤ℤ y → IsUpTo low (Some y)
up_up None x y h k = tt
up_up (Some l) x y h k = omega (arith, ints)

up_high : (x y : ℤ) (high : Option ℤ) → x ≤ℤ y → IsUpTo (Some y) high → IsUpTo (Some x) high
up_high x y None h k = tt
up_high x y (Some l) h k = omega (arith, ints)

-- what is inside a lower part, and a higher one
inside_left : (low high : Option ℤ) (m : ℤ) (k : Key) → IsUpTo (Some m) high → IsInside low (Some m) k → IsInside low high k
inside_left low high m k h i = record { rowid = i.rowid; other = i.other; within = up_high k.value m high i.within h }

inside_right : (low high : Option ℤ) (m : ℤ) (k : Key) → IsUpTo low (Some m) → IsInside (Some m) high k → IsInside low high k
inside_right low high m k h i = record {
  rowid = λ e. above_up low m k.value h (i.rowid e);
  other = λ e. up_up low m k.value h (i.other e);
  within = i.within;
}

in_order : (low high : Option ℤ) (m : ℤ) (x y : Key) → IsInside low (Some m) x → IsInside (Some m) high y → is_out_of_order y x ≡ false
in_order low high m x y h k = by_kind y.is_rowid refl
  where
    by_kind : (b : Bool) → y.is_rowid ≡ b → cond b (int_le y.value x.value) (int_lt y.value x.value) ≡ false
    by_kind true e = let a = h.within in let b = k.rowid e in not_le x.value y.value (omega (arith, ints))
    by_kind false e = let a = h.within in let b = k.other e in not_lt x.value y.value (omega (arith, ints))

-- two parts, where no place of the second is before one of the first
pub in_order_both : (low high : Option ℤ) (m : ℤ) (X Y : List Key) → IsUpTo low (Some m) → IsUpTo (Some m) high
    → AreInOrder low (Some m) X → AreInOrder (Some m) high Y → ((x y : Key) → IsIn x X → IsIn y Y → IsBefore y.place x.place → ⊥) → AreInOrder low high (X ++ Y)
in_order_both low high m X Y l h xs ys apart = record {
  sorted = λ j k i n b. by_cases j k b (IsIn-cases j X Y i) (IsIn-cases k X Y n);
  inside = Each-append (IsInside low high) X Y (λ k i. inside_left low high m k h (xs.inside k i)) (λ k i. inside_right low high m k l (ys.inside k i));
}
  where
    by_cases : (j k : Key) → IsBefore j.place k.place → IsIn j X ⊎ IsIn j Y → IsIn k X ⊎ IsIn k Y → is_out_of_order k j ≡ false
    by_cases j k b (inl i) (inl n) = xs.sorted j k i n b
    by_cases j k b (inl i) (inr n) = in_order low high m j k (xs.inside j i) (ys.inside k n)
    by_cases j k b (inr i) (inl n) = absurd (apart k j n i b)
    by_cases j k b (inr i) (inr n) = ys.sorted j k i n b

pub in_order_none : (low high : Option ℤ) → AreInOrder low high []
in_order_none low high = record { sorted = λ j k i n b. absurd i; inside = Each-none (IsInside low high) }

pub in_order_one : (low high : Option ℤ) (k : Key) → IsInside low high k → AreInOrder low high (k ∷ [])
in_order_one low high k h = record {
  sorted = λ i j m n b. absurd (one i j m n b);
  inside = λ x i. elim i [ inl e ↦ subst (IsInside low high) (sym e) h | inr n ↦ absurd n ];
}
  where
    one : (i j : Key) → IsIn i (k ∷ []) → IsIn j (k ∷ []) → IsBefore i.place j.place → ⊥
    one i j (inl e) (inl f) b = IsBefore-irreflexive k.place (subst (λ i. IsBefore i.place k.place) e (subst (λ j. IsBefore i.place j.place) f b))
    one i j (inl e) (inr n) b = absurd n
    one i j (inr n) m b = absurd n

-- the same keys in another order of the list
pub in_order_of : (low high : Option ℤ) (K L : List Key) → ((k : Key) → IsIn k K → IsIn k L) → AreInOrder low high L → AreInOrder low high K
in_order_of low high K L f h = record {
  sorted = λ j k i n b. h.sorted j k (f j i) (f k n) b;
  inside = λ k i. h.inside k (f k i);
}

-- a key below a step of address a, from step n on
abbrev pub IsPlaced : Address → ℕ → Key → Type 0
IsPlaced a n k = (s : ℕ) × (rest : List ℕ) × (n ≤ s) × (k.place ≡ a ++ (s ∷ rest))
