-- What squares and pages show, as signs are noted.
use Rattle.std.proofs.Common.{◌≡◌, ℕ, ◌<◌, ◌≤◌, ◌||◌, ◌&&◌, Bool, true, false, List, [], ◌∷◌, ◌++◌, length, set}
use Rattle.std.proofs.Common.{refl, sym, ap, ap₂, ◌∙◌, arith}
use Rattle.std.specs.Prelude.{nat_le, ◌==◌}
use Rattle.std.specs.Int.{bit_at, w64}
use Rattle.std.proofs.Math.Bool.{and-false, and-true, or-false, or-true}
use Rattle.std.proofs.Math.ListN.{length-set}
use Rattle.std.proofs.lemmas.Bool.{eq-eqb, eqb-true}
use Rattle.std.proofs.lemmas.Bool.Decides.{nat_tests}
use Rattle.std.proofs.lemmas.List.{get_or-set_other, get_or-set_same}
use Rattle.std.proofs.lemmas.List.Folds.{list_any-append}
use Rattle.std.proofs.lemmas.Nat.Bits.{bit_at_set_other, bit_at_set_same}
use Rattle.std.proofs.lemmas.Option.{slice_get_within}
use Rattle.dbinjuries.specs.Bits.{has_bit}
use Rattle.dbinjuries.proofs.Bits.{set_is}
use Rattle.dbformat.specs.Codes.{all_codes, code_index}
use Rattle.dbformat.proofs.CodeTables.{listed}
use Rattle.dbpicture.specs.Keeping.{AreBits, AreNoted, bits_if, square_at}
use Rattle.dbpicture.specs.Faults.{shown, shows, sign_added, sign_bit}
use Rattle.dbpicture.specs.Grids.{is_of_square, group_for, square_of}
use Rattle.dbpicture.specs.declared.fault_notes.FaultNotes.{FaultNotes}
use Rattle.dbpicture.specs.declared.faults.Sign.{Sign}
use Rattle.dbpicture.specs.declared.faults.Sign.TheVariants.{Blank, Code, Faulty, Framed, Zeros}
use Rattle.dbpicture.specs.declared.faults.SquareFaults.{SquareFaults}
use Rattle.dbpicture.proofs.Groups.{square_within}

pub unequal : (x y : ℕ) → (x ≡ y → ⊥) → (x == y) ≡ false
unequal x y d = by_case (x == y) refl
  where
    by_case : (b : Bool) → (x == y) ≡ b → b ≡ false
    by_case true e = absurd (d (eqb-true x y e))
    by_case false e = refl

-- ---- one sign more

bit_within : (s : Sign) → sign_bit s < 64
bit_within (Code code) = let l = slice_get_within all_codes (code_index code) code (listed code) in omega (arith, l)
bit_within Blank = omega arith
bit_within Zeros = omega arith
bit_within Faulty = omega arith
bit_within Framed = omega arith

-- of a word
bit_more : (faults : SquareFaults) (s t : Sign) → shown (sign_added s faults).bits t ≡ (shown faults.bits t || (sign_bit s == sign_bit t))
bit_more faults s t = by_case (sign_bit s == sign_bit t) refl
  where
    by_case : (b : Bool) → (sign_bit s == sign_bit t) ≡ b → shown (sign_added s faults).bits t ≡ (shown faults.bits t || b)
    by_case true e = ap (λ i. bit_at (sign_added s faults).bits i == 1) (sym (eqb-true (sign_bit s) (sign_bit t) e))
        ∙ ap (λ n. n == 1) (bit_at_set_same w64 faults.bits (sign_bit s) (bit_within s)) ∙ sym (or-true (shown faults.bits t))
    by_case false e = ap (λ n. n == 1) (bit_at_set_other w64 faults.bits (sign_bit s) (bit_within s) (sign_bit t)
        (λ f. let g : (sign_bit s == sign_bit t) ≡ true = eq-eqb (sign_bit s) (sign_bit t) (sym f) in let no : ⊥ = cc in no))
        ∙ sym (or-false (shown faults.bits t))

-- of a square, and no other
square_more : (squares : List SquareFaults) (square index : ℕ) (s t : Sign) → square < length squares
    → shown (square_at (set squares square (sign_added s (square_at squares square))) index).bits t
    ≡ (shown (square_at squares index).bits t || ((square == index) && (sign_bit s == sign_bit t)))
square_more squares square index s t within = by_case (square == index) refl
  where
    by_case : (b : Bool) → (square == index) ≡ b → shown (square_at (set squares square (sign_added s (square_at squares square))) index).bits t
        ≡ (shown (square_at squares index).bits t || (b && (sign_bit s == sign_bit t)))
    by_case true e =
        let same = eqb-true square index e in
        ap (λ i. shown (square_at (set squares square (sign_added s (square_at squares square))) i).bits t) (sym same)
        ∙ ap (λ (f : SquareFaults). shown f.bits t) (get_or-set_same squares square (sign_added s (square_at squares square)) (record { bits = 0 }) within)
        ∙ bit_more (square_at squares square) s t
        ∙ ap (λ i. shown (square_at squares i).bits t || (sign_bit s == sign_bit t)) same
    by_case false e = ap (λ (f : SquareFaults). shown f.bits t)
        (get_or-set_other squares square index (sign_added s (square_at squares square)) (record { bits = 0 })
        (λ f. let g : (square == index) ≡ true = eq-eqb square index (sym f) in let no : ⊥ = cc in no))
        ∙ sym (or-false (shown (square_at squares index).bits t))

-- of those that were noted
module _ (signs : List (ℕ × Sign)) (p : ℕ) (s : Sign) where
  shows_more : (is_of : ℕ → Bool) (t : Sign)
      → shows (signs ++ (p, s) ∷ []) is_of t ≡ (shows signs is_of t || (is_of p && (sign_bit s == sign_bit t)))
  shows_more is_of t =
      list_any-append (λ x. is_of x.0 && (sign_bit x.1 == sign_bit t)) signs ((p, s) ∷ [])
      ∙ ap (λ b. shows signs is_of t || b) (or-false (is_of p && (sign_bit s == sign_bit t)))

  -- of another page
  shows_same : (is_of : ℕ → Bool) (t : Sign) → is_of p ≡ false → shows signs is_of t ≡ shows (signs ++ (p, s) ∷ []) is_of t
  shows_same is_of t e =
      sym (shows_more is_of t ∙ ap (λ b. shows signs is_of t || (b && (sign_bit s == sign_bit t))) e ∙ or-false (shows signs is_of t))

  -- of another sign
  shows_other : (is_of : ℕ → Bool) (t : Sign) → (sign_bit s == sign_bit t) ≡ false → shows signs is_of t ≡ shows (signs ++ (p, s) ∷ []) is_of t
  shows_other is_of t e =
      sym (shows_more is_of t ∙ ap (λ b. shows signs is_of t || (is_of p && b)) e ∙ ap (λ b. shows signs is_of t || b) (and-false (is_of p))
      ∙ or-false (shows signs is_of t))

-- ---- the squares of pages

-- a page that there is, is of its own square
own_square : (pages index p : ℕ) → 1 ≤ p → p ≤ pages → (square_of (group_for pages) p == index) ≡ is_of_square pages index p
own_square pages index p l m =
    let a : nat_le 1 p ≡ true = grind (arith, nat_tests) in
    let b : nat_le p pages ≡ true = grind (arith, nat_tests) in
    sym (ap₂ (λ x y. x && y && (square_of (group_for pages) p == index)) a b)

-- and no other page is of any
no_square : (pages index p : ℕ) → (1 ≤ p → p ≤ pages → ⊥) → is_of_square pages index p ≡ false
no_square pages index p d = by_case (nat_le 1 p) refl (nat_le p pages) refl
  where
    by_case : (x : Bool) → nat_le 1 p ≡ x → (y : Bool) → nat_le p pages ≡ y → (x && y && (square_of (group_for pages) p == index)) ≡ false
    by_case true e true f =
        let l : 1 ≤ p = grind (arith, nat_tests) in
        let m : p ≤ pages = grind (arith, nat_tests) in
        absurd (d l m)
    by_case true e false f = refl
    by_case false e y f = refl

-- ---- what is noted

module _ {A : Type 0} (count : ℕ) (signs : List (ℕ × Sign)) (p : ℕ) (s : Sign) (n : FaultNotes A) (are : AreNoted count signs n) where
  -- of a page that there is not
  module _ (none : 1 ≤ p → p ≤ count → ⊥) where
    no_bits : (t : Sign) (bits : List ℕ) → AreBits count signs t bits → AreBits count (signs ++ (p, s) ∷ []) t bits
    no_bits t bits h = record {
      room = h.room;
      are = λ q l m. h.are q l m ∙ shows_same signs p s (λ r. r == q) t (unequal p q (λ e. none (omega (arith, e, l)) (omega (arith, e, m))));
    }

    pub not_noted : AreNoted count (signs ++ (p, s) ∷ []) n
    not_noted = record {
      pages = are.pages;
      group = are.group;
      room = are.room;
      squares = λ index. are.squares index ∙ (λ i t. shows_same signs p s (is_of_square count index) t (no_square count index p none) i);
      faulty = no_bits Faulty n.faulty are.faulty;
      framed = no_bits Framed n.framed are.framed;
    }

  -- of a page that there is
  module _ (first : 1 ≤ p) (last : p ≤ count) (m : FaultNotes A)
      (squares : m.squares.items ≡ set n.squares.items (square_of n.group p) (sign_added s (square_at n.squares.items (square_of n.group p)))) where
    at : square_of n.group p ≡ square_of (group_for count) p
    at = ap (λ r. square_of r p) are.group

    shows_at : (index : ℕ) (t : Sign) → shown (square_at m.squares.items index).bits t ≡ shows (signs ++ (p, s) ∷ []) (is_of_square count index) t
    shows_at index t =
        let within = square_within count p first last in
        ap (λ l. shown (square_at l index).bits t) squares
        ∙ square_more n.squares.items (square_of n.group p) index s t (omega (arith, within, at, are.room))
        ∙ ap₂ (λ a b. a || (b && (sign_bit s == sign_bit t))) (λ i. are.squares index i t) (ap (λ q. q == index) at ∙ own_square count index p first last)
        ∙ sym (shows_more signs p s (is_of_square count index) t)

    bits_more : (t : Sign) (old new : List ℕ) → AreBits count signs t old → new ≡ bits_if (sign_bit s == sign_bit t) p old
        → AreBits count (signs ++ (p, s) ∷ []) t new
    bits_more t old new h e = by_case (sign_bit s == sign_bit t) refl e
      where
        by_case : (b : Bool) → (sign_bit s == sign_bit t) ≡ b → new ≡ bits_if b p old → AreBits count (signs ++ (p, s) ∷ []) t new
        by_case true f e = record {
          room = let same = ap length e ∙ length-set old _ _ in let room = h.room in omega (arith, room, same);
          are = λ q l k. ap (λ (w : List ℕ). has_bit w q) e ∙ set_is old p q (let room = h.room in omega (arith, room, k))
              ∙ ap₂ (λ a b. a || b) (h.are q l k) (sym (and-true (p == q)) ∙ ap (λ b. (p == q) && b) (sym f)) ∙ sym (shows_more signs p s (λ r. r == q) t);
        }
        by_case false f e = record {
          room = let same = ap length e in let room = h.room in omega (arith, room, same);
          are = λ q l k. ap (λ (w : List ℕ). has_bit w q) e ∙ h.are q l k ∙ shows_other signs p s (λ r. r == q) t f;
        }

    pub noted : m.pages ≡ n.pages → m.group ≡ n.group → m.faulty ≡ bits_if (sign_bit s == 62) p n.faulty → m.framed ≡ bits_if (sign_bit s == 63) p n.framed
        → AreNoted count (signs ++ (p, s) ∷ []) m
    noted pages group faulty framed = record {
      pages = pages ∙ are.pages;
      group = group ∙ are.group;
      room = ap length squares ∙ length-set n.squares.items _ _ ∙ are.room;
      squares = λ index. (λ i t. shows_at index t i);
      faulty = bits_more Faulty n.faulty m.faulty are.faulty faulty;
      framed = bits_more Framed n.framed m.framed are.framed framed;
    }
