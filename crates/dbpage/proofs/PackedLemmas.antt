-- The cells of a packed page, one after another.
use Rattle.std.proofs.Common.{◌≡◌, ℕ, zero, suc, true, Err, ◌+◌, ◌<◌, ◌≤◌, max, inl, inr, false, List, [], ◌∷◌, ◌++◌, ◌||◌, Bool, length, map, Option, Some}
use Rattle.std.proofs.Common.{None, Ok, ℤ, refl, sym, subst, ap, ◌∙◌, arith}
use Rattle.std.specs.Prelude.{Result, fold, filter_map, option_map, is_some, IsOk, MatchBool, ◌<ℤ◌}
use Rattle.std.specs.List.{range_with_len}
use Rattle.std.specs.Result.{result_ok}
use Rattle.std.proofs.lemmas.Bool.{cases_lt}
use Rattle.std.proofs.lemmas.List.{map-append}
use Rattle.std.proofs.lemmas.List.Sums.{sum_by-append, fold-append}
use Rattle.std.proofs.lemmas.List.Elements.{filter_map-append}
use Rattle.dbsurvey.proofs.Ranges.{range_push}
use Rattle.dbformat.specs.Head.{View, content_start}
use Rattle.dbformat.specs.Cell.{Cell, cell, count}
use Rattle.dbformat.specs.Coverage.{coverage, coverage_of, first_overlap, items}
use Rattle.dbformat.specs.declared.CellFault.{CellFault}
use Rattle.dbformat.specs.declared.PageKind.TheVariants.{LeafIndex}
use Rattle.dbformat.specs.declared.Coverage.TheVariants.{Overlap, Unheld}
use Rattle.dbpage.specs.Packed.{first_cells, payload_of, greatest_of, AddUpTo, HasOverflow, IsAboveLast, IsAllLocal, IsUnpacked, key_at}
use Rattle.dbpage.specs.Beginning.{IsRunning, begins_with}
use Rattle.dbpage.specs.declared.packed.CellSums.{CellSums}
use Rattle.dbpage.proofs.CellLemmas.{cell_keyless}
use Rattle.dbpage.proofs.Runs.{no_cells, run_as}

-- of no cell of a page whose first key is this
abbrev pub no_sums : Option ℤ → CellSums
no_sums first = record { payload = 0; greatest = 0; first = first; last = None; has_overflow = false }

pub none_read : (v : View) (first : Option ℤ) → (0 < count v → key_at v 0 ≡ first) → (count v ≡ 0 → first ≡ None) → AddUpTo v 0 (no_sums first)
none_read v first some none = record {
  readable = λ i h. absurd (omega arith);
  rising = λ i a b h p q. absurd (omega arith);
  first_is = some;
  last_is = λ i h. absurd (omega arith);
  empty = none;
  unread = λ h. refl;
  payload_is = refl;
  greatest_is = refl;
  overflow_is = λ i h. absurd (omega arith);
  few = omega arith;
}

pub none_running : (v : View) (first : Option ℤ) (usable : ℕ) → content_start v.number v.bytes ≤ v.usable → usable ≡ v.usable
    → (0 < count v → key_at v 0 ≡ first) → (count v ≡ 0 → first ≡ None) → IsRunning v (begins_with first usable)
none_running v first usable start same some none = record {
  few = omega arith;
  read = none_read v first some none;
  run = run_as v 0 (no_cells v v.usable start (omega arith)) same same;
}

abbrev numbered : View → ℕ → Option (ℕ × Cell)
numbered v i = option_map (λ c. (i, c)) (result_ok (cell v i))

pub first_cells_more : (v : View) (n : ℕ) (c : Cell) → cell v n ≡ Ok c → first_cells v (n + 1) ≡ first_cells v n ++ (n, c) ∷ []
first_cells_more v n c readable =
    ap (filter_map (numbered v)) (range_push 0 n)
    ∙ filter_map-append (numbered v) (range_with_len 0 n) ((0 + n) ∷ [])
    ∙ ap (λ (xs : List (ℕ × Cell)). first_cells v n ++ xs) (ap (λ (k : ℕ). filter_map (numbered v) (k ∷ [])) at ∙ one (numbered v) (rw readable refl))
  where
    at : 0 + n ≡ n
    at = omega arith

    one : (take : ℕ → Option (ℕ × Cell)) → take n ≡ Some (n, c) → filter_map take (n ∷ []) ≡ (n, c) ∷ []
    one take h = rw h refl

module _ (v : View) (n : ℕ) (sums : CellSums) (was : AddUpTo v n sums) where
  pub one_more_read : (c : Cell) → cell v n ≡ Ok c → length c.local ≤ 65536 → IsAboveLast sums.last c.key
      → (now : CellSums) → now.payload ≡ sums.payload + length c.local → now.greatest ≡ max sums.greatest c.size → now.first ≡ sums.first
      → now.last ≡ c.key → now.has_overflow ≡ (sums.has_overflow || is_some c.overflow) → AddUpTo v (n + 1) now
  one_more_read c readable fits greater now payload greatest first last overflow =
      let all = first_cells_more v n c readable in
      let key : key_at v n ≡ c.key = rw readable refl in
      record {
        readable = λ i h. elim (cases_lt i n) [
          | inl before ↦ was.readable i before
          | inr same ↦ subst (λ (k : ℕ). IsOk (cell v k)) (n_is i h same) (rw readable refl)
        ];
        rising = λ i a b h p q. elim (cases_lt (i + 1) n) [
          | inl before ↦ was.rising i a b before p q
          | inr same ↦ greater a b (sym (was.last_is i (omega arith)) ∙ p) (sym key ∙ ap (key_at v) (next_is i h same) ∙ q)
        ];
        first_is = λ h. was.first_is h ∙ sym first;
        last_is = λ i h. ap (key_at v) (at_is i h) ∙ key ∙ sym last;
        empty = λ h. first ∙ was.empty h;
        unread = λ h. absurd (omega (arith, h));
        payload_is = omega (arith, payload, was.payload_is, ap payload_of all, sum_by-append (λ (i, c). length c.local) (first_cells v n) ((n, c) ∷ []));
        greatest_is = greatest ∙ greatest_more all;
        overflow_is = subst (λ b. MatchBool b (HasOverflow v (n + 1)) ((i : ℕ) → i < n + 1 → IsAllLocal v i)) (sym overflow)
            (overflow_more sums.has_overflow was.overflow_is c.overflow refl);
        few = omega (arith, payload, was.few);
      }
    where
      n_is : (i : ℕ) → i < n + 1 → n ≤ i → n ≡ i
      n_is i h same = omega arith

      next_is : (i : ℕ) → i + 1 < n + 1 → n ≤ i + 1 → n ≡ i + 1
      next_is i h same = omega arith

      at_is : (i : ℕ) → i + 1 ≡ n + 1 → i ≡ n
      at_is i h = omega arith

      overflow_more : (b : Bool) → MatchBool b (HasOverflow v n) ((i : ℕ) → i < n → IsAllLocal v i) → (o : Option ℕ) → c.overflow ≡ o
          → MatchBool (b || is_some o) (HasOverflow v (n + 1)) ((i : ℕ) → i < n + 1 → IsAllLocal v i)
      overflow_more true has o e = record { place = has.place; within = omega (arith, has.within); found = has.found; readable = has.readable; some = has.some }
      overflow_more false whole (Some p) e = record { place = n; within = omega arith; found = c; readable = readable; some = ap is_some e }
      overflow_more false whole None e = λ i h. elim (cases_lt i n) [
        | inl before ↦ whole i before
        | inr same ↦ subst (λ (k : ℕ). IsAllLocal v k) (n_is i h same) (record { whole = c; readable = readable; here = e })
      ]

      greatest_more : first_cells v (n + 1) ≡ first_cells v n ++ (n, c) ∷ [] → max sums.greatest c.size ≡ greatest_of (first_cells v (n + 1))
      greatest_more all =
          let size : ℕ × Cell → ℕ = λ (i, c). c.size in
          ap (λ (g : ℕ). max g c.size) was.greatest_is
          ∙ sym (ap greatest_of all ∙ ap (fold max 0) (map-append size (first_cells v n) ((n, c) ∷ []))
          ∙ fold-append max 0 (map size (first_cells v n)) (c.size ∷ []))

-- a cell that is not readable
pub unpacked_at_unreadable : (v : View) (i : ℕ) (e : CellFault) → i < count v → cell v i ≡ Err e → IsUnpacked v
unpacked_at_unreadable v i e within h p all = not_ok (all.read.readable i within)
  where
    not_ok : IsOk (cell v i) → ⊥
    not_ok p = cc

some_is_none : (a : ℤ) → Some a ≡ None → ⊥
some_is_none a h = cc

-- or one whose key does not rise
pub unpacked_at_key : (v : View) (i : ℕ) (sums : CellSums) (c : Cell) → AddUpTo v i sums → i < count v → cell v i ≡ Ok c → (IsAboveLast sums.last c.key → ⊥)
    → IsUnpacked v
unpacked_at_key v i sums c was within readable falls page all =
    falls (λ a b p q. rises i refl a b p q)
  where
    rises : (n : ℕ) → n ≡ i → (a b : ℤ) → sums.last ≡ Some a → c.key ≡ Some b → a <ℤ b
    rises zero h a b p q = absurd (some_is_none a (sym p ∙ was.unread (sym h)))
    rises (suc n) h a b p q =
        let at : n + 1 ≡ i = omega arith in
        let key : key_at v i ≡ c.key = rw readable refl in
        all.read.rising n a b (omega arith) (was.last_is n at ∙ p) (ap (key_at v) at ∙ key ∙ q)

-- or an item that overlaps
pub unpacked_at_overlap : (v : View) (k : ℕ) → first_overlap (items v) ≡ Some k → IsUnpacked v
unfolding coverage
unpacked_at_overlap v k h page all = not_both page.unheld (sym (ap (coverage_of v) h) ∙ all.coverage_is)
  where
    not_both : (unheld : ℕ) → Overlap k ≡ Unheld unheld → ⊥
    not_both unheld h = cc

-- sums of cells without keys and overflow pages, after those that these are the sums of
abbrev pub keyless_sums : CellSums → ℕ → ℕ → CellSums
keyless_sums sums payload greatest =
    record { payload = payload; greatest = greatest; first = sums.first; last = None; has_overflow = sums.has_overflow }

pub key_at-keyless : (v : View) (i : ℕ) → v.kind ≡ LeafIndex → key_at v i ≡ None
key_at-keyless v i kind = by_case (cell v i) refl
  where
    by_case : (r : Result Cell CellFault) → cell v i ≡ r → key_at v i ≡ None
    by_case (Ok c) e = rw e (cell_keyless v i c kind e)
    by_case (Err f) e = rw e refl

no_last : (v : View) (n : ℕ) (sums : CellSums) → AddUpTo v n sums → v.kind ≡ LeafIndex → sums.last ≡ None
no_last v zero sums was kind = was.unread refl
no_last v (suc n) sums was kind = sym (was.last_is n (omega arith)) ∙ key_at-keyless v n kind

pub keyless_read : (v : View) (n : ℕ) (sums : CellSums) → AddUpTo v n sums → v.kind ≡ LeafIndex
    → AddUpTo v n (keyless_sums sums sums.payload sums.greatest)
keyless_read v n sums was kind = record {
  readable = was.readable;
  rising = was.rising;
  first_is = was.first_is;
  last_is = λ i h. was.last_is i h ∙ no_last v n sums was kind;
  empty = was.empty;
  unread = λ h. refl;
  payload_is = was.payload_is;
  greatest_is = was.greatest_is;
  overflow_is = was.overflow_is;
  few = was.few;
}

pub keyless_more : (v : View) (n : ℕ) (sums : CellSums) (payload greatest : ℕ) (c : Cell) → AddUpTo v n (keyless_sums sums payload greatest) → cell v n ≡ Ok c
    → length c.local ≤ 65536 → c.key ≡ None → c.overflow ≡ None → (more most : ℕ) → more ≡ payload + length c.local → most ≡ max greatest c.size
    → AddUpTo v (n + 1) (keyless_sums sums more most)
keyless_more v n sums payload greatest c was readable fits keyless whole more most p g =
    one_more_read v n (keyless_sums sums payload greatest) was c readable fits (λ a b e q. absurd (some_is_none a (sym e)))
    (keyless_sums sums more most) p g refl (sym keyless) (or_false sums.has_overflow ∙ ap (λ (o : Option ℕ). sums.has_overflow || is_some o) (sym whole))
  where
    or_false : (b : Bool) → b ≡ (b || false)
    or_false true = refl
    or_false false = refl
