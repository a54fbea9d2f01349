-- What texts spell, and that each spells at most one change.
use Rattle.std.proofs.Common.{◌≡◌, ℕ, suc, zero, ◌+◌, ◌*◌, ◌<◌, ◌⊎◌, List, [], ◌∷◌, ◌++◌, length, take, drop}
use Rattle.std.proofs.Common.{refl, sym, ap, ap₂, subst, ◌∙◌, arith, true, false}
use Rattle.std.proofs.Common.{slice_index, slice_index_or, length-append, rules}
use Rattle.std.specs.Prelude.{All, Err, Ok, ◌==◌, if◌then◌else◌}
use Rattle.std.proofs.Common.{inl, inr, Bool}
use Rattle.std.specs.Char.{digit_value}
use Rattle.std.specs.List.{AllZip, list_any}
use Rattle.std.proofs.lemmas.List.{drop_more, get_or_at, get_or_append_left, length-take}
use Rattle.std.proofs.Math.Seq.{take-add, take-suc}
use Rattle.std.specs.Borrow.{Bor}
use Rattle.std.proofs.lemmas.List.{get_or-map, length-map}
use Rattle.std.specs.Prelude.{map}
use Rattle.std.proofs.lemmas.List.Folds.{list_any_none}
use Rattle.std.proofs.lemmas.Bool.Decides.{nat_tests}
use Rattle.clap.specs.Words.{Text}
use Rattle.dbsource.specs.Changes.{AreChanges, Change, IsChange, changes_with, overlaps}
use Rattle.dbsource.specs.declared.change.ChangeError.{ChangeError}
use Rattle.dbsource.specs.declared.change.ChangeError.TheVariants.{Overlaps, TooMany}
use Rattle.dbcli.specs.Spelled.{SpellsBytes, SpellsChange}

-- ---- bytes

spells_append : (digits : Text) (bytes : List ℕ) (high low byte : ℕ) → SpellsBytes digits bytes → digit_value high < 16 → digit_value low < 16
    → byte ≡ 16 * digit_value high + digit_value low → SpellsBytes (digits ++ high ∷ low ∷ []) (bytes ++ byte ∷ [])
spells_append [] [] high low byte s h l e = (h, l, e, tt)
spells_append [] (b ∷ bytes) high low byte s h l e = absurd s
spells_append (x ∷ []) bytes high low byte s h l e = absurd s
spells_append (x ∷ y ∷ digits) [] high low byte s h l e = absurd s
spells_append (x ∷ y ∷ digits) (b ∷ bytes) high low byte s h l e = (s.0, s.1, s.2, spells_append digits bytes high low byte s.3 h l e)

-- two more digits and their byte
pub spells_more : (digits : Text) (bytes : List ℕ) (n byte : ℕ) → SpellsBytes (take (2 * n) digits) bytes → 2 * n + 1 < length digits
    → digit_value (slice_index digits (2 * n)) < 16 → digit_value (slice_index digits (2 * n + 1)) < 16
    → byte ≡ 16 * digit_value (slice_index digits (2 * n)) + digit_value (slice_index digits (2 * n + 1))
    → SpellsBytes (take (2 * (n + 1)) digits) (bytes ++ byte ∷ [])
spells_more digits bytes n byte s in_digits h l e =
    let h' = slice_index digits (2 * n) in
    let l' = slice_index digits (2 * n + 1) in
    let after : drop (2 * n) digits ≡ h' ∷ l' ∷ drop (2 * n + 1 + 1) digits =
    drop_more digits (2 * n) 0 (omega arith) ∙ ap (λ r. h' ∷ r) (drop_more digits (2 * n + 1) 0 in_digits) in
    let next : 2 * n + 2 ≡ 2 * (n + 1) = omega arith in
    let fore : length (take (2 * n) digits) ≡ 2 * n = simp length-take (omega arith) in
    let both : take (2 * (n + 1)) digits ≡ take (2 * n) digits ++ h' ∷ l' ∷ [] =
    ap (λ k. take k digits) (sym next) ∙ take-add (2 * n) 2 digits ∙ ap (λ r. take (2 * n) digits ++ take 2 r) after in
    rw both (spells_append (take (2 * n) digits) bytes h' l' byte s h l e)

-- there are two for each byte
pub spells_size : (digits : Text) (bytes : List ℕ) → SpellsBytes digits bytes → length digits ≡ 2 * length bytes
spells_size [] [] s = refl
spells_size [] (b ∷ bytes) s = absurd s
spells_size (x ∷ []) bytes s = absurd s
spells_size (x ∷ y ∷ digits) [] s = absurd s
spells_size (x ∷ y ∷ digits) (b ∷ bytes) s = let k = spells_size digits bytes s.3 in omega arith

-- each is a digit
pub spells_digit : (digits : Text) (bytes : List ℕ) → SpellsBytes digits bytes → (k : ℕ) → k < length digits → digit_value (slice_index digits k) < 16
spells_digit [] bytes s k l = absurd (omega arith)
spells_digit (x ∷ []) bytes s k l = absurd s
spells_digit (x ∷ y ∷ digits) [] s k l = absurd s
spells_digit (x ∷ y ∷ digits) (b ∷ bytes) s zero l = s.0
spells_digit (x ∷ y ∷ digits) (b ∷ bytes) s (suc zero) l = s.1
spells_digit (x ∷ y ∷ digits) (b ∷ bytes) s (suc (suc k)) l = spells_digit digits bytes s.3 k (omega arith)

-- no two lists of bytes have the same digits
same_bytes : (digits : Text) (a b : List ℕ) → SpellsBytes digits a → SpellsBytes digits b → a ≡ b
same_bytes [] [] [] s t = refl
same_bytes [] [] (b ∷ ys) s t = absurd t
same_bytes [] (a ∷ xs) ys s t = absurd s
same_bytes (x ∷ []) xs ys s t = absurd s
same_bytes (x ∷ y ∷ digits) [] ys s t = absurd s
same_bytes (x ∷ y ∷ digits) (a ∷ xs) [] s t = absurd t
same_bytes (x ∷ y ∷ digits) (a ∷ xs) (b ∷ ys) s t = ap₂ (λ h l. h ∷ l) (s.2 ∙ sym t.2) (same_bytes digits xs ys s.3 t.3)

-- ---- changes

pub same_change : (text : Text) (c d : Change) → SpellsChange text c → SpellsChange text d → c ≡ d
same_change text c d s t = ap₂ (λ o b. let e : Change = record { offset = o; bytes = b } in e) (sym s.offset.1 ∙ t.offset.1)
    (same_bytes _ c.bytes d.bytes s.bytes t.bytes)

-- where the first words spell some changes, all words spell these and more
prefix_spelled : (texts : List Text) (done changes : List Change) (n : ℕ) → n < length texts → AllZip SpellsChange (take n texts) done
    → AllZip SpellsChange texts changes
    → (c : Change) × (rest : List Change) × (changes ≡ done ++ c ∷ rest) × SpellsChange (slice_index_or texts n []) c
prefix_spelled [] done changes n l s t = absurd (omega arith)
prefix_spelled (x ∷ texts) done [] n l s t = absurd t
prefix_spelled (x ∷ texts) [] (c ∷ changes) zero l s t = (c, changes, refl, t.0)
prefix_spelled (x ∷ texts) (d ∷ done) (c ∷ changes) zero l s t = absurd s
prefix_spelled (x ∷ texts) [] (c ∷ changes) (suc n) l s t = absurd s
prefix_spelled (x ∷ texts) (d ∷ done) (c ∷ changes) (suc n) l s t =
    let r = prefix_spelled texts done changes n (omega arith) s.1 t.1 in
    (r.0, r.1, ap₂ (λ h l. h ∷ l) (same_change x c d t.0 s.0) r.2, r.3)

overlaps_either : (c d : Change) → overlaps c d ≡ false → overlaps d c ≡ false
overlaps_either c d h = search (rules, nat_tests)

-- Where the first words spell some changes, and a change of the next one is not taken after these, all words spell none that are taken.
pub none_spelled : (texts : List Text) (done : List Change) (n : ℕ) → n < length texts → AllZip SpellsChange (take n texts) done
    → ((c : Change) → IsChange c → SpellsChange (slice_index_or texts n []) c → (length done ≡ 16) ⊎ (list_any (overlaps c) done ≡ true))
    → (changes : List Change) → AreChanges changes → AllZip SpellsChange texts changes → ⊥
none_spelled texts done n l before refused changes are spelled =
    let p = prefix_spelled texts done changes n l before spelled in
    let c = p.0 in
    let size : length changes ≡ length done + suc (length p.1) = ap (λ (l : List Change). length l) p.2 ∙ length-append done (c ∷ p.1) in
    let here : (d : Change) → slice_index_or changes (length done) d ≡ c =
    λ d. ap (λ l. slice_index_or l (length done) d) p.2 ∙ get_or_at done c p.1 d (length done) refl in
    let apart : All (λ d. overlaps c d ≡ false) done = λ k d in_done. overlaps_either _ c (
    subst (λ e. overlaps (slice_index_or done k d) e ≡ false) (here d)
    (subst (λ e. overlaps e (slice_index_or changes (length done) d) ≡ false)
    (ap (λ l. slice_index_or l k d) p.2 ∙ get_or_append_left done (c ∷ p.1) d k in_done)
    (are.apart k (length done) d in_done (omega arith)))) in
    elim (refused c (subst IsChange (here c) (are.each (length done) c (omega arith))) p.3) [
      | inl full ↦ let few = are.few in absurd (omega arith)
      | inr any ↦ let none : list_any (overlaps c) done ≡ false = list_any_none (overlaps c) done apart in absurd cc
    ]

-- why a change is not added
pub not_added : (changes : List Change) (c : Change) (error : ChangeError) → changes_with changes c ≡ Err error
    → (length changes ≡ 16) ⊎ (list_any (overlaps c) changes ≡ true)
not_added changes c error e = by_tests (length changes == 16) (list_any (overlaps c) changes) refl refl e
  where
    by_tests : (a b : Bool) → a ≡ (length changes == 16) → b ≡ list_any (overlaps c) changes
        → (if a then Err TooMany else (if b then Err Overlaps else Ok (changes ++ c ∷ []))) ≡ Err error
        → (length changes ≡ 16) ⊎ (list_any (overlaps c) changes ≡ true)
    by_tests true b p q e = inl (grind (arith, nat_tests))
    by_tests false true p q e = inr (sym q)
    by_tests false false p q e = absurd cc

-- a word more and its change
all_push : (texts : List Text) (changes : List Change) (text : Text) (c : Change) → AllZip SpellsChange texts changes → SpellsChange text c
    → AllZip SpellsChange (texts ++ text ∷ []) (changes ++ c ∷ [])
all_push [] [] text c h s = (s, tt)
all_push [] (d ∷ changes) text c h s = absurd h
all_push (t ∷ texts) [] text c h s = absurd h
all_push (t ∷ texts) (d ∷ changes) text c h s = (h.0, all_push texts changes text c h.1 s)

-- the word at a place, with its change
pub one_more_spelled : (words : List (Bor Text)) (changes changes' : List Change) (n : ℕ) (d : Bor Text) → n < length words
    → AllZip SpellsChange (take n (map (λ (w : Bor Text). w.now) words)) changes
    → (c : Change) × SpellsChange (slice_index_or words n d).now c × (changes' ≡ changes ++ c ∷ [])
    → AllZip SpellsChange (take (n + 1) (map (λ (w : Bor Text). w.now) words)) changes'
one_more_spelled words changes changes' n d l h (c, s, e) =
    let texts = map (λ (w : Bor Text). w.now) words in
    let size : n < length texts = subst (λ k. n < k) (sym (length-map words (λ (w : Bor Text). w.now))) l in
    let next : suc n ≡ n + 1 = omega arith in
    let parts : take (n + 1) texts ≡ take n texts ++ slice_index_or texts n [] ∷ [] = ap (λ k. take k texts) (sym next) ∙ take-suc texts n [] size in
    rw (parts, e) (all_push (take n texts) changes (slice_index_or texts n []) c h
    (subst (λ t. SpellsChange t c) (sym (get_or-map (λ (w : Bor Text). w.now) words n d [] l)) s))
