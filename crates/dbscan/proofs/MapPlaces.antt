-- The position of the entry of a page in the pointer map; and the map page that was read last is the one that has it.
use Rattle.dbscan.proofs.Common.{◌≡◌, ℕ, ◌+◌, ◌-◌, ◌*◌, ◌/◌, ◌%◌, ◌<◌, ◌≤◌, true, false, List, length, Some, None, Result, sym, ap, ap₂, ◌∙◌, arith, inl, inr}
use Rattle.dbscan.proofs.Common.{rules, nat_le, option_map, slice_index, OnOk, MapEntry, geometry, refusal, refusal_of, page_bytes, map_entry, entry_in}
use Rattle.dbscan.proofs.Common.{is_page, lock_page, entries_per_map, is_map_position, fixed_use, is_fixed, map_page_of, Geometry, HasMapFor, IsMapInUse}
use Rattle.dbscan.proofs.Common.{cases_Bool, nat_tests, Map, last_map}
use Rattle.std.proofs.lemmas.Nat.{div-add-mod'}
use Rattle.std.proofs.Math.Nat.{mod-lt}
use Rattle.dbformat.proofs.TestsLemmas.{AllFalse-from_none}
use Rattle.dbformat.specs.File.{refusal_tests}
use Rattle.dbformat.specs.Numbers.{u32_at}

-- a number that is no multiple has the multiples before it that its predecessor has
div_before : (q k : ℕ) → 0 < k → 1 ≤ q % k → (q - 1) / k ≡ q / k
div_before q k pos h = grind arith

-- a page that has no fixed use is no position of a map page
no_position : (g : Geometry) (p : ℕ) → is_page g p ≡ true → g.has_map ≡ true → is_fixed g p ≡ false → is_map_position g p ≡ false
unfolding fixed_use
no_position g p page has h = grind arith

-- at no position of a map page it has the same one before it as the page before
not_at : (g : Geometry) (p : ℕ) → 2 ≤ p → is_map_position g p ≡ false → 1 ≤ (p - 2) % (entries_per_map g + 1)
not_at g p l h = grind (arith, nat_tests)

last_before : (g : Geometry) (p : ℕ) → 1 ≤ (p - 2) % (entries_per_map g + 1) → last_map g (p - 1) ≡ last_map g p
last_before g p r =
    let n : p - 1 - 2 ≡ p - 2 - 1 = omega arith in
    let same = ap (λ x. x / (entries_per_map g + 1)) n ∙ div_before (p - 2) (entries_per_map g + 1) (omega arith) r in
    ap (λ x. 2 + x * (entries_per_map g + 1)) same

-- the place of the entry of page p in the map page m
pub record IsPlace (g : Geometry) (p m : ℕ) : Type 0 where
  pub has : g.has_map ≡ true
  pub low : 3 ≤ p
  pub high : p ≤ g.pages
  pub same : m ≡ last_map g (p - 1)
  pub before : m + 1 ≤ p
  pub room : 5 * (p - m) ≤ g.usable

pub place_of : (g : Geometry) (p m : ℕ) → map_page_of g p ≡ Some m → IsPlace g p m
unfolding map_page_of
place_of g p m h =
    let has : g.has_map ≡ true = grind arith in
    let page : is_page g p ≡ true = grind arith in
    let free : is_fixed g p ≡ false = grind arith in
    let low : 3 ≤ p = grind (arith, nat_tests) in
    let is : last_map g p ≡ m = grind arith in
    let r = not_at g p (omega arith) (no_position g p page has free) in
    let l : (p - 2) % (entries_per_map g + 1) < entries_per_map g + 1 = mod-lt (p - 2) (omega arith) in
    let e = div-add-mod' (p - 2) (entries_per_map g + 1) in
    let five = div-add-mod' g.usable 5 in record {
      has = has;
      low = low;
      high = grind (arith, nat_tests);
      same = sym is ∙ sym (last_before g p r);
      before = omega arith;
      room = omega arith;
    }

-- no map page, no entry
pub no_entry : (file : List ℕ) (p : ℕ) → map_page_of (geometry file) p ≡ None → None ≡ map_entry file p
unfolding map_entry
no_entry file p h = sym (ap (option_map (entry_in file p)) h)

-- an entry that was read from the map page
pub entry_read : (file bytes : List ℕ) (p m : ℕ) (e : MapEntry) → map_page_of (geometry file) p ≡ Some m → HasMapFor file (geometry file) p bytes
    → e.type ≡ slice_index bytes (5 * (p - m - 1)) → e.number ≡ u32_at (5 * (p - m - 1) + 1) bytes → Some e ≡ map_entry file p
unfolding map_entry
entry_read file bytes p m e h has t n =
    let k = place_of (geometry file) p m h in
    let b : bytes ≡ page_bytes file m = has k.has k.low k.high ∙ ap (page_bytes file) (sym k.same) in
    let same : e ≡ entry_in file p m =
    ap₂ (λ x y. record { type = x; number = y }) (t ∙ ap (λ l. slice_index l (5 * (p - m - 1))) b) (n ∙ ap (u32_at (5 * (p - m - 1) + 1)) b) in
    ap Some same ∙ sym (ap (option_map (entry_in file p)) h)

-- ---- the map page that the next page asks for

-- a map page is at its position
pub at_position : (g : Geometry) (p : ℕ) → fixed_use g p ≡ Some Map → (2 ≤ p) × (last_map g p ≡ p)
unfolding fixed_use
at_position g p h =
    let at : is_map_position g p ≡ true = grind arith in
    let d = div-add-mod' (p - 2) (entries_per_map g + 1) in (grind (arith, nat_tests), grind (arith, nat_tests))

pub next_read : (file bytes : List ℕ) (p : ℕ) → fixed_use (geometry file) p ≡ Some Map → bytes ≡ page_bytes file p
    → HasMapFor file (geometry file) (p + 1) bytes
next_read file bytes p h e = λ has low high.
    let k = at_position (geometry file) p h in
    let n : p + 1 - 1 ≡ p = omega arith in
    e ∙ ap (page_bytes file) (sym (ap (last_map (geometry file)) n ∙ k.1))

-- the lock-byte page is never a map page
lock_no_position : (file : List ℕ) → refusal file ≡ None → (geometry file).has_map ≡ true → nat_le (lock_page (geometry file).page_size) (geometry file).pages
    ≡ true
    → is_map_position (geometry file) (lock_page (geometry file).page_size) ≡ false
unfolding refusal_of
lock_no_position file h has l =
    let tests = AllFalse-from_none (refusal_tests file (length file)) h in
    rw (has, l) at tests.1.1.1.1.1.1.0

position_is_map : (file : List ℕ) (p : ℕ) → refusal file ≡ None → (geometry file).has_map ≡ true → is_page (geometry file) p ≡ true
    → is_map_position (geometry file) p ≡ true
    → fixed_use (geometry file) p ≡ Some Map
unfolding fixed_use
position_is_map file p h has page pos = let off = lock_no_position file h has in grind (arith, nat_tests)

pub next_kept : (file bytes : List ℕ) (p : ℕ) → refusal file ≡ None → 1 ≤ p → (fixed_use (geometry file) p ≡ Some Map → (geometry file).pages ≤ p)
    → HasMapFor file (geometry file) p bytes → HasMapFor file (geometry file) (p + 1) bytes
next_kept file bytes p h one last k = λ has low high.
    let g = geometry file in
    let page : is_page g p ≡ true = search (rules, nat_tests) in
    let off : is_map_position g p ≡ false = elim (cases_Bool (is_map_position g p)) [
      | inl e ↦ absurd (let z = last (position_is_map file p h has page e) in omega arith)
      | inr e ↦ e
    ] in
    let r = not_at g p (omega arith) off in
    let d = div-add-mod' (p - 2) (entries_per_map g + 1) in
    let three : 3 ≤ p = omega arith in
    let n : p + 1 - 1 ≡ p = omega arith in
    k has three (omega arith) ∙ ap (page_bytes file) (last_before g p r ∙ ap (last_map g) (sym n))

pub not_map : (g : Geometry) (p : ℕ) → is_fixed g p ≡ false → fixed_use g p ≡ Some Map → ⊥
not_map g p h k = grind arith

pub on_ok : {A E : Type 0} {P : Type 0} (r : Result A E) → P → OnOk r P
on_ok r p = search rules

-- a map page that is not in use has no page after it
pub not_in_use : (g : Geometry) (p : ℕ) → (IsMapInUse g p → ⊥) → fixed_use g p ≡ Some Map → g.pages ≤ p
not_in_use g p h e = grind (arith, nat_tests)
