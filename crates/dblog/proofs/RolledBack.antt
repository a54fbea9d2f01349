-- By its index a rollback journal gives what SQLite rolls back.
use Rattle.std.proofs.Common.{◌≡◌, ℕ, suc, zero, ◌<◌, ◌≤◌, ◌+◌, ◌-◌, ◌*◌, ◌/◌, ◌%◌, Bool, true, false, cond, List, [], ◌∷◌, ◌++◌, length, map, get_or}
use Rattle.std.proofs.Common.{refl, sym, ap, ◌∙◌, arith, inl, inr}
use Rattle.std.specs.Prelude.{◌⊎◌, ◌==◌, ◌&&◌, ◌||◌, not, Option, Some, None, Ok, nat_le, nat_lt, slice_index}
use Rattle.std.specs.List.{range_with_len}
use Rattle.std.proofs.lemmas.Bool.Decides.{nat_tests}
use Rattle.dbformat.specs.Numbers.{u32_at}
use Rattle.dblog.specs.Entries.{named_frame}
use Rattle.dblog.specs.Indexes.{Indexed, Indexes}
use Rattle.dblog.specs.Journal.{Kept, after_gap, after_head, after_record, after_segment, first_head, gap, has_magic, is_record, is_used, names_super}
use Rattle.dblog.specs.Journal.{next_place, record_at, records_from, sector_at, used_records, with_next, kept_at, place_after, shape}
use Rattle.dblog.specs.JournalReading.{IndexesRecords, IsJournalOf, JournalIndexed}
use Rattle.dblog.specs.Placed.{Placed, byte_through, journal_pages, page_start, placed, placed_byte, placed_len, through, wal_pages}
use Rattle.dblog.specs.Recovered.{byte_before, last_of, recovered, recovered_by_both, rolled_back, rolled_byte, stored_size}
use Rattle.dblog.specs.declared.entry.Entry.{Entry}
use Rattle.dblog.specs.declared.journal.Place.{Place}
use Rattle.dblog.specs.declared.journal.Shape.{Shape}
use Rattle.dblog.proofs.LastOf.{IsIndexed, index_at, last_at, last_none}
use Rattle.dblog.proofs.Ranges.{through_length}
use Rattle.dblog.proofs.Recovery.{index_recovers, map_each, padded_whole}

-- ---- the records of a journal rise

some_if : {A : Type 0} (b : Bool) (x q : A) → cond b (Some x) None ≡ Some q → x ≡ q
some_if true x q e = let k : x ≡ q = cc in k
some_if false x q e = absurd cc

some_when : {A : Type 0} (b : Bool) (o : Option A) (q : A) → cond b o None ≡ Some q → o ≡ Some q
some_when true o q e = e
some_when false o q e = absurd cc

-- the next place is further on, after a record
next_at : (s : Shape) (file : List ℕ) (p q : Place) → next_place s file p ≡ Some q → (p.at ≤ q.at) × (0 < p.left → p.at < q.at)
next_at s file p q e = by_left (p.left == 0) refl e
  where
    by_sector : (b : Bool) → cond b (after_head s file p.at) (after_gap s p) ≡ Some q → p.at ≤ q.at
    by_sector true e =
        let h = sector_at s file p.at in
        let x = some_if (has_magic h) (place_after s h p.at) q (some_when (nat_le (p.at + s.sector) s.len) _ q e) in
        let at : p.at + s.sector ≡ q.at = ap (λ (y : Place). y.at) x in
        omega (arith, at)
    by_sector false e =
        let x = some_if (nat_le (p.at + gap s p.at) s.len) (let y : Place = record { at = p.at + gap s p.at; left = 0; nonce = p.nonce } in y) q e in
        let at : p.at + gap s p.at ≡ q.at = ap (λ (y : Place). y.at) x in
        omega (arith, at)

    by_left : (b : Bool) → b ≡ (p.left == 0) → cond b (after_segment s file p) (after_record s file p) ≡ Some q
        → (p.at ≤ q.at) × (0 < p.left → p.at < q.at)
    by_left true t e =
        let z : p.left ≡ 0 = grind (arith, nat_tests) in
        (by_sector (p.at % s.sector == 0) e, λ l. absurd (omega (arith, z, l)))
    by_left false t e =
        let next : Place = record { at = p.at + (s.page_size + 8); left = p.left - 1; nonce = p.nonce } in
        let x = some_if (is_record s p.nonce (record_at s file p.at)) next q
        (some_when (nat_le (p.at + (s.page_size + 8)) s.len) _ q e) in
        let at : p.at + (s.page_size + 8) ≡ q.at = ap (λ (y : Place). y.at) x in
        (omega (arith, at), λ l. omega (arith, at))

abbrev RisesFrom : ℕ → List Kept → Type 0
RisesFrom at [] = Unit {0}
RisesFrom at (r ∷ rs) = (at ≤ r.at) × RisesFrom (suc r.at) rs

rises_before : (at to : ℕ) (rs : List Kept) → at ≤ to → RisesFrom to rs → RisesFrom at rs
rises_before at to [] l h = tt
rises_before at to (r ∷ rs) l h = (omega (arith, h.0), h.1)

records_rise : (n : ℕ) (s : Shape) (file : List ℕ) (p : Place) → RisesFrom p.at (records_from n s file p)
records_rise zero s file p = tt
records_rise (suc n) s file p = by_next (λ q. records_rise n s file q) (next_place s file p) refl
  where
    by_left : (b : Bool) (q : Place) → b ≡ (p.left == 0) → p.at ≤ q.at → (0 < p.left → p.at < q.at) → RisesFrom q.at (records_from n s file q)
        → RisesFrom p.at (cond b [] ((record { page = u32_at 0 (record_at s file p.at); at = p.at }) ∷ []) ++ records_from n s file q)
    by_left true q t l m rest = rises_before p.at q.at _ l rest
    by_left false q t l m rest =
        let some : 0 < p.left = grind (arith, nat_tests) in
        (omega arith, rises_before (suc p.at) q.at _ (m some) rest)

    by_next : ((q : Place) → RisesFrom q.at (records_from n s file q)) → (o : Option Place) → o ≡ next_place s file p
        → RisesFrom p.at (with_next (kept_at s file p) (λ q. records_from n s file q) o)
    by_next rest None e = tt
    by_next rest (Some q) e = let m = next_at s file p q (sym e) in by_left (p.left == 0) q refl m.0 m.1 (rest q)

rises_all : (at : ℕ) (rs : List Kept) (d : Kept) → RisesFrom at rs → (j : ℕ) → j < length rs → at ≤ (get_or rs j d).at
rises_all at [] d h j l = absurd (omega arith)
rises_all at (r ∷ rs) d h zero l = h.0
rises_all at (r ∷ rs) d h (suc j) l = omega (arith, h.0, rises_all (suc r.at) rs d h.1 j (omega arith))

rises_pairs : (at : ℕ) (rs : List Kept) (d : Kept) → RisesFrom at rs → (i j : ℕ) → i < j → j < length rs → (get_or rs i d).at < (get_or rs j d).at
rises_pairs at [] d h i j l m = absurd (omega arith)
rises_pairs at (r ∷ rs) d h zero zero l m = absurd (omega arith)
rises_pairs at (r ∷ rs) d h zero (suc j) l m = rises_all (suc r.at) rs d h.1 j (omega arith)
rises_pairs at (r ∷ rs) d h (suc i) zero l m = absurd (omega arith)
rises_pairs at (r ∷ rs) d h (suc i) (suc j) l m = rises_pairs (suc r.at) rs d h.1 i j (omega arith) (omega arith)

used_rise : (stored : ℕ) (journal : List ℕ) → RisesFrom 0 (used_records stored journal)
used_rise stored journal = by_test (is_used stored (first_head journal) (length journal))
  where
    s : Shape
    s = shape stored (first_head journal) (length journal)

    first : Place
    first = place_after s (first_head journal) 0

    by_test : (b : Bool) → RisesFrom 0 (cond b (records_from (length journal) s journal first) [])
    by_test true = rises_before 0 first.at _ (omega arith) (records_rise (length journal) s journal first)
    by_test false = tt

-- ---- the record of a page

no_record : Kept
no_record = record { page = 0; at = 0 }

-- the unit that the index names for a page is that of its last record
same_record : (es : List Entry) (kept : List Kept) (page : ℕ) → 0 < page → IndexesRecords es kept → RisesFrom 0 kept
    → ((k : ℕ) × (r : Kept) × (named_frame es page ≡ Some k) × (last_of (λ r. r.page) page kept ≡ Some r) × (r.at ≡ 8 * k))
    ⊎ ((named_frame es page ≡ None) × (last_of (λ r. r.page) page kept ≡ None))
same_record es kept page some is rising = by_place (index_at es is.pages page some is.index)
  where
    by_place : IsIndexed es is.pages page
        → ((k : ℕ) × (r : Kept) × (named_frame es page ≡ Some k) × (last_of (λ r. r.page) page kept ≡ Some r) × (r.at ≡ 8 * k))
        ⊎ ((named_frame es page ≡ None) × (last_of (λ r. r.page) page kept ≡ None))
    by_place (inl (k, l, named, here, after)) =
        let (i, r, inside, at, (rp, ra)) = is.units.named k l (omega (arith, here, some)) in
        let place : r.at ≡ 8 * k = ra in
        let same : get_or kept i no_record ≡ r = sym (any_kept kept i r inside) ∙ at in
        inl (
          k,
          get_or kept i no_record,
          named,
          last_at (λ r. r.page) no_record page i kept None inside (ap (λ (x : Kept). x.page) same ∙ rp ∙ here)
              (λ j m n z. none_later k after i (ap (λ (x : Kept). x.at) same ∙ place) j m n z),
          ap (λ (x : Kept). x.at) same ∙ place,
        )
      where
        any_kept : (xs : List Kept) (i : ℕ) (d : Kept) → i < length xs → get_or xs i d ≡ get_or xs i no_record
        any_kept [] i d l = absurd (omega arith)
        any_kept (x ∷ xs) zero d l = refl
        any_kept (x ∷ xs) (suc i) d l = any_kept xs i d (omega arith)

        none_later : (k : ℕ) → ((j : ℕ) → k < j → j < length is.pages → slice_index is.pages j ≡ page → ⊥)
            → (i : ℕ) → (get_or kept i no_record).at ≡ 8 * k
            → (j : ℕ) → i < j → j < length kept → (get_or kept j no_record).page ≡ page → ⊥
        none_later k after i place j m n z =
            let (positive, u, v, w, x) = is.units.all j no_record n in
            let lower : (get_or kept i no_record).at < (get_or kept j no_record).at = rises_pairs 0 kept no_record rising i j m n in
            after u (omega (arith, lower, place, w)) v (x ∙ z)
    by_place (inr (named, none)) = inr (
      named,
      last_none (λ r. r.page) no_record page kept None (λ j n z.
          let (positive, u, v, w, x) = is.units.all j no_record n in none u v (x ∙ z)),
    )

-- ---- a byte

same_byte : (found : JournalIndexed) (base journal : List ℕ) → IndexesRecords found.entries (used_records (stored_size base) journal)
    → (i : ℕ) → byte_through (placed (journal_pages found) (length base)) base journal i
    ≡ rolled_byte base journal found.shape.page_size (used_records (stored_size base) journal) i
same_byte found base journal is i = by_place (same_record found.entries kept (i / size + 1) (omega arith) is (used_rise (stored_size base) journal))
  where
    p : Placed
    p = placed (journal_pages found) (length base)

    size : ℕ
    size = found.shape.page_size

    kept : List Kept
    kept = used_records (stored_size base) journal

    by_place : ((k : ℕ) × (r : Kept) × (named_frame found.entries (i / size + 1) ≡ Some k)
        × (last_of (λ r. r.page) (i / size + 1) kept ≡ Some r) × (r.at ≡ 8 * k))
        ⊎ ((named_frame found.entries (i / size + 1) ≡ None) × (last_of (λ r. r.page) (i / size + 1) kept ≡ None))
        → byte_through p base journal i ≡ rolled_byte base journal size kept i
    by_place (inl (k, r, named, last, at)) =
        let place : page_start 4 8 k + i % size ≡ r.at + 4 + i % size = omega (arith, at) in
        ap (λ o. placed_byte p base journal o i) named ∙ ap (slice_index journal) place ∙ sym (ap (λ o. byte_before base journal size o i) last)
    by_place (inr (named, last)) =
        ap (λ o. placed_byte p base journal o i) named ∙ padded_whole base i ∙ sym (ap (λ o. byte_before base journal size o i) last)

-- ---- the database

pub journal_rolls_back : (there : Bool) (found : JournalIndexed) (base journal : List ℕ) → IsJournalOf (stored_size base) (Ok found) journal
    → 0 < length base → (there || not (names_super journal)) ≡ true
    → through (placed (journal_pages found) (length base)) base journal ≡ rolled_back there base journal
journal_rolls_back there found base journal (used, shaped, is) some alone =
    let e : nat_lt 0 (length base) ≡ true = grind (arith, nat_tests) in
    let t : (nat_lt 0 (length base) && ((there || not (names_super journal)) && is_used (stored_size base) (first_head journal) (length journal))) ≡ true =
    rw (e, alone, used) refl in
    rw t (map_each _ _ (range_with_len 0 (placed_len (placed (journal_pages found) (length base)))) (same_byte found base journal is)
    ∙ ap (λ (s : Shape). map (rolled_byte base journal s.page_size (used_records (stored_size base) journal)) (range_with_len 0 (s.pages * s.page_size)))
    shaped)

pub both_logs_recover : (there : Bool) (found : JournalIndexed) (index : Indexed) (base journal log : List ℕ)
    → IsJournalOf (stored_size base) (Ok found) journal → 0 < length base → (there || not (names_super journal)) ≡ true → Indexes index log → 0 < index.pages
    → 0 < placed_len (placed (journal_pages found) (length base))
    → through (placed (wal_pages index) (placed_len (placed (journal_pages found) (length base))))
    (through (placed (journal_pages found) (length base)) base journal) log ≡ recovered_by_both there base journal log
both_logs_recover there found index base journal log is some alone indexes used long =
    let p = placed (journal_pages found) (length base) in
    let len : length (through p base journal) ≡ placed_len p = through_length p base journal in
    ap (λ n. through (placed (wal_pages index) n) (through p base journal) log) (sym len)
    ∙ index_recovers index (through p base journal) log indexes used (omega (arith, len, long))
    ∙ ap (λ db. recovered db log) (journal_rolls_back there found base journal is some alone)
