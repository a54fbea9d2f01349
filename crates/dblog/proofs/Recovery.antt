-- By its index a log gives what SQLite recovers of it.
use Rattle.std.proofs.Common.{◌≡◌, ℕ, suc, zero, ◌<◌, ◌≤◌, ◌+◌, ◌*◌, ◌/◌, ◌%◌, Bool, true, false, cond, List, [], ◌∷◌, length, map, drop, get_or}
use Rattle.std.proofs.Common.{refl, sym, ap, ap₂, subst, ◌∙◌, arith, inl, inr}
use Rattle.std.specs.Prelude.{◌⊎◌, ◌==◌, ◌&&◌, Some, None, nat_lt, slice_index}
use Rattle.std.specs.List.{list_any, range_with_len}
use Rattle.std.proofs.Math.Nat.{mod-lt}
use Rattle.std.proofs.lemmas.Bool.Decides.{nat_tests}
use Rattle.std.proofs.lemmas.List.{get_or-drop, get_or-map, get_or-take, get_or_past, length-map}
use Rattle.std.proofs.lemmas.List.FromFn.{get_or-map-range_with_len, length-map-range_with_len}
use Rattle.dblog.specs.Entries.{IsIndexOf, named_frame}
use Rattle.dblog.specs.Indexes.{Indexed, Indexes}
use Rattle.dblog.specs.Placed.{Placed, byte_through, padded_byte, page_start, placed, placed_byte, through, wal_pages}
use Rattle.dblog.specs.Recovered.{byte_from, last_of, recovered, recovered_byte}
use Rattle.dblog.specs.Sums.{sums_at}
use Rattle.dblog.specs.declared.sums.Sums.{Sums}
use Rattle.dblog.specs.Wal.{has_its_sums, is_magic, is_page_size}
use Rattle.dbformat.specs.Numbers.{u32_at}
use Rattle.dblog.specs.Wal.{commits, committed, frame_at, frame_size, frames, header, is_header, is_valid}
use Rattle.dblog.specs.Wal.{page_number, page_size, stated_pages, used, valid, valid_frames, whole_frames}
use Rattle.dblog.specs.declared.entry.Entry.{Entry}
use Rattle.dblog.proofs.LastOf.{IsIndexed, index_at, last_at, last_none}

-- ---- the used frames of a log are its first ones

-- an element more, or none
front_at : (b : Bool) (f : List ℕ) (fs gs : List (List ℕ)) → ((k : ℕ) → k < length gs → (get_or gs k [] ≡ get_or fs k []) × (k < length fs))
    → (k : ℕ) → k < length (cond b (f ∷ gs) []) → (get_or (cond b (f ∷ gs) []) k [] ≡ get_or (f ∷ fs) k []) × (k < length (f ∷ fs))
front_at false f fs gs h k m = absurd (omega arith)
front_at true f fs gs h zero m = (refl, omega arith)
front_at true f fs gs h (suc k) m = let r = h k (omega arith) in (r.0, omega (arith, r.1))

valid_at : (h : List ℕ) (s : Sums) (fs : List (List ℕ)) (k : ℕ) → k < length (valid_frames h s fs)
    → (get_or (valid_frames h s fs) k [] ≡ get_or fs k []) × (k < length fs)
valid_at h s [] k l = absurd (omega arith)
valid_at h s (f ∷ fs) k l = front_at (is_valid h s f) f fs (valid_frames h (sums_at 16 f) fs) (valid_at h (sums_at 16 f) fs) k l

committed_at : (fs : List (List ℕ)) (k : ℕ) → k < length (committed fs) → (get_or (committed fs) k [] ≡ get_or fs k []) × (k < length fs)
committed_at [] k l = absurd (omega arith)
committed_at (f ∷ fs) k l = front_at (list_any commits (f ∷ fs)) f fs (committed fs) (committed_at fs) k l

used_at : (log : List ℕ) (k : ℕ) → is_header (header log) ≡ true → k < length (used log)
    → get_or (used log) k [] ≡ frame_at (frame_size (header log)) log k
used_at log k t l =
    let h = header log in
    let v : valid log ≡ valid_frames h (sums_at 24 h) (frames h log) = rw t refl in
    let a = committed_at (valid log) k l in
    let b = valid_at h (sums_at 24 h) (frames h log) k (subst (λ fs. k < length fs) v a.1) in
    let n : k < whole_frames h (length log) = omega (arith, b.1, length-map-range_with_len (frame_at (frame_size h) log) 0 (whole_frames h (length log))) in
    a.0 ∙ ap (λ fs. get_or fs k []) v ∙ b.0 ∙ get_or-map-range_with_len (frame_at (frame_size h) log) 0 (whole_frames h (length log)) k k [] n (omega arith)

-- ---- a byte

-- the frame that the index names for a page is its last one
same_last : (es : List Entry) (fs : List (List ℕ)) (page : ℕ) → 0 < page → IsIndexOf es (map page_number fs)
    → ((k : ℕ) × (k < length fs) × (named_frame es page ≡ Some k) × (last_of page_number page fs ≡ Some (get_or fs k [])))
    ⊎ ((named_frame es page ≡ None) × (last_of page_number page fs ≡ None))
same_last es fs page some is = by_place (index_at es (map page_number fs) page some is)
  where
    number : (j : ℕ) → j < length fs → slice_index (map page_number fs) j ≡ page_number (get_or fs j [])
    number j l = get_or-map page_number fs j [] 0 l

    size : length (map page_number fs) ≡ length fs
    size = length-map fs page_number

    by_place : IsIndexed es (map page_number fs) page
        → ((k : ℕ) × (k < length fs) × (named_frame es page ≡ Some k) × (last_of page_number page fs ≡ Some (get_or fs k [])))
        ⊎ ((named_frame es page ≡ None) × (last_of page_number page fs ≡ None))
    by_place (inl (k, l, named, here, after)) =
        let m : k < length fs = omega (arith, l, size) in
        inl (
          k,
          m,
          named,
          last_at page_number [] page k fs None m (sym (number k m) ∙ here)
              (λ j n o z. after j n (omega (arith, o, size)) (number j o ∙ z)),
        )
    by_place (inr (named, none)) =
        inr (named, last_none page_number [] page fs None (λ j n z. none j (omega (arith, n, size)) (number j n ∙ z)))

pub map_each : (f g : ℕ → ℕ) (xs : List ℕ) → ((x : ℕ) → f x ≡ g x) → map f xs ≡ map g xs
map_each f g [] h = refl
map_each f g (x ∷ xs) h = ap₂ (λ a b. a ∷ b) (h x) (map_each f g xs h)

-- past the end of a file there is 0
pub padded_whole : (base : List ℕ) (i : ℕ) → padded_byte (length base) base i ≡ slice_index base i
padded_whole base i = by_test (nat_lt i (length base)) refl
  where
    by_test : (b : Bool) → b ≡ nat_lt i (length base) → cond b (slice_index base i) 0 ≡ slice_index base i
    by_test true e = refl
    by_test false e = let l : length base ≤ i = grind (arith, nat_tests) in sym (get_or_past base i 0 l)

-- where nothing is a log's header nothing of it is used
header_of : (log : List ℕ) → 0 < stated_pages (used log) → is_header (header log) ≡ true
header_of log some = by_test (is_header (header log)) refl
  where
    by_test : (b : Bool) → b ≡ is_header (header log) → is_header (header log) ≡ true
    by_test true e = sym e
    by_test false e =
        let none : valid log ≡ [] = rw (sym e) refl in
        let z : stated_pages (used log) ≡ 0 = ap (λ fs. stated_pages (committed fs)) none in
        absurd (omega arith)

third : (a b c d : Bool) → (a && (b && (c && d))) ≡ true → c ≡ true
third a b true d h = refl
third true true false d h = h
third true false false d h = h
third false b false d h = h

sized : (n : ℕ) → is_page_size n ≡ true → 0 < n
sized zero h = absurd cc
sized (suc n) h = omega arith

-- a header states a size of a page
header_sized : (h : List ℕ) → is_header h ≡ true → 0 < page_size h
unfolding is_header
header_sized h t = sized (page_size h) (third (length h == 32) (is_magic (u32_at 0 h)) (is_page_size (page_size h)) (has_its_sums h) t)

-- a byte of a frame is one of the log
frame_byte : (h log : List ℕ) (k r : ℕ) → r < page_size h
    → slice_index (frame_at (frame_size h) log k) (24 + r) ≡ slice_index log (page_start 56 (24 + page_size h) k + r)
frame_byte h log k r l =
    get_or-take (frame_size h) (drop (32 + frame_size h * k) log) (24 + r) 0 (omega arith) ∙ get_or-drop (32 + frame_size h * k) log (24 + r) 0
    ∙ ap (slice_index log) (omega arith)

-- each byte is the one that is recovered
same_byte : (index : Indexed) (base log : List ℕ) → (is : Indexes index log) → (t : is_header (header log) ≡ true) → index.page_size ≡ page_size (header log)
    → 0 < page_size (header log)
    → (i : ℕ) → byte_through (placed (wal_pages index) (length base)) base log i ≡ recovered_byte base (page_size (header log)) (used log) i
same_byte index base log is t z some i =
    by_place (same_last index.entries (used log) (i / index.page_size + 1) (omega arith) is.entries)
  where
    p : Placed
    p = placed (wal_pages index) (length base)

    size : ℕ
    size = page_size (header log)

    n : ℕ
    n = i / index.page_size + 1

    last_is : last_of page_number (i / size + 1) (used log) ≡ last_of page_number n (used log)
    last_is = ap (λ m. last_of page_number (i / m + 1) (used log)) (sym z)

    by_place : ((k : ℕ) × (k < length (used log)) × (named_frame index.entries n ≡ Some k) × (last_of page_number n (used log) ≡ Some (get_or (used log) k [])))
        ⊎ ((named_frame index.entries n ≡ None) × (last_of page_number n (used log) ≡ None)) → byte_through p base log i ≡ recovered_byte base size (used log) i
    by_place (inl (k, l, named, last)) =
        ap (λ o. placed_byte p base log o i) named
        ∙ ap (λ m. slice_index log (page_start 56 (24 + m) k + i % m)) z
        ∙ sym (frame_byte (header log) log k (i % size) (mod-lt i some))
        ∙ sym (ap (λ o. byte_from base size o i) (last_is ∙ last) ∙ ap (λ f. slice_index f (24 + i % size)) (used_at log k t l))
    by_place (inr (named, last)) =
        ap (λ o. placed_byte p base log o i) named ∙ padded_whole base i ∙ sym (ap (λ o. byte_from base size o i) (last_is ∙ last))

pub index_recovers : (index : Indexed) (base log : List ℕ) → Indexes index log → 0 < index.pages → 0 < length base
    → through (placed (wal_pages index) (length base)) base log ≡ recovered base log
index_recovers index base log is some long =
    let t = header_of log (omega (arith, is.pages)) in
    let z : index.page_size ≡ page_size (header log) = is.page_size t in
    let e : (length base == 0) ≡ false = grind (arith, nat_tests) in
    let u : (stated_pages (used log) == 0) ≡ false = (let q : 0 < stated_pages (used log) = omega (arith, is.pages) in grind (arith, nat_tests)) in
    rw (e, u) (ap₂ (λ a b. map (byte_through (placed (wal_pages index) (length base)) base log) (range_with_len 0 (a * b))) is.pages z
    ∙ map_each _ _ (range_with_len 0 (stated_pages (used log) * page_size (header log))) (same_byte index base log is t z (header_sized (header log) t)))
