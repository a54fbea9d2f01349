-- A scan at the end of a log.
use Rattle.std.proofs.Common.{◌≡◌, ℕ, ◌≤◌, ◌+◌, Bool, true, false, List, [], ◌∷◌, ◌++◌}
use Rattle.std.proofs.Common.{length, take, drop, map, refl, sym, ap, subst, ◌∙◌, arith, cond, append-nil}
use Rattle.std.specs.Prelude.{Option, ◌||◌}
use Rattle.std.specs.List.{filter, fold, list_any}
use Rattle.std.proofs.lemmas.List.{drop-drop, drop_at, length-map, take-map}
use Rattle.dblog.specs.Entries.{Gathers, IsIndexOf}
use Rattle.dblog.specs.Indexes.{IndexesFrames, broken_at}
use Rattle.dblog.specs.Scanning.{Scanned, Scans}
use Rattle.dblog.specs.Sums.{sums_at}
use Rattle.dblog.specs.Wal.{commits, committed, has_salts, page_number, page_size, pages_after, stated_pages, valid_frames}
use Rattle.dblog.specs.declared.entry.Entry.{Entry}
use Rattle.dblog.specs.declared.index.Counts.{Counts}
use Rattle.dblog.proofs.Scans.{committed_length}

-- the frames that are committed are the first of all
pub committed_front : (fs : List (List ℕ)) → take (length (committed fs)) fs ≡ committed fs
committed_front [] = refl
committed_front (f ∷ fs) = by_test (list_any commits (f ∷ fs)) (committed_front fs)
  where
    by_test : (b : Bool) → take (length (committed fs)) fs ≡ committed fs
        → take (length (cond b (f ∷ committed fs) [])) (f ∷ fs) ≡ cond b (f ∷ committed fs) []
    by_test true h = ap (λ xs. f ∷ xs) h
    by_test false h = refl

last_pages : ℕ → List (List ℕ) → ℕ
last_pages n fs = fold (λ pages f. cond (commits f) (pages_after f) pages) n fs

or_false : (a b : Bool) → (a || b) ≡ false → (a ≡ false) × (b ≡ false)
or_false true b h = absurd cc
or_false false b h = (refl, h)

none_stated : (n : ℕ) (fs : List (List ℕ)) → list_any commits fs ≡ false → last_pages n fs ≡ n
unfolding last_pages
none_stated n [] h = refl
none_stated n (f ∷ fs) h = let k = or_false (commits f) (list_any commits fs) h in rw k.0 (none_stated n fs k.1)

committed_pages_from : (n : ℕ) (fs : List (List ℕ)) → last_pages n (committed fs) ≡ last_pages n fs
unfolding last_pages
committed_pages_from n [] = refl
committed_pages_from n (f ∷ fs) = by_test (list_any commits (f ∷ fs)) refl (committed_pages_from (cond (commits f) (pages_after f) n) fs)
  where
    by_test : (b : Bool) → b ≡ list_any commits (f ∷ fs)
        → last_pages (cond (commits f) (pages_after f) n) (committed fs) ≡ last_pages (cond (commits f) (pages_after f) n) fs
        → last_pages n (cond b (f ∷ committed fs) []) ≡ last_pages n (f ∷ fs)
    by_test true e h = h
    by_test false e h = sym (none_stated n (f ∷ fs) (sym e))

-- the last commit states the pages of the committed frames
pub committed_pages : (fs : List (List ℕ)) → stated_pages (committed fs) ≡ stated_pages fs
unfolding last_pages
committed_pages fs = committed_pages_from 0 fs

-- the valid frames of what was looked at
pub kept_valid : (h : List ℕ) (s : Scanned) (done : List (List ℕ)) → (k : Scans h s done) → valid_frames h (sums_at 24 h) done ≡ k.kept
kept_valid h s done k = ap (valid_frames h (sums_at 24 h)) (sym (append-nil done)) ∙ k.goes_on [] ∙ by_open s.is_open
  where
    by_open : (b : Bool) → cond b (k.kept ++ []) k.kept ≡ k.kept
    by_open true = append-nil k.kept
    by_open false = refl

abbrev made : ℕ → ℕ → ℕ → ℕ → Option ℕ → Counts
made a b c d e = record { frames = a; committed = b; transactions = c; later = d; broken = e }

same_counts : (a b c d p q r s : ℕ) (e t : Option ℕ) → a ≡ p → b ≡ q → c ≡ r → d ≡ s → e ≡ t → made a b c d e ≡ made p q r s t
same_counts a b c d p q r s e t h i j k l =
    ap (λ x. made x b c d e) h ∙ ap (λ x. made p x c d e) i ∙ ap (λ x. made p q x d e) j ∙ ap (λ x. made p q r x e) k ∙ ap (made p q r s) l

pub finished : (h : List ℕ) (len : ℕ) (s : Scanned) (entries : List Entry) (broken : Option ℕ) (done : List (List ℕ))
    → ((pages : List ℕ) → s.committed ≤ length pages → Gathers s.entries pages s.committed → IsIndexOf entries (take s.committed pages))
    → broken ≡ broken_at h s.frames len → Scans h s done
    → IndexesFrames h len (record {
      page_size = page_size h;
      pages = s.pages;
      entries = entries;
      counts = record { frames = s.frames; committed = s.committed; transactions = s.transactions; later = s.later; broken = broken };
    }) done
finished h len s entries broken done f b k =
    let v = kept_valid h s done k in
    let rest : drop (length k.kept + 1) done ≡ drop 1 k.passed =
    sym (drop-drop 1 (length k.kept) done) ∙ ap (λ d. drop 1 (drop (length k.kept) d)) k.whole ∙ ap (drop 1) (drop_at k.kept k.passed (length k.kept) refl) in
    record {
      page_size = refl;
      pages = k.pages ∙ sym (committed_pages k.kept) ∙ ap (λ g. stated_pages (committed g)) (sym v);
      entries = subst (λ g. IsIndexOf entries (map page_number (committed g))) (sym v)
          (subst (IsIndexOf entries) (take-map page_number s.committed k.kept ∙ ap (λ n. map page_number (take n k.kept)) k.committed
          ∙ ap (map page_number) (committed_front k.kept))
          (f (map page_number k.kept) (omega (arith, length-map k.kept page_number, k.committed, committed_length k.kept)) k.gathers));
      counts = same_counts _ _ _ _ _ _ _ _ _ _ (k.frames ∙ ap length (sym v)) (k.committed ∙ ap (λ g. length (committed g)) (sym v))
          (k.transactions ∙ ap (λ g. length (filter commits g)) (sym v))
          (k.later ∙ ap (λ p. length (filter (has_salts h) p)) (sym rest) ∙ ap (λ g. length (filter (has_salts h) (drop (length g + 1) done))) (sym v))
          (b ∙ ap (λ n. broken_at h n len) (k.frames ∙ ap length (sym v)));
    }
