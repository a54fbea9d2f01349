-- The frames of a log, one after another.
use Rattle.std.proofs.Common.{◌≡◌, ℕ, ◌<◌, ◌≤◌, ◌+◌, ◌^◌, Bool, true, false, List, [], ◌∷◌, ◌++◌}
use Rattle.std.proofs.Common.{length, drop, map, refl, sym, ap, subst, ◌∙◌, arith, cond, append_assoc, append-nil}
use Rattle.std.specs.Prelude.{◌||◌, Result, Ok, Err, OnOk}
use Rattle.std.specs.List.{filter, list_any}
use Rattle.std.proofs.lemmas.List.{drop-append-le, length-append, length-drop, length_push, length-map, map-append}
use Rattle.std.proofs.lemmas.List.Folds.{list_any-append}
use Rattle.std.proofs.lemmas.List.Sums.{fold-append}
use Rattle.std.proofs.lemmas.List.Elements.{filter-append}
use Rattle.dblog.specs.Entries.{Gathers}
use Rattle.dblog.specs.Scanning.{Adds, HasRoom, LooksAt, Scanned, Scans, passed}
use Rattle.dblog.specs.Sums.{sums_at}
use Rattle.dblog.specs.Wal.{commits, committed, has_salts, is_valid, page_number, pages_after, stated_pages, valid_frames}

-- ---- the frames that are committed

committed_push_at : (b : Bool) (f : List ℕ) (fs : List (List ℕ)) → b ≡ commits f → committed (fs ++ f ∷ []) ≡ cond b (fs ++ f ∷ []) (committed fs)
committed_push_at true f [] e = rw (← e) refl
committed_push_at false f [] e = rw (← e) refl
committed_push_at true f (x ∷ xs) e =
    let some : list_any commits ((x ∷ xs) ++ f ∷ []) ≡ true = list_any-append commits (x ∷ xs) (f ∷ []) ∙ one (list_any commits (x ∷ xs)) in
    rw (some, committed_push_at true f xs e) refl
  where
    one : (b : Bool) → (b || (commits f || false)) ≡ true
    one b = rw (← e) (by_or b)
      where
        by_or : (b : Bool) → (b || true) ≡ true
        by_or true = refl
        by_or false = refl
committed_push_at false f (x ∷ xs) e =
    let same : list_any commits ((x ∷ xs) ++ f ∷ []) ≡ list_any commits (x ∷ xs) = list_any-append commits (x ∷ xs) (f ∷ [])
    ∙ none (list_any commits (x ∷ xs)) in
    rw (same, committed_push_at false f xs e) refl
  where
    none : (b : Bool) → (b || (commits f || false)) ≡ b
    none b = rw (← e) (by_or b)
      where
        by_or : (b : Bool) → (b || false) ≡ b
        by_or true = refl
        by_or false = refl

pub committed_push : (f : List ℕ) (fs : List (List ℕ)) → committed (fs ++ f ∷ []) ≡ cond (commits f) (fs ++ f ∷ []) (committed fs)
committed_push f fs = committed_push_at (commits f) f fs refl

-- ---- one frame more

filter_push : {X : Type 0} (p : X → Bool) (xs : List X) (x : X)
    → length (filter p (xs ++ x ∷ [])) ≡ cond (p x) (length (filter p xs) + 1) (length (filter p xs))
filter_push p xs x = by_test (p x) refl
  where
    by_test : (b : Bool) → b ≡ p x → length (filter p (xs ++ x ∷ [])) ≡ cond b (length (filter p xs) + 1) (length (filter p xs))
    by_test true e = ap length (filter-append p xs (x ∷ [])) ∙ rw (← e) (length_push (filter p xs) x)
    by_test false e = ap length (filter-append p xs (x ∷ [])) ∙ rw (← e) (ap length (append-nil (filter p xs)))

pub filter_length : {X : Type 0} (p : X → Bool) (xs : List X) → length (filter p xs) ≤ length xs
filter_length p [] = omega arith
filter_length p (x ∷ xs) = by_test (p x) (filter_length p xs)
  where
    by_test : (b : Bool) → length (filter p xs) ≤ length xs → length (cond b (x ∷ filter p xs) (filter p xs)) ≤ length (x ∷ xs)
    by_test true h = omega arith
    by_test false h = omega arith

stated_push : (fs : List (List ℕ)) (f : List ℕ) → stated_pages (fs ++ f ∷ []) ≡ cond (commits f) (pages_after f) (stated_pages fs)
stated_push fs f = fold-append (λ pages g. cond (commits g) (pages_after g) pages) 0 fs (f ∷ [])

pub committed_length : (fs : List (List ℕ)) → length (committed fs) ≤ length fs
committed_length [] = omega arith
committed_length (f ∷ fs) = by_test (list_any commits (f ∷ fs)) (committed_length fs)
  where
    by_test : (b : Bool) → length (committed fs) ≤ length fs → length (cond b (f ∷ committed fs) []) ≤ length (f ∷ fs)
    by_test true h = omega arith
    by_test false h = omega arith

-- all that was looked at is valid, as long as no frame was not
all_kept : (h : List ℕ) (s : Scanned) (done : List (List ℕ)) → (k : Scans h s done) → s.is_open ≡ true → done ≡ k.kept
all_kept h s done k o = k.whole ∙ ap (λ p. k.kept ++ p) (k.unbroken o) ∙ append-nil k.kept

pub scans_added : (h : List ℕ) (s t : Scanned) (f : List ℕ) (done : List (List ℕ)) → s.is_open ≡ true → is_valid h s.before f ≡ true → Adds f s t
    → Scans h s done
    → Scans h t (done ++ f ∷ [])
scans_added h s t f done o v a k = record {
  kept = k.kept ++ f ∷ [];
  passed = [];
  whole = ap (λ xs. xs ++ f ∷ []) (all_kept h s done k o) ∙ sym (append-nil (k.kept ++ f ∷ []));
  unbroken = λ e. refl;
  broken = λ e. absurd (cc (a.is_open));
  goes_on = λ more. ap (valid_frames h (sums_at 24 h)) (append_assoc done (f ∷ []) more) ∙ k.goes_on (f ∷ more)
      ∙ rw (o, v) (rw (a.is_open, o, a.before) (sym (append_assoc k.kept (f ∷ []) (valid_frames h (sums_at 16 f) more))));
  frames = omega (arith, a.frames, k.frames, length_push k.kept f);
  gathers = subst (λ ps. Gathers t.entries ps t.committed) (sym (map-append page_number k.kept (f ∷ [])))
      (a.gathers (map page_number k.kept) (length-map k.kept page_number
      ∙ sym k.frames) (omega (arith, k.committed, k.frames, committed_length k.kept)) k.gathers);
  committed = a.committed ∙ by_commit (commits f) ∙ sym (ap length (committed_push f k.kept));
  pages = a.pages ∙ ap (cond (commits f) (pages_after f)) k.pages ∙ sym (stated_push k.kept f);
  transactions = a.transactions ∙ ap (λ n. cond (commits f) (n + 1) n) k.transactions ∙ sym (filter_push commits k.kept f);
  later = a.later ∙ k.later ∙ ap (λ p. length (filter (has_salts h) (drop 1 p))) (k.unbroken o);
}
  where
    by_commit : (b : Bool) → cond b (s.frames + 1) s.committed ≡ length (cond b (k.kept ++ f ∷ []) (committed k.kept))
    by_commit true = omega (arith, k.frames, length_push k.kept f)
    by_commit false = k.committed

pub scans_passed : (h : List ℕ) (s : Scanned) (f : List ℕ) (done : List (List ℕ)) → s.is_open ≡ false → Scans h s done
    → Scans h (passed h f s) (done ++ f ∷ [])
scans_passed h s f done o k = record {
  kept = k.kept;
  passed = k.passed ++ f ∷ [];
  whole = ap (λ xs. xs ++ f ∷ []) k.whole ∙ append_assoc k.kept k.passed (f ∷ []);
  unbroken = λ e. absurd (cc);
  broken = λ e. omega (arith, length_push k.passed f);
  goes_on = λ more. ap (valid_frames h (sums_at 24 h)) (append_assoc done (f ∷ []) more) ∙ k.goes_on (f ∷ more) ∙ rw o refl;
  frames = k.frames;
  gathers = k.gathers;
  committed = k.committed;
  pages = k.pages;
  transactions = k.transactions;
  later = ap (λ n. cond (has_salts h f) (n + 1) n) k.later ∙ sym (filter_push (has_salts h) (drop 1 k.passed) f)
      ∙ sym (ap (λ p. length (filter (has_salts h) p)) (drop-append-le 1 k.passed (f ∷ []) (omega (arith, k.broken o))));
}

-- as many can be counted as there may be
pub scans_room : (h : List ℕ) (s : Scanned) (done : List (List ℕ)) (n : ℕ) → length done + n < 2 ^ 32 → Scans h s done → HasRoom n s
scans_room h s done n l k =
    let m : length k.kept + length k.passed ≡ length done = sym (ap length k.whole ∙ length-append k.kept k.passed) in
    record {
      frames = omega (arith, k.frames, m);
      transactions = omega (arith, k.transactions, m, filter_length commits k.kept);
      later = omega (arith, k.later, m, filter_length (has_salts h) (drop 1 k.passed), length-drop 1 k.passed);
    }

pub added_room : (f : List ℕ) (s t : Scanned) → Adds f s t → (n : ℕ) → HasRoom (n + 1) s → HasRoom n t
added_room f s t a n r = record {
  frames = omega (arith, a.frames, r.frames);
  transactions = by_commit (commits f) a.transactions;
  later = omega (arith, a.later, r.later);
}
  where
    by_commit : (b : Bool) → t.transactions ≡ cond b (s.transactions + 1) s.transactions → t.transactions + n < 2 ^ 32
    by_commit true e = omega (arith, e, r.transactions)
    by_commit false e = omega (arith, e, r.transactions)

pub passed_room : (h f : List ℕ) (s : Scanned) (n : ℕ) → HasRoom (n + 1) s → HasRoom n (passed h f s)
passed_room h f s n r = record { frames = omega (arith, r.frames); transactions = omega (arith, r.transactions); later = by_salts (has_salts h f) }
  where
    by_salts : (b : Bool) → cond b (s.later + 1) s.later + n < 2 ^ 32
    by_salts true = omega (arith, r.later)
    by_salts false = omega (arith, r.later)

-- one frame after others
pub looks_more : (h : List ℕ) (fs : List (List ℕ)) (f : List ℕ) (s t u : Scanned) → LooksAt h fs s t → LooksAt h (f ∷ []) t u → LooksAt h (fs ++ f ∷ []) s u
looks_more h fs f s t u a b = record {
  scans = λ done k. subst (Scans h u) (append_assoc done fs (f ∷ [])) (b.scans (done ++ fs) (a.scans done k));
  room = λ n r. b.room n (a.room (n + 1) (subst (λ m. HasRoom m s) (omega (arith, length_push fs f)) r));
}

-- what follows from a fact about a call that went well
pub on_ok : {A E : Type 0} {P Q : Type 0} (r : Result A E) → (P → Q) → OnOk r P → OnOk r Q
on_ok (Ok a) f h = f h
on_ok (Err e) f h = tt
