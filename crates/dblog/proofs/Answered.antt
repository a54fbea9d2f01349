-- What the reader of a log answers is right for each log that it may have read.
use Rattle.std.proofs.Common.{◌≡◌, ℕ, suc, zero, ◌<◌, ◌≤◌, ◌+◌, ◌-◌, ◌*◌, ◌/◌, true, false, List, []}
use Rattle.std.proofs.Common.{◌∷◌, ◌++◌, length, take, drop, map, get_or, refl, sym, ap, subst, ◌∙◌, arith, cond, inl, inr}
use Rattle.std.specs.Prelude.{◌==◌, IfSome, Result, Ok, Err}
use Rattle.std.specs.List.{All, concat}
use Rattle.std.proofs.Math.Nat.{div-mul-le_self}
use Rattle.std.proofs.lemmas.Bool.Decides.{nat_tests}
use Rattle.std.proofs.lemmas.List.{drop-drop, drop-take, drop_at, length-append, length-take, take-take, take_at}
use Rattle.std.proofs.lemmas.List.Elements.{All-head, All-tail}
use Rattle.std.proofs.lemmas.List.FromFn.{fill_by_all}
use Rattle.dbsource.specs.Answers.{IsRangeOf, Lengths, Step, failed, given}
use Rattle.dbformat.specs.Log.{range}
use Rattle.dbsource.specs.Failures.{failures_after, one_more}
use Rattle.dbsource.specs.Sources.{SourceState}
use Rattle.dbsource.proofs.Headers.{beginning, told_len, told_len_is}
use Rattle.dbsource.proofs.Told.{if_told, if_told_both}
use Rattle.dblog.specs.Entries.{IsIndexOf}
use Rattle.dblog.specs.Indexes.{Indexed, Indexes, IndexesFrames, counts_of, no_counts}
use Rattle.dblog.specs.Reading.{IsAnswerFor, Reads, ReadsFrames, ReadsLog, ReadsRest, has_failed, is_failed}
use Rattle.dblog.specs.Scanning.{Scanned, Scans}
use Rattle.dblog.specs.Sums.{sums_at}
use Rattle.dblog.specs.Wal.{committed, frame_at, frame_size, frames, header, is_header, known_version}
use Rattle.dblog.specs.Wal.{page_number, stated_pages, valid, valid_frames, version, whole_frames}
use Rattle.dblog.specs.declared.error.LogError.{LogError}
use Rattle.dblog.specs.declared.error.LogError.TheVariants.{OutOfMemory, ReadFailed, Version}
use Rattle.dblog.proofs.Pieces.{length_concat, times_le}
use Rattle.dblog.proofs.ReadSteps.{range_back, range_front, reads_failed, reads_given, reads_join, reads_none}

-- ---- the frames of a log

frame_of_row : (size : ℕ) (fs : List (List ℕ)) (k : ℕ) → All (λ f. length f ≡ size) fs → k < length fs
    → get_or fs k [] ≡ take size (drop (size * k) (concat fs))
frame_of_row size [] k h l = absurd (omega arith)
frame_of_row size (f ∷ fs) zero h l =
    let z : size * 0 ≡ 0 = omega arith in
    sym (take_at f (concat fs) size (All-head (λ g. length g ≡ size) f fs h)) ∙ sym (ap (λ n. take size (drop n (f ++ concat fs))) z)
frame_of_row size (f ∷ fs) (suc k) h l =
    let m : size * suc k ≡ size + size * k = (let e : suc k ≡ k + 1 = omega arith in rw e (omega arith)) in
    frame_of_row size fs k (All-tail (λ g. length g ≡ size) f fs h) (omega arith)
    ∙ ap (λ xs. take size (drop (size * k) xs)) (sym (drop_at f (concat fs) size (All-head (λ g. length g ≡ size) f fs h)))
    ∙ ap (take size) (drop-drop (size * k) size (f ++ concat fs)) ∙ sym (ap (λ n. take size (drop n (f ++ concat fs))) m)

row_place : (size k n : ℕ) → k < n → size * k + size ≤ n * size
row_place size k n l = let m = times_le (k + 1) n size (omega arith) in omega (arith, m)

-- a row of frames that stands after the header
frames_are : (size : ℕ) (file : List ℕ) (fs : List (List ℕ)) → All (λ f. length f ≡ size) fs → IsRangeOf file 32 (concat fs) → (k : ℕ) → k < length fs
    → get_or fs k [] ≡ frame_at size file k
frames_are size file fs h r k l =
    let total : length (concat fs) ≡ length fs * size = length_concat size fs h in
    let place : size * k + size ≤ length (concat fs) = (let p = row_place size k (length fs) l in omega (arith, total, p)) in
    let rest = length (concat fs) - size * k in
    let split : length (concat fs) ≡ size * k + rest = omega arith in
    frame_of_row size fs k h l ∙ ap (λ xs. take size (drop (size * k) xs)) (r.1 ∙ ap (λ n. take n (drop 32 file)) split)
    ∙ ap (take size) (drop-take (size * k) rest (drop 32 file) ∙ ap (take rest) (drop-drop (size * k) 32 file))
    ∙ take-take size rest (drop (32 + size * k) file) (omega arith)

pub all_frames : (h file : List ℕ) (fs : List (List ℕ)) → All (λ f. length f ≡ frame_size h) fs → IsRangeOf file 32 (concat fs)
    → length fs ≡ whole_frames h (length file)
    → fs ≡ frames h file
all_frames h file fs s r l =
    fill_by_all (frame_at (frame_size h) file) fs (whole_frames h (length file)) [] l (λ k m. frames_are (frame_size h) file fs s r k (omega (arith, l, m)))

-- ---- what is answered

no_entries : IsIndexOf [] []
no_entries = record { rising = λ i j d l m. absurd (omega arith); names = λ k d l. absurd (omega arith); last = λ k l p. absurd (omega arith) }

pub no_log : (file : List ℕ) → is_header (header file) ≡ false
    → IsAnswerFor (Ok (record { page_size = 0; pages = 0; entries = []; counts = no_counts })) file
no_log file e =
    let none : valid file ≡ [] = rw e refl in (
      record {
        page_size = λ t. absurd (cc);
        pages = ap (λ fs. stated_pages (committed fs)) (sym none);
        entries = subst (λ fs. IsIndexOf [] (map page_number (committed fs))) (sym none) no_entries;
        counts = rw e refl;
      },
      λ t. absurd (cc),
    )

-- too few bytes are no header
pub short_no_header : (h : List ℕ) → length h < 32 → is_header h ≡ false
unfolding is_header
short_no_header h l = let e : (length h == 32) ≡ false = grind (arith, nat_tests) in rw e refl

pub indexes_from : (file : List ℕ) (index : Indexed) → is_header (header file) ≡ true
    → IndexesFrames (header file) (length file) index (frames (header file) file) → Indexes index file
indexes_from file index t k =
    let v : valid file ≡ valid_frames (header file) (sums_at 24 (header file)) (frames (header file) file) = rw t refl in
    record {
      page_size = λ z. k.page_size;
      pages = k.pages ∙ ap (λ fs. stated_pages (committed fs)) (sym v);
      entries = subst (λ fs. IsIndexOf index.entries (map page_number (committed fs))) (sym v) k.entries;
      counts = k.counts ∙ ap (counts_of (header file) (length file) (frames (header file) file)) (sym v) ∙ sym (rw t refl);
    }

other_error : (e : LogError) → ¬ (e ≡ Version) → (file : List ℕ) → IsAnswerFor (Err e) file
other_error ReadFailed n file = tt
other_error (OutOfMemory refused) n file = tt
other_error Version n file = absurd (n refl)

pub differs : (n m : ℕ) → false ≡ (n == m) → n ≡ m → ⊥
differs n m e f = grind (arith, nat_tests)

pub same_number : (n m : ℕ) → true ≡ (n == m) → n ≡ m
same_number n m e = grind (arith, nat_tests)

-- whole frames have room after the header
frames_fit : (h : List ℕ) (len : ℕ) → 32 ≤ len → 32 + whole_frames h len * frame_size h ≤ len
frames_fit h len l =
    let a = div-mul-le_self (len - 32) (frame_size h) in
    let b = times_le (whole_frames h len) ((len - 32) / frame_size h) (frame_size h) (omega arith) in
    omega (arith, a, b)

-- ---- what comes after the header

pub rest_none : {step : Step} (h : List ℕ) (len : ℕ) (s : SourceState) (r : Result Indexed LogError) → 32 ≤ len → has_failed r ≡ false
    → ((file : List ℕ) → header file ≡ h → IsAnswerFor r file) → ReadsRest step h len r s s
rest_none {step = step} h len s r l f q = record {
  seen = [];
  reads = let none = reads_none {step = step} 32 s s refl refl refl in record {
    log = none.log;
    leads = none.leads;
    told = none.told;
    tells = none.tells;
    end = 32;
    in_order = none.in_order;
    ends = λ z. omega arith;
    is = none.is;
    fits = none.fits;
    count = sym (ap (λ b. cond b (one_more s.failures) s.failures) f);
  };
  within = l;
  short = omega arith;
  files = λ file n e k. q file e;
}

pub rest_failed : {step : Step} {P : List (List ℕ) → Scanned → Type 0} (h : List ℕ) (len : ℕ) (e : LogError) (s t : SourceState) → 32 ≤ len
    → ReadsFrames {X = Scanned} step (frame_size h) 32 (whole_frames h len) (Err e) s t P → ReadsRest step h len (Err e) s t
rest_failed h len e s t l k =
    let fit = frames_fit h len l in
    let m = times_le (length k.frames) (whole_frames h len) (frame_size h) k.most in
    record {
      seen = concat k.frames;
      reads = k.reads;
      within = omega (arith, k.within, fit);
      short = omega (arith, length_concat (frame_size h) k.frames k.sized, fit, m);
      files = λ file n z r. other_error e k.unversioned file;
    }

pub rest_read : {step : Step} (h : List ℕ) (len : ℕ) (index : Indexed) (scan : Scanned) (s t : SourceState) → 32 ≤ len → is_header h ≡ true
    → version h ≡ known_version
    → ((done : List (List ℕ)) → Scans h scan done → IndexesFrames h len index done)
    → ReadsFrames {X = Scanned} step (frame_size h) 32 (whole_frames h len) (Ok scan) s t (λ fs u. Scans h u fs) → ReadsRest step h len (Ok index) s t
rest_read h len index scan s t l b v f k =
    let fit = frames_fit h len l in
    let m = times_le (length k.frames) (whole_frames h len) (frame_size h) k.most in
    record {
      seen = concat k.frames;
      reads = k.reads;
      within = omega (arith, k.within, fit);
      short = omega (arith, length_concat (frame_size h) k.frames k.sized, fit, m);
      files = λ file n z r. (indexes_from file index (ap is_header z ∙ b) (of_file file n z r), λ i. ap version z ∙ v);
    }
  where
    of_file : (file : List ℕ) → length file ≡ len → header file ≡ h → IsRangeOf file 32 (concat k.frames)
        → IndexesFrames (header file) (length file) index (frames (header file) file)
    of_file file n z r =
        let same : k.frames ≡ frames h file = all_frames h file k.frames k.sized r (k.all ∙ ap (whole_frames h) (sym n)) in
        subst (λ x. IndexesFrames x (length file) index (frames x file)) (sym z)
        (subst (λ m. IndexesFrames h m index (frames h file)) (sym n) (subst (IndexesFrames h len index) same (f k.frames k.holds)))

-- ---- all of it

counted : (r : Result Indexed LogError) (n : ℕ) → cond (has_failed r) (one_more n) n ≡ failures_after is_failed r n
counted (Ok x) n = refl
counted (Err e) n = refl

pub log_read : {step : Step} {lengths : Lengths} (len : ℕ) (seen : List ℕ) (r : Result Indexed LogError) (s t : SourceState)
    → (k : Reads step 0 (has_failed r) s t seen)
    → k.end ≤ len → length seen ≤ len → ((file : List ℕ) → length file ≡ len → IsRangeOf file 0 seen → IsAnswerFor r file)
    → lengths s.trail len → IfSome s.bytes (λ file. len ≡ length file) → ReadsLog step lengths r s t
log_read len seen r s t k e l q a n = record {
  len = len;
  log = k.log;
  leads = k.leads;
  told = k.told;
  answered = inl a;
  end = k.end;
  in_order = k.in_order;
  within = e;
  there_is = let f = beginning seen len l in (f.0, f.1, k.fits f.0 f.2);
  files = λ file m f. q file m (k.is file (omega arith) f);
  tells = if_told_both s.bytes (λ file m f. (sym m, f)) n k.tells;
  count = k.count ∙ counted r s.failures;
}

-- the length was not answered
pub log_unanswered : {step : Step} {lengths : Lengths} (s t : SourceState) → t.bytes ≡ s.bytes → t.trail ≡ s.trail → t.failures ≡ one_more s.failures
    → ReadsLog step lengths (Err ReadFailed) s t
log_unanswered s t b e c = record {
  len = told_len s.bytes;
  log = [];
  leads = e;
  told = b;
  answered = inr (refl, refl);
  end = 0;
  in_order = refl;
  within = omega arith;
  there_is = let f = beginning [] (told_len s.bytes) (omega arith) in (f.0, f.1, tt);
  files = λ file m f. tt;
  tells = if_told s.bytes (λ file m. (m, tt)) (told_len_is s.bytes);
  count = c;
}

-- there is no whole header
pub log_short : {step : Step} {lengths : Lengths} (len : ℕ) (s t : SourceState) → t.bytes ≡ s.bytes → t.trail ≡ s.trail → t.failures ≡ s.failures → len < 32
    → lengths s.trail len → IfSome s.bytes (λ file. len ≡ length file)
    → ReadsLog step lengths (Ok (record { page_size = 0; pages = 0; entries = []; counts = no_counts })) s t
log_short len s t b e c l a n = log_read len [] (Ok (record { page_size = 0; pages = 0; entries = []; counts = no_counts })) s t (reads_none 0 s t b e c)
    (omega arith) (omega arith) (λ file m r. no_log file (short_no_header (header file) (omega (arith, length-take 32 file, m)))) a n

-- the header was not read
pub log_headless : {step : Step} {lengths : Lengths} (len : ℕ) (buf : List ℕ) (s m t : SourceState) → length buf ≡ 32 → 32 ≤ len
    → m.bytes ≡ s.bytes → m.trail ≡ s.trail → m.failures ≡ s.failures
    → t.bytes ≡ m.bytes → step m.trail (failed (range 0 (length buf))) t.trail → t.failures ≡ one_more m.failures
    → lengths s.trail len → IfSome s.bytes (λ file. len ≡ length file) → ReadsLog step lengths (Err ReadFailed) s t
log_headless {step = step} len buf s m t w l b e c b' e' c' a n = log_read len [] (Err ReadFailed) s t
    (reads_failed 0 buf s t (omega (arith, w)) (b' ∙ b) (subst (λ x. step x (failed (range 0 (length buf))) t.trail) e e') (c' ∙ ap one_more c))
    (omega (arith, w)) (omega arith) (λ file z r. tt) a n

-- the header was read, and then the rest
pub log_of_rest : {step : Step} {lengths : Lengths} (len : ℕ) (h : List ℕ) (r : Result Indexed LogError) (s m i t : SourceState) → length h ≡ 32
    → m.bytes ≡ s.bytes → m.trail ≡ s.trail → m.failures ≡ s.failures
    → i.bytes ≡ m.bytes → step m.trail (given 0 h) i.trail → i.failures ≡ m.failures → IfSome m.bytes (λ file. IsRangeOf file 0 h)
    → ReadsRest step h len r i t
    → lengths s.trail len → IfSome s.bytes (λ file. len ≡ length file) → ReadsLog step lengths r s t
log_of_rest {step = step} len h r s m i t w b e c b' e' c' k rest a n =
    let first : Reads step 0 false s i h = reads_given 0 h h s i refl (omega (arith, w)) (b' ∙ b) (subst (λ x. step x (given 0 h) i.trail) e e') (c' ∙ c)
    (subst (λ o. IfSome o (λ file. IsRangeOf file 0 h)) b k) in
    log_read len (h ++ rest.seen) r s t (reads_join h rest.seen (omega (arith, w)) first rest.reads) rest.within
    (omega (arith, length-append h rest.seen, w, rest.short))
    (λ file z x. rest.files file z (sym ((range_front file 0 h rest.seen x).1 ∙ ap (λ n. take n file) w))
    (subst (λ at. IsRangeOf file at rest.seen) (let e : 0 + length h ≡ 32 = omega (arith, w) in e) (range_back file 0 h rest.seen x))) a n
