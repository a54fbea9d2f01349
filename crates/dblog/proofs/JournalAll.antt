-- All of a journal.
use Rattle.std.proofs.Common.{◌≡◌, ℕ, ◌<◌, ◌≤◌, ◌+◌, true, false, List, [], ◌++◌, length, take, refl, sym, ap, subst, ◌∙◌, arith, cond, inl, inr}
use Rattle.std.specs.Prelude.{◌&&◌, ◌^◌, nat_le, nat_lt, IfSome, IfErr, IfOk, Result, Ok, Err}
use Rattle.std.proofs.lemmas.Bool.Decides.{nat_tests}
use Rattle.std.proofs.lemmas.List.{length-append}
use Rattle.dbformat.specs.Log.{range}
use Rattle.dbsource.specs.Answers.{IsRangeOf, Lengths, Step, failed, given}
use Rattle.dbsource.specs.Failures.{failures_after, one_more}
use Rattle.dbsource.specs.Sources.{SourceState}
use Rattle.dbsource.proofs.Headers.{beginning, told_len, told_len_is}
use Rattle.dbsource.proofs.Told.{if_told, if_told_both}
use Rattle.dblog.specs.Journal.{cold_by, first_head, has_magic, is_shape, is_used, place_after, records_from, shape, used_records, why_cold}
use Rattle.dblog.specs.JournalReading.{IndexesRecords, IsJournalOf, JournalIndexed, ReadsAfterHead, ReadsJournal, ReadsRecords, has_failed, is_failed}
use Rattle.dblog.specs.Reading.{Reads}
use Rattle.dblog.specs.declared.cold.Cold.{Cold}
use Rattle.dblog.specs.declared.cold.Cold.TheVariants.{Short}
use Rattle.dblog.specs.declared.entry.Entry.{Entry}
use Rattle.dblog.specs.declared.journal_error.JournalError.{JournalError}
use Rattle.dblog.specs.declared.journal_error.JournalError.TheVariants.{ReadFailed, TooLong}
use Rattle.dblog.specs.declared.journal.Shape.{Shape}
use Rattle.dblog.proofs.ReadSteps.{range_back, range_front, reads_failed, reads_given, reads_join, reads_none}

used_test : (stored : ℕ) (h : List ℕ) (len : ℕ) → 512 ≤ len → is_used stored h len ≡ (has_magic h && is_shape (shape stored h len))
used_test stored h len l = let e : nat_le 512 len ≡ true = grind (arith, nat_tests) in rw e refl

short_unused : (stored : ℕ) (h : List ℕ) (len : ℕ) → len < 512 → is_used stored h len ≡ false
short_unused stored h len l = let e : nat_le 512 len ≡ false = grind (arith, nat_tests) in rw e refl

used_of : (stored len : ℕ) (h file : List ℕ) → length file ≡ len → first_head file ≡ h → is_used stored (first_head file) (length file) ≡ is_used stored h len
used_of stored len h file n z = ap (λ x. is_used stored x (length file)) z ∙ ap (λ m. is_used stored h m) n

short_why : (h : List ℕ) (len : ℕ) → len < 512 → why_cold h len ≡ Short
short_why h len l = let e : nat_lt len 512 ≡ true = grind (arith, nat_tests) in rw e refl

head_why : (h : List ℕ) (len : ℕ) → 512 ≤ len → why_cold h len ≡ cold_by h
head_why h len l = let e : nat_lt len 512 ≡ false = grind (arith, nat_tests) in rw e refl

why_of : (len : ℕ) (h file : List ℕ) → length file ≡ len → first_head file ≡ h → why_cold (first_head file) (length file) ≡ why_cold h len
why_of len h file n z = ap (λ x. why_cold x (length file)) z ∙ ap (λ m. why_cold h m) n

pub after_none : {step : Step} (h : List ℕ) (len stored : ℕ) (old : SourceState) → 512 ≤ len → (has_magic h && is_shape (shape stored h len)) ≡ false
    → ReadsAfterHead step h len stored (Ok (Err (cold_by h))) old old
after_none {step = step} h len stored old l e = record {
  seen = [];
  reads = reads_none {step = step} 28 old old refl refl refl;
  within = omega (arith, l);
  short = omega (arith, l);
  files = λ file n z r. (used_of stored len h file n z ∙ used_test stored h len l ∙ e, sym (why_of len h file n z ∙ head_why h len l));
  unmeasured = tt;
}

pub after_failed : {step : Step} {X : Type 0} (entries : X → List Entry) (h : List ℕ) (len stored : ℕ) (e : JournalError) (old new : SourceState)
    → ReadsRecords {X = X} step (shape stored h len) h (Err e) entries old new → ReadsAfterHead step h len stored (Err e) old new
after_failed entries h len stored e old new k = record {
  seen = k.seen;
  reads = k.reads;
  within = k.within;
  short = k.short;
  files = λ file n z r. tt;
  unmeasured = k.unmeasured;
}

pub after_read : {step : Step} {X : Type 0} (entries : X → List Entry) (x : X) (h : List ℕ) (len stored : ℕ) (old new : SourceState) → 512 ≤ len
    → (has_magic h && is_shape (shape stored h len)) ≡ true
    → ReadsRecords {X = X} step (shape stored h len) h (Ok x) entries old new
    → ReadsAfterHead step h len stored (Ok (Ok (record { shape = shape stored h len; entries = entries x }))) old new
after_read entries x h len stored old new l e k = record {
  seen = k.seen;
  reads = k.reads;
  within = k.within;
  short = k.short;
  files = λ file n z r. (used file n z, same file n z, subst (IndexesRecords (entries x)) (sym (records file n z)) (k.indexes file n r));
  unmeasured = tt;
}
  where
    used : (file : List ℕ) → length file ≡ len → first_head file ≡ h → is_used stored (first_head file) (length file) ≡ true
    used file n z = used_of stored len h file n z ∙ used_test stored h len l ∙ e

    same : (file : List ℕ) → length file ≡ len → first_head file ≡ h → shape stored h len ≡ shape stored (first_head file) (length file)
    same file n z = ap (λ m. shape stored h m) (sym n) ∙ ap (λ y. shape stored y (length file)) (sym z)

    records : (file : List ℕ) → length file ≡ len → first_head file ≡ h
        → used_records stored file ≡ records_from len (shape stored h len) file (place_after (shape stored h len) h 0)
    records file n z =
        ap (λ b. cond b (records_from (length file) (shape stored (first_head file) (length file)) file
        (place_after (shape stored (first_head file) (length file)) (first_head file) 0)) []) (used file n z)
        ∙ ap (λ y. records_from (length file) (shape stored y (length file)) file (place_after (shape stored y (length file)) y 0)) z
        ∙ ap (λ m. records_from m (shape stored h m) file (place_after (shape stored h m) h 0)) n

pub failed_after : {step : Step} {X : Type 0} (entries : X → List Entry) (s : Shape) (h : List ℕ) (len stored : ℕ) (e : JournalError) (old new : SourceState)
    → s ≡ shape stored h len → ReadsRecords {X = X} step s h (Err e) entries old new → ReadsAfterHead step h len stored (Err e) old new
failed_after {step = step} {X = X} entries s h len stored e old new z k =
    after_failed entries h len stored e old new (subst (λ x. ReadsRecords {X = X} step x h (Err e) entries old new) z k)

pub read_after : {step : Step} {X : Type 0} (entries : X → List Entry) (x : X) (s : Shape) (h : List ℕ) (len stored : ℕ) (old new : SourceState) → 512 ≤ len
    → s ≡ shape stored h len → (has_magic h && is_shape s) ≡ true
    → ReadsRecords {X = X} step s h (Ok x) entries old new
    → ReadsAfterHead step h len stored (Ok (Ok (record { shape = s; entries = entries x }))) old new
read_after {step = step} {X = X} entries x s h len stored old new l z e k =
    subst (λ y. ReadsAfterHead step h len stored (Ok (Ok (record { shape = y; entries = entries x }))) old new) (sym z)
    (after_read entries x h len stored old new l (subst (λ y. (has_magic h && is_shape y) ≡ true) z e)
    (subst (λ y. ReadsRecords {X = X} step y h (Ok x) entries old new) z k))

pub none_after : {step : Step} (s : Shape) (h : List ℕ) (len stored : ℕ) (why : Cold) (old : SourceState) → 512 ≤ len → s ≡ shape stored h len
    → (has_magic h && is_shape s) ≡ false → why ≡ cold_by h → ReadsAfterHead step h len stored (Ok (Err why)) old old
none_after {step = step} s h len stored why old l z e w = subst (λ y. ReadsAfterHead step h len stored (Ok (Err y)) old old) (sym w)
    (after_none h len stored old l (subst (λ y. (has_magic h && is_shape y) ≡ false) z e))

-- ---- the whole

counted : (r : Result (Result JournalIndexed Cold) JournalError) (n : ℕ) → cond (has_failed r) (one_more n) n ≡ failures_after is_failed r n
counted (Ok x) n = refl
counted (Err e) n = refl

pub journal_read : {step : Step} {lengths : Lengths} (len stored : ℕ) (seen : List ℕ) (r : Result (Result JournalIndexed Cold) JournalError) (s t : SourceState)
    → (k : Reads step 0 (has_failed r) s t seen)
    → k.end ≤ len → length seen ≤ len → ((file : List ℕ) → length file ≡ len → IsRangeOf file 0 seen → IfOk r (λ found. IsJournalOf stored found file))
    → IfErr r (λ e. e ≡ TooLong → 2 ^ 35 ≤ len)
    → lengths s.trail len → IfSome s.bytes (λ file. len ≡ length file) → ReadsJournal step lengths stored r s t
journal_read len stored seen r s t k e l q o a n = record {
  len = len;
  log = k.log;
  leads = k.leads;
  told = k.told;
  answered = inl a;
  end = k.end;
  in_order = k.in_order;
  within = e;
  there_is = let f = beginning seen len l in (f.0, f.1, k.fits f.0 f.2);
  files = λ file m f. q file m (k.is file (omega arith) f);
  tells = if_told_both s.bytes (λ file m f. (sym m, f)) n k.tells;
  long = o;
  count = k.count ∙ counted r s.failures;
}

-- the length was not answered
pub journal_unanswered : {step : Step} {lengths : Lengths} (stored : ℕ) (s t : SourceState) → t.bytes ≡ s.bytes → t.trail ≡ s.trail
    → t.failures ≡ one_more s.failures → ReadsJournal step lengths stored (Err ReadFailed) s t
journal_unanswered stored s t b e c = record {
  len = told_len s.bytes;
  log = [];
  leads = e;
  told = b;
  answered = inr (refl, refl);
  end = 0;
  in_order = refl;
  within = omega arith;
  there_is = let f = beginning [] (told_len s.bytes) (omega arith) in (f.0, f.1, tt);
  files = λ file m f. tt;
  tells = if_told s.bytes (λ file m. (m, tt)) (told_len_is s.bytes);
  long = λ e. absurd cc;
  count = c;
}

pub journal_short : {step : Step} {lengths : Lengths} (len stored : ℕ) (s t : SourceState) → t.bytes ≡ s.bytes → t.trail ≡ s.trail → t.failures ≡ s.failures
    → len < 512 → lengths s.trail len → IfSome s.bytes (λ file. len ≡ length file) → ReadsJournal step lengths stored (Ok (Err Short)) s t
journal_short len stored s t b e c l a n = journal_read len stored [] (Ok (Err Short)) s t (reads_none 0 s t b e c) (omega arith) (omega arith)
    (λ file m r. (
      ap (is_used stored (first_head file)) m ∙ short_unused stored (first_head file) len l,
      sym (ap (why_cold (first_head file)) m ∙ short_why (first_head file) len l),
    )) tt a n

pub journal_long : {step : Step} {lengths : Lengths} (len stored : ℕ) (s t : SourceState) → t.bytes ≡ s.bytes → t.trail ≡ s.trail → t.failures ≡ s.failures
    → 2 ^ 35 ≤ len → lengths s.trail len → IfSome s.bytes (λ file. len ≡ length file) → ReadsJournal step lengths stored (Err TooLong) s t
journal_long len stored s t b e c l a n = journal_read len stored [] (Err TooLong) s t (reads_none 0 s t b e c) (omega arith) (omega arith)
    (λ file m r. tt) (λ e. l) a n

pub journal_headless : {step : Step} {lengths : Lengths} (len stored : ℕ) (buf : List ℕ) (s m t : SourceState) → length buf ≡ 28 → 512 ≤ len
    → m.bytes ≡ s.bytes → m.trail ≡ s.trail → m.failures ≡ s.failures
    → t.bytes ≡ m.bytes → step m.trail (failed (range 0 (length buf))) t.trail → t.failures ≡ one_more m.failures
    → lengths s.trail len → IfSome s.bytes (λ file. len ≡ length file) → ReadsJournal step lengths stored (Err ReadFailed) s t
journal_headless {step = step} len stored buf s m t w l b e c b' e' c' a n = journal_read len stored [] (Err ReadFailed) s t
    (reads_failed 0 buf s t (omega (arith, w)) (b' ∙ b) (subst (λ x. step x (failed (range 0 (length buf))) t.trail) e e') (c' ∙ ap one_more c))
    (omega (arith, w, l)) (omega arith) (λ file z r. tt) (λ e. absurd cc) a n

never : {X : Type 0} (len : ℕ) (r : Result X JournalError) → IfErr r (λ e. ¬ (e ≡ TooLong)) → IfErr r (λ e. e ≡ TooLong → 2 ^ 35 ≤ len)
never len (Ok x) n = tt
never len (Err e) n = λ z. absurd (n z)

pub journal_of_rest : {step : Step} {lengths : Lengths} (len stored : ℕ) (h : List ℕ) (r : Result (Result JournalIndexed Cold) JournalError)
    (s m i t : SourceState) → length h ≡ 28 → m.bytes ≡ s.bytes → m.trail ≡ s.trail → m.failures ≡ s.failures
    → i.bytes ≡ m.bytes → step m.trail (given 0 h) i.trail → i.failures ≡ m.failures → IfSome m.bytes (λ file. IsRangeOf file 0 h)
    → ReadsAfterHead step h len stored r i t
    → lengths s.trail len → IfSome s.bytes (λ file. len ≡ length file) → ReadsJournal step lengths stored r s t
journal_of_rest {step = step} len stored h r s m i t w b e c b' e' c' k rest a n =
    let first : Reads step 0 false s i h = reads_given 0 h h s i refl (omega (arith, w)) (b' ∙ b) (subst (λ x. step x (given 0 h) i.trail) e e') (c' ∙ c)
    (subst (λ o. IfSome o (λ file. IsRangeOf file 0 h)) b k) in
    journal_read len stored (h ++ rest.seen) r s t (reads_join h rest.seen (omega (arith, w)) first rest.reads) rest.within
    (omega (arith, length-append h rest.seen, w, rest.short))
    (λ file z x. rest.files file z (sym ((range_front file 0 h rest.seen x).1 ∙ ap (λ n. take n file) w))
    (subst (λ at. IsRangeOf file at rest.seen) (let e : 0 + length h ≡ 28 = omega (arith, w) in e) (range_back file 0 h rest.seen x)))
    (never len r rest.unmeasured) a n
