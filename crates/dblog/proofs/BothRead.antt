-- What a file and a log were asked for a range, and what they gave.
use Rattle.std.proofs.Common.{◌≡◌, ℕ, ◌<◌, ◌+◌, ◌%◌, false, List, [], ◌∷◌, length, refl, sym, ap, ◌∙◌, arith, inl, inr}
use Rattle.std.specs.Prelude.{IfSome, OnOk, Result, Ok, Err, Option, Some, None, slice_index, ◌||◌}
use Rattle.dbformat.specs.Log.{range}
use Rattle.dbsource.specs.Answers.{IsRangeOf, Step, answer}
use Rattle.dbsource.specs.Failures.{CountsAfter, failures_after, is_any}
use Rattle.dbsource.specs.Sources.{SourceState}
use Rattle.dbsource.proofs.Logs.{asked_range, told_fits}
use Rattle.dbsource.proofs.Told.{told_all}
use Rattle.dblog.specs.Beside.{FailsBy, IsThrough, ReadsBoth, ReadsPadded}
use Rattle.dblog.specs.Entries.{named_frame}
use Rattle.dblog.specs.Placed.{IsInOnePage, Placed, base_ranges_in, frame_for, log_ranges_in, page_start, placed_byte, through}
use Rattle.dblog.proofs.Ranges.{byte_of_range, page_place, range_by_bytes, same_page, through_byte, through_length}

-- a range in a page is one of the database, if its bytes are those of the page
page_range : (p : Placed) (f g : List ℕ) (offset : ℕ) (o : Option ℕ) (buf : List ℕ) → 0 < p.page_size → IsInOnePage p (range offset (length buf))
    → frame_for p offset ≡ o
    → ((k : ℕ) → k < length buf → slice_index buf k ≡ placed_byte p f g o (offset + k)) → IsRangeOf (through p f g) offset buf
page_range p f g offset o buf some one e h = range_by_bytes (through p f g) offset buf (omega (arith, through_length p f g, one.within))
    (λ k l. h k l ∙ sym (through_byte p f g (offset + k) (omega (arith, one.within)) ∙ ap (λ n. placed_byte p f g n (offset + k)) (place k l ∙ e)))
  where
    place : (k : ℕ) → k < length buf → frame_for p (offset + k) ≡ frame_for p offset
    place k l = ap (λ n. named_frame p.entries (n + 1)) (same_page p.page_size offset k some (omega (arith, one.one)))

-- ---- a range in one page

no_failure : {E : Type 0} (r : Result (Unit {0}) E) (m n n' : ℕ) → n' ≡ failures_after is_any r n → CountsAfter is_any r (m ∷ n ∷ []) (m ∷ n' ∷ [])
no_failure (Ok x) m n n' e = ap (λ k. m ∷ k ∷ []) e
no_failure (Err x) m n n' e = inr (refl, inl (e, refl))

-- the log gives it
log_gives : {E : Type 0} (r : Result (Unit {0}) E) (p : Placed) (offset frame : ℕ) (buf : List ℕ) → 0 < p.page_size
    → IsInOnePage p (range offset (length buf)) → frame_for p offset ≡ Some frame
    → IsThrough p (answer r offset buf) [] (answer r (page_start p.first p.stride frame + offset % p.page_size) buf ∷ [])
log_gives (Err e) p offset frame buf some one at f g h k = tt
log_gives (Ok x) p offset frame buf some one at f g h k = page_range p f g offset (Some frame) buf some one at (λ i l.
    byte_of_range g (page_start p.first p.stride frame + offset % p.page_size) buf k.0 i l
    ∙ ap (slice_index g) (place i l))
  where
    place : (i : ℕ) → i < length buf
        → page_start p.first p.stride frame + offset % p.page_size + i ≡ page_start p.first p.stride frame + (offset + i) % p.page_size
    place i l = let e = page_place p.page_size offset i some (omega (arith, one.one)) in omega (arith, e)

fails_by_log : {E : Type 0} (r : Result (Unit {0}) E) (p : Placed) (offset place : ℕ) (buf : List ℕ)
    → FailsBy p (answer r offset buf) [] (answer r place buf ∷ [])
fails_by_log (Ok x) p offset place buf = tt
fails_by_log (Err e) p offset place buf = λ l. refl

pub read_from_log : {E : Type 0} {bs ls : Step} (p : Placed) (offset frame : ℕ) (r : Result (Unit {0}) E) (buf : List ℕ) (b l l' : SourceState)
    → 0 < p.page_size → IsInOnePage p (range offset (length buf)) → frame_for p offset ≡ Some frame
    → l'.bytes ≡ l.bytes → ls l.trail (answer r (page_start p.first p.stride frame + offset % p.page_size) buf) l'.trail
    → l'.failures ≡ failures_after is_any r l.failures
    → OnOk r (IfSome l.bytes (λ file. IsRangeOf file (page_start p.first p.stride frame + offset % p.page_size) buf))
    → ReadsBoth bs ls p offset r buf (record { base = b; log = l }) (record { base = b; log = l' })
read_from_log p offset frame r buf b l l' some one at told step count fits =
    let place = page_start p.first p.stride frame + offset % p.page_size in
    record {
      told_base = refl;
      told_log = told;
      asks = record {
        base = [];
        log = answer r place buf ∷ [];
        leads_base = refl;
        leads_log = (l'.trail, step, refl);
        tells_base = told_all b.bytes (λ file. tt);
        tells_log = told_fits r l.bytes place buf fits;
      };
      gives = log_gives r p offset frame buf some one at;
      ranges = record {
        of_base = λ z. ap (base_ranges_in p (range offset (length buf))) (sym at);
        of_log = λ z. ap (λ x. x ∷ []) (asked_range r place buf) ∙ ap (log_ranges_in p (range offset (length buf))) (sym at);
      };
      fails = fails_by_log r p offset place buf;
      count = no_failure r b.failures l.failures l'.failures count;
    }

-- the file gives it
base_gives : {E : Type 0} {step : Step} {s t : SourceState} (r : Result (Unit {0}) E) (p : Placed) (offset : ℕ) (buf : List ℕ) → 0 < p.page_size
    → IsInOnePage p (range offset (length buf)) → frame_for p offset ≡ None
    → (h : ReadsPadded step p.base_len offset r buf s t) → IsThrough p (answer r offset buf) h.log []
base_gives (Err e) p offset buf some one at h f g k m = tt
base_gives (Ok x) p offset buf some one at h f g k m = page_range p f g offset None buf some one at (h.gives f k)

fails_by_base : {E : Type 0} {step : Step} {s t : SourceState} (r : Result (Unit {0}) E) (p : Placed) (offset : ℕ) (buf : List ℕ)
    → (h : ReadsPadded step p.base_len offset r buf s t) → FailsBy p (answer r offset buf) h.log []
fails_by_base (Ok x) p offset buf h = tt
fails_by_base (Err e) p offset buf h = λ l. ap (λ b. b || false) h.fails

base_failure : {E : Type 0} (r : Result (Unit {0}) E) (m n n' : ℕ) → n' ≡ failures_after is_any r n → CountsAfter is_any r (n ∷ m ∷ []) (n' ∷ m ∷ [])
base_failure (Ok x) m n n' e = ap (λ k. k ∷ m ∷ []) e
base_failure (Err x) m n n' e = inl (e, refl)

pub read_from_base : {E : Type 0} {bs ls : Step} (p : Placed) (offset : ℕ) (r : Result (Unit {0}) E) (buf : List ℕ) (b b' l : SourceState)
    → 0 < p.page_size → IsInOnePage p (range offset (length buf)) → frame_for p offset ≡ None
    → ReadsPadded bs p.base_len offset r buf b b'
    → ReadsBoth bs ls p offset r buf (record { base = b; log = l }) (record { base = b'; log = l })
read_from_base p offset r buf b b' l some one at h = record {
  told_base = h.told;
  told_log = refl;
  asks = record {
    base = h.log;
    log = [];
    leads_base = h.leads;
    leads_log = refl;
    tells_base = h.tells;
    tells_log = told_all l.bytes (λ file. tt);
  };
  gives = base_gives r p offset buf some one at h;
  ranges = record {
    of_base = λ z. h.ranges ∙ ap (base_ranges_in p (range offset (length buf))) (sym at);
    of_log = λ z. ap (log_ranges_in p (range offset (length buf))) (sym at);
  };
  fails = fails_by_base r p offset buf h;
  count = base_failure r l.failures b.failures b'.failures h.count;
}
