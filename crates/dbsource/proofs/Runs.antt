-- What a run read: its header, and then pages through a source that gives the header again.
use Rattle.std.proofs.Common.{◌≡◌, ℕ, ◌*◌, ◌/◌, ◌<◌, ◌≤◌, Bool, true, false, cond, List, [], ◌∷◌, ◌++◌, length, map, take, drop, refl, sym, ap, ap₂, subst, ◌∙◌}
use Rattle.std.proofs.Common.{arith, Option, Some, None, Err, inl, inr, length-append, Ok, Result}
use Rattle.std.specs.Prelude.{IfSome, min, ◌==◌, ◌⊎◌}
use Rattle.std.proofs.Math.Nat.{mul-le-mul_right, min-le_right, div-mul-le_self}
use Rattle.std.proofs.Math.Seq.{take-append_seam}
use Rattle.std.proofs.lemmas.List.{take_all, length-take, length-drop}
use Rattle.std.proofs.lemmas.Slice.Eq.{bytes_eq-Decides}
use Rattle.dbformat.proofs.Accepted.{is_accepted}
use Rattle.dbformat.specs.File.{refusal_of}
use Rattle.dbformat.specs.FixedPages.{geometry_of}
use Rattle.dbformat.specs.Header.{page_size, page_count, whole_pages, stated_pages, is_size_valid}
use Rattle.dbformat.specs.Log.{header_range, range, page_range, IsPageLog, IsRunLog}
use Rattle.dbformat.specs.declared.ByteRange.{ByteRange}
use Rattle.dbformat.specs.declared.Refusal.TheVariants.{Short, Magic, PageSize, Usable, NoPage, TooManyPages, MapAtLock}
use Rattle.dbsource.specs.Answers.{Answer, Fits, FitsAnswer, Front, IsRangeOf, Leads, Step, Trail, asked, failed, given, headed_by, Lengths}
use Rattle.dbsource.specs.Errors.{is_open_failed}
use Rattle.dbsource.specs.Failures.{failures_after, one_more}
use Rattle.dbsource.specs.Headed.{over, over_answer, begun, headed, headed_trail, HeadedStep}
use Rattle.dbsource.specs.HeaderBytes.{HeaderBytes}
use Rattle.dbsource.specs.Headers.{IsHeaderOf, IsOpenLog, IsRefusalOf, Opens}
use Rattle.dbsource.specs.Snapshots.{FitsAfterHeader, FitsRun, HasRead, HasReadAfterHeader, HasReadAfterTold, HasReadTold, ToldFileIsRead, ToldFileIsReadAfter}
use Rattle.dbsource.specs.Sources.{HasLog, SourceState}
use Rattle.dbsource.specs.declared.error.OpenError.{OpenError}
use Rattle.dbsource.specs.declared.error.OpenError.TheVariants.{Refused, ReadFailed}
use Rattle.dbsource.proofs.Headers.{header_of, opens_told}
use Rattle.dbsource.proofs.Snapshots.{BeginsSo, snapshot}
use Rattle.dbsource.proofs.Told.{if_told, if_told_both}

pub same_trail : (n m : ℕ) (a b : List ℕ) (o p : Option (List ℕ)) (s t : Trail) → headed_trail n a o s ≡ headed_trail m b p t → (n ≡ m) × (a ≡ b) × (o ≡ p)
    × (s ≡ t)
same_trail n m a b o p s t e =
    let fronts : headed_by n a o ∷ s.fronts ≡ headed_by m b p ∷ t.fronts = ap (λ (x : Trail). x.fronts) e in
    let first : headed_by n a o ≡ headed_by m b p = cc in
    let rest : s.fronts ≡ t.fronts = cc in
    (let k : n ≡ m = cc in k, let k : a ≡ b = cc in k, let k : o ≡ p = cc in k, same_parts rest (ap (λ (x : Trail). x.ranges) e))
  where
    same_parts : s.fronts ≡ t.fronts → s.ranges ≡ t.ranges → s ≡ t
    same_parts f r = ap₂ (λ (a : List Front) (b : List ByteRange). let x : Trail = record { fronts = a; ranges = b } in x) f r

-- what the source under a header was asked, and what it answered
pub record Behind (step : Step) (name : ℕ) (head : List ℕ) (told : Option (List ℕ)) (old : Trail) (log : List Answer) (new : Trail) : Type 0 where
  pub raw : List Answer
  pub after : Trail
  pub is : new ≡ headed_trail name head told after
  pub leads : Leads step old raw after
  pub given_as : log ≡ map (over_answer head) raw

pub behind : (step : Step) (name : ℕ) (head : List ℕ) (told : Option (List ℕ)) (old new : Trail) (log : List Answer)
    → Leads (HeadedStep step) (headed_trail name head told old) log new → Behind step name head told old log new
behind step name head told old new [] e = record { raw = []; after = old; is = e; leads = refl; given_as = refl }
behind step name head told old new (a ∷ log) (mid, s, k) =
    let m = same_trail name s.name head s.head told s.told old s.before s.was in
    let here : mid ≡ headed_trail name head told s.after =
    s.is ∙ ap (λ o. headed_trail s.name s.head o s.after) (sym m.2) ∙ ap (λ d. headed_trail s.name d told s.after) (sym m.1)
    ∙ ap (λ n. headed_trail n head told s.after) (sym m.0) in
    let rest = behind step name head told s.after new log (subst (λ t. Leads (HeadedStep step) t log new) here k) in
    record {
      raw = s.raw ∷ rest.raw;
      after = rest.after;
      is = rest.is;
      leads = (s.after, subst (λ t. step t s.raw s.after) (sym m.3) s.moved, rest.leads);
      given_as = ap (λ x. x ∷ log) (s.given_as ∙ ap (λ d. over_answer d s.raw) (sym m.1)) ∙ ap (λ l. over_answer head s.raw ∷ l) rest.given_as;
    }

pub over_length : (head bytes : List ℕ) (o : ℕ) → length head ≡ 100 → length (over head o bytes) ≡ length bytes
over_length head bytes o h = by_offset (o == 0)
  where
    by_offset : (b : _) → length (cond b (take (length bytes) head ++ drop 100 bytes) bytes) ≡ length bytes
    by_offset false = refl
    by_offset true = simp (length-append, length-take, length-drop) (omega arith)

pub over_asked : (head : List ℕ) (log : List Answer) → length head ≡ 100 → map asked (map (over_answer head) log) ≡ map asked log
over_asked head [] h = refl
over_asked head (given o bytes ∷ log) h = ap (λ n. range o n ∷ map asked (map (over_answer head) log)) (over_length head bytes o h)
    ∙ ap (λ l. range o (length bytes) ∷ l) (over_asked head log h)
over_asked head (failed r ∷ log) h = ap (λ l. r ∷ l) (over_asked head log h)

over_fits : (head file : List ℕ) (log : List Answer) → take 100 file ≡ head → FitsAfterHeader file log → Fits file (map (over_answer head) log)
over_fits head file [] e f = tt
over_fits head file (a ∷ log) e f = (subst (λ d. FitsAnswer file (over_answer d a)) e f.0, over_fits head file log e f.1)

pub fits_over : (head file : List ℕ) (log : List Answer) → take 100 file ≡ head → Fits file (map (over_answer head) log) → FitsAfterHeader file log
fits_over head file [] e f = tt
fits_over head file (a ∷ log) e f = (subst (λ d. FitsAnswer file (over_answer d a)) (sym e) f.0, fits_over head file log e f.1)

-- an answer from the beginning of the file on begins with the header that was put over it
pub over_begins : (head : List ℕ) (log : List Answer) (size : ℕ) (pages : List ℕ) → length head ≡ 100 → 100 ≤ size → map asked log ≡ map (page_range size) pages
    → BeginsSo head (map (over_answer head) log)
over_begins head [] size pages h big e = tt
over_begins head (a ∷ log) size [] h big e = cc
over_begins head (failed r ∷ log) size (p ∷ pages) h big e =
    over_begins head log size pages h big (let k : map asked log ≡ map (page_range size) pages = cc in k)
over_begins head (given o bytes ∷ log) size (p ∷ pages) h big e = (
  λ z.
      let n : length bytes ≡ size = ap (λ (r : ByteRange). r.len) (let k : range o (length bytes) ≡ page_range size p = cc in k) in
      ap (λ o. take 100 (over head o bytes)) z ∙ ap (λ l. take 100 (l ++ drop 100 bytes)) (take_all (length bytes) head (omega arith))
      ∙ ap (λ n. take n (head ++ drop 100 bytes)) (sym h) ∙ take-append_seam head (drop 100 bytes),
  over_begins head log size pages h big (let k : map asked log ≡ map (page_range size) pages = cc in k),
)

pages_within : (bytes : List ℕ) (len : ℕ) → page_count bytes len * page_size bytes ≤ len
unfolding page_count whole_pages
pages_within bytes len = omega (
  arith,
  div-mul-le_self len (page_size bytes),
  mul-le-mul_right {m = least} {n = len / page_size bytes} (page_size bytes) (by_valid (is_size_valid bytes)),
)
  where
    least : ℕ
    least = page_count bytes len

    by_valid : (b : Bool) → cond b (min (stated_pages bytes) (len / page_size bytes)) (len / page_size bytes) ≤ len / page_size bytes
    by_valid true = min-le_right (stated_pages bytes) (len / page_size bytes)
    by_valid false = omega arith

-- told bytes that begin with the header are the told bytes of the inner source
begun_told : (head file : List ℕ) → take 100 file ≡ head → begun head (Some file) ≡ Some file
begun_told head file e = ap (λ b. cond b (Some file) None) ((bytes_eq-Decides (take 100 file) head).1 e)

-- the header's bytes at the beginning of a file
pub begin_range : (head file : List ℕ) → length head ≡ 100 → head ≡ take 100 file → 100 ≤ length file → IsRangeOf file 0 head
begin_range head file size e l = (omega arith, e ∙ ap (λ n. take n file) (sym size))

-- the header before a source, and the reference to it, stay
pub same_front : (step : Step) (name name' : ℕ) (head head' : List ℕ) (P : List ByteRange → Type 0) (Q : List ℕ → Type 0) (old new : SourceState)
    → HasLog (HeadedStep step) P Q (headed name head old) (headed name' head' new) → (name' ≡ name) × (head' ≡ head)
same_front step name name' head head' P Q old new log =
    let b = behind step name head old.bytes old.trail (headed_trail name' head' new.bytes new.trail) log.log log.leads in
    let m = same_trail name' name head' head new.bytes old.bytes new.trail b.after b.is in (m.0, m.1)

-- what was asked of a source with its header over it, as it was asked of the inner source
pub read_after : (step : Step) (name name' : ℕ) (h : HeaderBytes) (head' : List ℕ) (T : List ℕ → Type 0) (old new : SourceState)
    → refusal_of h.bytes h.file_len ≡ None → length h.bytes ≡ 100
    → HasLog (HeadedStep step) (IsPageLog (geometry_of h.bytes h.file_len)) (λ file. IsHeaderOf h file → T file) (headed name h.bytes old)
    (headed name' head' new)
    → HasReadAfterHeader step (IsPageLog (geometry_of h.bytes h.file_len)) h T old new
read_after step name name' h head' T old new accepted size log =
    let g = geometry_of h.bytes h.file_len in
    let ok = is_accepted h.bytes h.file_len accepted in
    let b = behind step name h.bytes old.bytes old.trail (headed_trail name' head' new.bytes new.trail) log.log log.leads in
    let m = same_trail name' name head' h.bytes new.bytes old.bytes new.trail b.after b.is in
    let ranges : map asked log.log ≡ map asked b.raw = ap (map asked) b.given_as ∙ over_asked h.bytes b.raw size in
    let big : 100 ≤ page_size h.bytes = omega (arith, ok.range.page_size.0) in
    let f = snapshot (page_size h.bytes) h.file_len h.bytes log.log log.holds.pages big ok.long size log.holds.ranges
    (λ p i. ((log.holds.readable p i).from_one, within p (log.holds.readable p i).within ok.range.page_size.0)) log.holds.distinct
    (subst (BeginsSo h.bytes) (sym b.given_as) (over_begins h.bytes b.raw (page_size h.bytes) log.holds.pages size big (sym ranges ∙ log.holds.ranges))) in
    record {
      log = b.raw;
      leads = subst (λ t. Leads step old.trail b.raw t) (sym m.3) b.leads;
      told = m.2;
      holds = subst (IsPageLog g) ranges log.holds;
      there_is = (
        f.0,
        header_of f.0 h.bytes h.file_len h (sym f.1.length) size (begin_range h.bytes f.0 size (sym f.1.begins) (omega (arith, f.1.length, ok.long))) accepted
            refl refl,
        fits_over h.bytes f.0 b.raw f.1.begins (subst (Fits f.0) b.given_as f.1.fits),
      );
      files = λ file is k. log.files file (subst (Fits file) (sym b.given_as) (over_fits h.bytes file b.raw (sym is.begins) k)) is;
      tells = by_told old.bytes (λ file told is.
          let t : begun h.bytes old.bytes ≡ Some file = ap (begun h.bytes) told ∙ begun_told h.bytes file (sym is.begins) in
          let w : Fits file log.log = subst (λ o. IfSome o (λ file. Fits file log.log)) t log.tells in
          fits_over h.bytes file b.raw (sym is.begins) (subst (Fits file) b.given_as w)) refl;
    }
  where
    within : (p : ℕ) → p ≤ page_count h.bytes h.file_len → 512 ≤ page_size h.bytes → p * page_size h.bytes ≤ h.file_len
    within p l big = omega (arith, mul-le-mul_right {m = p} {n = page_count h.bytes h.file_len} (page_size h.bytes) l, pages_within h.bytes h.file_len)

    by_told : (o : Option (List ℕ)) {R : List ℕ → Type 0} → ((file : List ℕ) → old.bytes ≡ Some file → R file) → o ≡ old.bytes → IfSome o R
    by_told None f e = tt
    by_told (Some file) f e = f file (sym e)

-- the header's read, and then what was read after it
pub ran : (step : Step) (lengths : Lengths) (h : HeaderBytes) (T : List ℕ → Type 0) (old mid new : SourceState)
    → refusal_of h.bytes h.file_len ≡ None → length h.bytes ≡ 100 → Opens step lengths (Ok h) old mid → step old.trail (given 0 h.bytes) mid.trail
    → HasReadAfterHeader step (IsPageLog (geometry_of h.bytes h.file_len)) h T mid new
    → HasRead step lengths (IsRunLog (geometry_of h.bytes h.file_len)) (λ file ranges. IsHeaderOf h file × T file) old new
ran step lengths h T old mid new accepted size opens first behind =
    let ok = is_accepted h.bytes h.file_len accepted in
    let f = behind.there_is in
    record {
      len = h.file_len;
      log = given 0 h.bytes ∷ behind.log;
      leads = (mid.trail, first, behind.leads);
      told = behind.told ∙ opens.asks.log.told;
      answered = elim opens.answered [ inl a ↦ inl (subst (lengths old.trail) (sym (same_len opens.there_is)) a) | inr e ↦ absurd (read_of e.0) ];
      holds = inr (map asked behind.log, ap (λ n. range 0 n ∷ map asked behind.log) size, behind.holds);
      there_is = (f.0, sym f.1.whole, (begin_range h.bytes f.0 size f.1.begins (omega (arith, f.1.whole, ok.long)), f.2));
      files = λ file e k. let is = header_of file h.bytes h.file_len h (sym e) size k.0 accepted refl refl in (is, behind.files file is k.1);
      tells = if_told_both old.bytes (λ file is behind. (sym is.whole, (begin_range h.bytes file size is.begins (omega (arith, is.whole, ok.long)), behind is)))
          (opens_told (Ok h) opens) (subst (λ o. IfSome o (λ file. IsHeaderOf h file → FitsAfterHeader file behind.log)) opens.asks.log.told behind.tells);
      short = λ l. absurd (omega (arith, l, ok.long));
    }
  where
    same_len : (f : (file : List ℕ) × (length file ≡ opens.len) × Fits file opens.asks.log.log) → h.file_len ≡ opens.len
    same_len f = let is : IsHeaderOf h f.0 = opens.asks.log.files f.0 f.2 f.1 in is.whole ∙ f.1

    read_of : (let r : Result HeaderBytes OpenError = Ok h in r) ≡ Err ReadFailed → ⊥
    read_of e = cc

-- ---- the header was not read, or it is refused

-- one answer at most
abbrev IsShort : List Answer → Type 0
IsShort log = (map asked log ≡ []) ⊎ (map asked log ≡ header_range ∷ [])

opened_short : (r : OpenError) (log : List Answer) → IsOpenLog (Err r) (map asked log) → IsShort log
opened_short (Refused Short) log e = inl e
opened_short (Refused Magic) log e = inr e
opened_short (Refused PageSize) log e = inr e
opened_short (Refused Usable) log e = inr e
opened_short (Refused NoPage) log e = inr e
opened_short (Refused TooManyPages) log e = inr e
opened_short (Refused MapAtLock) log e = inr e
opened_short ReadFailed log e = e

two_answers : (a b : Answer) (log : List Answer) → IsShort (a ∷ b ∷ log) → ⊥
two_answers a b log (inl e) = cc
two_answers a b log (inr e) = cc

fits_run : (file : List ℕ) (log : List Answer) → IsShort log → Fits file log → FitsRun file log
fits_run file [] h k = k
fits_run file (a ∷ []) h k = k
fits_run file (a ∷ b ∷ log) h k = absurd (two_answers a b log h)

run_fits : (file : List ℕ) (log : List Answer) → IsShort log → FitsRun file log → Fits file log
run_fits file [] h k = k
run_fits file (a ∷ []) h k = k
run_fits file (a ∷ b ∷ log) h k = absurd (two_answers a b log h)

-- what was read then, and of each file that agrees what is so of one that is refused for that reason
pub opened : (step : Step) (lengths : Lengths) (e : OpenError) (T : List ℕ → Type 0) (old new : SourceState)
    → Opens step lengths (Err e) old new → ((file : List ℕ) → IsRefusalOf e file → T file)
    → HasRead step lengths (IsOpenLog (Err e)) (λ file ranges. T file) old new
opened step lengths e T old new h q =
    let log = h.asks.log in
    let short = opened_short e log.log log.holds in
    record {
      len = h.len;
      log = log.log;
      leads = log.leads;
      told = log.told;
      answered = elim h.answered [ inl a ↦ inl a | inr k ↦ inr (k.1, failed_once (Err e) k.0 h.asks.count) ];
      holds = log.holds;
      there_is = (h.there_is.0, h.there_is.1, fits_run h.there_is.0 log.log short h.there_is.2);
      files = λ file l k. q file (log.files file (run_fits file log.log short k) l);
      tells = if_told_both old.bytes (λ file l f. (l, fits_run file log.log short f)) h.same log.tells;
      short = h.short;
    }
  where
    failed_once : (r : Result HeaderBytes OpenError) → r ≡ Err ReadFailed → new.failures ≡ failures_after is_open_failed r old.failures → new.failures
        ≡ one_more old.failures
    failed_once r k count = subst (λ (x : Result HeaderBytes OpenError). new.failures ≡ failures_after is_open_failed x old.failures) k count

-- of what was read, something weaker
pub read_weaker : {step : Step} {lengths : Lengths} (P : List ByteRange → Type 0) {P' : List ByteRange → Type 0} (Q : List ℕ → List ByteRange → Type 0)
    {Q' : List ℕ → List ByteRange → Type 0} {old new : SourceState}
    → HasRead step lengths P Q old new → ((ranges : List ByteRange) → P ranges → P' ranges)
    → ((file : List ℕ) (ranges : List ByteRange) → P ranges → Q file ranges → Q' file ranges) → HasRead step lengths P' Q' old new
read_weaker P Q h f q = record {
  len = h.len;
  log = h.log;
  leads = h.leads;
  told = h.told;
  answered = h.answered;
  holds = f (map asked h.log) h.holds;
  there_is = h.there_is;
  files = λ file l k. q file (map asked h.log) h.holds (h.files file l k);
  tells = h.tells;
  short = h.short;
}

-- What holds of each file that agrees holds of told bytes, which stay; and of a file that is too short nothing was read.
pub told_file : (step : Step) (lengths : Lengths) (P : List ByteRange → Type 0) (Q : List ℕ → List ByteRange → Type 0) (old new : SourceState)
    → ToldFileIsRead step lengths P Q old new
told_file step lengths P Q old new h = by_told old.bytes h.tells refl
  where
    by_told : (o : Option (List ℕ)) → IfSome o (λ file. (length file ≡ h.len) × FitsRun file h.log) → o ≡ old.bytes → IfSome o (HasReadTold step P Q old new)
    by_told None k e = tt
    by_told (Some file) k e = record {
      log = h.log;
      leads = h.leads;
      holds = h.holds;
      fits = k.1;
      claimed = h.files file k.0 k.1;
      stay = h.told ∙ sym e;
      unread = λ l. let leads : Leads step old.trail [] new.trail =
          subst (λ log. Leads step old.trail log new.trail) (h.short (subst (λ n. n < 100) k.0 l)) h.leads in leads;
    }

-- the same after a header
pub told_file_after : (step : Step) (P : List ByteRange → Type 0) (h : HeaderBytes) (Q : List ℕ → Type 0) (old new : SourceState)
    → ToldFileIsReadAfter step P h Q old new
told_file_after step P h Q old new k = by_told old.bytes k.tells refl
  where
    by_told : (o : Option (List ℕ)) → IfSome o (λ file. IsHeaderOf h file → FitsAfterHeader file k.log) → o ≡ old.bytes
        → IfSome o (λ file. IsHeaderOf h file → HasReadAfterTold step P Q old new file)
    by_told None fits e = tt
    by_told (Some file) fits e = λ is. record {
      log = k.log;
      leads = k.leads;
      holds = k.holds;
      fits = fits is;
      claimed = k.files file is (fits is);
      stay = k.told ∙ sym e;
    }

-- what holds of each file that agrees holds of told bytes
pub of_told : {step : Step} {lengths : Lengths} {P : List ByteRange → Type 0} (T : List ℕ → Type 0) {old new : SourceState}
    → HasRead step lengths P (λ file ranges. T file) old new → IfSome old.bytes T
of_told T {old = old} h = if_told old.bytes (λ file k. h.files file k.0 k.1) h.tells

-- and of told bytes of this header
pub of_told_after : {step : Step} {P : List ByteRange → Type 0} (h : HeaderBytes) (T : List ℕ → Type 0) {old new : SourceState}
    → HasReadAfterHeader step P h T old new → IfSome old.bytes (λ file. IsHeaderOf h file → T file)
of_told_after h T {old = old} k = if_told old.bytes (λ file fits is. k.files file is (fits is)) k.tells
