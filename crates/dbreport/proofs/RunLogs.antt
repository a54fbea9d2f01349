-- What a run asks for: the header, and then pages.
use Rattle.dbreport.proofs.Common.{◌≡◌, ℕ, arith, false, List, [], length, None, refl, subst, inl, inr, Ok, Err, Result, geometry, Geometry, HeaderBytes}
use Rattle.dbreport.proofs.Common.{IsHeaderOf, IsOpenLog, IsRefusalOf, Opens, IsSomeRunLog, OpenError, read_weaker, geometry_of, IsInRange, IsPageLog, IsRunLog}
use Rattle.dbreport.proofs.Common.{Lengths, Step, given, HasRead, HasReadAfterHeader, SourceState, opened, ran}
use Rattle.dbformat.specs.File.{refusal_of}
use Rattle.dbformat.specs.declared.ByteRange.{ByteRange}
use Rattle.dbformat.specs.declared.Refusal.TheVariants.{Short}
use Rattle.dbsource.specs.declared.error.OpenError.TheVariants.{Refused, ReadFailed}
use Rattle.dbsource.proofs.Told.{told_all}

no_pages : (g : Geometry) → IsPageLog g []
no_pages g = record { pages = []; ranges = refl; readable = λ p i. absurd i; distinct = tt }

-- only the header was asked for
pub opened_log : (g : Geometry) (r : Result HeaderBytes OpenError) (log : List ByteRange) → IsOpenLog r log → IsRunLog g log
opened_log g (Err (Refused Short)) log e = inl e
opened_log g (Err ReadFailed) log (inl e) = inl e
opened_log g (Err ReadFailed) log (inr e) = inr ([], e, no_pages g)
opened_log g _ log e = inr ([], e, no_pages g)

-- there is a file that can be read
abbrev some_geometry : Geometry
some_geometry = record { page_size = 512; usable = 512; pages = 1; has_map = false }

some_range : IsInRange some_geometry
some_range = record { page_size = (omega arith, omega arith); usable = (omega arith, omega arith); pages = (omega arith, omega arith) }

pub opened_some_log : (r : Result HeaderBytes OpenError) (log : List ByteRange) → IsOpenLog r log → IsSomeRunLog log
opened_some_log r log e = (some_geometry, some_range, opened_log some_geometry r log e)

-- ---- after the header

-- nothing was asked for after the header
after_none : {step : Step} {T : List ℕ → Type 0} (h : HeaderBytes) (s : SourceState) (file : List ℕ) → IsHeaderOf h file
    → ((file : List ℕ) → IsHeaderOf h file → T file) → HasReadAfterHeader step (IsPageLog (geometry_of h.bytes h.file_len)) h T s s
after_none h s file is q = record {
  log = [];
  leads = refl;
  told = refl;
  holds = no_pages (geometry_of h.bytes h.file_len);
  there_is = (file, is, tt);
  files = λ file is f. q file is;
  tells = told_all s.bytes (λ file is. tt);
}

-- the header, and what was read after it, of a run
pub whole_run : {step : Step} {lengths : Lengths} {T : List ℕ → Type 0} (h : HeaderBytes) {old mid new : SourceState} → Opens step lengths (Ok h) old mid
    → step old.trail (given 0 h.bytes) mid.trail
    → (refusal_of h.bytes h.file_len ≡ None) × (length h.bytes ≡ 100) → IsInRange (geometry_of h.bytes h.file_len)
    → HasReadAfterHeader step (IsPageLog (geometry_of h.bytes h.file_len)) h T mid new
    → HasRead step lengths IsSomeRunLog (λ file ranges. IsRunLog (geometry file) ranges × T file) old new
whole_run {step} {lengths} {T} h {old} {mid} {new} opens first accepted range behind =
    let g = geometry_of h.bytes h.file_len in
    read_weaker (IsRunLog g) _ (ran step lengths h T old mid new accepted.0 accepted.1 opens first behind)
    (λ ranges p. (g, range, p)) (λ file ranges p t. (subst (λ s. IsRunLog s ranges) t.0.shape p, t.1))

-- a run that asked for nothing after the header
pub header_run : {step : Step} {lengths : Lengths} {T : List ℕ → Type 0} (h : HeaderBytes) {old mid : SourceState} → Opens step lengths (Ok h) old mid
    → step old.trail (given 0 h.bytes) mid.trail
    → (refusal_of h.bytes h.file_len ≡ None) × (length h.bytes ≡ 100) → IsInRange (geometry_of h.bytes h.file_len)
    → ((file : List ℕ) → IsHeaderOf h file → T file) → HasRead step lengths IsSomeRunLog (λ file ranges. IsRunLog (geometry file) ranges × T file) old mid
header_run h {mid = mid} opens first accepted range q =
    let here = opens.there_is in
    whole_run h opens first accepted range (after_none h mid here.0 (opens.asks.log.files here.0 here.2 here.1) q)

-- a run whose header was not read, or is refused
pub opened_run : {step : Step} {lengths : Lengths} {T : List ℕ → Type 0} (e : OpenError) {old new : SourceState} → Opens step lengths (Err e) old new
    → ((file : List ℕ) → IsRefusalOf e file → T file)
    → HasRead step lengths IsSomeRunLog (λ file ranges. IsRunLog (geometry file) ranges × T file) old new
opened_run {step} {lengths} {T} e {old} {new} opens q =
    read_weaker (IsOpenLog (Err e)) _ (opened step lengths e T old new opens q) (opened_some_log (Err e))
    (λ file ranges p t. (opened_log (geometry file) (Err e) ranges p, t))
