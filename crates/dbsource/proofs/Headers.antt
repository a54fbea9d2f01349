-- What length and bytes say of a file whose first 100 they are.
use Rattle.std.proofs.Common.{Option, ◌≡◌, ℕ, ◌+◌, ◌-◌, ◌<◌, ◌≤◌, List, [], ◌∷◌, ◌++◌, length, take, true, false, refl, sym, ap, ◌∙◌, arith, subst, Some, None}
use Rattle.std.proofs.Common.{Err, Result, length-append}
use Rattle.std.specs.Prelude.{nat_lt, nat_le, Bool, if◌then◌else◌, IfSome}
use Rattle.std.proofs.Math.ListN.{replicate}
use Rattle.std.proofs.lemmas.List.{length-replicate}
use Rattle.std.proofs.Math.Seq.{take-append_seam}
use Rattle.std.proofs.lemmas.Bool.Decides.{nat_tests}
use Rattle.dbformat.specs.File.{refusal, refusal_of, refusal_tests}
use Rattle.dbformat.specs.FixedPages.{geometry_of, IsInRange}
use Rattle.dbformat.specs.declared.Geometry.{Geometry}
use Rattle.dbformat.proofs.Accepted.{is_accepted}
use Rattle.dbformat.specs.Log.{header_range}
use Rattle.dbformat.specs.declared.Refusal.{Refusal}
use Rattle.dbformat.specs.declared.Refusal.TheVariants.{Short, Magic, PageSize, Usable, NoPage, TooManyPages, MapAtLock}
use Rattle.dbformat.proofs.HeaderPrefix.{geometry_within, refusal_within}
use Rattle.dbformat.proofs.TestsLemmas.{found_value}
use Rattle.dbsource.specs.Headers.{IsHeaderOf, IsOpenLog, IsOpenOf, Opens, shape_of, shape_unless}
use Rattle.dbsource.specs.HeaderBytes.{HeaderBytes}
use Rattle.dbsource.specs.Sources.{SourceState}
use Rattle.dbsource.specs.Answers.{IsRangeOf, Lengths, Step}
use Rattle.dbsource.specs.declared.error.OpenError.{OpenError}
use Rattle.dbsource.specs.declared.error.OpenError.TheVariants.{Refused}
use Rattle.dbsource.proofs.Logs.{has_told}
use Rattle.dbsource.proofs.Told.{if_told_both}

-- the numbers of a header that is not refused
pub geometry_range : (bytes : List ℕ) (len : ℕ) (g : Geometry) → refusal_of bytes len ≡ None → g ≡ geometry_of bytes len → IsInRange g
geometry_range bytes len g e shape = subst IsInRange (sym shape) (is_accepted bytes len e).range

below : (a b : ℕ) → a < b → nat_lt a b ≡ true
below a b h = grind (arith, nat_tests)

not_below : (a b : ℕ) → b ≤ a → nat_lt a b ≡ false
not_below a b h = grind (arith, nat_tests)

-- a file that is too short is refused for it
pub too_short : (file : List ℕ) (n : ℕ) → n ≡ length file → n < 100 → refusal file ≡ Some Short
unfolding refusal_of
too_short file n e h = let short : nat_lt (length file) 100 ≡ true = below (length file) 100 (omega arith) in rw short refl

-- so it has no shape
pub no_shape : (bytes : List ℕ) (n : ℕ) → n < 100 → shape_of bytes n ≡ None
unfolding refusal_of
no_shape bytes n h =
    let short : nat_lt n 100 ≡ true = below n 100 h in
    by_length (nat_le 100 (length bytes)) short
  where
    by_length : (b : Bool) → nat_lt n 100 ≡ true → (if b then shape_unless (refusal_of bytes n) (geometry_of bytes n) else None) ≡ None
    by_length true short = rw short refl
    by_length false short = refl

-- what was read is how the file begins
begins : (file bytes : List ℕ) → length bytes ≡ 100 → IsRangeOf file 0 bytes → bytes ≡ take 100 file
begins file bytes size read = read.1 ∙ ap (λ n. take n file) size

-- another reason is decided by the first bytes
pub refused_by : (file bytes : List ℕ) (n : ℕ) (r : Refusal) → n ≡ length file → length bytes ≡ 100 → IsRangeOf file 0 bytes
    → refusal_of bytes n ≡ Some r → refusal file ≡ Some r
refused_by file bytes n r e size read h =
    sym (ap (refusal_of bytes) e ∙ ap (λ b. refusal_of b (length file)) (begins file bytes size read) ∙ refusal_within file (length file)) ∙ h

-- the header of a file that is read
pub header_of : (file bytes : List ℕ) (n : ℕ) (h : HeaderBytes) → n ≡ length file → length bytes ≡ 100 → IsRangeOf file 0 bytes
    → refusal_of bytes n ≡ None → h.bytes ≡ bytes → h.file_len ≡ n → IsHeaderOf h file
header_of file bytes n h e size read accepted same_bytes same_len =
    let first : h.bytes ≡ take 100 file = same_bytes ∙ begins file bytes size read in
    let all : h.file_len ≡ length file = same_len ∙ e in
    record {
      is_read = sym (ap (refusal_of bytes) e ∙ ap (λ b. refusal_of b (length file)) (begins file bytes size read) ∙ refusal_within file (length file))
          ∙ accepted;
      begins = first;
      whole = all;
      shape = ap (λ b. geometry_of b h.file_len) first ∙ ap (geometry_of (take 100 file)) all ∙ geometry_within file (length file);
    }

-- a file that is not too short is not refused for that
not_short : (bytes : List ℕ) (n : ℕ) (r : Refusal) → 100 ≤ n → refusal_of bytes n ≡ Some r → r ≡ Short → ⊥
unfolding refusal_of
not_short bytes n r h e =
    let long : nat_lt n 100 ≡ false = not_below n 100 h in
    found_value (λ r. r ≡ Short → ⊥) (refusal_tests bytes n) r
    ((λ t. cc), ((λ t q. cc), ((λ t q. cc), ((λ t q. cc), ((λ t q. cc), ((λ t q. cc), ((λ t q. cc), tt))))))) e

-- so its header was asked for
pub read_once : (bytes : List ℕ) (n : ℕ) (r : Refusal) → 100 ≤ n → refusal_of bytes n ≡ Some r → IsOpenLog (Err (Refused r)) (header_range ∷ [])
read_once bytes n Short h e = absurd (not_short bytes n Short h e refl)
read_once bytes n Magic h e = refl
read_once bytes n PageSize h e = refl
read_once bytes n Usable h e = refl
read_once bytes n NoPage h e = refl
read_once bytes n TooManyPages h e = refl
read_once bytes n MapAtLock h e = refl

-- ---- what is said of each file that agrees with what was read

-- the number of told bytes, if there are any
abbrev pub told_len : Option (List ℕ) → ℕ
told_len None = 0
told_len (Some file) = length file

pub told_len_is : (o : Option (List ℕ)) → IfSome o (λ file. length file ≡ told_len o)
told_len_is None = tt
told_len_is (Some file) = refl

-- there is a file of this length that begins with these bytes
pub beginning : (bytes : List ℕ) (len : ℕ) → length bytes ≤ len → (file : List ℕ) × (length file ≡ len) × IsRangeOf file 0 bytes
beginning bytes len h =
    let zeros : List ℕ = replicate (len - length bytes) 0 in
    let whole : length (bytes ++ zeros) ≡ len = length-append bytes zeros ∙ ap (λ n. length bytes + n) (length-replicate (len - length bytes) 0)
    ∙ omega arith in
    (bytes ++ zeros, whole, (omega arith, sym (take-append_seam bytes zeros)))

-- so it holds of told bytes
pub opens_told : {step : Step} {lengths : Lengths} (r : Result HeaderBytes OpenError) {old new : SourceState} → Opens step lengths r old new
    → IfSome old.bytes (IsOpenOf r)
opens_told r {old = old} o = if_told_both old.bytes (λ file f e. f e) (has_told o.asks.log) o.same
