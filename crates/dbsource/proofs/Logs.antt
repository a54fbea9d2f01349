-- Lemmas on logs.
use Rattle.std.proofs.Common.{◌≡◌, ℕ, ◌+◌, ◌<◌, ◌≤◌, ap, subst, Bool, Result, Ok, Err, List, [], ◌∷◌, ◌++◌, length, map, refl, sym, ◌∙◌, arith, append_assoc}
use Rattle.std.proofs.Common.{append-nil, length-append}
use Rattle.std.specs.Prelude.{Option, IfSome, OnOk}
use Rattle.std.proofs.lemmas.List.{map-append}
use Rattle.std.proofs.lemmas.Grind.{common_steps}
use Rattle.dbformat.specs.Log.{range}
use Rattle.dbformat.specs.declared.ByteRange.{ByteRange}
use Rattle.dbsource.specs.Answers.{Answer, IsRangeOf, asked, answer, Fits, FitsAnswer, Leads, Step, Trail}
use Rattle.dbsource.specs.Errors.{is_open_failed, is_read_failed, run_error}
use Rattle.dbsource.specs.declared.error.OpenError.{OpenError}
use Rattle.dbsource.specs.declared.error.OpenError.TheVariants.{Refused, ReadFailed}
use Rattle.dbsource.specs.Failures.{failures_after, is_any}
use Rattle.dbsource.specs.Sources.{Asks, HasLog, HasRanges, SourceState, kept_step}
use Rattle.dbsource.proofs.Told.{if_told, if_told_both, told_all}

-- a trail with room takes the range
pub kept_room : (old : Trail) (a : Answer) (new : Trail) → length old.ranges < 1024 → kept_step old a new → new
    ≡ (record old { ranges = old.ranges ++ asked a ∷ [] })
kept_room old a new h e = grind (arith, common_steps)

-- a trail that has room for the log grows by it
pub kept_log : (old : Trail) (log : List Answer) (new : Trail) → length old.ranges + length log ≤ 1024 → Leads kept_step old log new → new
    ≡ (record old { ranges = old.ranges ++ map asked log })
kept_log old [] new h e = e ∙ ap (λ l. record old { ranges = l }) (sym (append-nil old.ranges))
kept_log old (a ∷ log) new h (mid, e, k) =
    let here : mid ≡ (record old { ranges = old.ranges ++ asked a ∷ [] }) = kept_room old a mid (omega arith) e in
    let room : length mid.ranges + length log ≤ 1024 = omega (arith, ap (λ (t : Trail). length t.ranges) here, length-append old.ranges (asked a ∷ [])) in
    kept_log mid log new room k ∙ ap (λ (t : Trail). record t { ranges = t.ranges ++ map asked log }) here
    ∙ ap (λ l. record old { ranges = l }) (append_assoc old.ranges (asked a ∷ []) (map asked log))

-- ---- what was answered, one log after another

pub leads_append : (step : Step) (old mid new : Trail) (a b : List Answer)
    → Leads step old a mid → Leads step mid b new → Leads step old (a ++ b) new
leads_append step old mid new [] b h k = subst (λ t. Leads step t b new) h k
leads_append step old mid new (x ∷ a) b (t, s, h) k = (t, s, leads_append step t mid new a b h k)

pub fits_join : (file : List ℕ) (a b : List Answer) → Fits file a → Fits file b → Fits file (a ++ b)
fits_join file [] b h k = k
fits_join file (x ∷ a) b h k = (h.0, fits_join file a b h.1 k)

pub fits_parts : (file : List ℕ) (a b : List Answer) → Fits file (a ++ b) → Fits file a × Fits file b
fits_parts file [] b h = (tt, h)
fits_parts file (x ∷ a) b h = let k = fits_parts file a b h.1 in ((h.0, k.0), k.1)

-- an answer asked for its range
pub asked_range : {A E : Type 0} (r : Result A E) (offset : ℕ) (buf : List ℕ) → asked (answer r offset buf) ≡ range offset (length buf)
asked_range (Ok a) offset buf = refl
asked_range (Err e) offset buf = refl

-- told bytes agree with it
pub told_fits : {A E : Type 0} (r : Result A E) (o : Option (List ℕ)) (offset : ℕ) (buf : List ℕ) → OnOk r (IfSome o (λ file. IsRangeOf file offset buf))
    → IfSome o (λ file. Fits file (answer r offset buf ∷ []))
told_fits (Ok a) o offset buf h = if_told o (λ file k. (k, tt)) h
told_fits (Err e) o offset buf h = told_all o (λ file. (tt, tt))

-- ---- logs

-- nothing was asked for
abbrev pub has_none : {step : Step} {P : List ByteRange → Type 0} {Q : List ℕ → Type 0} (s t : SourceState)
    → t.bytes ≡ s.bytes → t.trail ≡ s.trail → P [] → ((file : List ℕ) → Q file) → HasLog step P Q s t
has_none s t b e p q = record { log = []; leads = e; told = b; tells = told_all s.bytes (λ file. tt); holds = p; files = λ file f. q file }

-- one range was read
abbrev pub has_one : {A E : Type 0} {step : Step} {P : List ByteRange → Type 0} {Q : List ℕ → Type 0} {old new : SourceState}
    (r : Result A E) (offset : ℕ) (buf : List ℕ) → new.bytes ≡ old.bytes → step old.trail (answer r offset buf) new.trail
    → OnOk r (IfSome old.bytes (λ file. IsRangeOf file offset buf))
    → P (range offset (length buf) ∷ []) → ((file : List ℕ) → OnOk r (IsRangeOf file offset buf) → Q file) → HasLog step P Q old new
has_one {step = step} {P = P} {Q = Q} {old = old} {new = new} r offset buf b e t p q = record {
  log = answer r offset buf ∷ [];
  leads = (new.trail, e, refl);
  told = b;
  tells = told_fits r old.bytes offset buf t;
  holds = subst (λ x. P (x ∷ [])) (sym (asked_range r offset buf)) p;
  files = λ file f. q file (fits_one file r f.0);
}
  where
    fits_one : {A E : Type 0} (file : List ℕ) (r : Result A E) → FitsAnswer file (answer r offset buf) → OnOk r (IsRangeOf file offset buf)
    fits_one file (Ok a) h = h
    fits_one file (Err e) h = tt

-- one log after another
pub has_append : {step : Step} (P P' : List ByteRange → Type 0) {R : List ByteRange → Type 0} (Q Q' : List ℕ → Type 0) {T : List ℕ → Type 0}
    {old mid new : SourceState}
    → HasLog step P Q old mid → HasLog step P' Q' mid new → ((a b : List ByteRange) → P a → P' b → R (a ++ b)) → ((file : List ℕ) → Q file → Q' file → T file)
    → HasLog step R T old new
has_append {step} P P' {R} Q Q' {T} {old} {mid} {new} h k f q = record {
  log = h.log ++ k.log;
  leads = leads_append step old.trail mid.trail new.trail h.log k.log h.leads k.leads;
  told = k.told ∙ h.told;
  tells = if_told_both old.bytes (λ file. fits_join file h.log k.log) h.tells (subst (λ o. IfSome o (λ file. Fits file k.log)) h.told k.tells);
  holds = subst R (sym (map-append asked h.log k.log)) (f (map asked h.log) (map asked k.log) h.holds k.holds);
  files = λ file g. let p = fits_parts file h.log k.log g in q file (h.files file p.0) (k.files file p.1);
}

-- of what was read, something weaker
pub has_weaker : {step : Step} (P : List ByteRange → Type 0) {P' : List ByteRange → Type 0} (Q : List ℕ → Type 0) {Q' : List ℕ → Type 0} {old new : SourceState}
    → HasLog step P Q old new → ((log : List ByteRange) → P log → P' log) → ((file : List ℕ) → Q file → Q' file) → HasLog step P' Q' old new
has_weaker P Q h f q = record {
  log = h.log;
  leads = h.leads;
  told = h.told;
  tells = h.tells;
  holds = f (map asked h.log) h.holds;
  files =
      λ file g. q file (h.files file g);
}

-- its ranges
pub has_ranges : {step : Step} {P : List ByteRange → Type 0} {Q : List ℕ → Type 0} {old new : SourceState}
    → HasLog step P Q old new → HasRanges step P old.trail new.trail
has_ranges h = record { log = h.log; leads = h.leads; holds = h.holds }

-- what is known of each file that agrees holds of told bytes
pub has_told : {step : Step} {P : List ByteRange → Type 0} {Q : List ℕ → Type 0} {old new : SourceState}
    → HasLog step P Q old new → IfSome old.bytes Q
has_told {old = old} h = if_told old.bytes (λ file f. h.files file f) h.tells

-- ---- calls

-- a call that asked for one range, where the length alone was asked before
abbrev pub asks_one : {A B E F : Type 0} {step : Step} {P : List ByteRange → Type 0} {Q : List ℕ → Type 0} {is_failure : F → Bool}
    (r : Result A E) (s : Result B F) (old mid new : SourceState) (offset : ℕ) (buf : List ℕ)
    → mid.bytes ≡ old.bytes → mid.trail ≡ old.trail → mid.failures ≡ old.failures
    → new.bytes ≡ mid.bytes → step mid.trail (answer r offset buf) new.trail → new.failures ≡ failures_after is_any r mid.failures
    → OnOk r (IfSome mid.bytes (λ file. IsRangeOf file offset buf)) → ((n : ℕ) → failures_after is_any r n ≡ failures_after is_failure s n)
    → P (range offset (length buf) ∷ []) → ((file : List ℕ) → OnOk r (IsRangeOf file offset buf) → Q file) → Asks step P Q is_failure s old new
asks_one {step = step} {is_failure = is_failure} r s old mid new offset buf told trail count told' trail' count' given same p q = record {
  log = has_one r offset buf (told' ∙ told) (subst (λ t. step t (answer r offset buf) new.trail) trail trail')
      (subst (λ o. OnOk r (IfSome o (λ file. IsRangeOf file offset buf))) told given) p q;
  count = count' ∙ same mid.failures ∙ ap (failures_after is_failure s) count;
}

-- of what a call asked for, and of the files, something weaker, where the same failures are counted by another answer
pub asks_weaker : {A B E F : Type 0} {step : Step} (P : List ByteRange → Type 0) {P' : List ByteRange → Type 0} (Q : List ℕ → Type 0) {Q' : List ℕ → Type 0}
    {is_failure : E → Bool} {is_failure' : F → Bool} {r : Result A E} (s : Result B F) {old new : SourceState}
    → ((n : ℕ) → failures_after is_failure r n ≡ failures_after is_failure' s n)
    → Asks step P Q is_failure r old new → ((log : List ByteRange) → P log → P' log) → ((file : List ℕ) → Q file → Q' file)
    → Asks step P' Q' is_failure' s old new
asks_weaker P Q s {old = old} same h f q = record { log = has_weaker P Q h.log f q; count = h.count ∙ same old.failures }

-- A call in which nothing failed, and then another, where the failures of this one are counted by another answer.
pub asks_then : {A B C E F G : Type 0} {step : Step} (P P' : List ByteRange → Type 0) {R : List ByteRange → Type 0} (Q Q' : List ℕ → Type 0)
    {T : List ℕ → Type 0}
    {is_first : E → Bool} {is_second : F → Bool} {is_failure : G → Bool} {r : Result A E} {s : Result B F} (t : Result C G) {old mid new : SourceState}
    → ((n : ℕ) → failures_after is_first r n ≡ n) → ((n : ℕ) → failures_after is_second s n ≡ failures_after is_failure t n)
    → Asks step P Q is_first r old mid → Asks step P' Q' is_second s mid new
    → ((a b : List ByteRange) → P a → P' b → R (a ++ b)) → ((file : List ℕ) → Q file → Q' file → T file) → Asks step R T is_failure t old new
asks_then P P' Q Q' {is_failure = is_failure} t {old = old} {mid = mid} none same h k f q = record {
  log = has_append P P' Q Q' h.log k.log f q;
  count = k.count ∙ same mid.failures ∙ ap (failures_after is_failure t) (h.count ∙ none old.failures);
}

-- a failed read of the header, as an error of a run
pub open_failures : (e : OpenError) (n : ℕ) → failures_after {A = Unit {0}} is_open_failed (Err e) n
    ≡ failures_after {A = Unit {0}} is_read_failed (Err (run_error e)) n
open_failures (Refused refusal) n = refl
open_failures ReadFailed n = refl
