-- From the first record of a journal to its end.
use Rattle.std.proofs.Common.{◌≡◌, ℕ, suc, zero, ◌<◌, ◌≤◌, ◌+◌, ◌-◌, ◌*◌, ◌/◌, Bool, true, false, List, [], ◌∷◌, ◌++◌}
use Rattle.std.proofs.Common.{length, take, drop, refl, sym, ap, subst, ◌∙◌, arith, cond, inl, inr}
use Rattle.std.specs.Prelude.{◌%◌, ◌⊎◌, ◌==◌, slice_index, Some, None, Ok, Err}
use Rattle.std.specs.List.{Any}
use Rattle.std.proofs.lemmas.Bool.Decides.{nat_tests}
use Rattle.std.proofs.lemmas.List.{append-nil, append_assoc, get_or-take, get_or_append_left, get_or_push, length-take-le, length-append, length_push}
use Rattle.std.proofs.lemmas.List.Elements.{All-push, All-nil}
use Rattle.std.proofs.lemmas.List.Quantifiers.{Any-push}
use Rattle.dbformat.specs.Numbers.{u32_at}
use Rattle.dbformat.specs.Log.{range}
use Rattle.dbsource.specs.Answers.{IsRangeOf, Step, failed}
use Rattle.dbsource.specs.Failures.{one_more}
use Rattle.dbsource.specs.Sources.{SourceState}
use Rattle.dbsource.specs.declared.memory.NoMemory.{NoMemory}
use Rattle.dblog.specs.Entries.{Gathering, Gathers, IsIndexOf}
use Rattle.dblog.specs.Journal.{Kept, kept_at, next_place, place_after, record_at, records_from, with_next}
use Rattle.dblog.specs.JournalReading.{AreBefore, AreUnits, GathersRecords, IndexesRecords, IsKept, MovesOn, ReadsPlaces, ReadsRecords}
use Rattle.dblog.specs.Reading.{Reads, longest_read}
use Rattle.dblog.specs.declared.entry.Entry.{Entry}
use Rattle.dblog.specs.declared.journal_error.JournalError.{JournalError}
use Rattle.dblog.specs.declared.journal_error.JournalError.TheVariants.{OutOfMemory, ReadFailed}
use Rattle.dblog.specs.declared.journal.Place.{Place}
use Rattle.dblog.specs.declared.journal.Shape.{Shape}
use Rattle.dblog.proofs.Latest.{any_append, below_cases, gathers_pad, length_pad, pad}
use Rattle.dblog.proofs.ReadSteps.{range_back, range_front, reads_failed, reads_join, reads_none}

-- ---- the units

abbrev IsOf : ℕ → ℕ → Kept → Type 0
IsOf page k r = (r.page ≡ page) × (r.at ≡ 8 * k)

abbrev HasUnit : List ℕ → Kept → Type 0
HasUnit pages r = (0 < r.page) × (k : ℕ) × (k < length pages) × (r.at ≡ 8 * k) × (slice_index pages k ≡ r.page)

has_unit_more : (pages : List ℕ) (page : ℕ) (r : Kept) → HasUnit pages r → HasUnit (pages ++ page ∷ []) r
has_unit_more pages page r (some, k, l, a, p) =
    (some, k, omega (arith, l, length_push pages page), a, get_or_append_left pages (page ∷ []) 0 k l ∙ p)

units_zero : (pages : List ℕ) (kept : List Kept) → AreUnits pages kept → AreUnits (pages ++ 0 ∷ []) kept
units_zero pages kept h = record {
  named = λ k l m. by_place k m (below_cases k (length pages) (omega (arith, length_push pages 0)));
  all = λ k d l. has_unit_more pages 0 _ (h.all k d l);
}
  where
    by_place : (k : ℕ) → 0 < slice_index (pages ++ 0 ∷ []) k → (k < length pages) ⊎ (k ≡ length pages)
        → Any (IsOf (slice_index (pages ++ 0 ∷ []) k) k) kept
    by_place k m (inl l) =
        let e = get_or_append_left pages (0 ∷ []) 0 k l in
        subst (λ n. Any (IsOf n k) kept) (sym e) (h.named k l (subst (λ n. 0 < n) e m))
    by_place k m (inr e) = absurd (omega (arith, m, get_or_push pages 0 0 k (sym e)))

pub units_pad : (n : ℕ) (pages : List ℕ) (kept : List Kept) → AreUnits pages kept → AreUnits (pad n pages) kept
units_pad zero pages kept h = h
units_pad (suc n) pages kept h = units_pad n (pages ++ 0 ∷ []) kept (units_zero pages kept h)

pub units_push : (pages : List ℕ) (kept : List Kept) (page at : ℕ) → 0 < page → at ≡ 8 * length pages → AreUnits pages kept
    → AreUnits (pages ++ page ∷ []) (kept ++ (record { page = page; at = at }) ∷ [])
units_push pages kept page at some z h = record {
  named = λ k l m. by_place k m (below_cases k (length pages) (omega (arith, length_push pages page)));
  all = All-push (HasUnit (pages ++ page ∷ [])) kept (record { page = page; at = at }) (λ k d l. has_unit_more pages page _ (h.all k d l))
      (some, length pages, omega (arith, length_push pages page), z, get_or_push pages page 0 (length pages) refl);
}
  where
    by_place : (k : ℕ) → 0 < slice_index (pages ++ page ∷ []) k → (k < length pages) ⊎ (k ≡ length pages)
        → Any (IsOf (slice_index (pages ++ page ∷ []) k) k) (kept ++ (record { page = page; at = at }) ∷ [])
    by_place k m (inl l) =
        let e = get_or_append_left pages (page ∷ []) 0 k l in
        any_append (IsOf (slice_index (pages ++ page ∷ []) k) k) kept ((record { page = page; at = at }) ∷ [])
        (subst (λ n. Any (IsOf n k) kept) (sym e) (h.named k l (subst (λ n. 0 < n) e m)))
    by_place k m (inr e) = Any-push (IsOf (slice_index (pages ++ page ∷ []) k) k) kept (record { page = page; at = at })
        (sym (get_or_push pages page 0 k (sym e)), z ∙ ap (λ n. 8 * n) (sym e))

before_zero : (pages : List ℕ) (count : ℕ) → AreBefore pages count → AreBefore (pages ++ 0 ∷ []) count
before_zero pages count h k l m = by_place (below_cases k (length pages) (omega (arith, l, length_push pages 0)))
  where
    by_place : (k < length pages) ⊎ (k ≡ length pages) → k < count
    by_place (inl n) = h k n (subst (λ x. 0 < x) (get_or_append_left pages (0 ∷ []) 0 k n) m)
    by_place (inr e) = absurd (omega (arith, m, get_or_push pages 0 0 k (sym e)))

before_pad : (n : ℕ) (pages : List ℕ) (count : ℕ) → AreBefore pages count → AreBefore (pad n pages) count
before_pad zero pages count h = h
before_pad (suc n) pages count h = before_pad n (pages ++ 0 ∷ []) count (before_zero pages count h)

-- so the first of them are all
pub units_take : (pages : List ℕ) (kept : List Kept) (count : ℕ) → count ≤ length pages → AreBefore pages count → AreUnits pages kept
    → AreUnits (take count pages) kept
units_take pages kept count le b h = record {
  named = λ k l m. let lt : k < count = omega (arith, l, length-take-le count pages le) in
      let e = get_or-take count pages k 0 lt in
      subst (λ n. Any (IsOf n k) kept) (sym e) (h.named k (omega (arith, lt, le)) (subst (λ n. 0 < n) e m));
  all = λ k d l. let (some, j, m, a, p) = h.all k d l in
      let lt : j < count = b j m (omega (arith, some, p)) in
      (some, j, omega (arith, lt, length-take-le count pages le), a, get_or-take count pages j 0 lt ∙ p);
}

-- ---- the records

pub records_more : (n : ℕ) (s : Shape) (file : List ℕ) (p q : Place) → 0 < n → next_place s file p ≡ Some q
    → records_from n s file p ≡ kept_at s file p ++ records_from (n - 1) s file q
records_more zero s file p q l e = absurd (omega arith)
records_more (suc n) s file p q l e =
    let one : suc n - 1 ≡ n = omega arith in
    ap (with_next (kept_at s file p) (λ x. records_from n s file x)) e ∙ sym (ap (λ k. kept_at s file p ++ records_from k s file q) one)

pub records_end : (n : ℕ) (s : Shape) (file : List ℕ) (p : Place) → next_place s file p ≡ None → records_from n s file p ≡ []
records_end zero s file p e = refl
records_end (suc n) s file p e = ap (with_next (kept_at s file p) (λ x. records_from n s file x)) e

pub none_kept : (s : Shape) (file : List ℕ) (p : Place) → p.left ≡ 0 → kept_at s file p ≡ []
none_kept s file p e = rw e refl

kept_one : (s : Shape) (file : List ℕ) (p : Place) (seen : List ℕ) → 0 < p.left → length seen ≡ s.page_size + 8 → IsRangeOf file p.at seen
    → kept_at s file p ≡ (record { page = u32_at 0 seen; at = p.at }) ∷ []
kept_one s file p seen l z r =
    let e : (p.left == 0) ≡ false = grind (arith, nat_tests) in
    let same : record_at s file p.at ≡ seen = sym (r.1 ∙ ap (λ n. take n (drop p.at file)) z) in
    rw e (ap (λ x. (record { page = u32_at 0 x; at = p.at }) ∷ []) same)

-- ---- what was gathered of them

-- what was gathered before this place, if there is a next one
pub record GathersAt (entries : Gathering) (kept : List Kept) (goes_on : Bool) (at : ℕ) : Type 0 where
  pub pages : List ℕ
  pub units : AreUnits pages kept
  pub before : AreBefore pages entries.committed
  pub least : entries.committed ≤ length pages
  pub gathers : Gathers entries.entries pages entries.committed
  pub long : goes_on ≡ true → 8 * length pages ≡ at

no_units : AreUnits [] []
no_units = record { named = λ k l. absurd (omega arith); all = All-nil (HasUnit []) }

gathers_start : (entries : Gathering) (at : ℕ) → at % 8 ≡ 0 → Gathers entries.entries [] 0 → entries.committed ≡ 0 → GathersAt entries [] true at
gathers_start entries at z h c = record {
  pages = pad (at / 8) [];
  units = units_pad (at / 8) [] [] no_units;
  before = before_pad (at / 8) [] entries.committed (λ k l. absurd (omega arith));
  least = omega (arith, c);
  gathers = gathers_pad (at / 8) entries.entries [] entries.committed (subst (Gathers entries.entries []) (sym c) h);
  long = λ e. let l : length (pad (at / 8) []) ≡ at / 8 = length_pad (at / 8) [] ∙ omega arith in omega (arith, l, z);
}

gathers_between : (entries : Gathering) (kept : List Kept) (at to : ℕ) → at % 8 ≡ 0 → to % 8 ≡ 0 → at ≤ to → GathersAt entries kept true at
    → GathersAt entries kept true to
gathers_between entries kept at to z y l g =
    let n = (to - at) / 8 in
    let long : length (pad n g.pages) ≡ length g.pages + n = length_pad n g.pages in
    record {
      pages = pad n g.pages;
      units = units_pad n g.pages kept g.units;
      before = before_pad n g.pages entries.committed g.before;
      least = omega (arith, g.least, long);
      gathers = gathers_pad n entries.entries g.pages entries.committed g.gathers;
      long = λ e. let b = g.long refl in omega (arith, long, b, z, y, l);
    }

gathers_record : (s : Shape) (seen : List ℕ) (p : Place) (before after : Gathering) (kept : List Kept) (to : ℕ) → p.at % 8 ≡ 0 → to % 8 ≡ 0
    → to ≡ p.at + length seen → IsKept s seen p before after → GathersAt before kept true p.at
    → GathersAt after (kept ++ (record { page = u32_at 0 seen; at = p.at }) ∷ []) true to
gathers_record s seen p before after kept to z y d k g =
    let page = u32_at 0 seen in
    let was : 8 * length g.pages ≡ p.at = g.long refl in
    let unit : length g.pages ≡ p.at / 8 = omega (arith, was) in
    let next : GathersAt after (kept ++ (record { page = page; at = p.at }) ∷ []) true (p.at + 8) = record {
      pages = g.pages ++ page ∷ [];
      units = units_push g.pages kept page p.at k.some (sym was) g.units;
      before = λ j l m. omega (arith, l, k.committed, unit, length_push g.pages page);
      least = omega (arith, k.committed, unit, length_push g.pages page);
      gathers = subst (Gathers after.entries (g.pages ++ page ∷ [])) (sym k.committed)
          (k.gathers g.pages unit (omega (arith, g.least, unit)) g.gathers);
      long = λ e. omega (arith, was, length_push g.pages page);
    } in
    gathers_between after (kept ++ (record { page = page; at = p.at }) ∷ []) (p.at + 8) to (omega (arith, z)) y (omega (arith, d, k.size)) next

-- ---- a walk from place to place

pub record Walked (step : Step) (s : Shape) (first place : Place) (goes_on : Bool) (old new : SourceState) (before after : Gathering) : Type 0 where
  pub seen : List ℕ
  pub reads : Reads step first.at false old new seen
  pub short : first.at + length seen ≤ s.len
  pub at : goes_on ≡ true → place.at ≡ first.at + length seen
  pub eighth : goes_on ≡ true → place.at % 8 ≡ 0
  pub n : ℕ
  pub room : goes_on ≡ true → s.len ≤ place.at + n
  pub kept : List Kept
  pub all : (file : List ℕ) → length file ≡ s.len → IsRangeOf file first.at seen
      → records_from s.len s file first ≡ kept ++ cond goes_on (records_from n s file place) []
  pub gathered : Gathers before.entries [] 0 → before.committed ≡ 0 → GathersAt after kept goes_on place.at

pub walked_start : {step : Step} (s : Shape) (first : Place) (old : SourceState) (before : Gathering) → first.at ≤ s.len → first.at % 8 ≡ 0
    → Walked step s first first true old old before before
walked_start s first old before l z = record {
  seen = [];
  reads = reads_none first.at old old refl refl refl;
  short = omega (arith, l);
  at = λ e. omega arith;
  eighth = λ e. z;
  n = s.len;
  room = λ e. omega arith;
  kept = [];
  all = λ file m r. refl;
  gathered = λ h c. gathers_start before first.at z h c;
}

module _ {step : Step} (s : Shape) (first p q : Place) (old mid new : SourceState) (before g0 g1 : Gathering) where
  further_range : (w : Walked step s first p true old mid before g0) (seen file : List ℕ) → IsRangeOf file first.at (w.seen ++ seen) → IsRangeOf file p.at seen
  further_range w seen file r = subst (λ n. IsRangeOf file n seen) (sym (w.at refl)) (range_back file first.at w.seen seen r)

  walked_on : (w : Walked step s first p true old mid before g0) (m : MovesOn step s (Ok true) mid new p q g0 g1) (own : List Kept)
      → ((file : List ℕ) → IsRangeOf file p.at m.finds.seen → kept_at s file p ≡ own)
      → (GathersAt g0 w.kept true p.at → GathersAt g1 (w.kept ++ own) true q.at)
      → Walked step s first q true old new before g1
  walked_on w m own is gathers =
      let to : q.at ≡ p.at + length m.finds.seen = m.finds.found.further refl in
      let from : p.at ≡ first.at + length w.seen = w.at refl in
      let moves = m.finds.found.moves refl in
      record {
        seen = w.seen ++ m.finds.seen;
        reads = reads_join w.seen m.finds.seen from w.reads m.finds.reads;
        short = omega (arith, from, m.finds.short, length-append w.seen m.finds.seen);
        at = λ e. omega (arith, to, from, length-append w.seen m.finds.seen);
        eighth = λ e. m.finds.found.eighth refl (w.eighth refl);
        n = w.n - 1;
        room = λ e. let b = w.room refl in omega (arith, b, to, moves);
        kept = w.kept ++ own;
        all = λ file n r.
            let there = further_range w m.finds.seen file r in
            let some : 0 < w.n = (let b = w.room refl in omega (arith, b, m.finds.short, moves)) in
            w.all file n (range_front file first.at w.seen m.finds.seen r)
            ∙ ap (λ x. w.kept ++ x) (records_more w.n s file p q some (m.finds.found.next file n there)
            ∙ ap (λ x. x ++ records_from (w.n - 1) s file q) (is file there))
            ∙ sym (append_assoc w.kept own (records_from (w.n - 1) s file q));
        gathered = λ h c. gathers (w.gathered h c);
      }

  pub walked_more : (w : Walked step s first p true old mid before g0) → MovesOn step s (Ok true) mid new p q g0 g1
      → Walked step s first q true old new before g1
  walked_more w m = by_left (left_or p.left)
    where
      left_or : (n : ℕ) → (n ≡ 0) ⊎ (0 < n)
      left_or zero = inl refl
      left_or (suc n) = inr (omega arith)

      to : q.at ≡ p.at + length m.finds.seen
      to = m.finds.found.further refl

      by_left : (p.left ≡ 0) ⊎ (0 < p.left) → Walked step s first q true old new before g1
      by_left (inl z) = walked_on w m [] (λ file r. none_kept s file p z)
          (λ g. subst (λ x. GathersAt x (w.kept ++ []) true q.at) (sym (m.between z)) (subst (λ x. GathersAt g0 x true q.at) (sym (append-nil w.kept))
          (gathers_between g0 w.kept p.at q.at (w.eighth refl) (m.finds.found.eighth refl (w.eighth refl)) (omega (arith, to)) g)))
      by_left (inr l) = walked_on w m ((record { page = u32_at 0 m.finds.seen; at = p.at }) ∷ [])
          (λ file r. kept_one s file p m.finds.seen l (m.kept l).size r)
          (λ g. gathers_record s m.finds.seen p g0 g1 w.kept q.at (w.eighth refl) (m.finds.found.eighth refl (w.eighth refl)) to (m.kept l) g)

  pub walked_end : (w : Walked step s first p true old mid before g0) → MovesOn step s (Ok false) mid new p q g0 g1
      → Walked step s first q false old new before g1
  walked_end w m = record {
    seen = w.seen ++ m.finds.seen;
    reads = reads_join w.seen m.finds.seen (w.at refl) w.reads m.finds.reads;
    short = (let from = w.at refl in omega (arith, from, m.finds.short, length-append w.seen m.finds.seen));
    at = λ e. absurd cc;
    eighth = λ e. absurd cc;
    n = 0;
    room = λ e. absurd cc;
    kept = w.kept;
    all = λ file n r.
        w.all file n (range_front file first.at w.seen m.finds.seen r)
        ∙ ap (λ x. w.kept ++ x) (records_end w.n s file p (m.finds.found.next file n (further_range w m.finds.seen file r)));
    gathered = λ h c. let g = w.gathered h c in subst (λ x. GathersAt x w.kept false q.at) (sym same) (record {
      pages = g.pages;
      units = g.units;
      before = g.before;
      least = g.least;
      gathers = g.gathers;
      long = λ e. absurd cc;
    });
  }
    where
      left_or : (n : ℕ) → (n ≡ 0) ⊎ (0 < n)
      left_or zero = inl refl
      left_or (suc n) = inr (omega arith)

      by_left : (p.left ≡ 0) ⊎ (0 < p.left) → g1 ≡ g0
      by_left (inl z) = m.between z
      by_left (inr l) = m.kept l

      same : g1 ≡ g0
      same = by_left (left_or p.left)

  pub walked_failed : {X : Type 0} (e : JournalError) → Walked step s first p true old mid before g0 → MovesOn step s (Err e) mid new p q g0 g1
      → ReadsPlaces {X = X} step s (Err e) old new first before g1
  walked_failed e w m = record {
    seen = w.seen ++ m.finds.seen;
    reads = reads_join w.seen m.finds.seen (w.at refl) w.reads m.finds.reads;
    within = m.finds.within;
    short = (let from = w.at refl in omega (arith, from, m.finds.short, length-append w.seen m.finds.seen));
    kept = [];
    all = tt;
    gathered = tt;
    unmeasured = m.finds.unmeasured;
  }

pub walked_next : {step : Step} (s : Shape) (first p q : Place) (old mid new : SourceState) (before g0 g1 : Gathering) (b : Bool)
    → Walked step s first p true old mid before g0 → MovesOn step s (Ok b) mid new p q g0 g1 → Walked step s first q b old new before g1
walked_next s first p q old mid new before g0 g1 true w m = walked_more s first p q old mid new before g0 g1 w m
walked_next s first p q old mid new before g0 g1 false w m = walked_end s first p q old mid new before g0 g1 w m

pub below_next : {step : Step} (s : Shape) (p q : Place) (mid new : SourceState) (g0 g1 : Gathering) (b : Bool)
    → MovesOn step s (Ok b) mid new p q g0 g1 → b ≡ true → (q.at ≤ s.len) × (p.at < q.at)
below_next s p q mid new g0 g1 true m e =
    let to = m.finds.found.further refl in
    let moves = m.finds.found.moves refl in
    (omega (arith, to, m.finds.short), omega (arith, to, moves))
below_next s p q mid new g0 g1 false m e = absurd cc

pub walked_all : {X : Type 0} {step : Step} (x : X) (s : Shape) (first place : Place) (old new : SourceState) (before after : Gathering)
    → Walked step s first place false old new before after → ReadsPlaces {X = X} step s (Ok x) old new first before after
walked_all x s first place old new before after w = record {
  seen = w.seen;
  reads = w.reads;
  within = (let e = w.reads.ends refl in omega (arith, e, w.short));
  short = w.short;
  kept = w.kept;
  all = λ file n r. w.all file n r ∙ append-nil w.kept;
  gathered = λ h c. let g = w.gathered h c in record { pages = g.pages; units = g.units; before = g.before; least = g.least; gathers = g.gathers };
  unmeasured = tt;
}

pub indexed : (entries : Gathering) (new : List Entry) (kept : List Kept) → GathersRecords entries kept
    → ((pages : List ℕ) → entries.committed ≤ length pages → Gathers entries.entries pages entries.committed → IsIndexOf new (take entries.committed pages))
    → IndexesRecords new kept
indexed entries new kept g f = record {
  pages = take entries.committed g.pages;
  units = units_take g.pages kept entries.committed g.least g.before g.units;
  index = f g.pages g.least g.gathers;
}

-- what was read after the first head: the rest of its sector, and then the records
pub records_read : {X : Type 0} {step : Step} (entries : X → List Entry) (x : X) (s : Shape) (h rest : List ℕ) (first : Place) (old mid new : SourceState)
    (before after : Gathering) → first ≡ place_after s h 0 → 28 + length rest ≡ s.sector → first.at ≡ s.sector
    → Reads step 28 false old mid rest → Gathers before.entries [] 0 → before.committed ≡ 0
    → ReadsPlaces {X = Unit {0}} step s (Ok (tt {0})) mid new first before after
    → ((pages : List ℕ) → after.committed ≤ length pages → Gathers after.entries pages after.committed → IsIndexOf (entries x) (take after.committed pages))
    → ReadsRecords step s h (Ok x) entries old new
records_read entries x s h rest first old mid new before after is long at read gb cb w f = record {
  seen = rest ++ w.seen;
  reads = reads_join rest w.seen (omega (arith, long, at)) read w.reads;
  within = w.within;
  short = omega (arith, w.short, long, at, length-append rest w.seen);
  indexes = λ file n r.
      let there : IsRangeOf file first.at w.seen =
      subst (λ k. IsRangeOf file k w.seen) (let e : 28 + length rest ≡ first.at = omega (arith, long, at) in e) (range_back file 28 rest w.seen r) in
      subst (λ ks. IndexesRecords (entries x) ks) (sym (ap (records_from s.len s file) (sym is) ∙ w.all file n there))
      (indexed after (entries x) w.kept (w.gathered gb cb) f);
  unmeasured = tt;
}

pub records_failed : {X : Type 0} {step : Step} (entries : X → List Entry) (s : Shape) (h rest : List ℕ) (first : Place) (old mid new : SourceState)
    (before after : Gathering) (e : JournalError)
    → 28 + length rest ≡ s.sector → first.at ≡ s.sector → Reads step 28 false old mid rest
    → ReadsPlaces {X = Unit {0}} step s (Err e) mid new first before after → ReadsRecords {X = X} step s h (Err e) entries old new
records_failed entries s h rest first old mid new before after e long at read w = record {
  seen = rest ++ w.seen;
  reads = reads_join rest w.seen (omega (arith, long, at)) read w.reads;
  within = w.within;
  short = omega (arith, w.short, long, at, length-append rest w.seen);
  indexes = tt;
  unmeasured = w.unmeasured;
}

pub records_refused : {X : Type 0} {step : Step} (entries : X → List Entry) (s : Shape) (h : List ℕ) (old : SourceState) (refused : NoMemory) → 28 ≤ s.len
    → ReadsRecords {X = X} step s h (Err (OutOfMemory refused)) entries old old
records_refused {step = step} entries s h old refused l = record {
  seen = [];
  reads = reads_none {step = step} 28 old old refl refl refl;
  within = l;
  short = omega (arith, l);
  indexes = tt;
  unmeasured = λ e. absurd cc;
}

pub records_unread : {X : Type 0} {step : Step} (entries : X → List Entry) (s : Shape) (h buf : List ℕ) (old new : SourceState) → 28 + length buf ≤ s.len
    → length buf ≤ longest_read → new.bytes ≡ old.bytes → step old.trail (failed (range 28 (length buf))) new.trail → new.failures ≡ one_more old.failures
    → ReadsRecords {X = X} step s h (Err ReadFailed) entries old new
records_unread entries s h buf old new l m b p c = record {
  seen = [];
  reads = reads_failed 28 buf old new m b p c;
  within = omega (arith, l);
  short = omega (arith, l);
  indexes = tt;
  unmeasured = λ e. absurd cc;
}
