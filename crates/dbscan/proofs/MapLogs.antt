-- What is read of the pointer map: page after page, and after what walks read.
use Rattle.dbscan.proofs.Common.{◌≡◌, ◌≢◌, ℕ, ◌+◌, ◌<◌, ◌≤◌, true, false, inl, inr, List, [], ◌∷◌, ◌++◌, Some, Result, Ok, Err, refl, sym, ap, ap₂, ◌∙◌, subst}
use Rattle.dbscan.proofs.Common.{arith, IfErr, is_some, append-nil, nat_tests, fixed_use, is_fixed, lock_page, page_range, IsPageLog, Geometry, Step}
use Rattle.dbscan.proofs.Common.{is_read_failed, failures_after, Asks, SourceState, RunError, WriteFailed, is_unmarked, AreMarksFor, Reads, Mark, IsUnmarked}
use Rattle.dbscan.proofs.Common.{ReadsMarked, ReadsRising, IsMapInUse, MapReads, both_ways, map-append, IsIn-cases, EachPair-append, Map, has_none, keeps_same}
use Rattle.dbsurvey.proofs.Elements.{each_weaker}
use Rattle.dbformat.specs.Log.{IsReadable}
use Rattle.dbformat.specs.declared.ByteRange.{ByteRange}
use Rattle.dbmarks.proofs.Unfixed.{marks_for-kept, readable, unmarked_unfixed}
use Rattle.dbscan.specs.Looks.{ReadsOrNot, ReadsRisingBefore}
use Rattle.dbscan.proofs.MapPlaces.{at_position}

-- ---- page after page

pub reads_none : (size : ℕ) (Q : ℕ → Type 0) (next : ℕ) → ReadsRisingBefore size Q next []
reads_none size Q next = record { reads = record { pages = []; ranges = refl; rising = tt; each = λ p i. absurd i }; before = λ p i. absurd i }

pub reads_more : (size : ℕ) (Q : ℕ → Type 0) (next p : ℕ) (log turn : List ByteRange) → next ≤ p → ReadsRisingBefore size Q next log → ReadsOrNot size Q p turn
    → ReadsRisingBefore size Q (p + 1) (log ++ turn)
reads_more size Q next p log turn n h (inl e) = subst (ReadsRisingBefore size Q (p + 1)) (sym (ap (λ l. log ++ l) e ∙ append-nil log))
    (record { reads = h.reads; before = λ q i. let k = h.before q i in omega arith })
reads_more size Q next p log turn n h (inr e) = record {
  reads = record {
    pages = h.reads.pages ++ (p ∷ []);
    ranges = ap₂ (λ a b. a ++ b) h.reads.ranges e.0 ∙ sym (map-append (page_range size) h.reads.pages (p ∷ []));
    rising = EachPair-append (λ a b. a < b) h.reads.pages (p ∷ []) h.reads.rising ((λ q i. absurd i), tt)
        (λ q r i j. elim j [ inl k ↦ (let m = h.before q i in let l : q < p = omega arith in subst (λ y. q < y) (sym k) l) | inr z ↦ absurd z ]);
    each = λ q i. elim (IsIn-cases q h.reads.pages (p ∷ []) i) [
      | inl j ↦ h.reads.each q j
      | inr j ↦ elim j [ inl k ↦ subst Q (sym k) e.1 | inr z ↦ absurd z ]
    ];
  };
  before = λ q i. elim (IsIn-cases q h.reads.pages (p ∷ []) i) [
    | inl j ↦ (let k = h.before q j in omega arith)
    | inr j ↦ elim j [ inl k ↦ omega arith | inr z ↦ absurd z ]
  ];
}

-- where only a write failed, nothing was asked for
pub asks_nothing : {A : Type 0} (step : Step) (P : List ByteRange → Type 0) {Q : List ℕ → Type 0} (r : Result A RunError) (s : SourceState)
    → IfErr r (λ e. e ≡ WriteFailed) → P [] → ((file : List ℕ) → Q file) → Asks step P Q is_read_failed r s s
asks_nothing {A} step P r s only holds q = record { log = has_none s s refl refl holds q; count = uncounted r only }
  where
    uncounted : (r : Result A RunError) → IfErr r (λ e. e ≡ WriteFailed) → s.failures ≡ failures_after is_read_failed r s.failures
    uncounted (Ok u) h = refl
    uncounted (Err e) h = subst (λ (x : RunError). s.failures ≡ failures_after {A = A} is_read_failed (Err x) s.failures) (sym h) refl

-- ---- the pages that are read

-- such a page is of fixed use, and may be read
pub map_is_fixed : (g : Geometry) (p : ℕ) → IsMapInUse g p → is_fixed g p ≡ true
map_is_fixed g p h = ap is_some h.0

unlocked : (g : Geometry) (p : ℕ) → fixed_use g p ≡ Some Map → p ≢ lock_page g.page_size
unfolding fixed_use
unlocked g p h e = grind (arith, nat_tests)

pub map_is_readable : (g : Geometry) (p : ℕ) → IsMapInUse g p → IsReadable g p
map_is_readable g p h = record { from_one = let k = (at_position g p h.0).0 in omega arith; within = let k = h.1 in omega arith; unlocked = unlocked g p h.0 }

apart : (p q : ℕ) → p < q → p ≢ q
apart p q l e = omega arith

-- the log of the walks joined with that of the map, which is read after them: no walk reads a page of fixed use, and each page
-- that it reads has a mark
pub walk_then_map_log : (g : Geometry) (old new : List Mark) (walked mapped : List ByteRange) → AreMarksFor g old
    → Reads g.page_size old new walked → MapReads g mapped → ReadsMarked g new (walked ++ mapped)
walk_then_map_log g old new walked mapped m h k = record {
  whole = after;
  pages = record {
    pages = h.pages ++ k.pages;
    ranges = ap₂ (λ a b. a ++ b) h.ranges k.ranges ∙ sym (map-append (page_range g.page_size) h.pages k.pages);
    readable = λ p i. elim (IsIn-cases p h.pages k.pages i) [
      | inl j ↦ readable g old p m (h.fresh p j)
      | inr j ↦ map_is_readable g p (k.each p j)
    ];
    distinct = EachPair-append (λ p q. p ≢ q) h.pages k.pages h.distinct (each_weaker (λ p q. p < q) (λ p q. p ≢ q) k.pages apart k.rising)
        (λ p q i j e. both_ways (is_fixed g q) (subst (λ x. is_fixed g x ≡ false) e (unmarked_unfixed g old p m (h.fresh p i)).1)
        (map_is_fixed g q (k.each q j)));
  };
  marked = λ p i. elim (IsIn-cases p h.pages k.pages i) [
    | inl j ↦ h.marked p j
    | inr j ↦ fixed_marked p (map_is_fixed g p (k.each p j))
  ];
}
  where
    after : AreMarksFor g new
    after = marks_for-kept g old new m h.kept

    fixed_marked : (p : ℕ) → is_fixed g p ≡ true → is_unmarked new p ≡ false
    fixed_marked p f = let free = unmarked_unfixed g new p after in grind arith

-- of the walks alone
pub walk_log : (g : Geometry) (old new : List Mark) (walked : List ByteRange) → AreMarksFor g old → Reads g.page_size old new walked → ReadsMarked g new walked
walk_log g old new walked m h =
    subst (ReadsMarked g new) (append-nil walked) (walk_then_map_log g old new walked [] m h (reads_none g.page_size (IsMapInUse g) 1).reads)

-- of no walk
pub no_log : (g : Geometry) (marks : List Mark) → AreMarksFor g marks → ReadsMarked g marks []
no_log g marks m = walk_log g marks marks [] m (record
    { pages = []; ranges = refl; distinct = tt; fresh = λ p i. absurd i; marked = λ p i. absurd i; kept = keeps_same marks })

-- and after these, pages that have no mark
pub looks_log : (g : Geometry) (marks : List Mark) (log looks : List ByteRange)
    → ReadsMarked g marks log → ReadsRising g.page_size (IsUnmarked marks) looks → IsPageLog g (log ++ looks)
looks_log g marks log looks h k = record {
  pages = h.pages.pages ++ k.pages;
  ranges = ap₂ (λ a b. a ++ b) h.pages.ranges k.ranges ∙ sym (map-append (page_range g.page_size) h.pages.pages k.pages);
  readable = λ p i. elim (IsIn-cases p h.pages.pages k.pages i) [
    | inl j ↦ h.pages.readable p j
    | inr j ↦ readable g marks p h.whole (k.each p j)
  ];
  distinct = EachPair-append (λ p q. p ≢ q) h.pages.pages k.pages h.pages.distinct (each_weaker (λ p q. p < q) (λ p q. p ≢ q) k.pages apart k.rising)
      (λ p q i j e. both_ways (is_unmarked marks q) (subst (λ x. is_unmarked marks x ≡ false) e (h.marked p i)) (k.each q j));
}
