-- What a run over a file and a log as one read is what it read of both.
use Rattle.std.proofs.Common.{◌≡◌, ℕ, List, [], ◌∷◌, ◌++◌, length, map, take, drop, refl, sym, ap, ap₂, subst, ◌∙◌, inl, inr}
use Rattle.std.specs.Prelude.{Option, IfSome}
use Rattle.std.specs.List.{All, flat_map}
use Rattle.std.proofs.lemmas.List.{drop_at, map-append, take_at}
use Rattle.std.proofs.lemmas.List.Elements.{All-head, All-tail}
use Rattle.dbformat.specs.declared.ByteRange.{ByteRange}
use Rattle.dbsource.specs.Answers.{Answer, Fits, FitsAnswer, Front, Leads, Step, Trail, asked, changed_by}
use Rattle.dbsource.specs.Changes.{Change}
use Rattle.dbsource.proofs.Logs.{fits_join, fits_parts, leads_append}
use Rattle.dbsource.proofs.PatchedRuns.{run_told}
use Rattle.dbsource.proofs.Told.{if_told_both, told_all}
use Rattle.dblog.specs.Beside.{AsksBoth, BesideStep, Both, both_trails, entry_numbers, numbers, placed_numbers, tolds, trails}
use Rattle.dblog.specs.Laws.{BothAreRead}
use Rattle.dblog.specs.Placed.{IsInOnePage, Placed, base_ranges, log_ranges, placed_len, through}
use Rattle.dblog.specs.declared.entry.Entry.{Entry}
use Rattle.dblog.proofs.Ranges.{through_length}

-- ---- a trail says which two it is

same_entries : (es fs : List Entry) → map entry_numbers es ≡ map entry_numbers fs → es ≡ fs
same_entries [] [] e = refl
same_entries [] (f ∷ fs) e = absurd cc
same_entries (e ∷ es) [] z = absurd cc
same_entries (d ∷ es) (f ∷ fs) e =
    let first : entry_numbers d ≡ entry_numbers f = cc in
    let rest : map entry_numbers es ≡ map entry_numbers fs = cc in
    let page : d.page ≡ f.page = ap (λ (c : Change). c.offset) first in
    let bytes : d.frame ∷ [] ≡ f.frame ∷ [] = ap (λ (c : Change). c.bytes) first in
    let frame : d.frame ≡ f.frame = cc in
    ap₂ (λ x xs. x ∷ xs) (ap₂ (λ a b. let y : Entry = record { page = a; frame = b } in y) page frame) (same_entries es fs rest)

same_placed : (p q : Placed) → placed_numbers p ≡ placed_numbers q → p ≡ q
same_placed p q e =
    let head : numbers p.page_size (p.pages ∷ p.first ∷ p.stride ∷ p.base_len ∷ [])
    ≡ numbers q.page_size (q.pages ∷ q.first ∷ q.stride ∷ q.base_len ∷ []) = cc in
    let rest : map entry_numbers p.entries ≡ map entry_numbers q.entries = cc in
    let size : p.page_size ≡ q.page_size = ap (λ (c : Change). c.offset) head in
    let four : p.pages ∷ p.first ∷ p.stride ∷ p.base_len ∷ [] ≡ q.pages ∷ q.first ∷ q.stride ∷ q.base_len ∷ [] = ap (λ (c : Change). c.bytes) head in
    let pages : p.pages ≡ q.pages = cc in
    let first : p.first ≡ q.first = cc in
    let stride : p.stride ≡ q.stride = cc in
    let len : p.base_len ≡ q.base_len = cc in
    let entries = same_entries p.entries q.entries rest in
    ap (λ n. let r : Placed = record p { page_size = n } in r) size ∙ ap (λ n. let r : Placed = record p { page_size = q.page_size; pages = n } in r) pages
    ∙ ap (λ n. let r : Placed = record p { page_size = q.page_size; pages = q.pages; first = n } in r) first
    ∙ ap (λ n. let r : Placed = record q { stride = n; entries = p.entries; base_len = p.base_len } in r) stride
    ∙ ap (λ n. let r : Placed = record q { entries = p.entries; base_len = n } in r) len
    ∙ ap (λ es. let r : Placed = record q { entries = es } in r) entries

same_front : {A : Type 0} (a b c d : List A) → length a ≡ length c → a ++ b ≡ c ++ d → (a ≡ c) × (b ≡ d)
same_front a b c d l e = (
  sym (take_at a b (length a) refl) ∙ ap (take (length a)) e ∙ take_at c d (length a) (sym l),
  sym (drop_at a b (length a) refl) ∙ ap (drop (length a)) e ∙ drop_at c d (length a) (sym l),
)

pub record SameBoth (p q : Placed) (told told' : Both (Option (List ℕ))) (s t : Both Trail) : Type 0 where
  pub placed : p ≡ q
  pub base : told.base ≡ told'.base
  pub log : told.log ≡ told'.log
  pub base_trail : s.base ≡ t.base
  pub log_trail : s.log ≡ t.log

pub same_both : (p q : Placed) (told told' : Both (Option (List ℕ))) (s t : Both Trail) → both_trails p told s ≡ both_trails q told' t
    → SameBoth p q told told' s t
same_both p q told told' s t e =
    let fronts = ap (λ (x : Trail). x.fronts) e in
    let first : changed_by (placed_numbers p) told.base ≡ changed_by (placed_numbers q) told'.base = cc in
    let second : changed_by (numbers (length s.base.fronts) (length s.base.ranges ∷ []) ∷ []) told.log
    ≡ changed_by (numbers (length t.base.fronts) (length t.base.ranges ∷ []) ∷ []) told'.log = cc in
    let rest : s.base.fronts ++ s.log.fronts ≡ t.base.fronts ++ t.log.fronts = cc in
    let marks : numbers (length s.base.fronts) (length s.base.ranges ∷ []) ∷ [] ≡ numbers (length t.base.fronts) (length t.base.ranges ∷ []) ∷ [] = cc in
    let mark : numbers (length s.base.fronts) (length s.base.ranges ∷ []) ≡ numbers (length t.base.fronts) (length t.base.ranges ∷ []) = cc in
    let count : length s.base.fronts ≡ length t.base.fronts = ap (λ (c : Change). c.offset) mark in
    let one : length s.base.ranges ∷ [] ≡ length t.base.ranges ∷ [] = ap (λ (c : Change). c.bytes) mark in
    let size : length s.base.ranges ≡ length t.base.ranges = cc in
    let f = same_front s.base.fronts s.log.fronts t.base.fronts t.log.fronts count rest in
    let r = same_front s.base.ranges s.log.ranges t.base.ranges t.log.ranges size (ap (λ (x : Trail). x.ranges) e) in
    let numbered : placed_numbers p ≡ placed_numbers q = cc in
    record {
      placed = same_placed p q numbered;
      base = (let k : told.base ≡ told'.base = cc in k);
      log = (let k : told.log ≡ told'.log = cc in k);
      base_trail = same_parts s.base t.base f.0 r.0;
      log_trail = same_parts s.log t.log f.1 r.1;
    }
  where
    same_parts : (x y : Trail) → x.fronts ≡ y.fronts → x.ranges ≡ y.ranges → x ≡ y
    same_parts x y f r = ap₂ (λ (a : List Front) (b : List ByteRange). let z : Trail = record { fronts = a; ranges = b } in z) f r

-- ---- what was asked of both

record Below (bs ls : Step) (p : Placed) (told : Both (Option (List ℕ))) (old : Both Trail) (log : List Answer) (new : Trail) : Type 0 where
  pub after : Both Trail
  pub is : new ≡ both_trails p told after
  pub asks : AsksBoth bs ls told old after
  pub gives : (f g : List ℕ) → Fits f asks.base → Fits g asks.log → Fits (through p f g) log
  pub of_base : All (IsInOnePage p) (map asked log) → map asked asks.base ≡ flat_map (base_ranges p) (map asked log)
  pub of_log : All (IsInOnePage p) (map asked log) → map asked asks.log ≡ flat_map (log_ranges p) (map asked log)

abbrev same_of : (p q : Placed) (told told' : Both (Option (List ℕ))) (t : Both Trail) → p ≡ q → told.base ≡ told'.base → told.log ≡ told'.log
    → both_trails q told' t ≡ both_trails p told t
same_of p q told told' t e b l =
    ap (λ x. both_trails x told' t) (sym e) ∙ ap (λ o. both_trails p (record { base = o; log = told'.log }) t) (sym b)
    ∙ ap (λ o. both_trails p (record { base = told.base; log = o }) t) (sym l)

below : (bs ls : Step) (p : Placed) (told : Both (Option (List ℕ))) (old : Both Trail) (new : Trail) (log : List Answer)
    → Leads (BesideStep bs ls) (both_trails p told old) log new → Below bs ls p told old log new
below bs ls p told old new [] e = record {
  after = old;
  is = e;
  asks = record {
    base = [];
    log = [];
    leads_base = refl;
    leads_log = refl;
    tells_base = told_all told.base (λ f. tt);
    tells_log = told_all told.log (λ f. tt);
  };
  gives = λ f g h k. tt;
  of_base = λ h. refl;
  of_log = λ h. refl;
}
below bs ls p told old new (a ∷ log) (mid, s, k) =
    let m = same_both p s.placed told s.told old s.before s.was in
    let here : mid ≡ both_trails p told s.after = s.is ∙ same_of p s.placed told s.told s.after m.placed m.base m.log in
    let rest = below bs ls p told s.after new log (subst (λ t. Leads (BesideStep bs ls) t log new) here k) in
    record {
      after = rest.after;
      is = rest.is;
      asks = record {
        base = s.asks.base ++ rest.asks.base;
        log = s.asks.log ++ rest.asks.log;
        leads_base = leads_append bs old.base s.after.base rest.after.base s.asks.base rest.asks.base
            (subst (λ t. Leads bs t s.asks.base s.after.base) (sym m.base_trail) s.asks.leads_base) rest.asks.leads_base;
        leads_log = leads_append ls old.log s.after.log rest.after.log s.asks.log rest.asks.log
            (subst (λ t. Leads ls t s.asks.log s.after.log) (sym m.log_trail) s.asks.leads_log) rest.asks.leads_log;
        tells_base = if_told_both told.base (λ f. fits_join f s.asks.base rest.asks.base)
            (subst (λ o. IfSome o (λ f. Fits f s.asks.base)) (sym m.base) s.asks.tells_base) rest.asks.tells_base;
        tells_log = if_told_both told.log (λ f. fits_join f s.asks.log rest.asks.log)
            (subst (λ o. IfSome o (λ f. Fits f s.asks.log)) (sym m.log) s.asks.tells_log) rest.asks.tells_log;
      };
      gives = λ f g x y. let b = fits_parts f s.asks.base rest.asks.base x in let c = fits_parts g s.asks.log rest.asks.log y in
          (subst (λ q. FitsAnswer (through q f g) a) (sym m.placed) (s.gives f g b.0 c.0), rest.gives f g b.1 c.1);
      of_base = λ h. map-append asked s.asks.base rest.asks.base
          ∙ ap₂ (λ x y. x ++ y) (subst (λ q. IsInOnePage q (asked a) → map asked s.asks.base ≡ base_ranges q (asked a)) (sym m.placed) s.ranges.of_base
          (All-head (IsInOnePage p) (asked a) (map asked log) h)) (rest.of_base (All-tail (IsInOnePage p) (asked a) (map asked log) h));
      of_log = λ h. map-append asked s.asks.log rest.asks.log
          ∙ ap₂ (λ x y. x ++ y) (subst (λ q. IsInOnePage q (asked a) → map asked s.asks.log ≡ log_ranges q (asked a)) (sym m.placed) s.ranges.of_log
          (All-head (IsInOnePage p) (asked a) (map asked log) h)) (rest.of_log (All-tail (IsInOnePage p) (asked a) (map asked log) h));
    }

none_asked : (log : List Answer) → log ≡ [] → map asked log ≡ []
none_asked log e = ap (map asked) e

pub both_are_read : (bs ls : Step) (P : List ByteRange → Type 0) (Q : List ℕ → List ByteRange → Type 0) → BothAreRead bs ls P Q
both_are_read bs ls P Q p q m n old new h =
    let b = below bs ls p (tolds old) (trails old) (both_trails q (tolds new) (trails new)) h.log h.leads in
    let e = same_both q p (tolds new) (tolds old) (trails new) b.after b.is in
    record {
      ranges = map asked h.log;
      holds = h.holds;
      asks = record {
        base = b.asks.base;
        log = b.asks.log;
        leads_base = subst (λ t. Leads bs old.base.trail b.asks.base t) (sym e.base_trail) b.asks.leads_base;
        leads_log = subst (λ t. Leads ls old.log.trail b.asks.log t) (sym e.log_trail) b.asks.leads_log;
        tells_base = b.asks.tells_base;
        tells_log = b.asks.tells_log;
      };
      told_base = e.base;
      told_log = e.log;
      of_base = b.of_base;
      of_log = b.of_log;
      len = h.len;
      answered = elim h.answered [
        | inl a ↦ inl (let s = same_both p a.placed (tolds old) a.told (trails old) a.before a.was in a.length ∙ ap placed_len (sym s.placed))
        | inr a ↦ inr (none_asked h.log a.0)
      ];
      files = λ l f g x y. h.files (through p f g) (through_length p f g ∙ sym l) (run_told (through p f g) h.log (b.gives f g x y));
    }
