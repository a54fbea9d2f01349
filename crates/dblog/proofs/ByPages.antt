-- A range of the database that is read page by page.
use Rattle.std.proofs.Common.{◌≡◌, ℕ, ◌<◌, ◌≤◌, ◌+◌, ◌%◌, Bool, true, false, List, [], ◌++◌, length, refl, sym, ap₂, subst, ◌∙◌, arith}
use Rattle.std.specs.Prelude.{◌||◌, IfSome, Ok, Err}
use Rattle.std.specs.List.{list_any}
use Rattle.std.proofs.lemmas.List.Folds.{list_any-append}
use Rattle.dbformat.specs.Log.{range}
use Rattle.dbsource.specs.Answers.{Fits, IsRangeOf, Step}
use Rattle.dbsource.specs.Failures.{HasOneMore}
use Rattle.dbsource.specs.Sources.{SourceState}
use Rattle.dbsource.proofs.Logs.{fits_join, fits_parts, leads_append}
use Rattle.dbsource.proofs.Told.{if_told_both, told_all}
use Rattle.dblog.specs.Beside.{AsksBoth, Both, ReadsBoth, counts, is_failed, tolds, trails}
use Rattle.dblog.specs.Placed.{IsInOnePage, Placed, placed_len, through}
use Rattle.dblog.proofs.Ranges.{through_length}
use Rattle.dblog.proofs.ReadSteps.{range_join}

-- what was read from a place on
pub record Began (bs ls : Step) (p : Placed) (offset : ℕ) (seen : List ℕ) (old new : Both SourceState) : Type 0 where
  pub told_base : new.base.bytes ≡ old.base.bytes
  pub told_log : new.log.bytes ≡ old.log.bytes
  pub asks : AsksBoth bs ls (tolds old) (trails old) (trails new)
  pub gives : (f g : List ℕ) → Fits f asks.base → Fits g asks.log → IsRangeOf (through p f g) offset seen
  pub count : counts new ≡ counts old

pub began_none : {bs ls : Step} (p : Placed) (offset : ℕ) (s : Both SourceState) → offset ≤ placed_len p → Began bs ls p offset [] s s
began_none p offset s l = record {
  told_base = refl;
  told_log = refl;
  asks = record {
    base = [];
    log = [];
    leads_base = refl;
    leads_log = refl;
    tells_base = told_all s.base.bytes (λ f. tt);
    tells_log = told_all s.log.bytes (λ f. tt);
  };
  gives = λ f g h k. (omega (arith, through_length p f g), refl);
  count = refl;
}

-- what was asked, and then more
abbrev asks_join : {bs ls : Step} (old mid new : Both SourceState) → mid.base.bytes ≡ old.base.bytes → mid.log.bytes ≡ old.log.bytes
    → AsksBoth bs ls (tolds old) (trails old) (trails mid) → AsksBoth bs ls (tolds mid) (trails mid) (trails new)
    → AsksBoth bs ls (tolds old) (trails old) (trails new)
asks_join {bs = bs} {ls = ls} old mid new b l h k = record {
  base = h.base ++ k.base;
  log = h.log ++ k.log;
  leads_base = leads_append bs old.base.trail mid.base.trail new.base.trail h.base k.base h.leads_base k.leads_base;
  leads_log = leads_append ls old.log.trail mid.log.trail new.log.trail h.log k.log h.leads_log k.leads_log;
  tells_base = if_told_both old.base.bytes (λ f. fits_join f h.base k.base) h.tells_base (subst (λ o. IfSome o (λ f. Fits f k.base)) b k.tells_base);
  tells_log = if_told_both old.log.bytes (λ f. fits_join f h.log k.log) h.tells_log (subst (λ o. IfSome o (λ f. Fits f k.log)) l k.tells_log);
}

-- a piece more
pub began_more : {E : Type 0} {bs ls : Step} (p : Placed) (offset at : ℕ) (seen piece all : List ℕ) (old mid new : Both SourceState)
    → all ≡ seen ++ piece → at ≡ offset + length seen
    → Began bs ls p offset seen old mid → ReadsBoth {E = E} bs ls p at (Ok (tt {0})) piece mid new → Began bs ls p offset all old new
began_more p offset at seen piece all old mid new e z h k = record {
  told_base = k.told_base ∙ h.told_base;
  told_log = k.told_log ∙ h.told_log;
  asks = asks_join old mid new h.told_base h.told_log h.asks k.asks;
  gives = λ f g x y. let a = fits_parts f h.asks.base k.asks.base x in let b = fits_parts g h.asks.log k.asks.log y in
      subst (IsRangeOf (through p f g) offset) (sym e) (range_join (through p f g) offset seen piece (h.gives f g a.0 b.0)
      (subst (λ n. IsRangeOf (through p f g) n piece) z (k.gives f g a.1 b.1)));
  count = k.count ∙ h.count;
}

or_more : (a b c d : Bool) → (b || d) ≡ true → ((a || b) || (c || d)) ≡ true
or_more true b c d h = refl
or_more false true c d h = refl
or_more false false true d h = refl
or_more false false false d h = h

-- a range in several pages is not one in one page
no_page : {X : Type 0} (p : Placed) (offset n : ℕ) → p.page_size < offset % p.page_size + n → IsInOnePage p (range offset n) → X
no_page p offset n l h = absurd (omega (arith, h.one))

-- a piece that could not be read
pub began_failed : {E : Type 0} {bs ls : Step} (e : E) (p : Placed) (offset at n : ℕ) (seen piece buf : List ℕ) (old mid new : Both SourceState)
    → length buf ≡ n → p.page_size < offset % p.page_size + n → at + length piece ≤ placed_len p
    → Began bs ls p offset seen old mid → ReadsBoth bs ls p at (Err e) piece mid new → ReadsBoth bs ls p offset (Err e) buf old new
began_failed {E = E} e p offset at n seen piece buf old mid new z l within h k = record {
  told_base = k.told_base ∙ h.told_base;
  told_log = k.told_log ∙ h.told_log;
  asks = asks_join old mid new h.told_base h.told_log h.asks k.asks;
  gives = λ f g x y. tt;
  ranges = record { of_base = no_page p offset (length buf) long; of_log = no_page p offset (length buf) long };
  fails = λ i. ap₂ (λ a b. a || b) (list_any-append is_failed h.asks.base k.asks.base) (list_any-append is_failed h.asks.log k.asks.log)
      ∙ or_more (list_any is_failed h.asks.base) (list_any is_failed k.asks.base) (list_any is_failed h.asks.log) (list_any is_failed k.asks.log)
      (k.fails within);
  count = subst (λ ns. HasOneMore ns (counts new)) h.count k.count;
}
  where
    long : p.page_size < offset % p.page_size + length buf
    long = subst (λ m. p.page_size < offset % p.page_size + m) (sym z) l

-- all pieces
pub began_all : {E : Type 0} {bs ls : Step} (p : Placed) (offset : ℕ) (seen buf : List ℕ) (old new : Both SourceState)
    → p.page_size < offset % p.page_size + length buf → seen ≡ buf
    → Began bs ls p offset seen old new → ReadsBoth {E = E} bs ls p offset (Ok (tt {0})) buf old new
began_all p offset seen buf old new l z h = record {
  told_base = h.told_base;
  told_log = h.told_log;
  asks = h.asks;
  gives = λ f g x y. subst (IsRangeOf (through p f g) offset) z (h.gives f g x y);
  ranges = record { of_base = no_page p offset (length buf) l; of_log = no_page p offset (length buf) l };
  fails = tt;
  count = h.count;
}
