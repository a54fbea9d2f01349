-- A source over a file and a log.
use Rattle.std.proofs.Common.{◌≡◌, ℕ, ◌<◌, ◌≤◌, ◌+◌, ◌^◌, Bool, true, false, cond, List, [], map, refl, sym, ap, subst, ◌∙◌, arith, inl, inr}
use Rattle.std.specs.Prelude.{◌⊎◌, IfSome, OnOk, Option, Some, None, Result, Ok, Err, nat_lt, slice_index}
use Rattle.std.proofs.lemmas.List.{get_or_past}
use Rattle.dbformat.specs.Log.{range}
use Rattle.dbsource.specs.Answers.{Fits, IsRangeOf, Step, answer, asked, failed}
use Rattle.dbsource.specs.Sources.{AreBytes, SourceState}
use Rattle.dbsource.proofs.Logs.{asked_range}
use Rattle.dbsource.proofs.Told.{told_all}
use Rattle.dblog.specs.Beside.{AreAskedFor, BesideStep, Both, ReadsBoth, both_trails, told_through, tolds, trails}
use Rattle.dblog.specs.Placed.{Placed, placed_byte, placed_len, through}
use Rattle.dblog.proofs.Ranges.{through_byte, through_length}

-- ---- each byte is one

placed_below : (p : Placed) (f g : List ℕ) (o : Option ℕ) (i : ℕ) → ((k : ℕ) → slice_index f k < 256) → ((k : ℕ) → slice_index g k < 256)
    → placed_byte p f g o i < 256
placed_below p f g (Some frame) i h k = k _
placed_below p f g None i h k = by_test (nat_lt i p.base_len)
  where
    by_test : (b : Bool) → cond b (slice_index f i) 0 < 256
    by_test true = h i
    by_test false = omega arith

pub through_bytes : (p : Placed) (f g : List ℕ) → placed_len p < 2 ^ 64 → AreBytes f → AreBytes g → AreBytes (through p f g)
through_bytes p f g l h k = (subst (λ n. n < 2 ^ 64) (sym (through_length p f g)) l, λ i. by_place i (cases_lt i (placed_len p)))
  where
    cases_lt : (a b : ℕ) → (a < b) ⊎ (b ≤ a)
    cases_lt a b = grind arith

    by_place : (i : ℕ) → (i < placed_len p) ⊎ (placed_len p ≤ i) → slice_index (through p f g) i < 256
    by_place i (inl m) = subst (λ n. n < 256) (sym (through_byte p f g i m)) (placed_below p f g _ i h.1 k.1)
    by_place i (inr m) =
        let e : slice_index (through p f g) i ≡ 0 = get_or_past (through p f g) i 0 (omega (arith, through_length p f g)) in
        omega (arith, e)

-- ---- told bytes

pub told_both : (P Q R : List ℕ → Type 0) (p : Placed) (o q : Option (List ℕ)) → ((f g : List ℕ) → P f → Q g → R (through p f g))
    → IfSome o P → IfSome q Q → IfSome (told_through p o q) R
told_both P Q R p None q h k m = tt
told_both P Q R p (Some f) None h k m = tt
told_both P Q R p (Some f) (Some g) h k m = h f g k m

pub told_through_all : (R : List ℕ → Type 0) (p : Placed) (o q : Option (List ℕ)) → ((f g : List ℕ) → R (through p f g)) → IfSome (told_through p o q) R
told_through_all R p None q h = tt
told_through_all R p (Some f) None h = tt
told_through_all R p (Some f) (Some g) h = h f g

-- ---- a read

pub step_past_end : {bs ls : Step} (p : Placed) (s : Both SourceState) (offset n : ℕ) → placed_len p < offset + n
    → BesideStep bs ls (both_trails p (tolds s) (trails s)) (failed (range offset n)) (both_trails p (tolds s) (trails s))
step_past_end p s offset n l = record {
  placed = p;
  told = tolds s;
  before = trails s;
  after = trails s;
  was = refl;
  is = refl;
  asks = record {
    base = [];
    log = [];
    leads_base = refl;
    leads_log = refl;
    tells_base = told_all s.base.bytes (λ f. tt);
    tells_log = told_all s.log.bytes (λ f. tt);
  };
  gives = λ f g h k. tt;
  ranges = record { of_base = λ h. absurd (omega (arith, h.within)); of_log = λ h. absurd (omega (arith, h.within)) };
  fails = λ h. absurd (omega arith);
}

pub step_read : {E : Type 0} {bs ls : Step} (p : Placed) (offset : ℕ) (r : Result (Unit {0}) E) (buf : List ℕ) (old new : Both SourceState)
    → ReadsBoth bs ls p offset r buf old new
    → BesideStep bs ls (both_trails p (tolds old) (trails old)) (answer r offset buf) (both_trails p (tolds new) (trails new))
step_read p offset r buf old new h = record {
  placed = p;
  told = tolds old;
  before = trails old;
  after = trails new;
  was = refl;
  is = ap (λ t. both_trails p t (trails new)) same;
  asks = h.asks;
  gives = h.gives;
  ranges = subst (λ x. AreAskedFor p x (map asked h.asks.base) (map asked h.asks.log)) (sym (asked_range r offset buf)) h.ranges;
  fails = h.fails;
}
  where
    same : tolds new ≡ tolds old
    same = ap (λ o. let t : Both (Option (List ℕ)) = record { base = o; log = new.log.bytes } in t) h.told_base
        ∙ ap (λ o. let t : Both (Option (List ℕ)) = record { base = old.base.bytes; log = o } in t) h.told_log

pub told_read : {E : Type 0} {bs ls : Step} (p : Placed) (offset : ℕ) (r : Result (Unit {0}) E) (buf : List ℕ) (old new : Both SourceState)
    → ReadsBoth bs ls p offset r buf old new
    → OnOk r (IfSome (told_through p old.base.bytes old.log.bytes) (λ bytes. IsRangeOf bytes offset buf))
told_read p offset (Ok x) buf old new h = told_both (λ f. Fits f h.asks.base) (λ g. Fits g h.asks.log) (λ file. IsRangeOf file offset buf) p
    old.base.bytes old.log.bytes h.gives h.asks.tells_base h.asks.tells_log
told_read p offset (Err e) buf old new h = tt
