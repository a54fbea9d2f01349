-- What was read of a source, one range after another.
use Rattle.std.proofs.Common.{◌≡◌, ℕ, ◌≤◌, ◌+◌, Bool, true, false, List, [], ◌∷◌, ◌++◌}
use Rattle.std.proofs.Common.{length, take, drop, map, refl, sym, ap, subst, ◌∙◌, arith, cond}
use Rattle.std.specs.Prelude.{IfSome}
use Rattle.std.proofs.lemmas.List.{drop-drop, drop-take, length-append}
use Rattle.std.proofs.lemmas.List.{map-append, take-append-drop, take-take, take_at, drop_at}
use Rattle.dbformat.specs.Log.{range}
use Rattle.dbformat.specs.declared.ByteRange.{ByteRange}
use Rattle.dbsource.specs.Answers.{Fits, IsRangeOf, Step, asked, failed, given}
use Rattle.dbsource.specs.Failures.{one_more}
use Rattle.dbsource.specs.Sources.{SourceState}
use Rattle.dbsource.proofs.Logs.{fits_join, fits_parts, leads_append}
use Rattle.dbsource.proofs.Told.{if_told, if_told_both, told_all}
use Rattle.dblog.specs.Reading.{InOrder, Reads, longest_read}

-- ---- ranges of bytes

take_plus : (n m : ℕ) (xs : List ℕ) → take (n + m) xs ≡ take n xs ++ take m (drop n xs)
take_plus n m xs =
    sym (take-append-drop n (take (n + m) xs)) ∙ ap (λ a. a ++ drop n (take (n + m) xs)) (take-take n (n + m) xs (omega arith))
    ∙ ap (λ b. take n xs ++ b) (drop-take n m xs)

pub range_join : (file : List ℕ) (at : ℕ) (a b : List ℕ) → IsRangeOf file at a → IsRangeOf file (at + length a) b → IsRangeOf file at (a ++ b)
range_join file at a b h k = (
  omega (arith, length-append a b, k.0),
  ap (λ x. x ++ b) h.1
      ∙ ap (λ x. take (length a) (drop at file) ++ x) (k.1 ∙ ap (take (length b)) (sym (drop-drop (length a) at file)))
      ∙ sym (take_plus (length a) (length b) (drop at file)) ∙ ap (λ n. take n (drop at file)) (sym (length-append a b)),
)

pub range_front : (file : List ℕ) (at : ℕ) (a b : List ℕ) → IsRangeOf file at (a ++ b) → IsRangeOf file at a
range_front file at a b h = (
  omega (arith, length-append a b, h.0),
  sym (take_at a b (length a) refl) ∙ ap (take (length a)) h.1
      ∙ take-take (length a) (length (a ++ b)) (drop at file) (omega (arith, length-append a b)),
)

pub range_back : (file : List ℕ) (at : ℕ) (a b : List ℕ) → IsRangeOf file at (a ++ b) → IsRangeOf file (at + length a) b
range_back file at a b h = (
  omega (arith, length-append a b, h.0),
  sym (drop_at a b (length a) refl) ∙ ap (drop (length a)) (h.1 ∙ ap (λ n. take n (drop at file)) (length-append a b))
      ∙ drop-take (length a) (length b) (drop at file) ∙ ap (take (length b)) (drop-drop (length a) at file),
)

-- ---- what was read

pub order_join : (at mid end : ℕ) (a b : List ByteRange) → InOrder at mid a → InOrder mid end b → InOrder at end (a ++ b)
order_join at mid end [] b h k = subst (λ n. InOrder n end b) (sym h) k
order_join at mid end (r ∷ rs) b h k = (h.0, h.1, order_join (at + r.len) mid end rs b h.2 k)

abbrev pub reads_none : {step : Step} (from : ℕ) (s t : SourceState) → t.bytes ≡ s.bytes → t.trail ≡ s.trail → t.failures ≡ s.failures
    → Reads step from false s t []
reads_none from s t b e c = record {
  log = [];
  leads = e;
  told = b;
  tells = told_all s.bytes (λ file. tt);
  end = from;
  in_order = refl;
  ends = λ z. omega arith;
  is = λ file l f. (omega arith, refl);
  fits = λ file k. tt;
  count = c;
}

abbrev pub reads_given : {step : Step} (from : ℕ) (buf seen : List ℕ) (s t : SourceState) → seen ≡ buf → length buf ≤ longest_read
    → t.bytes ≡ s.bytes → step s.trail (given from buf) t.trail → t.failures ≡ s.failures → IfSome s.bytes (λ file. IsRangeOf file from buf)
    → Reads step from false s t seen
reads_given from buf seen s t z l b e c k = record {
  log = given from buf ∷ [];
  leads = (t.trail, e, refl);
  told = b;
  tells = if_told s.bytes (λ file r. (r, tt)) k;
  end = from + length buf;
  in_order = (refl, l, refl);
  ends = λ y. ap (λ x. from + length x) (sym z);
  is = λ file m f. subst (IsRangeOf file from) (sym z) f.0;
  fits = λ file r. (subst (IsRangeOf file from) z r, tt);
  count = c;
}

pub never : {X : Type 0} → true ≡ false → X
never e = absurd cc

abbrev pub reads_failed : {step : Step} (from : ℕ) (buf : List ℕ) (s t : SourceState) → length buf ≤ longest_read
    → t.bytes ≡ s.bytes → step s.trail (failed (range from (length buf))) t.trail → t.failures ≡ one_more s.failures
    → Reads step from true s t []
reads_failed from buf s t l b p c = record {
  log = failed (range from (length buf)) ∷ [];
  leads = (t.trail, p, refl);
  told = b;
  tells = told_all s.bytes (λ file. (tt, tt));
  end = from + length buf;
  in_order = (refl, l, refl);
  ends = never;
  is = λ file l f. (omega arith, refl);
  fits = λ file r. (tt, tt);
  count = c;
}

-- what was read, and what was read after that
abbrev pub reads_join : {step : Step} {from at : ℕ} {fails : Bool} {s m t : SourceState} (a b : List ℕ) → at ≡ from + length a
    → Reads step from false s m a → Reads step at fails m t b → Reads step from fails s t (a ++ b)
reads_join {step = step} {from = from} {at = at} {fails = fails} {s = s} {m = m} {t = t} a b z h k = record {
  log = h.log ++ k.log;
  leads = leads_append step s.trail m.trail t.trail h.log k.log h.leads k.leads;
  told = k.told ∙ h.told;
  tells = if_told_both s.bytes (λ file. fits_join file h.log k.log) h.tells (subst (λ o. IfSome o (λ file. Fits file k.log)) h.told k.tells);
  end = k.end;
  in_order = subst (InOrder from k.end) (sym (map-append asked h.log k.log))
      (order_join from h.end k.end (map asked h.log) (map asked k.log) h.in_order (subst (λ n. InOrder n k.end (map asked k.log)) (z
      ∙ sym (h.ends refl)) k.in_order));
  ends = λ e. k.ends e ∙ omega (arith, z, length-append a b);
  is = λ file l f. let p = fits_parts file h.log k.log f in
      let r : IsRangeOf file from a = h.is file l p.0 in
      range_join file from a b r (subst (λ n. IsRangeOf file n b) z (k.is file (omega (arith, z, r.0)) p.1));
  fits = λ file r. fits_join file h.log k.log (h.fits file (range_front file from a b r))
      (k.fits file (subst (λ n. IsRangeOf file n b) (sym z) (range_back file from a b r)));
  count = k.count ∙ ap (λ n. cond fails (one_more n) n) h.count;
}
