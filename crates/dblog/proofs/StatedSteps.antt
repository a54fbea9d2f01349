-- Reading what a database and its journal state.
use Rattle.std.proofs.Common.{◌≡◌, ℕ, ◌<◌, ◌≤◌, ◌+◌, ◌-◌, Bool, true, false, List, [], ◌∷◌, ◌++◌, length, take, drop, refl, sym, ap, ap₂, ◌∙◌, arith, inl, inr}
use Rattle.std.specs.Prelude.{◌&&◌, nat_le, nat_lt, IfSome, IfOk, Option, Some, None, Result, Ok, Err}
use Rattle.std.specs.List.{All}
use Rattle.std.proofs.lemmas.Bool.Decides.{nat_tests}
use Rattle.std.proofs.lemmas.List.{length-drop, take_all}
use Rattle.std.proofs.lemmas.List.Elements.{All-nil, All-push}
use Rattle.dbformat.specs.Log.{range}
use Rattle.dbformat.specs.Numbers.{u32_at}
use Rattle.dbformat.specs.declared.ByteRange.{ByteRange}
use Rattle.dbsource.specs.Answers.{IsRangeOf, Lengths, Step, failed, given}
use Rattle.dbsource.specs.Failures.{is_any, one_more}
use Rattle.dbsource.specs.Sources.{SourceState}
use Rattle.dbsource.proofs.Headers.{told_len, told_len_is}
use Rattle.dbsource.proofs.Logs.{asks_one, asks_then, has_none}
use Rattle.dbsource.proofs.Told.{if_told}
use Rattle.dblog.specs.Journal.{before_tail, has_name, is_name, names_super, super_name, tail}
use Rattle.dblog.specs.Recovered.{size_in, stored_size}
use Rattle.dblog.specs.Stated.{Measures, ReadsBefore, ReadsName}

-- ---- the size of a page

pub measure_unanswered : {E : Type 0} {step : Step} {lengths : Lengths} (e : E) (s t : SourceState) → t.bytes ≡ s.bytes → t.trail ≡ s.trail
    → t.failures ≡ one_more s.failures → Measures step lengths (Err e) s t
measure_unanswered e s t b k c = record {
  len = told_len s.bytes;
  same = told_len_is s.bytes;
  asks = record { log = has_none s t b k (inl refl) (λ file z. tt); count = c };
  answered = inr (refl, refl);
}

pub measure_short : {E : Type 0} {step : Step} {lengths : Lengths} (len : ℕ) (s t : SourceState) → len < 18 → t.bytes ≡ s.bytes → t.trail ≡ s.trail
    → t.failures ≡ s.failures → lengths s.trail len → IfSome s.bytes (λ file. len ≡ length file) → Measures {E = E} step lengths (Ok (len, 0)) s t
measure_short len s t l b k c a n = record {
  len = len;
  same = if_told s.bytes (λ file z. sym z) n;
  asks = record { log = has_none s t b k (inl refl) (λ file z. (refl, small file z)); count = c };
  answered = inl a;
}
  where
    small : (file : List ℕ) → length file ≡ len → 0 ≡ stored_size file
    small file z = let o : nat_lt (length file) 18 ≡ true = grind (arith, nat_tests) in rw o refl

pub measure_unread : {E : Type 0} {step : Step} {lengths : Lengths} (e : E) (len : ℕ) (buf : List ℕ) (s m t : SourceState) → length buf ≡ 2
    → m.bytes ≡ s.bytes → m.trail ≡ s.trail → m.failures ≡ s.failures
    → t.bytes ≡ m.bytes → step m.trail (failed (range 16 (length buf))) t.trail → t.failures ≡ one_more m.failures
    → lengths s.trail len → IfSome s.bytes (λ file. len ≡ length file) → Measures step lengths (Err e) s t
measure_unread e len buf s m t w b k c b' k' c' a n = record {
  len = len;
  same = if_told s.bytes (λ file z. sym z) n;
  asks = asks_one {A = Unit {0}} (Err e) (Err e) s m t 16 buf b k c b' k' c' tt (λ x. refl) (inr (ap (λ x. range 16 x ∷ []) w)) (λ file r z. tt);
  answered = inl a;
}

pub measure_read : {E : Type 0} {step : Step} {lengths : Lengths} (len n : ℕ) (buf : List ℕ) (s m t : SourceState) → 18 ≤ len → length buf ≡ 2
    → n ≡ size_in buf
    → m.bytes ≡ s.bytes → m.trail ≡ s.trail → m.failures ≡ s.failures
    → t.bytes ≡ m.bytes → step m.trail (given 16 buf) t.trail → t.failures ≡ m.failures → IfSome m.bytes (λ file. IsRangeOf file 16 buf)
    → lengths s.trail len → IfSome s.bytes (λ file. len ≡ length file) → Measures {E = E} step lengths (Ok (len, n)) s t
measure_read {E = E} len n buf s m t l w e b k c b' k' c' f a o = record {
  len = len;
  same = if_told s.bytes (λ file z. sym z) o;
  asks = asks_one {E = E} (Ok (tt {0})) (Ok (len, n)) s m t 16 buf b k c b' k' c' f (λ x. refl) (inr (ap (λ x. range 16 x ∷ []) w))
      (λ file r z. (refl, e ∙ size file r z));
  answered = inl a;
}
  where
    size : (file : List ℕ) → IsRangeOf file 16 buf → length file ≡ len → size_in buf ≡ stored_size file
    size file r z =
        let o : nat_lt (length file) 18 ≡ false = grind (arith, nat_tests) in
        rw o (ap size_in (r.1 ∙ ap (λ m. take m (drop 16 file)) w))

-- ---- the name of a super-journal

named_none : (journal : List ℕ) → names_super journal ≡ false → super_name journal ≡ None
named_none journal e = rw e refl

tail_of : (file t : List ℕ) (len : ℕ) → length file ≡ len → 16 ≤ len → length t ≡ 16 → IsRangeOf file (len - 16) t → tail file ≡ t
tail_of file t len z l n r =
    let long : length (drop (len - 16) file) ≤ length t = omega (arith, length-drop (len - 16) file, z, n, l) in
    ap (λ m. drop (m - 16) file) z ∙ sym (r.1 ∙ take_all (length t) (drop (len - 16) file) long)

pub before_unread : {E : Type 0} {step : Step} (e : E) (len at : ℕ) (t buf : List ℕ) (s s' : SourceState) → at ≡ len - (16 + u32_at 0 t)
    → length buf ≡ u32_at 0 t
    → s'.bytes ≡ s.bytes → step s.trail (failed (range at (length buf))) s'.trail → s'.failures ≡ one_more s.failures
    → ReadsBefore step len t (Err e) s s'
before_unread e len at t buf s s' a n b k c =
    asks_one {A = Unit {0}} (Err e) (Err e) s s s' at buf refl refl refl b k c tt (λ m. refl)
    (ap (λ m. range m (length buf) ∷ []) a ∙ ap (λ m. range (len - (16 + u32_at 0 t)) m ∷ []) n) (λ file r z w. tt)

-- the name, if it is one
abbrev name_if : Bool → List ℕ → Option (List ℕ)
name_if true name = Some name
name_if false name = None

pub before_read : {E : Type 0} {step : Step} (len at : ℕ) (t buf : List ℕ) (s s' : SourceState) (b : Bool) (name : Option (List ℕ))
    → at ≡ len - (16 + u32_at 0 t) → length buf ≡ u32_at 0 t → 16 ≤ len → has_name len t ≡ true
    → b ≡ is_name t buf → name ≡ name_if b buf
    → s'.bytes ≡ s.bytes → step s.trail (given at buf) s'.trail → s'.failures ≡ s.failures → IfSome s.bytes (λ file. IsRangeOf file at buf)
    → ReadsBefore {E = E} step len t (Ok name) s s'
before_read {E = E} len at t buf s s' b name a n l has is e told k c f =
    asks_one {E = E} (Ok (tt {0})) (Ok name) s s s' at buf refl refl refl told k c f (λ m. refl)
    (ap (λ m. range m (length buf) ∷ []) a ∙ ap (λ m. range (len - (16 + u32_at 0 t)) m ∷ []) n)
    (λ file r z w. e ∙ by_test b is file (same file r z) z w)
  where
    same : (file : List ℕ) → IsRangeOf file at buf → length file ≡ len → before_tail (u32_at 0 t) file ≡ buf
    same file r z =
        ap (λ m. take (u32_at 0 t) (drop (m - (16 + u32_at 0 t)) file)) z ∙ ap (λ m. take (u32_at 0 t) (drop m file)) (sym a)
        ∙ ap (λ m. take m (drop at file)) (sym n) ∙ sym r.1

    long : nat_le 16 len ≡ true
    long = grind (arith, nat_tests)

    named : (file : List ℕ) → before_tail (u32_at 0 t) file ≡ buf → length file ≡ len → tail file ≡ t → names_super file ≡ is_name t buf
    named file m z w =
        ap (λ x. nat_le 16 x && (has_name x (tail file) && is_name (tail file) (before_tail (u32_at 0 (tail file)) file))) z
        ∙ ap (λ x. nat_le 16 len && (has_name len x && is_name x (before_tail (u32_at 0 x) file))) w
        ∙ ap (λ x. nat_le 16 len && (has_name len t && is_name t x)) m
        ∙ ap (λ x. x && (has_name len t && is_name t buf)) long ∙ ap (λ x. x && is_name t buf) has

    by_test : (b : Bool) → b ≡ is_name t buf → (file : List ℕ) → before_tail (u32_at 0 t) file ≡ buf → length file ≡ len → tail file ≡ t
        → name_if b buf ≡ super_name file
    by_test true is file m z w =
        let yes : names_super file ≡ true = named file m z w ∙ sym is in
        rw yes (ap Some (sym (ap (λ x. before_tail (u32_at 0 x) file) w ∙ m)))
    by_test false is file m z w = sym (named_none file (named file m z w ∙ sym is))

pub name_short : {E : Type 0} {step : Step} (len : ℕ) (s : SourceState) → len < 16 → ReadsName {E = E} step len (Ok None) s s
name_short len s l =
    record { log = has_none s s refl refl (omega arith, All-nil _) (λ file z. sym (named_none file (short file z))); count = refl }
  where
    short : (file : List ℕ) → length file ≡ len → names_super file ≡ false
    short file z = let t : nat_le 16 (length file) ≡ false = grind (arith, nat_tests) in rw t refl

one_short : (at n : ℕ) → n ≤ 512 → (length (range at n ∷ []) ≤ 2) × All (λ (x : ByteRange). x.len ≤ 512) (range at n ∷ [])
one_short at n l = (omega arith, All-push (λ (x : ByteRange). x.len ≤ 512) [] (range at n) (All-nil _) l)

pub name_unread : {E : Type 0} {step : Step} (e : E) (len : ℕ) (buf : List ℕ) (s t : SourceState) → length buf ≡ 16
    → t.bytes ≡ s.bytes → step s.trail (failed (range (len - 16) (length buf))) t.trail → t.failures ≡ one_more s.failures
    → ReadsName step len (Err e) s t
name_unread e len buf s t n b k c =
    asks_one {A = Unit {0}} (Err e) (Err e) s s t (len - 16) buf refl refl refl b k c tt (λ m. refl) (one_short (len - 16) (length buf) (omega (arith, n)))
    (λ file r z. tt)

pub name_none : {E : Type 0} {step : Step} (len : ℕ) (buf : List ℕ) (s t : SourceState) → length buf ≡ 16 → 16 ≤ len → has_name len buf ≡ false
    → t.bytes ≡ s.bytes → step s.trail (given (len - 16) buf) t.trail → t.failures ≡ s.failures
    → IfSome s.bytes (λ file. IsRangeOf file (len - 16) buf)
    → ReadsName {E = E} step len (Ok None) s t
name_none {E = E} len buf s t n l has b k c f =
    asks_one {E = E} (Ok (tt {0})) (Ok None) s s t (len - 16) buf refl refl refl b k c f (λ m. refl) (one_short (len - 16) (length buf) (omega (arith, n)))
    (λ file r z. sym (named_none file (none file r z)))
  where
    long : nat_le 16 len ≡ true
    long = grind (arith, nat_tests)

    none : (file : List ℕ) → IsRangeOf file (len - 16) buf → length file ≡ len → names_super file ≡ false
    none file r z =
        ap (λ x. nat_le 16 x && (has_name x (tail file) && is_name (tail file) (before_tail (u32_at 0 (tail file)) file))) z
        ∙ ap (λ x. nat_le 16 len && (has_name len x && is_name x (before_tail (u32_at 0 x) file))) (tail_of file buf len z l n r)
        ∙ ap (λ x. x && (has_name len buf && is_name buf (before_tail (u32_at 0 buf) file))) long
        ∙ ap (λ x. x && is_name buf (before_tail (u32_at 0 buf) file)) has

pub name_read : {E : Type 0} {step : Step} (len : ℕ) (r : Result (Option (List ℕ)) E) (buf : List ℕ) (s m t : SourceState) → length buf ≡ 16 → 16 ≤ len
    → u32_at 0 buf ≤ 512
    → m.bytes ≡ s.bytes → step s.trail (given (len - 16) buf) m.trail → m.failures ≡ s.failures
    → IfSome s.bytes (λ file. IsRangeOf file (len - 16) buf)
    → ReadsBefore step len buf r m t → ReadsName step len r s t
name_read {E = E} {step = step} len r buf s m t n l few b k c f h =
    asks_then (λ ranges. ranges ≡ range (len - 16) (length buf) ∷ []) (λ ranges. ranges ≡ range (len - (16 + u32_at 0 buf)) (u32_at 0 buf) ∷ [])
    (λ file. length file ≡ len → tail file ≡ buf) (λ file. length file ≡ len → tail file ≡ buf → IfOk r (λ name. name ≡ super_name file)) {is_first = is_any} r
    (λ x. refl) (λ x. refl)
    (asks_one {E = E} {F = E} (Ok (tt {0})) (Ok (tt {0})) s s m (len - 16) buf refl refl refl b k c f (λ x. refl) refl
    (λ file x z. tail_of file buf len z l n x)) h
    (λ x y i j. both x y i j) (λ file x y z. y z (x z))
  where
    both : (x y : List ByteRange) → x ≡ range (len - 16) (length buf) ∷ [] → y ≡ range (len - (16 + u32_at 0 buf)) (u32_at 0 buf) ∷ []
        → (length (x ++ y) ≤ 2) × All (λ (z : ByteRange). z.len ≤ 512) (x ++ y)
    both x y i j =
        let first = range (len - 16) (length buf) in
        let second = range (len - (16 + u32_at 0 buf)) (u32_at 0 buf) in
        let e : x ++ y ≡ first ∷ second ∷ [] = ap₂ (λ a b. a ++ b) i j in
        rw e (
          omega arith,
          All-push (λ (z : ByteRange). z.len ≤ 512) (first ∷ []) second
              (All-push (λ (z : ByteRange). z.len ≤ 512) [] first (All-nil _) (omega (arith, n))) few,
        )
