-- Counts of the failures of an Out.
use Rattle.std.proofs.Common.{◌≡◌, ◌∙◌, ℕ, ◌+◌, ◌%◌, ◌^◌, ◌≤◌, List, refl, sym, ap, arith, inl, inr}
use Rattle.std.specs.Prelude.{◌≢◌}
use Rattle.std.specs.Io.KnownBytes.{Keeps}
use Rattle.std.proofs.Math.Nat.{mod-add-mod, mod-mod}
use Rattle.dbreport.specs.StatReporter.{failures_of_each}
use Rattle.dbsource.proofs.Puts.{kept_appends}
use Rattle.dbsource.specs.Failures.{HasOneMore, one_more}
use Rattle.dbsource.specs.Outs.{OutState}
use Rattle.dbcli.specs.Exit.{EndsWithLine, OutHasFailed, IsHandedOnOrFailed}

-- a count is not the one before it
pub not_same : (m n : ℕ) → n ≡ one_more m → n ≢ m
not_same m n h = λ e. absurd (omega (arith, h, e))

-- two counts of failures, of which some number moved by one
pub record Moved (k : ℕ) (out err out' err' : OutState) : Type 0 where
  pub first : ℕ
  pub second : ℕ
  pub sum : first + second ≡ k
  pub count : out'.failures % 2 ^ 64 ≡ (out.failures + first) % 2 ^ 64
  pub second_count : err'.failures % 2 ^ 64 ≡ (err.failures + second) % 2 ^ 64

pub same_count : (n now : ℕ) → now ≡ n → now % 2 ^ 64 ≡ (n + 0) % 2 ^ 64
same_count n now h = ap (λ k. k % 2 ^ 64) (let q : now ≡ n + 0 = omega arith in q)

pub more_count : (n now : ℕ) → now ≡ one_more n → now % 2 ^ 64 ≡ (n + 1) % 2 ^ 64
more_count n now h = ap (λ k. k % 2 ^ 64) h ∙ mod-mod (n + 1) (2 ^ 64)

pub none_moved : (out err out' err' : OutState) → failures_of_each out' err' ≡ failures_of_each out err → Moved 0 out err out' err'
none_moved out err out' err' same = let e : out'.failures ≡ out.failures = cc in let f : err'.failures ≡ err.failures = cc in record {
  first = 0;
  second = 0;
  sum = refl;
  count = same_count out.failures out'.failures e;
  second_count = same_count err.failures err'.failures f;
}

pub one_moved : (out err out' err' : OutState) → HasOneMore (failures_of_each out err) (failures_of_each out' err') → Moved 1 out err out' err'
one_moved out err out' err' (inl (first, same)) = let f : err'.failures ≡ err.failures = cc in record {
  first = 1;
  second = 0;
  sum = refl;
  count = more_count out.failures out'.failures first;
  second_count = same_count err.failures err'.failures f;
}
one_moved out err out' err' (inr (same, inl (second, none))) = record {
  first = 0;
  second = 1;
  sum = refl;
  count = same_count out.failures out'.failures same;
  second_count = more_count err.failures err'.failures second;
}
one_moved out err out' err' (inr (same, inr (also, none))) = absurd none

-- more failures after others
pub more_failures : (before now after s x : ℕ) → now % 2 ^ 64 ≡ (before + s) % 2 ^ 64 → after % 2 ^ 64 ≡ (now + x) % 2 ^ 64 → after % 2 ^ 64
    ≡ (before + s + x) % 2 ^ 64
more_failures before now after s x h k = k ∙ sym (mod-add-mod now (2 ^ 64) x) ∙ ap (λ n. (n + x) % 2 ^ 64) h ∙ mod-add-mod (before + s) (2 ^ 64) x

pub failed_then : (a most n : ℕ) (old mid new : OutState) → a + most ≤ n → mid.failures % 2 ^ 64 ≡ (old.failures + a) % 2 ^ 64
    → IsHandedOnOrFailed most mid new → IsHandedOnOrFailed n old new
failed_then a most n old mid new room count t = let b = t.bound in record {
  failed = a + t.failed;
  bound = omega (arith, b, room);
  count = more_failures old.failures mid.failures new.failures a t.failed count t.count
      ∙ ap (λ k. k % 2 ^ 64) (let q : old.failures + a + t.failed ≡ old.failures + (a + t.failed) = omega arith in q);
  all = λ e. t.all (omega (arith, e));
}

-- a count that moved, and then perhaps a little more
pub after_one : (most : ℕ) (old mid new : OutState) → mid.failures ≡ one_more old.failures → most ≤ 2 → IsHandedOnOrFailed most mid new → OutHasFailed old new
after_one most old mid new one little t = λ e. let c = t.count in let b = t.bound in absurd (omega (arith, one, little, c, b, e))

-- a few calls failed, and two more may
pub record FewFailed (most : ℕ) (old new : OutState) : Type 0 where
  pub moved : ℕ
  pub bound : moved + 2 ≤ most
  pub count : new.failures % 2 ^ 64 ≡ (old.failures + moved) % 2 ^ 64

pub few_then : (most : ℕ) (old mid new : OutState) → FewFailed most old mid → IsHandedOnOrFailed 2 mid new → IsHandedOnOrFailed most old new
few_then most old mid new f t = failed_then f.moved 2 most old mid new f.bound f.count t

-- where a count is the same in the end, none failed in either part
pub none_failed : (n a b : ℕ) → n % 2 ^ 64 ≡ (n + a + b) % 2 ^ 64 → a + b ≤ 9 → b ≡ 0
none_failed n a b h k = omega (arith, h, k)

-- a line after a few failures
pub few_then_line : (line : List ℕ) (most : ℕ) (old mid new : OutState) → Keeps old.bytes mid.bytes → FewFailed most old mid → EndsWithLine line 2 mid new
    → EndsWithLine line most old new
few_then_line line most old mid new kept f l = record {
  tried = record {
    failed = f.moved + l.tried.failed;
    bound = let x = f.bound in let y = l.tried.bound in omega (arith, x, y);
    count = more_failures old.failures mid.failures new.failures f.moved l.tried.failed f.count l.tried.count
        ∙ ap (λ k. k % 2 ^ 64) (let q : old.failures + f.moved + l.tried.failed ≡ old.failures + (f.moved + l.tried.failed) = omega arith in q);
    all = λ e. l.tried.all (omega (arith, e));
  };
  shown = l.shown;
  cut = l.cut;
  of_line = l.of_line;
  added = kept_appends old.bytes mid.bytes new.bytes l.shown kept l.added;
  uncut = λ e. l.uncut (omega (arith, e));
}
