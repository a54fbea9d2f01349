-- The longest run of one byte, found from the last byte on.
use Rattle.std.proofs.Common.{◌≡◌, ℕ, suc, ◌+◌, ◌<◌, ◌≤◌, Bool, true, false, cond, ◌&&◌, List, [], ◌∷◌, length, drop, get_or, refl, sym, ap, ◌∙◌, arith}
use Rattle.std.specs.Prelude.{nat_le, nat_lt, ◌==◌}
use Rattle.std.specs.List.{prefix_len}
use Rattle.std.proofs.lemmas.Bool.Decides.{nat_tests}
use Rattle.std.proofs.lemmas.List.Sums.{prefix_len-le-length}
use Rattle.std.proofs.Math.Seq.{drop-cons}
use Rattle.dbformat.specs.Runs.{longer, longest_run, run_len}
use Rattle.dbformat.specs.declared.ByteRun.{ByteRun}
use Rattle.dbpage.specs.ByteRuns.{run_before}

-- the run that bytes begin with, if there are any
abbrev pub run_at : ℕ → List ℕ → ByteRun
run_at at [] = record { start = at; len = 0; byte = 0 }
run_at at (first ∷ bytes) = record { start = at; len = run_len (first ∷ bytes); byte = first }

-- no byte has no run
pub no_run : (at : ℕ) → record { start = at; len = 0; byte = 0 } ≡ longest_run at []
unfolding longest_run
no_run at = refl

-- it is no longer than the bytes
pub run_short : (at : ℕ) (bytes : List ℕ) → (run_at at bytes).len ≤ length bytes
run_short at [] = omega arith
run_short at (first ∷ bytes) = omega (arith, prefix_len-le-length (λ byte. byte == first) bytes)

-- one byte more before some
run_more : (at first : ℕ) (bytes : List ℕ) → run_before (run_at (at + 1) bytes) at first ≡ run_at at (first ∷ bytes)
run_more at first [] = ap (λ n. run at first n) (let e : 1 ≡ 0 + 1 = omega arith in e)
  where
    run : ℕ → ℕ → ℕ → ByteRun
    run at first n = record { start = at; len = n; byte = first }
run_more at first (next ∷ bytes) = by_byte (next == first) refl
  where
    of : ℕ → ByteRun
    of n = record { start = at; len = n; byte = first }

    same : (next == first) ≡ true → next ≡ first
    same e = grind (arith, nat_tests)

    some : (n : ℕ) → nat_lt 0 (n + 1) ≡ true
    some n = grind (arith, nat_tests)

    by_byte : (b : Bool) → (next == first) ≡ b
        → of (cond (nat_lt 0 (prefix_len (λ byte. byte == next) bytes + 1) && b) (prefix_len (λ byte. byte == next) bytes + 1 + 1) 1)
        ≡ of (cond b (1 + prefix_len (λ byte. byte == first) bytes) 0 + 1)
    by_byte true e =
        ap (λ b. of (cond (b && true) (prefix_len (λ byte. byte == next) bytes + 1 + 1) 1)) (some (prefix_len (λ byte. byte == next) bytes))
        ∙ ap (λ x. of (prefix_len (λ byte. byte == x) bytes + 1 + 1)) (same e)
        ∙ ap of (let z : prefix_len (λ byte. byte == first) bytes + 1 + 1 ≡ 1 + prefix_len (λ byte. byte == first) bytes + 1 = omega arith in z)
    by_byte false e = ap (λ b. of (cond (b && false) (prefix_len (λ byte. byte == next) bytes + 1 + 1) 1)) (some (prefix_len (λ byte. byte == next) bytes))

module _ (bytes : List ℕ) (at j : ℕ) (low : j < length bytes) where
  split : drop j bytes ≡ get_or bytes j 0 ∷ drop (suc j) bytes
  split = drop-cons bytes j 0 low

  next : at + suc j ≡ at + j + 1
  next = omega arith

  -- the run of the bytes from an offset on
  pub run_step : (run : ByteRun) → run ≡ run_at (at + suc j) (drop (suc j) bytes) → run_before run (at + j) (get_or bytes j 0) ≡ run_at (at + j) (drop j bytes)
  run_step run e = ap (λ r. run_before r (at + j) (get_or bytes j 0)) (e ∙ ap (λ n. run_at n (drop (suc j) bytes)) next)
      ∙ run_more (at + j) (get_or bytes j 0) (drop (suc j) bytes) ∙ ap (run_at (at + j)) (sym split)

  -- and the longest
  pub longest_step : (longest run : ByteRun) → longest ≡ longest_run (at + suc j) (drop (suc j) bytes) → run ≡ run_at (at + j) (drop j bytes)
      → longer run longest ≡ longest_run (at + j) (drop j bytes)
  unfolding longest_run
  longest_step longest run e f = ap (longer run) (e ∙ ap (λ n. longest_run n (drop (suc j) bytes)) next)
      ∙ ap (λ r. longer r (longest_run (at + j + 1) (drop (suc j) bytes))) (f ∙ ap (run_at (at + j)) split) ∙ ap (longest_run (at + j)) (sym split)

-- the same in a loop, where the offset of the bytes after it is i
pub run_here : (bytes : List ℕ) (at j i : ℕ) → i ≡ suc j → j < length bytes → (run new : ByteRun) → run ≡ run_at (at + i) (drop i bytes) → new
    ≡ run_before run (at + j) (get_or bytes j 0)
    → new ≡ run_at (at + j) (drop j bytes)
run_here bytes at j i more low run new e f = f ∙ run_step bytes at j low run (e ∙ ap (λ n. run_at (at + n) (drop n bytes)) more)

pub longest_at : (bytes : List ℕ) (at j i : ℕ) → i ≡ suc j → j < length bytes → (longest run : ByteRun) → longest ≡ longest_run (at + i) (drop i bytes) → run
    ≡ run_at (at + j) (drop j bytes)
    → (b : Bool) → nat_le longest.len run.len ≡ b → cond b run longest ≡ longest_run (at + j) (drop j bytes)
longest_at bytes at j i more low longest run e f b test = ap (λ b. cond b run longest) (sym test)
    ∙ longest_step bytes at j low longest run (e ∙ ap (λ n. longest_run (at + n) (drop n bytes)) more) f
