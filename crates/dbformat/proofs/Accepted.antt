-- What a header says that does not refuse its file.
use Rattle.std.proofs.Common.{◌≡◌, ℕ, ◌≤◌, Bool, true, false, cond, List, None, arith, ◌⊎◌, inl, inr}
use Rattle.std.specs.Prelude.{nat_lt, ◌==◌}
use Rattle.std.specs.List.{list_any}
use Rattle.std.proofs.lemmas.Bool.Decides.{nat_tests}
use Rattle.dbformat.specs.FixedPages.{most_pages, geometry_of, IsInRange}
use Rattle.dbformat.specs.Numbers.{u16_at}
use Rattle.dbformat.specs.Header.{page_size, usable_size, page_count, stored_page_sizes}
use Rattle.dbformat.specs.File.{refusal_of, refusal_tests}
use Rattle.dbformat.proofs.TestsLemmas.{AllFalse, AllFalse-from_none, not-false}

-- the length of a file that is read, and its geometry
pub record IsAccepted (bytes : List ℕ) (len : ℕ) : Type 0 where
  pub long : 100 ≤ len
  pub range : IsInRange (geometry_of bytes len)

tests_fail : (bytes : List ℕ) (len : ℕ) → refusal_of bytes len ≡ None → AllFalse (refusal_tests bytes len)
unfolding refusal_of
tests_fail bytes len e = AllFalse-from_none (refusal_tests bytes len) e

not_below : (a b : ℕ) → nat_lt a b ≡ false → b ≤ a
not_below a b e = grind (arith, nat_tests)

not_zero : (a : ℕ) → (a == 0) ≡ false → 1 ≤ a
not_zero a e = grind (arith, nat_tests)

stored_size : (n : ℕ) → list_any (λ size. n == size) stored_page_sizes ≡ true → ((n == 1) ≡ true) ⊎ (((n == 1) ≡ false) × (512 ≤ n) × (n ≤ 32768))
stored_size n e = grind (arith, nat_tests)

size_bounds : (n : ℕ) (b : Bool) → (b ≡ true) ⊎ ((b ≡ false) × (512 ≤ n) × (n ≤ 32768)) → (512 ≤ cond b 65536 n) × (cond b 65536 n ≤ 65536)
size_bounds n true h = (omega arith, omega arith)
size_bounds n false (inl e) = cc
size_bounds n false (inr h) = (omega arith, omega arith)

page_size_bounds : (bytes : List ℕ) → list_any (λ size. u16_at 16 bytes == size) stored_page_sizes ≡ true → (512 ≤ page_size bytes) × (page_size bytes ≤ 65536)
unfolding page_size
page_size_bounds bytes e = size_bounds (u16_at 16 bytes) (u16_at 16 bytes == 1) (stored_size (u16_at 16 bytes) e)

usable_within : (bytes : List ℕ) → usable_size bytes ≤ page_size bytes
unfolding usable_size
usable_within bytes = omega arith

pub is_accepted : (bytes : List ℕ) (len : ℕ) → refusal_of bytes len ≡ None → IsAccepted bytes len
is_accepted bytes len e =
    let tests = tests_fail bytes len e in
    let size = page_size_bounds bytes (not-false _ tests.1.1.0) in
    record {
      long = not_below len 100 tests.0;
      range = record {
        page_size = size;
        usable = (not_below (usable_size bytes) 480 tests.1.1.1.0, usable_within bytes);
        pages = (not_zero (page_count bytes len) tests.1.1.1.1.0, not_below most_pages (page_count bytes len) tests.1.1.1.1.1.0);
      };
    }
