-- A page of a file that is read has all its bytes.
use Rattle.std.proofs.Common.{arith, ◌≡◌, ℕ, ◌+◌, ◌-◌, ◌*◌, ◌/◌, ◌≤◌, Bool, true, false, cond, List, length, drop, min, None}
use Rattle.std.proofs.lemmas.List.{length-take, length-drop}
use Rattle.dbformat.specs.Header.{page_size, usable_size, page_count, whole_pages, is_size_valid, stated_pages}
use Rattle.dbformat.specs.File.{refusal, geometry, page_bytes}
use Rattle.dbformat.proofs.Accepted.{is_accepted}

few_pages : (file : List ℕ) → page_count file (length file) ≤ length file / page_size file
unfolding page_count whole_pages
few_pages file = by_case (is_size_valid file)
  where
    by_case : (b : Bool) → cond b (min (stated_pages file) (length file / page_size file)) (length file / page_size file) ≤ length file / page_size file
    by_case true = omega arith
    by_case false = omega arith

fits : (z len p : ℕ) → 1 ≤ z → 1 ≤ p → p ≤ len / z → (p - 1) * z + z ≤ len
fits z len p s l h = grind arith

pub long_page : (file : List ℕ) (p : ℕ) → refusal file ≡ None → 1 ≤ p → p ≤ (geometry file).pages → usable_size file ≤ length (page_bytes file p)
unfolding page_bytes
long_page file p e l h =
    let a = is_accepted file (length file) e in
    let few = few_pages file in
    let least = a.range.page_size.0 in
    let within = a.range.usable.1 in
    let f = fits (page_size file) (length file) p (omega arith) l (omega arith) in
    let t = length-take (page_size file) (drop ((p - 1) * page_size file) file) in
    let d = length-drop ((p - 1) * page_size file) file in
    omega arith
