-- What a view keeps of the head of its page.
use Rattle.std.specs.Prelude.{◌≡◌, ℕ, ◌+◌, ◌*◌, ◌≤◌, List, length}
use Rattle.dbformat.specs.Head.{cell_count, content_start, pointers_start}
use Rattle.dbformat.specs.declared.PageKind.{PageKind}

-- these are the start of the cell pointers, the number of cells and the start of the content area of a sound head
pub record IsHead (number : ℕ) (kind : PageKind) (usable : ℕ) (bytes : List ℕ) (pointers cells start : ℕ) : Type 0 where
  pub whole : usable ≤ length bytes
  pub least : 480 ≤ usable
  pub most : usable ≤ 65536
  pub pointers_is : pointers ≡ pointers_start number kind
  pub cells_is : cells ≡ cell_count number bytes
  pub start_is : start ≡ content_start number bytes
  pub room : pointers + 2 * cells ≤ start
  pub inside : start ≤ usable
