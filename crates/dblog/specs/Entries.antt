-- The index of a log: from which of its frames a page is read.
use Rattle.std.specs.Prelude.{◌≡◌, ℕ, ◌<◌, ◌≤◌, ◌==◌, Bool, false, ◌&&◌, ◌||◌, List, [], ◌∷◌, length, slice_index, nat_le, nat_lt, Option, if◌then◌else◌}
use Rattle.std.specs.List.{All, AllPairs, Any, find}
use Rattle.std.specs.Option.{option_map}
use Rattle.dblog.specs.declared.entry.Entry.{Entry}

-- an entry names a frame of its page, where frame k is one of page k of these
abbrev pub NamesFrame : List ℕ → Entry → Type 0
NamesFrame pages e = (e.frame < length pages) × (slice_index pages e.frame ≡ e.page)

-- An index of frames, where frame k is one of page k of these: each entry names a frame of its page, and each frame's page has an
-- entry, which names no frame before it. So the entry of a page names its last frame. The pages rise, so a page has one entry.
pub record IsIndexOf (entries : List Entry) (pages : List ℕ) : Type 0 where
  pub rising : AllPairs (λ d e. d.page < e.page) entries
  pub names : All (NamesFrame pages) entries
  pub last : (k : ℕ) → k < length pages → 0 < slice_index pages k → Any (λ e. (e.page ≡ slice_index pages k) × (k ≤ e.frame)) entries

-- the frame that is named for a page, if one is
abbrev pub named_frame : List Entry → ℕ → Option ℕ
named_frame entries page = option_map (λ e. e.frame) (find (λ e. e.page == page) entries)

-- the entries that are gathered while a log is read, and how many frames are committed
pub record Gathering : Type 0 where
  pub entries : List Entry
  pub committed : ℕ

-- Before the log is read to its end: of these frames the first `count` are committed. Each entry names a frame of its page, and each
-- frame's page has an entry that names no frame before it, and a committed one for a committed frame.
pub record Gathers (entries : List Entry) (pages : List ℕ) (count : ℕ) : Type 0 where
  pub names : All (NamesFrame pages) entries
  pub last : (k : ℕ) → k < length pages → 0 < slice_index pages k
      → Any (λ e. (e.page ≡ slice_index pages k) × (k ≤ e.frame) × (k < count → e.frame < count)) entries

-- whether nothing is lost without e, since f names a later frame of the same page, which is committed if that of e is
abbrev pub is_replaced : ℕ → Entry → Entry → Bool
is_replaced count e f = (e.page == f.page) && (nat_le e.frame f.frame && (nat_lt f.frame count || nat_le count e.frame))

abbrev pub is_replaced_by_first : ℕ → Entry → List Entry → Bool
is_replaced_by_first count e [] = false
is_replaced_by_first count e (f ∷ fs) = is_replaced count e f

-- the entries that the next one does not replace
abbrev pub latest : ℕ → List Entry → List Entry
latest count [] = []
latest count (e ∷ es) = if is_replaced_by_first count e es then latest count es else e ∷ latest count es
