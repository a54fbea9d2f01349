-- The write-ahead log (Database File Format, 4.1 to 4.4): a header of 32 bytes, and then frames, each of a head of 24 bytes and a page.
use Rattle.std.specs.Prelude.{ℕ, ◌+◌, ◌*◌, ◌-◌, ◌/◌, ◌^◌, ◌==◌, Bool, ◌&&◌, ◌||◌, List, [], ◌∷◌, drop, take, length, map, min, nat_lt, if◌then◌else◌}
use Rattle.std.specs.List.{fold, list_any, range_with_len}
use Rattle.std.specs.Str.{bytes_eq}
use Rattle.byteorder.specs.Endian.{big_number, little_number}
use Rattle.dbformat.specs.Numbers.{u32_at}
use Rattle.dblog.specs.Sums.{is_same, no_sums, sums, sums_at}
use Rattle.dblog.specs.declared.sums.Sums.{Sums}

-- ---- the header h of a log (4.1)

-- 0x377f0682 and 0x377f0683
abbrev pub magic_little : ℕ
magic_little = 931071618

abbrev pub magic_big : ℕ
magic_big = 931071619

-- how the sums read their words: the last digit of the magic says the byte order
abbrev pub order : List ℕ → ℕ → List ℕ → ℕ
order h = if u32_at 0 h == magic_big then big_number else little_number

abbrev pub version : List ℕ → ℕ
version h = u32_at 4 h

-- the only version that there is
abbrev pub known_version : ℕ
known_version = 3007000

abbrev pub page_size : List ℕ → ℕ
page_size h = u32_at 8 h

-- the two salts, which stand in the head of each frame too
abbrev pub salts : List ℕ → List ℕ
salts h = take 8 (drop 16 h)

abbrev pub is_magic : ℕ → Bool
is_magic n = (n == magic_little) || (n == magic_big)

abbrev pub page_sizes : List ℕ
page_sizes = 512 ∷ 1024 ∷ 2048 ∷ 4096 ∷ 8192 ∷ 16384 ∷ 32768 ∷ 65536 ∷ []

abbrev pub is_page_size : ℕ → Bool
is_page_size n = list_any (λ size. n == size) page_sizes

-- whether the sums of its first 24 bytes are those that it states
abbrev pub has_its_sums : List ℕ → Bool
has_its_sums h = is_same (sums (order h) no_sums (take 24 h)) (sums_at 24 h)

-- whether these bytes are the header of a log
unfoldable pub is_header : List ℕ → Bool
is_header h = (length h == 32) && (is_magic (u32_at 0 h) && (is_page_size (page_size h) && has_its_sums h))

-- ---- a frame f of a log with the header h (4.1 and 4.2)

abbrev pub page_number : List ℕ → ℕ
page_number f = u32_at 0 f

-- how many pages the database has after this frame, if it ends a transaction, or else 0
abbrev pub pages_after : List ℕ → ℕ
pages_after f = u32_at 4 f

-- whether it ends a transaction
abbrev pub commits : List ℕ → Bool
commits f = nat_lt 0 (pages_after f)

abbrev pub has_salts : List ℕ → List ℕ → Bool
has_salts h f = bytes_eq (take 8 (drop 8 f)) (salts h)

-- the sums of a frame: of the first 8 bytes of its head and then of its page, going on from those of the frame before
abbrev pub frame_sums : List ℕ → Sums → List ℕ → Sums
frame_sums h before f = sums (order h) (sums (order h) before (take 8 f)) (drop 24 f)

-- whether it is valid: its page has a number, it has the log's salts, and its sums are those that it states
unfoldable pub is_valid : List ℕ → Sums → List ℕ → Bool
is_valid h before f = nat_lt 0 (page_number f) && (has_salts h f && is_same (frame_sums h before f) (sums_at 16 f))

-- ---- which frames are used (4.3 and 4.4)

-- how many bytes a frame has
abbrev pub frame_size : List ℕ → ℕ
frame_size h = 24 + page_size h

-- how many whole frames a log of `len` bytes has: they are numbered in 32 bits
abbrev pub whole_frames : List ℕ → ℕ → ℕ
whole_frames h len = min ((len - 32) / frame_size h) (2 ^ 32 - 1)

-- frame k of a log, where the first is 0 and frames have this size
abbrev pub frame_at : ℕ → List ℕ → ℕ → List ℕ
frame_at size log k = take size (drop (32 + size * k) log)

-- its whole frames
abbrev pub frames : List ℕ → List ℕ → List (List ℕ)
frames h log = map (frame_at (frame_size h) log) (range_with_len 0 (whole_frames h (length log)))

-- the valid frames are those before the first that is not
abbrev pub valid_frames : List ℕ → Sums → List (List ℕ) → List (List ℕ)
valid_frames h before [] = []
valid_frames h before (f ∷ fs) = if is_valid h before f then f ∷ valid_frames h (sums_at 16 f) fs else []

-- those up to the last that ends a transaction
abbrev pub committed : List (List ℕ) → List (List ℕ)
committed [] = []
committed (f ∷ fs) = if list_any commits (f ∷ fs) then f ∷ committed fs else []

-- the pages that the database has after the last frame that ends a transaction, or 0 where there is none
abbrev pub stated_pages : List (List ℕ) → ℕ
stated_pages fs = fold (λ pages f. if commits f then pages_after f else pages) 0 fs

-- the header of a log
abbrev pub header : List ℕ → List ℕ
header log = take 32 log

-- the valid frames of a file: none, if it is not a log
abbrev pub valid : List ℕ → List (List ℕ)
valid log = if is_header (header log) then valid_frames (header log) (sums_at 24 (header log)) (frames (header log) log) else []

-- the frames that are used
abbrev pub used : List ℕ → List (List ℕ)
used log = committed (valid log)
