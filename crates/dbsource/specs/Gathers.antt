-- Bytes that were put, of which the last are not yet written.
use Rattle.std.specs.Prelude.{ℕ, ◌+◌, ◌==◌, List, [], ◌∷◌, ◌++◌, Option, fold, if◌then◌else◌, length, nat_le}
use Rattle.std.specs.Io.KnownBytes.{append_known}
use Rattle.dbsource.specs.Outs.{OutState}

-- the most bytes that are gathered
abbrev pub gathered_most : ℕ
gathered_most = 65536

-- what a writer holds, where it is known; the bytes after these that it has not yet been given; and how many calls failed
pub record Gathering : Type 0 where
  pub written : Option (List ℕ)
  pub gathered : List ℕ
  pub failures : ℕ

-- as an Out: what the writer holds and then what is gathered, which is pending
abbrev pub told : Gathering → OutState
told s = record { bytes = append_known s.written s.gathered; pending = s.gathered; failures = s.failures }

-- a line with one more byte; after a line feed (10) another begins
abbrev pub line_with : List ℕ → ℕ → List ℕ
line_with line byte = if byte == 10 then [] else line ++ byte ∷ []

-- the line that these bytes end in: what comes after the last line feed, or all where there is none
abbrev pub begun_line : List ℕ → List ℕ
begun_line bytes = fold line_with [] bytes

-- the unfinished line, where `count` bytes have room after it, and else nothing
abbrev pub kept_line : List ℕ → ℕ → List ℕ
kept_line gathered count = if nat_le (length (begun_line gathered) + count) gathered_most then begun_line gathered else []

-- What is gathered after a put: all with the piece, where that has room; else the unfinished line with it, where that
-- has room; else the piece alone, or nothing where it is longer than the buffer.
abbrev pub gathered_with : List ℕ → List ℕ → List ℕ
gathered_with gathered piece =
    if nat_le (length gathered + length piece) gathered_most then gathered ++ piece
    else (if nat_le (length piece) gathered_most then kept_line gathered (length piece) ++ piece else [])
