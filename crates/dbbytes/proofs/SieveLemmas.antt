-- The stages of a sieve.
use Rattle.std.proofs.Common.{◌≡◌, ℕ, ◌+◌, ◌-◌, ◌<◌, ◌≤◌, List, [], ◌∷◌, ◌++◌, length, take, drop, get_or, min, false, Option, Some, None, Result, Err, cond}
use Rattle.std.proofs.Common.{eqb, refl, sym, ap, ◌∙◌, arith, append_assoc, append-nil, add-one, drop-cons, length-append, leb, ℤ}
use Rattle.std.proofs.Math.Seq.{drop-nil, take-nil}
use Rattle.std.proofs.lemmas.Bool.Decides.{nat_tests}
use Rattle.std.proofs.lemmas.List.{drop_all}
use Rattle.dbformat.specs.Record.{value_of}
use Rattle.dbformat.specs.SchemaRow.{SchemaRow, row_kind, root_number, row_name, checked_row, schema_row}
use Rattle.dbformat.specs.declared.Encoding.{Encoding}
use Rattle.dbformat.specs.declared.RowKind.{RowKind}
use Rattle.dbformat.specs.declared.RowFault.{RowFault}
use Rattle.dbformat.specs.declared.RowFault.TheVariants.{Malformed}
use Rattle.dbbytes.specs.Record.{body_lens, body_values, row_by, progress_row, values_from, sized_values}
use Rattle.dbbytes.specs.Sieve.{row_of_kept, row_after, HasTaken}
use Rattle.dbbytes.specs.Window.{kept}
use Rattle.dbbytes.specs.declared.record_header.RecordHeader.{RecordHeader}
use Rattle.dbbytes.specs.declared.record_header.HeaderProgress.TheVariants as progress
use Rattle.dbbytes.specs.declared.partial.PartialVarint.{PartialVarint}
use Rattle.dbbytes.specs.declared.sieve.RowSieve.{RowSieve}
use Rattle.dbbytes.specs.declared.sieve.Stage.TheVariants as stage
use Rattle.dbbytes.proofs.KeptLemmas.{kept_row}
use Rattle.dbbytes.proofs.RecordLemmas.{cond_none, row_by_none}

-- what each stage says
pub row_after-size : (s : RowSieve) (size : ℕ) (number : PartialVarint) (more : List ℕ)
    → s.stage ≡ stage.HeaderSize size number → row_after s more ≡ progress_row s.encoding (progress.Size size number) more
unfolding row_after
row_after-size s size number more e = rw e refl

pub row_after-types : (s : RowSieve) (header : RecordHeader) (more : List ℕ)
    → s.stage ≡ stage.SerialTypes header → row_after s more ≡ progress_row s.encoding (progress.Types header) more
unfolding row_after
row_after-types s header more e = rw e refl

pub row_after-malformed : (s : RowSieve) (more : List ℕ) → s.stage ≡ stage.Malformed → row_after s more ≡ Err Malformed
unfolding row_after
row_after-malformed s more e = rw e refl

-- one byte more of a piece
pub fed_more : (s t first : RowSieve) (piece : List ℕ) (i : ℕ) → i < length piece
    → ((more : List ℕ) → row_after s (drop i piece ++ more) ≡ row_after first (piece ++ more))
    → ((more : List ℕ) → row_after t more ≡ row_after s (get_or piece i 0 ∷ more))
    → (more : List ℕ) → row_after t (drop (i + 1) piece ++ more) ≡ row_after first (piece ++ more)
fed_more s t first piece i h before here more =
    let cut : drop i piece ≡ get_or piece i 0 ∷ drop (i + 1) piece = rw add-one (drop-cons piece i 0 h) in
    here (drop (i + 1) piece ++ more) ∙ rw cut at (before more)

-- The bodies begin, and what is kept is what is aimed at.
pub row_entered : (e : Encoding) (types lens more : List ℕ) (bodies g0 w0 g1 w1 g2 w2 : ℕ) (b0 b1 b2 : List ℕ)
    → length types ≡ 5 → length lens ≡ 5 → body_lens types bodies ≡ Some lens
    → g0 ≡ 0 → w0 ≡ min (get_or lens 0 0) 15 → b0 ≡ []
    → g1 ≡ get_or lens 0 0 → w1 ≡ min (get_or lens 1 0) 1001 → b1 ≡ []
    → g2 ≡ get_or lens 0 0 + get_or lens 1 0 + get_or lens 2 0 → w2 ≡ min (get_or lens 3 0) 8 → b2 ≡ []
    → cond (eqb (length more) bodies) (row_of_kept e types (kept g0 w0 b0 more) (kept g1 w1 b1 more) (kept g2 w2 b2 more)) (Err Malformed)
    ≡ row_by e (eqb (length more) bodies) (body_values types bodies more)
row_entered e types lens more bodies g0 w0 g1 w1 g2 w2 b0 b1 b2 five_types five_lens laid p q r s t u v w x =
    rw (p, q, r, s, t, u, v, w, x) (ap (λ (row : Result SchemaRow RowFault). cond (eqb (length more) bodies) row (Err Malformed))
    (kept_row e types lens more bodies five_types five_lens laid))

-- More bytes than there should be.
pub row_over : (left : ℕ) (piece more : List ℕ) (row : Result SchemaRow RowFault) → left < length piece
    → Err Malformed ≡ cond (eqb (length (piece ++ more)) left) row (Err Malformed)
row_over left piece more row h =
    let far : eqb (length (piece ++ more)) left ≡ false = grind (arith, nat_tests, length-append piece more) in
    rw far refl

-- The next bytes of the bodies.
pub row_more : (e : Encoding) (left : ℕ) (types piece more kind kind' name name' root root' : List ℕ) → length piece ≤ left
    → kind ≡ kind' → name ≡ name' → root ≡ root'
    → cond (eqb (length more) (left - length piece)) (row_of_kept e types kind name root) (Err Malformed)
    ≡ cond (eqb (length (piece ++ more)) left) (row_of_kept e types kind' name' root') (Err Malformed)
row_more e left types piece more kind kind' name name' root root' h p q r =
    let same : eqb (length more) (left - length piece) ≡ eqb (length (piece ++ more)) left = grind (arith, nat_tests, length-append piece more) in
    rw (p, q, r, same) refl

-- Where nothing more comes, what is kept is what was.
kept_all : (gap want : ℕ) (bytes : List ℕ) → kept gap want bytes [] ≡ bytes
kept_all gap want bytes = rw (drop-nil gap, take-nil want) (append-nil bytes)

-- The end of the bodies.
pub row_done : (s : RowSieve) (types : List ℕ) (left : ℕ) → s.stage ≡ stage.Bodies left types → left ≡ 0
    → row_after s [] ≡ row_of_kept s.encoding types s.kind.bytes.items s.name.bytes.items s.root.bytes.items
unfolding row_after
row_done s types left e none =
    rw (
      e,
      none,
      kept_all s.kind.gap s.kind.want s.kind.bytes.items,
      kept_all s.name.gap s.name.want s.name.bytes.items,
      kept_all s.root.gap s.root.want s.root.bytes.items,
    ) refl

-- Bytes are still to come.
row_short : (left : ℕ) (row : Result SchemaRow RowFault) → (left ≡ 0 → ⊥) → cond (eqb 0 left) row (Err Malformed) ≡ Err Malformed
row_short left row h = let short : eqb 0 left ≡ false = grind (arith, nat_tests) in rw short refl

pub row_bodies_short : (s : RowSieve) (types : List ℕ) (left : ℕ) → s.stage ≡ stage.Bodies left types → (left ≡ 0 → ⊥) → row_after s [] ≡ Err Malformed
unfolding row_after
row_bodies_short s types left e some = rw e (row_short left _ some)

pub row_size_short : (s : RowSieve) (size : ℕ) (number : PartialVarint) → s.stage ≡ stage.HeaderSize size number → row_after s [] ≡ Err Malformed
unfolding row_after sized_values
row_size_short s size number e = rw e (row_by_none s.encoding _)

no_values : (left bodies : ℕ) (types : List ℕ) (others n value : ℕ) → values_from left bodies types others n value [] ≡ None
unfolding values_from
no_values left bodies types others n value = rw (take-nil left) (cond_none (leb left 0))

pub row_types_short : (s : RowSieve) (header : RecordHeader) → s.stage ≡ stage.SerialTypes header → row_after s [] ≡ Err Malformed
unfolding row_after
row_types_short s header e =
    rw (e, no_values header.left header.bodies (take header.count header.types) (4 - header.count) header.number.length header.number.value)
    (row_by_none s.encoding _)

-- The row of what is kept.
pub row_checked : (e : Encoding) (types kind name root k n r : List ℕ) (row_k : Option RowKind) (row_r : Option ℤ) (row_n : Option (List ℕ))
    → row_k ≡ row_kind e (value_of (get_or types 0 0) k) → k ≡ kind
    → row_n ≡ row_name e (value_of (get_or types 1 0) n) → n ≡ name
    → row_r ≡ root_number (value_of (get_or types 3 0) r) → r ≡ root
    → checked_row row_k row_r row_n ≡ row_of_kept e types kind name root
row_checked e types kind name root k n r row_k row_r row_n p p' q q' s s' = rw (p, q, s, p', q', s') refl

-- What a sieve has taken, from what it says of bytes that are still to come.
pub taken_none : (s : RowSieve) (size : ℕ) (e : Encoding) → ((more : List ℕ) → row_after s more ≡ schema_row more size e) → HasTaken s size e []
taken_none s size e h = record { tells = h }

pub taken_more : {s t : RowSieve} {size : ℕ} {e : Encoding} {bytes : List ℕ} (piece : List ℕ) → HasTaken s size e bytes
    → ((more : List ℕ) → row_after t more ≡ row_after s (piece ++ more)) → HasTaken t size e (bytes ++ piece)
taken_more {size = size} {e = e} {bytes = bytes} piece h fed = record {
  tells = λ more. fed more ∙ h.tells (piece ++ more) ∙ ap (λ w. schema_row w size e) (sym (append_assoc bytes piece more));
}

pub taken_row : {s : RowSieve} {size : ℕ} {e : Encoding} {bytes : List ℕ} → HasTaken s size e bytes → row_after s [] ≡ schema_row bytes size e
taken_row {size = size} {e = e} {bytes = bytes} h = h.tells [] ∙ ap (λ w. schema_row w size e) (append-nil bytes)

-- all of a piece
pub fed_all : (s first : RowSieve) (piece : List ℕ) (i : ℕ) → length piece ≤ i
    → ((more : List ℕ) → row_after s (drop i piece ++ more) ≡ row_after first (piece ++ more)) → (more : List ℕ) → row_after s more
    ≡ row_after first (piece ++ more)
fed_all s first piece i h before more = let none : drop i piece ≡ [] = drop_all i piece h in rw none at (before more)
