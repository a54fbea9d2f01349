-- Overflow chains as a program walks them, and what a sieve is fed on the way.
use Rattle.std.specs.Prelude.{ℕ, ◌+◌, ◌≤◌, List, ◌++◌, flat_map, Option, Some, None, ◌≡◌}
use Rattle.std.specs.Prelude.{◌==◌, if◌then◌else◌}
use Rattle.dbsurvey.specs.Moves.{Moves}
use Rattle.dbformat.specs.Reference.{Reference, first_overflow, later_overflow, bytes_left, role_of, from_of, item_of}
use Rattle.dbformat.specs.Schema.{held_bytes}
use Rattle.dbformat.specs.declared.Encoding.{Encoding}
use Rattle.dbbytes.specs.Sieve.{HasTaken}
use Rattle.dbbytes.specs.declared.sieve.RowSieve.{RowSieve}
use Rattle.dbtrace.specs.Causes.{cell_rowid, chain_head, nothing_seen, pages_for, seen_bytes}
use Rattle.dbtrace.specs.declared.Cause.{Cause}
use Rattle.dbtrace.specs.declared.Cause.TheVariants as cause
use Rattle.dbtrace.specs.declared.CellChain.{CellChain}
use Rattle.dbtrace.specs.declared.SeenBytes.{SeenBytes}
use Rattle.dbtrace.specs.Finding.{Finding, reported_at}
use Rattle.dbtrace.specs.Walk.{Walk}
use Rattle.dbformat.specs.Address.{start_of, then_step, child_path, chain_place}
use Rattle.dbformat.specs.FixedPages.{IsPageNumber}
use Rattle.dbformat.specs.Header.{usable_size}
use Rattle.dbformat.specs.Payload.{most_payload}
use Rattle.dbformat.specs.Story.{at_page}
use Rattle.dbwalk.specs.declared.chain.Chain.{Chain}
use Rattle.dbwalk.specs.declared.chain.ChainPage.{ChainPage}
use Rattle.dbwalk.specs.declared.chain.ChainPlace.{ChainPlace}
use Rattle.dbwalk.specs.declared.state.Tree.{Tree}
use Rattle.dbmarks.specs.declared.marks.Mark.{Mark}
use Rattle.dbwalk.specs.Beside.{IsAtStep}
use Rattle.dbmarks.specs.Marking.{IsUse, named_page}

-- What a sieve is fed, where there is one.

-- A sieve that had taken some bytes has then taken these after them. There is a sieve exactly if there was one.
abbrev pub Feeds : Option RowSieve → List ℕ → Option RowSieve → Type 0
Feeds None bytes None = Unit {0}
Feeds None bytes (Some t) = ⊥
Feeds (Some s) bytes None = ⊥
Feeds (Some s) bytes (Some t) = (size : ℕ) (e : Encoding) (taken : List ℕ) → HasTaken s size e taken → HasTaken t size e (taken ++ bytes)

-- it was fed the payload bytes on the overflow pages that were visited after the visits of W, up to those of V
pub record FeedsSince (file : List ℕ) (W V : List Reference) (old new : Option RowSieve) : Type 0 where
  pub pages : List Reference
  pub since : V ≡ W ++ pages
  pub fed : Feeds old (flat_map (held_bytes file) pages) new

-- Overflow chains as a program walks them.

-- A place to go on from: its mark is that of a use and names a page, and number and bytes left stay within the greatest payload.
pub record IsPlace (place : ChainPlace) : Type 0 where
  pub named : IsPageNumber (named_page place.step.mark)
  pub used : IsUse place.step.mark
  pub counted : place.number + place.left ≤ most_payload

-- a reference to the page of this number in a chain, by its address
pub record IsOnChain (chain : Chain) (number : ℕ) (c : Reference) : Type 0 where
  pub start : start_of c.address ≡ chain.start
  pub path : child_path c.address ≡ chain.path.now
  pub place : chain_place c.address ≡ Some (chain.cell, number)

-- What is known of a chain at page `number` of it, where `left` bytes are left and `found` pages were found.
abbrev pub walked_chain : Chain → ℕ → ℕ → ℕ → ℕ → SeenBytes → CellChain
walked_chain chain number usable left found seen = record {
  page = chain.page;
  item = chain.cell;
  rowid = chain.rowid;
  pages = number + pages_for usable left;
  found = found;
  seen = seen;
}

-- the reference of a cell to the first page of its chain
pub record IsChainOf (file : List ℕ) (chain : Chain) (c : Reference) : Type 0 where
  pub usable : chain.usable ≡ usable_size file
  pub page : c.page ≡ chain.first
  pub role : role_of c ≡ first_overflow chain.left
  pub from : from_of c ≡ chain.page
  pub item : item_of c ≡ chain.cell
  pub rowid : cell_rowid file chain.page chain.cell ≡ chain.rowid
  pub place : IsOnChain chain 0 c

-- the reference of an overflow page to the next one, where this many bytes are left after it
abbrev pub next_of : Reference → ℕ → ℕ → Reference
next_of c left page = record { address = then_step c.address 0; page = page; role = record { role = later_overflow left; from = c.page; item = 0 } }

-- By the visits of V, the chain of a reference begins with one from the cell that it belongs to.
pub record HasHead (file : List ℕ) (chain : Chain) (V : List Reference) (d : Reference) : Type 0 where
  pub head : Reference
  pub found : chain_head V d ≡ Some head
  pub from : from_of head ≡ chain.page
  pub item : item_of head ≡ chain.cell
  pub rowid : cell_rowid file chain.page chain.cell ≡ chain.rowid

-- What is seen in the page that was read last before page `number` of a chain. Before its first page that page is not of the chain.
abbrev pub seen_before : ℕ → ℕ → List ℕ → SeenBytes
seen_before usable number here = if number == 0 then nothing_seen else seen_bytes usable here

-- What the visit of the page at a place of a chain leaves: what was reported, and what a sieve was fed.
pub record IsOverflowVisited {S : Type 0} (takes : S → Finding → S → Type 0) (file : List ℕ) (chain : Chain) (place : ChainPlace)
    (old new : Option RowSieve) (before after : S) : Type 0 where
  pub reported : (U : List Reference) (c : Reference) → c.page ≡ place.step.page → bytes_left (role_of c) ≡ Some place.left → IsOnChain chain place.number c
      → HasHead file chain U c → Moves takes before (reported_at file U (at_page c)) after
  pub fed : (c : Reference) → c.page ≡ place.step.page → bytes_left (role_of c) ≡ Some place.left → Feeds old (held_bytes file c) new

-- what the fault of the reference at a place of a chain goes back to, where the page before it has these bytes; and at no place
abbrev pub place_cause : Chain → ChainPlace → List ℕ → Cause
place_cause chain place here =
    cause.Chain (walked_chain chain place.number chain.usable place.left place.number (seen_before chain.usable place.number here))

abbrev pub known_cause : Option ChainPage → List ℕ → Cause
known_cause None here = cause.Itself
known_cause (Some at) here = place_cause at.chain.now at.place here

-- Along a chain, after the visits of W: the reference at this place is left, a sieve was fed the pages so far, and the last one was read.
pub record IsOnWay {S : Type 0} (takes : S → Finding → S → Type 0) (file : List ℕ) (W : List Reference) (whole : Walk) (before : S) (chain : Chain)
    (place : ChainPlace) (state : List Mark × Tree) (s : S) (old new : Option RowSieve) (here : List ℕ) : Type 0 where
  pub usable : chain.usable ≡ usable_size file
  pub at : IsAtStep takes file whole before place.step (place_cause chain place here) state s
  pub fed : FeedsSince file W at.now.visits old new
  pub left : bytes_left (role_of at.d) ≡ Some place.left
  pub on : IsOnChain chain place.number at.d
  pub head : HasHead file chain at.now.visits at.d
