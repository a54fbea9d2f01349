-- What is kept of the faults of a file.
use Rattle.std.specs.Prelude.{◌≡◌, ℕ, ◌≤◌, false, List, [], map, fold, take, drop, vec_len, if◌then◌else◌}
use Rattle.std.specs.List.{sum_by}
use Rattle.dbformat.specs.Lines.{counted}
use Rattle.dbformat.specs.Reference.{Reference}
use Rattle.dbformat.specs.declared.Geometry.{Geometry}
use Rattle.dbtrace.specs.declared.TracedFault.{TracedFault}
use Rattle.dbinjuries.specs.Bits.{has_bit, HasPageBit}
use Rattle.dbinjuries.specs.Kept.{kept_of}
use Rattle.dbinjuries.specs.Listed.{IsBeginning, is_lost, listed_injuries, listed_faults}
use Rattle.dbinjuries.specs.Listing.{Injury, injuries, size}
use Rattle.dbinjuries.specs.Store.{Stored, put}
use Rattle.dbinjuries.specs.Zeros.{is_of_one_byte, is_of_zeros, noted}
use Rattle.dbinjuries.specs.declared.listing.Listing.TheInside.{Inside}

-- a listing as contracts see it: injuries, how many bytes of a page are usable, and words with two bits for each page
pub record Held : Type 0 where
  pub injuries : Stored
  pub usable : ℕ
  pub zeros : List ℕ
  pub blank : List ℕ

abbrev pub held : {A : Type 0} → Inside A → Held
held l = record {
  injuries = record { limit = vec_len l.injuries; listed = take l.shown l.injuries.items; rest = l.rest; part = l.part; begins = l.begins };
  usable = l.usable;
  zeros = l.zeros;
  blank = l.blank;
}

-- no more injuries are shown than there is room for, and those of the last part are among them
abbrev pub IsHeld : {A : Type 0} → Inside A → Type 0
IsHeld l = (l.shown ≤ vec_len l.injuries) × (l.begins ≤ l.shown)

-- nothing is listed, there is room for `limit` injuries, and no page is noted
pub record IsUnused (limit : ℕ) (s : Held) : Type 0 where
  pub injuries : s.injuries ≡ record { limit = limit; listed = []; rest = 0; part = 0; begins = 0 }
  pub zeros : (p : ℕ) → has_bit s.zeros p ≡ false
  pub blank : (p : ℕ) → has_bit s.blank p ≡ false

-- there are two bits for each page of a file of this shape, and as many bytes of a page are usable
pub record HasBits (g : Geometry) (s : Held) : Type 0 where
  pub usable : s.usable ≡ g.usable
  pub zeros : HasPageBit s.zeros g.pages
  pub blank : HasPageBit s.blank g.pages

-- with one fault more
abbrev pub added : Held → TracedFault → Held
added s x = record {
  injuries = put s.injuries x;
  usable = s.usable;
  zeros = noted is_of_zeros s.zeros x;
  blank = noted (is_of_one_byte s.usable) s.blank x;
}

-- as it is received: that of a lost page is added later
abbrev pub received : Held → TracedFault → Held
received s x = if is_lost x then s else added s x

-- some faults were received, one after another
abbrev pub HasListed : Held → List TracedFault → Held → Type 0
HasListed first ts s = s ≡ fold received first ts

-- of these injuries the first `limit` are listed, and the faults of the others are counted
pub record Shows (limit : ℕ) (es : List Injury) (s : Held) : Type 0 where
  pub room : s.injuries.limit ≡ limit
  pub listed : s.injuries.listed ≡ map kept_of (take limit es)
  pub rest : s.injuries.rest ≡ counted (sum_by size (drop limit es))

-- all faults of a file are listed
abbrev pub ListsAll : ℕ → List ℕ → List Reference → Held → Type 0
ListsAll limit file V s = Shows limit (listed_injuries file V) s

-- the first of them are
pub record ListsFirst (limit : ℕ) (file : List ℕ) (V : List Reference) (s : Held) : Type 0 where
  pub reported : List TracedFault
  pub first : IsBeginning reported (listed_faults file V)
  pub shows : Shows limit (injuries reported) s
