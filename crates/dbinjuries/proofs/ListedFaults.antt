-- Faults one after another, listed as they are received.
use Rattle.std.proofs.Common.{◌≡◌, ℕ, Bool, true, false, cond, List, [], ◌∷◌, ◌++◌, refl, sym, ap, subst, ◌∙◌, append_assoc}
use Rattle.std.specs.Prelude.{filter, fold, not}
use Rattle.std.proofs.lemmas.List.Elements.{filter-append}
use Rattle.std.proofs.lemmas.List.Sums.{fold-append}
use Rattle.dbformat.specs.EndFaults.{page_numbers}
use Rattle.dbformat.specs.File.{geometry}
use Rattle.dbformat.specs.Reference.{Reference}
use Rattle.dbtrace.specs.declared.TracedFault.{TracedFault}
use Rattle.dbinjuries.specs.Bits.{has_bit}
use Rattle.dbinjuries.specs.Listed.{IsBeginning, is_lost, listed_faults, lost_faults, others_of}
use Rattle.dbinjuries.specs.Listing.{injuries}
use Rattle.dbinjuries.specs.Lists.{HasListed, Held, IsUnused, ListsAll, ListsFirst, Shows, added, received}
use Rattle.dbinjuries.specs.Store.{put}
use Rattle.dbinjuries.specs.Lost.{HasNoted}
use Rattle.dbinjuries.specs.Zeros.{is_of_one_byte, is_of_zeros, noted}
use Rattle.dbinjuries.proofs.Adding.{Keeps, keeps_injuries}
use Rattle.dbinjuries.proofs.ZeroPages.{bits_are}
use Rattle.dbscan.specs.Placed.{reported_faults}

-- the injuries, and the pages that are noted
injuries_of : (xs : List TracedFault) (s : Held) → (fold added s xs).injuries ≡ fold put s.injuries xs
injuries_of [] s = refl
injuries_of (x ∷ xs) s = injuries_of xs (added s x)

zeros_of : (xs : List TracedFault) (s : Held) → (fold added s xs).zeros ≡ fold (noted is_of_zeros) s.zeros xs
zeros_of [] s = refl
zeros_of (x ∷ xs) s = zeros_of xs (added s x)

blank_of : (xs : List TracedFault) (s : Held) → (fold added s xs).blank ≡ fold (noted (is_of_one_byte s.usable)) s.blank xs
blank_of [] s = refl
blank_of (x ∷ xs) s = blank_of xs (added s x)

-- what is kept of some faults shows their injuries
shown : (limit : ℕ) (first s : Held) (xs : List TracedFault) → IsUnused limit first → s ≡ fold added first xs → Shows limit (injuries xs) s
shown limit first s xs none e =
    let k = subst (Keeps limit _) (sym (ap (λ (s : Held). s.injuries) e ∙ injuries_of xs first)) (keeps_injuries limit xs first.injuries none.injuries) in
    record { room = k.room; listed = rw k.room at k.listed; rest = rw k.room at k.rest }

-- those that are listed as they are received
received_others : (ts : List TracedFault) (s : Held) → fold received s ts ≡ fold added s (others_of ts)
received_others [] s = refl
received_others (t ∷ ts) s = by_case (is_lost t) (received_others ts)
  where
    by_case : (b : Bool) → ((s : Held) → fold received s ts ≡ fold added s (others_of ts))
        → fold received (cond b s (added s t)) ts ≡ fold added s (cond (not b) (t ∷ others_of ts) (others_of ts))
    by_case true h = h s
    by_case false h = h (added s t)

-- all of a file were received, and its lost pages looked at
module _ (file : List ℕ) (V : List Reference) (first now l : Held) (e : HasListed first (reported_faults file V) now)
    (f : l ≡ fold added now (lost_faults file V)) where
  all_added : l ≡ fold added first (listed_faults file V)
  all_added = f ∙ ap (λ s. fold added s (lost_faults file V)) (e ∙ received_others (reported_faults file V) first)
      ∙ sym (fold-append added first (others_of (reported_faults file V)) (lost_faults file V))

  pub all_listed : (limit : ℕ) → IsUnused limit first → ListsAll limit file V l
  all_listed limit none = shown limit first l (listed_faults file V) none all_added

  pub all_noted : (limit : ℕ) → IsUnused limit first → HasNoted file V first l
  all_noted limit none = record {
    zeros = λ room. ap (λ words. filter (has_bit words) (page_numbers (geometry file)))
        (ap (λ (s : Held). s.zeros) all_added ∙ zeros_of (listed_faults file V) first)
        ∙ bits_are is_of_zeros file V first.zeros room none.zeros;
    blank = λ same room. ap (λ words. filter (has_bit words) (page_numbers (geometry file)))
        (ap (λ (s : Held). s.blank) all_added ∙ blank_of (listed_faults file V) first
        ∙ ap (λ n. fold (noted (is_of_one_byte n)) first.blank (listed_faults file V)) same)
        ∙ bits_are (is_of_one_byte (geometry file).usable) file V first.blank room none.blank;
  }

-- the first faults of a file were received
pub received_first : (limit : ℕ) (file : List ℕ) (V : List Reference) (first s : Held) (us : List TracedFault) → IsUnused limit first
    → IsBeginning us (reported_faults file V) → s ≡ fold received first us → ListsFirst limit file V s
received_first limit file V first s us none begins e = record {
  reported = others_of us;
  first = (
    others_of begins.0 ++ lost_faults file V,
    sym (append_assoc (others_of us) (others_of begins.0) (lost_faults file V))
        ∙ ap (λ l. l ++ lost_faults file V) (sym (filter-append (λ x. not (is_lost x)) us begins.0) ∙ ap others_of begins.1),
  );
  shows = shown limit first s (others_of us) none (e ∙ received_others us first);
}

-- all of them were, and then the first lost pages were looked at
pub looked_first : (limit : ℕ) (file : List ℕ) (V : List Reference) (first now s : Held) (ys : List TracedFault) → IsUnused limit first
    → now ≡ fold received first (reported_faults file V) → IsBeginning ys (lost_faults file V) → s ≡ fold added now ys → ListsFirst limit file V s
looked_first limit file V first now s ys none e begins f = record {
  reported = xs ++ ys;
  first = (begins.0, append_assoc xs ys begins.0 ∙ ap (λ l. xs ++ l) begins.1);
  shows = shown limit first s (xs ++ ys) none
      (f ∙ ap (λ s. fold added s ys) (e ∙ received_others (reported_faults file V) first) ∙ sym (fold-append added first xs ys));
}
  where
    xs : List TracedFault
    xs = others_of (reported_faults file V)
