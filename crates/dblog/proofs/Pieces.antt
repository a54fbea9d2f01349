-- The pieces of a log, one after another.
use Rattle.std.proofs.Common.{◌≡◌, ℕ, suc, ◌<◌, ◌≤◌, ◌+◌, ◌*◌, ◌^◌, false, List}
use Rattle.std.proofs.Common.{[], ◌∷◌, ◌++◌, length, refl, sym, ap, subst, ◌∙◌, arith}
use Rattle.std.specs.Prelude.{Ok, Err}
use Rattle.std.specs.List.{All, concat}
use Rattle.std.proofs.lemmas.List.{length-append}
use Rattle.std.proofs.lemmas.List.Folds.{concat-append}
use Rattle.std.proofs.lemmas.List.Elements.{All-append, All-head, All-nil, All-tail}
use Rattle.dbsource.specs.Answers.{IsRangeOf, Step}
use Rattle.dbsource.specs.Sources.{SourceState}
use Rattle.dblog.specs.Reading.{Reads, ReadsFrames}
use Rattle.dblog.specs.Scanning.{HasRoom, LooksAt, Scanned, Scans}
use Rattle.dblog.specs.declared.error.LogError.{LogError}
use Rattle.dblog.specs.declared.error.LogError.TheVariants.{OutOfMemory}
use Rattle.dbsource.specs.declared.memory.NoMemory.{NoMemory}
use Rattle.dblog.proofs.ReadSteps.{reads_join, reads_none}
use Rattle.dblog.proofs.Scans.{scans_room}

pub times_le : (a b n : ℕ) → a ≤ b → a * n ≤ b * n
times_le a b n l = grind arith

pub length_concat : (size : ℕ) (fs : List (List ℕ)) → All (λ f. length f ≡ size) fs → length (concat fs) ≡ length fs * size
length_concat size [] h = omega arith
length_concat size (f ∷ fs) h =
    let rest = length_concat size fs (All-tail (λ g. length g ≡ size) f fs h) in
    length-append f (concat fs) ∙ ap (λ n. n + length (concat fs)) (All-head (λ g. length g ≡ size) f fs h) ∙ ap (λ n. size + n) rest ∙ one (length fs)
  where
    one : (n : ℕ) → size + n * size ≡ (suc n) * size
    one n = let e : suc n ≡ n + 1 = omega arith in rw e (omega arith)

-- what was read of the frames before place `done`, and what is kept of it
pub record PiecesRead (step : Step) (h : List ℕ) (size done : ℕ) (old new : SourceState) (scan : Scanned) : Type 0 where
  pub fs : List (List ℕ)
  pub sized : All (λ f. length f ≡ size) fs
  pub long : length fs ≡ done
  pub reads : Reads step 32 false old new (concat fs)
  pub scans : Scans h scan fs

pub no_pieces : {step : Step} (h : List ℕ) (size : ℕ) (s : SourceState) (scan : Scanned) → Scans h scan [] → PiecesRead step h size 0 s s scan
no_pieces h size s scan k = record { fs = []; sized = All-nil (λ f. length f ≡ size); long = refl; reads = reads_none 32 s s refl refl refl; scans = k }

piece_place : (size done : ℕ) (fs : List (List ℕ)) → All (λ f. length f ≡ size) fs → length fs ≡ done → 32 + done * size ≡ 32 + length (concat fs)
piece_place size done fs h l = ap (λ n. 32 + n) (ap (λ n. n * size) (sym l) ∙ sym (length_concat size fs h))

-- a piece more
pub piece_read : {step : Step} {h : List ℕ} {X : Type 0} (x : X) (size done next : ℕ) (old mid new : SourceState) (s t : Scanned)
    → PiecesRead step h size done old mid s → ReadsFrames {X = X} step size (32 + done * size) next (Ok x) mid new (λ fs y. LooksAt h fs s t)
    → PiecesRead step h size (done + next) old new t
piece_read {step = step} {h = h} x size done next old mid new s t p k = record {
  fs = p.fs ++ k.frames;
  sized = All-append (λ f. length f ≡ size) p.fs k.frames p.sized k.sized;
  long = omega (arith, length-append p.fs k.frames, p.long, k.all);
  reads = subst (Reads step 32 false old new) (sym (concat-append p.fs k.frames))
      (reads_join (concat p.fs) (concat k.frames) (piece_place size done p.fs p.sized p.long) p.reads k.reads);
  scans = k.holds.scans p.fs p.scans;
}

-- a piece that was not read whole
pub piece_failed : {step : Step} {h : List ℕ} {X Y : Type 0} {P : List (List ℕ) → X → Type 0} {Q : List (List ℕ) → Y → Type 0} (e : LogError)
    (size count done next : ℕ) (old mid new : SourceState) (s : Scanned) → done + next ≤ count
    → PiecesRead step h size done old mid s → ReadsFrames {X = X} step size (32 + done * size) next (Err e) mid new P
    → ReadsFrames {X = Y} step size 32 count (Err e) old new Q
piece_failed {step = step} {X = X} {Y = Y} e size count done next old mid new s l p k =
    let joined = reads_join (concat p.fs) (concat k.frames) (piece_place size done p.fs p.sized p.long) p.reads k.reads in
    let m : (done + next) * size ≤ count * size = times_le (done + next) count size l in
    record {
      frames = p.fs ++ k.frames;
      sized = All-append (λ f. length f ≡ size) p.fs k.frames p.sized k.sized;
      most = omega (arith, length-append p.fs k.frames, p.long, k.most);
      reads = record {
        log = joined.log;
        leads = joined.leads;
        told = joined.told;
        tells = joined.tells;
        end = k.reads.end;
        in_order = joined.in_order;
        ends = λ z. joined.ends z ∙ ap (λ x. 32 + length x) (sym (concat-append p.fs k.frames));
        is = λ file y f. subst (IsRangeOf file 32) (sym (concat-append p.fs k.frames)) (joined.is file y f);
        fits = λ file r. joined.fits file (subst (IsRangeOf file 32) (concat-append p.fs k.frames) r);
        count = joined.count;
      };
      within = omega (arith, k.within, m);
      all = tt;
      unversioned = k.unversioned;
      holds = tt;
    }

-- all pieces
pub pieces_read : {step : Step} {h : List ℕ} (size count done : ℕ) (old new : SourceState) (s : Scanned) → done ≡ count
    → PiecesRead step h size done old new s
    → ReadsFrames {X = Scanned} step size 32 count (Ok s) old new (λ fs t. Scans h t fs)
pieces_read size count done old new s l p = record {
  frames = p.fs;
  sized = p.sized;
  most = omega (arith, p.long, l);
  reads = p.reads;
  within = omega (arith, p.reads.ends refl, length_concat size p.fs p.sized, ap (λ n. n * size) (p.long ∙ l));
  all = p.long ∙ l;
  unversioned = tt;
  holds = p.scans;
}

-- nothing was read, for want of memory
pub nothing_read : {step : Step} {X : Type 0} {P : List (List ℕ) → X → Type 0} (size count : ℕ) (s : SourceState) (refused : NoMemory)
    → ReadsFrames {X = X} step size 32 count (Err (OutOfMemory refused)) s s P
nothing_read size count s refused = record {
  frames = [];
  sized = All-nil (λ g. length g ≡ size);
  most = omega arith;
  reads = reads_none 32 s s refl refl refl;
  within = omega arith;
  all = tt;
  unversioned = λ z. absurd cc;
  holds = tt;
}

-- there is room for the rest
pub room_for_piece : {step : Step} {h : List ℕ} {size done : ℕ} {old new : SourceState} {s : Scanned} (count next : ℕ) → PiecesRead step h size done old new s
    → done + next ≤ count → count < 2 ^ 32 → HasRoom next s
room_for_piece {h = h} {s = s} count next p l m = scans_room h s p.fs next (omega (arith, p.long)) p.scans
