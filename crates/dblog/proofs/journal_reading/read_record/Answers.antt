use Rattle.std.proofs.Common.{◌≡◌, ◌∙◌, ◌+◌, ◌-◌, ◌/◌, ◌++◌, [], ◌∷◌, true, sym, ap, subst, length, refl, arith}
use Rattle.std.specs.Prelude.{Some}
use Rattle.std.proofs.lemmas.List.{length-take}
use Rattle.std.proofs.lemmas.Result.{err_from_is_err_and}
use Rattle.dblog.specs.Entries.{Gathers}
use Rattle.dblog.specs.Journal.{is_record}
use Rattle.dblog.specs.JournalReading.{IsKept}
use Rattle.dblog.proofs.JournalSteps.{eight_more, found_failed, found_none, found_refused, found_seen}
use Rattle.dblog.proofs.JournalSteps.{record_is, record_other, record_read, record_short, record_some}
use Rattle.dblog.proofs.journal_reading.read_record.Goals as goal

pub returns-in_err-read_within : goal.returns-in_err-read_within
returns-in_err-read_within g c =
    let p = err_from_is_err_and c.from_residual.result c.from_residual.ensures.1 in
    rw p.1 (rw p.2 (record {
      finds = found_failed c.args.shape c.args.place.now _ _ c.in_err-read_within.field-0.0 c.read_within.new.piece _ _ c.len.ensures c.at.ensures
          c.in_err-read_within.ensures;
      kept = tt;
    }))

pub returns-then-not-branch : goal.returns-then-not-branch
returns-then-not-branch g c =
    let size : length c.read_within.new.piece ≡ c.args.shape.page_size + 8 =
    omega (arith, c.read_within.auto.piece, c.record_len-count.ensures, length-take c.record_len-count.result c.args.buffer.now, c.requires.room) in
    record {
      finds = found_none c.args.shape c.args.place.now _ _ c.in_ok-read_within.field-0 c.read_within.new.piece _ _ c.len.ensures c.at.ensures
          c.in_ok-read_within.ensures
          (λ file n w r. record_short c.args.shape file c.args.place.now _ c.requires.some size (w ∙ c.if-not-branch.true));
      kept = refl;
    }

pub returns-then-not-is_record : goal.returns-then-not-is_record
returns-then-not-is_record g c =
    let size : length c.read_within.new.piece ≡ c.args.shape.page_size + 8 =
    omega (arith, c.read_within.auto.piece, c.record_len-count.ensures, length-take c.record_len-count.result c.args.buffer.now, c.requires.room) in
    record {
      finds = found_none c.args.shape c.args.place.now _ _ c.in_ok-read_within.field-0 c.read_within.new.piece _ _ c.len.ensures c.at.ensures
          c.in_ok-read_within.ensures
          (λ file n w r. record_read c.args.shape file c.args.place.now c.read_within.new.piece c.requires.some size
          (w ∙ c.if-not-branch.false) (r c.if-not-branch.false)
          ∙ record_other c.args.shape c.read_within.new.piece c.args.place.now
          (ap (λ n. is_record c.args.shape n c.read_within.new.piece) (sym c.nonce.ensures) ∙ sym c.if-not-is_record.ensures));
      kept = refl;
    }

pub returns-in_err-add : goal.returns-in_err-add
returns-in_err-add g c =
    let p = err_from_is_err_and c.from_residual-in_err-add.result c.from_residual-in_err-add.ensures.1 in
    rw p.1 (rw p.2 (record {
      finds = found_refused c.args.shape c.args.place.now _ _ c.in_ok-read_within.field-0 _ c.read_within.new.piece _ _ c.len.ensures c.at.ensures
          c.in_ok-read_within.ensures;
      kept = tt;
    }))

pub returns : goal.returns
returns g c =
    let s = c.args.shape in
    let piece = c.read_within.new.piece in
    let size : length piece ≡ s.page_size + 8 =
    omega (arith, c.read_within.auto.piece, c.record_len-count.ensures, length-take c.record_len-count.result c.args.buffer.now, c.requires.room) in
    let valid : is_record s c.args.place.now.nonce piece ≡ true =
    ap (λ n. is_record s n piece) (sym c.nonce.ensures) ∙ sym c.if-not-is_record.ensures in
    let f = found_seen s c.args.place.now c.after_record.result _ _ c.in_ok-read_within.field-0 piece _ _ c.len.ensures c.at.ensures
    c.if-not-branch.false (ap (λ q. q.at) c.after_record.ensures ∙ omega (arith, size, c.record_len-count.ensures)) (omega (arith, size))
    (eight_more c.args.place.now.at (s.page_size + 8) _ (ap (λ q. q.at) c.after_record.ensures ∙ omega (arith, c.record_len-count.ensures))
    (omega (arith, c.requires.sized.page_by_8))) c.in_ok-read_within.ensures
    (λ file n w r. record_read s file c.args.place.now piece c.requires.some size w r
    ∙ record_is s piece c.args.place.now valid
    ∙ ap (λ q. Some q) (sym (c.after_record.ensures ∙ ap (λ n. record {
      at = c.args.place.now.at + n;
      left = c.args.place.now.left - 1;
      nonce =
          c.args.place.now.nonce;
    }) c.record_len-count.ensures))) in
    record {
      finds = f.0;
      kept = subst (λ x. IsKept s x c.args.place.now c.args.gathered.now c.add.new.self) (sym f.1) (record {
        size = size;
        some = record_some s c.args.place.now.nonce piece valid;
        committed = c.in_ok-add.ensures.committed ∙ ap (λ n. n + 1) c.unit.ensures;
        gathers = λ pages l least h.
            subst (λ n. Gathers c.add.new.self.entries (pages ++ n ∷ []) (c.args.place.now.at / 8 + 1)) c.u32_at.ensures
            (subst (Gathers c.add.new.self.entries (pages ++ c.u32_at.result ∷ [])) (c.in_ok-add.ensures.committed ∙ ap (λ n. n + 1) c.unit.ensures)
            (c.in_ok-add.ensures.gathers pages (l ∙ sym c.unit.ensures) (omega (arith, least, c.unit.ensures)) h));
      });
    }
