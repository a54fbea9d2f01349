use Rattle.std.proofs.Common.{◌≡◌, ◌∙◌, ◌+◌, ◌-◌, length, ap, refl, arith}
use Rattle.std.proofs.lemmas.List.{length-take}
use Rattle.std.proofs.lemmas.Result.{err_from_is_err_and}
use Rattle.dblog.proofs.JournalRuns.{records_failed, records_read, records_refused, records_unread}
use Rattle.dblog.proofs.ReadSteps.{reads_given}
use Rattle.dblog.proofs.journal_reading.read_records.Goals as goal

pub returns-in_err-bytes-clause-reads : goal.returns-in_err-bytes-clause-reads
returns-in_err-bytes-clause-reads g c =
    let p = err_from_is_err_and c.from_residual.result c.from_residual.ensures.1 in
    rw p.1 (rw p.2 (records_refused _ c.args.shape c.args.head.now _ _ (omega (arith, c.requires.sized.sector, c.requires.sized.within))))

pub returns-in_err-read_at-clause-reads : goal.returns-in_err-read_at-clause-reads
returns-in_err-read_at-clause-reads g c =
    let p = err_from_is_err_and c.from_residual-in_err-read_at.result c.from_residual-in_err-read_at.ensures.1 in
    let size : 28 + length c.read_at.new.buf ≡ c.args.shape.sector =
    omega (
      arith,
      c.read_at.auto.buf,
      length-take (c.sector-sector.result - 28) c.as_mut_slice-buffer.result.now,
      c.as_mut_slice-buffer.ensures.len,
      c.in_ok-bytes.ensures.len,
      c.max.ensures,
      c.sector-sector.ensures,
      c.requires.sized.sector,
    ) in
    rw p.1 (rw p.2 (records_unread _ c.args.shape c.args.head.now c.read_at.new.buf _ _ (omega (arith, size, c.requires.sized.within))
    (omega (arith, size, c.requires.sized.most_sector))
    c.in_err-read_at.ensures.told c.in_err-read_at.ensures.trail c.in_err-read_at.ensures.count))

pub returns-in_err-read_places-clause-reads : goal.returns-in_err-read_places-clause-reads
returns-in_err-read_places-clause-reads g c =
    let p = err_from_is_err_and c.from_residual-in_err-read_places.result c.from_residual-in_err-read_places.ensures.1 in
    let size : 28 + length c.read_at.new.buf ≡ c.args.shape.sector =
    omega (
      arith,
      c.read_at.auto.buf,
      length-take (c.sector-sector.result - 28) c.as_mut_slice-buffer.result.now,
      c.as_mut_slice-buffer.ensures.len,
      c.in_ok-bytes.ensures.len,
      c.max.ensures,
      c.sector-sector.ensures,
      c.requires.sized.sector,
    ) in
    rw p.1 (rw p.2 (records_failed _ c.args.shape c.args.head.now c.read_at.new.buf c.place_after-first.result _ _ _ _ _ c.in_err-read_places.field-0.0 size
    (ap (λ q. q.at) c.place_after-first.ensures ∙ omega arith)
    (reads_given 28 c.read_at.new.buf c.read_at.new.buf _ _ refl (omega (arith, size, c.requires.sized.most_sector))
    c.in_ok-read_at.ensures.told c.in_ok-read_at.ensures.trail c.in_ok-read_at.ensures.count c.in_ok-read_at.ensures.bytes)
    c.in_err-read_places.ensures))

pub returns-clause-reads : goal.returns-clause-reads
returns-clause-reads g c =
    let size : 28 + length c.read_at.new.buf ≡ c.args.shape.sector =
    omega (
      arith,
      c.read_at.auto.buf,
      length-take (c.sector-sector.result - 28) c.as_mut_slice-buffer.result.now,
      c.as_mut_slice-buffer.ensures.len,
      c.in_ok-bytes.ensures.len,
      c.max.ensures,
      c.sector-sector.ensures,
      c.requires.sized.sector,
    ) in
    records_read _ c.into_index.result c.args.shape c.args.head.now c.read_at.new.buf c.place_after-first.result _ _ _ _ _ c.place_after-first.ensures size
    (ap (λ q. q.at) c.place_after-first.ensures ∙ omega arith)
    (reads_given 28 c.read_at.new.buf c.read_at.new.buf _ _ refl (omega (arith, size, c.requires.sized.most_sector))
    c.in_ok-read_at.ensures.told c.in_ok-read_at.ensures.trail c.in_ok-read_at.ensures.count c.in_ok-read_at.ensures.bytes)
    c.new-gathered.ensures.gathers c.new-gathered.ensures.committed c.in_ok-read_places.ensures c.into_index.ensures.index
