use Rattle.std.proofs.Common.{refl, ◌∙◌, ap, subst, inl, inr, sym, arith, [], ◌∷◌, Ok, Err}
use Rattle.dbformat.specs.Log.{range}
use Rattle.dbsource.specs.Headers.{IsOpenLog}
use Rattle.dbsource.specs.declared.error.OpenError.TheVariants.{Refused}
use Rattle.dbsource.specs.declared.source.ReadFailed.{ReadFailed}
use Rattle.std.proofs.lemmas.Result.{err_from_is_err_and}
use Rattle.dbsource.proofs.Headers.{beginning, header_of, read_once, refused_by, told_len, told_len_is, too_short}
use Rattle.dbsource.proofs.Logs.{asks_one, has_none}
use Rattle.dbsource.proofs.Told.{if_told}
use Rattle.dbsource.proofs.header.Header.read.Goals as goal

pub returns-in_err-file_len-clause-opens : goal.returns-in_err-file_len-clause-opens
returns-in_err-file_len-clause-opens g c =
    let p = err_from_is_err_and c.from_residual.result c.from_residual.ensures.1 in
    rw p.1 (rw p.2 (record {
      len = told_len (g.S.Source.held c.args.source.now).bytes;
      same = told_len_is (g.S.Source.held c.args.source.now).bytes;
      asks = record {
        log = has_none _ _ c.in_err-file_len.ensures.told c.in_err-file_len.ensures.trail (inl refl) (λ file e. tt);
        count =
            c.in_err-file_len.ensures.count;
      };
      there_is = let f = beginning [] (told_len (g.S.Source.held c.args.source.now).bytes) (omega arith) in (f.0, f.1, tt);
      short = λ l. refl;
      answered = inr (refl, refl);
    }))

pub returns-then-file_len-clause-opens : goal.returns-then-file_len-clause-opens
returns-then-file_len-clause-opens g c = record {
  len = c.in_ok-file_len.file_len;
  same = if_told ((g.S.Source.held c.args.source.now).bytes) (λ file e. sym e) c.in_ok-file_len.ensures.number;
  asks = record {
    log = has_none _ _ c.in_ok-file_len.ensures.told c.in_ok-file_len.ensures.trail refl
        (λ file e. too_short file c.in_ok-file_len.file_len (sym e) c.if-file_len.true);
    count = c.in_ok-file_len.ensures.count;
  };
  there_is = let f = beginning [] c.in_ok-file_len.file_len (omega arith) in (f.0, f.1, tt);
  short = λ l. refl;
  answered = inl c.in_ok-file_len.ensures.length;
}

pub returns-in_err-read_at-clause-opens : goal.returns-in_err-read_at-clause-opens
returns-in_err-read_at-clause-opens g c =
    let p = err_from_is_err_and c.from_residual-in_err-read_at.result c.from_residual-in_err-read_at.ensures.1 in
    rw p.1 (rw p.2 (record {
      len = c.in_ok-file_len.file_len;
      same = if_told ((g.S.Source.held c.args.source.now).bytes) (λ file e. sym e) c.in_ok-file_len.ensures.number;
      asks = asks_one {A = Unit {0}} (Err c.in_err-read_at.field-0) _ _ _ _ 0 c.read_at.new.buf c.in_ok-file_len.ensures.told c.in_ok-file_len.ensures.trail
          c.in_ok-file_len.ensures.count
          c.in_err-read_at.ensures.told c.in_err-read_at.ensures.trail c.in_err-read_at.ensures.count tt (λ n. refl)
          (inr (ap (λ n. range 0 n ∷ []) c.read_at.auto.buf)) (λ file h e. tt);
      there_is = let f = beginning [] c.in_ok-file_len.file_len (omega arith) in (f.0, f.1, (tt, tt));
      short = λ l. absurd (omega (arith, l, c.if-file_len.false));
      answered = inl c.in_ok-file_len.ensures.length;
    }))

pub returns-in-Some-clause-opens : goal.returns-in-Some-clause-opens
returns-in-Some-clause-opens g c = record {
  len = c.in_ok-file_len.file_len;
  same = if_told ((g.S.Source.held c.args.source.now).bytes) (λ file e. sym e) c.in_ok-file_len.ensures.number;
  asks = asks_one {A = Unit {0}} {E = ReadFailed} (Ok tt) _ _ _ _ 0 c.read_at.new.buf c.in_ok-file_len.ensures.told c.in_ok-file_len.ensures.trail
      c.in_ok-file_len.ensures.count
      c.in_ok-read_at.ensures.told c.in_ok-read_at.ensures.trail c.in_ok-read_at.ensures.count c.in_ok-read_at.ensures.bytes (λ n. refl)
      (subst (λ n. IsOpenLog (Err (Refused c.in-Some.refusal)) (range 0 n ∷ [])) (sym c.read_at.auto.buf)
      (read_once c.read_at.new.buf c.in_ok-file_len.file_len c.in-Some.refusal (omega (arith, c.if-file_len.false)) (sym c.refusal_of.ensures ∙ c.in-Some.is)))
      (λ file read e. refused_by file c.read_at.new.buf c.in_ok-file_len.file_len c.in-Some.refusal (sym e) c.read_at.auto.buf read
      (sym c.refusal_of.ensures ∙ c.in-Some.is));
  there_is = let f = beginning c.read_at.new.buf c.in_ok-file_len.file_len (omega (arith, c.read_at.auto.buf, c.if-file_len.false)) in (f.0, f.1, (f.2, tt));
  short = λ l. absurd (omega (arith, l, c.if-file_len.false));
  answered = inl c.in_ok-file_len.ensures.length;
}

pub returns-in-None-clause-opens : goal.returns-in-None-clause-opens
returns-in-None-clause-opens g c = record {
  len = c.in_ok-file_len.file_len;
  same = if_told ((g.S.Source.held c.args.source.now).bytes) (λ file e. sym e) c.in_ok-file_len.ensures.number;
  asks = asks_one {A = Unit {0}} {E = ReadFailed} (Ok tt) _ _ _ _ 0 c.read_at.new.buf c.in_ok-file_len.ensures.told c.in_ok-file_len.ensures.trail
      c.in_ok-file_len.ensures.count
      c.in_ok-read_at.ensures.told c.in_ok-read_at.ensures.trail c.in_ok-read_at.ensures.count c.in_ok-read_at.ensures.bytes (λ n. refl)
      (ap (λ n. range 0 n ∷ []) c.read_at.auto.buf)
      (λ file read e. header_of file c.read_at.new.buf c.in_ok-file_len.file_len c.accepted.result (sym e) c.read_at.auto.buf read
      (sym c.refusal_of.ensures ∙ c.in-None.is) c.accepted.ensures.bytes c.accepted.ensures.file_len);
  there_is = let f = beginning c.read_at.new.buf c.in_ok-file_len.file_len (omega (arith, c.read_at.auto.buf, c.if-file_len.false)) in (f.0, f.1, (f.2, tt));
  short = λ l. absurd (omega (arith, l, c.if-file_len.false));
  answered = inl c.in_ok-file_len.ensures.length;
}
