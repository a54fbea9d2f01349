use Rattle.std.proofs.Common.{◌≡◌, ℕ, length, Result, Ok, Err, refl, sym, ◌∙◌}
use Rattle.std.specs.Prelude.{IfOk, IfSome, option_map}
use Rattle.dbsource.specs.Changes.{patched}
use Rattle.dbsource.specs.Sources.{AreBytes}
use Rattle.dbsource.specs.declared.source.ReadFailed.{ReadFailed}
use Rattle.dbsource.proofs.Changed.{changed_bytes, changed_length, told_changed}
use Rattle.dbmend.proofs.lent.LentSource.len.Goals as goal

pub returns-clause-length : goal.returns-clause-length
returns-clause-length g c = by_answer c.len.result (λ n h. record {
  changes = c.args.self.now.changes.now;
  told = (g.S.Source.held c.args.self.now.source.now).bytes;
  before = _;
  was = refl;
  length = record { name = c.args.self.now.source.ghost_name; before = (g.S.Source.held c.args.self.now.source.now).trail; was = refl; length = h };
}) c.len.ensures.length
  where
    by_answer : {P Q : ℕ → Type 0} (r : Result ℕ ReadFailed) → ((n : ℕ) → P n → Q n) → IfOk r P → IfOk r Q
    by_answer (Ok n) f h = f n h
    by_answer (Err e) f h = tt

pub returns-clause-number : goal.returns-clause-number
returns-clause-number g c = by_answer c.len.result c.len.ensures.number
  where
    by_answer : (r : Result ℕ ReadFailed) → IfOk r (λ n. IfSome (g.S.Source.held c.args.self.now.source.now).bytes (λ bytes. n ≡ length bytes))
        → IfOk r (λ n. IfSome (option_map (patched c.args.self.now.changes.now) (g.S.Source.held c.args.self.now.source.now).bytes) (λ bytes. n ≡ length bytes))
    by_answer (Ok n) h = told_changed _ _ _ (g.S.Source.held c.args.self.now.source.now).bytes
        (λ file e. e ∙ sym (changed_length c.args.self.now.changes.now 0 file)) h
    by_answer (Err e) h = tt

pub returns-clause-bytes : goal.returns-clause-bytes
returns-clause-bytes g c = told_changed _ AreBytes AreBytes (g.S.Source.held c.args.self.now.source.now).bytes
    (λ file is. changed_bytes c.args.self.now.changes.now file c.as_slice-known.ensures.right is) c.len.ensures.bytes
