use Rattle.std.proofs.Common.{◌≡◌, ℕ, length, Result, Ok, Err, sym, ◌∙◌}
use Rattle.std.specs.Prelude.{IfOk, IfSome, option_map}
use Rattle.dbsource.specs.Changes.{patched}
use Rattle.dbsource.specs.Sources.{AreBytes}
use Rattle.dbsource.specs.declared.source.ReadFailed.{ReadFailed}
use Rattle.dbsource.proofs.Changed.{changed_bytes, changed_length, told_changed}
use Rattle.dbsource.proofs.patched.PatchedSource.len.Goals as goal

pub returns-clause-number : goal.returns-clause-number
returns-clause-number g c = rw (← c.self.view_is) (by_answer c.len.result c.len.ensures.number)
  where
    by_answer : (r : Result ℕ ReadFailed) → IfOk r (λ n. IfSome (g.S.Source.held c.self.inside.source).bytes (λ bytes. n ≡ length bytes))
        → IfOk r (λ n. IfSome (option_map (patched c.self.inside.changes.now) (g.S.Source.held c.self.inside.source).bytes) (λ bytes. n ≡ length bytes))
    by_answer (Ok n) h = told_changed _ _ _ (g.S.Source.held c.self.inside.source).bytes
        (λ file e. e ∙ sym (changed_length c.self.inside.changes.now 0 file)) h
    by_answer (Err e) h = tt

pub returns-clause-bytes : goal.returns-clause-bytes
returns-clause-bytes g c = rw (← c.self.view_is) (told_changed _ AreBytes AreBytes (g.S.Source.held c.self.inside.source).bytes
    (λ file is. changed_bytes c.self.inside.changes.now file c.as_slice-known.ensures.right is) c.len.ensures.bytes)
