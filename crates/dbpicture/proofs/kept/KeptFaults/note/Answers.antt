use Rattle.std.proofs.Common.{◌∷◌, [], List, subst, ℕ, refl, append_assoc, arith}
use Rattle.dbpicture.specs.Keeping.{AreNoted}
use Rattle.dbpicture.specs.declared.faults.Sign.{Sign}
use Rattle.dbpicture.specs.declared.faults.Sign.TheVariants.{Code, Faulty}
use Rattle.dbpicture.proofs.kept.KeptFaults.note.Goals as goal

pub returns : goal.returns
returns g c = record {
  count = omega arith;
  notes = λ count signs h. (let f = c.args.reported.now.fault in
      subst (λ (l : List (ℕ × Sign)). AreNoted count l c.note-2.new.self) (append_assoc signs ((f.page, Code f.code) ∷ []) ((f.page, Faulty) ∷ []))
      (c.note-2.ensures count _ (c.note.ensures count signs h)));
  listing = c.receive.ensures;
  trees = refl;
}
