-- A file that is sound or breaks one rule, by the faults that are computed of it.
use Rattle.std.proofs.Common.{◌≡◌, ℕ, List, [], ◌∷◌, Some, None, sym, ◌∙◌}
use Rattle.dbsound.proofs.Common.{refusal, faults, Sound, Fault}
use Rattle.dbformat.specs.Survey.{survey}
use Rattle.dbformat.specs.declared.Refusal.{Refusal}
use Rattle.dbformat.proofs.Theory.{one_survey}
use Rattle.dbsound.specs.Broken.{IsRefusedBeside, FailsBeside}
use Rattle.dbsound.proofs.FaultlessFiles.Sound.{faultless_sound}
use Rattle.dbsound.proofs.SoundFiles.NoFault.{no_fault}

pub sound_by : {file : List ℕ} → refusal file ≡ None → faults file (survey file) ≡ [] → Sound file
sound_by {file = file} read none = faultless_sound file (survey file) (one_survey file).0 read none

pub refused_beside : {whole broken : List ℕ} {why : Refusal} → Sound whole → refusal broken ≡ Some why → IsRefusedBeside whole broken why
refused_beside {broken = broken} {why = why} sound e = (sound, e, none)
  where
    none : Sound broken → ⊥
    none s = let h = sym e ∙ s.is_read in cc

pub fails_beside : {whole broken : List ℕ} {f : Fault} → Sound whole → refusal broken ≡ None → faults broken (survey broken) ≡ f ∷ []
    → FailsBeside whole broken f
fails_beside {broken = broken} {f = f} sound read e = (sound, read, e, none)
  where
    none : Sound broken → ⊥
    none s = let h = sym e ∙ no_fault broken s (survey broken) (one_survey broken).0 in cc
