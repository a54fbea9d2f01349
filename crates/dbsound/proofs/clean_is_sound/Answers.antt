use Rattle.dbsound.proofs.Soundness
use Rattle.dbsound.proofs.SoundFiles.NoFault
use Rattle.dbsound.proofs.clean_is_sound.Goals as goal

pub returns : goal.returns
returns c = record {
  faults = λ file. Soundness.sound_by_faults file;
  answer = λ file. Soundness.sound_by_answer file;
  verdict = λ file. Soundness.sound_by_verdict file;
  ok = λ file. Soundness.sound_by_ok file;
  uses = λ file s V survey. NoFault.has_its_uses file s V survey;
}
