use Rattle.dbsound.proofs.FaultlessSurveys.Followed
use Rattle.dbsound.proofs.surveys_are_whole.Goals as goal

pub returns : goal.returns
returns c = record { starts = λ file. Followed.by_its_starts file; links = λ file. Followed.by_its_links file }
