use Rattle.dbsound.proofs.FaultlessSurveys.Chains
use Rattle.dbsound.proofs.FaultlessSurveys.Trees
use Rattle.dbsound.proofs.visits_begin_terms.Goals as goal

pub returns : goal.returns
returns c = record { chains = λ file. Chains.chains_below file; trees = λ file. Trees.trees_below file; roots = λ file. Trees.whole_trees file }
