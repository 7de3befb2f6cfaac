use Rattle.engine.proofs.WorkedRuns.OneCtStore.{a_cut_reply}
use Rattle.engine.proofs.laws.a_cut_reply.Goals as goal

pub returns : goal.returns
returns c = a_cut_reply
