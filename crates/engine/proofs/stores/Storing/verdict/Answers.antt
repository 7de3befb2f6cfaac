use Rattle.engine.proofs.stores.Storing.verdict.Goals as goal

pub returns-in-DataSet : goal.returns-in-DataSet
returns-in-DataSet g c = rw c.in-DataSet.is c.verdict_of.ensures
