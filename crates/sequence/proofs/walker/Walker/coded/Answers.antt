use Rattle.sequence.proofs.StepsStand.WalkerStands.{new_stands, new_state}
use Rattle.sequence.proofs.walker.Walker.coded.Goals as goal

pub returns-clause-stands : goal.returns-clause-stands
returns-clause-stands g c = new_stands _ (new_state c.args.coding c.new-3.result.items c.new.result.items c.new.ensures c.new-3.ensures) c.new-2.ensures.values
