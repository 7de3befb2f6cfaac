use Rattle.folder_filing.proofs.NamesStayOrderly.{Searches}
use Rattle.folder_filing.proofs.locked_folder.LockedFolder.name_draft.Given as goal

abbrev pub invariant-loop-turn : goal.invariant-loop-turn
invariant-loop-turn g l = Searches l.fn.names l.names l.turn
