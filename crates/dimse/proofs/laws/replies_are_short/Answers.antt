use Rattle.dimse.proofs.RepliesStayShort.{command_short, reply_short}
use Rattle.dimse.proofs.Public.{reply_bounded}
use Rattle.dimse.proofs.laws.replies_are_short.Goals as goal

pub returns-clause-command : goal.returns-clause-command
returns-clause-command c = command_short

pub returns-clause-reply : goal.returns-clause-reply
returns-clause-reply c = reply_short

pub returns-clause-any : goal.returns-clause-any
returns-clause-any c = reply_bounded
