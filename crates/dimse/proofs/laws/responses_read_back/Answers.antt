use Rattle.dimse.proofs.Public.{field_again, pdus_last, pdus_longer, reads_field, reply_again, status_again}
use Rattle.dimse.proofs.laws.responses_read_back.Goals as goal

pub returns-clause-elements : goal.returns-clause-elements
returns-clause-elements c = reply_again

pub returns-clause-longer : goal.returns-clause-longer
returns-clause-longer c = pdus_longer

pub returns-clause-last : goal.returns-clause-last
returns-clause-last c = pdus_last

pub returns-clause-field : goal.returns-clause-field
returns-clause-field c = λ text command status detail e. (reads_field text command e, field_again text command status detail e)

pub returns-clause-status : goal.returns-clause-status
returns-clause-status c = status_again
