-- What is in a box is what its owner has there.
use Rattle.serving.proofs.open_connection.report.Goals as goal

pub returns : goal.returns
returns c = record { reports = rw (← c.deref.ensures) c.report.ensures.reports }
