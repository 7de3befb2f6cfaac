use Rattle.pdu.proofs.DataMarksAreComputed.{marked, marks_are, spot_is}
use Rattle.pdu.proofs.laws.marks_of_data_are_one.Goals as goal

pub returns : goal.returns
returns c = record { some = marked; marks = λ room bytes ms s m. marks_are m; spot = λ room bytes ms s m. spot_is m }
