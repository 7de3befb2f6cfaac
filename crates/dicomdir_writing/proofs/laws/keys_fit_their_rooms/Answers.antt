use Rattle.dicomdir_writing.proofs.RowLaws as laws
use Rattle.dicomdir_writing.proofs.laws.keys_fit_their_rooms.Goals as goal

pub returns : goal.returns
returns c = laws.keys_fit
