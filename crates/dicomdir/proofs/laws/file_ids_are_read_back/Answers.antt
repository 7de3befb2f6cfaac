use Rattle.dicomdir.proofs.Public.{file_id_back}
use Rattle.dicomdir.proofs.laws.file_ids_are_read_back.Goals as goal

pub returns : goal.returns
returns c = file_id_back
