use Rattle.dicomdir.proofs.Public.{file_id_room}
use Rattle.dicomdir.proofs.laws.file_ids_are_short.Goals as goal

pub returns : goal.returns
returns c = file_id_room
