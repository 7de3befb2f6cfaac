-- What the crates above cite of this crate's lemmas: laws of `dicomdir::laws`, which are their contracts, in the words of the
-- definitions alone.
use Rattle.dicomdir.specs.Laws.{FileIdsAreShort, FileIdsAreReadBack, WalkersStartWithoutFault, LinkedHasNoFault}
use Rattle.dicomdir.proofs.FileIds as ids
use Rattle.dicomdir.proofs.WalksEndOrFail as walks
use Rattle.dicomdir.proofs.NoFault as linked

pub file_id_room : FileIdsAreShort
file_id_room = ids.file_id_room

pub file_id_back : FileIdsAreReadBack
file_id_back = ids.file_id_back

pub starts_good : WalkersStartWithoutFault
starts_good = walks.starts_good

pub linked_has_no_fault : LinkedHasNoFault
linked_has_no_fault = linked.linked_has_no_fault
