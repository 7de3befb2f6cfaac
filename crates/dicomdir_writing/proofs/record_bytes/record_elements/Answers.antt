use Rattle.dicomdir_writing.proofs.RecordIsItsElements.{record_rooms}
use Rattle.dicomdir_writing.proofs.record_bytes.record_elements.Goals as goal

pub put_rules-requires-clause-fits : goal.put_rules-requires-clause-fits
put_rules-requires-clause-fits g c =
    rw (c.record_table.ensures, c.offset_bytes.ensures, c.offset_bytes-2.ensures) (record_rooms c.args.level c.args.row.now c.args.next c.args.lower c.keeps.ensures)
