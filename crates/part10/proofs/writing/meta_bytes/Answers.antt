-- The header that is written is one that is read.
use Rattle.part10.proofs.WrittenHeaderReadsBack.{head_is_read}
use Rattle.part10.proofs.writing.meta_bytes.Goals as goal

pub returns-clause-reads_back : goal.returns-clause-reads_back
returns-clause-reads_back c =
    let ensured = c.file_header.ensures in
    rw ensured.bytes (head_is_read c.args.meta.now ensured.class ensured.instance ensured.title ensured.bound)
