use Rattle.std.proofs.Common.{◌≡◌, ◌∙◌, Some, sym, refl}
use Rattle.dicomdir_writing.specs.Built.{directory_class, directory_header}
use Rattle.dicomdir_writing.proofs.root_bytes.file_header.Goals as goal

pub returns-clause-bytes : goal.returns-clause-bytes
unfolding directory_header
returns-clause-bytes c =
    let read : Some c.unwrap.result ≡ Some directory_class = sym c.unwrap.ensures ∙ c.read.ensures in
    let class : c.unwrap.result ≡ directory_class = cc in
    rw (c.meta_bytes.ensures.bytes, class, c.copied.ensures) refl
