use Rattle.dimse.proofs.BytesSpellTheElement.{element_read}
use Rattle.dimse.proofs.elements.element_at.Goals as goal

pub returns : goal.returns
returns c =
    element_read c.args.bytes.now c.read_header-header.result c.split_at.result.0.now c.split_at.result.1.now c.if-bytes-lt8.false c.read_header-header.ensures.value
    c.if-group-ne0.false c.if-length-ne0.false c.if-length-rest.false c.split_at.ensures.front c.split_at.ensures.back
