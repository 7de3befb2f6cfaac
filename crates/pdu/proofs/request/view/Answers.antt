use Rattle.std.proofs.Common.{refl, arith}
use Rattle.element.specs.Numbers.{IsBytes}
use Rattle.pdu.specs.Items.{request_record}
use Rattle.pdu.proofs.BodySpellsOneRequest.{request_text, request_kept}
use Rattle.pdu.proofs.request.view.Goals as goal

pub returns : goal.returns
returns c = rw (c.read_u16.ensures, c.title_at.ensures, c.title_at-2.ensures, c.unpadded.ensures, c.content_in.ensures, c.maximum_of.ensures, c.split_at.ensures.back) refl

pub invariant_of-result : goal.invariant_of-result
invariant_of-result c =
    let b = c.args.body.now in
    let bytes : IsBytes b = λ i. omega (arith, c.type_inv.body i) in
    rw (c.read_u16.ensures, c.title_at.ensures, c.title_at-2.ensures, c.unpadded.ensures, c.content_in.ensures, c.maximum_of.ensures, c.split_at.ensures.back)
    (request_kept (request_record b) b bytes (request_text b c.requires))
