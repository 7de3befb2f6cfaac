use Rattle.std.proofs.Common.{rules}
use Rattle.sending.proofs.RequestIsItsParts.{put_together}
use Rattle.sending.proofs.request.request_pdu.Goals as goal

pub returns : goal.returns
returns g c =
    rw c.in_ok-items.ensures at
    (put_together c.args.titles.called.0 c.args.titles.calling.0 c.in_ok-items.items.items _ _ _ _ _ _ (search rules) (search rules) (search rules)
    (rw (c.new-pdu.ensures.items, c.request_head.ensures) at c.in_ok-extend_from_slice.ensures.items) c.in_ok-extend_from_slice-2.ensures.items c.in_ok-extend_from_slice-3.ensures.items c.in_ok-extend_from_slice-4.ensures.items
    (rw c.as_slice.ensures.value at c.in_ok-extend_from_slice-5.ensures.items))
