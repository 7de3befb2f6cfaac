use Rattle.pdu.proofs.TwelveBytesAndFragment.{data_parts}
use Rattle.pdu.proofs.writers.write_data.Goals as goal

pub returns : goal.returns
returns g c =
    let a = c.args in
    rw (data_parts a.context a.command a.last a.fragment.now c.data_head-head.result c.data_head-head.ensures) at c.send_both.ensures
