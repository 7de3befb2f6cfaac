use Rattle.std.proofs.Common.{arith}
use Rattle.dimse.proofs.SetIsSentWhole.{sending_all, sending_next, sending_fails, last_sent}
use Rattle.dimse.proofs.response.write_fragments.Goals as goal

pub loop-rest-init : goal.loop-rest-init
loop-rest-init g c = sending_all _ c.args.context c.args.size c.args.bytes.now c.requires.short

pub write_data-requires : goal.write_data-requires
write_data-requires g c = omega (arith, c.loop-rest.invariant.short, c.split_at.ensures.front_len)

pub write_data-requires-2 : goal.write_data-requires-2
write_data-requires-2 g c = c.loop-rest.invariant.short

pub loop-rest-preserved : goal.loop-rest-preserved
loop-rest-preserved g c =
    rw c.split_at.ensures.back (sending_next _ _ _ c.args.context c.args.size _ c.loop-rest.rest.now c.loop-rest.invariant c.requires.some c.loop-rest-test.true
    (rw c.split_at.ensures.front at c.in-Ok.ensures.sends))

pub returns-in-Err : goal.returns-in-Err
returns-in-Err g c = record {
  sends =
      sending_fails _ _ _ _ c.args.context c.args.size _ c.loop-rest.rest.now c.loop-rest.invariant c.requires.some c.loop-rest-test.true
      (rw c.split_at.ensures.front at c.in-Err.ensures.sends);
}

pub returns : goal.returns
returns g c = record {
  sends = last_sent _ _ _ c.write_data-2.result c.args.context c.args.size _ c.loop-rest.rest.now c.loop-rest.invariant c.loop-rest-test.false c.write_data-2.ensures.sends;
}
