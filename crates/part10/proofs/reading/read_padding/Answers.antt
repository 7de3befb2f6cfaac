use Rattle.std.proofs.Common.{◌++◌, sym, arith, length-append, length-take}
use Rattle.std.proofs.KnownBytes.{Consumes-trans}
use Rattle.part10.proofs.UidIsInFront.{both_padding}
use Rattle.part10.proofs.reading.read_padding.Goals as goal

pub loop-remaining-preserved : goal.loop-remaining-preserved
loop-remaining-preserved g c =
    let so_far = c.loop-remaining.invariant in
    let filled = c.in_ok-read_whole.ensures in
    record {
      text = so_far.text ++ c.read_whole.new.room;
      consumed = Consumes-trans _ _ _ _ _ so_far.consumed filled.consumes;
      counted = rw length-append (omega (arith, filled.size, length-take c.min-part.result c.loop-remaining.room, c.min-part.array_long, c.min-part.ensures, so_far.counted));
      is = rw (so_far.is, c.are_padding-is_padding.ensures) (sym (both_padding so_far.text c.read_whole.new.room));
    }

pub returns : goal.returns
returns g c =
    let all = c.loop-remaining.invariant in
    record {
      read = (all.text, all.consumed, (omega (arith, all.counted, c.loop-remaining-test.false), all.is));
      short = tt;
    }
