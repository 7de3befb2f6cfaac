use Rattle.std.proofs.Common.{arith}
use Rattle.element.proofs.Written.{written}
use Rattle.element.proofs.writing.write_header.Goals as goal

pub returns : goal.returns
returns c =
    let all = written c.args.syntax c.args.header.now c.args.room.now c.write_tag.new.room c.write_rest.new.room c.write_rest.result c.told-room
    c.write_tag.ensures.written c.write_tag.ensures.within c.write_rest.ensures.written c.write_rest.ensures.size c.write_rest.ensures.named c.write_rest.ensures.within c.requires in
    record { size = omega (arith, c.write_rest.ensures.size); bytes = all.0; spelled = all.1; reads_back = all.2; needed = all.3 }
