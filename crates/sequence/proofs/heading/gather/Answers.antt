use Rattle.std.proofs.Common.{◌≡◌, ◌-◌, ◌++◌, length, take, ◌∙◌, ap, sym, arith}
use Rattle.std.proofs.lemmas.List.{length-take-le}
use Rattle.sequence.proofs.WantedValues.MoreBytes.{on_ok}
use Rattle.sequence.proofs.CodeIsMachine.WhereRulesBreak.{take_both}
use Rattle.sequence.proofs.heading.gather.Goals as goal

pub returns-else-piece-room : goal.returns-else-piece-room
returns-else-piece-room c =
    let t = c.args.header.now.items in
    let f = c.try_extend_from_slice-fits-else-piece-room.ensures in
    let room : c.len-room.result ≡ length c.args.header.now.items = c.len-room.ensures.value in
    let size = length-take-le (12 - c.len-room.result) c.args.piece.now (omega (arith, c.if-piece-room.false)) in
    on_ok c.try_extend_from_slice-fits-else-piece-room.result (f.variant.1 (omega (arith, room, size, c.requires))) f.ok
    ∙ ap (λ z. t ++ take (12 - z) c.args.piece.now) room
    ∙ sym (take_both t c.args.piece.now 12 (omega (arith, c.requires)))
