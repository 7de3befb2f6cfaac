use Rattle.std.proofs.Common.{◌≡◌, ◌∙◌, ◌++◌, length, drop, ap, sym}
use Rattle.std.proofs.lemmas.List.{length-drop, length-take-le}
use Rattle.pdu.specs.Texts.{data_text}
use Rattle.sending.proofs.BufferHasFragment.{data_parts}
use Rattle.sending.proofs.stream.send_fragment.Goals as goal

pub copy_from_slice-requires : goal.copy_from_slice-requires
copy_from_slice-requires g c = length-take-le 12 c.args.pdu.now c.requires.headed ∙ sym (ap length c.heads.ensures)

pub returns-clause-sent : goal.returns-clause-sent
returns-clause-sent g c =
    let fragment = drop 12 c.args.pdu.now in
    let whole : c.heads.result ++ fragment ≡ data_text c.args.context c.args.command c.args.last fragment = data_parts c.args.context c.args.command c.args.last fragment c.heads.result (rw (length-drop 12 c.args.pdu.now) c.heads.ensures) in
    rw whole at (rw c.copy_from_slice.ensures.after at c.send_all.ensures.sent)
