use Rattle.std.proofs.Common.{ℕ, ◌<◌, List, ◌++◌, length, take, sym, subst}
use Rattle.pdu.specs.Deframing.{AtHead}
use Rattle.pdu.proofs.DeframerFollowsTheStream.{head_continues}
use Rattle.pdu.proofs.CallFollowsTheMarks.{head_is_reported, consumed_silent}
use Rattle.pdu.proofs.position.take_head.Goals as goal

pub returns-in-Some-clause-finds : goal.returns-in-Some-clause-finds
returns-in-Some-clause-finds c r due a =
    let e = c.after_head.ensures in
    head_is_reported _ c.in-Some.head c.fill-count.new.bytes.items c.args.bytes.now.items r (take c.fill-count.result c.args.piece.now) due a c.fill-count.ensures.fills c.in-Some.ensures.0 c.in-Some.ensures.1 e.values e.other

pub returns-in-None-clause-finds : goal.returns-in-None-clause-finds
returns-in-None-clause-finds c r due a =
    let part = take c.fill-count.result c.args.piece.now in
    let bytes = c.args.bytes.now.items in
    let fills = c.fill-count.ensures.fills in
    let short : length (bytes ++ part) < 6 = subst (λ (v : List ℕ). length v < 6) fills c.in-None.ensures in
    consumed_silent _ (AtHead (bytes ++ part)) r due part a.none_due (head_continues bytes r part due a short) (λ t later h. subst (λ (v : List ℕ). AtHead v t later) (sym fills) h)
