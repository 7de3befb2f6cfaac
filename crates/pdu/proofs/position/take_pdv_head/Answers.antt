use Rattle.std.proofs.Common.{◌≡◌, ℕ, ◌-◌, ◌<◌, List, ◌++◌, length, take, sym, ap, subst, arith}
use Rattle.std.proofs.lemmas.List.{length-take}
use Rattle.pdu.specs.Deframing.{AtPdvHead}
use Rattle.pdu.proofs.DeframerFollowsTheStream.{pdv_head_continues}
use Rattle.pdu.proofs.CallFollowsTheMarks.{pdv_is_reported, pdv_head_ended, empty_at, consumed_silent}
use Rattle.pdu.proofs.position.take_pdv_head.Goals as goal

pub returns-in-Some-clause-finds : goal.returns-in-Some-clause-finds
returns-in-Some-clause-finds c r due a =
    let part = take c.fill-count.result c.args.piece.now in
    let e = c.after_pdv_head.ensures in
    let size : length part ≡ c.fill-count.result = omega (arith, length-take c.fill-count.result c.args.piece.now, c.fill-count.ensures.within) in
    pdv_is_reported _ c.in-Some.head c.args.remaining.now _ c.fill-count.new.bytes.items c.args.bytes.now.items r part due a c.fill-count.ensures.fills c.in-Some.ensures.0 c.in-Some.ensures.1 (omega (arith, size, c.fill-count.ensures.fits)) (ap (λ (n : ℕ). c.args.remaining.now - n) (sym size)) e.bad e.good

pub returns-then-rest-eq0-clause-finds : goal.returns-then-rest-eq0-clause-finds
returns-then-rest-eq0-clause-finds c r due a =
    let part = take c.fill-count.result c.args.piece.now in
    let size : length part ≡ c.fill-count.result = omega (arith, length-take c.fill-count.result c.args.piece.now, c.fill-count.ensures.within) in
    let short : length (c.args.bytes.now.items ++ part) < 6 = subst (λ (v : List ℕ). length v < 6) c.fill-count.ensures.fills c.in_default.ensures in
    pdv_head_ended _ c.args.remaining.now c.args.bytes.now.items r part due a short (omega (arith, size, c.if-rest-eq0.true, c.fill-count.ensures.fits)) (empty_at _ c.new.ensures)

pub returns-clause-finds : goal.returns-clause-finds
returns-clause-finds c r due a =
    let part = take c.fill-count.result c.args.piece.now in
    let bytes = c.args.bytes.now.items in
    let remaining = c.args.remaining.now in
    let fills = c.fill-count.ensures.fills in
    let size : length part ≡ c.fill-count.result = omega (arith, length-take c.fill-count.result c.args.piece.now, c.fill-count.ensures.within) in
    let short : length (bytes ++ part) < 6 = subst (λ (v : List ℕ). length v < 6) fills c.in_default.ensures in
    let some : length part < remaining = omega (arith, size, c.if-rest-eq0.false, c.fill-count.ensures.fits) in
    consumed_silent _ (AtPdvHead (remaining - length part) (bytes ++ part)) r due part a.none_due (pdv_head_continues remaining bytes r part due a short some)
    (λ t later h. subst (λ (v : List ℕ). AtPdvHead (remaining - c.fill-count.result) v t later) (sym fills) (subst (λ (n : ℕ). AtPdvHead (remaining - n) (bytes ++ part) t later) size h))
