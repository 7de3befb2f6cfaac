use Rattle.std.proofs.Common.{◌≡◌, ℕ, false-eqb, ◌-◌, ◌<◌, length, take, refl, sym, ap, ◌∙◌, arith}
use Rattle.std.proofs.lemmas.List.{length-take}
use Rattle.pdu.proofs.CallFollowsTheMarks.{value_ended, fragment_still, fragment_part_reported}
use Rattle.pdu.proofs.position.take_fragment.Goals as goal

pub returns-then-more-eq0-clause-finds : goal.returns-then-more-eq0-clause-finds
returns-then-more-eq0-clause-finds c r due a = let e = c.after_pdv.ensures in value_ended _ _ _ r due c.if-more-eq0.true a e.over e.leftover e.another

pub returns-then-is_empty-clause-finds : goal.returns-then-is_empty-clause-finds
returns-then-is_empty-clause-finds c r due a = fragment_still _ _ r due (omega (arith, c.if-more-eq0.false)) a

pub returns-clause-finds : goal.returns-clause-finds
returns-clause-finds c r due a =
    let part = take c.min-count.result c.args.piece.now in
    let some : 0 < c.args.more = omega (arith, c.if-more-eq0.false) in
    let bytes = false-eqb (length c.args.piece.now) 0 (sym (sym c.is_empty.ensures ∙ c.if-is_empty.false)) in
    let size : length part ≡ c.min-count.result = omega (arith, length-take c.min-count.result c.args.piece.now, c.min-count.ensures) in
    fragment_part_reported _ _ _ _ _ r part due some c.requires.fits a (omega (arith, size, c.min-count.ensures)) (ap (λ (n : ℕ). c.args.remaining - n) (sym size)) (ap (λ (n : ℕ). c.args.more - n) (sym size)) (record { part_is = refl; some = omega (arith, size, c.min-count.ensures, bytes, some); lent = refl })
