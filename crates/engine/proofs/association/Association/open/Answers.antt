use Rattle.std.proofs.Common.{◌≡◌, [], length, ap, refl, arith}
use Rattle.pdu.specs.declared.position.Position.{Position}
use Rattle.pdu.specs.declared.position.Position.TheVariants as position
use Rattle.pdu.specs.Deframing.{At, in_body, after_body}
use Rattle.pdu.specs.Steps.{body_kind, body_due}
use Rattle.engine.proofs.WholeRun.OneInputMore.{stands_start}
use Rattle.engine.proofs.association.Association.open.Goals as goal

pub returns-clause-stands : goal.returns-clause-stands
returns-clause-stands g c store = stands_start _ _ _ _ store c.new.ensures (c.open.ensures.pends store)

-- no body has started where nothing was received
no_body : (q : Position) → At q [] [] → body_kind q ≡ 1 → body_due q ≡ 0
no_body (position.Head bytes) is_at one = refl
no_body (position.Body kind remaining) (in_body some inside none) one = let x = inside.kind_is in absurd (omega (arith, x, one))
no_body (position.Body kind remaining) (after_body over) one = let x = over.due_is in absurd cc
no_body (position.PdvHead remaining bytes) is_at one = refl
no_body (position.Fragment remaining more) is_at one = refl
no_body (position.Leftover remaining) is_at one = refl
no_body (position.Skipped kind remaining) is_at one = absurd (let x = is_at.due_is in cc)

pub invariant_of-result-clause-body_fits : goal.invariant_of-result-clause-body_fits
invariant_of-result-clause-body_fits g c = λ due consumed one. omega (arith, ap length c.open.ensures.body, no_body _ c.new.ensures one, c.requires.least)
