use Rattle.std.proofs.Common.{◌-◌, ◌∙◌, sym}
use Rattle.pdu.specs.Deframed.{position_of}
use Rattle.engine.specs.Kept.{kept_of}
use Rattle.engine.proofs.FieldsShow.AfterAnEvent.{body_fits_then, fragment_fits_then, uncounted_then}
use Rattle.engine.proofs.WholeRun.OneInputMore.{moved_still, moved_call}
use Rattle.engine.proofs.PiecesAreDone.SkippedPdu.{room_passed, heads_passed}
use Rattle.engine.proofs.AssociationSize.{association_small, provider_small}
use Rattle.engine.proofs.association.Association.perform.Goals as goal

pub returns-then-is_ended-clause-moved : goal.returns-then-is_ended-clause-moved
returns-then-is_ended-clause-moved g c input entry o inputs story failed h = moved_still _ _ inputs story failed input _ _ h (sym c.is_ended.ensures.ended ∙ c.if-is_ended.true) c.requires.draft

pub invariant_of-self : goal.invariant_of-self
invariant_of-self g c =
    let was = c.args.self.now in
    let k = kept_of c.perform.new.self in
    let q = position_of was.deframer in
    let fits = room_passed (g.row.A - 12) k q (body_fits_then _ k c.perform.ensures.same _ _ _ was.body_fits, fragment_fits_then _ k c.perform.ensures.same _ was.fragment_fits) in
    rw c.skip_uncounted.ensures.passes (record { body_fits = fits.0; fragment_fits = fits.1; headless = heads_passed k q })

pub returns-clause-moved : goal.returns-clause-moved
returns-clause-moved g c input entry o inputs story failed h =
    let dropped = c.drop_heads.ensures in
    moved_call _ _ inputs story failed _ input entry o _ _ _ _ _ _ h (sym c.is_ended.ensures.ended ∙ c.if-is_ended.false) c.perform.ensures.tries (uncounted_then _ _ c.perform.ensures.same)
    (rw (← c.skip_uncounted.ensures.passes) (record { kept = dropped.kept; same = dropped.same; headless = dropped.headless })) c.perform.ensures.drafts

pub is_ended-requires : goal.is_ended-requires
is_ended-requires g c = association_small c.args.self.now.provider

pub drop_heads-requires : goal.drop_heads-requires
drop_heads-requires g c = association_small c.args.self.now.provider

pub skip_uncounted-requires : goal.skip_uncounted-requires
skip_uncounted-requires g c = provider_small c.args.self.now.provider
