use Rattle.std.proofs.Common.{◌∙◌, sym}
use Rattle.engine.specs.Inputs.{Bytes}
use Rattle.engine.proofs.WholeRun.OneInputMore.{moved_still, moved_feed}
use Rattle.engine.proofs.AssociationSize.{association_small}
use Rattle.engine.proofs.association.Association.feed.Goals as goal

pub returns-then-is_ended-clause-moved : goal.returns-then-is_ended-clause-moved
returns-then-is_ended-clause-moved g c inputs story failed h = moved_still _ _ inputs story failed (Bytes c.args.piece.now) _ _ h (sym c.is_ended.ensures.ended ∙ c.if-is_ended.true) c.requires.draft

pub returns-clause-moved : goal.returns-clause-moved
returns-clause-moved g c inputs story failed h =
    let dropped = c.drop_heads.ensures in
    moved_feed _ _ inputs story failed c.args.piece.now _ _ _ _ _ h (sym c.is_ended.ensures.ended ∙ c.if-is_ended.false) c.take_all.ensures.consumes
    (record { kept = dropped.kept; same = dropped.same; headless = dropped.headless }) c.take_all.ensures.drafts

pub is_ended-requires : goal.is_ended-requires
is_ended-requires g c = association_small c.args.self.now.provider

pub drop_heads-requires : goal.drop_heads-requires
drop_heads-requires g c = association_small c.args.self.now.provider
