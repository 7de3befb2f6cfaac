-- The association continues as it is, or it is left.
use Rattle.std.proofs.Common.{◌∙◌, ap, sym, refl}
use Rattle.engine.specs.Kept.{Kept}
use Rattle.engine.specs.StoredData.{Nothing}
use Rattle.engine.specs.machine.PerformsReaction.{is_remaining}
use Rattle.engine.proofs.FieldsShow.AfterAnEvent.{stays_there}
use Rattle.engine.proofs.FieldsShow.KeptInPhases.{ended_keeps_nothing, close_keeps_nothing, state_kept}
use Rattle.engine.proofs.StoresAreKept.DraftAndWalk.{unfiled_same, same_drafts, drops_unfiled, drops_drafts}
use Rattle.engine.proofs.provider.Provider.finish.Goals as goal

pub returns-in-Sta1 : goal.returns-in-Sta1
returns-in-Sta1 g c = record {
  settings = c.drop_draft.ensures.settings;
  settles = record {
    state_is = sym c.in-Sta1.is ∙ c.state_after-next.ensures;
    refused = ap (λ (k : Kept). k.refused) c.drop_draft.ensures.kept;
    decided = ap (λ (k : Kept). k.decided) c.drop_draft.ensures.kept;
    remaining = λ l. ended_keeps_nothing c.drop_draft.new.self;
    same = λ l. absurd cc;
    store_same = λ l. absurd cc;
    unfiled = drops_unfiled _ _ _ c.drop_draft.ensures.drops;
  };
  drafts = drops_drafts _ _ _ Nothing refl c.drop_draft.ensures.drops;
}

pub returns-in-Sta13 : goal.returns-in-Sta13
returns-in-Sta13 g c = record {
  settings = c.drop_draft-in-Sta13.ensures.settings;
  settles = record {
    state_is = sym c.in-Sta13.is ∙ c.state_after-next.ensures;
    refused = ap (λ (k : Kept). k.refused) c.drop_draft-in-Sta13.ensures.kept;
    decided = ap (λ (k : Kept). k.decided) c.drop_draft-in-Sta13.ensures.kept;
    remaining = λ l. close_keeps_nothing c.drop_draft-in-Sta13.new.self;
    same = λ l. absurd cc;
    store_same = λ l. absurd cc;
    unfiled = drops_unfiled _ _ _ c.drop_draft-in-Sta13.ensures.drops;
  };
  drafts = drops_drafts _ _ _ Nothing refl c.drop_draft-in-Sta13.ensures.drops;
}

pub returns-in_default : goal.returns-in_default
returns-in_default g c =
    let there = stays_there c.state_after-next.result c.in_default.not-Sta1 c.in_default.not-Sta13 in
    record {
      settings = refl;
      settles = record {
        state_is = state_kept c.args.sent c.args.next _ (ap is_remaining (sym c.state_after-next.ensures) ∙ there) c.requires.stays;
        refused = refl;
        decided = refl;
        remaining = λ l. let x = state_kept c.args.sent c.args.next _ (ap is_remaining (sym c.state_after-next.ensures) ∙ there) c.requires.stays in absurd cc;
        same = λ l. refl;
        store_same = λ l. refl;
        unfiled = unfiled_same _;
      };
      drafts = same_drafts _ _ c.requires.draft;
    }
