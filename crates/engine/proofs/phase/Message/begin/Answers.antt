-- The data are walked where the command's class is that of its context.
use Rattle.std.proofs.Common.{◌≡◌, ◌∙◌, ap, sym, List, ℕ, [], Ok, Some, None, true, false, refl}
use Rattle.part10.specs.Store.{or_nothing}
use Rattle.engine.specs.Requested.{request_record}
use Rattle.negotiate.specs.Contexts.{context_of}
use Rattle.part10.specs.File.{head}
use Rattle.dimse.specs.Reading.{command_in}
use Rattle.dimse.specs.Messages.{InSet}
use Rattle.engine.specs.Fair.{InStore}
use Rattle.engine.specs.StoredData.{stored_of, drafting_in}
use Rattle.engine.proofs.MarksAreDone.DataOfStores.{unread_store, unaccepted_store, other_store, begins_drafts, idle_proceeds, started_proceeds}
use Rattle.engine.proofs.StoresAreKept.DraftAndWalk.{same_drafts}
use Rattle.engine.proofs.phase.Message.begin.Goals as goal

pub returns-in_default : goal.returns-in_default
returns-in_default g c = record {
  join = refl;
  drafts = same_drafts _ _ c.requires.draft;
  proceeds = λ request peer none announced.
      let command = c.args.self.now.join.command in
      let unread = c.command_of.ensures.invalid c.in_default.is in
      idle_proceeds g.row.D c.args.origin.config.now.max_data request (InSet c.args.origin.context command []) (stored_of c.args.self.now.storing) _ none
      (unread_store request c.args.origin.context command unread.0 (ap command_in (sym c.command.ensures.value) ∙ unread.1));
}

pub returns-then-not-with_data : goal.returns-then-not-with_data
returns-then-not-with_data g c = record {
  join = refl;
  drafts = same_drafts _ _ c.requires.draft;
  proceeds = λ request peer none announced.
      let e : command_in c.args.self.now.join.command ≡ Ok c.in-Some.command = ap command_in (sym c.command.ensures.value) ∙ c.command_of.ensures.valid c.in-Some.command c.in-Some.is in
      let wrong : true ≡ false = sym (announced c.in-Some.command e) ∙ sym c.with_data.ensures ∙ c.if-not-with_data.true in
      absurd cc;
}

pub returns-in_default-context : goal.returns-in_default-context
returns-in_default-context g c = record {
  join = refl;
  drafts = same_drafts _ _ c.requires.draft;
  proceeds = λ request peer none announced.
      let command = c.args.self.now.join.command in
      let absent : context_of (request_record request) c.args.origin.context ≡ None =
      sym (peer.contexts c.args.origin.context) ∙ sym c.context.ensures ∙ c.in_default-context.is in
      idle_proceeds g.row.D c.args.origin.config.now.max_data request (InSet c.args.origin.context command []) (stored_of c.args.self.now.storing) _ none (unaccepted_store request c.args.origin.context command absent);
}

pub returns-else-is_of_context : goal.returns-else-is_of_context
returns-else-is_of_context g c = record {
  join = refl;
  drafts = same_drafts _ _ c.requires.draft;
  proceeds = λ request peer none announced.
      let command = c.args.self.now.join.command in
      let e : command_in command ≡ Ok c.in-Some.command = ap command_in (sym c.command.ensures.value) ∙ c.command_of.ensures.valid c.in-Some.command c.in-Some.is in
      let accepted : context_of (request_record request) c.args.origin.context ≡ Some c.in-Some-context.accepted =
      sym (peer.contexts c.args.origin.context) ∙ sym c.context.ensures ∙ c.in-Some-context.is in
      idle_proceeds g.row.D c.args.origin.config.now.max_data request (InSet c.args.origin.context command []) (stored_of c.args.self.now.storing) _ none
      (other_store request c.args.origin.context command c.in-Some.command c.in-Some-context.accepted e accepted (c.is_of_context.ensures.no c.if-is_of_context.false));
}

pub returns-then-is_of_context : goal.returns-then-is_of_context
returns-then-is_of_context g c = record {
  join = refl;
  drafts = begins_drafts _ _ _ (stored_of c.begin_store-self.result) (drafting_in (stored_of c.args.self.now.storing)) _ _ (c.begin_store-self.ensures.begins (sym c.with_data.ensures ∙ c.if-not-with_data.false));
  proceeds = λ request peer none announced.
      let command = c.args.self.now.join.command in
      let e : command_in command ≡ Ok c.in-Some.command = ap command_in (sym c.command.ensures.value) ∙ c.command_of.ensures.valid c.in-Some.command c.in-Some.is in
      let accepted : context_of (request_record request) c.args.origin.context ≡ Some c.in-Some-context.accepted =
      sym (peer.contexts c.args.origin.context) ∙ sym c.context.ensures ∙ c.in-Some-context.is in
      let store : InStore request (InSet c.args.origin.context command []) = record {
        id = c.args.origin.context;
        command = command;
        set = [];
        asked = c.in-Some.command;
        context = c.in-Some-context.accepted;
        started = refl;
        spelled = e;
        accepted = accepted;
        of_context = c.is_of_context.ensures.yes c.if-is_of_context.true;
      } in
      started_proceeds g.row.D c.args.origin.config.now.max_data request (InSet c.args.origin.context command []) store _ (stored_of c.begin_store-self.result) _ _ refl
      (ap (λ (xs : List ℕ). head (record { class = c.in-Some.command.class; instance = or_nothing c.in-Some.command.instance; syntax = c.in-Some-context.accepted.syntax; calling = record { 0 = xs } })) peer.caller)
      (c.begin_store-self.ensures.begins (sym c.with_data.ensures ∙ c.if-not-with_data.false));
}
