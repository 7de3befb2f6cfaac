-- The request is answered, and what is kept of it is what was agreed.
use Rattle.std.proofs.Common.{◌≡◌, ◌<◌, ◌∙◌, ap, sym, subst, refl, true, false, List, ℕ, length, OnErr, arith}
use Rattle.acceptor.specs.declared.state.State.TheVariants.{Sta6}
use Rattle.pdu.specs.Sent.{Sends}
use Rattle.engine.specs.Drafts.{Drafts}
use Rattle.engine.specs.Requested.{request_record}
use Rattle.engine.specs.Progress.{at_start, is_due}
use Rattle.engine.specs.Phases.{state_in, request_in}
use Rattle.engine.specs.Requests.{at_request}
use Rattle.engine.specs.Kept.{kept_of, settings_in}
use Rattle.engine.specs.declared.stores.Storing.TheVariants.{Nothing}
use Rattle.engine.specs.StoredData.{Stored, drafting_in}
use Rattle.engine.specs.machine.Accepted.{IsPeerOf}
use Rattle.engine.specs.machine.PerformsReaction.{is_remaining}
use Rattle.engine.proofs.FieldsShow.KeptInPhases.{kept_by, awaiting_stored, awaiting_room, unawaited}
use Rattle.engine.proofs.MarksAreDone.WholeRequest.{asked, request_tries}
use Rattle.engine.proofs.StoresAreKept.DraftAndWalk.{same_drafts}
use Rattle.engine.proofs.provider.Provider.on_request.Goals as goal

pub returns-in_default : goal.returns-in_default
returns-in_default g c = record {
  settings = refl;
  drafts = same_drafts _ _ c.requires.draft;
  tries = λ p body h unrefused awaited. let wrong : true ≡ false = sym awaited ∙ ap is_due (sym h.state_is) ∙ unawaited c.args.self.now.phase c.in_default.not-AwaitingRequest in absurd cc;
}

pub returns-in-Some : goal.returns-in-Some
returns-in-Some g c =
    let due = ap state_in c.in-AwaitingRequest.is in
    let a = c.answer_request-peer in
    let accepted = rw c.in-Some.is at a.ensures.accepted in
    let nothing = sym (awaiting_stored c.args.self.now.phase due) in
    record {
      settings = c.finish.ensures.settings;
      drafts = subst (λ (z : Stored). Drafts (drafting_in z) (g.F.Filing.store c.args.devices.filing.now) (drafting_in (kept_of c.finish.new.self).storing) (g.F.Filing.store c.finish.new.filing)) nothing c.finish.ensures.drafts;
      tries = λ p body h unrefused awaited.
          let s = settings_in c.args.self.now in
          let given = record (kept_by c.args.self.now c.in-Some.peer (record { join = c.new.result; storing = Nothing })) { decided = a.result.3 } in
          let bytes = c.as_slice.ensures.value ∙ sym (ap request_in c.in-AwaitingRequest.is) in
          request_tries s p body a.result.1 a.result.2 (kept_of c.args.self.now) given (kept_of c.finish.new.self) _ _ _ _ h due unrefused refl
          (a.ensures.decided ∙ ap (λ (b : List ℕ). (at_request s at_start b).next.decided) bytes)
          (a.ensures.state ∙ ap (λ (b : List ℕ). (at_request s at_start b).next.state) bytes) c.finish.ensures.settles
          (λ six. record {
            body = refl;
            join = c.new.ensures;
            storing = refl;
            agreed = subst (λ (b : List ℕ). IsPeerOf c.in-Some.peer s.additional (request_record (asked s.additional b))) bytes accepted.1;
          })
          (subst (λ (b : List ℕ). Sends (at_request s at_start b).sent a.result.2 (g.W.Wire.line c.args.devices.wire.now) (g.W.Wire.line a.new.wire)) bytes a.ensures.sends)
          (subst (λ (b : List ℕ). OnErr a.result.2 (0 < length (at_request s at_start b).sent)) bytes a.ensures.due);
    }

pub returns-in-None : goal.returns-in-None
returns-in-None g c =
    let due = ap state_in c.in-AwaitingRequest.is in
    let a = c.answer_request-peer in
    let gone = rw c.in-None.is at a.ensures.rejected in
    record {
      settings = c.finish-in-None.ensures.settings;
      drafts = c.finish-in-None.ensures.drafts;
      tries = λ p body h unrefused awaited.
          let s = settings_in c.args.self.now in
          let old = kept_of c.args.self.now in
          let bytes = c.as_slice.ensures.value ∙ sym (ap request_in c.in-AwaitingRequest.is) in
          request_tries s p body a.result.1 a.result.2 old (record old { decided = a.result.3 }) (kept_of c.finish-in-None.new.self) _ _ _ _ h due unrefused refl
          (a.ensures.decided ∙ ap (λ (b : List ℕ). (at_request s at_start b).next.decided) bytes)
          (a.ensures.state ∙ ap (λ (b : List ℕ). (at_request s at_start b).next.state) bytes) c.finish-in-None.ensures.settles
          (λ six. let wrong : is_remaining Sta6 ≡ true = sym (ap is_remaining six) ∙ gone in absurd cc)
          (subst (λ (b : List ℕ). Sends (at_request s at_start b).sent a.result.2 (g.W.Wire.line c.args.devices.wire.now) (g.W.Wire.line a.new.wire)) bytes a.ensures.sends)
          (subst (λ (b : List ℕ). OnErr a.result.2 (0 < length (at_request s at_start b).sent)) bytes a.ensures.due);
    }

pub invariant_of-self-in-Some-clause-room : goal.invariant_of-self-in-Some-clause-room
invariant_of-self-in-Some-clause-room g c = let rows = rw c.in-Some.is at c.answer_request-peer.ensures.room in omega (arith, rows, awaiting_room c.args.self.now.phase (ap state_in c.in-AwaitingRequest.is), ap length (c.as_slice.ensures.value ∙ sym (ap request_in c.in-AwaitingRequest.is)), c.args.self.now.room)
