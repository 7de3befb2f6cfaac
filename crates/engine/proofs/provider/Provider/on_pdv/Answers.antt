-- By what the join makes of the PDV.
use Rattle.std.proofs.Common.{◌≡◌, ◌∙◌, ◌&&◌, Bool, not, ap, sym, subst, refl, List, ℕ, Option, [], drop, get_or, false, true, Ok}
use Rattle.acceptor.specs.declared.event.Event.TheVariants as event
use Rattle.dimse.specs.declared.joined.Joined.{Joined}
use Rattle.dimse.specs.Reading.{command_in, field_in}
use Rattle.dimse.specs.Messages.{Started, InSet, Goes, Refuses, with_fragment}
use Rattle.dimse.specs.Joining.{Joining, joined_in, with_pdv, pdv_of, command_bytes}
use Rattle.engine.specs.Timeline.{At, good}
use Rattle.engine.specs.Progress.{deciding, nothing, done}
use Rattle.decisions.specs.declared.decision.Decision.{Decision}
use Rattle.decisions.specs.declared.decision.Decision.TheVariants as decision
use Rattle.engine.proofs.FieldsShow.AfterAnEvent.{pends_decided, tries_from}
use Rattle.engine.specs.Replies.{user_aborts, command_refused, going_on}
use Rattle.engine.specs.Devices.{devices}
use Rattle.engine.specs.Kept.{Pends, kept_of, settings_in}
use Rattle.engine.specs.machine.Does.{Does}
use Rattle.engine.specs.machine.Messages.{with_join, with_storing, Proceeds}
use Rattle.engine.specs.Run.{rooms_of}
use Rattle.engine.specs.StoredData.{stored_of}
use Rattle.engine.proofs.StoresAreKept.DraftAndWalk.{nothing_walked, no_store_yet, long_pdv, pdv_store, same_drafts, drops_drafts, drops_unfiled, drafts_then}
use Rattle.engine.proofs.FieldsShow.TriedIsDone.{does_by, refused_by}
use Rattle.engine.proofs.MarksAreDone.PdvJoined.{carried_consumed, does_dropped, ends_pdv, entry_of, pdv_consumed, pdv_arrives, goes_of, ends_of, refuses_of, due_of, pends_going_on, aside_of, aside_joined, consumed_state, aborted_pdv, aborted_body, verdict_by, tries_still, pdv_context}
use Rattle.engine.proofs.MarksAreDone.MessageEnds.{concludes, does_concluded}
use Rattle.engine.proofs.MarksAreDone.DataOfStores.{does_due}
use Rattle.engine.proofs.FieldsShow.KeptInPhases.{refused_pdvs, kept_by, unestablished}
use Rattle.engine.proofs.provider.Provider.on_pdv.Goals as goal

pub returns-then-self-clause-does : goal.returns-then-self-clause-does
returns-then-self-clause-does g c = λ p started six whole h.
    let k = kept_of c.args.self.now in
    does_dropped (rooms_of g.row.A g.row.C g.row.V g.row.D) (settings_in c.args.self.now) k p started _ (refused_pdvs k c.if-self.true) h

pub returns-in_default : goal.returns-in_default
returns-in_default g c = record {
  settings = refl;
  drafts = same_drafts _ _ c.requires.draft;
  does = λ p started six whole h.
      let k = kept_of c.args.self.now in
      let drops = ap (λ (t : Bool). t && not k.refused) (unestablished c.args.self.now.phase c.in_default.not-Established) in
      does_dropped (rooms_of g.row.A g.row.C g.row.V g.row.D) (settings_in c.args.self.now) k p started _ drops h;
}

pub returns-in-Ok-More-default-clause-drafts : goal.returns-in-Ok-More-default-clause-drafts
returns-in-Ok-More-default-clause-drafts g c = rw c.in-Established.is (same_drafts _ _ (rw c.in-Established.is at c.requires.draft))

pub returns-in-Ok-More-default-clause-does : goal.returns-in-Ok-More-default-clause-does
returns-in-Ok-More-default-clause-does g c = rw c.in-Established.is (λ p started six whole h.
    let rooms = rooms_of g.row.A g.row.C g.row.V g.row.D in
    let s = settings_in c.args.self.now in
    let k = kept_by c.args.self.now c.in-Established.peer c.in-Established.message in
    let so = g.F.Filing.store c.args.devices.filing.now in
    let j = c.end.new.self in
    let pdv = ends_pdv k so p started j _ _ six h (ap not c.if-self.false) c.end.ensures.joins (ap joined_in c.in-Ok-More-default.is ∙ ap (λ (x : Joined). Ok x) c.in-Ok-More-default.field-0-0-is) in
    let got = goes_of g.row.C p.message started six (pdv.shows.accepted six) k.join j pdv.joins in
    let later = got.0 in
    does_by rooms s p (At (entry_of started)) (nothing (going_on later p)) (with_join j k) [] [] _ _
    (pdv_consumed rooms s p good started pdv.consumed ∙ pdv_arrives p good started (Goes later) got.1) refl (verdict_by rooms s p p good started (Goes later) pdv.consumed got.1 tt)
    (tries_still p (going_on later p) (with_join j k) [] [] _ (pends_going_on k so p j later started h pdv.consumed got.2 got.3 got.4 six)))

pub returns-in-Ok-Message-default-clause-does : goal.returns-in-Ok-Message-default-clause-does
returns-in-Ok-Message-default-clause-does g c = rw c.in-Established.is (λ p started six whole h.
    let rooms = rooms_of g.row.A g.row.C g.row.V g.row.D in
    let s = settings_in c.args.self.now in
    let k = kept_by c.args.self.now c.in-Established.peer c.in-Established.message in
    let so = g.F.Filing.store c.args.devices.filing.now in
    let j = c.end.new.self in
    let pdv = ends_pdv k so p started j _ _ six h (ap not c.if-self.false) c.end.ensures.joins (ap joined_in c.in-Ok-Message-default.is ∙ ap (λ (x : Joined). Ok x) c.in-Ok-Message-default.field-0-0-is) in
    let got = ends_of g.row.C p.message started six (pdv.shows.accepted six) k.join j pdv.joins in
    let m = got.0 in
    let received = with_pdv started p.message in
    let same : j.command ≡ m.command = ap (λ (x : Joining). x.command) got.2 in
    let here : c.context.result ≡ m.context = pdv_context g.row.C k.join p.message started c.context.result six pdv.shows c.context.ensures ∙ sym got.4 in
    let kept = carried_consumed k so p started pdv.consumed h in
    let aside = aside_joined k p j (aside_of k so p started h) in
    let agreed = aside.agreed (consumed_state p pdv.consumed) in
    let ended = c.reply-decided.ensures.ended g.row.A p m received agreed got.3 same here kept.0 kept.1 in
    does_concluded rooms s p started m received (kept_of c.finish.new.self) _ _ pdv.consumed got.1 (λ st. pdv_store p.request started p.message six st)
    (concludes rooms s p m received c.reply-decided.result.0 c.reply-decided.result.1 (with_join j k) (kept_of c.finish.new.self) c.clear.new.self (stored_of c.leave.new.self) _ _ _ _ _ _
    aside refl c.clear.ensures c.leave.ensures.nothing ended (drops_unfiled _ _ _ c.leave.ensures.drops) c.finish.ensures.settles))

pub returns-in-Ok-Message-default-clause-drafts : goal.returns-in-Ok-Message-default-clause-drafts
returns-in-Ok-Message-default-clause-drafts g c = rw c.in-Established.is (
    drafts_then _ _ _ _ _ _ c.reply-decided.ensures.drafts
    (drafts_then _ _ _ _ _ _ (drops_drafts _ _ _ (stored_of c.leave.new.self) c.leave.ensures.nothing c.leave.ensures.drops) c.finish.ensures.drafts))

pub returns-in-Ok-DataDue-default-clause-drafts : goal.returns-in-Ok-DataDue-default-clause-drafts
returns-in-Ok-DataDue-default-clause-drafts g c = rw c.in-Established.is c.begin.ensures.drafts

pub returns-in-Ok-DataDue-default-clause-does : goal.returns-in-Ok-DataDue-default-clause-does
returns-in-Ok-DataDue-default-clause-does g c = rw c.in-Established.is (λ p started six whole h.
    let rooms = rooms_of g.row.A g.row.C g.row.V g.row.D in
    let s = settings_in c.args.self.now in
    let k = kept_by c.args.self.now c.in-Established.peer c.in-Established.message in
    let so = g.F.Filing.store c.args.devices.filing.now in
    let j = c.end.new.self in
    let pdv = ends_pdv k so p started j _ _ six h (ap not c.if-self.false) c.end.ensures.joins (ap joined_in c.in-Ok-DataDue-default.is ∙ ap (λ (x : Joined). Ok x) c.in-Ok-DataDue-default.field-0-0-is) in
    let got = due_of g.row.C p.message started six (pdv.shows.accepted six) k.join j pdv.joins in
    let later = got.0 in
    let due = got.3 in
    let z = stored_of c.begin.new.self.storing in
    let kept = carried_consumed k so p started pdv.consumed h in
    let none = nothing_walked (λ st. no_store_yet p.request (with_pdv started p.message) (get_or started 4 0) due.command (long_pdv started p.message six ∙ due.received) st) kept.0 in
    let command : j.command ≡ due.command = ap (λ (x : Joining). x.command) got.2.shows ∙ ap command_bytes due.later_is in
    let same : InSet c.context.result j.command [] ≡ later = ap (λ (n : ℕ). InSet n j.command []) (pdv_context g.row.C k.join p.message started c.context.result six pdv.shows c.context.ensures) ∙ ap (λ (xs : List ℕ). InSet (get_or started 4 0) xs []) command ∙ sym due.later_is in
    let agreed = (aside_joined k p j (aside_of k so p started h)).agreed (consumed_state p pdv.consumed) in
    let proceeds = c.begin.ensures.proceeds p.request agreed none (λ x e. due.announced x (ap command_in (sym command) ∙ e)) in
    subst (λ (x : Joining). Does rooms s p (At (entry_of started)) (record (with_storing z (with_join x k)) { decided = decision.DataDue }) [] [] (devices (g.W.Wire.line c.args.devices.wire.now) so) (devices (g.W.Wire.line c.args.devices.wire.now) (g.F.Filing.store c.begin.new.filing)))
    (sym c.begin.ensures.join)
    (does_due rooms s p started g.row.C k j z _ so _ later h pdv.consumed got.1 got.2 due got.4
    (subst (λ (x : Started). Proceeds g.row.D c.args.self.now.config.now.max_data p.request x false z so (g.F.Filing.store c.begin.new.filing)) same proceeds)))

pub returns-in-Err-clause-does : goal.returns-in-Err-clause-does
returns-in-Err-clause-does g c = rw c.in-Established.is (λ p started six whole h.
    let rooms = rooms_of g.row.A g.row.C g.row.V g.row.D in
    let s = settings_in c.args.self.now in
    let k = kept_by c.args.self.now c.in-Established.peer c.in-Established.message in
    let so = g.F.Filing.store c.args.devices.filing.now in
    let j = c.end.new.self in
    let pdv = ends_pdv k so p started j _ _ six h (ap not c.if-self.false) c.end.ensures.joins (ap joined_in c.in-Err.is) in
    let got = refuses_of g.row.C p.message started six (pdv.shows.accepted six) k.join j c.in-Err.fault pdv.joins in
    let pends : Pends (with_join j k) so p [] started = subst (λ (x : Joining). Pends (with_join x k) so p [] started) (sym got.1) h in
    let new = kept_of c.perform.new.self in
    let d = command_refused p (pdv_of started) c.in-Err.fault in
    let bytes : c.command.result.now ≡ command_bytes (with_fragment (get_or started 4 0) (drop 6 started) p.message) =
    c.command.ensures.value ∙ ap (λ (x : Joining). x.command) (got.1 ∙ pdv.shows.shows) ∙ ap command_bytes (long_pdv started p.message six) in
    let field : decision.CommandRefused c.in-Err.fault c.command_field.result ≡ d = ap (λ (x : Option ℕ). decision.CommandRefused c.in-Err.fault x) (c.command_field.ensures ∙ ap field_in bytes) in
    let decides = subst (λ (x : Decision). Pends (record (with_join j k) { decided = x }) so (deciding d p) [] started) (sym field) (pends_decided d (with_join j k) so p [] started pends) in
    does_by rooms s p (At (entry_of started)) (user_aborts (deciding d p)) (record new { refused = true }) [] [] _ _
    (pdv_consumed rooms s p good started pdv.consumed ∙ pdv_arrives p good started (Refuses c.in-Err.fault) got.0) refl (verdict_by rooms s p p good started (Refuses c.in-Err.fault) pdv.consumed got.0 tt)
    (refused_by p (done [] 0 (deciding d p) event.UserAborts) new [] started [] [] _ _ (aborted_body (deciding d p) pdv.consumed) (aborted_pdv (deciding d p) started pdv.consumed)
    (tries_from p (deciding d p) (done [] 0 (deciding d p) event.UserAborts) new [] started _ _ (c.perform.ensures.tries (deciding d p) [] started decides))))
