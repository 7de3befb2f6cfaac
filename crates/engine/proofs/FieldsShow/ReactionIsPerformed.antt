-- What a call without devices left due (`leaves_due`, `leaves_refused`) is, once it happens, what the entry does
-- (`does_judged`). Stands on AfterAnEvent and TriedIsDone.
use Rattle.std.proofs.Common.{◌≡◌, ℕ, true, List, [], refl, ap, sym, subst, ◌∙◌, arith}
use Rattle.std.proofs.lemmas.Grind.{common_steps}
use Rattle.acceptor.specs.declared.state.State.{State}
use Rattle.acceptor.specs.declared.event.Event.{Event}
use Rattle.acceptor.specs.Table.{table}
use Rattle.acceptor.specs.Effect.{sending, bytes_sent}
use Rattle.pdu.specs.Texts.{release_text, abort_text}
use Rattle.part10.specs.Store.{Store}
use Rattle.engine.specs.declared.sending.Answering.{Answering}
use Rattle.engine.specs.declared.sending.Reaction.{Reaction}
use Rattle.engine.specs.declared.sending.Reaction.TheVariants.{Perform}
use Rattle.engine.specs.Devices.{Devices}
use Rattle.negotiate.specs.Settings.{Settings}
use Rattle.engine.specs.Timeline.{Entry, good}
use Rattle.engine.specs.Run.{Rooms, at_entry}
use Rattle.engine.specs.Fair.{IsVerdict, message_at}
use Rattle.engine.specs.machine.Does.{Does}
use Rattle.engine.specs.Progress.{Progress, Advance, moved, refusing}
use Rattle.engine.specs.Kept.{Kept, Pends}
use Rattle.engine.specs.machine.Answers.{answer_text, reason_of, done_by, due_at}
use Rattle.engine.specs.machine.PerformsReaction.{PerformsReaction}
use Rattle.engine.specs.machine.Tries.{TriesDue}
use Rattle.engine.specs.machine.Judged.{LeavesDue}
use Rattle.engine.proofs.FieldsShow.AfterAnEvent.{tries_from}
use Rattle.engine.proofs.FieldsShow.TriedIsDone.{does_by, pends_refused, none_counted_body, none_counted_pdv}

-- what was left due was done
due_done : (p : Progress) (g : Advance) (due : Reaction) (mid new : Kept) (body started : List ℕ) (old later : Devices) → LeavesDue g due mid old.store body started → TriesDue (due_at due) mid new old later → PerformsReaction p g new body started old later
due_done p g due mid new body started old later h t =
    tries_from p h.shown g new body started old later (subst (λ (x : Advance). PerformsReaction h.shown x new body started old later) (sym h.gives) (t h.shown body started h.pends))

due_files : (due : Reaction) (p : Progress) → (due_at due p).files ≡ []
due_files due p = grind (arith, common_steps)

-- so the entry is done
pub does_judged : (rooms : Rooms) (s : Settings) (p : Progress) (entry : Entry) (due : Reaction) (mid new : Kept) (body started : List ℕ) (old later : Devices)
    → IsVerdict rooms s p good (message_at p entry) → LeavesDue (at_entry rooms s p good entry) due mid old.store body started → TriesDue (due_at due) mid new old later → Does rooms s p entry new body started old later
does_judged rooms s p entry due mid new body started old later verdict h t =
    let g = at_entry rooms s p good entry in
    does_by rooms s p entry g new body started old later refl (ap (λ (x : Advance). x.files) h.gives ∙ due_files due h.shown) verdict (due_done p g due mid new body started old later h t)

-- in the progress that the fields show
pub leaves_due : (p : Progress) (g : Advance) (due : Reaction) (k : Kept) (store : Store) (body started : List ℕ) → g ≡ due_at due p → Pends k store p body started → LeavesDue g due k store body started
leaves_due p g due k store body started is h = record { shown = p; pends = h; gives = is }

-- an event is due, and the later marks of the PDU count for nothing
moved_refused : (st : State) (p : Progress) → record (moved st p) { refused = true } ≡ moved st (record p { refused = true })
moved_refused st p = grind arith

refusing_done : (a : Answering) (e : Event) (p : Progress) → refusing (done_by a e p) ≡ done_by a e (record p { refused = true })
refusing_done a e p =
    let step = table p.state e in
    ap (λ (q : Progress). record { next = q; sent = bytes_sent (answer_text a) release_text abort_text (sending step.0 step.1 (reason_of a)); files = [] }) (moved_refused step.1 p)

pub leaves_refused : (p : Progress) (g : Advance) (a : Answering) (e : Event) (k : Kept) (store : Store) (body started : List ℕ) → g ≡ refusing (done_by a e p) → Pends k store p [] []
    → LeavesDue g (Perform e a) (record k { refused = true }) store body started
leaves_refused p g a e k store body started is h = record {
  shown = record p { refused = true };
  pends = pends_refused p k store [] [] body started (none_counted_body p) (none_counted_pdv p) h;
  gives = is ∙ refusing_done a e p;
}
