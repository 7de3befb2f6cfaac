-- No verdict but success may stand beside a good image where no device fails (`no_good_image_is_refused`), and what is filed
-- for a store depends on nothing but itself and its sender's title (`filed_by_itself`). Stands on VerdictIsOne,
-- FieldsShow/TriedIsDone, MarksAreDone/PdvJoined, PiecesAreDone/EntriesJoin and the laws of `sequence`.
use Rattle.std.proofs.Common.{◌≡◌, ℕ, Bool, true, false, not, ◌&&◌, ◌||◌, List, [], ◌∷◌, Option, Some, None, Result, Ok, refl, sym, ap, subst, ◌∙◌, nat_eq, if◌then◌else◌, inr, arith}
use Rattle.std.proofs.lemmas.Grind.{common_steps}
use Rattle.pdu.specs.Marks.{Head, PdvHead, Pdv, BadPdv, Leftover, End}
use Rattle.sequence.specs.Transfer.{coding_in}
use Rattle.engine.specs.Requested.{request_record}
use Rattle.pdu.specs.Record.{RequestRecord}
use Rattle.negotiate.specs.declared.proposals.Context.{Context}
use Rattle.negotiate.specs.Contexts.{context_of}
use Rattle.negotiate.specs.Settings.{Settings}
use Rattle.dimse.specs.declared.fault.DimseFault.{DimseFault}
use Rattle.dimse.specs.Command.{CommandRecord}
use Rattle.dimse.specs.Reading.{command_in}
use Rattle.dimse.specs.Messages as messages
use Rattle.dimse.specs.Messages.{Message, Brought, Goes, Ends, Refuses, message_by, brought, ended}
use Rattle.dimse.specs.Reply.{reply_bytes}
use Rattle.dimse.specs.Status.{success}
use Rattle.sequence.proofs.Public.{whole_breaks_no_rule}
use Rattle.engine.specs.Timeline.{Entry, At, Shut, TimedOut, Aborted, Finding, Happened, good}
use Rattle.engine.specs.Progress.{Progress, absorb, is_established, Advance, nothing}
use Rattle.engine.specs.Replies.{file_in, file_put, echo_status, finding_on, replied, at_pdv}
use Rattle.engine.specs.Stores.{Verdict, limits}
use Rattle.engine.specs.StoreLaws.{EndsAt, IsGoodImage, file_of, NoGoodImageIsRefused, FiledByItself}
use Rattle.engine.specs.Run.{Rooms, at_entry, gives, cut}
use Rattle.engine.specs.Fair.{IsVerdict, message_at}
use Rattle.engine.proofs.StoresAreJudged.VerdictIsOne.{same_finding}
use Rattle.engine.proofs.MarksAreDone.PdvJoined.{by_brought, brought_is}
use Rattle.engine.proofs.PiecesAreDone.EntriesJoin.{message_absorbed}
use Rattle.engine.proofs.FieldsShow.TriedIsDone.{files_cut}

-- ---- the entry where a message ends

replied_by : (p : Progress) (finding : Finding) (pdv : messages.Pdv) (m : Message) (b : Brought) → message_by b ≡ Some m → by_brought p finding pdv b ≡ replied p finding m (command_in m.command)
replied_by p finding pdv m (Goes started) k = absurd cc
replied_by p finding pdv m (Ends n) k = let same : n ≡ m = cc in ap (λ (z : Message). replied p finding z (command_in z.command)) same
replied_by p finding pdv m (Refuses fault) k = absurd cc

-- what a message brings is the reply to it
replied_at : (p : Progress) (finding : Finding) (pdv : messages.Pdv) (m : Message) → ended p.message pdv ≡ Some m → at_pdv p finding pdv ≡ replied p finding m (command_in m.command)
replied_at p finding pdv m k = brought_is p finding pdv (brought p.message pdv) ∙ replied_by p finding pdv m (brought p.message pdv) k

-- PDVs count where a message may end
chosen : (established refused : Bool) (ended : Option Message) (m : Message) (x y : Advance) → (if established && not refused then ended else None) ≡ Some m → (if refused then y else (if established then x else y)) ≡ x
chosen established refused ended m x y h = grind (arith, common_steps)

is_ended : (established refused : Bool) (ended : Option Message) (m : Message) → (if established && not refused then ended else None) ≡ Some m → ended ≡ Some m
is_ended established refused ended m h = grind (arith, common_steps)

ended_at : (rooms : Rooms) (s : Settings) (p : Progress) (finding : Finding) (context control : ℕ) (fragment : List ℕ) (m : Message)
    → message_at p (At (Pdv context control fragment)) ≡ Some m → at_entry rooms s p finding (At (Pdv context control fragment)) ≡ replied p finding m (command_in m.command)
ended_at rooms s p finding context control fragment m ends =
    let pdv : messages.Pdv = record { context = context; control = control; fragment = fragment } in
    chosen (is_established p.state) p.refused (ended p.message pdv) m (at_pdv p finding pdv) (nothing p) ends
    ∙ replied_at p finding pdv m (is_ended (is_established p.state) p.refused (ended p.message pdv) m ends)

pub entry_at : (rooms : Rooms) (s : Settings) (p : Progress) (finding : Finding) (e : Entry) (m : Message) → message_at p e ≡ Some m → at_entry rooms s p finding e ≡ replied p finding m (command_in m.command)
entry_at rooms s p finding (At (Pdv context control fragment)) m ends = ended_at rooms s p finding context control fragment m ends
entry_at rooms s p finding (At (Head kind n)) m ends = absurd cc
entry_at rooms s p finding (At (PdvHead n context control)) m ends = absurd cc
entry_at rooms s p finding (At BadPdv) m ends = absurd cc
entry_at rooms s p finding (At Leftover) m ends = absurd cc
entry_at rooms s p finding (At (End kind body)) m ends = absurd cc
entry_at rooms s p finding Shut m ends = absurd cc
entry_at rooms s p finding TimedOut m ends = absurd cc
entry_at rooms s p finding Aborted m ends = absurd cc

-- ---- a store

-- what it brings
stored_at : (rooms : Rooms) (s : Settings) (p : Progress) (h : Happened) (m : Message) (command : CommandRecord) (context : Context) → EndsAt p h m command context
    → at_entry rooms s (absorb h.1.filing p) h.1.finding h.0 ≡ replied (absorb h.1.filing p) h.1.finding m (Ok command)
stored_at rooms s p h m command context ends =
    entry_at rooms s (absorb h.1.filing p) h.1.finding h.0 m (message_absorbed h.1.filing p h.0 ∙ ends.ended) ∙ ap (replied (absorb h.1.filing p) h.1.finding m) ends.spelled

success_files : (r : RequestRecord) (id : ℕ) (command : CommandRecord) (set : List ℕ) (finding : Finding) (context : Context) → command.field ≡ 1 → finding.status ≡ success → context_of r id ≡ Some context
    → file_put r id command set finding ≡ file_of command context.syntax r.calling set ∷ []
success_files r id command set finding context store good_status accepted =
    let both : (nat_eq command.field 1 && nat_eq finding.status success) ≡ true = (λ i. nat_eq (store i) 1 && nat_eq (good_status i) success) in
    ap (λ (b : Bool). if b then file_in r (context_of r id) command set else []) both ∙ ap (λ (o : Option Context). file_in r o command set) accepted

-- where it succeeds, its file
filed_at : (rooms : Rooms) (s : Settings) (p : Progress) (h : Happened) (m : Message) (command : CommandRecord) (context : Context) → EndsAt p h m command context → h.1.finding.status ≡ success
    → (gives rooms s p h).files ≡ file_of command context.syntax (request_record p.request).calling m.set ∷ []
filed_at rooms s p h m command context ends good_status =
    files_cut h.1.wire p (at_entry rooms s (absorb h.1.filing p) h.1.finding h.0)
    ∙ ap (λ (g : Advance). g.files) (stored_at rooms s p h m command context ends)
    ∙ success_files (request_record p.request) m.context command m.set h.1.finding context ends.store good_status ends.accepted

pub filed_by_itself : FiledByItself
filed_by_itself rooms rooms2 s s2 p p2 h h2 m m2 command command2 context context2 ends ends2 same_command same_set same_syntax same_title good_status good_status2 =
    let commands : command ≡ command2 = (let z : ◌≡◌ {A = Result CommandRecord DimseFault} (Ok command) (Ok command2) = sym ends.spelled ∙ ap command_in same_command ∙ ends2.spelled in cc) in
    filed_at rooms s p h m command context ends good_status
    ∙ (λ i. file_of (commands i) (same_syntax i) (same_title i) (same_set i) ∷ [])
    ∙ sym (filed_at rooms2 s2 p2 h2 m2 command2 context2 ends2 good_status2)

-- ---- a good image

good_verdict : (depth most : ℕ) (context : Context) (command : CommandRecord) (set : List ℕ) → IsGoodImage depth most context command set → Verdict depth most context command set false good
good_verdict depth most context command set g = let w = g.whole in
    record {
      elements = w.elements;
      first = inr (g.of_context, inr (record { whole = w.text; unbroken = whole_breaks_no_rule (coding_in context.syntax) (limits depth most) set w }, inr (g.own_class, inr (g.own_instance, inr (refl, refl)))));
    }

-- no verdict but success stands beside it
good_finding : (depth most : ℕ) (context : Context) (command : CommandRecord) (set : List ℕ) (failed : Bool) (finding : Finding) → failed ≡ false → IsGoodImage depth most context command set → Verdict depth most context command set failed finding → finding ≡ good
good_finding depth most context command set failed finding e g v =
    same_finding depth most context command set false finding good (subst (λ z. Verdict depth most context command set z finding) e v) (good_verdict depth most context command set g)

good_sent : (p : Progress) (finding : Finding) (m : Message) (command : CommandRecord) → command.field ≡ 1 → finding ≡ good → (replied p finding m (Ok command)).sent ≡ reply_bytes command success None m.context (request_record p.request).maximum
good_sent p finding m command store is =
    let on : finding_on (context_of (request_record p.request) m.context) command finding ≡ good =
    ap (λ (n : ℕ). if nat_eq n 0x0030 then record { status = echo_status (context_of (request_record p.request) m.context) command; detail = None } else finding) store ∙ is in
    ap (λ (f : Finding). reply_bytes command f.status f.detail m.context (request_record p.request).maximum) on

none_cut : (wire : Option ℕ) (p : Progress) (g : Advance) → wire ≡ None → (cut wire p g).sent ≡ g.sent
none_cut wire p g e = ap (λ (w : Option ℕ). (cut w p g).sent) e

pub no_good_image_is_refused : NoGoodImageIsRefused
no_good_image_is_refused rooms s p h m command context ends image calm fair =
    let verdict : IsVerdict rooms s (absorb h.1.filing p) h.1.finding (Some m) = subst (IsVerdict rooms s (absorb h.1.filing p) h.1.finding) (message_absorbed h.1.filing p h.0 ∙ ends.ended) fair.verdict in
    let is = good_finding rooms.depth s.max_data context command m.set (h.1.filing || p.filing_failed) h.1.finding (ap (λ (z : Bool). z || p.filing_failed) calm.filing ∙ calm.before) image (verdict command context ends.spelled ends.store ends.accepted) in (
      is,
      filed_at rooms s p h m command context ends (ap (λ (f : Finding). f.status) is),
      none_cut h.1.wire p (at_entry rooms s (absorb h.1.filing p) h.1.finding h.0) calm.wire
          ∙ ap (λ (g : Advance). g.sent) (stored_at rooms s p h m command context ends)
          ∙ good_sent (absorb h.1.filing p) h.1.finding m command ends.store is,
    )
