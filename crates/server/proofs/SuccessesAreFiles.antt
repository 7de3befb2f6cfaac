-- Along a story each success has its file among those that are stored, right after those of the entries before it
-- (`success_is_filed`). Stands on the definitions alone.
use Rattle.std.proofs.Common.{◌≡◌, ◌∙◌, ℕ, Bool, true, not, ◌&&◌, nat_eq, if◌then◌else◌, List, [], ◌∷◌, ◌++◌, Option, Some, None, refl, ap, arith, append_assoc}
use Rattle.std.proofs.lemmas.Grind.{common_steps}
use Rattle.dimse.specs.Command.{CommandRecord}
use Rattle.dimse.specs.Messages as messages
use Rattle.dimse.specs.Messages.{Message, Brought, Goes, Ends, Refuses, brought, ended, message_by}
use Rattle.dimse.specs.Reading.{command_in}
use Rattle.dimse.specs.Status.{success}
use Rattle.negotiate.specs.Contexts.{context_of}
use Rattle.negotiate.specs.Settings.{Settings}
use Rattle.negotiate.specs.declared.proposals.Context.{Context}
use Rattle.pdu.specs.Marks.{Head, PdvHead, Pdv, BadPdv, Leftover, End}
use Rattle.pdu.specs.Record.{RequestRecord}
use Rattle.engine.specs.Fair.{message_at}
use Rattle.engine.specs.Progress.{Advance, Progress, absorb, at_start, deciding, is_established, nothing}
use Rattle.engine.specs.Replies.{at_pdv, command_refused, file_in, file_put, going_on, replied, user_aborts}
use Rattle.engine.specs.Requested.{request_record}
use Rattle.engine.specs.Run.{at_entry, cut, files_of, gives, progress_of}
use Rattle.engine.specs.StoreLaws.{EndsAt, file_of}
use Rattle.engine.specs.Timeline.{Aborted, At, Entry, Finding, Happened, Shut, TimedOut}
use Rattle.serving.specs.Rooms.{served_rooms}
use Rattle.server.specs.PowerLoss.{IsSuccess, StoreEnd, file_of_success, progress_at}

-- ---- the entry at which a message ends

replied_by : (p : Progress) (finding : Finding) (pdv : messages.Pdv) (m : Message) (b : Brought) → message_by b ≡ Some m
    → ◌≡◌ {A = Advance} (elim b [ Goes started ↦ nothing (going_on started p) | Ends n ↦ replied p finding n (command_in n.command) | Refuses fault ↦ user_aborts (deciding (command_refused p pdv fault) p) ]) (replied p finding m (command_in m.command))
replied_by p finding pdv m (Goes started) is = absurd cc
replied_by p finding pdv m (Ends n) is = let same : n ≡ m = cc in ap (λ (z : Message). replied p finding z (command_in z.command)) same
replied_by p finding pdv m (Refuses fault) is = absurd cc

replied_at : (p : Progress) (finding : Finding) (pdv : messages.Pdv) (m : Message) → ended p.message pdv ≡ Some m → at_pdv p finding pdv ≡ replied p finding m (command_in m.command)
replied_at p finding pdv m is = replied_by p finding pdv m (brought p.message pdv) is

accepted : (established refused : Bool) (ended : Option Message) (m : Message) (x y : Advance) → (if established && not refused then ended else None) ≡ Some m → (if refused then y else (if established then x else y)) ≡ x
accepted established refused ended m x y is = grind (arith, common_steps)

is_ended : (established refused : Bool) (ended : Option Message) (m : Message) → (if established && not refused then ended else None) ≡ Some m → ended ≡ Some m
is_ended established refused ended m is = grind (arith, common_steps)

value_at : (s : Settings) (p : Progress) (finding : Finding) (context control : ℕ) (fragment : List ℕ) (m : Message) → message_at p (At (Pdv context control fragment)) ≡ Some m
    → at_entry served_rooms s p finding (At (Pdv context control fragment)) ≡ replied p finding m (command_in m.command)
value_at s p finding context control fragment m is =
    let pdv : messages.Pdv = record { context = context; control = control; fragment = fragment } in
    accepted (is_established p.state) p.refused (ended p.message pdv) m (at_pdv p finding pdv) (nothing p) is
    ∙ replied_at p finding pdv m (is_ended (is_established p.state) p.refused (ended p.message pdv) m is)

entry_at : (s : Settings) (p : Progress) (finding : Finding) (e : Entry) (m : Message) → message_at p e ≡ Some m → at_entry served_rooms s p finding e ≡ replied p finding m (command_in m.command)
entry_at s p finding (At (Pdv context control fragment)) m is = value_at s p finding context control fragment m is
entry_at s p finding (At (Head kind n)) m is = absurd cc
entry_at s p finding (At (PdvHead n context control)) m is = absurd cc
entry_at s p finding (At BadPdv) m is = absurd cc
entry_at s p finding (At Leftover) m is = absurd cc
entry_at s p finding (At (End kind body)) m is = absurd cc
entry_at s p finding Shut m is = absurd cc
entry_at s p finding TimedOut m is = absurd cc
entry_at s p finding Aborted m is = absurd cc

-- ---- a store that succeeds

same_message : (f : Bool) (p : Progress) (e : Entry) → message_at (absorb f p) e ≡ message_at p e
same_message f p e = grind (arith, common_steps)

same_files : (wire : Option ℕ) (p : Progress) (g : Advance) → (cut wire p g).files ≡ g.files
same_files wire p g = grind (arith, common_steps)

put_files : (r : RequestRecord) (id : ℕ) (command : CommandRecord) (set : List ℕ) (finding : Finding) (context : Context) → command.field ≡ 1 → finding.status ≡ success → context_of r id ≡ Some context
    → file_put r id command set finding ≡ file_of command context.syntax r.calling set ∷ []
put_files r id command set finding context store good known =
    let both : (nat_eq command.field 1 && nat_eq finding.status success) ≡ true = (λ i. nat_eq (store i) 1 && nat_eq (good i) success) in
    ap (λ (b : Bool). if b then file_in r (context_of r id) command set else []) both ∙ ap (λ (o : Option Context). file_in r o command set) known

filed_at : (s : Settings) (p : Progress) (h : Happened) (m : Message) (command : CommandRecord) (context : Context) → EndsAt p h m command context → h.1.finding.status ≡ success
    → (gives served_rooms s p h).files ≡ file_of command context.syntax (request_record p.request).calling m.set ∷ []
filed_at s p h m command context ends good =
    same_files h.1.wire p (at_entry served_rooms s (absorb h.1.filing p) h.1.finding h.0)
    ∙ ap (λ (g : Advance). g.files) (entry_at s (absorb h.1.filing p) h.1.finding h.0 m (same_message h.1.filing p h.0 ∙ ends.ended) ∙ ap (replied (absorb h.1.filing p) h.1.finding m) ends.spelled)
    ∙ put_files (request_record p.request) m.context command m.set h.1.finding context ends.store good ends.accepted

-- ---- along a story

files_then : (s : Settings) (p : Progress) (xs ys : List Happened) → files_of served_rooms s p (xs ++ ys) ≡ files_of served_rooms s p xs ++ files_of served_rooms s (progress_of served_rooms s p xs) ys
files_then s p [] ys = refl
files_then s p (x ∷ xs) ys = rw (files_then s (gives served_rooms s p x).next xs ys) (simp append_assoc)

-- the files after that of a success
abbrev pub newer_files : Settings → StoreEnd → List (List ℕ)
newer_files s store = files_of served_rooms s (gives served_rooms s (progress_at s store) store.entry).next store.after

pub success_is_filed : (s : Settings) (story : List Happened) (store : StoreEnd) → IsSuccess s story store
    → files_of served_rooms s at_start story ≡ files_of served_rooms s at_start store.before ++ file_of_success s store ∷ newer_files s store
success_is_filed s story store is =
    ap (files_of served_rooms s at_start) is.story_is
    ∙ files_then s at_start store.before (store.entry ∷ store.after)
    ∙ ap (λ (fs : List (List ℕ)). files_of served_rooms s at_start store.before ++ (fs ++ newer_files s store)) (filed_at s (progress_at s store) store.entry store.message store.command store.context is.ends is.good)
