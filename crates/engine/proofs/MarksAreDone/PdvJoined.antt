-- The head of a value is judged as its entry says (`head_accepted`, `head_unaccepted`), and what the join returns of a whole
-- value (`ends_pdv`) is what it brings to the message (`goes_of`, `due_of`, `ends_of`, `refuses_of`). Stands on FieldsShow
-- and StoresAreKept/DraftAndWalk.
use Rattle.std.proofs.Common.{◌≡◌, ℕ, ◌≤◌, Bool, true, false, not, ◌&&◌, List, [], ◌++◌, length, drop, get_or, Option, Some, None, Result, Ok, Err, nat_eq, refl, ap, sym, subst, ◌∙◌, arith, if◌then◌else◌, inl, inr}
use Rattle.std.proofs.lemmas.Grind.{common_steps}
use Rattle.std.proofs.lemmas.Bool.{cases_Bool, eqb-true}
use Rattle.std.proofs.lemmas.Bool.Decides.{nat_tests}
use Rattle.dimse.specs.declared.fault.DimseFault.TheVariants.{OtherContext}
use Rattle.acceptor.specs.declared.state.State.{State}
use Rattle.acceptor.specs.declared.state.State.TheVariants.{Sta6}
use Rattle.acceptor.specs.declared.event.Event.TheVariants as event
use Rattle.pdu.specs.declared.head.PdvHead.{PdvHead}
use Rattle.pdu.specs.Heads.{pdv_head_of, is_last}
use Rattle.pdu.specs.Marks as mark
use Rattle.pdu.specs.Marks.{Pdv}
use Rattle.engine.specs.Requested.{Requested, request_record}
use Rattle.negotiate.specs.Settings.{Settings}
use Rattle.negotiate.specs.declared.proposals.Context.{Context}
use Rattle.negotiate.specs.Contexts.{context_of}
use Rattle.negotiate.specs.ContextRows.{context_in}
use Rattle.part10.specs.Store.{Store}
use Rattle.dimse.specs.declared.fault.DimseFault.{DimseFault}
use Rattle.dimse.specs.declared.joined.Joined.{Joined}
use Rattle.dimse.specs.declared.joined.Joined.TheVariants as joined
use Rattle.dimse.specs.Command.{CommandRecord}
use Rattle.dimse.specs.Reading.{command_in}
use Rattle.dimse.specs.Messages.{Message, message_by, Started, NoMessage, InCommand, InSet, Brought, Goes, Ends, Refuses, brought, refusal, head_refusal, if_context, with_command, completed, with_fragment}
use Rattle.dimse.specs.Joining.{Joining, ShowsMessage, InContext, Joins, ok_unless, without_set, pdv_of, continues, lending, unfinished_of, with_pdv}
use Rattle.engine.specs.Timeline.{At, Finding, good}
use Rattle.decisions.specs.declared.decision.Decision.TheVariants as decision
use Rattle.dimse.specs.Messages as message
use Rattle.engine.specs.Progress.{Progress, Advance, deciding, nothing, done, absorb, is_established}
use Rattle.engine.specs.Reached.{accepts_pdvs}
use Rattle.engine.specs.Replies.{invalid, user_aborts, value_head, aborted_if_refused, command_refused, decided_on, at_pdv_head, at_pdv, replied, going_on}
use Rattle.engine.specs.Run.{Rooms, at_entry}
use Rattle.engine.specs.Fair.{InStore, IsVerdict, message_at}
use Rattle.engine.specs.Held.{is_ended}
use Rattle.engine.specs.Kept.{Kept, Pends, counted_body, counted_pdv, accepts_pdvs_in}
use Rattle.engine.specs.machine.Does.{Does}
use Rattle.engine.specs.machine.Messages.{with_join, Aside, HasReceived}
use Rattle.engine.specs.StoredData.{Stored}
use Rattle.engine.proofs.StoresAreKept.DraftAndWalk.{Carried, so_far, carried, no_store_yet, long_pdv, store_fragment, head_carried}
use Rattle.engine.specs.Devices.{Devices}
use Rattle.engine.specs.machine.PerformsReaction.{PerformsReaction}
use Rattle.engine.proofs.FieldsShow.AfterAnEvent.{tries_from}
use Rattle.engine.proofs.FieldsShow.TriedIsDone.{does_nothing, consumed_when, if_nothing, none_counted_pdv, tries_nothing}
use Rattle.engine.proofs.FieldsShow.NothingCounts.{no_store, accepts_shown}

-- ---- where PDVs count

established_when : (st : State) (r : Bool) → (is_established st && not r) ≡ true → st ≡ Sta6
established_when st r h = grind (arith, common_steps)

pub consumed_state : (p : Progress) → accepts_pdvs p ≡ true → p.state ≡ Sta6
consumed_state p h = established_when p.state p.refused h

pub counted_consumed : (p : Progress) (started : List ℕ) → accepts_pdvs p ≡ true → counted_pdv p started ≡ started
counted_consumed p started t = ap (λ (x : Bool). if x then started else []) t

pub pends_dropped : (k : Kept) (store : Store) (p : Progress) (body b c : List ℕ) → accepts_pdvs p ≡ false → Pends k store p body b → Pends k store p body c
pends_dropped k store p body b c t h =
    let same : counted_pdv p b ≡ counted_pdv p c = ap (λ (x : Bool). if x then b else []) t ∙ sym (ap (λ (x : Bool). if x then c else []) t) in
    let d = subst (λ (xs : List ℕ). Carried k.depth k.most k.storing store p.request (with_pdv xs p.message) p.filing_failed) same (carried k store p body b h) in
    record {
      state_is = h.state_is;
      refused_is = h.refused_is;
      decided_is = h.decided_is;
      body_is = h.body_is;
      join_is = subst (λ (xs : List ℕ). ShowsMessage k.room k.join p.message xs) same h.join_is;
      agreed = h.agreed;
      none_remaining = h.none_remaining;
      unagreed = h.unagreed;
      walks = d.0;
      draft = d.1;
      failed_in = h.failed_in;
    }

-- ---- beside the message

pub aside_of : (k : Kept) (store : Store) (p : Progress) (started : List ℕ) → Pends k store p [] started → Aside k p
aside_of k store p started h = record { state_is = h.state_is; refused_is = h.refused_is; decided_is = h.decided_is; body_is = h.body_is; agreed = h.agreed; none_remaining = h.none_remaining; unagreed = h.unagreed }

-- of another join the same is aside
pub aside_joined : (k : Kept) (p : Progress) (j : Joining) → Aside k p → Aside (with_join j k) p
aside_joined k p j h = record {
  state_is = h.state_is;
  refused_is = h.refused_is;
  decided_is = h.decided_is;
  body_is = h.body_is;
  agreed = h.agreed;
  none_remaining = h.none_remaining;
  unagreed = h.unagreed;
}

pub aside_absorbed : (k : Kept) (p : Progress) (failed : Bool) → Aside k p → Aside k (absorb failed p)
aside_absorbed k p failed h = record { state_is = h.state_is; refused_is = h.refused_is; decided_is = h.decided_is; body_is = h.body_is; agreed = h.agreed; none_remaining = h.none_remaining; unagreed = h.unagreed }

pub pends_joined : (k : Kept) (store : Store) (p : Progress) (j : Joining) (stored : Stored) (started : List ℕ) → Aside k p → ShowsMessage k.room j p.message (counted_pdv p started)
    → Carried k.depth k.most stored store p.request (so_far p started) p.filing_failed → (is_ended p.state ≡ false → p.filing_failed ≡ true → InStore p.request p.message)
    → Pends (record k { join = j; storing = stored }) store p [] started
pends_joined k store p j stored started h shows c failed = record {
  state_is = h.state_is;
  refused_is = h.refused_is;
  decided_is = h.decided_is;
  body_is = h.body_is;
  join_is = shows;
  agreed = h.agreed;
  none_remaining = h.none_remaining;
  unagreed = h.unagreed;
  walks = c.0;
  draft = c.1;
  failed_in = failed;
}

-- the head of a PDV was received
pub pends_headed : (k : Kept) (store : Store) (p : Progress) (j : Joining) (started : List ℕ) → length started ≡ 6 → accepts_pdvs p ≡ true → Pends k store p [] [] → ShowsMessage k.room j p.message started → Pends (with_join j k) store p [] started
pends_headed k store p j started six t h shows =
    let counts = counted_consumed p started t in
    let base = subst (λ (xs : List ℕ). Carried k.depth k.most k.storing store p.request (with_pdv xs p.message) p.filing_failed) (none_counted_pdv p) (carried k store p [] [] h) in
    let c = subst (λ (xs : List ℕ). Carried k.depth k.most k.storing store p.request (with_pdv xs p.message) p.filing_failed) (sym counts)
    (head_carried k.depth k.most k.storing store p.request started p.message p.filing_failed six base) in
    pends_joined k store p j k.storing started (aside_of k store p [] h) (subst (λ (xs : List ℕ). ShowsMessage k.room j p.message xs) (sym counts) shows) c h.failed_in

-- ---- the head of a PDV

pub head_consumed : (rooms : Rooms) (s : Settings) (p : Progress) (n c x : ℕ) → accepts_pdvs p ≡ true → at_entry rooms s p good (At (mark.PdvHead n c x)) ≡ at_pdv_head rooms.command p n c x
head_consumed rooms s p n c x t =
    consumed_when (is_established p.state) p.refused (at_pdv_head rooms.command p n c x) (nothing p) ∙ ap (λ (y : Bool). if y then at_pdv_head rooms.command p n c x else nothing p) t

pub head_dropped : (rooms : Rooms) (s : Settings) (p : Progress) (n c x : ℕ) → accepts_pdvs p ≡ false → at_entry rooms s p good (At (mark.PdvHead n c x)) ≡ nothing p
head_dropped rooms s p n c x t =
    consumed_when (is_established p.state) p.refused (at_pdv_head rooms.command p n c x) (nothing p) ∙ ap (λ (y : Bool). if y then at_pdv_head rooms.command p n c x else nothing p) t

-- what the head of a PDV gives, by whether its context is accepted
abbrev by_context : ℕ → Progress → (n c x : ℕ) → Option Context → Advance
by_context room p n c x o = elim o [
  | None ↦ invalid (deciding (decision.ContextRefused (value_head n c x)) p)
  | Some accepted ↦ aborted_if_refused (value_head n c x) (refusal room p.message n c x) p
]

pub head_unaccepted : (room : ℕ) (p : Progress) (n c x : ℕ) → context_of (request_record p.request) c ≡ None → at_pdv_head room p n c x ≡ invalid (deciding (decision.ContextRefused (value_head n c x)) p)
head_unaccepted room p n c x e = ap (by_context room p n c x) e

pub head_accepted : (room : ℕ) (p : Progress) (n c x : ℕ) (a : Context) (o : Option DimseFault) → context_of (request_record p.request) c ≡ Some a → refusal room p.message n c x ≡ o
    → at_pdv_head room p n c x ≡ aborted_if_refused (value_head n c x) o p
head_accepted room p n c x a o e f =
    ap (by_context room p n c x) e ∙ ap (λ (y : Option DimseFault). aborted_if_refused (value_head n c x) y p) f

pub judged_none : (o : Option DimseFault) (u : Unit {0}) → ok_unless o ≡ Ok u → o ≡ None
judged_none o u h = grind (arith, common_steps)

pub judged_some : (o : Option DimseFault) (f : DimseFault) → ok_unless o ≡ Err f → o ≡ Some f
judged_some None f e = absurd cc
judged_some (Some fault) f e = ap (λ (x : DimseFault). Some x) (let h : ◌≡◌ {A = Result (Unit {0}) DimseFault} (Err fault) (Err f) = e in cc)

-- between two PDVs the join shows the message
pub join_between : (k : Kept) (store : Store) (p : Progress) (body : List ℕ) → Pends k store p body [] → k.join.message ≡ without_set p.message
join_between k store p body h =
    let shows : ShowsMessage k.room k.join p.message [] = subst (λ (xs : List ℕ). ShowsMessage k.room k.join p.message xs) (if_nothing (accepts_pdvs p)) h.join_is in
    ap (λ (j : Joining). j.message) shows.shows

-- what was received of a message shows without the bytes of its data set
pub unfinished_kept : (message : Started) → unfinished_of (without_set message) ≡ unfinished_of message
unfinished_kept NoMessage = refl
unfinished_kept (InCommand context command) = refl
unfinished_kept (InSet context command set) = refl

pub context_shown : (k : Kept) (store : Store) (p : Progress) (body started : List ℕ) (id : ℕ) → Pends k store p body started → accepts_pdvs p ≡ true → context_in k.additional k.table id ≡ context_of (request_record p.request) id
context_shown k store p body started id h t = (h.agreed (consumed_state p t)).contexts id

-- ---- a whole PDV

-- the entry
abbrev pub entry_of : List ℕ → mark.Mark
entry_of started = Pdv (get_or started 4 0) (get_or started 5 0) (drop 6 started)

pub pdv_consumed : (rooms : Rooms) (s : Settings) (p : Progress) (f : Finding) (started : List ℕ) → accepts_pdvs p ≡ true → at_entry rooms s p f (At (entry_of started)) ≡ at_pdv p f (pdv_of started)
pdv_consumed rooms s p f started t =
    consumed_when (is_established p.state) p.refused (at_pdv p f (pdv_of started)) (nothing p) ∙ ap (λ (y : Bool). if y then at_pdv p f (pdv_of started) else nothing p) t

pub pdv_dropped : (rooms : Rooms) (s : Settings) (p : Progress) (started : List ℕ) → accepts_pdvs p ≡ false → at_entry rooms s p good (At (entry_of started)) ≡ nothing p
pdv_dropped rooms s p started t =
    consumed_when (is_established p.state) p.refused (at_pdv p good (pdv_of started)) (nothing p) ∙ ap (λ (y : Bool). if y then at_pdv p good (pdv_of started) else nothing p) t

-- what a PDV brings to the message comes to this
abbrev pub by_brought : Progress → Finding → message.Pdv → Brought → Advance
by_brought p f pdv (Goes later) = nothing (going_on later p)
by_brought p f pdv (Ends m) = replied p f m (command_in m.command)
by_brought p f pdv (Refuses fault) = user_aborts (deciding (command_refused p pdv fault) p)

pub brought_is : (p : Progress) (f : Finding) (pdv : message.Pdv) (b : Brought) →
    ◌≡◌ {A = Advance} (elim b [ Goes started ↦ nothing (going_on started p) | Ends m ↦ replied p f m (command_in m.command) | Refuses fault ↦ user_aborts (deciding (command_refused p pdv fault) p) ]) (by_brought p f pdv b)
brought_is p f pdv (Goes later) = refl
brought_is p f pdv (Ends m) = refl
brought_is p f pdv (Refuses fault) = refl

pub pdv_arrives : (p : Progress) (f : Finding) (started : List ℕ) (b : Brought) → brought p.message (pdv_of started) ≡ b → at_pdv p f (pdv_of started) ≡ by_brought p f (pdv_of started) b
pdv_arrives p f started b e = brought_is p f (pdv_of started) (brought p.message (pdv_of started)) ∙ ap (by_brought p f (pdv_of started)) e

pub verdict_by : (rooms : Rooms) (s : Settings) (p q : Progress) (f : Finding) (started : List ℕ) (b : Brought) → accepts_pdvs p ≡ true → brought p.message (pdv_of started) ≡ b → IsVerdict rooms s q f (message_by b)
    → IsVerdict rooms s q f (message_at p (At (entry_of started)))
verdict_by rooms s p q f started b t e h =
    subst (λ (o : Option Message). IsVerdict rooms s q f o) (sym (ap (λ (x : Bool). if x then message_by (brought p.message (pdv_of started)) else None) t ∙ ap message_by e)) h

pub verdict_none : (rooms : Rooms) (s : Settings) (p : Progress) (started : List ℕ) → accepts_pdvs p ≡ false → IsVerdict rooms s p good (message_at p (At (entry_of started)))
verdict_none rooms s p started t =
    subst (λ (o : Option Message). IsVerdict rooms s p good o) (sym (ap (λ (x : Bool). if x then message_by (brought p.message (pdv_of started)) else None) t)) tt

-- ---- the end of a PDV at the join

-- a PDV that is accepted continues with the message that the join shows, and the join ends it with this result
pub record EndsPdv (k : Kept) (p : Progress) (started : List ℕ) (j : Joining) (r : Result Joined DimseFault) : Type 0 where
  pub consumed : accepts_pdvs p ≡ true
  pub shows : ShowsMessage k.room k.join p.message started
  pub joins : Joins k.room p.message (brought p.message (pdv_of started)) k.join j r

pub ends_pdv : (k : Kept) (store : Store) (p : Progress) (started : List ℕ) (j : Joining) (given r : Result Joined DimseFault) → 6 ≤ length started → Pends k store p [] started → accepts_pdvs_in k ≡ true
    → ((m : Started) (b : List ℕ) → 6 ≤ length b → ShowsMessage k.room k.join m b → Joins k.room m (brought m (pdv_of b)) k.join j given) → given ≡ r → EndsPdv k p started j r
ends_pdv k store p started j given r six h accepts ends is =
    let consumed = sym (accepts_shown k store p [] started h) ∙ accepts in
    let shows = subst (λ (xs : List ℕ). ShowsMessage k.room k.join p.message xs) (counted_consumed p started consumed) h.join_is in
    record { consumed = consumed; shows = shows; joins = subst (λ (x : Result Joined DimseFault). Joins k.room p.message (brought p.message (pdv_of started)) k.join j x) is (ends p.message started six shows) }

-- what is carried of the store, with the PDV
pub carried_consumed : (k : Kept) (store : Store) (p : Progress) (started : List ℕ) → accepts_pdvs p ≡ true → Pends k store p [] started → Carried k.depth k.most k.storing store p.request (with_pdv started p.message) p.filing_failed
carried_consumed k store p started consumed h =
    subst (λ (xs : List ℕ). Carried k.depth k.most k.storing store p.request (with_pdv xs p.message) p.filing_failed) (counted_consumed p started consumed) (carried k store p [] started h)

-- a PDV that is not accepted does nothing
pub does_dropped : (rooms : Rooms) (s : Settings) (k : Kept) (p : Progress) (started : List ℕ) (d : Devices) → accepts_pdvs_in k ≡ false → Pends k d.store p [] started → Does rooms s p (At (entry_of started)) k [] [] d d
does_dropped rooms s k p started d drops h =
    let dropped = sym (accepts_shown k d.store p [] started h) ∙ drops in
    does_nothing rooms s p (At (entry_of started)) k [] [] d (pdv_dropped rooms s p started dropped) (verdict_none rooms s p started dropped) (pends_dropped k d.store p [] started [] dropped h)

-- ---- by what the join returned

-- a whole command set that continues announces data
whole_goes : (context : ℕ) (command : List ℕ) (later : Started) (r : Result CommandRecord DimseFault) → with_command context command r ≡ Goes later
    → (later ≡ InSet context command []) × ((c : CommandRecord) → r ≡ Ok c → c.with_data ≡ true)
whole_goes context command later (Err f) e = absurd cc
whole_goes context command later (Ok c) e = by c.with_data refl e where
  by : (t : Bool) → c.with_data ≡ t → (if t then Goes (InSet context command []) else Ends (record { context = context; command = command; set = [] })) ≡ Goes later
      → (later ≡ InSet context command []) × ((d : CommandRecord) → ◌≡◌ {A = Result CommandRecord DimseFault} (Ok c) (Ok d) → d.with_data ≡ true)
  by true w h = (cc, λ d f. let same : c ≡ d = cc in sym (ap (λ (x : CommandRecord). x.with_data) same) ∙ w)
  by false w h = absurd cc

more_row : (before : Started) (last : Bool) (context : ℕ) (bytes : List ℕ) (later : Started) → (if last then completed (with_fragment context bytes before) else Goes (with_fragment context bytes before)) ≡ Goes later
    → joined.More ≡ continues before later → later ≡ with_fragment context bytes before
more_row before false context bytes later e g = cc
more_row NoMessage true context bytes later e g =
    let x : joined.More ≡ joined.DataDue = g ∙ ap (continues NoMessage) (whole_goes context bytes later (command_in bytes) e).0 in absurd cc
more_row (InCommand first command) true context bytes later e g =
    let x : joined.More ≡ joined.DataDue = g ∙ ap (continues (InCommand first command)) (whole_goes first (command ++ bytes) later (command_in (command ++ bytes)) e).0 in absurd cc
more_row (InSet first command set) true context bytes later e g = absurd cc

-- a data set is due
pub record IsDataDue (room : ℕ) (before : Started) (h : PdvHead) (bytes : List ℕ) (later : Started) : Type 0 where
  pub command : List ℕ
  pub later_is : later ≡ InSet h.context command []
  pub received : with_fragment h.context bytes before ≡ InCommand h.context command
  pub announced : (c : CommandRecord) → command_in command ≡ Ok c → c.with_data ≡ true
  pub none_before : (request : Requested) → InStore request before → ⊥

same_context : (a first : ℕ) (t : Bool) (o : Option DimseFault) → nat_eq a first ≡ t → (if t then o else Some OtherContext) ≡ None → first ≡ a
same_context a first true o e h = sym (grind (arith, nat_tests))
same_context a first false o e h = absurd cc

due_row : (room : ℕ) (before : Started) (h : PdvHead) (last : Bool) (bytes : List ℕ) (later : Started) → head_refusal room before h ≡ None
    → (if last then completed (with_fragment h.context bytes before) else Goes (with_fragment h.context bytes before)) ≡ Goes later → joined.DataDue ≡ continues before later → IsDataDue room before h bytes later
due_row room NoMessage h false bytes later r e g =
    let is : later ≡ InCommand h.context bytes = cc in
    let x : joined.DataDue ≡ joined.More = g ∙ ap (continues NoMessage) is in absurd cc
due_row room NoMessage h true bytes later r e g =
    let w = whole_goes h.context bytes later (command_in bytes) e in
    record { command = bytes; later_is = w.0; received = refl; announced = w.1; none_before = λ request s. no_store request NoMessage refl s }
due_row room (InCommand first command) h false bytes later r e g =
    let is : later ≡ InCommand first (command ++ bytes) = cc in
    let x : joined.DataDue ≡ joined.More = g ∙ ap (continues (InCommand first command)) is in absurd cc
due_row room (InCommand first command) h true bytes later r e g =
    let w = whole_goes first (command ++ bytes) later (command_in (command ++ bytes)) e in
    let id = same_context h.context first (nat_eq h.context first) _ refl r in
    record {
      command = command ++ bytes;
      later_is = w.0 ∙ ap (λ (n : ℕ). InSet n (command ++ bytes) []) id;
      received = ap (λ (n : ℕ). InCommand n (command ++ bytes)) id;
      announced = w.1;
      none_before = λ request s. no_store_yet request (InCommand first command) first command refl s;
    }
due_row room (InSet first command set) h last bytes later r e g = let x : joined.DataDue ≡ joined.More = g in absurd cc

echo_of : (context : ℕ) (command : List ℕ) (m : Message) (r : Result CommandRecord DimseFault) → r ≡ command_in command → with_command context command r ≡ Ends m
    → (m.context ≡ context) × (m.command ≡ command) × ((c : CommandRecord) → r ≡ Ok c → c.with_data ≡ false)
echo_of context command m (Err f) is e = absurd cc
echo_of context command m (Ok c) is e = by c.with_data refl e where
  by : (t : Bool) → c.with_data ≡ t → (if t then Goes (InSet context command []) else Ends (record { context = context; command = command; set = [] })) ≡ Ends m
      → (m.context ≡ context) × (m.command ≡ command) × ((d : CommandRecord) → ◌≡◌ {A = Result CommandRecord DimseFault} (Ok c) (Ok d) → d.with_data ≡ false)
  by true w h = absurd cc
  by false w h =
      let same : record { context = context; command = command; set = [] } ≡ m = cc in
      (sym (ap (λ (x : Message). x.context) same), sym (ap (λ (x : Message). x.command) same), λ d f. let is-d : c ≡ d = cc in sym (ap (λ (x : CommandRecord). x.with_data) is-d) ∙ w)

ends_row : (room : ℕ) (before : Started) (h : PdvHead) (last : Bool) (bytes : List ℕ) (m : Message) → head_refusal room before h ≡ None
    → (if last then completed (with_fragment h.context bytes before) else Goes (with_fragment h.context bytes before)) ≡ Ends m → HasReceived m (with_fragment h.context bytes before) × (m.context ≡ h.context)
ends_row room before h false bytes m r e = absurd cc
ends_row room NoMessage h true bytes m r e =
    let a = echo_of h.context bytes m (command_in bytes) refl e in
    (inr (ap (λ (n : ℕ). InCommand n bytes) (sym a.0) ∙ ap (InCommand m.context) (sym a.1), λ c f. a.2 c (ap command_in (sym a.1) ∙ f)), a.0)
ends_row room (InCommand first command) h true bytes m r e =
    let a = echo_of first (command ++ bytes) m (command_in (command ++ bytes)) refl e in (
      inr (ap (λ (n : ℕ). InCommand n (command ++ bytes)) (sym a.0) ∙ ap (InCommand m.context) (sym a.1), λ c f. a.2 c (ap command_in (sym a.1) ∙ f)),
      a.0 ∙ same_context h.context first (nat_eq h.context first) _ refl r,
    )
ends_row room (InSet first command set) h true bytes m r e =
    let same : record { context = first; command = command; set = set ++ bytes } ≡ m = cc in
    (inl (ap (λ (x : Message). InSet x.context x.command x.set) same), sym (ap (λ (x : Message). x.context) same) ∙ same_context h.context first (nat_eq h.context first) _ refl r)

module _ (room : ℕ) (before : Started) (started : List ℕ) (six : 6 ≤ length started) (fine : head_refusal room before (pdv_head_of started) ≡ None) (old new : Joining) where
  pub goes_of : Joins room before (brought before (pdv_of started)) old new (Ok joined.More) → (later : Started) × (brought before (pdv_of started) ≡ Goes later) × ShowsMessage room new later [] × (later ≡ with_pdv started before) × (joined.More ≡ continues before later)
  goes_of j = by (brought before (pdv_of started)) refl j where
    by : (b : Brought) → brought before (pdv_of started) ≡ b → Joins room before b old new (Ok joined.More) → (later : Started) × (brought before (pdv_of started) ≡ Goes later) × ShowsMessage room new later [] × (later ≡ with_pdv started before) × (joined.More ≡ continues before later)
    by (Goes later) is (e, h) =
        let more : joined.More ≡ continues before later = let x : ◌≡◌ {A = Result Joined DimseFault} (Ok joined.More) (Ok (continues before later)) = e in cc in
        (later, is, h, more_row before (is_last (get_or started 5 0)) (get_or started 4 0) (drop 6 started) later is more ∙ sym (long_pdv started before six), more)
    by (Ends m) is (e, h) = let x : ◌≡◌ {A = Result Joined DimseFault} (Ok joined.More) (Ok joined.Message) = e in absurd cc
    by (Refuses f) is (e, h) = let x : ◌≡◌ {A = Result Joined DimseFault} (Ok joined.More) (Err f) = e in absurd cc

  pub due_of : Joins room before (brought before (pdv_of started)) old new (Ok joined.DataDue)
      → (later : Started) × (brought before (pdv_of started) ≡ Goes later) × ShowsMessage room new later [] × IsDataDue room before (pdv_head_of started) (drop 6 started) later × (joined.DataDue ≡ continues before later)
  due_of j = by (brought before (pdv_of started)) refl j where
    by : (b : Brought) → brought before (pdv_of started) ≡ b → Joins room before b old new (Ok joined.DataDue)
        → (later : Started) × (brought before (pdv_of started) ≡ Goes later) × ShowsMessage room new later [] × IsDataDue room before (pdv_head_of started) (drop 6 started) later × (joined.DataDue ≡ continues before later)
    by (Goes later) is (e, h) =
        let due : joined.DataDue ≡ continues before later = let x : ◌≡◌ {A = Result Joined DimseFault} (Ok joined.DataDue) (Ok (continues before later)) = e in cc in
        (later, is, h, due_row room before (pdv_head_of started) (is_last (get_or started 5 0)) (drop 6 started) later fine is due, due)
    by (Ends m) is (e, h) = let x : ◌≡◌ {A = Result Joined DimseFault} (Ok joined.DataDue) (Ok joined.Message) = e in absurd cc
    by (Refuses f) is (e, h) = let x : ◌≡◌ {A = Result Joined DimseFault} (Ok joined.DataDue) (Err f) = e in absurd cc

  not_message : (a b : Started) → joined.Message ≡ continues a b → ⊥
  not_message a b h = grind (arith, common_steps)

  pub ends_of : Joins room before (brought before (pdv_of started)) old new (Ok joined.Message)
      → (m : Message) × (brought before (pdv_of started) ≡ Ends m) × (new ≡ lending m.command) × HasReceived m (with_pdv started before) × (m.context ≡ get_or started 4 0)
  ends_of j = by (brought before (pdv_of started)) refl j where
    by : (b : Brought) → brought before (pdv_of started) ≡ b → Joins room before b old new (Ok joined.Message)
        → (m : Message) × (brought before (pdv_of started) ≡ Ends m) × (new ≡ lending m.command) × HasReceived m (with_pdv started before) × (m.context ≡ get_or started 4 0)
    by (Goes later) is (e, h) =
        let wrong : joined.Message ≡ continues before later = let x : ◌≡◌ {A = Result Joined DimseFault} (Ok joined.Message) (Ok (continues before later)) = e in cc in
        absurd (not_message before later wrong)
    by (Ends m) is (e, h) =
        let r = ends_row room before (pdv_head_of started) (is_last (get_or started 5 0)) (drop 6 started) m fine is in
        (m, is, h, subst (λ (x : Started). HasReceived m x) (sym (long_pdv started before six)) r.0, r.1)
    by (Refuses f) is (e, h) = let x : ◌≡◌ {A = Result Joined DimseFault} (Ok joined.Message) (Err f) = e in absurd cc

  pub refuses_of : (f : DimseFault) → Joins room before (brought before (pdv_of started)) old new (Err f) → (brought before (pdv_of started) ≡ Refuses f) × (new ≡ old)
  refuses_of f j = by (brought before (pdv_of started)) refl j where
    by : (b : Brought) → brought before (pdv_of started) ≡ b → Joins room before b old new (Err f) → (brought before (pdv_of started) ≡ Refuses f) × (new ≡ old)
    by (Goes later) is (e, h) = let x : ◌≡◌ {A = Result Joined DimseFault} (Err f) (Ok (continues before later)) = e in absurd cc
    by (Ends m) is (e, h) = let x : ◌≡◌ {A = Result Joined DimseFault} (Err f) (Ok joined.Message) = e in absurd cc
    by (Refuses g) is (e, h) = (is ∙ ap (λ (x : DimseFault). Refuses x) (let x : ◌≡◌ {A = Result Joined DimseFault} (Err f) (Err g) = e in cc), h)

-- the message continues
pub pends_going_on : (k : Kept) (store : Store) (p : Progress) (j : Joining) (later : Started) (started : List ℕ) → Pends k store p [] started → accepts_pdvs p ≡ true → ShowsMessage k.room j later []
    → later ≡ with_pdv started p.message → joined.More ≡ continues p.message later → 6 ≤ length started → Pends (with_join j k) store (going_on later p) [] []
pends_going_on k store p j later started h t shows is more six =
    let none : counted_pdv (going_on later p) [] ≡ [] = none_counted_pdv (going_on later p) in
    let same : so_far p started ≡ so_far (going_on later p) [] = ap (λ (xs : List ℕ). with_pdv xs p.message) (counted_consumed p started t) ∙ sym is ∙ sym (ap (λ (xs : List ℕ). with_pdv xs later) none) in
    let c = subst (λ (x : Started). Carried k.depth k.most k.storing store p.request x p.filing_failed) same (carried k store p [] started h) in
    record {
      state_is = h.state_is;
      refused_is = h.refused_is;
      decided_is = h.decided_is ∙ ap (λ (x : Joined). decided_on x p.decided) more;
      body_is = h.body_is;
      join_is = subst (λ (xs : List ℕ). ShowsMessage k.room j later xs) (sym none) shows;
      agreed = h.agreed;
      none_remaining = λ e. let x : is_established Sta6 ≡ false = sym (ap is_established (consumed_state p t)) ∙ e in absurd cc;
      unagreed = h.unagreed;
      walks = c.0;
      draft = c.1;
      failed_in = λ n e.
          subst (λ (x : Started). InStore p.request x) (sym (is ∙ long_pdv started p.message six)) (store_fragment p.request (get_or started 4 0) (drop 6 started) p.message (h.failed_in n e));
    }

pub aborted_pdv : (p : Progress) (started : List ℕ) → accepts_pdvs p ≡ true → counted_pdv (done [] 0 p event.UserAborts).next started ≡ []
aborted_pdv p started t = ap (λ (st : State). counted_pdv (done [] 0 (record p { state = st }) event.UserAborts).next started) (consumed_state p t)

pub aborted_body : (p : Progress) → accepts_pdvs p ≡ true → counted_body (done [] 0 p event.UserAborts).next [] ≡ []
aborted_body p t = ap (λ (st : State). counted_body (done [] 0 (record p { state = st }) event.UserAborts).next []) (consumed_state p t)

pub tries_still : (p q : Progress) (k : Kept) (body started : List ℕ) (d : Devices) → Pends k d.store q body started → PerformsReaction p (nothing q) k body started d d
tries_still p q k body started d h = tries_from p q (nothing q) k body started d d (tries_nothing q k body started d h)

-- ---- the context of a value

one_context : (first context : ℕ) (other : Option DimseFault) → if_context first context other ≡ None → context ≡ first
one_context first context other e = elim (cases_Bool (nat_eq context first)) [
  | inl t ↦ eqb-true context first t
  | inr t ↦ absurd (let wrong : Some OtherContext ≡ None = sym (ap (λ (b : Bool). if b then other else Some OtherContext) t) ∙ e in cc)
]

-- a value has the context of the message that it is joined to
pub pdv_context : (room : ℕ) (join : Joining) (m : Started) (started : List ℕ) (id : ℕ) → 6 ≤ length started → ShowsMessage room join m started → InContext join.message id → id ≡ get_or started 4 0
pdv_context room join m started id six h is = go m (h.accepted six) (subst (λ (x : Started). InContext (without_set x) id) (long_pdv started m six) (subst (λ (j : Joining). InContext j.message id) h.shows is)) where
  go : (x : Started) → head_refusal room x (pdv_head_of started) ≡ None → InContext (without_set (with_fragment (get_or started 4 0) (drop 6 started) x)) id → id ≡ get_or started 4 0
  go NoMessage fine e = e
  go (InCommand first command) fine e = e ∙ sym (one_context first (get_or started 4 0) _ fine)
  go (InSet first command set) fine e = e ∙ sym (one_context first (get_or started 4 0) _ fine)
