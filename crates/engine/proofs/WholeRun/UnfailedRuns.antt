-- Every good image that a run has consumed whole is filed and answered by success (`every_good_image_is_filed`); inputs have one
-- run without failures (`one_run`), whatever the cuts (`cuts_give_the_same`). Stands on AlongTimelines, HeldBytes/HeldIsOne,
-- MarksAreDone/PdvJoined and StoresAreJudged.
use Rattle.std.proofs.Common.{◌≡◌, ◌⊎◌, inl, inr, ℕ, Bool, true, false, not, ◌&&◌, List, [], ◌∷◌, ◌++◌, Option, Some, None, Result, Ok, Err, refl, sym, ap, subst, ◌∙◌, append_assoc, arith, nat_eq, if◌then◌else◌}
use Rattle.std.proofs.lemmas.Grind.{common_steps}
use Rattle.element.specs.Uid.{uid_of}
use Rattle.pdu.specs.Sent.{Line}
use Rattle.pdu.specs.Frames.{rest_of}
use Rattle.engine.specs.Requested.{request_record}
use Rattle.pdu.specs.Marks.{Head, PdvHead, Pdv, BadPdv, Leftover, End}
use Rattle.negotiate.specs.declared.proposals.Context.{Context}
use Rattle.negotiate.specs.Contexts.{context_of}
use Rattle.negotiate.specs.Settings.{Settings}
use Rattle.dimse.specs.declared.fault.DimseFault.{DimseFault}
use Rattle.dimse.specs.declared.fault.DimseFault.TheVariants.{UnknownField, WrongKind}
use Rattle.dimse.specs.Command.{CommandElement, CommandRecord, c_echo, c_store, no_data_set, needed, two_bytes, command_value, store_command, request_of, command_of, ◌>>=◌}
use Rattle.dimse.specs.Reading.{command_in, command_in_set, set_of}
use Rattle.dimse.specs.Messages as messages
use Rattle.dimse.specs.Messages.{Message, Brought, Goes, Ends, Refuses, message_by, brought, ended}
use Rattle.dimse.specs.Reply.{reply_bytes}
use Rattle.dimse.specs.Status.{success}
use Rattle.engine.specs.Timeline.{Entry, At, Shut, TimedOut, Aborted, Finding, Happened, entries_of}
use Rattle.decisions.specs.declared.decision.Decision.TheVariants as decision
use Rattle.engine.specs.Progress.{Progress, Advance, at_start, deciding, absorb, is_established, nothing}
use Rattle.engine.specs.Replies.{at_pdv, replied, finding_on, file_put, file_in, echo_status, ended_message}
use Rattle.engine.specs.Run.{Rooms, at_entry, cut, gives, progress_of, sent_of, files_of, fails, counted, wire_failures, filing_failures}
use Rattle.engine.specs.Fair.{IsFair, AreFair, IsVerdict, IsStory, message_at}
use Rattle.engine.specs.declared.report.Report.{Report}
use Rattle.engine.specs.Devices.{Devices}
use Rattle.engine.specs.Held.{Held}
use Rattle.engine.specs.Inputs.{Received, Bytes, Close, Expiry, UserAbort, stream_of}
use Rattle.engine.specs.Laws.{DifferInCuts, put_together}
use Rattle.engine.specs.Reached.{Reached, reached}
use Rattle.engine.specs.Ran.{Answered, standing_of}
use Rattle.engine.specs.RunLaws.{EveryGoodImageIsFiled, OneRun, IsUnfailed, NoneFailed, CutsGiveTheSame}
use Rattle.engine.proofs.AlongTimelines.ContextsAreAccepted.{IsAccepted, AreAccepted, story_accepted}
use Rattle.engine.proofs.AlongTimelines.CutsDoNotShow.{cuts_do_not_show}
use Rattle.engine.proofs.StoresAreJudged.VerdictIsOne.{same_finding}
use Rattle.engine.proofs.HeldBytes.HeldIsOne.{held_is_one}
use Rattle.engine.proofs.AlongTimelines.StoriesJoin.{sent_then, files_then}
use Rattle.engine.proofs.StoresAreJudged.GoodImages.{no_good_image_is_refused, entry_at}
use Rattle.engine.proofs.MarksAreDone.PdvJoined.{by_brought, brought_is}

-- an entry of a fair story is fair where the entries before it have led
fair_at : (rooms : Rooms) (s : Settings) (p : Progress) (before : List Happened) (h : Happened) (after : List Happened) → AreFair rooms s p (before ++ h ∷ after) → IsFair rooms s (progress_of rooms s p before) h
fair_at rooms s p [] h after fair = fair.0
fair_at rooms s p (x ∷ before) h after fair = fair_at rooms s (gives rooms s p x).next before h after fair.1

pub every_good_image_is_filed : EveryGoodImageIsFiled
every_good_image_is_filed rooms s inputs before after h failed sent files state m command context run ends image calm =
    let p = progress_of rooms s at_start before in
    let there = no_good_image_is_refused rooms s p h m command context ends image calm (fair_at rooms s at_start before h after run.story_is.fair) in
    record {
      files_are = run.files_are ∙ files_then rooms s at_start before (h ∷ after) ∙ ap (λ (fs : List (List ℕ)). files_of rooms s at_start before ++ (fs ++ files_of rooms s (gives rooms s p h).next after)) there.1;
      sent_is = run.sent_is ∙ sent_then rooms s at_start before (h ∷ after) ∙ ap (λ (text : List ℕ). sent_of rooms s at_start before ++ (text ++ sent_of rooms s (gives rooms s p h).next after)) there.2;
    }

-- ---- a command is an echo or a store

abbrev IsService : Result CommandRecord DimseFault → Type 0
IsService (Ok command) = (command.field ≡ c_echo) ⊎ (command.field ≡ c_store)
IsService (Err fault) = Unit {0}

bound : {A : Type 0} (r : Result A DimseFault) (f : A → Result CommandRecord DimseFault) → ((x : A) → IsService (f x)) → IsService (r >>= f)
bound (Ok x) f k = k x
bound (Err e) f k = tt

stored_is : (class : List ℕ) (message : ℕ) (es : List CommandElement) → IsService (store_command class message es)
unfolding store_command
stored_is class message es = bound (needed uid_of (command_value 0x1000 es)) (λ instance. Ok (record { class = class; field = c_store; message = message; with_data = true; instance = Some instance })) (λ instance. inr refl)

request_is : (class : List ℕ) (field message kind : ℕ) (es : List CommandElement) → IsService (request_of class field message kind es)
request_is class field message kind es = by (nat_eq field c_echo) (nat_eq field c_store) (nat_eq kind no_data_set)
  where
    by : (echo store none : Bool) → IsService (if echo then
        (if none then Ok (record { class = class; field = c_echo; message = message; with_data = false; instance = None }) else Err WrongKind)
        else (if store then (if none then Err WrongKind else store_command class message es) else Err UnknownField))
    by true store true = inl refl
    by true store false = tt
    by false true true = tt
    by false true false = stored_is class message es
    by false false none = tt

of_elements : (es : List CommandElement) → IsService (command_of es)
unfolding command_of
of_elements es =
    bound (needed uid_of (command_value 0x0002 es)) _ (λ class.
    bound (needed two_bytes (command_value 0x0100 es)) _ (λ field.
    bound (needed two_bytes (command_value 0x0110 es)) _ (λ message.
    bound (needed two_bytes (command_value 0x0800 es)) _ (λ kind. request_is class field message kind es))))

of_set : (set : Option (List CommandElement)) → IsService (command_in_set set)
of_set None = tt
of_set (Some es) = of_elements es

command_is : (text : List ℕ) → IsService (command_in text)
unfolding command_in
command_is text = of_set (set_of text)

-- ---- an entry without failures

replied_same : (p : Progress) (f g : Finding) (m : Message) (r : Result CommandRecord DimseFault) → IsService r → ((command : CommandRecord) → r ≡ Ok command → command.field ≡ c_store → f ≡ g) → replied p f m r ≡ replied p g m r
replied_same p f g m (Err fault) k same = refl
replied_same p f g m (Ok command) (inr store) same = ap (λ (z : Finding). replied p z m (Ok command)) (same command refl store)
replied_same p f g m (Ok command) (inl echo) same =
    let r = request_record p.request in
    let answered : Finding = record { status = echo_status (context_of r m.context) command; detail = None } in
    let findings : finding_on (context_of r m.context) command f ≡ finding_on (context_of r m.context) command g =
    ap (λ (n : ℕ). if nat_eq n 0x0030 then answered else f) echo ∙ sym (ap (λ (n : ℕ). if nat_eq n 0x0030 then answered else g) echo) in
    let files : file_put r m.context command m.set f ≡ file_put r m.context command m.set g =
    ap (λ (n : ℕ). if nat_eq n 0x0001 && nat_eq f.status success then file_in r (context_of r m.context) command m.set else []) echo
    ∙ sym (ap (λ (n : ℕ). if nat_eq n 0x0001 && nat_eq g.status success then file_in r (context_of r m.context) command m.set else []) echo) in
    λ i. record { next = deciding (decision.Replied (findings i).status (findings i).detail) (ended_message p); sent = reply_bytes command (findings i).status (findings i).detail m.context r.maximum; files = files i }

brought_same : (p : Progress) (f g : Finding) (pdv : messages.Pdv) (b : Brought) → message_by b ≡ None → by_brought p f pdv b ≡ by_brought p g pdv b
brought_same p f g pdv (Goes later) h = refl
brought_same p f g pdv (Ends m) h = absurd cc
brought_same p f g pdv (Refuses fault) h = refl

-- no message ends
chosen_none : (established refused : Bool) (ended : Option Message) (x y z : Advance) → (if established && not refused then ended else None) ≡ None → (ended ≡ None → x ≡ y)
    → (if refused then z else (if established then x else z)) ≡ (if refused then z else (if established then y else z))
chosen_none true true o x y z k same = refl
chosen_none true false o x y z k same = same k
chosen_none false true o x y z k same = refl
chosen_none false false o x y z k same = refl

module _ (rooms : Rooms) (s : Settings) where
  none_ended : (p : Progress) (f g : Finding) (context control : ℕ) (fragment : List ℕ) → message_at p (At (Pdv context control fragment)) ≡ None
      → at_entry rooms s p f (At (Pdv context control fragment)) ≡ at_entry rooms s p g (At (Pdv context control fragment))
  none_ended p f g context control fragment k =
      let pdv : messages.Pdv = record { context = context; control = control; fragment = fragment } in
      chosen_none (is_established p.state) p.refused (ended p.message pdv) (at_pdv p f pdv) (at_pdv p g pdv) (nothing p) k
      (λ e. brought_is p f pdv (brought p.message pdv) ∙ brought_same p f g pdv (brought p.message pdv) e ∙ sym (brought_is p g pdv (brought p.message pdv)))

  ended_same : (p : Progress) (f g : Finding) (e : Entry) (m : Message) → message_at p e ≡ Some m → IsVerdict rooms s p f (Some m) → IsVerdict rooms s p g (Some m)
      → ((command : CommandRecord) → command_in m.command ≡ Ok command → command.field ≡ c_store → (context : Context) × (context_of (request_record p.request) m.context ≡ Some context))
      → at_entry rooms s p f e ≡ at_entry rooms s p g e
  ended_same p f g e m is v w accepted =
      entry_at rooms s p f e m is
      ∙ replied_same p f g m (command_in m.command) (command_is m.command) (λ command spelled store.
      let c = accepted command spelled store in
      same_finding rooms.depth s.max_data c.0 command m.set p.filing_failed f g (v command c.0 spelled store c.1) (w command c.0 spelled store c.1))
      ∙ sym (entry_at rooms s p g e m is)

  entry_same : (p : Progress) (f g : Finding) (e : Entry) → IsVerdict rooms s p f (message_at p e) → IsVerdict rooms s p g (message_at p e)
      → ((m : Message) (command : CommandRecord) → message_at p e ≡ Some m → command_in m.command ≡ Ok command → command.field ≡ c_store → (context : Context) × (context_of (request_record p.request) m.context ≡ Some context))
      → at_entry rooms s p f e ≡ at_entry rooms s p g e
  entry_same p f g (At (Pdv context control fragment)) v w accepted = by (message_at p (At (Pdv context control fragment))) refl
    where
      by : (o : Option Message) → message_at p (At (Pdv context control fragment)) ≡ o → at_entry rooms s p f (At (Pdv context control fragment)) ≡ at_entry rooms s p g (At (Pdv context control fragment))
      by None is = none_ended p f g context control fragment is
      by (Some m) is = ended_same p f g (At (Pdv context control fragment)) m is (subst (IsVerdict rooms s p f) is v) (subst (IsVerdict rooms s p g) is w) (λ command. accepted m command is)
  entry_same p f g (At (Head kind n)) v w accepted = refl
  entry_same p f g (At (PdvHead n context control)) v w accepted = refl
  entry_same p f g (At BadPdv) v w accepted = refl
  entry_same p f g (At Leftover) v w accepted = refl
  entry_same p f g (At (End kind body)) v w accepted = refl
  entry_same p f g Shut v w accepted = refl
  entry_same p f g TimedOut v w accepted = refl
  entry_same p f g Aborted v w accepted = refl

  calm_gives : (p : Progress) (h : Happened) → h.1.wire ≡ None → h.1.filing ≡ false → gives rooms s p h ≡ at_entry rooms s p h.1.finding h.0
  calm_gives p h wire filing =
      ap (λ (w : Option ℕ). cut w p (at_entry rooms s (absorb h.1.filing p) h.1.finding h.0)) wire
      ∙ ap (λ (b : Bool). at_entry rooms s (absorb b p) h.1.finding h.0) filing

  gives_same : (p : Progress) (x y : Happened) → x.0 ≡ y.0 → x.1.wire ≡ None → x.1.filing ≡ false → y.1.wire ≡ None → y.1.filing ≡ false → IsFair rooms s p x → IsFair rooms s p y → IsAccepted p x → gives rooms s p x ≡ gives rooms s p y
  gives_same p x y same wire filing wire2 filing2 fair fair2 accepted =
      let v = subst (λ (b : Bool). IsVerdict rooms s (absorb b p) x.1.finding (message_at p x.0)) filing fair.verdict in
      let w = subst (λ (e : Entry). IsVerdict rooms s p y.1.finding (message_at p e)) (sym same) (subst (λ (b : Bool). IsVerdict rooms s (absorb b p) y.1.finding (message_at p y.0)) filing2 fair2.verdict) in
      calm_gives p x wire filing
      ∙ entry_same p x.1.finding y.1.finding x.0 v w (λ m command is spelled store. accepted m is)
      ∙ ap (λ (e : Entry). at_entry rooms s p y.1.finding e) same
      ∙ sym (calm_gives p y wire2 filing2)

-- ---- a run without failures

no_front : (wire : Option ℕ) → fails wire ≡ 0 → wire ≡ None
no_front wire h = grind (arith, common_steps)

not_counted : (b : Bool) → counted b ≡ 0 → b ≡ false
not_counted b h = grind (arith, common_steps)

heads_and_tails : (a b : Entry) (more more2 : List Entry) → a ∷ more ≡ b ∷ more2 → (a ≡ b) × (more ≡ more2)
heads_and_tails a b more more2 e = (cc, cc)

record SameWay (rooms : Rooms) (s : Settings) (p : Progress) (xs ys : List Happened) : Type 0 where
  sent : sent_of rooms s p xs ≡ sent_of rooms s p ys
  files : files_of rooms s p xs ≡ files_of rooms s p ys
  progress : progress_of rooms s p xs ≡ progress_of rooms s p ys

same_way : (rooms : Rooms) (s : Settings) (p : Progress) (xs ys : List Happened) (last last2 : Bool) → entries_of xs ≡ entries_of ys → AreFair rooms s p xs → AreFair rooms s p ys
    → wire_failures xs ≡ 0 → wire_failures ys ≡ 0 → filing_failures xs last ≡ 0 → filing_failures ys last2 ≡ 0 → AreAccepted rooms s p xs → SameWay rooms s p xs ys
same_way rooms s p [] [] last last2 e fair fair2 w w2 k k2 accepted = record { sent = refl; files = refl; progress = refl }
same_way rooms s p [] (y ∷ ys) last last2 e fair fair2 w w2 k k2 accepted = absurd cc
same_way rooms s p (x ∷ xs) [] last last2 e fair fair2 w w2 k k2 accepted = absurd cc
same_way rooms s p (x ∷ xs) (y ∷ ys) last last2 e fair fair2 w w2 k k2 accepted =
    let entries = heads_and_tails x.0 y.0 (entries_of xs) (entries_of ys) e in
    let same = gives_same rooms s p x y entries.0 (no_front x.1.wire (omega (arith, w))) (not_counted x.1.filing (omega (arith, k))) (no_front y.1.wire (omega (arith, w2))) (not_counted y.1.filing (omega (arith, k2))) fair.0 fair2.0 accepted.0 in
    let rest = same_way rooms s (gives rooms s p x).next xs ys last last2 entries.1 fair.1 (subst (λ (g : Advance). AreFair rooms s g.next ys) (sym same) fair2.1) (omega (arith, w)) (omega (arith, w2)) (omega (arith, k)) (omega (arith, k2)) accepted.1 in
    record {
      sent = ap (λ (text : List ℕ). (gives rooms s p x).sent ++ text) rest.sent ∙ ap (λ (g : Advance). g.sent ++ sent_of rooms s g.next ys) same;
      files = ap (λ (fs : List (List ℕ)). (gives rooms s p x).files ++ fs) rest.files ∙ ap (λ (g : Advance). g.files ++ files_of rooms s g.next ys) same;
      progress = rest.progress ∙ ap (λ (g : Advance). progress_of rooms s g.next ys) same;
    }

module _ (rooms : Rooms) (s : Settings) (a b : List Received) (story story2 : List Happened) (failed failed2 : Bool) where
  one_way : DifferInCuts a b → IsStory rooms s a story failed → IsStory rooms s b story2 failed2 → IsUnfailed story failed → IsUnfailed story2 failed2 → SameWay rooms s at_start story story2
  one_way cuts h h2 calm calm2 =
      let reported = h.reported ∙ (cuts_do_not_show rooms s a b cuts).0 ∙ sym h2.reported in
      same_way rooms s at_start story story2 failed failed2 reported h.fair h2.fair calm.wire calm2.wire calm.filing calm2.filing (story_accepted rooms s a story h.reported)

pub one_run : OneRun
one_run rooms s a b story story2 failed failed2 sent sent2 files files2 state ended cuts run run2 calm calm2 =
    let way = one_way rooms s a b story story2 failed failed2 cuts run.story_is run2.story_is calm calm2 in (
      run.sent_is ∙ way.sent ∙ sym run2.sent_is,
      run.files_are ∙ way.files ∙ sym run2.files_are,
      run.state_is ∙ ap (λ (p : Progress). p.state) way.progress ∙ sym run2.state_is,
    )

-- where no count rose, the story has no failure
unfailed : (rooms : Rooms) (s : Settings) (consumed : List Received) (report : Report) (old new : Devices) → (x : Answered rooms s consumed report old new) → NoneFailed old new → IsUnfailed x.story x.failed
unfailed rooms s consumed report old new x none = record {
  wire = omega (arith, ap (λ (line : Line). line.failures) x.line, none.wire);
  filing = omega (arith, x.count, none.filing);
}

none_after : (story : List Happened) (failed : Bool) → filing_failures story failed ≡ 0 → failed ≡ false
none_after [] failed k = not_counted failed k
none_after (h ∷ story) failed k = none_after story failed (omega (arith, k))

-- the stream is the same
stream_together : (piece : List ℕ) (inputs : List Received) → stream_of (put_together piece inputs) ≡ piece ++ stream_of inputs
stream_together piece [] = refl
stream_together piece (Bytes more ∷ inputs) = stream_together (piece ++ more) inputs ∙ append_assoc piece more (stream_of inputs)
stream_together piece (Close ∷ inputs) = ap (λ (xs : List ℕ). piece ++ xs) (stream_together [] inputs)
stream_together piece (Expiry ∷ inputs) = ap (λ (xs : List ℕ). piece ++ xs) (stream_together [] inputs)
stream_together piece (UserAbort ∷ inputs) = ap (λ (xs : List ℕ). piece ++ xs) (stream_together [] inputs)

one_stream : (a b : List Received) → DifferInCuts a b → stream_of a ≡ stream_of b
one_stream a b cuts = sym (stream_together [] a) ∙ ap stream_of cuts ∙ stream_together [] b

one_reached : (rooms : Rooms) (s : Settings) (a b : List Received) (story story2 : List Happened) (failed failed2 : Bool) → failed ≡ failed2 → progress_of rooms s at_start story ≡ progress_of rooms s at_start story2 → stream_of a ≡ stream_of b
    → reached rooms s a story failed ≡ reached rooms s b story2 failed2
one_reached rooms s a b story story2 failed failed2 f p stream = λ i. record { progress = absorb (f i) (p i); rest = rest_of (stream i) }

pub cuts_give_the_same : CutsGiveTheSame
cuts_give_the_same rooms s a b one other old new old2 new2 cuts x y none none2 =
    let calm = unfailed rooms s a one old new x none in
    let calm2 = unfailed rooms s b other old2 new2 y none2 in
    let same = one_run rooms s a b x.story y.story x.failed y.failed x.sent y.sent x.files y.files x.state y.state cuts x.run y.run calm calm2 in
    let way = one_way rooms s a b x.story y.story x.failed y.failed cuts x.run.story_is y.run.story_is calm calm2 in
    let failed = none_after x.story x.failed calm.filing ∙ sym (none_after y.story y.failed calm2.filing) in
    let there = one_reached rooms s a b x.story y.story x.failed y.failed failed way.progress (one_stream a b cuts) in
    record {
      sent = same.0;
      files = same.1;
      state = same.2;
      standing = x.standing ∙ ap standing_of same.2 ∙ sym y.standing;
      held = held_is_one rooms s (reached rooms s a x.story x.failed) one.held other.held x.held (subst (λ (r : Reached). Held rooms s r other.held) (sym there) y.held);
    }
