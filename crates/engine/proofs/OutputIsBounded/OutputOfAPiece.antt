-- A byte completes four marks at most (`few_marks`), and a piece has an association send no more than its marks do
-- (`bounded_output`, `answers_are_short`, `output_of_a_piece`). Stands on PiecesAreDone/FramesAndMarks,
-- StoresAreKept/DraftAndWalk and the laws of `dimse`, `negotiate` and `pdu`.
use Rattle.std.proofs.Common.{◌≡◌, ◌⊎◌, ◌&&◌, Option, Some, None, Result, Ok, Err, ℕ, ◌+◌, ◌-◌, ◌*◌, ◌<◌, ◌≤◌, Bool, true, false, List, [], ◌∷◌, ◌++◌, length, drop, map, nat_eq, nat_lt, refl, ap, arith, if◌then◌else◌, inl, inr}
use Rattle.std.proofs.lemmas.Grind.{common_steps}
use Rattle.std.proofs.lemmas.Bool.{cases_lt}
use Rattle.std.proofs.lemmas.List.{append-nil, length-append, length-map}
use Rattle.std.proofs.lemmas.Nat.{mul-le}
use Rattle.byteorder.specs.Endian.{big_number}
use Rattle.element.specs.Numbers.{IsBytes}
use Rattle.pdu.specs.Frames.{IsFrame, IsRest, rest_of}
use Rattle.acceptor.specs.declared.event.Event.{Event}
use Rattle.acceptor.specs.declared.event.Event.TheVariants as event
use Rattle.acceptor.specs.declared.effect.Sending.{Sending}
use Rattle.acceptor.specs.Effect.{sending, bytes_sent}
use Rattle.acceptor.specs.Table.{table}
use Rattle.pdu.specs.declared.fault.PduFault.{PduFault}
use Rattle.pdu.specs.Items.{request_record}
use Rattle.engine.specs.Requested as requested
use Rattle.pdu.specs.Record.{RequestRecord}
use Rattle.pdu.specs.Refusal.{request_fault}
use Rattle.pdu.specs.Texts.{reject_text, release_text, abort_text}
use Rattle.pdu.specs.Marks.{Mark, Head, PdvHead, Pdv, BadPdv, Leftover, End, pdv_size, is_leftover, frame_kind, frame_length, new_marks}
use Rattle.pdu.specs.Pdvs.{DataSpot, data_spot}
use Rattle.pdu.specs.Spot.{Spot, Opening, Plain, InPdv, spot, spot_of, room_remaining}
use Rattle.pdu.specs.Parts.{Arrives, IsUnfinishedPdv, in_head, in_fragment, end_mark}
use Rattle.pdu.proofs.Public.{new_nothing, new_then, new_rest, rest_is_rest, unfinished_pdv, head_part, head_done, plain_part, pdv_head_part, pdv_head_bad, pdv_head_done, pdv_head_whole, fragment_part, fragment_done}
use Rattle.negotiate.specs.declared.answer.Answer.{Answer}
use Rattle.negotiate.specs.declared.answer.Answer.TheVariants.{Accept, Reject}
use Rattle.negotiate.specs.declared.proposals.Context.{Context}
use Rattle.negotiate.specs.Accept.{accept_text, longest_accept}
use Rattle.negotiate.proofs.Public.{accepts_short}
use Rattle.negotiate.specs.Answer.{judged}
use Rattle.negotiate.specs.Contexts.{context_of}
use Rattle.negotiate.specs.Rejections.{rejected_transient, service_provider_presentation, local_limit_exceeded}
use Rattle.negotiate.specs.Settings.{Settings}
use Rattle.dimse.specs.declared.fault.DimseFault.{DimseFault}
use Rattle.dimse.specs.Command.{CommandRecord}
use Rattle.dimse.specs.Messages.{Message, Brought, Goes, Ends, Refuses, brought, refusal}
use Rattle.dimse.specs.Joining.{unfinished_of}
use Rattle.dimse.specs.Reading.{command_in}
use Rattle.dimse.proofs.Public.{reply_bounded}
use Rattle.engine.specs.Heads.{HeadEvent, NoEvent, AtOnce, TooLong, abort_reason, head_event, invalid_parameter}
use Rattle.engine.specs.Inputs.{Bytes}
use Rattle.decisions.specs.declared.decision.Decision.{Decision}
use Rattle.decisions.specs.declared.decision.Decision.TheVariants as decision
use Rattle.decisions.specs.declared.head_fault.HeadFault.{HeadFault}
use Rattle.decisions.specs.ValueEnds.{value_end}
use Rattle.pdu.specs.declared.head.PdvHead as declared
use Rattle.dimse.specs.Messages as messages
use Rattle.engine.specs.Progress.{Progress, Advance, decided_at, deciding, deciding_unless_ended, absorb, nothing, followed_by, done, refusing, is_due, is_established}
use Rattle.engine.specs.Replies.{invalid, user_aborts, value_head, aborted_if_refused, command_refused, replied, finding_on, going_on}
use Rattle.engine.specs.Requests.{keeping, accepting, declined, answered, judged_so}
use Rattle.engine.specs.Run.{Rooms, released, at_end, at_mark, at_entry, cut, gives, sent_of}
use Rattle.engine.specs.Timeline.{At, Shut, TimedOut, Aborted, Entry, Finding, Happened, entries}
use Rattle.engine.specs.OutputLaws.{FewMarks, AnswersHave, BoundedOutput, answer_length, FewBytesButAnswers, AnswersAreShort, StoriesAnswerShortly, OutputOfAPiece}
use Rattle.engine.proofs.PiecesAreDone.FramesAndMarks.{more}
use Rattle.engine.proofs.StoresAreKept.DraftAndWalk.{is_long}

-- ---- one byte

few_of : (r c : List ℕ) (ms : List Mark) (s : Spot) → Arrives r c ms s → length ms ≤ 3 → IsRest (r ++ c) ⊎ IsFrame (r ++ c) → length (new_marks r c) ≤ 4
few_of r c ms s arrives few (inl rest) = omega (arith, ap length (arrives.continues rest).marks, few)
few_of r c ms s arrives few (inr frame) = omega (arith, ap length (arrives.ends frame).marks, length-append ms (end_mark (r ++ c) ∷ []), few)

few_remaining : (t : Bool) → length (if t then Leftover ∷ [] else []) ≤ 1
few_remaining t = grind (arith, common_steps)

never_opening : (d : DataSpot) → spot_of d ≡ Opening → ⊥
never_opening d h = grind (arith, common_steps)

in_body : (short is_data : Bool) (d : DataSpot) → short ≡ false → (if short then Opening else (if is_data then spot_of d else Plain)) ≡ Opening → ⊥
in_body true is_data d f e = absurd cc
in_body false true d f e = never_opening d e
in_body false false d f e = absurd cc

headed : (r : List ℕ) → 6 ≤ length r → spot r ≡ Opening → ⊥
unfolding spot
headed r le e = in_body (nat_lt (length r) 6) (nat_eq (frame_kind r) 4) (data_spot (frame_length r) (drop 6 r)) (is_long (length r) le) e

module _ (r : List ℕ) (b : ℕ) (rest : IsRest r) where
  abbrev c : List ℕ
  c = b ∷ []

  one_more : length (r ++ c) ≡ length r + 1
  one_more = length-append r c

  new_head : length (r ++ c) ≡ 6 → IsRest (r ++ c) ⊎ IsFrame (r ++ c)
  new_head six = elim (cases_lt 0 (frame_length (r ++ c))) [
    | inl some ↦ inl (λ le. omega (arith, six, some))
    | inr none ↦ inr (record { headed = omega (arith, six); filled = omega (arith, six, none) })
  ]

  has_room : 6 ≤ length r → 1 ≤ room_remaining r
  has_room le = let short : length r < 6 + frame_length r = rest le in omega (arith, short)

  later : 6 ≤ length r → IsRest (r ++ c) ⊎ IsFrame (r ++ c)
  later le =
      let m = more r c le in
      elim (cases_lt 1 (room_remaining r)) [ inl lt ↦ inl (m.goes lt) | inr ge ↦ inr (m.ends rest (omega (arith, has_room le, ge))) ]

  in_head_of : (part : List ℕ) → 6 ≤ length r → spot r ≡ InPdv part → length part < 6 → length (new_marks r c) ≤ 4
  in_head_of part le e lt =
      let total : length (part ++ c) ≡ length part + 1 = length-append part c in
      elim (cases_lt (length part) 5) [
        | inl short ↦ few_of r c _ _ (pdv_head_part r c part rest e (omega (arith, total, short))) (omega arith) (later le)
        | inr five ↦
            let six : length (part ++ c) ≡ 6 = omega (arith, total, five, lt) in
            elim (cases_lt (big_number 4 (part ++ c)) 2) [
              | inl low ↦ few_of r c _ _ (pdv_head_bad r c part rest e lt six (inl low)) (omega arith) (later le)
              | inr least ↦ elim (cases_lt (room_remaining r + length part) (pdv_size (part ++ c))) [
                | inl big ↦ few_of r c _ _ (pdv_head_bad r c part rest e lt six (inr big)) (omega arith) (later le)
                | inr fits ↦ elim (cases_lt 2 (big_number 4 (part ++ c))) [
                  | inl some ↦ few_of r c _ _ (pdv_head_done r c part rest e lt six some fits) (omega arith) (later le)
                  | inr none ↦ few_of r c _ _ (pdv_head_whole r c part rest e (has_room le) lt six (omega (arith, none, least))) (omega (arith, few_remaining (is_leftover (room_remaining r - 1)))) (later le)
                ]
              ]
            ]
      ]

  in_fragment_of : (part : List ℕ) → 6 ≤ length r → spot r ≡ InPdv part → 6 ≤ length part → length part < pdv_size part → length (new_marks r c) ≤ 4
  in_fragment_of part le e ge short =
      let total : length (part ++ c) ≡ length part + 1 = length-append part c in
      elim (cases_lt (length (part ++ c)) (pdv_size part)) [
        | inl lt ↦ few_of r c _ _ (fragment_part r c part rest e ge lt) (omega arith) (later le)
        | inr full ↦ few_of r c _ _ (fragment_done r c part rest e (has_room le) ge (omega (arith, total, full, short))) (omega (arith, few_remaining (is_leftover (room_remaining r - 1)))) (later le)
      ]

  unfinished : (part : List ℕ) → 6 ≤ length r → spot r ≡ InPdv part → 6 ≤ length part → IsUnfinishedPdv (room_remaining r + length part) part → length (new_marks r c) ≤ 4
  unfinished part le e ge (in_head lt) = absurd (omega (arith, ge, lt))
  unfinished part le e ge (in_fragment h l f short) = in_fragment_of part le e ge short

  by_spot : (sp : Spot) → 6 ≤ length r → spot r ≡ sp → length (new_marks r c) ≤ 4
  by_spot Opening le e = absurd (headed r le e)
  by_spot Plain le e = few_of r c _ _ (plain_part r c rest e) (omega arith) (later le)
  by_spot (InPdv part) le e = elim (cases_lt (length part) 6) [
    | inl lt ↦ in_head_of part le e lt
    | inr ge ↦ unfinished part le e ge (unfinished_pdv r part rest e)
  ]

  one_byte : length (new_marks r c) ≤ 4
  one_byte = elim (cases_lt (length r) 5) [
    | inl lt ↦ omega (arith, ap length (head_part r c (omega (arith, one_more, lt))).marks)
    | inr five ↦ elim (cases_lt (length r) 6) [
      | inl short ↦ let six : length (r ++ c) ≡ 6 = omega (arith, one_more, five, short) in few_of r c _ _ (head_done r c short six) (omega arith) (new_head six)
      | inr le ↦ by_spot (spot r) le refl
    ]
  ]

-- ---- a piece

pub few_marks : FewMarks
few_marks before [] = omega (arith, ap length (new_nothing before))
few_marks before (b ∷ piece) =
    omega (
      arith,
      ap length (new_then before (b ∷ []) piece),
      length-append (new_marks before (b ∷ [])) (new_marks (before ++ b ∷ []) piece),
      ap length (new_rest before (b ∷ [])),
      one_byte (rest_of before) b (rest_is_rest before),
      few_marks (before ++ b ∷ []) piece,
    )

-- ---- what one entry sends

abbrev pub Few : ℕ → Advance → Type 0
Few n g = length g.sent ≤ n

pick : (t : Bool) (a b : Advance) (n : ℕ) → Few n a → Few n b → Few n (if t then a else b)
pick t a b n h k = grind (arith, common_steps)

bytes_few : (answer : List ℕ) (x : Sending) → length (bytes_sent answer release_text abort_text x) ≤ length answer + 10
bytes_few answer x = grind (arith, common_steps)

done_few : (answer : List ℕ) (reason : ℕ) (p : Progress) (e : Event) → Few (length answer + 10) (done answer reason p e)
done_few answer reason p e = bytes_few answer (sending (table p.state e).0 (table p.state e).1 reason)

followed_few : (g : Advance) (f : Progress → Advance) (m n : ℕ) → Few m g → Few n (f g.next) → Few (m + n) (followed_by g f)
followed_few g f m n a b = omega (arith, length-append g.sent (f g.next).sent, a, b)

head_few : (p : Progress) (b d : Decision) (c : HeadFault → Decision) (n : ℕ) (h : HeadEvent) → Few (30 + n) (elim h [
  | NoEvent ↦ nothing (deciding b p)
  | AtOnce e fault ↦ refusing (done [] (abort_reason fault) (deciding (c fault) p) e)
  | TooLong ↦ refusing (done (reject_text rejected_transient service_provider_presentation local_limit_exceeded) 0 (deciding d p) event.UnacceptableRq)
])
head_few p b d c n NoEvent = omega arith
head_few p b d c n (AtOnce e fault) = omega (arith, done_few [] (abort_reason fault) (deciding (c fault) p) e)
head_few p b d c n TooLong = omega (arith, done_few (reject_text rejected_transient service_provider_presentation local_limit_exceeded) 0 (deciding d p) event.UnacceptableRq)

pdv_head_few : (p : Progress) (head : declared.PdvHead) (refused : Option DimseFault) (known : Option Context) → Few 30 (elim known [ None ↦ invalid (deciding (decision.ContextRefused head) p) | Some accepted ↦ aborted_if_refused head refused p ])
pdv_head_few p head refused None = omega (arith, done_few [] invalid_parameter (deciding (decision.ContextRefused head) p) event.Invalid)
pdv_head_few p head None (Some accepted) = omega arith
pdv_head_few p head (Some fault) (Some accepted) = omega (arith, done_few [] 0 (deciding (decision.FragmentRefused head fault (unfinished_of p.message)) p) event.UserAborts)

pdv_few : (p : Progress) (finding : Finding) (pdv : messages.Pdv) (b : Brought) → Few (30 + elim b [ Goes started ↦ 0 | Ends m ↦ length (replied p finding m (command_in m.command)).sent | Refuses fault ↦ 0 ]) (elim b [
  | Goes started ↦ nothing (going_on started p)
  | Ends m ↦ replied p finding m (command_in m.command)
  | Refuses fault ↦ user_aborts (deciding (command_refused p pdv fault) p)
])
pdv_few p finding pdv (Goes started) = omega arith
pdv_few p finding pdv (Ends m) = omega arith
pdv_few p finding pdv (Refuses fault) = omega (arith, done_few [] 0 (deciding (command_refused p pdv fault) p) event.UserAborts)

accepting_few : (p : Progress) (answer : List ℕ) → Few (20 + length answer) (accepting p answer)
accepting_few p answer =
    let first = done [] 0 p event.AcceptableRq in
    omega (arith, followed_few first (λ q. done answer 0 q event.UserAccepts) 10 (length answer + 10) (done_few [] 0 p event.AcceptableRq) (done_few answer 0 first.next event.UserAccepts))

declined_few : (p : Progress) (answer : List ℕ) → Few (20 + length answer) (declined p answer)
declined_few p answer =
    let first = done [] 0 p event.AcceptableRq in
    omega (arith, followed_few first (λ q. done answer 0 q event.UserRefuses) 10 (length answer + 10) (done_few [] 0 p event.AcceptableRq) (done_few answer 0 first.next event.UserRefuses))

answered_few : (s : Settings) (r : RequestRecord) (p : Progress) (a : Answer) → Few (30 + length (accept_text s r)) (answered s r p a)
answered_few s r p Accept = let few = accepting_few p (accept_text s r) in omega (arith, few)
answered_few s r p (Reject result source reason) =
    pick (nat_eq source 2) _ _ _ (omega (arith, done_few (reject_text result source reason) 0 p event.UnacceptableRq)) (omega (arith, declined_few p (reject_text result source reason)))

request_few : (s : Settings) (p : Progress) (body : List ℕ) (a : Answer) (fault : Option PduFault) → Few (30 + elim fault [ None ↦ length (accept_text s (request_record body)) | Some f ↦ 0 ])
    (elim fault [ Some f ↦ done [] invalid_parameter (deciding (decision.RequestInvalid f) p) event.Invalid | None ↦ judged_so s body p a ])
request_few s p body a (Some f) = omega (arith, done_few [] invalid_parameter (deciding (decision.RequestInvalid f) p) event.Invalid)
request_few s p body a None = answered_few s (request_record body) (keeping s body (deciding (decision.RequestJudged a) p)) a

released_few : (p : Progress) → Few 20 (released p)
released_few p =
    let first = done [] 0 p event.ReleaseRq in
    followed_few first (λ q. done [] 0 q event.UserReleases) 10 10 (done_few [] 0 p event.ReleaseRq) (done_few [] 0 first.next event.UserReleases)

end_few : (s : Settings) (p : Progress) (kind : ℕ) (body : List ℕ) → Few (30 + elim (request_fault body) [ None ↦ length (accept_text s (request_record body)) | Some f ↦ 0 ]) (at_end s p kind body)
end_few s p kind body =
    pick (nat_eq kind 7) _ _ _ (omega (arith, done_few [] 0 (deciding_unless_ended decision.Aborted p) event.Abort))
    (pick (nat_eq kind 1 && is_due p.state) _ _ _ (request_few s p body (judged s (request_record body)) (request_fault body))
    (pick (nat_eq kind 5 && is_established p.state) _ _ _ (omega (arith, released_few (deciding decision.Released p))) (omega arith)))

module _ (rooms : Rooms) (s : Settings) where
  mark_few : (q : Progress) (finding : Finding) (mark : Mark) → Few (30 + answer_length s q finding (At mark)) (at_mark rooms s q finding mark)
  mark_few q finding (Head kind n) = head_few q _ _ (λ fault. decided_at q.state q.decided (decision.PduRefused (record { kind = kind; length = n }) fault)) 0 (head_event (rooms.request - 12) s.max_pdu q.state kind n)
  mark_few q finding (PdvHead n context control) = pick (is_established q.state) _ _ _ (pdv_head_few q (value_head n context control) (refusal rooms.command q.message n context control) (context_of (requested.request_record q.request) context)) (omega arith)
  mark_few q finding (Pdv context control fragment) = pick (is_established q.state) _ _ _ (pdv_few q finding (record { context = context; control = control; fragment = fragment }) (brought q.message (record { context = context; control = control; fragment = fragment }))) (omega arith)
  mark_few q finding BadPdv = pick (is_established q.state) _ _ _ (omega (arith, done_few [] invalid_parameter (deciding decision.BadPdv q) event.Invalid)) (omega arith)
  mark_few q finding Leftover = pick (is_established q.state) _ _ _ (omega (arith, done_few [] invalid_parameter (deciding (decision.Leftover (value_end q.decided)) q) event.Invalid)) (omega arith)
  mark_few q finding (End kind body) = end_few s q kind body

  -- the later marks of a refused PDU give nothing
  later_few : (refused : Bool) (p : Progress) (finding : Finding) (mark : Mark) → Few (30 + answer_length s p finding (At mark)) (if refused then nothing p else at_mark rooms s p finding mark)
  later_few true p finding mark = omega arith
  later_few false p finding mark = mark_few p finding mark

  entry_few : (p : Progress) (finding : Finding) (e : Entry) → length (at_entry rooms s p finding e).sent ≤ 30 + answer_length s p finding e
  entry_few p finding (At (Head kind n)) = head_few (record p { refused = false }) _ _ (λ fault. decided_at p.state p.decided (decision.PduRefused (record { kind = kind; length = n }) fault)) 0 (head_event (rooms.request - 12) s.max_pdu p.state kind n)
  entry_few p finding (At (PdvHead n context control)) = later_few p.refused p finding (PdvHead n context control)
  entry_few p finding (At (Pdv context control fragment)) = later_few p.refused p finding (Pdv context control fragment)
  entry_few p finding (At BadPdv) = later_few p.refused p finding BadPdv
  entry_few p finding (At Leftover) = later_few p.refused p finding Leftover
  entry_few p finding (At (End kind body)) = later_few p.refused p finding (End kind body)
  entry_few p finding Shut = omega (arith, done_few [] 0 p event.Closed)
  entry_few p finding TimedOut = omega (arith, done_few [] 0 p event.Expired)
  entry_few p finding Aborted = omega (arith, done_few [] 0 p event.UserAborts)

pub few_bytes_but_answers : FewBytesButAnswers
few_bytes_but_answers rooms s p finding e = entry_few rooms s p finding e

-- ---- what a piece has an association send

pub cut_few : (wire : Option ℕ) (p : Progress) (g : Advance) (n : ℕ) → Few n g → Few n (cut wire p g)
cut_few wire p g n h = grind (arith, common_steps)

pub sent_few : (rooms : Rooms) (s : Settings) (most : ℕ) (p : Progress) (story : List Happened) → AnswersHave rooms s most p story → length (sent_of rooms s p story) ≤ length story * (30 + most)
sent_few rooms s most p [] e = omega arith
sent_few rooms s most p (h ∷ story) e =
    let g = at_entry rooms s (absorb h.1.filing p) h.1.finding h.0 in
    let one : Few (30 + answer_length s (absorb h.1.filing p) h.1.finding h.0) g = entry_few rooms s (absorb h.1.filing p) h.1.finding h.0 in
    let few : length (gives rooms s p h).sent ≤ 30 + most = omega (arith, cut_few h.1.wire p g _ one, e.0) in
    omega (arith, length-append (gives rooms s p h).sent (sent_of rooms s (gives rooms s p h).next story), few, sent_few rooms s most (gives rooms s p h).next story e.1)

entries_few : (before piece : List ℕ) → length (entries before (Bytes piece ∷ [])) ≤ 4 * length piece
entries_few before piece = omega (arith, ap length (append-nil (map At (new_marks before piece))), length-map (new_marks before piece) At, few_marks before piece)

pub bounded_output : BoundedOutput
bounded_output rooms s p story before piece most reported each =
    let few : length story ≤ 4 * length piece = omega (arith, length-map story (λ (h : Happened). h.0), ap length reported, entries_few before piece) in
    omega (arith, sent_few rooms s most p story each, mul-le (length story) (30 + most) (4 * length piece) (30 + most) few (omega arith))

-- ---- answers are short

requested_short : (s : Settings) (body : List ℕ) (fault : Option PduFault) → request_fault body ≡ fault → IsBytes body → (elim fault [ None ↦ length (accept_text s (request_record body)) | Some f ↦ 0 ]) ≤ longest_accept
requested_short s body None e bytes = accepts_short s body bytes e
requested_short s body (Some f) e bytes = omega arith

replied_short : (p : Progress) (finding : Finding) (m : Message) (read : Result CommandRecord DimseFault) → command_in m.command ≡ read → length (replied p finding m read).sent ≤ longest_accept
replied_short p finding m (Err fault) e = omega arith
replied_short p finding m (Ok command) e =
    let r = requested.request_record p.request in
    let f = finding_on (context_of r m.context) command finding in
    omega (arith, reply_bounded m.command command f.status f.detail m.context r.maximum e)

brought_short : (p : Progress) (finding : Finding) (b : Brought) → (elim b [ Goes started ↦ 0 | Ends m ↦ length (replied p finding m (command_in m.command)).sent | Refuses fault ↦ 0 ]) ≤ longest_accept
brought_short p finding (Goes started) = omega arith
brought_short p finding (Ends m) = replied_short p finding m (command_in m.command) refl
brought_short p finding (Refuses fault) = omega arith

pub answers_are_short : AnswersAreShort
answers_are_short s p finding (At (End kind body)) bytes = requested_short s body (request_fault body) refl bytes
answers_are_short s p finding (At (Pdv context control fragment)) bytes = brought_short p finding (brought p.message (record { context = context; control = control; fragment = fragment }))
answers_are_short s p finding (At (Head kind n)) bytes = omega arith
answers_are_short s p finding (At (PdvHead n context control)) bytes = omega arith
answers_are_short s p finding (At BadPdv) bytes = omega arith
answers_are_short s p finding (At Leftover) bytes = omega arith
answers_are_short s p finding Shut bytes = omega arith
answers_are_short s p finding TimedOut bytes = omega arith
answers_are_short s p finding Aborted bytes = omega arith

pub stories_answer_shortly : StoriesAnswerShortly
stories_answer_shortly rooms s p [] each = tt
stories_answer_shortly rooms s p (h ∷ story) each =
    (answers_are_short s (absorb h.1.filing p) h.1.finding h.0 each.0, stories_answer_shortly rooms s (gives rooms s p h).next story each.1)

pub output_of_a_piece : OutputOfAPiece
output_of_a_piece rooms s p story before piece reported each =
    omega (arith, bounded_output rooms s p story before piece longest_accept reported (stories_answer_shortly rooms s p story each))
