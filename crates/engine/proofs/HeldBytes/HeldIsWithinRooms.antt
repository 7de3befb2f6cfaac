-- No more bytes are held than the limits have room for, wherever a timeline has led (`held_is_within_rooms`). Stands on
-- FitsTheRooms, HeldIsExact, AlongTimelines/HeadsAreFirst and the laws of `pdu` and `sequence`.
use Rattle.std.proofs.Common.{◌≡◌, ℕ, ◌+◌, ◌-◌, ◌*◌, ◌<◌, ◌≤◌, Bool, true, false, not, ◌&&◌, List, [], ◌∷◌, length, take, drop, get_or, zero, suc, None, refl, sym, ap, subst, ◌∙◌, arith, lit<, nat_eq, nat_lt, ltb-true, ltb-false, length-drop, get_or-drop, if◌then◌else◌}
use Rattle.std.proofs.lemmas.Bool.{lt-ltb, le-ltb}
use Rattle.acceptor.specs.declared.state.State.TheVariants.{Sta6}
use Rattle.byteorder.specs.Endian.{big_number}
use Rattle.element.specs.Numbers.{IsBytes}
use Rattle.sequence.specs.Transfer.{coding_in}
use Rattle.sequence.specs.declared.coding.Coding.{Coding}
use Rattle.pdu.specs.Frames.{IsRest, rest_of}
use Rattle.pdu.specs.Marks.{frame_kind, frame_length}
use Rattle.pdu.specs.Parts.{IsUnfinishedPdv, in_head, in_fragment}
use Rattle.pdu.specs.Spot.{Spot, Opening, Plain, InPdv, spot, room_remaining}
use Rattle.pdu.proofs.Public.{rest_is_rest, spot_opening, unfinished_pdv}
use Rattle.negotiate.specs.ContextRows.{accepted_count}
use Rattle.negotiate.specs.Settings.{Settings}
use Rattle.dimse.specs.Joining.{with_pdv}
use Rattle.dimse.specs.Messages.{Started, refusal, with_fragment}
use Rattle.sequence.specs.Rules.{Limits}
use Rattle.sequence.specs.Walk.{Reports, going}
use Rattle.sequence.specs.Walk as walk
use Rattle.sequence.specs.Wanted.{rooms}
use Rattle.sequence.proofs.Public.{held_has_a_bound}
use Rattle.engine.specs.Held.{is_ended, unfinished, of_request, of_command, held_before_data, IsHeldOfSet, unbroken, faulty, IsHeldOfMessage, not_walked, walked, Held}
use Rattle.engine.specs.HeldLaws.{IsWithinRooms, HeldIsWithinRooms}
use Rattle.engine.specs.Inputs.{stream_of}
use Rattle.engine.specs.Progress.{Progress, at_start, is_due, is_established}
use Rattle.engine.specs.Reached.{Reached, reached, started_in, accepts_pdvs, started_pdv, message_so_far}
use Rattle.engine.specs.Requested.{Requested, request_record}
use Rattle.engine.specs.Run.{Rooms, progress_of}
use Rattle.engine.specs.Stores.{limits, wanted}
use Rattle.engine.specs.Timeline.{Entry, entries_of}
use Rattle.engine.proofs.AlongTimelines.HeadsAreFirst.{Opened, Between, OfPdu, OfPdv, IsStarted, HoldsOfParts, AreHeadedAt, open_at_end, timeline_headed, timeline_started}
use Rattle.engine.proofs.HeldBytes.FitsTheRooms.{Fits, HasRoom, set_of, MessageFits, fragment_within, absorbed_fits, story_fits}
use Rattle.engine.proofs.HeldBytes.HeldIsExact.{unfinished_none}

pub bytes_parts : HoldsOfParts IsBytes
bytes_parts = record { accepts = accepts; drops = λ n xs h i. rw get_or-drop (h (n + i)) }
  where
    accepts : (n : ℕ) (xs : List ℕ) → IsBytes xs → IsBytes (take n xs)
    accepts zero xs h i = lit< tt
    accepts (suc n) [] h i = lit< tt
    accepts (suc n) (x ∷ xs) h zero = h zero
    accepts (suc n) (x ∷ xs) h (suc i) = accepts n xs (λ j. h (suc j)) i

-- ---- heads

few : (xs : List ℕ) → unfinished xs ≤ 5
few xs = by (nat_lt (length xs) 6) refl
  where
    by : (b : Bool) → nat_lt (length xs) 6 ≡ b → (if b then length xs else 0) ≤ 5
    by true e = let lt = ltb-true (length xs) 6 e in omega (arith, lt)
    by false e = omega arith

-- of the two heads one at most is unfinished
few_heads : (r : Reached) → unfinished r.rest + unfinished (started_pdv r) ≤ 5
few_heads r = by (nat_lt (length r.rest) 6) refl
  where
    by : (b : Bool) → nat_lt (length r.rest) 6 ≡ b → (if b then length r.rest else 0) + unfinished (started_pdv r) ≤ 5
    by true e =
        let lt = ltb-true (length r.rest) 6 e in
        let no_pdv : unfinished (started_pdv r) ≡ 0 = ap (λ (x : Spot). unfinished (if accepts_pdvs r.progress then started_in x else [])) (spot_opening r.rest lt) ∙ unfinished_none (accepts_pdvs r.progress) in
        omega (arith, lt, no_pdv)
    by false e = omega (arith, few (started_pdv r))

-- ---- the request

module _ (limit : Rooms) (o : Opened) where
  request_within : (p : Progress) (rest : List ℕ) → 256 ≤ limit.request → Fits limit p o → IsStarted IsBytes rest o → IsRest rest → of_request p rest + 12 ≤ limit.request
  request_within p rest least h k partial = by (is_due p.state) refl
    where
      body : (refused one : Bool) → is_due p.state ≡ true → p.refused ≡ refused → nat_eq (frame_kind rest) 1 ≡ one → (if not refused && one then length rest - 6 else 0) + 12 ≤ limit.request
      body true one due r is = omega (arith, least)
      body false false due r is = omega (arith, least)
      body false true due r is = headed (nat_lt (length rest) 6) refl
        where
          headed : (b : Bool) → nat_lt (length rest) 6 ≡ b → length rest - 6 + 12 ≤ limit.request
          headed true e = let lt = ltb-true (length rest) 6 e in omega (arith, lt, least)
          headed false e =
              let six : 6 ≤ length rest = ltb-false (length rest) 6 e in
              let room : HasRoom limit p (OfPdu (frame_kind rest) (frame_length rest)) = subst (HasRoom limit p) (k.request six is) h.room in
              let fits : frame_length rest ≤ limit.request - 12 = room due r is in
              let short : length rest < 6 + frame_length rest = partial six in
              omega (arith, least, six, fits, short)

      accepted : (b : Bool) → is_established p.state ≡ b → (if b then (20 + 4 * accepted_count (request_record p.request)) else 0) + 12 ≤ limit.request
      accepted true e = let rows = (h.agreed e).rows in omega (arith, rows)
      accepted false e = omega (arith, least)

      by : (b : Bool) → is_due p.state ≡ b → (if b then (if not p.refused && nat_eq (frame_kind rest) 1 then length rest - 6 else 0) else (if is_established p.state then (20 + 4 * accepted_count (request_record p.request)) else 0)) + 12 ≤ limit.request
      by true e = body p.refused (nat_eq (frame_kind rest) 1) e refl refl
      by false e = accepted (is_established p.state) refl

  accepted_within : (p : Progress) (rest : List ℕ) → Fits limit p o → p.state ≡ Sta6 → of_request p rest ≤ 532
  accepted_within p rest h six =
      let count = (h.agreed (ap is_established six)).contexts in
      let is : of_request p rest ≡ 20 + 4 * accepted_count (request_record p.request) = rw six refl in
      omega (arith, is, count)

  -- ---- the message

  pdv_within : (p : Progress) (room : ℕ) (part : List ℕ) → Fits limit p o → accepts_pdvs p ≡ true → IsUnfinishedPdv room part → IsBytes part × (6 ≤ length part → o ≡ OfPdv (big_number 4 part) (get_or part 4 0) (get_or part 5 0)) → MessageFits limit (with_pdv part p.message)
  pdv_within p room part h accepts (in_head lt) k = subst (λ (b : Bool). MessageFits limit (if b then p.message else with_fragment (get_or part 4 0) (drop 6 part) p.message)) (sym (lt-ltb (length part) 6 lt)) (h.command, h.bytes)
  pdv_within p room part h accepts (in_fragment six two enough short) k =
      let n = big_number 4 part in
      let size : n - 2 + 2 ≡ n = omega (arith, two) in
      let has : HasRoom limit p (OfPdv n (get_or part 4 0) (get_or part 5 0)) = subst (HasRoom limit p) (k.1 six) h.room in
      let none : refusal limit.command p.message (n - 2 + 2) (get_or part 4 0) (get_or part 5 0) ≡ None = subst (λ (x : ℕ). refusal limit.command p.message x (get_or part 4 0) (get_or part 5 0) ≡ None) (sym size) (has accepts) in
      let few : length (drop 6 part) ≤ n - 2 = omega (arith, length-drop 6 part, short, two) in
      subst (λ (b : Bool). MessageFits limit (if b then p.message else with_fragment (get_or part 4 0) (drop 6 part) p.message)) (sym (le-ltb (length part) 6 six))
      (fragment_within limit p.message (n - 2) (get_or part 4 0) (get_or part 5 0) (drop 6 part) none few (bytes_parts.drops 6 part k.0) (h.command, h.bytes))

  message_within : (r : Reached) → Fits limit r.progress o → IsStarted IsBytes r.rest o → IsRest r.rest → MessageFits limit (message_so_far r)
  message_within r h k partial = by (accepts_pdvs r.progress) refl
    where
      spotted : (x : Spot) → spot r.rest ≡ x → accepts_pdvs r.progress ≡ true → MessageFits limit (with_pdv (started_in x) r.progress.message)
      spotted Opening e accepts = (h.command, h.bytes)
      spotted Plain e accepts = (h.command, h.bytes)
      spotted (InPdv part) e accepts = pdv_within r.progress (room_remaining r.rest + length part) part h accepts (unfinished_pdv r.rest part partial e) (k.pdv part e)

      by : (b : Bool) → accepts_pdvs r.progress ≡ b → MessageFits limit (with_pdv (if b then started_in (spot r.rest) else []) r.progress.message)
      by true accepts = spotted (spot r.rest) refl accepts
      by false accepts = (h.command, h.bytes)

-- ---- the data set

set_within : (syntax : Coding) (lim : Limits) (set : List ℕ) (n : ℕ) → IsBytes set → IsHeldOfSet syntax lim set n → n ≤ 12 + rooms lim.wanted + 16 * lim.depth
set_within syntax lim set n bytes (unbroken whole front) = held_has_a_bound syntax lim set _ bytes (going whole front)
set_within syntax lim set n bytes (faulty fault front) = held_has_a_bound syntax lim set _ bytes (walk.refused fault front)

data_within : (limit : Rooms) (s : Settings) (request : Requested) (received : Started) (n : ℕ) → 140 ≤ limit.values → IsBytes (set_of received) → IsHeldOfMessage limit s request received n → n ≤ limit.values + 16 * limit.depth
data_within limit s request received n least bytes (walked store held) =
    let own : IsBytes store.set = subst (λ (b : Started). IsBytes (set_of b)) store.started bytes in
    let all : rooms wanted ≡ 128 = refl in
    omega (arith, least, all, set_within (coding_in store.context.syntax) (limits limit.depth s.max_data) store.set n own held)
data_within limit s request received n least bytes (not_walked none) = omega arith

-- ---- all of it

module _ (limit : Rooms) (s : Settings) (r : Reached) (o : Opened) (n : ℕ) (least : 256 ≤ limit.request) (least_kept : 140 ≤ limit.values) (h : Fits limit r.progress o) (k : IsStarted IsBytes r.rest o) (partial : IsRest r.rest) (held : Held limit s r n) where
  of_message : MessageFits limit (message_so_far r)
  of_message = message_within limit o r h k partial

  of_data : held.of_set ≤ limit.values + 16 * limit.depth
  of_data = data_within limit s r.progress.request (message_so_far r) held.of_set least_kept of_message.1 held.walked

  before : (request : ℕ) → of_request r.progress r.rest ≤ request → held_before_data r ≤ 5 + request + limit.command
  before request le = by (is_ended r.progress.state)
    where
      by : (b : Bool) → (if b then 0 else (unfinished r.rest + unfinished (started_pdv r) + of_request r.progress r.rest + of_command (message_so_far r))) ≤ 5 + request + limit.command
      by true = omega arith
      by false = omega (arith, few_heads r, le, of_message.0)

  pub reached_within : IsWithinRooms limit r.progress.state n
  reached_within =
      let request = request_within limit o r.progress r.rest least h k partial in
      record {
        all = omega (arith, least, held.sum, of_data, request, before (limit.request - 12) (omega (arith, least, request)));
        accepted = λ six. omega (arith, held.sum, of_data, before 532 (accepted_within limit o r.progress r.rest h six));
      }

pub held_is_within_rooms : HeldIsWithinRooms
held_is_within_rooms limit s inputs story failed n least least_kept bytes reported held =
    let start : Fits limit at_start Between = record { command = omega arith; bytes = λ i. lit< tt; agreed = λ e. absurd cc; room = tt } in
    let headed : AreHeadedAt IsBytes Between (entries_of story) = subst (AreHeadedAt IsBytes Between) (sym reported) (timeline_headed IsBytes bytes_parts inputs bytes) in
    let o = open_at_end Between (entries_of story) in
    let fits : Fits limit (progress_of limit s at_start story) o = story_fits limit s at_start Between story start headed in
    let started : IsStarted IsBytes (rest_of (stream_of inputs)) o =
    subst (λ (es : List Entry). IsStarted IsBytes (rest_of (stream_of inputs)) (open_at_end Between es)) (sym reported) (timeline_started IsBytes bytes_parts inputs bytes) in
    reached_within limit s (reached limit s inputs story failed) o n least least_kept (absorbed_fits limit failed (progress_of limit s at_start story) o fits) started (rest_is_rest (stream_of inputs)) held
