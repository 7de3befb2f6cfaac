-- The effect of a call that handles an event of the stream, and how many bytes must fit before and do fit after it.
use Rattle.std.specs.Prelude.{◌≡◌, ℕ, ◌+◌, ◌-◌, ◌≤◌, Bool, List, [], ◌++◌, length}
use Rattle.pdu.specs.declared.event.Event.{Event}
use Rattle.pdu.specs.declared.head.PdvHead.{PdvHead}
use Rattle.pdu.specs.declared.event.Event.TheVariants as event
use Rattle.pdu.specs.Heads.{pdv_head_of}
use Rattle.pdu.specs.Sizes.{pdv_head_size, pdv_least}
use Rattle.pdu.specs.Marks.{Head, Pdv, BadPdv, Leftover, End, head_mark, pdv_context, pdv_control, pdv_content, pdv_size}
use Rattle.acceptor.specs.declared.event.Event as acceptor
use Rattle.acceptor.specs.declared.event.Event.TheVariants as happened
use Rattle.negotiate.specs.Settings.{Settings}
use Rattle.engine.specs.Inputs.{Received, Close, Expiry, UserAbort}
use Rattle.engine.specs.Timeline.{Entry, Happened, At, Shut, TimedOut, Aborted}
use Rattle.engine.specs.Progress.{Progress}
use Rattle.engine.specs.Devices.{Devices}
use Rattle.part10.specs.Store.{Store}
use Rattle.engine.specs.Run.{Rooms}
use Rattle.engine.specs.Kept.{Kept, Pends, body_in}
use Rattle.engine.specs.FrameFields.{Fields}
use Rattle.engine.specs.Stands.{Stands}
use Rattle.engine.specs.Moves.{Moved}
use Rattle.engine.specs.machine.Capacity.{BodyFits, FragmentFits}
use Rattle.engine.specs.machine.Does.{Does, Appends}

-- the head of a PDU, of this type and length
abbrev pub AcceptsHead : Rooms → Settings → Kept → Kept → ℕ → ℕ → Devices → Devices → Type 0
AcceptsHead rooms s old new kind size d e = (p : Progress) → Pends old d.store p [] [] → Does rooms s p (At (Head kind size)) new [] [] d e

-- a part of the body of a PDU of this type
abbrev pub AcceptsBody : Kept → Kept → ℕ → List ℕ → Store → Type 0
AcceptsBody old new kind part store = (p : Progress) (body : List ℕ) → Pends old store p (body_in kind body) [] → Pends new store p (body_in kind (body ++ part)) []

-- the head of a presentation data value
abbrev pub AcceptsPdvHead : Rooms → Settings → Kept → Kept → PdvHead → Devices → Devices → Type 0
AcceptsPdvHead rooms s old new head d e = (p : Progress) (started : List ℕ) → length started ≡ pdv_head_size → head ≡ pdv_head_of started
    → Pends old d.store p [] [] → Does rooms s p (At (head_mark started)) new [] started d e

-- a part of a fragment
abbrev pub AcceptsFragment : Rooms → Settings → Kept → Kept → List ℕ → Devices → Devices → Type 0
AcceptsFragment rooms s old new part d e = (p : Progress) (started : List ℕ) → pdv_head_size ≤ length started → Pends old d.store p [] started → Appends rooms s p new [] (started ++ part) d e

-- the end of a presentation data value
abbrev pub AcceptsPdvEnd : Rooms → Settings → Kept → Kept → Devices → Devices → Type 0
AcceptsPdvEnd rooms s old new d e = (p : Progress) (started : List ℕ) → pdv_head_size ≤ length started → length started ≡ pdv_size started → Pends old d.store p [] started
    → Does rooms s p (At (Pdv (pdv_context started) (pdv_control started) (pdv_content started))) new [] [] d e

-- the end of a PDU of this type
abbrev pub AcceptsEnd : Rooms → Settings → Kept → Kept → ℕ → Devices → Devices → Type 0
AcceptsEnd rooms s old new kind d e = (p : Progress) (body : List ℕ) → Pends old d.store p (body_in kind body) [] → Does rooms s p (At (End kind body)) new [] [] d e

-- the effect of a call for each event; `kind` is the type of the unfinished PDU
abbrev pub Accepts : Rooms → Settings → Kept → Kept → ℕ → Event → Devices → Devices → Type 0
Accepts rooms s old new kind (event.PduHead head) d e = AcceptsHead rooms s old new head.kind head.length d e
Accepts rooms s old new kind (event.Body part) d e = (e ≡ d) × AcceptsBody old new kind part.now d.store
Accepts rooms s old new kind (event.PdvHead head) d e = AcceptsPdvHead rooms s old new head d e
Accepts rooms s old new kind (event.Fragment part) d e = AcceptsFragment rooms s old new part.now d e
Accepts rooms s old new kind event.PdvEnd d e = AcceptsPdvEnd rooms s old new d e
Accepts rooms s old new kind event.BadPdv d e = (p : Progress) → Pends old d.store p [] [] → Does rooms s p (At BadPdv) new [] [] d e
Accepts rooms s old new kind event.Leftover d e = (p : Progress) → Pends old d.store p [] [] → Does rooms s p (At Leftover) new [] [] d e
Accepts rooms s old new kind (event.PduEnd whole) d e = AcceptsEnd rooms s old new whole d e

abbrev pub HasRoom : ℕ → Kept → ℕ → Event → Type 0
HasRoom room kept kind (event.Body part) = BodyFits room kept kind (length part.now)
HasRoom room kept kind (event.PdvHead head) = pdv_least ≤ head.length
HasRoom room kept kind (event.Fragment part) = FragmentFits kept (length part.now)
HasRoom room kept kind other = Unit {0}

abbrev pub LeavesRoom : ℕ → Kept → Kept → ℕ → Event → Type 0
LeavesRoom room old new kind (event.PduHead head) = BodyFits room new head.kind head.length
LeavesRoom room old new kind (event.Body part) = (m : ℕ) → BodyFits room old kind (length part.now + m) → BodyFits room new kind m
LeavesRoom room old new kind (event.PdvHead head) = FragmentFits new (head.length - pdv_least)
LeavesRoom room old new kind (event.Fragment part) = (m : ℕ) → FragmentFits old (length part.now + m) → FragmentFits new m
LeavesRoom room old new kind other = Unit {0}

-- an event that is not of the stream, with its input and its entry
pub data Outside : acceptor.Event → Received → Entry → Type 0 where
  closed : Outside happened.Closed Close Shut
  expired : Outside happened.Expired Expiry TimedOut
  aborted : Outside happened.UserAborts UserAbort Aborted

-- the effect of the input of such an event
abbrev pub MovesOutside : Rooms → Settings → acceptor.Event → Fields → Fields → Devices → Devices → Type 0
MovesOutside rooms s event old new d e = (input : Received) (entry : Entry) → Outside event input entry → (inputs : List Received) (story : List Happened) (failed : Bool)
    → Stands rooms s inputs story failed old d.store → Moved rooms s inputs story failed input old new d e
