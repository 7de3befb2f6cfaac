use Rattle.std.proofs.Common.{◌≡◌, ◌-◌, length, take, arith, true, None, Some}
use Rattle.std.proofs.lemmas.List.{length-take}
use Rattle.pdu.specs.Deframed.{position_of}
use Rattle.pdu.specs.Steps.{Steps}
use Rattle.engine.specs.Kept.{kept_of, settings_in}
use Rattle.engine.specs.Run.{rooms_of}
use Rattle.engine.specs.machine.Shows.{Handles}
use Rattle.engine.specs.FrameFields.{reads, skips}
use Rattle.engine.proofs.PiecesAreDone.EventShape.{shaped, has_room, room_still, room_after}
use Rattle.engine.proofs.PiecesAreDone.EventIsDone.{handled_none, handled_event}
use Rattle.engine.proofs.PiecesAreDone.SkippedPdu.{heads_still, heads_passed, room_passed, passed_none, passed_event, handled_passed}
use Rattle.engine.proofs.AssociationSize.{provider_small}
use Rattle.engine.proofs.association.Association.take_event.Goals as goal

pub invariant_of-self : goal.invariant_of-self
invariant_of-self g c =
    let was = c.args.self.now in
    let n = c.next-count.result.0 in
    let q = position_of was.deframer in
    let new = position_of c.next-count.new.self in
    let steps : Steps q n (take n c.args.piece.now) None new = rw c.in_default.is at c.next-count.ensures.steps in
    let fits = room_still (g.row.A - 12) (kept_of was.provider) q n (take n c.args.piece.now) new steps (was.body_fits, was.fragment_fits) in
    record { body_fits = fits.0; fragment_fits = fits.1; headless = λ t. heads_still q n (take n c.args.piece.now) new steps (was.headless t) }

pub returns-in_default-clause-does : goal.returns-in_default-clause-does
returns-in_default-clause-does g c p r due h =
    let was = c.args.self.now in
    let n = c.next-count.result.0 in
    let part = take n c.args.piece.now in
    let q = position_of was.deframer in
    let new = position_of c.next-count.new.self in
    let size : length part ≡ n = omega (arith, length-take n c.args.piece.now, c.next-count.ensures.within) in
    let steps : Steps q n part None new = rw c.in_default.is at c.next-count.ensures.steps in
    elim h.is_at [
      | reads a ↦ handled_none _ _ q new n part _ p r due _ size steps a (rw c.in_default.is at (c.next-count.ensures.consumes r due a)) h
      | skips x u none ↦ passed_none _ _ q new part _ p r due _ x u none (rw c.in_default.is at (c.next-count.ensures.skipped r x)) h.body h.started h.pending h.pends
    ]

pub invariant_of-self-2 : goal.invariant_of-self-2
invariant_of-self-2 g c =
    let was = c.args.self.now in
    let n = c.next-count.result.0 in
    let part = take n c.args.piece.now in
    let q = position_of was.deframer in
    let new = position_of c.next-count.new.self in
    let size : length part ≡ n = omega (arith, length-take n c.args.piece.now, c.next-count.ensures.within) in
    let steps : Steps q n part (Some c.in-Some.event) new = rw c.in-Some.is at c.next-count.ensures.steps in
    let leaves = rw c.kind-kind.ensures at c.on_event.ensures.room in
    let fits = room_after (g.row.A - 12) (kept_of was.provider) (kept_of c.on_event.new.self) q n part c.in-Some.event new size (shaped q n part c.in-Some.event new steps) (was.body_fits, was.fragment_fits) leaves in
    let k = kept_of c.on_event.new.self in
    let room = room_passed (g.row.A - 12) k new fits in
    rw c.skip_uncounted.ensures.passes (record { body_fits = room.0; fragment_fits = room.1; headless = heads_passed k new })

pub returns-clause-does : goal.returns-clause-does
returns-clause-does g c p r due h =
    let was = c.args.self.now in
    let n = c.next-count.result.0 in
    let part = take n c.args.piece.now in
    let q = position_of was.deframer in
    let new = position_of c.next-count.new.self in
    let size : length part ≡ n = omega (arith, length-take n c.args.piece.now, c.next-count.ensures.within) in
    let steps : Steps q n part (Some c.in-Some.event) new = rw c.in-Some.is at c.next-count.ensures.steps in
    let accepts = rw c.kind-kind.ensures at c.on_event.ensures.accepts in
    let handled : Handles (rooms_of g.row.A g.row.C g.row.V g.row.D) (settings_in was.provider) (record { position = new; kept = kept_of c.on_event.new.self }) p r due part true _ _ = elim h.is_at [
      | reads a ↦ handled_event _ _ q new n part c.in-Some.event _ _ p r due _ _ size (shaped q n part c.in-Some.event new steps) a (rw c.in-Some.is at (c.next-count.ensures.consumes r due a)) accepts h
      | skips x u none ↦ passed_event _ _ q new part c.in-Some.event _ _ p r due _ _ x u none (rw c.in-Some.is at (c.next-count.ensures.skipped r x)) accepts h.body h.started h.pending h.pends
    ] in
    rw c.skip_uncounted.ensures.passes (handled_passed _ _ new (kept_of c.on_event.new.self) p r due part true _ _ handled)

pub skip_uncounted-requires : goal.skip_uncounted-requires
skip_uncounted-requires g c = provider_small c.args.self.now.provider

pub on_event-requires : goal.on_event-requires
on_event-requires g c =
    let was = c.args.self.now in
    let n = c.next-count.result.0 in
    let part = take n c.args.piece.now in
    let q = position_of was.deframer in
    let new = position_of c.next-count.new.self in
    let size : length part ≡ n = omega (arith, length-take n c.args.piece.now, c.next-count.ensures.within) in
    let steps : Steps q n part (Some c.in-Some.event) new = rw c.in-Some.is at c.next-count.ensures.steps in (
      provider_small was.provider,
      (
        c.requires.draft,
        rw c.kind-kind.ensures (has_room (g.row.A - 12) (kept_of was.provider) q n part c.in-Some.event new size (shaped q n part c.in-Some.event new steps) (was.body_fits, was.fragment_fits)),
      ),
    )
