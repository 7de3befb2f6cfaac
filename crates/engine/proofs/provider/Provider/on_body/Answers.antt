-- Where the body is kept the part is, and else nothing changes.
use Rattle.std.proofs.Common.{◌&&◌, Bool, not, nat_eq, ap, refl}
use Rattle.engine.specs.Kept.{kept_of}
use Rattle.engine.proofs.MarksAreDone.BodyPart.{pends_consumed, pends_unconsumed, fits_unconsumed}
use Rattle.engine.proofs.FieldsShow.KeptInPhases.{refused_body, other_body, consumed_body, kept_with, unawaited}
use Rattle.engine.proofs.provider.Provider.on_body.Goals as goal
use Rattle.engine.proofs.provider.Provider.on_body.Goals.{then-self-via-then-self, then-self-via-else-self+then-kind-ne-A_ASSOCIATE_RQ}

pub returns-then-self-clause-pends : goal.returns-then-self-clause-pends
returns-then-self-clause-pends g c = λ store p body h.
    let k = kept_of c.args.self.now in
    elim c.then-self.branch [
      | then-self-via-then-self w ↦ pends_unconsumed k store p c.args.kind body c.args.part.now (refused_body k c.args.kind w.if-self.true) h
      | then-self-via-else-self+then-kind-ne-A_ASSOCIATE_RQ w ↦ pends_unconsumed k store p c.args.kind body c.args.part.now (other_body k c.args.kind w.if-kind-ne-A_ASSOCIATE_RQ.true) h
    ]

pub returns-in-AwaitingRequest-clause-pends : goal.returns-in-AwaitingRequest-clause-pends
returns-in-AwaitingRequest-clause-pends g c =
    let k = kept_with c.args.self.now c.in-AwaitingRequest.body in
    let more = rw c.unwrap.ensures at c.try_extend_from_slice.ensures.ok in
    rw c.in-AwaitingRequest.is (λ store p body h. pends_consumed k store p c.args.kind body c.args.part.now _ (consumed_body c.args.self.now.refused c.args.kind c.if-self.false c.if-kind-ne-A_ASSOCIATE_RQ.false) more h)

pub returns-in_default : goal.returns-in_default
returns-in_default g c =
    let k = kept_of c.args.self.now in
    record {
      settings = refl;
      storing = refl;
      fits = λ m h. fits_unconsumed _ k c.args.kind m _ h;
      pends = λ store p body h. pends_unconsumed k store p c.args.kind body c.args.part.now (ap (λ (t : Bool). t && (not k.refused && nat_eq c.args.kind 1)) (unawaited c.args.self.now.phase c.in_default.not-AwaitingRequest)) h;
    }
