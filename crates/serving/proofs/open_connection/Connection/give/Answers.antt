-- One input more, which has no bytes.
use Rattle.std.proofs.Common.{[], ◌∷◌, ◌++◌, ◌∙◌, ap, refl, subst, sym}
use Rattle.std.proofs.Math.Logic.{∥∥₁_map}
use Rattle.element.specs.Numbers.{IsBytes}
use Rattle.engine.specs.declared.source.Input.{Input}
use Rattle.engine.specs.Inputs.{input_of, inputs_of}
use Rattle.serving.proofs.AskedForAReason.{asked_for_a_reason, asked_once, still_unasked}
use Rattle.serving.proofs.EachPieceIsReported.{reported_without}
use Rattle.serving.proofs.InputsAddTheirPieces.{inputs_more}
use Rattle.serving.proofs.SentIsSettledFirst.{sent_before}
use Rattle.serving.proofs.ConsumedInputsAreARun.{Keeps, keeps_closed, keeps_other, keeps_spare}
use Rattle.serving.proofs.InputsAreTimed.{asked_more, asked_same, due_now, follows_state, hears_none, none_asked, own_more, own_same, timed_more}
use Rattle.serving.specs.Own.{own_of}
use Rattle.serving.specs.declared.moment.Moment.{Moment}
use Rattle.serving.proofs.open_connection.Connection.give.Goals as goal

pub invariant_of-self : goal.invariant_of-self
invariant_of-self g c =
    let was = c.args.self.now in
    let moment : Moment = record { is_asked = c.args.is_asked; remaining = c.of-remaining.result; now = c.args.now } in
    let before : Keeps _ _ _ _ _ _ _ _ _ = record { never = was.never; fits = was.fits; whole = refl; consumed = was.consumed } in
    let k = keeps_other _ _ _ _ _ _ _ _ _ _ _ _ _ _ _ _ _ c.take.ensures.settings c.push.ensures c.requires.open c.take.new.wire.full c.take.ensures.moved before c.requires.no_piece c.requires.room in
    record {
      there = c.take.ensures.draft;
      never = k.never;
      fits = k.fits;
      spare = λ none. let e = none_asked _ _ moment c.push-2.ensures none in
          keeps_spare _ _ _ _ _ _ _ _ _ _ _ _ _ _ _ _ _ c.take.ensures.settings c.push.ensures c.requires.open c.take.new.wire.full c.take.ensures.moved before c.requires.no_piece (λ is. c.requires.nothing_waits is e.1) (was.spare e.0);
      bytes = subst IsBytes (sym k.whole) was.bytes;
      followed = rw (← c.deref.ensures) (c.follow.ensures.state ∙ c.state.ensures);
      whole = rw k.whole was.whole;
      heard = reported_without _ _ _ _ _ c.requires.no_piece c.push.ensures was.heard;
      consumed = k.consumed;
      sent = ∥∥₁_map was.sent (λ h. sent_before _ _ _ _ _ _ _ _ _ c.take.ensures.settings c.push.ensures h);
      rested = was.rested;
      timed = ∥∥₁_map was.timed (λ h. rw (c.push.ensures, inputs_more was.given.named c.args.input [], c.push-2.ensures)
          (timed_more was.initial.value (inputs_of was.given.named) was.moments was.deadlines c.follow.new.self (input_of c.args.input []) moment c.of-remaining.ensures
          (due_now c.args.input was.deadlines c.follow.new.self moment c.requires.no_piece c.of-remaining.ensures c.follow.ensures.lasting.1 c.follow.ensures.same_peer c.requires.expired c.requires.silent)
          (follows_state _ _ _ _ _ c.follow.ensures.stays c.follow.ensures.state c.follow.ensures.anew c.follow.ensures.lasting c.follow.ensures.since (hears_none c.args.input _ _ _ c.requires.no_piece c.follow.ensures.same_peer.0)) h));
      closed = keeps_closed _ _ _ _ _ _ _ _ _ _ _ _ _ _ _ _ _ c.take.ensures.settings c.push.ensures c.requires.open c.take.new.wire.full c.take.ensures.moved before _ _ _ c.requires.closed;
      begins = was.begins;
      lasts = (c.follow.ensures.bound.0 ∙ was.lasts.0, c.follow.ensures.bound.1 ∙ was.lasts.1);
      once = asked_once c.args.is_asked _ _ _ (asked_more _ _ moment c.push-2.ensures) c.requires.first was.once;
      unasked = still_unasked c.args.is_asked _ _ _ (asked_more _ _ moment c.push-2.ensures) c.requires.first _ c.requires.noted was.unasked;
      reasons = asked_for_a_reason c.args.is_asked _ _ _ (asked_more _ _ moment c.push-2.ensures) c.requires.first _ _ _ c.requires.reason was.reasons;
    }

pub returns-clause-given : goal.returns-clause-given
returns-clause-given g c = ap inputs_of c.push.ensures ∙ inputs_more _ c.args.input []

pub returns-clause-closes : goal.returns-clause-closes
returns-clause-closes g c is = own_same _ _ c.args.input [] c.push.ensures (ap (λ (k : Input). own_of (input_of k [] ∷ [])) is)

pub returns-clause-expires : goal.returns-clause-expires
returns-clause-expires g c is = own_more _ _ c.args.input [] c.push.ensures ∙ ap (λ (k : Input). own_of (inputs_of c.args.self.now.given.named) ++ own_of (input_of k [] ∷ [])) is

pub returns-clause-aborts : goal.returns-clause-aborts
returns-clause-aborts g c is = own_more _ _ c.args.input [] c.push.ensures ∙ ap (λ (k : Input). own_of (inputs_of c.args.self.now.given.named) ++ own_of (input_of k [] ∷ [])) is

pub returns-clause-same_pieces : goal.returns-clause-same_pieces
returns-clause-same_pieces g c = sym (reported_without _ _ _ c.args.input [] c.requires.no_piece c.push.ensures refl)

pub returns-clause-unasked : goal.returns-clause-unasked
returns-clause-unasked g c unasked =
    let moment : Moment = record { is_asked = c.args.is_asked; remaining = c.of-remaining.result; now = c.args.now } in
    asked_same _ _ moment c.push-2.ensures unasked

pub returns-clause-asked : goal.returns-clause-asked
returns-clause-asked g c =
    let moment : Moment = record { is_asked = c.args.is_asked; remaining = c.of-remaining.result; now = c.args.now } in
    asked_more _ _ moment c.push-2.ensures
