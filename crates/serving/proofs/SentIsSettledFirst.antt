-- What was sent was sent when the files of a beginning of the inputs were settled (`sent_now`, `sent_before`), also at the end
-- (`ends_settled`). Stands on InputsAddTheirPieces and ConsumedInputsAreARun.
use Rattle.std.proofs.Common.{◌≡◌, ℕ, false, List, [], ◌∷◌, ◌++◌, Some, refl, sym, ap, subst, ◌∙◌, append_assoc, append-nil}
use Rattle.std.proofs.Math.Logic.{∥∥₁_map}
use Rattle.negotiate.specs.Settings.{Settings}
use Rattle.pdu.specs.Sent.{Line}
use Rattle.part10.specs.Store.{Store, stepped, without_draft}
use Rattle.engine.specs.declared.source.Input.{Input}
use Rattle.engine.specs.declared.report.Report.{Report}
use Rattle.engine.specs.FrameFields.{Fields}
use Rattle.engine.specs.Inputs.{Received, input_of, inputs_of, stream_of}
use Rattle.engine.specs.Progress.{at_start}
use Rattle.engine.specs.Run.{files_of, progress_of}
use Rattle.engine.specs.Stands.{Stands}
use Rattle.engine.specs.Turns.{Reports}
use Rattle.serving.proofs.InputsAddTheirPieces.{inputs_more}
use Rattle.serving.proofs.ConsumedInputsAreARun.{ends, nothing_consumed}
use Rattle.serving.specs.Closes.{ClosesWithSocket}
use Rattle.serving.specs.Rooms.{served_rooms}
use Rattle.serving.specs.Served.{ExchangedSoFar}
use Rattle.serving.specs.Settled.{SentAfter}
use Rattle.serving.specs.Consumed.{HasConsumed}

inputs_same : (xs ys : List Received) → Some xs ≡ Some ys → xs ≡ ys
inputs_same xs ys e = cc

bytes_same : (xs ys : List ℕ) → Some xs ≡ Some ys → xs ≡ ys
bytes_same xs ys e = cc

-- what was sent of what all inputs gave
pub sent_now : (s : Settings) (named : List (Input × List ℕ)) (seen : Fields) (sent unsent : List ℕ) (old new : Store) → HasConsumed s named seen (sent ++ unsent) old new → SentAfter s (inputs_of named) sent old new
sent_now s named seen sent unsent old new h =
    let t = h.consumes in
    let b = t.stood in
    record {
      inputs = t.consumed;
      later = [];
      story = b.story;
      failed = b.failed;
      unsent = unsent;
      files = files_of served_rooms s at_start b.story;
      state = (progress_of served_rooms s at_start b.story).state;
      first = append-nil t.consumed ∙ sym (inputs_same (inputs_of named) t.consumed t.follows.given);
      run = record {
        story_is = b.stands.story_is;
        sent_is = bytes_same (sent ++ unsent) _ (ap (λ (l : Line). l.sent) b.gains.line);
        files_are = refl;
        state_is = refl;
      };
      files_then = b.gains.files;
    }

-- with one input more
pub sent_before : (s set : Settings) (named named_new : List (Input × List ℕ)) (kind : Input) (bytes sent : List ℕ) (old settled : Store) → set ≡ s → named_new ≡ named ++ (kind, bytes) ∷ [] → SentAfter s (inputs_of named) sent old settled
    → SentAfter set (inputs_of named_new) sent old settled
sent_before s set named named_new kind bytes sent old settled same pushed h = rw same (record {
  inputs = h.inputs;
  later = h.later ++ input_of kind bytes ∷ [];
  story = h.story;
  failed = h.failed;
  unsent = h.unsent;
  files = h.files;
  state = h.state;
  first = sym (append_assoc h.inputs h.later (input_of kind bytes ∷ [])) ∙ ap (λ (xs : List Received). xs ++ input_of kind bytes ∷ []) h.first ∙ sym (inputs_more named kind bytes) ∙ ap inputs_of (sym pushed);
  run = h.run;
  files_then = h.files_then;
})

-- before anything was
pub nothing_sent : (s set : Settings) (named : List (Input × List ℕ)) (seen : Fields) (sent : List ℕ) (old settled : Store) → named ≡ [] → sent ≡ [] → old ≡ settled → set ≡ s → ((store : Store) → Stands served_rooms s [] [] false seen store)
    → SentAfter set (inputs_of named) sent old settled
nothing_sent s set named seen sent old settled none unsent same settings stands =
    rw (none, unsent, same, settings) (sent_now s [] seen [] [] settled settled (nothing_consumed s seen settled (stands settled)))

-- where the socket consumed some of what waited
pub sent_at : (s : Settings) (named : List (Input × List ℕ)) (seen : Fields) (sent unsent written pending : List ℕ) (old new settled : Store) → sent ++ unsent ≡ written ++ pending → settled ≡ new → ∥ HasConsumed s named seen (written ++ pending) old new ∥₁
    → ∥ SentAfter s (inputs_of named) sent old settled ∥₁
sent_at s named seen sent unsent written pending old new settled same then_now consumed = ∥∥₁_map consumed (λ h. sent_now s named seen sent unsent old settled (rw (same, then_now) h))

-- at the end
pub ends_settled : (s : Settings) (named : List (Input × List ℕ)) (seen : Fields) (report : Report) (read unconsumed : List ℕ) (stopped : ℕ) (socket unsent : List ℕ) (refusals : ℕ) (opened old new settled : Store) → stream_of (inputs_of named) ++ unconsumed ≡ read
    → ClosesWithSocket (inputs_of named) unconsumed stopped unsent refusals → Reports served_rooms s seen old report → new ≡ stepped without_draft false old → HasConsumed s named seen (socket ++ unsent) opened old → SentAfter s (inputs_of named) socket opened settled
    → (served : ExchangedSoFar s report read unconsumed stopped socket unsent refusals opened new) × SentAfter s served.inputs socket opened settled
ends_settled s named seen report read unconsumed stopped socket unsent refusals opened old new settled e closes reports store h first =
    let x = ends s named seen report read unconsumed stopped socket unsent refusals opened old new e closes reports store h in
    (x.0, subst (λ (xs : List Received). SentAfter s xs socket opened settled) (sym x.1) first)
