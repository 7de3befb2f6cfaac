-- The transport's close is consumed only where the socket has closed (`one_more_closes`, `still_closes`), and the association has
-- ended then (`open_unclosed`). Stands on InputsAddTheirPieces.
use Rattle.std.proofs.Common.{◌≡◌, ◌≢◌, ℕ, ◌<◌, true, false, List, [], ◌∷◌, ◌++◌, map, Option, Some, None, refl, sym, ap, subst, ◌∙◌, append_assoc, inl, inr}
use Rattle.std.proofs.Math.Logic.{∥∥₁_map}
use Rattle.std.proofs.lemmas.List.{same_from_push}
use Rattle.acceptor.specs.declared.state.State.{State}
use Rattle.acceptor.specs.declared.state.State.TheVariants.{Sta1, Sta2, Sta3, Sta6, Sta8, Sta13}
use Rattle.acceptor.specs.declared.event.Event.TheVariants as event
use Rattle.acceptor.specs.Table.{table}
use Rattle.pdu.specs.Marks.{new_marks}
use Rattle.negotiate.specs.Settings.{Settings}
use Rattle.part10.specs.Store.{Store}
use Rattle.engine.specs.declared.association.Association.{Association}
use Rattle.engine.specs.declared.phase.Phase.{Phase}
use Rattle.engine.specs.declared.phase.Phase.TheVariants.{AwaitingRequest, Established, AwaitingClose, Ended}
use Rattle.engine.specs.declared.source.Input.{Input}
use Rattle.engine.specs.declared.source.Input.TheVariants.{Piece, Closed, Expired, LocalAbort}
use Rattle.engine.specs.Fields.{fields_of, state_of}
use Rattle.engine.specs.FrameFields.{Fields}
use Rattle.engine.specs.Held.{is_ended}
use Rattle.engine.specs.Inputs.{Received, Bytes, Close, Expiry, UserAbort, input_of, inputs_of}
use Rattle.engine.specs.Phases.{state_in}
use Rattle.engine.specs.Progress.{Progress, absorb, at_start, done, moved}
use Rattle.engine.specs.Run.{Rooms, at_entry, cut, gives, progress_of}
use Rattle.engine.specs.Timeline.{Entry, At, Shut, TimedOut, Aborted, Happened, entries, entries_of}
use Rattle.serving.proofs.InputsAddTheirPieces.{inputs_more}
use Rattle.serving.specs.Closes.{HasClosed, ClosesWithSocket}
use Rattle.serving.specs.Rooms.{served_rooms}
use Rattle.serving.specs.Consumed.{HasConsumed}

-- ---- an association that was given the close has ended

-- neither a request nor data nor the transport's close is waited for
abbrev pub IsRemaining : State → Type 0
IsRemaining Sta1 = Unit {0}
IsRemaining Sta2 = ⊥
IsRemaining Sta3 = Unit {0}
IsRemaining Sta6 = ⊥
IsRemaining Sta8 = Unit {0}
IsRemaining Sta13 = ⊥

close_leaves : (state : State) (p : Progress) → IsRemaining (moved (table state event.Closed).1 p).state
close_leaves Sta1 p = tt
close_leaves Sta2 p = tt
close_leaves Sta3 p = tt
close_leaves Sta6 p = tt
close_leaves Sta8 p = tt
close_leaves Sta13 p = tt

cut_leaves : (wire : Option ℕ) (p q : Progress) → IsRemaining (cut wire p (done [] 0 q event.Closed)).next.state
cut_leaves None p q = close_leaves q.state q
cut_leaves (Some k) p q = tt

no_last : {A : Type 0} (xs : List A) (x : A) → [] ≢ xs ++ x ∷ []
no_last [] x e = absurd cc
no_last (y ∷ xs) x e = absurd cc

-- a story whose last entry is the close
shut_last : (rooms : Rooms) (s : Settings) (p : Progress) (es : List Entry) (story : List Happened) → entries_of story ≡ es ++ Shut ∷ [] → IsRemaining (progress_of rooms s p story).state
shut_last rooms s p es [] e = absurd (no_last es Shut e)
shut_last rooms s p [] (h ∷ []) e =
    let at : h.0 ≡ Shut = cc in
    subst (λ (x : Entry). IsRemaining (cut h.1.wire p (at_entry rooms s (absorb h.1.filing p) h.1.finding x)).next.state) (sym at) (cut_leaves h.1.wire p (absorb h.1.filing p))
shut_last rooms s p [] (h ∷ g ∷ story) e = absurd cc
shut_last rooms s p (x ∷ es) (h ∷ story) e = shut_last rooms s (gives rooms s p h).next es story cc

shut_entry : (received : List ℕ) (before : List Received) → entries received (before ++ Close ∷ []) ≡ entries received before ++ Shut ∷ []
shut_entry received [] = refl
shut_entry received (Bytes piece ∷ before) =
    ap (λ (es : List Entry). map At (new_marks received piece) ++ es) (shut_entry (received ++ piece) before) ∙ sym (append_assoc (map At (new_marks received piece)) (entries (received ++ piece) before) (Shut ∷ []))
shut_entry received (Close ∷ before) = ap (λ (es : List Entry). Shut ∷ es) (shut_entry received before)
shut_entry received (Expiry ∷ before) = ap (λ (es : List Entry). TimedOut ∷ es) (shut_entry received before)
shut_entry received (UserAbort ∷ before) = ap (λ (es : List Entry). Aborted ∷ es) (shut_entry received before)

some_same : (xs ys : List Received) → Some xs ≡ Some ys → xs ≡ ys
some_same xs ys e = cc

consumed_leaves : (s : Settings) (named : List (Input × List ℕ)) (seen : Fields) (sent : List ℕ) (old new : Store) (before : List Received) → HasConsumed s named seen sent old new → inputs_of named ≡ before ++ Close ∷ [] → IsRemaining seen.kept.state
consumed_leaves s named seen sent old new before h e =
    let t = h.consumes in
    let b = t.stood in
    let same : inputs_of named ≡ t.consumed = some_same (inputs_of named) t.consumed t.follows.given in
    let reported : entries_of b.story ≡ entries [] before ++ Shut ∷ [] = b.stands.story_is.reported ∙ ap (λ (xs : List Received). entries [] xs) (sym same ∙ e) ∙ shut_entry [] before in
    subst IsRemaining (sym b.stands.shows.frame.pends.state_is) (shut_last served_rooms s at_start (entries [] before) b.story reported)

remaining_ended : {A C V D : ℕ} (phase : Phase A C V D) → IsRemaining (state_in phase) → is_ended (state_in phase) ≡ true
remaining_ended (AwaitingRequest body) h = absurd h
remaining_ended (Established peer message) h = absurd h
remaining_ended AwaitingClose h = absurd h
remaining_ended Ended h = refl

-- so one that has not ended was not given the close, however its socket stands
pub open_unclosed : {A C V D : ℕ} (a : Association A C V D) (s : Settings) (named : List (Input × List ℕ)) (sent : List ℕ) (old new : Store) (unconsumed : List ℕ) (ends : ℕ) (unsent : List ℕ) (refusals : ℕ)
    → ∥ HasConsumed s named (fields_of a) sent old new ∥₁ → is_ended (state_of a) ≡ false → ∥ ClosesWithSocket (inputs_of named) unconsumed ends unsent refusals ∥₁
open_unclosed a s named sent old new unconsumed ends unsent refusals consumed open_still =
    ∥∥₁_map consumed (λ h before e. absurd (let wrong : true ≡ false = sym (remaining_ended a.provider.phase (consumed_leaves s named (fields_of a) sent old new before h e)) ∙ open_still in cc))

-- ---- with one input more

pub none_closes : (inputs : List Received) (unconsumed : List ℕ) (ends : ℕ) (unsent : List ℕ) (refusals : ℕ) → inputs ≡ [] → ClosesWithSocket inputs unconsumed ends unsent refusals
none_closes inputs unconsumed ends unsent refusals none before e = absurd (no_last before Close (sym none ∙ e))

close_is : (kind : Input) (bytes : List ℕ) → input_of kind bytes ≡ Close → kind ≡ Closed
close_is Piece bytes e = absurd cc
close_is Closed bytes e = refl
close_is Expired bytes e = absurd cc
close_is LocalAbort bytes e = absurd cc

module _ (named named_new : List (Input × List ℕ)) (bytes unconsumed : List ℕ) (ends : ℕ) (unsent : List ℕ) (refusals : ℕ) where
  last_closes : (kind : Input) → named_new ≡ named ++ (kind, bytes) ∷ [] → (kind ≡ Closed → HasClosed unconsumed ends unsent refusals) → ClosesWithSocket (inputs_of named_new) unconsumed ends unsent refusals
  last_closes kind pushed closed before e =
      closed (close_is kind bytes (same_from_push (inputs_of named) before (input_of kind bytes) Close (sym (inputs_more named kind bytes) ∙ ap inputs_of (sym pushed) ∙ e)).1)

  pub one_more_closes : (kind : Input) → named_new ≡ named ++ (kind, bytes) ∷ [] → (kind ≡ Closed → ∥ HasClosed unconsumed ends unsent refusals ∥₁) → ∥ ClosesWithSocket (inputs_of named_new) unconsumed ends unsent refusals ∥₁
  one_more_closes Piece pushed closed = ∣ last_closes Piece pushed (λ e. absurd cc) ∣₁
  one_more_closes Closed pushed closed = ∥∥₁_map (closed refl) (λ h. last_closes Closed pushed (λ e. h))
  one_more_closes Expired pushed closed = ∣ last_closes Expired pushed (λ e. absurd cc) ∣₁
  one_more_closes LocalAbort pushed closed = ∣ last_closes LocalAbort pushed (λ e. absurd cc) ∣₁

-- ---- over a socket that continues

-- as more waits
pub still_closed : (unconsumed : List ℕ) (ends : ℕ) (unsent unsent_new : List ℕ) (refusals : ℕ) → (unsent ≢ [] → unsent_new ≢ []) → HasClosed unconsumed ends unsent refusals → HasClosed unconsumed ends unsent_new refusals
still_closed unconsumed ends unsent unsent_new refusals more (inl end) = inl end
still_closed unconsumed ends unsent unsent_new refusals more (inr refused) = inr (more refused.0, refused.1)

-- as no more was read
pub still_closes : (inputs : List Received) (unconsumed unconsumed_new : List ℕ) (ends ends_new : ℕ) (unsent unsent_new : List ℕ) (refusals refusals_new : ℕ) → unconsumed_new ≡ [] → (0 < ends → 0 < ends_new) → unsent_new ≡ unsent → refusals_new ≡ refusals
    → ∥ ClosesWithSocket inputs unconsumed ends unsent refusals ∥₁ → ∥ ClosesWithSocket inputs unconsumed_new ends_new unsent_new refusals_new ∥₁
still_closes inputs unconsumed unconsumed_new ends ends_new unsent unsent_new refusals refusals_new none more e f closes =
    ∥∥₁_map closes (λ h before last. rw (e, f) (elim (h before last) [ inl end ↦ inl (none, more end.1) | inr refused ↦ inr refused ]))
