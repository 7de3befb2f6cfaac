-- The associations of which the whole is shown: a run of the recorded echo (`the_echo_runs`), what is held of a request
-- (`the_request_is_held`), where it stands then (`it_stands_established`), and the verdicts on some stores
-- (`verdicts_on_stores`). Stands on the laws of `negotiate` and `sequence`.
use Rattle.std.proofs.Common.{◌≡◌, ℕ, ◌+◌, ◌^◌, Bool, List, [], ◌∷◌, ◌++◌, length, drop, eqb, false, Option, Some, None, Result, Ok, refl, ap, subst, arith, codes, inl, inr}
use Rattle.sequence.specs.declared.coding.Coding.TheVariants as codings
use Rattle.element.specs.Vr.{is_short}
use Rattle.dictionary.specs.declared.class.Class.TheVariants.{Ct, Mr}
use Rattle.dictionary.specs.Classes.{class_named}
use Rattle.sequence.specs.Tree.{no_elements, nothing}
use Rattle.sequence.specs.FirstFault.{IsUnbroken}
use Rattle.sequence.proofs.Public.{nothing_unbroken}
use Rattle.dictionary.specs.Syntaxes.{syntax_named}
use Rattle.dictionary.specs.Transfers.{transfer_named}
use Rattle.dimse.specs.declared.fault.DimseFault.{DimseFault}
use Rattle.dimse.specs.Command.{CommandRecord, command_element_bytes, store_command, command_of}
use Rattle.dimse.specs.Reading.{element_at, elements_in, elements_of, set_of, command_in}
use Rattle.dimse.specs.Reply.{reply_command, fragments, reply_bytes}
use Rattle.dimse.specs.Messages.{Started, NoMessage, InSet}
use Rattle.negotiate.specs.declared.proposals.Context.{Context}
use Rattle.pdu.specs.Frames.{frames_of, rest_of}
use Rattle.pdu.specs.Items.{items_of, remainder}
use Rattle.pdu.specs.Marks.{marks, new_marks, pdv_marks}
use Rattle.pdu.specs.Pieces.{pieces_of}
use Rattle.pdu.specs.Refusal.{item_fault, items_fault}
use Rattle.pdu.specs.Spot.{spot}
use Rattle.pdu.specs.Items as items
use Rattle.negotiate.specs.declared.proposals.Service.{Service}
use Rattle.negotiate.specs.declared.proposals.Service.TheVariants.{Known}
use Rattle.engine.specs.Timeline.{Entry, Finding, good, entries, entries_of}
use Rattle.engine.specs.Fair.{IsFair, IsVerdict, InStore, message_at}
use Rattle.negotiate.proofs.Public.{context_in-context_rows}
use Rattle.engine.specs.Requested.{Requested}
use Rattle.std.specs.List.{IsDistinct}
use Rattle.engine.specs.Progress.{Progress, absorb}
use Rattle.engine.specs.Run.{Rooms}
use Rattle.engine.specs.Held.{IsHeldOfMessage, walked, not_walked}
use Rattle.engine.specs.Drafts.{none_due}
use Rattle.engine.specs.StoredData as storing
use Rattle.engine.specs.Stores.{limits, Verdict, IsOfContext}
use Rattle.engine.specs.Recording.{request, accept, reply, released}
use Rattle.engine.specs.Examples.{rooms, settings, calm}
use Rattle.engine.specs.WholeExamples.{unsupported, echo_inputs, request_inputs, TheEchoRuns, TheRequestIsHeld, ItStandsEstablished, VerdictsOnStores, ct_context, store_of}
use Rattle.negotiate.specs.Settings.{Settings}
use Rattle.engine.specs.FrameFields.{reads}
use Rattle.negotiate.specs.Allowed.{nothing_additional}

calm_entries : (es : List Entry) → entries_of (calm es) ≡ es
calm_entries [] = refl
calm_entries (e ∷ es) = ap (λ (xs : List Entry). e ∷ xs) (calm_entries es)

-- an echo is no store
no_store : (command other : CommandRecord) → ◌≡◌ {A = Result CommandRecord DimseFault} (Ok other) (Ok command) → other.field ≡ 0x0030 → command.field ≡ 0x0001 → ⊥
no_store command other e echoed f =
    let same : other ≡ command = cc in
    let fields : other.field ≡ command.field = ap (λ (c : CommandRecord). c.field) same in
    absurd (omega (arith, fields, echoed, f))

-- nothing failed in the entry
calm_fair : {p : Progress} {e : Entry} → IsVerdict rooms settings (absorb false p) good (message_at p e) → IsFair rooms settings p (e, record { wire = None; filing = false; finding = good })
calm_fair v = record { verdict = v; wire = tt; filing = λ f. absurd cc }

pub the_echo_runs : TheEchoRuns
unfolding frames_of rest_of pieces_of marks new_marks pdv_marks items_of remainder item_fault items_fault class_named syntax_named transfer_named is_short command_element_bytes store_command command_of element_at elements_in elements_of set_of command_in reply_command fragments reply_bytes
the_echo_runs = (
  record {
    story_is = record {
      reported = calm_entries (entries [] echo_inputs);
      fair = (calm_fair tt, (calm_fair tt, (calm_fair tt, (calm_fair tt, (calm_fair (λ command context spelled f of. absurd (no_store command _ spelled refl f)), (calm_fair tt, (calm_fair tt, (calm_fair tt, (calm_fair tt, tt)))))))));
      last = λ e. absurd cc;
    };
    sent_is = refl;
    files_are = refl;
    state_is = refl;
  },
  λ files state run. let e : length (accept ++ reply) ≡ length (accept ++ reply ++ released) = ap length run.sent_is in absurd (omega (arith, e)),
)

not_in_set : (id : ℕ) (command set : List ℕ) → NoMessage ≡ InSet id command set → ⊥
not_in_set id command set e = cc

no_store_in : (request : Requested) → InStore request NoMessage → ⊥
no_store_in request store = not_in_set store.id store.command store.set store.started

none_held : {r : Rooms} {s : Settings} {request : Requested} {b : Started} {k : ℕ} → IsHeldOfMessage r s request b k → b ≡ NoMessage → k ≡ 0
none_held {request = request} (walked store set) e = absurd (no_store_in request (subst (λ (m : Started). InStore request m) e store))
none_held (not_walked none) e = refl

pub the_request_is_held : TheRequestIsHeld
unfolding frames_of rest_of pieces_of marks new_marks pdv_marks spot items_of remainder item_fault items_fault class_named syntax_named transfer_named is_short
the_request_is_held = (
  record { of_set = 0; walked = not_walked (no_store_in _); sum = refl },
  λ n held. let sum : n ≡ 24 + held.of_set = held.sum in let none : held.of_set ≡ 0 = none_held held.walked refl in omega (arith, sum, none),
)

one_distinct : (id : ℕ) → IsDistinct eqb (id ∷ [])
unfolding IsDistinct
one_distinct id = (tt, tt)

pub it_stands_established : ItStandsEstablished
unfolding frames_of rest_of pieces_of marks new_marks pdv_marks spot items_of remainder item_fault items_fault class_named syntax_named transfer_named is_short
it_stands_established = (
  λ store. record {
    story_is = record { reported = calm_entries (entries [] request_inputs); fair = (calm_fair tt, (calm_fair tt, tt)); last = λ e. absurd cc };
    shows = record {
      frame = record {
        framed = λ e. reads (record { short = omega arith; bytes_are = refl; none_due = refl });
        pends = record {
          state_is = refl;
          refused_is = λ e. refl;
          decided_is = refl;
          body_is = refl;
          join_is = record { shows = refl; accepted = λ le. absurd (omega (arith, le)) };
          agreed = λ e. record { caller = refl; maximum = refl; rows = refl; contexts = context_in-context_rows nothing_additional (items.request_record (drop 6 request)) (one_distinct 1); count = refl };
          none_remaining = λ e. absurd cc;
          unagreed = λ e. absurd cc;
          failed_in = λ still failed. absurd cc;
          walks = storing.not_walked (no_store_in _);
          draft = none_due (λ file due. no_store_in _ due.store);
        };
      };
      headless = λ e. absurd cc;
    };
    draft = none_due (λ file due. no_store_in _ due.store);
  },
  λ store stands. let none : 0 ≡ 1 = (stands.shows.frame.pends.agreed refl).count in absurd (omega (arith, none)),
)

-- ---- verdicts

only_other : {d l : ℕ} {c : Context} {r : CommandRecord} {b : List ℕ} {f : Bool} {n : Finding} → (IsOfContext c r → ⊥) → Verdict d l c r b f n → n ≡ unsupported
only_other not verdict = elim verdict.first [ inl fails ↦ fails.1 | inr passes ↦ absurd (not passes.0) ]

mr_is_no_ct : IsOfContext ct_context (store_of (codes "1.2.840.10008.5.1.4.1.1.4")) → ⊥
unfolding class_named
mr_is_no_ct of = let e : ◌≡◌ {A = Option Service} (Some (Known Mr)) (Some (Known Ct)) = of.named in cc

nothing_breaks : IsUnbroken codings.Explicit (limits 64 (2 ^ 40)) []
nothing_breaks = nothing_unbroken codings.Explicit (limits 64 (2 ^ 40))

pub verdicts_on_stores : VerdictsOnStores
unfolding class_named
verdicts_on_stores = (
  λ data_set failed. record { elements = no_elements; first = inl (mr_is_no_ct, refl) },
  λ data_set failed finding verdict. only_other mr_is_no_ct verdict,
  λ failed. record {
    elements = no_elements;
    first = inr (record { named = refl; storage = refl }, inr (record { whole = nothing; unbroken = nothing_breaks }, inl ((λ same. let e : ◌≡◌ {A = Option (List ℕ)} None (Some same.0) = same.1 in cc), refl)));
  },
)
