-- At the head of a PDU the timeline has nothing, an event or a rejection, by what `head_event` judges (`head_nothing`,
-- `head_at_once`, `head_rejected`). Stands on FieldsShow/TriedIsDone.
use Rattle.std.proofs.Common.{◌≡◌, ◌⊎◌, ℕ, ◌-◌, Bool, true, false, not, ◌&&◌, [], nat_eq, nat_lt, refl, ap, sym, subst, ◌∙◌, if◌then◌else◌, arith, inl, inr}
use Rattle.std.proofs.lemmas.Grind.{common_steps}
use Rattle.acceptor.specs.declared.state.State.{State}
use Rattle.acceptor.specs.declared.state.State.TheVariants.{Sta2}
use Rattle.acceptor.specs.declared.event.Event.{Event}
use Rattle.acceptor.specs.declared.event.Event.TheVariants.{UnacceptableRq, Invalid}
use Rattle.acceptor.specs.Table.{table}
use Rattle.pdu.specs.Marks.{Head}
use Rattle.pdu.specs.Texts.{reject_text}
use Rattle.negotiate.specs.Settings.{Settings}
use Rattle.engine.specs.Timeline.{At, good}
use Rattle.engine.specs.Run.{Rooms, at_entry}
use Rattle.decisions.specs.declared.decision.Decision.{Decision}
use Rattle.decisions.specs.declared.decision.Decision.TheVariants as decision
use Rattle.decisions.specs.declared.head_fault.HeadFault.{HeadFault}
use Rattle.engine.specs.Progress.{Progress, Advance, decided_at, nothing, done, refusing, is_due, is_established}
use Rattle.engine.specs.Heads.{HeadEvent, NoEvent, AtOnce, TooLong, event_of, is_known, has_four_bytes, is_abort, abort_reason, head_event}
use Rattle.engine.specs.machine.PerformsReaction.{is_remaining, Stays}
use Rattle.engine.proofs.FieldsShow.TriedIsDone.{stays_invalid}

-- an action that answers by an abort leaves the association
pub abort_leaves : (st : State) (e : Event) → is_abort (table st e).0 ≡ true → is_remaining (table st e).1 ≡ true
abort_leaves st e h = grind arith

-- ---- what `head_event` judges

-- an event is that of an invalid PDU, or sends an A-ABORT; a request is awaited where one is rejected
abbrev pub IsJudged : State → HeadEvent → Type 0
IsJudged st NoEvent = Unit {0}
IsJudged st (AtOnce e why) = (e ≡ Invalid) ⊎ (is_abort (table st e).0 ≡ true)
IsJudged st TooLong = is_due st ≡ true

either : (b : Bool) (st : State) (x y : HeadEvent) → (b ≡ true → IsJudged st x) → (b ≡ false → IsJudged st y) → IsJudged st (if b then x else y)
either true st x y f g = f refl
either false st x y f g = g refl

both_left : (a b : Bool) → (a && b) ≡ true → a ≡ true
both_left a b h = grind (arith, common_steps)

pub head_judged : (room most : ℕ) (st : State) (kind n : ℕ) → IsJudged st (head_event room most st kind n)
head_judged room most st kind n =
    either (not (is_known kind)) st _ _ (λ t. inl refl)
    (λ t. either (has_four_bytes kind && not (nat_eq n 4)) st _ _ (λ u. inl refl)
    (λ u. either (is_due st && nat_eq kind 1) st _ _ (λ v. either (nat_lt room n) st TooLong _ (λ w. both_left (is_due st) (nat_eq kind 1) v) (λ w. either (nat_lt n 68) st _ NoEvent (λ x. inl refl) (λ x. tt)))
    (λ v. either (is_established st && nat_eq kind 4) st _ _ (λ w. either (nat_lt most n) st _ _ (λ x. inl refl) (λ x. either (nat_lt n 6) st _ NoEvent (λ y. inl refl) (λ y. tt)))
    (λ w. either (is_abort (table st (event_of kind)).0) st _ NoEvent (λ x. inr x) (λ x. tt)))))

judged_stays : (st : State) (e : Event) → (e ≡ Invalid) ⊎ (is_abort (table st e).0 ≡ true) → Stays st e
judged_stays st e (inl is) = subst (λ (x : Event). Stays st x) (sym is) (stays_invalid st)
judged_stays st e (inr h) = λ n. let x : true ≡ false = sym (abort_leaves st e h) ∙ n in absurd cc

pub head_stays : (room most : ℕ) (st : State) (kind n : ℕ) (e : Event) (r : HeadFault) → head_event room most st kind n ≡ AtOnce e r → Stays st e
head_stays room most st kind n e r h = judged_stays st e (subst (λ (x : HeadEvent). IsJudged st x) h (head_judged room most st kind n))

due_is : (st : State) → is_due st ≡ true → st ≡ Sta2
due_is st h = grind (arith, common_steps)

pub head_too_long : (room most : ℕ) (st : State) (kind n : ℕ) → head_event room most st kind n ≡ TooLong → st ≡ Sta2
head_too_long room most st kind n h = due_is st (subst (λ (x : HeadEvent). IsJudged st x) h (head_judged room most st kind n))

-- ---- what a judged head gives

-- the progress at the head, where this is decided unless the association has ended
abbrev pub headed : Progress → Decision → Progress
headed p d = record p { refused = false; decided = decided_at p.state p.decided d }

module _ (rooms : Rooms) (s : Settings) (p : Progress) (kind n : ℕ) where
  abbrev by_event : HeadEvent → Advance
  by_event h = elim h [
    | NoEvent ↦ nothing (headed p decision.Nothing)
    | AtOnce event fault ↦ refusing (done [] (abort_reason fault) (headed p (decision.PduRefused (record { kind = kind; length = n }) fault)) event)
    | TooLong ↦ refusing (done (reject_text 2 3 2) 0 (headed p (decision.RequestTooLong n)) UnacceptableRq)
  ]

  pub head_nothing : head_event (rooms.request - 12) s.max_pdu p.state kind n ≡ NoEvent → at_entry rooms s p good (At (Head kind n)) ≡ nothing (headed p decision.Nothing)
  head_nothing e = ap by_event e

  pub head_at_once : (e : Event) (r : HeadFault) → head_event (rooms.request - 12) s.max_pdu p.state kind n ≡ AtOnce e r
      → at_entry rooms s p good (At (Head kind n)) ≡ refusing (done [] (abort_reason r) (headed p (decision.PduRefused (record { kind = kind; length = n }) r)) e)
  head_at_once e r h = ap by_event h

  pub head_rejected : head_event (rooms.request - 12) s.max_pdu p.state kind n ≡ TooLong
      → at_entry rooms s p good (At (Head kind n)) ≡ refusing (done (reject_text 2 3 2) 0 (headed p (decision.RequestTooLong n)) UnacceptableRq)
  head_rejected h = ap by_event h
