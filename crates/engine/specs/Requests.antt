-- The effect of a whole association request (PS3.8 sections 7.1 and 9.2): a rejection by the service provider, or the
-- response of the local user, who responds at once (this product's own profile).
use Rattle.std.specs.Prelude.{ℕ, List, [], Some, None, nat_eq, if◌then◌else◌}
use Rattle.acceptor.specs.declared.event.Event.TheVariants as event
use Rattle.pdu.specs.Record.{RequestRecord}
use Rattle.pdu.specs.Items.{request_record}
use Rattle.pdu.specs.Refusal.{request_fault}
use Rattle.pdu.specs.Texts.{reject_text}
use Rattle.negotiate.specs.declared.answer.Answer.{Answer}
use Rattle.negotiate.specs.declared.answer.Answer.TheVariants.{Accept, Reject}
use Rattle.negotiate.specs.Rejections.{service_provider_acse}
use Rattle.negotiate.specs.Settings.{Settings}
use Rattle.negotiate.specs.Answer.{judged}
use Rattle.negotiate.specs.Accept.{accept_text}
use Rattle.decisions.specs.declared.decision.Decision.TheVariants.{RequestInvalid, RequestJudged}
use Rattle.engine.specs.Progress.{Progress, Advance, deciding, followed_by, done}
use Rattle.engine.specs.Heads.{invalid_parameter}

-- the state with this request
-- e.g. (keeping (settings_by_default [] 16384 1024) (1 ∷ []) at_start).request.body ≡ 1 ∷ []
abbrev pub keeping : Settings → List ℕ → Progress → Progress
keeping s body p = record p { request = record { additional = s.additional; body = body } }

-- the effect of a request that is acceptable to the service provider and accepted by the local user, with these bytes
-- as its answer
-- e.g. (accepting at_start (1 ∷ [])).next.state ≡ Sta6; (accepting at_start (1 ∷ [])).sent ≡ 1 ∷ []
abbrev pub accepting : Progress → List ℕ → Advance
accepting p answer = followed_by (done [] 0 p event.AcceptableRq) (λ q. done answer 0 q event.UserAccepts)

-- the effect of a request that is acceptable to the service provider and rejected by the local user, with these bytes
-- as its answer
-- e.g. (declined at_start (1 ∷ [])).sent ≡ 1 ∷ []
abbrev pub declined : Progress → List ℕ → Advance
declined p answer = followed_by (done [] 0 p event.AcceptableRq) (λ q. done answer 0 q event.UserRefuses)

-- The effect of the answer to a request. A rejection whose source is the service provider (ACSE) is its own, any other
-- the local user's (law `engine::another_called_title`).
abbrev pub answered : Settings → RequestRecord → Progress → Answer → Advance
answered s r p Accept = accepting p (accept_text s r)
answered s r p (Reject result source reason) =
    if nat_eq source service_provider_acse then done (reject_text result source reason) 0 p event.UnacceptableRq
    else declined p (reject_text result source reason)

-- the effect of a valid request with this answer
abbrev pub judged_so : Settings → List ℕ → Progress → Answer → Advance
judged_so s body p answer = answered s (request_record body) (keeping s body (deciding (RequestJudged answer) p)) answer

-- the effect of a whole association request (law `engine::another_called_title`)
abbrev pub at_request : Settings → Progress → List ℕ → Advance
at_request s p body = elim (request_fault body) [
  | Some fault ↦ done [] invalid_parameter (deciding (RequestInvalid fault) p) event.Invalid
  | None ↦ judged_so s body p (judged s (request_record body))
]
