-- How a request is judged (PS3.8 sections 7.1.1 and 9.3.4; PS3.7 annex A.2.1).
use Rattle.std.specs.Prelude.{ℕ, ◌%◌, Bool, not, ◌&&◌, ◌||◌, List, length, nat_eq, nat_le, if◌then◌else◌}
use Rattle.std.specs.List.{list_any}
use Rattle.std.specs.Cmp.Lexicographic.{pointwise}
use Rattle.dictionary.specs.Syntaxes.{application_context}
use Rattle.element.specs.Title.{title_text}
use Rattle.pdu.specs.Record.{RequestRecord}
use Rattle.negotiate.specs.declared.answer.Answer.{Answer}
use Rattle.negotiate.specs.declared.answer.Answer.TheVariants.{Accept, Reject}
use Rattle.negotiate.specs.Rejections.{rejected_permanent, service_user, service_provider_acse, no_reason_given, application_context_name_not_supported, calling_ae_title_not_recognized, called_ae_title_not_recognized, protocol_version_not_supported}
use Rattle.negotiate.specs.Settings.{Settings}

-- whether the texts are equal
-- e.g. same_bytes (1 ∷ []) (1 ∷ 2 ∷ []) ≡ false
abbrev pub same_bytes : List ℕ → List ℕ → Bool
same_bytes a b = pointwise nat_eq a b

-- titles are compared without the spaces at both ends
-- e.g. same_title (codes "CT1 ") (codes "CT1") ≡ true; same_title (codes "CT1") (codes "CT2") ≡ false
abbrev pub same_title : List ℕ → List ℕ → Bool
same_title a b = same_bytes (title_text a) (title_text b)

-- whether a title is one of these
-- e.g. is_among (codes "MR2" ∷ []) (codes "MR2 ") ≡ true
abbrev pub is_among : (titles : List (List ℕ)) → (title : List ℕ) → Bool
is_among titles title = list_any (λ other. same_title other title) titles

-- whether this title may call; if there are no callers, any title may
-- e.g. may_call [] (codes "CT1") ≡ true; may_call (codes "MR2" ∷ []) (codes "CT1") ≡ false
abbrev pub may_call : (callers : List (List ℕ)) → (calling : List ℕ) → Bool
may_call callers calling = nat_eq (length callers) 0 || is_among callers calling

-- the called title is one of the receiver's, or it accepts any
abbrev pub may_be_called : Settings → (called : List ℕ) → Bool
may_be_called s called = s.any_called || is_among s.called called

-- whether bit 0 is set, for version 1
abbrev pub has_version_1 : RequestRecord → Bool
has_version_1 r = nat_eq (r.version % 2) 1

-- The answer to a request: the first line that fits. That a maximum length from 1 to 7, in which no fragment fits, is
-- rejected is this product's own profile; so is that the last four rejections are the local user's (law
-- `engine::another_called_title`).
abbrev pub judged : Settings → RequestRecord → Answer
judged s r =
    if not (has_version_1 r) then Reject rejected_permanent service_provider_acse protocol_version_not_supported
    else (if not (same_bytes r.application_context application_context) then Reject rejected_permanent service_user application_context_name_not_supported
    else (if not (may_be_called s r.called) then Reject rejected_permanent service_user called_ae_title_not_recognized
    else (if not (may_call s.callers r.calling) then Reject rejected_permanent service_user calling_ae_title_not_recognized
    else (if nat_le 1 r.maximum && nat_le r.maximum 7 then Reject rejected_permanent service_user no_reason_given
    else Accept))))
