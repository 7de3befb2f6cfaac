-- What the crates above cite of this crate's lemmas: the laws of `negotiate::laws`, which are their contracts, in the words of
-- the definitions alone.
use Rattle.std.proofs.Common.{◌≡◌, ℕ, ◌≤◌, eqb, List, [], length, nat_eq, Some, None, option_map, option_and_then}
use Rattle.std.specs.List.{IsDistinct, find}
use Rattle.element.specs.Numbers.{IsBytes}
use Rattle.element.specs.declared.syntax.Syntax.{Syntax}
use Rattle.pdu.specs.Record.{Proposal, RequestRecord, ids}
use Rattle.pdu.specs.Items.{request_record}
use Rattle.pdu.specs.Refusal.{request_fault}
use Rattle.negotiate.specs.Accept.{accept_text, longest_accept}
use Rattle.negotiate.specs.ContextLaws.{accepted_by_default}
use Rattle.negotiate.specs.ContextRows.{context_in, context_rows}
use Rattle.negotiate.specs.Settings.{Settings}
use Rattle.negotiate.specs.Allowed.{Allowed, nothing_additional}
use Rattle.negotiate.proofs.AcceptancesAreShort as length_of
use Rattle.negotiate.specs.Contexts.{accepted, accepted_by, agreed, carried, carried_by, chosen, context_of, offered, result_by, result_of, seen, service_of, allowed_syntax}
use Rattle.dictionary.specs.Classes.{class_of}
use Rattle.dictionary.specs.Transfers.{native}
use Rattle.negotiate.proofs.DictionaryDecidesByDefault as services
use Rattle.negotiate.proofs.TableHasAcceptedContexts as table
use Rattle.negotiate.proofs.NativeSyntaxesArePreferred as transfers

pub context_in-context_rows : (additional : Allowed) (r : RequestRecord) → IsDistinct eqb (ids r.contexts) → (id : ℕ) →
    context_in additional (context_rows additional (offered additional r)) id ≡ context_of (offered additional r) id
context_in-context_rows = table.context_in-context_rows

pub accepts_short : (s : Settings) (body : List ℕ) → IsBytes body → request_fault body ≡ None → length (accept_text s (request_record body)) ≤ longest_accept
accepts_short = length_of.accepts_short

pub default_result : (p : Proposal) → result_of (seen nothing_additional p) ≡ result_by (class_of p.abstract_syntax) (chosen p.transfer_syntaxes)
default_result = services.default_result

pub default_context : (r : RequestRecord) (id : ℕ) → context_of (offered nothing_additional r) id ≡ option_and_then accepted_by_default (find (λ p. nat_eq p.id id) r.contexts)
default_context = services.default_context

pub native_result : (additional : Allowed) (p : Proposal) → additional.transfers ≡ [] →
    result_of (seen additional p) ≡ result_by (service_of (allowed_syntax additional.classes p.abstract_syntax)) (chosen p.transfer_syntaxes)
native_result = transfers.native_result

pub native_context : (additional : Allowed) (p : Proposal) → additional.transfers ≡ [] →
    accepted (seen additional p) ≡ accepted_by (service_of (allowed_syntax additional.classes p.abstract_syntax)) (option_map native (chosen p.transfer_syntaxes))
native_context = transfers.native_context

pub native_carried : (additional : Allowed) (p : Proposal) → additional.transfers ≡ [] →
    carried (seen additional p) ≡ carried_by (service_of (allowed_syntax additional.classes p.abstract_syntax)) (option_map native (chosen p.transfer_syntaxes))
native_carried = transfers.native_carried

pub native_first : (additional : Allowed) (p : Proposal) (s : Syntax) → chosen p.transfer_syntaxes ≡ Some s → agreed (seen additional p).transfer_syntaxes ≡ Some (native s)
native_first = transfers.native_first
