-- What laws say of the contexts of a request.
use Rattle.std.specs.Prelude.{◌≡◌, ℕ, Option, option_map}
use Rattle.dictionary.specs.Classes.{class_of}
use Rattle.dictionary.specs.Transfers.{native}
use Rattle.pdu.specs.Record.{RequestRecord, Proposal}
use Rattle.negotiate.specs.declared.proposals.Context.{Context}
use Rattle.negotiate.specs.declared.proposals.Service.{Service}
use Rattle.negotiate.specs.declared.proposals.Service.TheVariants.{Known}
use Rattle.negotiate.specs.Contexts.{accepted_by, chosen, context_of, offered, service_of, allowed_syntax}
use Rattle.negotiate.specs.ContextRows.{context_in, context_rows}
use Rattle.negotiate.specs.Allowed.{Allowed}

-- under each presentation context ID the table has the context that the request has there, and none where that has none
abbrev pub TableIsOffered : Allowed → RequestRecord → Type 0
TableIsOffered additional r = (id : ℕ) → context_in additional (context_rows additional (offered additional r)) id ≡ context_of (offered additional r) id

-- the service that a proposed context names, if it is accepted
abbrev pub service_allowed : Allowed → Proposal → Option Service
service_allowed additional p = service_of (allowed_syntax additional.classes p.abstract_syntax)

-- the context as which a proposal is accepted by the dictionary's classes and the native transfer syntaxes alone
abbrev pub accepted_by_default : Proposal → Option Context
accepted_by_default p = accepted_by (option_map Known (class_of p.abstract_syntax)) (option_map native (chosen p.transfer_syntaxes))
