-- What the iterators over a request's items have still to yield.
use Rattle.std.specs.Prelude.{ℕ, List}
use Rattle.pdu.specs.declared.contexts.Contexts.{Contexts}
use Rattle.pdu.specs.declared.syntaxes.TransferSyntaxes.{TransferSyntaxes}
use Rattle.pdu.specs.Record.{Proposal}
use Rattle.pdu.specs.Items.{items_of, proposals, syntaxes}

abbrev pub proposals_remaining : Contexts → List Proposal
proposals_remaining c = proposals (items_of c.items.rest.now)

abbrev pub syntaxes_remaining : TransferSyntaxes → List (List ℕ)
syntaxes_remaining t = syntaxes (items_of t.items.rest.now)
