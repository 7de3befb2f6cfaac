-- The table of the accepted presentation contexts, which is kept when the request is dropped (this product's own
-- profile).
use Rattle.std.specs.Prelude.{ℕ, List, Option, Some, None, nat_eq, option_map, option_and_then, slice_get}
use Rattle.std.specs.List.{count_by, filter_map, find, position_from}
use Rattle.element.specs.Uid.{uid_of}
use Rattle.dictionary.specs.declared.class.Class.TheVariants.{Verification}
use Rattle.dictionary.specs.declared.transfer.Transfer.TheVariants.{Implicit}
use Rattle.pdu.specs.Record.{RequestRecord, Proposal}
use Rattle.negotiate.specs.declared.proposals.Context.{Context}
use Rattle.negotiate.specs.declared.proposals.Service.{Service}
use Rattle.negotiate.specs.declared.proposals.Service.TheVariants as service
use Rattle.negotiate.specs.declared.table.ContextRow.{ContextRow}
use Rattle.negotiate.specs.declared.table.RowClass.{RowClass}
use Rattle.negotiate.specs.declared.table.RowClass.TheVariants as row
use Rattle.negotiate.specs.Contexts.{acceptance, accepted, additional_by, is_text, result_of}
use Rattle.negotiate.specs.Allowed.{Allowed}

abbrev pub or_first : Option ℕ → ℕ
or_first None = 0
or_first (Some index) = index

-- the index of an additional storage class among those that are accepted, by which a row names it
abbrev pub index_of : List (List ℕ) → List ℕ → Option ℕ
index_of additional uid = position_from (is_text uid) 0 additional

abbrev pub class_in_row : Allowed → Service → RowClass
class_in_row additional (service.Known class) = row.Known class
class_in_row additional (service.Additional uid) = row.Additional (or_first (index_of additional.classes uid))

abbrev pub row_with : Allowed → ℕ → Context → ContextRow
row_with additional id context = record { id = id; class = class_in_row additional context.class; syntax = context.syntax }

-- the row of a proposed context, if it is accepted
abbrev pub row_of : Allowed → Proposal → Option ContextRow
row_of additional p = option_map (row_with additional p.id) (accepted p)

-- the table: a row for each accepted context, in the request's order
abbrev pub context_rows : Allowed → RequestRecord → List ContextRow
context_rows additional r = filter_map (row_of additional) r.contexts

-- how many of the proposed contexts are accepted
abbrev pub accepted_count : RequestRecord → ℕ
accepted_count r = count_by (λ p. nat_eq (result_of p) acceptance) r.contexts

abbrev pub service_at : Option (List ℕ) → Option Service
service_at None = None
service_at (Some text) = additional_by (uid_of text)

abbrev pub service_in : Allowed → RowClass → Option Service
service_in additional (row.Known class) = Some (service.Known class)
service_in additional (row.Additional index) = service_at (slice_get additional.classes index)

abbrev pub context_with : ContextRow → Option Service → Option Context
context_with row None = None
context_with row (Some class) = Some (record { class = class; syntax = row.syntax })

abbrev pub context_by : Allowed → ContextRow → Option Context
context_by additional row = context_with row (service_in additional row.class)

-- the context of this id in a table
abbrev pub context_in : Allowed → List ContextRow → ℕ → Option Context
context_in additional rows id = option_and_then (context_by additional) (find (λ row. nat_eq row.id id) rows)

-- the value of the unused rows of a table
abbrev pub no_row : ContextRow
no_row = record { id = 0; class = row.Known Verification; syntax = Implicit }
