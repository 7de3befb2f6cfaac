-- The request of an association, and the storage classes that the receiver's configuration adds to those of the
-- dictionary (PS3.8 section 7.1.1; which classes are accepted is this product's own profile).
use Rattle.std.specs.Prelude.{ℕ, List, []}
use Rattle.pdu.specs.Record.{RequestRecord}
use Rattle.pdu.specs.Items as items
use Rattle.negotiate.specs.Contexts.{offered}
use Rattle.negotiate.specs.Allowed.{Allowed, nothing_additional}

-- the UIDs of the added storage classes, and the body of the A-ASSOCIATE-RQ
pub record Requested : Type 0 where
  pub additional : Allowed
  pub body : List ℕ

-- there is no request
abbrev pub no_request : Requested
no_request = record { additional = nothing_additional; body = [] }

-- the request as this receiver reads it: an abstract syntax that it does not accept counts as none
abbrev pub request_record : Requested → RequestRecord
request_record q = offered q.additional (items.request_record q.body)
