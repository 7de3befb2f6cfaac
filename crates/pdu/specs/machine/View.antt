-- The record of a request, from the fields of `Request`, which borrow from its body.
use Rattle.pdu.specs.declared.request.Request.TheInside.{Inside}
use Rattle.pdu.specs.Record.{RequestRecord}
use Rattle.pdu.specs.Items.{items_of, proposals}

abbrev pub asked : Inside → RequestRecord
asked r = record {
  version = r.version;
  called = r.called.0;
  calling = r.calling.0;
  reserved = r.reserved.now;
  application_context = r.application_context.now;
  contexts = proposals (items_of r.items.now);
  maximum = r.maximum;
}
