-- The code's result for a head of a PDU, as that of the definitions.
use Rattle.engine.specs.Heads.{HeadEvent, NoEvent, AtOnce, TooLong}
use Rattle.engine.specs.declared.heads.HeadEvent as code
use Rattle.engine.specs.declared.heads.HeadEvent.TheVariants as judged

abbrev pub brings : code.HeadEvent → HeadEvent
brings judged.Nothing = NoEvent
brings (judged.AtOnce event fault) = AtOnce event fault
brings judged.TooLong = TooLong
