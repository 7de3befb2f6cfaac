use Rattle.pdu.proofs.TokensIgnoreTheCut.{marks_of_tokens}
use Rattle.pdu.proofs.deframer_laws.tokens_have_the_marks.Goals as goal

pub returns : goal.returns
returns c = marks_of_tokens
