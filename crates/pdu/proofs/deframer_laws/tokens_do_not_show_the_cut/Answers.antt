use Rattle.pdu.proofs.TokensIgnoreTheCut.{tokens_then, tokens_rest}
use Rattle.pdu.proofs.deframer_laws.tokens_do_not_show_the_cut.Goals as goal

pub returns : goal.returns
returns c = record { both = tokens_then; rest = tokens_rest }
