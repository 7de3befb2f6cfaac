use Rattle.pdu.proofs.Public.{pdv_head_bad, pdv_head_done, pdv_head_whole}
use Rattle.pdu.proofs.part_laws.a_pdv_head_is_whole.Goals as goal

pub returns-clause-bad : goal.returns-clause-bad
returns-clause-bad c r d b rest s lt six why = pdv_head_bad r d b rest s lt six why

pub returns-clause-more : goal.returns-clause-more
returns-clause-more c r d b rest s lt six two fits = pdv_head_done r d b rest s lt six two fits

pub returns-clause-none : goal.returns-clause-none
returns-clause-none c r d b rest s le lt six two = pdv_head_whole r d b rest s le lt six two
