use Rattle.element.proofs.Public.{need_is, is_need, size_eight, more_short, refused_long}
use Rattle.element.proofs.header_laws.a_size_has_its_case.Goals as goal

pub returns : goal.returns
returns c = record { cases = need_is; back = is_need; least = λ s b k e. size_eight e; more = λ s b e. more_short e; refused = refused_long }
