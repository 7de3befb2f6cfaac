use Rattle.std.proofs.Common.{sym, ◌∙◌}
use Rattle.negotiate.specs.Answer.{same_title}
use Rattle.negotiate.proofs.AcceptedPeersTakeFragments.{list_any-map}
use Rattle.negotiate.proofs.answer.is_among.Goals as goal

pub returns : goal.returns
returns c =
    c.contains.ensures.value ∙ sym (list_any-map (λ title. same_title title c.args.title.0) (λ t. t.0) c.args.titles.now)
