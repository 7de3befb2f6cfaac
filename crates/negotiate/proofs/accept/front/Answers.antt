use Rattle.negotiate.proofs.FrontIsItsParts.{front_is}
use Rattle.negotiate.proofs.accept.front.Goals as goal

pub returns-clause-items : goal.returns-clause-items
returns-clause-items c =
    front_is c.args.length c.args.request.now _ _ _ _ _ _ _ _ _ _ c.new-front.ensures c.head.ensures c.called.ensures c.calling.ensures c.reserved.ensures.value c.extend.ensures c.extend-2.ensures c.extend-3.ensures c.extend-4.ensures c.extend_by_item.ensures
