use Rattle.std.proofs.Common.{refl, arith}
use Rattle.engine.proofs.HeldBytes.HeldIsExact.{heads_are, held_as}
use Rattle.engine.proofs.AssociationSize.{provider_small}
use Rattle.engine.proofs.association.Association.held.Goals as goal

pub returns-clause-held : goal.returns-clause-held
returns-clause-held g c inputs story failed store h =
    let heads = c.held.ensures in
    rw c.held-2.ensures.value (held_as _ _ _ store _ _ refl refl h.shows (heads_are _ _ store _ _ c.args.self.now.headless heads.held heads.skipping h.shows))

pub held-requires-2 : goal.held-requires-2
held-requires-2 g c = provider_small c.args.self.now.provider

pub returns-clause-room : goal.returns-clause-room
returns-clause-room g c = omega (arith, c.held-2.ensures.room, c.held.ensures.few)

pub returns-clause-accepted_room : goal.returns-clause-accepted_room
returns-clause-accepted_room g c = λ six. let most = c.held-2.ensures.accepted_room six in omega (arith, most, c.held.ensures.few)
