use Rattle.engine.proofs.AssociationSize.{association_small}
use Rattle.engine.proofs.association.Association.take_next.Goals as goal

pub returns : goal.returns
returns g c = record {
  draft = c.take.ensures.draft;
  settings = c.take.ensures.settings;
  shown = rw c.state.ensures at c.next-input.ensures.shown;
  consumes = record { bytes = _; kind = _; gives = c.next-input.ensures.gives; moved = rw c.piece.ensures at c.take.ensures.moved };
}

pub state-requires : goal.state-requires
state-requires g c = association_small c.args.self.now.provider
