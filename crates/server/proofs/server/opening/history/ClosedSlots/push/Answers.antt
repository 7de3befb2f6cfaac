-- One slot more that was closed.
use Rattle.std.proofs.Common.{subst, sym}
use Rattle.std.proofs.Math.Logic.{∥∥₁_map}
use Rattle.std.proofs.lemmas.List.Elements.{All-push}
use Rattle.std.specs.List.{All}
use Rattle.server.specs.Histories.{AllEnded}
use Rattle.server.proofs.server.opening.history.ClosedSlots.push.Goals as goal

pub invariant_of-self : goal.invariant_of-self
invariant_of-self g c = record { each = ∥∥₁_map c.args.self.now.each (λ all. subst (All (AllEnded g.F.Filing.store g.F.Settling.has_pending g.P.Policy.allows g.P.Policy.configuration)) (sym c.push.ensures) (All-push (AllEnded g.F.Filing.store g.F.Settling.has_pending g.P.Policy.allows g.P.Policy.configuration) _ _ all c.requires)) }
