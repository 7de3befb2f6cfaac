use Rattle.std.proofs.Common.{reverse}
use Rattle.dicomdir.proofs.Trails.{lower_none}
use Rattle.dicomdir.proofs.links.step_after.Goals as goal

pub returns : goal.returns
returns g c = record {
  continues = λ links level marks named counted below shown.
      lower_none links (reverse c.args.trail.now.items) (reverse c.climb.new.trail.items) c.climb.result c.args.entry.now.lower c.if-entry-ne0.false named
      (c.climb.ensures.climbs links marks);
}
