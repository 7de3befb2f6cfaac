use Rattle.engine.proofs.AlongTimelines.TimelineGrows.{entries_append}
use Rattle.engine.proofs.laws.timeline_only_grows.Goals as goal

pub returns : goal.returns
returns c = entries_append
