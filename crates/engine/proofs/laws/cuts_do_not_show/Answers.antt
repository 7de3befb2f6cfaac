use Rattle.engine.proofs.AlongTimelines.CutsDoNotShow.{cuts_do_not_show}
use Rattle.engine.proofs.laws.cuts_do_not_show.Goals as goal

pub returns : goal.returns
returns c = cuts_do_not_show
