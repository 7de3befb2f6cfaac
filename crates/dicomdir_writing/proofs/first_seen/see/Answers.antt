use Rattle.std.proofs.Common.{arith}
use Rattle.std.proofs.lemmas.List.{length-map}
use Rattle.dicomdir_writing.proofs.GroupsKeepSeenOrder.{sees}
use Rattle.dicomdir_writing.proofs.first_seen.see.Goals as goal

pub returns : goal.returns
returns g c = record {
  sees = sees c.args.key.now c.args.seen.now.keys c.insert_full.new.self.keys c.in_ok-key.key c.in_ok-placed.placed.0 c.in_ok-placed.placed.1 c.in_ok-key.ensures.items c.in_ok-placed.ensures.keys c.in_ok-placed.ensures.index c.in_ok-placed.ensures.added;
  within = let within = c.in_ok-placed.ensures.within in omega (arith, within, length-map c.insert_full.new.self.keys (λ v. v.items));
}
