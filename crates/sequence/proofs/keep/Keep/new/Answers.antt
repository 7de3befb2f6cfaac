use Rattle.std.proofs.Common.{◌∙◌, ap, sym, length, arith}
use Rattle.sequence.proofs.WantedValues.OneRoom.{absent_stored, all_new}
use Rattle.sequence.proofs.keep.Keep.new.Goals as goal

pub invariant_of-result : goal.invariant_of-result
invariant_of-result g c =
    let f = all_new c.args.wanted.list.items 16 in
    record { greatest = c.requires.greatest; fit = c.requires.fit; short = omega (arith, c.requires.fit, ap length c.new.ensures); stored = f.fit; counted = f.size ∙ sym (ap length c.new.ensures); latest = f.latest }

pub returns-clause-values : goal.returns-clause-values
returns-clause-values g c = absent_stored c.args.wanted.list.items _ c.new.result.items (all_new c.args.wanted.list.items 16).all
