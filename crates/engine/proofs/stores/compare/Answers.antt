use Rattle.std.proofs.Common.{sym, subst}
use Rattle.sequence.specs.Consumed.{reported_by}
use Rattle.engine.specs.declared.stores.StoreStatus.{StoreStatus}
use Rattle.engine.specs.Stores.{NamesUid, class_tag}
use Rattle.engine.specs.machine.Storing.{finding_of}
use Rattle.engine.specs.machine.Verdicts.{Differs, other_class, other_instance}
use Rattle.engine.proofs.stores.compare.Goals as goal

pub returns-then-not-names : goal.returns-then-not-names
returns-then-not-names g c =
    subst (λ (s : StoreStatus). Differs (reported_by c.args.walker.now).kept c.args.command.now (finding_of s)) (sym c.caused.ensures)
    (other_class (λ n. c.names.ensures.no c.if-not-names.true (subst (NamesUid (reported_by c.args.walker.now).kept class_tag) (sym c.class.ensures.value) n)))

pub returns-then-not-names_instance : goal.returns-then-not-names_instance
returns-then-not-names_instance g c =
    subst (λ (s : StoreStatus). Differs (reported_by c.args.walker.now).kept c.args.command.now (finding_of s)) (sym c.caused-then-not-names_instance.ensures)
    (other_instance (subst (NamesUid (reported_by c.args.walker.now).kept class_tag) c.class.ensures.value (c.names.ensures.yes c.if-not-names.false)) (c.names_instance.ensures.no c.if-not-names_instance.true))

pub returns : goal.returns
returns g c = (subst (NamesUid (reported_by c.args.walker.now).kept class_tag) c.class.ensures.value (c.names.ensures.yes c.if-not-names.false), c.names_instance.ensures.yes c.if-not-names_instance.false)
