use Rattle.std.proofs.Common.{◌≡◌, Some, length, map, take}
use Rattle.element.specs.Uid.{uid_of}
use Rattle.arguments.proofs.settings.classes_of.Given as goal

abbrev pub invariant-loop-class : goal.invariant-loop-class
invariant-loop-class l = (length l.uids.items ≡ l.class-index)
    × (map (λ t. uid_of t.now) (take l.class-index l.classes) ≡ map Some l.uids.items)
