use Rattle.std.proofs.Common.{◌≡◌, true, take, subst, sym}
use Rattle.std.specs.List.{list_all}
use Rattle.journal.specs.Printable as spelling
use Rattle.journal.proofs.ShownTextIsPrintable.{shown_after}
use Rattle.journal.proofs.text.Text.add.Goals as goal

pub invariant_of-self : goal.invariant_of-self
invariant_of-self g c =
    (c.self.invariant.0, subst (λ bytes. list_all spelling.is_printable bytes ≡ true) (sym c.push_shown.ensures) (shown_after c.self.inside.text.bytes (take c.min-room.result c.args.bytes.now) c.self.invariant.1))
