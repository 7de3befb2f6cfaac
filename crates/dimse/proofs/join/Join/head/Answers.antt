use Rattle.std.proofs.Common.{refl, sym, ap, ◌∙◌}
use Rattle.dimse.specs.Joining.{Joining}
use Rattle.dimse.proofs.JoinShowsTheMessage.{first_head, later_head, no_fault}
use Rattle.dimse.proofs.join.Join.head.Goals as goal
use Rattle.dimse.proofs.join.Join.head.Goals.{in-Between, in_default-stage}

pub returns-clause-started : goal.returns-clause-started
returns-clause-started g c first bytes o six e =
    let was = c.self.inside in
    let shown = ap (λ (j : Joining). j.message) (sym c.self.view_is) in
    let fine = sym c.refusal.ensures ∙ no_fault c.refusal.result c.in_default.not-Some in
    elim c.match-self.branch [
      | in-Between w ↦
          rw w.self-inside-is
          (first_head g.row.C first c.args.self.now.message bytes c.args.head.now was.stage _ was.context _ _ was.command.items _ shown w.in-Between.is refl refl w.clear.ensures o six e
          c.saturating_sub-self-inside.ensures fine)
      | in_default-stage w ↦
          rw w.self-inside-is
          (later_head g.row.C first c.args.self.now.message bytes c.args.head.now was.stage was.context _ was.command.items shown w.in_default-stage.not-Between o six e c.saturating_sub-self-inside.ensures fine)
    ]
