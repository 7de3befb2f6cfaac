use Rattle.std.proofs.Common.{◌+◌, ◌≤◌, length, sym, subst, arith}
use Rattle.arrayvec.specs.ArrayVec.{array_vec_len}
use Rattle.dimse.specs.Joining.{Joining, ShowsMessage}
use Rattle.dimse.proofs.JoinShowsTheMessage.{part_shown, command_part, other_part, consumed}
use Rattle.dimse.proofs.join.Join.take.Goals as goal
use Rattle.dimse.proofs.join.Join.take.Goals.{in-Command, in_default}

pub returns-clause-shows : goal.returns-clause-shows
returns-clause-shows g c first started h =
    let was = c.self.inside in
    let now = subst (λ (j : Joining). ShowsMessage g.row.C j first started) (sym c.self.view_is) h in
    let fits : length c.args.part.now ≤ was.remaining = subst (λ (j : Joining). length c.args.part.now ≤ j.remaining) (sym c.self.view_is) c.requires in
    let part = part_shown g.row.C first started c.args.part.now was.stage was.context was.remaining was.last was.command.items now fits in
    elim c.match-self.branch [
      | in-Command w ↦
          let room : array_vec_len was.command + length c.args.part.now ≤ g.row.C = omega (arith, c.self.invariant w.in-Command.is) in
          let all = consumed w.try_extend_from_slice-consumed.result (w.try_extend_from_slice-consumed.ensures.variant.1 room) w.try_extend_from_slice-consumed.ensures.ok in
          rw (w.self-inside-is, all) (rw (command_part was.stage was.command.items c.args.part.now w.in-Command.is) at part)
      | in_default w ↦ rw w.self-inside-is (rw (other_part was.stage was.command.items c.args.part.now w.in_default.not-Command) at part)
    ]
