use Rattle.std.proofs.Common.{rules, ◌≡◌, ◌∙◌, ◌+◌, ◌-◌, ◌≤◌, ◌++◌, length, take, ap, sym}
use Rattle.sending.proofs.BufferHasFragment.{read_after, after_front}
use Rattle.sending.proofs.buffers.Buffers.read_front.Goals as goal

pub returns-in-Ok : goal.returns-in-Ok
returns-in-Ok g c =
    let count = c.in_ok-count.count in
    let first = c.args.self.now.first in
    let room = c.fill.new.room in
    let rest = c.read_any_meta.new.input.now in
    let found = c.in-Ok.ensures.header in
    let headed : 12 ≤ length first = search rules in
    let parts : take count room ≡ found.0 ++ rest = sym (read_after 12 (12 + c.args.size - 12) count first room headed c.in_ok-count.ensures.within) ∙ found.2 in
    record {
      front = (
        found.0,
        found.1,
        rw c.requires.unread at c.in_ok-count.ensures.read ∙ parts ∙ ap (λ t. found.0 ++ t) (sym (after_front 12 (12 + c.args.size - 12) count first room found.0 rest headed c.in_ok-count.ensures.within parts)),
      );
    }
