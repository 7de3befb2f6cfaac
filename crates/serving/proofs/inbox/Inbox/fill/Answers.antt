-- What is read waits behind what did before.
use Rattle.std.proofs.Common.{rules, ◌≤◌, ℕ, List, ◌++◌, length, take, slice_range, ap, sym, ◌∙◌, arith}
use Rattle.serving.proofs.InboxLosesNothing.{nothing_behind, read_behind}
use Rattle.serving.proofs.inbox.Inbox.fill.Goals as goal

pub returns-in-Ok-clause-reads : goal.returns-in-Ok-clause-reads
returns-in-Ok-clause-reads g c =
    let inbox = c.make_room.new.self in
    let within : inbox.read ≤ length c.deref_mut.result.now = omega arith in
    let room = c.read.new.room in
    let bound = c.in-Ok.ensures.bound in (
      take c.in-Ok.len room,
      sym bound.1,
      read_behind c.deref_mut.result.now room inbox.consumed inbox.read _ c.in-Ok.len inbox.ordered within bound.0
          ∙ (ap (λ (bytes : List ℕ). slice_range bytes inbox.consumed inbox.read ++ take c.in-Ok.len room) c.deref_mut.ensures.value ∙ ap (λ (xs : List ℕ). xs ++ take c.in-Ok.len room) c.make_room.ensures.same),
      c.in-Ok.ensures.traced,
    )

pub returns-in-Ok-eq0-clause-reads : goal.returns-in-Ok-eq0-clause-reads
returns-in-Ok-eq0-clause-reads g c =
    let inbox = c.make_room.new.self in
    let within : inbox.read ≤ length c.deref_mut.result.now = omega arith in (
      nothing_behind c.deref_mut.result.now c.read.new.room inbox.consumed inbox.read _ inbox.ordered within
          ∙ (ap (λ (bytes : List ℕ). slice_range bytes inbox.consumed inbox.read) c.deref_mut.ensures.value ∙ c.make_room.ensures.same),
      search rules,
    )

pub returns-then-eq-clause-reads : goal.returns-then-eq-clause-reads
returns-then-eq-clause-reads g c =
    let inbox = c.make_room.new.self in
    let within : inbox.read ≤ length c.deref_mut.result.now = omega arith in (
      nothing_behind c.deref_mut.result.now c.read.new.room inbox.consumed inbox.read _ inbox.ordered within
          ∙ (ap (λ (bytes : List ℕ). slice_range bytes inbox.consumed inbox.read) c.deref_mut.ensures.value ∙ c.make_room.ensures.same),
      search rules,
    )

pub returns-else-eq-clause-reads : goal.returns-else-eq-clause-reads
returns-else-eq-clause-reads g c =
    let inbox = c.make_room.new.self in
    let within : inbox.read ≤ length c.deref_mut.result.now = omega arith in (
      nothing_behind c.deref_mut.result.now c.read.new.room inbox.consumed inbox.read _ inbox.ordered within
          ∙ (ap (λ (bytes : List ℕ). slice_range bytes inbox.consumed inbox.read) c.deref_mut.ensures.value ∙ c.make_room.ensures.same),
      search rules,
    )
