-- What is consumed waits no more.
use Rattle.std.proofs.Common.{ℕ, arith}
use Rattle.std.proofs.lemmas.List.{length-take, length-drop}
use Rattle.serving.proofs.InboxLosesNothing.{consumed_on}
use Rattle.serving.proofs.inbox.Inbox.drop_front.Goals as goal

pub returns : goal.returns
returns c =
    let inbox = c.args.self.now in
    consumed_on inbox.bytes.value inbox.consumed inbox.read c.args.count (omega (arith, length-take {A = ℕ}, length-drop {A = ℕ}))
