-- A sum over the phase.
use Rattle.std.proofs.Common.{arith}
use Rattle.engine.proofs.provider.Provider.held.Goals as goal

pub returns-in-AwaitingRequest : goal.returns-in-AwaitingRequest
returns-in-AwaitingRequest g c =
    let room = rw c.in-AwaitingRequest.is at c.args.self.now.room in
    rw c.in-AwaitingRequest.is (record { value = omega (arith, c.len.ensures.value); room = omega (arith, room, c.len.ensures.value); accepted_room = λ six. absurd cc })

pub returns-in-Established : goal.returns-in-Established
returns-in-Established g c =
    let room = rw c.in-Established.is at c.args.self.now.room in
    rw c.in-Established.is (record { value = omega (arith, c.held.ensures.value, c.held-in-Established.ensures.value); room = omega (arith, room, c.held.ensures.value, c.held-in-Established.ensures.bound); accepted_room = λ six. omega (arith, c.held.ensures.bound, c.held-in-Established.ensures.bound) })
