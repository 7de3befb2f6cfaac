-- What an event needs to be answered: the bytes of the answer to an association request, and the reason of an abort.
use Rattle.std.specs.Prelude.{ℕ, List, []}
use Rattle.pdu.specs.Texts.{reject_text}
use Rattle.negotiate.specs.Rejections.{rejected_transient, service_provider_presentation, local_limit_exceeded}
use Rattle.negotiate.specs.Settings.{settings_of}
use Rattle.negotiate.specs.Accept.{answer_bytes}
use Rattle.engine.specs.declared.sending.Answering.{Answering}
use Rattle.engine.specs.declared.sending.Answering.TheVariants as answering
use Rattle.acceptor.specs.declared.event.Event.{Event}
use Rattle.engine.specs.declared.sending.Reaction.{Reaction}
use Rattle.engine.specs.declared.sending.Reaction.TheVariants as due
use Rattle.engine.specs.Progress.{Progress, Advance, nothing, done}
use Rattle.engine.specs.Run.{released}

abbrev pub answer_text : Answering → List ℕ
answer_text answering.Nothing = []
answer_text (answering.Abort reason) = []
answer_text answering.TooLong = reject_text rejected_transient service_provider_presentation local_limit_exceeded
answer_text (answering.Request config request) = answer_bytes (settings_of config.now) request.now

abbrev pub reason_of : Answering → ℕ
reason_of (answering.Abort reason) = reason
reason_of other = 0

-- the effect of an event that is answered so
abbrev pub done_by : Answering → Event → Progress → Advance
done_by a event p = done (answer_text a) (reason_of a) p event

-- the effect of this reaction in this state of the timeline
abbrev pub due_at : Reaction → Progress → Advance
due_at due.Nothing p = nothing p
due_at (due.Perform event a) p = done_by a event p
due_at due.Release p = released p
