-- What each action sends and does to the ARTIM timer (PS3.8 section 9.2.2, Tables 9-6 to 9-9).
use Rattle.std.specs.Prelude.{ℕ, Bool, true, false, List, []}
use Rattle.acceptor.specs.declared.state.State.{State}
use Rattle.acceptor.specs.declared.state.State.TheVariants.{Sta2, Sta13}
use Rattle.acceptor.specs.declared.action.Action.{Action}
use Rattle.acceptor.specs.declared.action.Action.TheVariants.{Ae5, Ae6, Ae7, Ae8, Ar4, Ar5, Aa1, Aa2, Aa5, Aa7, Aa8}
use Rattle.acceptor.specs.declared.effect.Sending.{Sending}
use Rattle.acceptor.specs.declared.effect.Sending.TheVariants.{Nothing, Answer, ReleaseResponse, Abort}
use Rattle.acceptor.specs.declared.effect.Timer.{Timer}
use Rattle.acceptor.specs.declared.effect.Timer.TheVariants.{Starts, Stops, Continues}

-- what the action sends if it leads to this state; `reason` is the reason field of an A-ABORT of the service provider
-- e.g. sending Aa8 Sta13 2 ≡ Abort 2 2
abbrev pub sending : Action → State → ℕ → Sending
sending Ae6 Sta13 reason = Answer
sending Ae7 next reason = Answer
sending Ae8 next reason = Answer
sending Ar4 next reason = ReleaseResponse
sending Aa1 next reason = Abort 0 0
sending Aa7 next reason = Abort 2 reason
sending Aa8 next reason = Abort 2 reason
sending action next reason = Nothing

-- the bytes that are sent, given those of the A-ASSOCIATE-AC or A-ASSOCIATE-RJ, of an A-RELEASE-RP, and of an A-ABORT
-- with its source and reason
-- e.g. bytes_sent (1 ∷ []) (2 ∷ []) (λ s r. s ∷ r ∷ []) (Abort 2 6) ≡ 2 ∷ 6 ∷ []
abbrev pub bytes_sent : (answer release : List ℕ) → (abort : ℕ → ℕ → List ℕ) → Sending → List ℕ
bytes_sent answer release abort Nothing = []
bytes_sent answer release abort Answer = answer
bytes_sent answer release abort ReleaseResponse = release
bytes_sent answer release abort (Abort source reason) = abort source reason

-- what the action does to the ARTIM timer if it leads to this state
abbrev pub timer : Action → State → Timer
timer Ae5 next = Starts
timer Ae6 Sta13 = Starts
timer Ae6 next = Stops
timer Ae8 next = Starts
timer Ar4 next = Starts
timer Ar5 next = Stops
timer Aa1 next = Starts
timer Aa2 next = Stops
timer Aa5 next = Stops
timer Aa8 next = Starts
timer action next = Continues

-- whether the ARTIM timer runs afterwards, given whether it was running before
abbrev pub runs_after : Timer → (running : Bool) → Bool
runs_after Starts running = true
runs_after Stops running = false
runs_after Continues running = running

-- whether the ARTIM timer runs in this state (PS3.8 section 9.1.5)
abbrev pub timer_runs : State → Bool
timer_runs Sta2 = true
timer_runs Sta13 = true
timer_runs state = false
