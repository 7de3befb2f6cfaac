-- Where those before it have other numbers, the connection with this number leaves the queue, and the others stay in it in
-- their order (`leaves`). Stands on FirstAdmittedGetsSlot.
use Rattle.std.proofs.Common.{◌≡◌, ℕ, suc, ◌<◌, List, ◌∷◌, ◌++◌, length, take, drop, get_or, sym, ap, ◌∙◌}
use Rattle.std.specs.List.{remove}
use Rattle.admitting.specs.declared.queue.Waiter.{Waiter}
use Rattle.admitting.specs.Queues.{AllHaveOthers, HasRemaining}
use Rattle.admitting.proofs.FirstAdmittedGetsSlot.{around}

pub leaves : {T : Type 0} (waiters remaining : List (Waiter T)) (waiter : Waiter T) (number at : ℕ) → at < length waiters → waiter ≡ get_or waiters at waiter → remaining ≡ remove waiters at
    → AllHaveOthers number (take at waiters) → ((d : Waiter T) → (get_or waiters at d).number ≡ number) → HasRemaining number waiters remaining
leaves waiters remaining waiter number at lt is rest passed named = record {
  before = take at waiters;
  after = drop (suc at) waiters;
  gone = waiter;
  was = around waiters waiter at lt ∙ ap (λ (w : Waiter _). take at waiters ++ w ∷ drop (suc at) waiters) (sym is);
  is = rest;
  passed = passed;
  named = ap (λ (w : Waiter _). w.number) is ∙ named waiter;
}
