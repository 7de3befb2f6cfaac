-- Where those before it get none, the next waiter that is admitted gets the slot, and the others stay in the queue in
-- their order (`gets`). Stands on the definitions alone.
use Rattle.std.proofs.Common.{◌≡◌, ℕ, zero, suc, ◌<◌, List, [], ◌∷◌, ◌++◌, length, take, drop, get_or, refl, sym, ap, subst, ◌∙◌, arith}
use Rattle.std.specs.List.{remove}
use Rattle.admitting.specs.declared.slots.Admission.TheVariants as admission
use Rattle.admitting.specs.declared.queue.Waiter.{Waiter}
use Rattle.admitting.specs.Occupants.{Occupants, Admits}
use Rattle.admitting.specs.Queues.{AllGetNone, GetsSlot}

-- each stands between those before it and those after it
pub around : {T : Type 0} (waiters : List (Waiter T)) (d : Waiter T) (at : ℕ) → at < length waiters → waiters ≡ take at waiters ++ get_or waiters at d ∷ drop (suc at) waiters
around [] d at lt = absurd (omega (arith, lt))
around (w ∷ ws) d zero lt = refl
around (w ∷ ws) d (suc at) lt = ap (λ (xs : List (Waiter _)). w ∷ xs) (around ws d at (omega (arith, lt)))

pub gets : {T : Type 0} (waiters remaining : List (Waiter T)) (occupants occupants_new : Occupants) (waiter : Waiter T) (at slot : ℕ) → at < length waiters → waiter ≡ get_or waiters at waiter → remaining ≡ remove waiters at → AllGetNone occupants (take at waiters)
    → Admits (get_or waiters at waiter).peer occupants occupants_new (admission.Slot slot) → GetsSlot waiters remaining occupants occupants_new waiter slot
gets waiters remaining occupants occupants_new waiter at slot lt is rest passed admits = record {
  before = take at waiters;
  after = drop (suc at) waiters;
  was = around waiters waiter at lt ∙ ap (λ (w : Waiter _). take at waiters ++ w ∷ drop (suc at) waiters) (sym is);
  is = rest;
  passed = passed;
  admits = subst (λ (w : Waiter _). Admits w.peer occupants occupants_new (admission.Slot slot)) (sym is) admits;
}
