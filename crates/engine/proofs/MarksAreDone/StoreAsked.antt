-- A request that announces a data set is a C-STORE (`store_if_data`) of an instance (`instance_if_data`), and the other way
-- round (`data_if_store`). Stands on the definitions alone.
use Rattle.std.proofs.Common.{◌≡◌, ◌∙◌, ℕ, Bool, true, false, not, ◌&&◌, List, Option, None, Some, nat_eq, refl, ap, sym, arith}
use Rattle.std.proofs.lemmas.Grind.{common_steps}
use Rattle.std.proofs.lemmas.Bool.Decides.{nat_tests}
use Rattle.acceptor.specs.declared.state.State.{State}
use Rattle.acceptor.specs.declared.state.State.TheVariants.{Sta6}
use Rattle.dimse.specs.Command.{is_request}
use Rattle.engine.specs.Progress.{is_established}
use Rattle.engine.specs.Kept.{Kept, accepts_pdvs_in}

-- a request that announces a data set is a C-STORE
pub store_if_data : (field : ℕ) (announced : Bool) (instance : Option (List ℕ)) → is_request field announced instance ≡ true → announced ≡ true → field ≡ 1
store_if_data field announced None r d = by (nat_eq field 0x0030) announced r d where
  by : (t a : Bool) → (t && not a) ≡ true → a ≡ true → field ≡ 1
  by t a h k = grind (arith, common_steps)
store_if_data field announced (Some instance) r d = by (nat_eq field 0x0001) refl announced r where
  by : (t : Bool) → nat_eq field 0x0001 ≡ t → (a : Bool) → (t && a) ≡ true → field ≡ 1
  by true is a x = grind (arith, nat_tests)
  by false is a x = absurd cc

-- and names an instance
pub instance_if_data : {P : Type 0} → (field : ℕ) (announced : Bool) (instance : Option (List ℕ)) → None ≡ instance → is_request field announced instance ≡ true → announced ≡ true → P
instance_if_data {P = P} field announced None e r d = by (nat_eq field 0x0030) announced r d where
  by : (t a : Bool) → (t && not a) ≡ true → a ≡ true → P
  by t a h k = grind (arith, common_steps)
instance_if_data {P = P} field announced (Some instance) e r d = absurd cc

-- a request that is a C-STORE announces one
pub data_if_store : {P : Type 0} → (field : ℕ) (announced : Bool) (instance : Option (List ℕ)) → is_request field announced instance ≡ true → field ≡ 1 → announced ≡ false → P
data_if_store field announced None r one without = absurd (let x = rw one at r in cc)
data_if_store field announced (Some instance) r one without = absurd (let x = rw (one, without) at r in cc)

-- where PDVs count for nothing
pub not_accepting : {P : Type 0} → (k : Kept) → accepts_pdvs_in k ≡ false → k.state ≡ Sta6 → k.refused ≡ false → P
not_accepting k none six kept = absurd (let wrong : true ≡ false = sym (ap (λ (st : State). is_established st && not k.refused) six ∙ ap not kept) ∙ none in cc)
