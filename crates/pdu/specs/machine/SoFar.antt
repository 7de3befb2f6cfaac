-- The state of the check of a request's items, from the items before.
use Rattle.std.specs.Prelude.{◌≡◌, ℕ, ◌<◌, false, List, get_or}
use Rattle.std.specs.List.{list_any}
use Rattle.pdu.specs.Types.{application_context_item, proposed_context_item, user_information_item}
use Rattle.pdu.specs.declared.checking.ItemsSoFar.{ItemsSoFar}
use Rattle.pdu.specs.Items.{is_kind, items_of, remainder}
use Rattle.pdu.specs.Refusal.{has_id, list_fault, items_fault}

pub record Knows (s : ItemsSoFar) (before : List (List ℕ)) : Type 0 where
  pub application : s.application ≡ list_any (is_kind application_context_item) before
  pub information : s.information ≡ list_any (is_kind user_information_item) before
  pub context : s.context ≡ list_any (is_kind proposed_context_item) before
  pub ids : (id : ℕ) → id < 256 → get_or s.ids id false ≡ list_any (has_id id) before

-- with the items that are known, the items of the rest have the fault that the items of the whole text have
pub record Checks (s : ItemsSoFar) (rest text : List ℕ) : Type 0 where
  pub before : List (List ℕ)
  pub knows : Knows s before
  pub same : list_fault before (items_of rest) (remainder rest) ≡ items_fault text
