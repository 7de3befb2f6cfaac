-- The settings of the receiver (this product's own profile).
use Rattle.std.specs.Prelude.{ℕ, ◌^◌, Bool, true, false, List, [], ◌∷◌, ◌++◌, map, option_map, unwrap_or}
use Rattle.dictionary.specs.StorageClasses.{storage_classes}
use Rattle.negotiate.specs.declared.config.Config.{Config}
use Rattle.negotiate.specs.Allowed.{Allowed, nothing_additional}

-- the called titles, the receiver's own first, and whether any other is accepted, too; the titles that may call; each
-- of 16 bytes; the greatest P-DATA length that it announces; the greatest data set that it accepts; and what it accepts
-- in addition
pub record Settings : Type 0 where
  pub called : List (List ℕ)
  pub any_called : Bool
  pub callers : List (List ℕ)
  pub max_pdu : ℕ
  pub max_data : ℕ
  pub additional : Allowed

-- all storage classes of the standard, or none of them
abbrev pub registered : Bool → List (List ℕ)
registered true = map (λ row. row.uid) storage_classes
registered false = []

-- the settings of a configuration
abbrev pub settings_of : Config → Settings
settings_of c = record {
  called = c.ae.0 ∷ map (λ t. t.0) c.also.items;
  any_called = c.any_called;
  callers = unwrap_or (option_map (λ titles. map (λ t. t.0) titles.items) c.callers) [];
  max_pdu = c.max_pdu;
  max_data = c.max_data;
  additional = record { classes = map (λ t. t.items) c.named.items ++ registered c.all_storage; transfers = c.transfers.items };
}

-- the default maximum length of a P-DATA-TF PDU; that of a data set follows
abbrev pub default_max_pdu : ℕ
default_max_pdu = 16384

abbrev pub default_max_data : ℕ
default_max_data = 2 ^ 40

-- the settings of a receiver of this title that any title may call, and that accepts nothing in addition
abbrev pub settings_by_default : (ae : List ℕ) → (max_pdu : ℕ) → (max_data : ℕ) → Settings
settings_by_default ae max_pdu max_data = record {
  called = ae ∷ [];
  any_called = false;
  callers = [];
  max_pdu = max_pdu;
  max_data = max_data;
  additional = nothing_additional;
}
