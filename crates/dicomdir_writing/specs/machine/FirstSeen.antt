-- The effect of one more key on the list of different keys, and of one more row on the groups of rows and on the rows
-- without duplicates.
use Rattle.std.specs.Prelude.{◌≡◌, ℕ, Bool, cond, not, List, [], ◌∷◌, ◌++◌, map, set, get_or, Vec}
use Rattle.std.specs.List.{list_any, position_or_len}
use Rattle.std.specs.Str.{bytes_eq}
use Rattle.dicomdir_writing.specs.Row.{Row}
use Rattle.dicomdir_writing.specs.TreeOf.{with_key}

abbrev pub texts : {A : Type 0} → List (Vec ℕ A) → List (List ℕ)
texts keys = map (λ v. v.items) keys

abbrev pub is_seen : List ℕ → List (List ℕ) → Bool
is_seen key keys = list_any (bytes_eq key) keys

-- the keys after one more, its index among them, and whether it is new
pub record Sees (key : List ℕ) (keys new : List (List ℕ)) (number : ℕ) (is_new : Bool) : Type 0 where
  pub keys_are : new ≡ with_key key keys
  pub number_is : number ≡ position_or_len (bytes_eq key) keys
  pub newness : is_new ≡ not (is_seen key keys)

abbrev pub put_in : List (List Row) → ℕ → Row → List (List Row)
put_in groups number row = set groups number (get_or groups number [] ++ row ∷ [])

-- the row was appended to the group of its key, a new group if the key is new
pub record Puts (key : List ℕ) (row : Row) (keys new : List (List ℕ)) (groups after : List (List Row)) : Type 0 where
  pub keys_are : new ≡ with_key key keys
  pub groups_are : after ≡ put_in (cond (not (is_seen key keys)) (groups ++ [] ∷ []) groups) (position_or_len (bytes_eq key) keys) row

-- the row was appended to the rows, or its index `at` to the duplicates if its SOP Instance UID is not new
pub record ConsumesRow (at : ℕ) (row : Row) (keys new : List (List ℕ)) (rows after : List Row) (duplicates more : List ℕ) : Type 0 where
  pub keys_are : new ≡ with_key row.instance keys
  pub rows_are : after ≡ cond (is_seen row.instance keys) rows (rows ++ row ∷ [])
  pub duplicates_are : more ≡ cond (is_seen row.instance keys) (duplicates ++ at ∷ []) duplicates
