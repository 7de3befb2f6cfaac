-- Person names (PS3.5 table 6.2-1, PN).
use Rattle.std.specs.Prelude.{ℕ, Bool, ◌&&◌, List, length, nat_eq, nat_le}
use Rattle.std.specs.List.{list_all, slice_split}

abbrev pub is_equals : ℕ → Bool
is_equals c = nat_eq c 61

abbrev pub is_caret : ℕ → Bool
is_caret c = nat_eq c 94

-- a component group of at most five components
abbrev pub is_group : List ℕ → Bool
is_group group = nat_le (length (slice_split is_caret group)) 5

-- at most three component groups, each of at most five components
abbrev pub is_name : List ℕ → Bool
is_name text = nat_le (length (slice_split is_equals text)) 3 && list_all is_group (slice_split is_equals text)

abbrev pub groups_are_at_most : ℕ → List ℕ → Bool
groups_are_at_most most text = list_all (λ group. nat_le (length group) most) (slice_split is_equals text)
