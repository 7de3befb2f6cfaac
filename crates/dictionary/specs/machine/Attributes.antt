-- What a look-up of the code returns for a tag, and what the registry has for it.
use Rattle.std.specs.Prelude.{ℕ, List, Option, Some, None}
use Rattle.std.specs.Option.{option_map}
use Rattle.dictionary.specs.declared.tags.Attribute.{Attribute}
use Rattle.dictionary.specs.Tags.{row_of}

-- the VR and the keyword of a tag
abbrev pub attribute_value : Option Attribute → Option (List ℕ × List ℕ)
attribute_value None = None
attribute_value (Some attribute) = Some (attribute.vr, attribute.keyword.now)

abbrev pub registered : ℕ → ℕ → Option (List ℕ × List ℕ)
registered group element = option_map (λ row. (row.vr, row.name)) (row_of group element)
