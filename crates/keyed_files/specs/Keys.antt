-- The values that were read of a file. This product's own profile.
use Rattle.std.specs.Prelude.{ℕ, Bool, ◌&&◌, List, [], ◌∷◌, length, Option, Some, None, nat_eq, nat_le, slice_range, unwrap_or, if◌then◌else◌}
use Rattle.element.specs.declared.tag.Tag.{Tag}
use Rattle.element.specs.Padding.{is_padding, without_trailing}
use Rattle.keyed_files.specs.declared.keys.FileKeys.{FileKeys}
use Rattle.keyed_files.specs.declared.keys.Start.{Start}

abbrev pub same_tag : Tag → Tag → Bool
same_tag one other = nat_eq one.0 other.0 && nat_eq one.1 other.1

-- the bytes from one offset to another, if there are such bytes
abbrev pub bytes_between : List ℕ → ℕ → ℕ → Option (List ℕ)
bytes_between bytes from to = if nat_le from to && nat_le to (length bytes) then Some (slice_range bytes from to) else None

-- a value ends where the next one begins, or at the end of all bytes
abbrev pub end_before : List Start → List ℕ → ℕ
end_before [] bytes = length bytes
end_before (next ∷ starts) bytes = next.offset

-- the first value with this tag
abbrev pub value_among : List Start → List ℕ → Tag → Option (List ℕ)
value_among [] bytes tag = None
value_among (start ∷ starts) bytes tag =
    if same_tag start.tag tag
    then bytes_between bytes start.offset (end_before starts bytes)
    else value_among starts bytes tag

-- the value with this tag, including padding, if the file has one
abbrev pub file_value : FileKeys → Tag → Option (List ℕ)
file_value keys tag = value_among keys.starts.items keys.bytes.items tag

-- the value with this tag without its padding, empty if the file has none
abbrev pub file_text : FileKeys → Tag → List ℕ
file_text keys tag = without_trailing is_padding (unwrap_or (file_value keys tag) [])
