-- The path so far, and that which the rest of the pattern gives, are the whole path.
use Rattle.std.proofs.Common.{◌≡◌, ◌++◌, ◌∷◌, drop, string_bytes}
use Rattle.keyed_files.specs.Keys.{file_value}
use Rattle.arrange_command.specs.Patterns.{path_after, path_for}
use Rattle.arrange_command.proofs.paths.path_of.Given as goal

abbrev pub invariant-loop-part : goal.invariant-loop-part
invariant-loop-part g l = string_bytes l.path ++ path_after (file_value l.keys) l.name.items (drop l.part-index l.parts)
    ≡ l.tree ++ 47 ∷ path_for l.keys l.parts
