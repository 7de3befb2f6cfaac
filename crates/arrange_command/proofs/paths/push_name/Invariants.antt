-- The bytes of the name so far are appended.
use Rattle.std.proofs.Common.{◌≡◌, ◌++◌, take, string_bytes}
use Rattle.arrange_command.proofs.paths.push_name.Given as goal

abbrev pub invariant-loop-byte : goal.invariant-loop-byte
invariant-loop-byte g l = string_bytes l.path ≡ string_bytes l.fn.path ++ take l.byte-index l.bytes
