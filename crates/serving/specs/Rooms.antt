-- The limits of each association of the program.
use Rattle.engine.specs.Run.{Rooms}

-- the limits of each association of the program, as `Rooms`
-- e.g. served_rooms.command ≡ 1024; served_rooms.depth ≡ 64
abbrev pub served_rooms : Rooms
served_rooms = record { request = 65536; command = 1024; values = 256; depth = 64 }
