-- The sizes of the fixed parts of PDUs, of presentation data values and of items (PS3.8 section 9.3).
use Rattle.std.specs.Prelude.{ℕ}

-- the head of a PDU: its type, a reserved byte, and the length of its body in four bytes
abbrev pub head_size : ℕ
head_size = 6

-- the head of a presentation data value: its length in four bytes, its context and its control byte
abbrev pub pdv_head_size : ℕ
pdv_head_size = 6

-- the context and the control byte, which the length of a presentation data value counts with its fragment
abbrev pub pdv_least : ℕ
pdv_least = 2

-- the bodies of A-ASSOCIATE-RJ, A-RELEASE-RQ, A-RELEASE-RP and A-ABORT
abbrev pub short_body : ℕ
short_body = 4

-- the fixed part of an A-ASSOCIATE-RQ's body: the version, two titles and reserved bytes
abbrev pub request_head_size : ℕ
request_head_size = 68

-- how many bytes an AE title has
abbrev pub title_size : ℕ
title_size = 16

-- the head of an item: its type, a reserved byte, and the length of its content in two bytes
abbrev pub item_head_size : ℕ
item_head_size = 4

-- the size of the head of a proposed presentation context item: that of an item, with its ID and three reserved bytes
abbrev pub context_head_size : ℕ
context_head_size = 8
