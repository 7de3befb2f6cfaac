-- The contents of an association request (PS3.8 section 9.3.2).
use Rattle.std.specs.Prelude.{ℕ, List, map}

-- a proposed presentation context: its ID, the abstract syntax, and the transfer syntaxes in their order, each UID
-- without trailing zero bytes and spaces
pub record Proposal : Type 0 where
  pub id : ℕ
  pub abstract_syntax : List ℕ
  pub transfer_syntaxes : List (List ℕ)

-- the IDs of these contexts
abbrev pub ids : List Proposal → List ℕ
ids ps = map (λ p. p.id) ps

-- a request: the protocol version, the titles of 16 bytes, the 32 reserved bytes, the application context without
-- trailing zero bytes and spaces, the contexts in their order, and the peer's maximum length, 0 where it has none
pub record RequestRecord : Type 0 where
  pub version : ℕ
  pub called : List ℕ
  pub calling : List ℕ
  pub reserved : List ℕ
  pub application_context : List ℕ
  pub contexts : List Proposal
  pub maximum : ℕ
