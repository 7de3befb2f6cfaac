-- Transfer syntaxes by their unique identifiers (PS3.5 annex A), and the application context (PS3.7 annex A). That the
-- two uncompressed little endian syntaxes alone are accepted is this product's own profile.
use Rattle.std.specs.Prelude.{ℕ, Bool, List, [], ◌∷◌, Option, nat_eq, codes}
use Rattle.std.specs.List.{find}
use Rattle.std.specs.Cmp.Lexicographic.{pointwise}
use Rattle.element.specs.Padding.{is_padding, without_trailing}
use Rattle.element.specs.declared.syntax.Syntax.{Syntax}
use Rattle.element.specs.declared.syntax.Syntax.TheVariants.{Implicit, Explicit}

-- the identifier of a transfer syntax
-- e.g. syntax_uid Explicit ≡ codes "1.2.840.10008.1.2.1"
abbrev pub syntax_uid : Syntax → List ℕ
syntax_uid Implicit = codes "1.2.840.10008.1.2"
syntax_uid Explicit = codes "1.2.840.10008.1.2.1"

-- the transfer syntaxes that are accepted
abbrev pub all_syntaxes : List Syntax
all_syntaxes = Implicit ∷ Explicit ∷ []

-- whether the transfer syntax has this text as its identifier
-- e.g. is_named (codes "1.2.840.10008.1.2") Implicit ≡ true
abbrev pub is_named : List ℕ → Syntax → Bool
is_named text syntax = pointwise nat_eq (syntax_uid syntax) text

-- the transfer syntax with this text
-- e.g. syntax_named (codes "1.2.840.10008.1.2") ≡ Some Implicit; syntax_named (codes "1.2.840.10008.1.2.2") ≡ None
unfoldable pub syntax_named : List ℕ → Option Syntax
syntax_named text = find (is_named text) all_syntaxes

-- the transfer syntax that a value or a field of a PDU names: trailing zero bytes and spaces are dropped first
-- e.g. syntax_of (codes "1.2.840.10008.1.2" ++ 0 ∷ []) ≡ Some Implicit
abbrev pub syntax_of : List ℕ → Option Syntax
syntax_of bytes = syntax_named (without_trailing is_padding bytes)

-- the DICOM application context name (PS3.7 A.2.1)
abbrev pub application_context : List ℕ
application_context = codes "1.2.840.10008.3.1.1.1"
