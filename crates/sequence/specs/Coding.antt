-- The encoding of a data set, or of a sequence inside one (PS3.5 sections A.1, A.2 and A.4).
use Rattle.std.specs.Prelude.{Bool, true, false}
use Rattle.element.specs.declared.syntax.Syntax.{Syntax}
use Rattle.element.specs.declared.syntax.Syntax.TheVariants as syntaxes
use Rattle.sequence.specs.declared.coding.Coding.{Coding}
use Rattle.sequence.specs.declared.coding.Coding.TheVariants.{Implicit, Explicit, Encapsulated, Fragments}

-- the encoding of a data set in this syntax with native Pixel Data
abbrev pub coding_of : Syntax → Coding
coding_of syntaxes.Implicit = Implicit
coding_of syntaxes.Explicit = Explicit

-- the layout of headers in an encoding: with a VR (Explicit) or without (Implicit)
abbrev pub layout : Coding → Syntax
layout Implicit = syntaxes.Implicit
layout Explicit = syntaxes.Explicit
layout Encapsulated = syntaxes.Explicit
layout Fragments = syntaxes.Explicit

-- whether it is Implicit or Explicit, in which Pixel Data is native
abbrev pub is_native : Coding → Bool
is_native Implicit = true
is_native Explicit = true
is_native Encapsulated = false
is_native Fragments = false

-- whether the items of an encoding contain bytes instead of elements: they are fragments of encapsulated Pixel Data
abbrev pub has_fragments : Coding → Bool
has_fragments Implicit = false
has_fragments Explicit = false
has_fragments Encapsulated = false
has_fragments Fragments = true
