-- The tag that was found for a text is the one that the text spells, if it spells one (`spelt`). The parts of a text and
-- the first part of its rest are those of the text up to there (`read_more`).
use Rattle.std.proofs.Common.{◌≡◌, ℕ, List, [], ◌∷◌, ◌++◌, sym, ◌∙◌, ap, Option, Some, None, append_assoc}
use Rattle.std.proofs.lemmas.List.{flat_map_more}
use Rattle.std.specs.List.{flat_map}
use Rattle.std.specs.Option.{IfSome}
use Rattle.element.specs.declared.tag.Tag.{Tag}
use Rattle.arrange_command.specs.declared.pattern.Part.{Part}
use Rattle.arrange_command.specs.Patterns.{spelled}

pub spelt : (text found : Option Tag) (tag : Tag) → IfSome text (λ s. found ≡ Some s) → found ≡ Some tag → IfSome text (λ s. s ≡ tag)
spelt None found tag h e = tt
spelt (Some s) found tag h e = cc

pub read_more : (parts : List Part) (part : Part) (rest more text : List ℕ) → flat_map spelled parts ++ rest ≡ text → rest ≡ spelled part ++ more → flat_map spelled (parts ++ part ∷ []) ++ more ≡ text
read_more parts part rest more text h e =
    ap (λ t. t ++ more) (sym (flat_map_more spelled [] parts part)) ∙ append_assoc (flat_map spelled parts) (spelled part) more ∙ ap (λ t. flat_map spelled parts ++ t) (sym e) ∙ h
