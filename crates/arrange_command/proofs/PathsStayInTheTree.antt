-- The path that a pattern gives consists of names, with slashes between them (`names_only`): none is empty, begins with a
-- dot, or has a slash or a byte that does not print. Depends on the definitions alone.
use Rattle.std.proofs.Common.{◌≡◌, ◌≢◌, ℕ, Bool, true, false, List, [], ◌∷◌, ◌++◌, Option, cond, refl, sym, ap, subst, ◌∙◌, arith}
use Rattle.std.proofs.lemmas.Bool.Decides.{nat_tests}
use Rattle.std.specs.List.{AllByRecursion, slice_split, onto_first}
use Rattle.element.specs.declared.tag.Tag.{Tag}
use Rattle.element.specs.Padding.{is_padding, without_trailing}
use Rattle.arrange_command.specs.Names.{IsNameByte, blank, name_for, named}
use Rattle.arrange_command.specs.Patterns.{IsName, is_slash, name_of_value, path_after}
use Rattle.arrange_command.specs.declared.pattern.Part.{Part}
use Rattle.arrange_command.specs.declared.pattern.Part.TheVariants.{Slash, Byte, Value}
use Rattle.arrange_command.proofs.NamesArePrintable.{named_bytes, named_front, named_some}

named_or_blank : (is_long : Bool) (text : List ℕ) → IsName (cond is_long (blank ∷ []) (named text))
named_or_blank true text = (named_some [], named_front [], named_bytes [])
named_or_blank false text = (named_some text, named_front text, named_bytes text)

name_is : (value : List ℕ) → IsName (name_for value)
name_is value = named_or_blank _ (without_trailing is_padding value)

no_slash : (b : ℕ) → b ≢ 47 → is_slash b ≡ false
no_slash b h = grind (arith, nat_tests)

alone : (name : List ℕ) → AllByRecursion IsNameByte name → slice_split is_slash name ≡ name ∷ []
alone [] h = refl
alone (b ∷ bs) h = ap (λ is. cond is ([] ∷ slice_split is_slash bs) (onto_first b (slice_split is_slash bs))) (no_slash b h.0.2) ∙ ap (onto_first b) (alone bs h.1)

before_slash : (name rest : List ℕ) → AllByRecursion IsNameByte name → slice_split is_slash (name ++ 47 ∷ rest) ≡ name ∷ slice_split is_slash rest
before_slash [] rest h = refl
before_slash (b ∷ bs) rest h =
    let others = slice_split is_slash (bs ++ 47 ∷ rest) in
    ap (λ is. cond is ([] ∷ others) (onto_first b others)) (no_slash b h.0.2) ∙ ap (onto_first b) (before_slash bs rest h.1)

pub names_only : (value_of : Tag → Option (List ℕ)) (name : List ℕ) (parts : List Part) → AllByRecursion IsName (slice_split is_slash (path_after value_of name parts))
names_only f name [] = subst (AllByRecursion IsName) (sym (alone (name_for name) (name_is name).2)) (name_is name, tt)
names_only f name (Slash ∷ parts) = subst (AllByRecursion IsName) (sym (before_slash (name_for name) (path_after f [] parts) (name_is name).2)) (name_is name, names_only f [] parts)
names_only f name (Byte b ∷ parts) = names_only f (name ++ b ∷ []) parts
names_only f name (Value text tag ∷ parts) = names_only f (name ++ name_of_value (f tag)) parts
