use Rattle.std.proofs.Common.{rules, arith, ◌≡◌, ◌≤◌, ◌∷◌, ◌++◌, length, ap, sym, subst, map}
use Rattle.std.proofs.lemmas.Grind.{common_steps}
use Rattle.std.specs.List.{AllByRecursion}
use Rattle.element.specs.Padding.{is_padding, without_trailing}
use Rattle.arrange_command.specs.Names as spelling
use Rattle.arrange_command.proofs.NamesArePrintable.{trailing_length, named_bytes}
use Rattle.arrange_command.proofs.name.name_of.Goals as goal

pub loop-byte-init : goal.loop-byte-init
loop-byte-init c =
    let value = c.args.value.now in
    let text : without_trailing is_padding value ≡ c.in-Some.first.now ∷ c.in-Some.rest.now = grind (arith, common_steps) in
    let short : length value ≤ 230 = search rules in
    let name : c.push-2.new.self.items ++ map spelling.kept_or_blank c.in-Some.rest.now ≡ spelling.named (without_trailing is_padding value) = grind (arith, common_steps, text) in
    (name, grind (arith, common_steps), omega (arith, short, trailing_length is_padding value, ap length text))

pub returns-clause-bytes : goal.returns-clause-bytes
returns-clause-bytes c =
    let value = c.args.value.now in
    let whole : c.loop-byte.name.items ≡ spelling.named (without_trailing is_padding value) = grind (arith, common_steps) in
    subst (AllByRecursion spelling.IsNameByte) (sym whole) (named_bytes (without_trailing is_padding value))
