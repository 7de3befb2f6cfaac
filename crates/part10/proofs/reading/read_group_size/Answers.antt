use Rattle.std.proofs.Common.{◌≡◌, ◌∙◌, take, drop, sym, subst, arith, length-drop}
use Rattle.std.proofs.lemmas.List.{take_all}
use Rattle.std.specs.Io.KnownBytes.{Consumes}
use Rattle.part10.specs.machine.Reading.{NoSize}
use Rattle.part10.proofs.PartFailsTheWhole.{bad_after}
use Rattle.part10.proofs.PrefixIsSpelled.{other_size, size_is}
use Rattle.part10.proofs.reading.read_group_size.Goals as goal

pub returns-then-not-is_text-clause-none : goal.returns-then-not-is_text-clause-none
returns-then-not-is_text-clause-none g c =
    let filled = c.in_ok-read_whole.ensures in
    bad_after _ _ _ NoSize filled.consumes (λ rest. other_size c.read_whole.new.room rest filled.size c.if-not-is_text.ensures)

pub returns-clause-read : goal.returns-clause-read
returns-clause-read g c =
    let filled = c.in_ok-read_whole.ensures in
    let four : take 4 (drop 8 c.read_whole.new.room) ≡ drop 8 c.read_whole.new.room = take_all 4 (drop 8 c.read_whole.new.room) (omega (arith, filled.size, length-drop 8 c.read_whole.new.room)) in
    let is = size_is c.read_whole.new.room c.read_number.result c.if-not-is_text.ensures (c.read_number.ensures ∙ four) in
    subst (λ z. Consumes (g.R.Read.remaining c.args.input.now) (g.R.Read.remaining c.read_whole.new.input) z) (sym is) filled.consumes
