use Rattle.std.proofs.Common.{◌≡◌, ◌<◌, length, take, arith, length-take, subst}
use Rattle.std.proofs.lemmas.List.{take_all}
use Rattle.std.specs.Io.KnownBytes.{Consumes}
use Rattle.part10.specs.MetaText.{HasLetters}
use Rattle.part10.proofs.PartFailsTheWhole.{bad_after, bad_end}
use Rattle.part10.proofs.PrefixIsSpelled.{short_file, other_letters, letters}
use Rattle.part10.proofs.reading.read_letters.Goals as goal

pub returns-then-count-lt132-clause-none : goal.returns-then-count-lt132-clause-none
returns-then-count-lt132-clause-none g c =
    let filled = c.in_ok-count.ensures in
    let few : length (take c.in_ok-count.count c.fill.new.room) < 132 = omega (arith, length-take c.in_ok-count.count c.fill.new.room, c.if-count-lt132.true) in
    bad_end _ _ _ (λ file. ¬ HasLetters file) filled.consumes (filled.end (omega (arith, filled.size, c.if-count-lt132.true))) (short_file _ few)

pub returns-then-not-is_text-clause-none : goal.returns-then-not-is_text-clause-none
returns-then-not-is_text-clause-none g c =
    let filled = c.in_ok-count.ensures in
    let whole : take c.in_ok-count.count c.fill.new.room ≡ c.fill.new.room = take_all c.in_ok-count.count c.fill.new.room (omega (arith, filled.size, c.if-count-lt132.false)) in
    let consumed = subst (λ z. Consumes (g.R.Read.remaining c.args.input.now) (g.R.Read.remaining c.fill.new.input) z) whole filled.consumes in
    bad_after _ _ _ (λ file. ¬ HasLetters file) consumed (λ rest. other_letters c.fill.new.room rest filled.size c.if-not-is_text.ensures)

pub returns-clause-read : goal.returns-clause-read
returns-clause-read g c =
    let filled = c.in_ok-count.ensures in
    let whole : take c.in_ok-count.count c.fill.new.room ≡ c.fill.new.room = take_all c.in_ok-count.count c.fill.new.room (omega (arith, filled.size, c.if-count-lt132.false)) in
    let consumed = subst (λ z. Consumes (g.R.Read.remaining c.args.input.now) (g.R.Read.remaining c.fill.new.input) z) whole filled.consumes in
    (c.fill.new.room, consumed, letters c.fill.new.room filled.size c.if-not-is_text.ensures)
