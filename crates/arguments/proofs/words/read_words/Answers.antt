use Rattle.std.proofs.Common.{ap, ap₂, sym, refl, map, ◌≡◌, ◌∙◌}
use Rattle.clap.specs.Faults.{fault_of, is_simple_and_free}
use Rattle.clap.specs.Simple.{is_simple, subcommand_of}
use Rattle.arguments.proofs.SubcommandHasItsRows.{found_pair, job_is, names_rows}
use Rattle.arguments.proofs.words.read_words.Goals as goal

pub returns : goal.returns
returns c =
    let words_are : map (λ w. w.now) c.args.words.now ≡ map (λ w. w.now) c.args.words.now = refl in
    let free = c.in-Ok.ensures.kinds (ap is_simple_and_free c.in_ok-command.ensures) in
    let sub = (c.in-Ok.ensures.matches (ap is_simple c.in_ok-command.ensures)).1 ∙ ap₂ subcommand_of c.in_ok-command.ensures words_are in
    let pair = found_pair _ _ _ (c.in-Some.ensures.name ∙ names_rows _) c.in-Some.ensures.rows in
    record {
      accepted = λ _. sym (ap₂ fault_of c.in_ok-command.ensures words_are) ∙ free;
      named = job_is _ _ _ _ _ (sym sub ∙ pair) c.in-Some-of.ensures c.new-given.ensures;
    }
