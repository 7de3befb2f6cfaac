-- The subcommand that is found has its name and its rows (`found_pair`, `names_rows`), which are those of the job
-- (`job_is`), and an argument has the values that are found for it, or none (`values_by`). Stands on the definitions
-- alone.
use Rattle.std.proofs.Common.{◌≡◌, ◌∙◌, List, [], Option, Some, None, option_map, unwrap_or, map, Bor, refl, ap₂, sym, Box}
use Rattle.std.specs.Option.{UnwrapsOrElse}
use Rattle.std.specs.Box.{box_value}
use Rattle.clap.specs.Walk.{Row, Text}
use Rattle.clap.specs.Simple.{subcommand_rows}
use Rattle.clap.specs.declared.parser.matches.SubCommand.{SubCommand}
use Rattle.clap.specs.declared.parser.matches.ArgMatches.TheViews.{out-SubCommand}

pub found_pair : (o : Option (Text × List Row)) (n : Text) (rows : List Row) → Some n ≡ option_map (λ p. p.0) o → Some rows ≡ option_map (λ p. p.1) o → o ≡ Some (n, rows)
found_pair None n rows a b = absurd cc
found_pair (Some (m, r)) n rows a b = let x : n ≡ m = cc in let y : rows ≡ r = cc in ap₂ (λ (k : Text) (l : List Row). Some (k, l)) (sym x) (sym y)

pub names_rows : {Z : Type 0} (o : Option (Box SubCommand Z)) → option_map (λ b. (out-SubCommand (box_value b)).name.now) o ≡ option_map (λ p. p.0) (subcommand_rows o)
names_rows None = refl
names_rows (Some b) = refl

-- the values behind an optional slice, and none where it is missing
pub values_by : (o : Option (Bor (List (Bor Text)))) (d : Bor (List (Bor Text))) (r : Option (List Text)) → UnwrapsOrElse o (λ x. x.now ≡ []) d
    → option_map (λ s. map (λ v. v.now) s.now) o ≡ r → map (λ w. w.now) d.now ≡ unwrap_or r []
values_by None d r e h = rw (← h, e) refl
values_by (Some s) d r e h = rw (← h, e) refl

-- the job is the subcommand with its rows
pub job_is : (found : Option (Text × List Row)) (n m : Text) (rows given : List Row) → found ≡ Some (n, rows) → m ≡ n → given ≡ rows → found ≡ Some (m, given)
job_is found n m rows given is name same = is ∙ sym (ap₂ (λ (k : Text) (l : List Row). Some (k, l)) name same)
