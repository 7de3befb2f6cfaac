-- The commands that the program knows, as clap defines a simple command, and what their arguments are.
use Rattle.std.specs.Prelude.{◌≡◌, ℕ, Bool, true, false, List, [], ◌∷◌, Option, Some, bytes_eq, codes, unwrap_or}
use Rattle.std.specs.Option.{option_map_or}
use Rattle.clap.specs.Walk.{Row, Rule, Text, first_of, all_of}
use Rattle.clap.specs.Simple.{App, new_app, new_rule, with_rule, with_subcommand, on_top}
use Rattle.clap.specs.declared.builder.action.ArgAction.TheVariants.{SetTrue, Append, Count}
use Rattle.arguments.specs.declared.words.Job.{Job}
use Rattle.arguments.specs.declared.words.CommandName.{CommandName}
use Rattle.arguments.specs.declared.words.CommandName.TheVariants.{Serve, Replay, Show, Check, Index, CheckDir, List as ListStudies, Arrange, Send, Echo}

-- ---- the commands

-- a positional argument that has to be given
abbrev pub positional : Text → Rule
positional id = record (new_rule id) { required = true }

-- a positional argument that has to be given, and may be given more than once
abbrev pub several : Text → Rule
several id = record (positional id) { action = Some Append }

-- an option with a value that has to be given
abbrev pub needed : Text → Rule
needed id = record (new_rule id) { long = Some id; value_names = 1; required = true }

-- an option with a value, and the value where it is not given
abbrev pub optional : Text → Text → Rule
optional id value = record (new_rule id) { long = Some id; value_names = 1; defaults = value ∷ [] }

-- an option with a value that may be left out
abbrev pub free : Text → Rule
free id = record (new_rule id) { long = Some id; value_names = 1 }

-- an option that may be given more than once
abbrev pub repeated : Text → Rule
repeated id = record (new_rule id) { long = Some id; value_names = 1; action = Some Append }

-- an option with a value that may be given more than once, and the value where it is not given
abbrev pub defaulted : Text → Text → Rule
defaulted id value = record (repeated id) { defaults = value ∷ [] }

-- an option without a value
abbrev pub flag_rule : Text → Rule
flag_rule id = record (new_rule id) { long = Some id; action = Some SetTrue }

-- an option without a value that has a letter, too
abbrev pub letter_rule : Text → ℕ → Rule
letter_rule id letter = record (flag_rule id) { short = Some letter }

-- an option without a value that has a letter, and whose uses are counted
abbrev pub counted_rule : Text → ℕ → Rule
counted_rule id letter = record (new_rule id) { long = Some id; short = Some letter; action = Some Count }

abbrev pub with_rules : App → List Rule → App
with_rules app [] = app
with_rules app (rule ∷ rules) = with_rules (with_rule app rule) rules

abbrev pub with_subcommands : App → List App → App
with_subcommands app [] = app
with_subcommands app (sub ∷ subs) = with_subcommands (with_subcommand app sub.top) subs

-- made by tools/tables from docs/tables.json

-- `serve`
abbrev pub serve_app : App
serve_app = with_rules (new_app (codes "serve"))
    (needed (codes "port") ∷ needed (codes "out") ∷ optional (codes "bind") (codes "127.0.0.1")
    ∷ repeated (codes "listen") ∷ defaulted (codes "ae") (codes "DCMBOX")
    ∷ flag_rule (codes "any-called") ∷ repeated (codes "caller") ∷ free (codes "callers")
    ∷ optional (codes "timeout") (codes "30") ∷ optional (codes "idle") (codes "600")
    ∷ optional (codes "max-pdu") (codes "16384") ∷ optional (codes "max-data") (codes "1099511627776")
    ∷ counted_rule (codes "verbose") 118 ∷ letter_rule (codes "quiet") 113 ∷ free (codes "log")
    ∷ free (codes "per") ∷ free (codes "numbers") ∷ free (codes "quarantine")
    ∷ free (codes "quarantine-most") ∷ flag_rule (codes "no-sync") ∷ flag_rule (codes "once")
    ∷ optional (codes "at-once") (codes "1") ∷ free (codes "per-peer") ∷ free (codes "longest")
    ∷ free (codes "stop-file") ∷ optional (codes "grace") (codes "10") ∷ free (codes "metrics")
    ∷ flag_rule (codes "all-storage") ∷ repeated (codes "storage-class")
    ∷ flag_rule (codes "all-syntaxes") ∷ repeated (codes "transfer-syntax") ∷ [])

-- `replay`
abbrev pub replay_app : App
replay_app = with_rules (new_app (codes "replay"))
    (positional (codes "FILE") ∷ needed (codes "out") ∷ defaulted (codes "ae") (codes "DCMBOX")
    ∷ optional (codes "cut") (codes "4096") ∷ free (codes "per") ∷ flag_rule (codes "all-storage")
    ∷ repeated (codes "storage-class") ∷ flag_rule (codes "all-syntaxes")
    ∷ repeated (codes "transfer-syntax") ∷ [])

-- `show`
abbrev pub show_app : App
show_app = with_rules (new_app (codes "show"))
    (several (codes "FILE") ∷ letter_rule (codes "recursive") 114 ∷ flag_rule (codes "follow")
    ∷ flag_rule (codes "values") ∷ flag_rule (codes "full") ∷ flag_rule (codes "meta")
    ∷ repeated (codes "tag") ∷ flag_rule (codes "json") ∷ flag_rule (codes "all-syntaxes")
    ∷ flag_rule (codes "any") ∷ [])

-- `check`
abbrev pub check_app : App
check_app = with_rules (new_app (codes "check"))
    (several (codes "FILE") ∷ letter_rule (codes "recursive") 114 ∷ flag_rule (codes "follow")
    ∷ flag_rule (codes "strict") ∷ flag_rule (codes "values") ∷ flag_rule (codes "ignore-others")
    ∷ flag_rule (codes "json") ∷ flag_rule (codes "all-syntaxes") ∷ flag_rule (codes "any") ∷ [])

-- `index`
abbrev pub index_app : App
index_app = with_rules (new_app (codes "index"))
    (positional (codes "DIR") ∷ free (codes "uid") ∷ flag_rule (codes "new-uid")
    ∷ flag_rule (codes "descriptions") ∷ flag_rule (codes "all-syntaxes")
    ∷ flag_rule (codes "any-name") ∷ flag_rule (codes "ignore-others") ∷ flag_rule (codes "follow")
    ∷ flag_rule (codes "keep") ∷ flag_rule (codes "drop") ∷ flag_rule (codes "replace")
    ∷ flag_rule (codes "strict") ∷ flag_rule (codes "json") ∷ [])

-- `checkdir`
abbrev pub checkdir_app : App
checkdir_app = with_rules (new_app (codes "checkdir"))
    (positional (codes "FILE") ∷ flag_rule (codes "json") ∷ [])

-- `list`
abbrev pub list_app : App
list_app = with_rules (new_app (codes "list"))
    (several (codes "DIR") ∷ flag_rule (codes "series") ∷ flag_rule (codes "instances")
    ∷ repeated (codes "where") ∷ free (codes "columns") ∷ flag_rule (codes "ignore-others")
    ∷ flag_rule (codes "follow") ∷ flag_rule (codes "json") ∷ [])

-- `arrange`
abbrev pub arrange_app : App
arrange_app = with_rules (new_app (codes "arrange"))
    (several (codes "DIR") ∷ needed (codes "to") ∷ free (codes "pattern") ∷ flag_rule (codes "copy")
    ∷ flag_rule (codes "dry-run") ∷ flag_rule (codes "ignore-others") ∷ flag_rule (codes "follow")
    ∷ flag_rule (codes "json") ∷ [])

-- `send`
abbrev pub send_app : App
send_app = with_rules (new_app (codes "send"))
    (positional (codes "DIR") ∷ positional (codes "HOST:PORT") ∷ needed (codes "aec")
    ∷ optional (codes "aet") (codes "DCMBOX") ∷ flag_rule (codes "move") ∷ free (codes "refused")
    ∷ flag_rule (codes "any-name") ∷ optional (codes "timeout") (codes "300")
    ∷ letter_rule (codes "verbose") 118 ∷ flag_rule (codes "json") ∷ [])

-- `echo`
abbrev pub echo_app : App
echo_app = with_rules (new_app (codes "echo"))
    (positional (codes "HOST:PORT") ∷ needed (codes "aec") ∷ optional (codes "aet") (codes "DCMBOX")
    ∷ optional (codes "timeout") (codes "30") ∷ [])

-- the commands that receive data sets
abbrev pub receiving_apps : List App
receiving_apps = serve_app ∷ replay_app ∷ []

-- the commands that read files, or call an archive
abbrev pub reading_apps : List App
reading_apps = show_app ∷ check_app ∷ index_app ∷ checkdir_app ∷ list_app ∷ arrange_app ∷ send_app ∷ echo_app ∷ []

-- end

abbrev pub the_command : App
the_command = with_subcommands (with_subcommands (on_top (λ s. record s { has_version = true; subcommand_required = true }) (new_app (codes "dcmbox")))
    receiving_apps) reading_apps

-- ---- the arguments

-- the values of an argument that may be given more than once
abbrev pub values_of : List Row → Text → List Text
values_of rows id = unwrap_or (all_of id rows) []

-- whether an option without a value was given
abbrev pub is_given : List Row → Text → Bool
is_given rows id = option_map_or (λ text. bytes_eq text (codes "true")) (first_of id rows) false

abbrev pub name_of : CommandName → Text
name_of Serve = codes "serve"
name_of Replay = codes "replay"
name_of Show = codes "show"
name_of Check = codes "check"
name_of Index = codes "index"
name_of CheckDir = codes "checkdir"
name_of ListStudies = codes "list"
name_of Arrange = codes "arrange"
name_of Send = codes "send"
name_of Echo = codes "echo"

-- the job is the subcommand with its arguments
abbrev pub Names : Job → Option (Text × List Row) → Type 0
Names job found = found ≡ Some (name_of job.command, job.given)
