-- The settings of `serve`, `replay` and `index` that their arguments determine (this product's own profile).
use Rattle.std.specs.Prelude.{◌≡◌, ℕ, ◌^◌, ◌≤◌, ⊤, Bool, not, true, false, List, [], ◌++◌, if◌then◌else◌, nat_eq, map, Option, Some, None, IsSomeAnd, codes, option_map, unwrap_or}
use Rattle.std.specs.Str.Parse.{IsNumeral, digits_value, without_leading_plus}
use Rattle.log.specs.declared.level.Level.{Level}
use Rattle.log.specs.declared.level.Level.TheVariants.{Warn, Info, Debug, Trace}
use Rattle.clap.specs.Walk.{Row, count_of, first_of}
use Rattle.element.specs.Title.{title_of_text}
use Rattle.element.specs.Uid.{uid_of}
use Rattle.dictionary.specs.declared.transfer.Transfer.{Transfer}
use Rattle.dictionary.specs.Transfers.{encapsulated_transfers, transfer_of}
use Rattle.negotiate.specs.Settings.{registered, settings_of, default_max_pdu, default_max_data}
use Rattle.arguments.specs.CommandLine.{is_given, values_of}
use Rattle.arguments.specs.declared.options.FolderLayout.{FolderLayout}
use Rattle.arguments.specs.declared.options.FolderLayout.TheVariants.{Flat, Levels}
use Rattle.arguments.specs.declared.options.LogForm.{LogForm}
use Rattle.arguments.specs.declared.options.LogForm.TheVariants.{Text, Json}
use Rattle.arguments.specs.declared.options.Index.{Index}
use Rattle.arguments.specs.declared.options.Replay.{Replay}
use Rattle.arguments.specs.declared.options.Serve.{Serve}

-- the number that a text of decimal digits spells, optionally after a `+`; it lies between two bounds
pub record Spells (least most : ℕ) (text : List ℕ) (number : ℕ) : Type 0 where
  pub digits : IsNumeral 10 (without_leading_plus text)
  pub value : number ≡ digits_value 10 (without_leading_plus text)
  pub from : least ≤ number
  pub to : number ≤ most

-- how much is logged with so many -v
abbrev pub verbosity : ℕ → Level
verbosity count = if nat_eq count 0 then Info else (if nat_eq count 1 then Debug else Trace)

-- how much is logged: with -v more, with two still more, with -q less, and never with both
abbrev pub IsLevel : ℕ → Bool → Level → Type 0
IsLevel verbose false level = level ≡ verbosity verbose
IsLevel verbose true level = (verbose ≡ 0) × (level ≡ Warn)

-- how lines are written, by the name of the form
abbrev pub IsForm : LogForm → List ℕ → Type 0
IsForm Text name = name ≡ codes "text"
IsForm Json name = name ≡ codes "json"

-- how files are laid out: flat, or in folders of 1 to 9999 files if that is requested
abbrev pub IsLayout : FolderLayout → Option (List ℕ) → Type 0
IsLayout Flat per = per ≡ None
IsLayout (Levels per) None = ⊥
IsLayout (Levels per) (Some text) = Spells 1 9999 text per.files

-- the SOP Instance UID of a directory: the given one, or none if a new one is requested, and never both
abbrev pub IsDirectoryUid : Option (List ℕ) → Option (List ℕ) → Bool → Type 0
IsDirectoryUid (Some uid) (Some text) false = uid_of text ≡ Some uid
IsDirectoryUid None None true = ⊤
IsDirectoryUid uid text is_new = ⊥

-- the additional transfer syntaxes: if requested, all of the dictionary in which Pixel Data may be encapsulated; else
-- those that the texts name, each text one
pub record AsksFor (all : Bool) (texts : List (List ℕ)) (transfers : List Transfer) : Type 0 where
  pub named : List Transfer
  pub each : map transfer_of texts ≡ map Some named
  pub accepted : transfers ≡ (if all then encapsulated_transfers else named)

-- the settings of `serve` are those of its arguments
pub record IsServed (serve : Serve) (rows : List Row) : Type 0 where
  pub bind : first_of (codes "bind") rows ≡ Some serve.bind.now
  pub port : IsSomeAnd (first_of (codes "port") rows) (λ text. Spells 1 65535 text serve.port)
  pub listen : map (λ t. t.now) serve.listen.items ≡ values_of rows (codes "listen")
  pub out : first_of (codes "out") rows ≡ Some serve.out.now
  pub called : map title_of_text (values_of rows (codes "ae")) ≡ map Some (settings_of serve.config).called
  pub any_called : (settings_of serve.config).any_called ≡ is_given rows (codes "any-called")
  pub max_pdu : IsSomeAnd (first_of (codes "max-pdu") rows) (λ text. Spells 1024 131_072 text (settings_of serve.config).max_pdu)
  pub max_data : IsSomeAnd (first_of (codes "max-data") rows) (λ text. Spells 1024 (2 ^ 48) text (settings_of serve.config).max_data)
  pub classes : map Some (settings_of serve.config).additional.classes ≡ map uid_of (values_of rows (codes "storage-class")) ++ map Some (registered (is_given rows (codes "all-storage")))
  pub transfers : AsksFor (is_given rows (codes "all-syntaxes")) (values_of rows (codes "transfer-syntax")) (settings_of serve.config).additional.transfers
  pub level : IsLevel (count_of (codes "verbose") rows) (is_given rows (codes "quiet")) serve.level
  pub form : IsForm serve.form (unwrap_or (first_of (codes "log") rows) (codes "text"))
  pub layout : IsLayout serve.layout (first_of (codes "per") rows)
  pub numbers : first_of (codes "numbers") rows ≡ option_map (λ t. t.now) serve.numbers
  pub sync : serve.sync ≡ not (is_given rows (codes "no-sync"))
  pub metrics : first_of (codes "metrics") rows ≡ option_map (λ t. t.now) serve.metrics

-- the settings of `replay` are those of its arguments; any title may call, and the limits are the defaults
pub record IsReplayed (replay : Replay) (rows : List Row) : Type 0 where
  pub file : first_of (codes "FILE") rows ≡ Some replay.file.now
  pub out : first_of (codes "out") rows ≡ Some replay.out.now
  pub called : map title_of_text (values_of rows (codes "ae")) ≡ map Some (settings_of replay.config).called
  pub any_called : (settings_of replay.config).any_called ≡ false
  pub callers : (settings_of replay.config).callers ≡ []
  pub max_pdu : (settings_of replay.config).max_pdu ≡ default_max_pdu
  pub max_data : (settings_of replay.config).max_data ≡ default_max_data
  pub classes : map Some (settings_of replay.config).additional.classes ≡ map uid_of (values_of rows (codes "storage-class")) ++ map Some (registered (is_given rows (codes "all-storage")))
  pub transfers : AsksFor (is_given rows (codes "all-syntaxes")) (values_of rows (codes "transfer-syntax")) (settings_of replay.config).additional.transfers
  pub cut : IsSomeAnd (first_of (codes "cut") rows) (λ text. Spells 1 65536 text replay.cut)
  pub layout : IsLayout replay.layout (first_of (codes "per") rows)

-- the settings of `index` are those of its arguments
pub record IsIndexed (index : Index) (rows : List Row) : Type 0 where
  pub dir : first_of (codes "DIR") rows ≡ Some index.dir.now
  pub uid : IsDirectoryUid index.uid (first_of (codes "uid") rows) (is_given rows (codes "new-uid"))
  pub descriptions : index.descriptions ≡ is_given rows (codes "descriptions")
  pub all_syntaxes : index.all_syntaxes ≡ is_given rows (codes "all-syntaxes")
  pub any_name : index.any_name ≡ is_given rows (codes "any-name")
  pub ignore_others : index.ignore_others ≡ is_given rows (codes "ignore-others")
  pub follow : index.follow ≡ is_given rows (codes "follow")
  pub keep : index.keep ≡ is_given rows (codes "keep")
  pub replace : index.replace ≡ is_given rows (codes "replace")
  pub strict : index.strict ≡ is_given rows (codes "strict")
  pub json : index.json ≡ is_given rows (codes "json")
