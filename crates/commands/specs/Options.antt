-- The options of the commands that read files, which their arguments determine (this product's own profile).
use Rattle.std.specs.Prelude.{◌≡◌, ℕ, ◌⊎◌, Bool, true, false, ◌||◌, List, ◌++◌, map, Option, Some, None, codes}
use Rattle.arguments.specs.CommandLine.{is_given, values_of}
use Rattle.arguments.specs.Walk.{Row, first_of}
use Rattle.arrange_command.specs.Patterns.{IsRead}
use Rattle.arrange_command.specs.declared.arranging.ArrangeOptions.{ArrangeOptions}
use Rattle.arrange_command.specs.declared.pattern.Part.{Part}
use Rattle.file_commands.specs.declared.several.Files.{Files}
use Rattle.inspection.specs.declared.options.CheckOptions.{CheckOptions}
use Rattle.inspection.specs.declared.options.OutputForm.{OutputForm}
use Rattle.inspection.specs.declared.options.OutputForm.TheVariants.{Json, Lines}
use Rattle.inspection.specs.declared.options.ShowOptions.{ShowOptions}
use Rattle.inspection.specs.declared.options.Syntaxes.{Syntaxes}
use Rattle.inspection.specs.declared.options.Syntaxes.TheVariants.{All, Any, Native}
use Rattle.list_command.specs.declared.listing.ListOptions.{ListOptions}

-- the form of the output: JSON if it is requested, else lines
abbrev pub form_for : Bool → OutputForm
form_for true = Json
form_for false = Lines

-- which files are accepted, if all transfer syntaxes are requested, and if also files without a header
abbrev pub syntaxes_for : Bool → Bool → Syntaxes
syntaxes_for all true = Any
syntaxes_for true false = All
syntaxes_for false false = Native

-- the files of `show` and `check` are those of their arguments
pub record NamesFiles (files : Files) (rows : List Row) : Type 0 where
  pub paths : map (λ t. t.now) files.paths.now ≡ values_of rows (codes "FILE")
  pub recursive : files.recursive ≡ is_given rows (codes "recursive")
  pub ignore_others : files.ignore_others ≡ is_given rows (codes "ignore-others")
  pub follow : files.follow ≡ is_given rows (codes "follow")

-- the options of `show` are those of its arguments
pub record IsShown (o : ShowOptions) (rows : List Row) : Type 0 where
  pub values : o.values ≡ (is_given rows (codes "values") || is_given rows (codes "full"))
  pub full : o.full ≡ is_given rows (codes "full")
  pub meta : o.meta ≡ is_given rows (codes "meta")
  pub form : o.form ≡ form_for (is_given rows (codes "json"))
  pub syntaxes : o.syntaxes ≡ syntaxes_for (is_given rows (codes "all-syntaxes")) (is_given rows (codes "any"))

-- the options of `check` are those of its arguments
pub record IsChecked (o : CheckOptions) (rows : List Row) : Type 0 where
  pub strict : o.strict ≡ is_given rows (codes "strict")
  pub values : o.values ≡ is_given rows (codes "values")
  pub form : o.form ≡ form_for (is_given rows (codes "json"))
  pub syntaxes : o.syntaxes ≡ syntaxes_for (is_given rows (codes "all-syntaxes")) (is_given rows (codes "any"))

-- the options of `list` are those of its arguments
pub record IsListed (o : ListOptions) (rows : List Row) : Type 0 where
  pub series : o.series ≡ is_given rows (codes "series")
  pub instances : o.instances ≡ is_given rows (codes "instances")
  pub ignore_others : o.ignore_others ≡ is_given rows (codes "ignore-others")
  pub follow : o.follow ≡ is_given rows (codes "follow")
  pub form : o.form ≡ form_for (is_given rows (codes "json"))

-- the options of `arrange` are those of its arguments
pub record IsArranged (o : ArrangeOptions) (rows : List Row) : Type 0 where
  pub tree : first_of (codes "to") rows ≡ Some o.tree.now
  pub copy : o.copy ≡ is_given rows (codes "copy")
  pub dry_run : o.dry_run ≡ is_given rows (codes "dry-run")
  pub ignore_others : o.ignore_others ≡ is_given rows (codes "ignore-others")
  pub follow : o.follow ≡ is_given rows (codes "follow")
  pub form : o.form ≡ form_for (is_given rows (codes "json"))

-- the pattern is that of the option, without `.dcm` at its end, and there is none without the option
abbrev pub NamesPattern : Option (List Part) → Option (List ℕ) → Type 0
NamesPattern None None = Unit {0}
NamesPattern None (Some text) = ⊥
NamesPattern (Some parts) None = ⊥
NamesPattern (Some parts) (Some text) = ∥ IsRead text parts ⊎ ((stem : List ℕ) × (text ≡ stem ++ codes ".dcm") × IsRead stem parts) ∥₁
