-- The settings of `send` that its arguments determine (this product's own profile).
use Rattle.std.specs.Prelude.{◌≡◌, List, Some, IsSomeAnd, IfSome, true, codes, option_map}
use Rattle.clap.specs.Walk.{Row, first_of}
use Rattle.element.specs.Title.{title_of_text}
use Rattle.arguments.specs.AskedService.{SpellsTime}
use Rattle.arguments.specs.CommandLine.{is_given}
use Rattle.arguments.specs.declared.options.Archive.{Archive}
use Rattle.arguments.specs.declared.options.Send.{Send}

-- the archive is that of the arguments
pub record IsArchive (archive : Archive) (rows : List Row) : Type 0 where
  pub address : first_of (codes "HOST:PORT") rows ≡ Some archive.address.now
  pub called : IsSomeAnd (first_of (codes "aec") rows) (λ text. title_of_text text ≡ Some archive.called.0)
  pub calling : IsSomeAnd (first_of (codes "aet") rows) (λ text. title_of_text text ≡ Some archive.calling.0)
  pub timeout : IsSomeAnd (first_of (codes "timeout") rows) (λ text. SpellsTime 1 text archive.timeout)

-- the settings of `send` are those of its arguments
pub record IsSend (send : Send) (rows : List Row) : Type 0 where
  pub dir : first_of (codes "DIR") rows ≡ Some send.dir.now
  pub archive : IsArchive send.archive rows
  pub remove : send.remove ≡ is_given rows (codes "move")
  pub refused : first_of (codes "refused") rows ≡ option_map (λ t. t.now) send.refused
  pub moved : IfSome send.refused (λ t. send.remove ≡ true)
  pub any_name : send.any_name ≡ is_given rows (codes "any-name")
  pub verbose : send.verbose ≡ is_given rows (codes "verbose")
  pub json : send.json ≡ is_given rows (codes "json")
