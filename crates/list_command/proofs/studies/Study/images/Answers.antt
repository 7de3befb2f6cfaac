use Rattle.std.proofs.Common.{◌≡◌, ◌∙◌, sym, ap, arith, true, true≢false}
use Rattle.std.specs.Prelude.{is_some}
use Rattle.std.specs.Map.Iter.{deref_pair}
use Rattle.std.specs.Option.{option_map}
use Rattle.list_command.proofs.FilesAreKept.{images_more}
use Rattle.list_command.proofs.studies.Study.images.Goals.{in-Some, in_default}
use Rattle.list_command.proofs.studies.Study.images.Goals as goal

pub loop-index-preserved : goal.loop-index-preserved
loop-index-preserved g c = λ study. elim c.match-get_index.branch [
  | in-Some w ↦ images_more study c.args.self.now.series.entries c.loop-index.index w.in-Some.field-0-0.now w.in-Some.series.now c.loop-index.images c.match-get_index.images
      (sym c.get_index.ensures.entry ∙ ap (option_map deref_pair) w.in-Some.is) (c.loop-index.invariant study) (w.images-is ∙ w.saturating_add-images.ensures)
  | in_default w ↦
      let found : is_some c.get_index.result ≡ true = c.get_index.ensures.found.1 (omega (arith, c.loop-index-test.true, c.len-index-end.ensures.len)) in
      absurd (true≢false (sym found ∙ ap is_some w.in_default.is))
]
