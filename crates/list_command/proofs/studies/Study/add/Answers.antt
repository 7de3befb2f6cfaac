-- The series at the index of the file's has one file more.
use Rattle.std.proofs.Common.{◌∙◌, map, not, replicate, sym, ap}
use Rattle.std.specs.Prelude.{nat_eq}
use Rattle.std.specs.Cmp.Lexicographic.{pointwise}
use Rattle.list_command.specs.Tree.{each_shown, first_of_series, patient_id_in, shown, shown_series, shown_study, ShownStudy}
use Rattle.list_command.proofs.FilesAreKept.{one_image, one_listed, one_more, within}
use Rattle.list_command.proofs.FirstFilesAreShown.{changed, more_shown}
use Rattle.list_command.proofs.studies.Study.add.Goals as goal

pub index_mut-requires : goal.index_mut-requires
index_mut-requires g c = within _ c.in_ok-index.index c.series_of.new.self.series.entries c.in_ok-index.ensures.at

pub returns : goal.returns
returns g c = record {
  counted = λ study.
      rw (sym (c.in_ok-index.ensures.same study))
      (one_more (λ entry. replicate entry.1.images (study, entry.0.items)) c.series_of.new.self.series.entries c.in_ok-index.index c.args.uid.now c.index_mut.result.now c.add.new.self (study, c.args.uid.now) c.in_ok-index.ensures.at c.index_mut.ensures.value
      (λ key named. one_image study c.args.uid.now key.items c.index_mut.result.now.images c.add.new.self.images named c.in_ok-add.ensures.counted));
  listed = λ study listed has.
      rw (sym (c.in_ok-index.ensures.listed study))
      (one_more (λ entry. map (λ one. (study, (entry.0.items, shown one))) entry.1.instances.items) c.series_of.new.self.series.entries c.in_ok-index.index c.args.uid.now c.index_mut.result.now c.add.new.self (study, (c.args.uid.now, listed)) c.in_ok-index.ensures.at c.index_mut.ensures.value
      (λ key named. one_listed study c.args.uid.now key.items listed c.index_mut.result.now.instances.items c.add.new.self.instances.items c.args.instance named has c.in_ok-add.ensures.listed));
  shown = more_shown c.args.uid.now (first_of_series c.args.file.keys.now c.args.columns.now) (patient_id_in c.args.file.keys.now) (shown_study c.args.self.now) (shown_study c.series_of.new.self) _ c.ne.result c.in_ok-index.ensures.shown
      (changed shown_series c.args.uid.now (first_of_series c.args.file.keys.now c.args.columns.now) (λ one. one) (each_shown shown_series c.args.self.now.series.entries) c.series_of.new.self.series.entries c.in_ok-index.index c.index_mut.result.now c.add.new.self c.in_ok-index.ensures.at c.index_mut.ensures.value
      c.in_ok-add.ensures.shown (ap (λ (study : ShownStudy). study.series) c.in_ok-index.ensures.shown))
      (c.ne.ensures ∙ (λ j. not (pointwise nat_eq (c.as_slice.ensures.value j) (c.text.ensures j))));
}
