use Rattle.std.proofs.Common.{[], ◌∷◌, ◌+◌, ◌++◌, not, is_ok, sym, ap, ◌∙◌}
use Rattle.std.proofs.lemmas.Bool.{cond-true}
use Rattle.std.proofs.lemmas.List.{append-nil}
use Rattle.dicomdir.specs.NodesInUse.{listed, file_id_of_image, node_of}
use Rattle.dicomdir.proofs.NodesAndTreeAgree.{kept_from, kept_one_more, kept_whole}
use Rattle.dicomdir.proofs.kept_files.images.Goals.{in-Some+else-is_err, in_default}
use Rattle.dicomdir.proofs.kept_files.images.Goals as goal

pub loop-record-preserved : goal.loop-record-preserved
loop-record-preserved g c =
    let records = c.args.records.now in
    let i = c.loop-record.record-index in
    let kept = c.loop-record.kept.items in
    let image = c.image_id.ensures ∙ ap (λ r. file_id_of_image (node_of r).carries) c.record-item.is in
    elim c.match-image_id.branch [
      | in-Some+else-is_err w ↦
          let pushed = w.push.ensures.items ∙ cond-true (is_ok w.push.result) (kept ++ w.in-Some.file_id ∷ []) kept (w.is_err.ensures.negation ∙ ap not w.if-is_err.false) in
          ap (λ z. z ++ kept_from (i + 1) records) (ap (λ v. v.items) w.kept-is ∙ pushed)
          ∙ kept_one_more records i c.record-item.result kept (w.in-Some.file_id ∷ []) c.loop-record-test.true (ap listed (sym w.in-Some.is) ∙ image) c.loop-record.invariant
      | in_default w ↦
          ap (λ z. z ++ kept_from (i + 1) records) (ap (λ v. v.items) w.kept-is ∙ sym (append-nil kept))
          ∙ kept_one_more records i c.record-item.result kept [] c.loop-record-test.true (ap listed (sym w.in_default.is) ∙ image) c.loop-record.invariant
    ]

pub returns-clause-kept : goal.returns-clause-kept
returns-clause-kept g c = kept_whole c.args.records.now c.loop-record.kept.items c.loop-record.record-index c.loop-record-test.false c.loop-record.invariant
