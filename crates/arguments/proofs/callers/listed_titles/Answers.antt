use Rattle.std.proofs.Common.{[], ◌∷◌, Some, map, ap, sym, ◌∙◌}
use Rattle.std.proofs.lemmas.List.{map-append}
use Rattle.element.specs.declared.title.AeTitle.{AeTitle}
use Rattle.arguments.proofs.LinesGiveTheirTitles.{title_more, no_title_more}
use Rattle.arguments.proofs.callers.listed_titles.Goals as goal
use Rattle.arguments.proofs.callers.listed_titles.Goals.{then-is_title_line+in_ok-title+else-len-ge-MOST_CALLERS+in_ok-push, else-is_title_line}

pub loop-index-preserved : goal.loop-index-preserved
loop-index-preserved c =
    let lines = c.as_slice-lines.result.now in
    let titles = map (λ (t : AeTitle). t.0) c.loop-index.titles.items in
    elim c.if-is_title_line.branch [
      | then-is_title_line+in_ok-title+else-len-ge-MOST_CALLERS+in_ok-push w ↦
          title_more lines c.loop-index.index _ titles w.in_ok-title.title.0 c.loop-index-test.true c.loop-index.invariant
          (sym c.is_title_line.ensures ∙ w.if-is_title_line.true) w.in_ok-title.ensures
          ∙ ap (map Some) (sym (ap (λ t. map (λ (x : AeTitle). x.0) t.items) w.titles-is ∙ ap (map (λ (x : AeTitle). x.0)) w.in_ok-push.ensures.items
          ∙ map-append (λ (x : AeTitle). x.0) c.loop-index.titles.items (w.in_ok-title.title ∷ [])))
      | else-is_title_line w ↦
          no_title_more lines c.loop-index.index _ titles c.loop-index-test.true c.loop-index.invariant (sym c.is_title_line.ensures ∙ w.if-is_title_line.false)
          ∙ ap (λ t. map Some (map (λ (x : AeTitle). x.0) t.items)) (sym w.titles-is)
    ]
