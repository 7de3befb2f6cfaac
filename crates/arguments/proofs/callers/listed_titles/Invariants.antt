use Rattle.std.proofs.Common.{◌≡◌, Some, filter, map, take}
use Rattle.element.specs.Title.{title_of_text}
use Rattle.arguments.specs.AskedCallers.{is_title_line}
use Rattle.arguments.proofs.callers.listed_titles.Given as goal

abbrev pub invariant-loop-index : goal.invariant-loop-index
invariant-loop-index l =
    map title_of_text (filter is_title_line (take l.index (map (λ line. line.now) l.lines))) ≡ map Some (map (λ t. t.0) l.titles.items)
