use Rattle.std.proofs.Common.{◌≡◌, Some, length, map, take}
use Rattle.element.specs.Title.{title_of_text}
use Rattle.arguments.proofs.callers.named_titles.Given as goal

abbrev pub invariant-loop-text : goal.invariant-loop-text
invariant-loop-text g l = (length l.titles.items ≡ l.text-index)
    × (map (λ t. title_of_text t.now) (take l.text-index l.texts) ≡ map Some (map (λ t. t.0) l.titles.items))
