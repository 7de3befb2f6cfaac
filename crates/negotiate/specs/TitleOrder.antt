-- The order in which calling titles are kept.
use Rattle.std.specs.Ordering.{nat_cmp, on}
use Rattle.std.specs.Cmp.Lexicographic.{slice_cmp}
use Rattle.std.specs.declared.cmp.Ordering.{Ordering}
use Rattle.element.specs.declared.title.AeTitle.{AeTitle}
use Rattle.element.specs.Title.{title_text}

-- titles are ordered by their texts without the spaces at both ends
abbrev pub title_order : AeTitle → AeTitle → Ordering
title_order = on (λ t. title_text t.0) (slice_cmp nat_cmp)
