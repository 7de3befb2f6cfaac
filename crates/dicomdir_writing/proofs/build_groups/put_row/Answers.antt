use Rattle.std.proofs.Common.{◌∙◌, ◌<◌, ◌++◌, ◌∷◌, [], map, length, ap, arith}
use Rattle.std.proofs.lemmas.List.{length-map}
use Rattle.dicomdir_writing.proofs.GroupsKeepSeenOrder.{row_put}
use Rattle.dicomdir_writing.proofs.build_groups.put_row.Goals as goal

pub returns : goal.returns
returns g c =
    let lt : c.args.number < length c.args.groups.now.items = omega (arith, c.requires, length-map c.args.groups.now.items (λ v. map (λ r. r.now) v.items)) in
    row_put c.args.groups.now.items c.args.number c.index_mut.result.now c.push.new.self c.args.row lt
    (c.in_ok-push.ensures.items ∙ ap (λ v. v.items ++ c.args.row ∷ []) c.index_mut.ensures.value)
