use Rattle.std.proofs.Common.{rules, ◌≡◌, ◌∙◌, ◌||◌, false, length, map, nat_eq, ap, sym}
use Rattle.std.proofs.lemmas.Fn.{always_returns_same}
use Rattle.std.proofs.lemmas.List.{length-map}
use Rattle.negotiate.specs.Answer.{is_among, may_call, same_title}
use Rattle.negotiate.specs.TitleOrder.{title_order}
use Rattle.negotiate.proofs.AcceptedPeersTakeFragments.{list_any-map}
use Rattle.negotiate.proofs.SortedTitlesAreFound.{found}
use Rattle.negotiate.proofs.config.Config.may_call.Goals as goal

pub returns-else-is_empty : goal.returns-else-is_empty
returns-else-is_empty c =
    let titles = c.callers-callers.result.now in
    let calling = c.args.calling in
    let texts = map (λ t. t.0) titles in
    let compares = always_returns_same _ (λ a r. r ≡ title_order a.0.now calling) _ (λ a r f k. search rules) in
    let some : false ≡ nat_eq (length texts) 0 = c.if-is_empty.ensures ∙ sym (ap (λ n. nat_eq n 0) (length-map titles (λ t. t.0))) in
    c.is_ok.ensures.value
    ∙ found titles calling c.binary_search_by.result c.callers-callers.ensures.ordered c.binary_search_by.ensures.bound
    (c.binary_search_by.ensures.position (λ y. title_order y calling) compares)
    ∙ sym (list_any-map (λ title. same_title title calling.0) (λ t. t.0) titles)
    ∙ ap (λ b. b || is_among texts calling.0) some
    ∙ ap (λ l. may_call l calling.0) c.callers-callers.ensures.callers
