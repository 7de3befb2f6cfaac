use Rattle.std.proofs.Common.{rules, ◌≡◌, ◌∙◌, ◌++◌, Some, map, codes, ap, subst}
use Rattle.std.specs.List.Sorted.{IsPermutation}
use Rattle.std.proofs.lemmas.List.Sorted.{IsPermutation-refl}
use Rattle.clap.specs.Walk.{first_of}
use Rattle.element.specs.Title.{title_of_text}
use Rattle.element.specs.declared.title.AeTitle.{AeTitle}
use Rattle.arguments.specs.AskedCallers.{titles_of_file}
use Rattle.arguments.proofs.LinesGiveTheirTitles.{some_named, with_named}
use Rattle.arguments.proofs.callers.callers_of.Goals as goal

pub returns : goal.returns
returns c =
    let listed = titles_of_file (first_of (codes "callers") c.args.given.now) c.args.text.now in
    let titles = c.extend_from_slice.new.self.items in
    let joined : titles ≡ c.in_ok-titles.titles.items ++ c.in_ok-named.named.items = search rules in
    let read = ap (λ o. map title_of_text (titles_of_file o c.args.text.now)) c.get.ensures ∙ c.in_ok-titles.ensures.read in
    let named = with_named listed c.in_ok-callers.callers.now c.in_ok-titles.titles.items c.in_ok-named.named.items titles read c.in_ok-named.ensures.read joined in
    record {
      titles = subst (IsPermutation _)
          (subst (λ v. map title_of_text (listed ++ v) ≡ map Some (map (λ (t : AeTitle). t.0) titles)) c.in_ok-callers.ensures.values named) (IsPermutation-refl _);
      some = some_named c.get.result _ _ c.get.ensures c.in_ok-titles.ensures.some;
    }
