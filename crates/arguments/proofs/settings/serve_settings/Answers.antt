use Rattle.std.proofs.Common.{rules, ◌≡◌, ◌^◌, ◌∙◌, ◌++◌, ◌∷◌, [], ℕ, List, Some, map, codes, not, ap, sym, subst}
use Rattle.std.specs.Prelude.{IsSomeAnd}
use Rattle.std.specs.List.Sorted.{IsPermutation}
use Rattle.std.proofs.lemmas.List.Sorted.{IsPermutation-map, IsPermutation-trans}
use Rattle.clap.specs.Walk.{first_of}
use Rattle.element.specs.Title.{title_of_text}
use Rattle.element.specs.declared.title.AeTitle.{AeTitle}
use Rattle.negotiate.specs.Settings.{Settings, settings_of}
use Rattle.arguments.specs.Asked.{Spells}
use Rattle.arguments.specs.AskedCallers.{titles_of_file}
use Rattle.arguments.specs.CommandLine.{values_of}
use Rattle.arguments.proofs.settings.serve_settings.Goals as goal

pub returns-clause-callers : goal.returns-clause-callers
returns-clause-callers c =
    let rows = c.args.given.now in
    let named = titles_of_file (first_of (codes "callers") rows) c.args.listed.now ++ values_of rows (codes "caller") in
    let kept : (settings_of c.with_callers-own.result).callers ≡ (settings_of c.in_ok-with_storage.field-0).callers = search rules in
    let sorted = IsPermutation-map Some _ _ c.with_callers-own.ensures.callers in
    record {
      titles = subst (λ l. IsPermutation (map title_of_text named) (map Some l)) kept (IsPermutation-trans _ _ _ c.in_ok-callers.ensures.titles sorted);
      some = c.in_ok-callers.ensures.some;
    }

same_head : (x y : List ℕ) (xs ys : List (List ℕ)) → x ∷ xs ≡ y ∷ ys → x ≡ y
same_head x y xs ys e = cc

pub returns-clause-served : goal.returns-clause-served
returns-clause-served c =
    let rows = c.args.given.now in
    let served = settings_of c.in_ok-with_storage.field-0 in
    let called = c.in_ok-called.called in
    let made : (settings_of c.with_callers-own.result).called ≡ called.own.0 ∷ [] = search rules in
    let own : c.with_callers-own.result.ae.0 ≡ called.own.0 = same_head _ _ _ _ made in
    let titles : served.called ≡ called.own.0 ∷ map (λ (t : AeTitle). t.0) called.also.items =
    ap (λ (s : Settings). s.called) c.in_ok-with_storage.ensures.rest
    ∙ (ap (λ (s : Settings). s.called) c.with_called-config.ensures ∙ ap (λ x. x ∷ map (λ (t : AeTitle). t.0) called.also.items) own) in
    let pdu : served.max_pdu ≡ c.in_ok-max_pdu.max_pdu = search rules in
    let size : served.max_data ≡ c.in_ok-max_data.max_data = search rules in
    record {
      bind = c.in_ok-text.ensures;
      port = c.in_ok-port.ensures.spelled;
      listen = ap (map (λ t. t.now)) c.in_ok-listen.ensures ∙ c.in_ok-few.ensures.values;
      out = c.in_ok-text-2.ensures;
      called = c.in_ok-called.ensures.read ∙ ap (map Some) (sym titles);
      any_called = search rules;
      max_pdu = subst (λ n. IsSomeAnd (first_of (codes "max-pdu") rows) (λ text. Spells 1024 131_072 text n)) (sym pdu) c.in_ok-max_pdu.ensures.spelled;
      max_data = subst (λ n. IsSomeAnd (first_of (codes "max-data") rows) (λ text. Spells 1024 (2 ^ 48) text n)) (sym size) c.in_ok-max_data.ensures.spelled;
      classes = c.in_ok-with_storage.ensures.classes;
      transfers = c.in_ok-with_storage.ensures.transfers;
      level = c.in_ok-level_of.ensures;
      form = search rules;
      layout = c.in_ok-layout_of.ensures;
      numbers = c.get-2.ensures;
      sync = ap not c.flag-2.ensures;
      metrics = c.get-3.ensures;
    }
