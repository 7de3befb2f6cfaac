use Rattle.std.proofs.Common.{None, refl, sym, inl, inr, ◌≡◌, ◌≤◌, subst, ap, ◌∙◌, arith}
use Rattle.std.proofs.lemmas.Result.{err_from_is_err_and}
use Rattle.folder_filing.specs.Naming.{IsOrderly, NoneIsRemaining}
use Rattle.folder_filing.specs.Locations.{next_location, order}
use Rattle.folder_filing.specs.declared.location.Layout.TheVariants.{Levels}
use Rattle.folder_filing.proofs.NamesStayOrderly.{continues, keeps_same, search_begins, search_ends, search_fails, search_continues, search_is_refused, search_syncs}
use Rattle.folder_filing.proofs.locked_folder.LockedFolder.name_draft.Goals as goal
use Rattle.folder_filing.proofs.locked_folder.LockedFolder.name_draft.Goals.{in-Flat, in-Levels}

pub returns-in_err-check_path-clause-orderly : goal.returns-in_err-check_path-clause-orderly
returns-in_err-check_path-clause-orderly g c = λ h.
    let asked = c.in_err-check_path.ensures.refused in
    continues _ _ refl (omega arith) (keeps_same _) asked.standing (asked.loses _ _) (subst IsOrderly (sym c.names.view_is) h)

pub loop-turn-init : goal.loop-turn-init
loop-turn-init g c =
    let is = c.names.view_is in
    search_begins c.args.names.now _ (ap (λ n. n.layout) is, ap (λ n. n.kept) is, ap (λ n. n.has_sync) is, ap (λ n. n.own) is) (c.in_ok-check_path.ensures.unchanged ∙ ap (λ n. n.calls) is)
    (subst (λ z. order z ≤ order c.later-names-inside.result) (ap (λ n. n.last) is) c.later-names-inside.ensures.own) c.requires.written

pub loop-turn-preserved : goal.loop-turn-preserved
loop-turn-preserved g c =
    let next = c.in_ok-location.ensures in
    let tried = c.in_ok-name_at.ensures in
    search_continues _ _ _ _ _ c.in_ok-location.location _ c.in_ok-name_at.field-0 c.in-Met.obstacle c.in-Met.is c.loop-turn.invariant
    (record { calls = next.calls; sync = next.sync; own = next.own; rises = next.rises; behind = next.behind; kept = next.kept; orderly = next.orderly })
    (record { remaining = tried.remaining; same = tried.same; loses = tried.loses })
    c.pass_over.ensures.calls c.pass_over.ensures.same c.pass_over.ensures.behind

pub returns-in_err-location : goal.returns-in_err-location
returns-in_err-location g c =
    let next = c.in_err-location.ensures in
    let sync = next.sync ∙ c.loop-turn.invariant.sync in
    let own = next.own ∙ c.loop-turn.invariant.own in
    let all = search_is_refused _ _ _ _ c.loop-turn.invariant next.names next.refused next.orderly in
    rw (err_from_is_err_and c.from_residual-in_err-location.result c.from_residual-in_err-location.ensures.1).1 (record { sync = sync; own = own; named = tt; settled = tt; remaining = all.0; refused = all.1; orderly = all.2; synced = λ has apart. tt; unreported = tt })

pub returns-in_err-name_at : goal.returns-in_err-name_at
returns-in_err-name_at g c =
    let next = c.in_ok-location.ensures in
    let tried = c.in_err-name_at.ensures in
    let all = search_fails _ _ _ _ c.in_ok-location.location _ c.in_err-name_at.field-0.0 c.loop-turn.invariant
    (record { calls = next.calls; sync = next.sync; own = next.own; rises = next.rises; behind = next.behind; kept = next.kept; orderly = next.orderly })
    (record { remaining = tried.remaining; same = tried.same; loses = tried.loses }) in
    rw (err_from_is_err_and c.from_residual-in_err-name_at.result c.from_residual-in_err-name_at.ensures.1).1 (record { sync = tried.same.2 ∙ next.sync ∙ c.loop-turn.invariant.sync; own = tried.same.3 ∙ next.own ∙ c.loop-turn.invariant.own; named = tt; settled = tt; remaining = all.0; refused = all.1; orderly = all.2; synced = λ has apart. tt; unreported = tt })

pub returns-in-Named : goal.returns-in-Named
returns-in-Named g c =
    let next = c.in_ok-location.ensures in
    let tried = c.in_ok-name_at.ensures in
    let all = search_ends _ _ _ _ c.in_ok-location.location _ c.in_ok-name_at.field-0 c.in-Named.field-0 c.in-Named.is c.loop-turn.invariant
    (record { calls = next.calls; sync = next.sync; own = next.own; rises = next.rises; behind = next.behind; kept = next.kept; orderly = next.orderly })
    (record { remaining = tried.remaining; same = tried.same; loses = tried.loses }) in
    let synced = search_syncs _ _ _ _ c.in_ok-location.location _ c.in_ok-name_at.field-0 c.in-Named.field-0 c.in-Named.is c.loop-turn.invariant
    (record { calls = next.calls; sync = next.sync; own = next.own; rises = next.rises; behind = next.behind; kept = next.kept; orderly = next.orderly }) in
    record { sync = tried.same.2 ∙ next.sync ∙ c.loop-turn.invariant.sync; own = tried.same.3 ∙ next.own ∙ c.loop-turn.invariant.own; named = all.0; settled = all.1; remaining = tt; refused = tt; orderly = all.2; synced = λ has apart. synced (λ h. tried.synced h apart) has; unreported = all.3 }

pub none_remaining-requires : goal.none_remaining-requires
none_remaining-requires g c =
    let last = ap (λ n. n.last) c.names-2.view_is in
    let far : 18446744073709551615 ≤ order c.loop-turn.names.last = omega (arith, c.loop-turn.invariant.far, c.loop-turn-test.false) in
    record { far = subst (λ z. 18446744073709551615 ≤ order z) (sym last) far }

pub returns : goal.returns
returns g c =
    let was = c.loop-turn.invariant in
    let none : next_location c.names-2.inside.layout c.names-2.inside.last ≡ None = elim c.match-names.branch [
      | in-Flat w ↦ rw w.in-Flat.is c.none_remaining.ensures.flat
      | in-Levels w ↦ rw w.in-Levels.is (subst (λ z. next_location (Levels z) c.names-2.inside.last ≡ None) w.per-is c.none_remaining.ensures.levels)
    ] in
    record { sync = was.sync; own = was.own; named = tt; settled = tt; remaining = inl was.same; refused = inr (subst NoneIsRemaining c.names-2.view_is none); orderly = was.orderly; synced = λ has apart. tt; unreported = tt }
