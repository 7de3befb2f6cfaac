-- What a walker reports of a whole data set decides the store's verdict (`judged_by`), and the verdict what comes of the
-- draft (`ends_committed`, `ends_failed`, `ends_unfiled`). Stands on StoresAreJudged/VerdictIsThere and the laws of
-- `sequence`.
use Rattle.std.proofs.Common.{◌≡◌, inl, inr, ℕ, Bool, true, false, ◌||◌, List, [], ◌∷◌, Result, Ok, Err, nat_eq, refl, sym, ap, subst, ◌∙◌, arith}
use Rattle.std.proofs.lemmas.Grind.{common_steps}
use Rattle.sequence.specs.Transfer.{coding_in}
use Rattle.sequence.specs.declared.coding.Coding.{Coding}
use Rattle.sequence.specs.declared.fault.Fault.{Fault}
use Rattle.sequence.specs.declared.walker.Walker.{Walker}
use Rattle.sequence.specs.Rules.{Limits}
use Rattle.sequence.specs.Open.{in_header, last_of}
use Rattle.sequence.specs.Tree.{Elements, no_elements}
use Rattle.sequence.specs.Wanted.{Values, kept_of}
use Rattle.sequence.specs.Ending.{IsWholeDataSet, Fails}
use Rattle.sequence.specs.Walk.{Report, Reports, going, refused}
use Rattle.sequence.specs.Consumed.{StandsAt, walker_syntax, limits_of, reported_by}
use Rattle.sequence.proofs.Public.{one_path, whole_breaks_no_rule}
use Rattle.dimse.specs.Command.{CommandRecord}
use Rattle.dimse.specs.Status.{success, out_of_resources, cannot_understand}
use Rattle.negotiate.specs.declared.proposals.Context.{Context}
use Rattle.part10.specs.Store.{Store}
use Rattle.engine.specs.declared.stores.StoreStatus.{StoreStatus}
use Rattle.engine.specs.Timeline.{Finding, good}
use Rattle.engine.specs.Stores.{IsOfContext, NamesUid, NamesInstance, HasNoFault, Submitted, OwnClass, OwnInstance, Filed, FirstFinding, Verdict, wanted, limits, class_tag, failure, of_fault}
use Rattle.engine.specs.StoredData.{Stored, Nothing, Walking, HasWalked, drafting_in}
use Rattle.engine.specs.machine.Storing.{Drops, EndsDraft, EndsStore, finding_of}
use Rattle.engine.specs.machine.Storing as ends
use Rattle.engine.specs.machine.Verdicts.{IsGood, FailsAs, Differs, other_class, other_instance, Compared, WalkHasVerdict, HasVerdict, Commits, done, undone, EndsAs}
use Rattle.engine.proofs.StoresAreJudged.VerdictIsThere.{whole_front}

-- ---- what a walker reports of a whole data set

pub kept_reported : {s : Coding} {lim : Limits} {b : List ℕ} {reported : Report} {elements : Elements} → HasNoFault s lim b elements → Reports s lim b reported → reported.kept ≡ kept_of lim.wanted elements
kept_reported {s} {lim} {b} {reported} {elements} h (going {es = es} {path = path} {last = last} {tail = tail} unbroken o) =
    ap (kept_of lim.wanted) (one_path s b es elements path [] last (last_of 0 elements) tail (in_header []) o (whole_front s elements b h.whole)).0
kept_reported h (refused {p = p} {u = u} {rule = rule} {tag = tag} f o) = absurd (h.unbroken p u f.rest rule tag f.text f.breaks)

-- the walker's data set is whole, and it kept what is wanted of its elements
pub record IsRead {V D : ℕ} (w : Walker V D) (context : Context) (depth most : ℕ) (set : List ℕ) : Type 0 where
  pub elements : Elements
  pub fault_free : HasNoFault (coding_in context.syntax) (limits depth most) set elements
  pub kept : (reported_by w).kept ≡ kept_of wanted elements

pub is_read : {V D : ℕ} (w : Walker V D) → ((b : List ℕ) → StandsAt w b → IsWholeDataSet (walker_syntax w) (limits_of w) b)
    → (context : Context) (depth most : ℕ) (set : List ℕ) → HasWalked w (coding_in context.syntax) (limits depth most) set → IsRead w context depth most set
is_read w whole context depth most set k =
    let lim = limits depth most in
    let here : IsWholeDataSet (coding_in context.syntax) lim set = subst (λ z. IsWholeDataSet z lim set) k.syntax_is (subst (λ z. IsWholeDataSet (walker_syntax w) z set) k.limits_are (whole set k.stands)) in
    let reports : Reports (coding_in context.syntax) lim set (reported_by w) = subst (λ z. Reports z lim set (reported_by w)) k.syntax_is (subst (λ z. Reports (walker_syntax w) z set (reported_by w)) k.limits_are k.stands.reports) in
    let h : HasNoFault (coding_in context.syntax) lim set here.elements = record { whole = here.text; unbroken = whole_breaks_no_rule (coding_in context.syntax) lim set here } in
    record { elements = here.elements; fault_free = h; kept = kept_reported h reports }

-- ---- the verdicts

pub fault_fails : {V D : ℕ} (w : Walker V D) (command : CommandRecord) (fault : Fault) (s : StoreStatus) → finding_of s ≡ of_fault fault → ((b : List ℕ) → StandsAt w b → Fails (walker_syntax w) (limits_of w) b fault)
    → (context : Context) (depth most : ℕ) (set : List ℕ) → HasWalked w (coding_in context.syntax) (limits depth most) set → FailsAs depth most context command set (finding_of s)
fault_fails w command fault s e fails context depth most set k of filing =
    let found : Fails (coding_in context.syntax) (limits depth most) set fault = subst (λ z. Fails z (limits depth most) set fault) k.syntax_is (subst (λ z. Fails (walker_syntax w) z set fault) k.limits_are (fails set k.stands)) in
    record { elements = no_elements; first = inr (of, inl (fault, found, e)) }

pub fault_is_failure : (fault : Fault) → (of_fault fault).status ≡ success → ⊥
fault_is_failure fault = by (nat_eq fault.number 18 || nat_eq fault.number 19) refl
  where
    by : (b : Bool) → (nat_eq fault.number 18 || nat_eq fault.number 19) ≡ b → (of_fault fault).status ≡ success → ⊥
    by true e k = let z : out_of_resources ≡ success = (rw e at k) in absurd (omega (arith, z))
    by false e k = let z : cannot_understand ≡ success = (rw e at k) in absurd (omega (arith, z))

differs_first : (x : Submitted) (values : Values) (finding : Finding) → values ≡ kept_of wanted x.elements → Differs values x.command finding → FirstFinding x (OwnClass ∷ OwnInstance ∷ Filed ∷ []) finding
differs_first x values finding e (other_class other) = inl ((λ n. other (subst (λ z. NamesUid z class_tag x.command.class) (sym e) n)), refl)
differs_first x values finding e (other_instance class other) = inr (subst (λ z. NamesUid z class_tag x.command.class) e class, inl ((λ n. other (subst (λ z. NamesInstance z x.command) (sym e) n)), refl))

pub differs_fails : {V D : ℕ} (w : Walker V D) (command : CommandRecord) (finding : Finding) → ((b : List ℕ) → StandsAt w b → IsWholeDataSet (walker_syntax w) (limits_of w) b) → Differs (reported_by w).kept command finding
    → (context : Context) (depth most : ℕ) (set : List ℕ) → HasWalked w (coding_in context.syntax) (limits depth most) set → FailsAs depth most context command set finding
differs_fails w command finding whole differs context depth most set k of filing =
    let r = is_read w whole context depth most set k in
    let x : Submitted = record { context = context; command = command; data_set = set; limits = limits depth most; elements = r.elements; failed = filing } in
    record { elements = r.elements; first = inr (of, inr (r.fault_free, differs_first x (reported_by w).kept finding r.kept differs)) }

pub differs_is_failure : (values : Values) (command : CommandRecord) (finding : Finding) → Differs values command finding → finding.status ≡ success → ⊥
differs_is_failure values command finding h k = grind (arith, common_steps)

-- the comparison of a whole data set is the judgement
pub judged_by : {V D : ℕ} (w : Walker V D) (command : CommandRecord) (result : Result (Unit {0}) StoreStatus) → ((b : List ℕ) → StandsAt w b → IsWholeDataSet (walker_syntax w) (limits_of w) b) → Compared (reported_by w).kept command result → WalkHasVerdict w command result
judged_by w command (Ok u) whole named = λ context depth most set k.
    let r = is_read w whole context depth most set k in
    record { elements = r.elements; fault_free = r.fault_free; class = subst (λ z. NamesUid z class_tag command.class) r.kept named.0; instance = subst (λ z. NamesInstance z command) r.kept named.1 }
judged_by w command (Err s) whole named = (differs_is_failure _ command (finding_of s) named, differs_fails w command (finding_of s) whole named)

-- ---- the end of a walk

verdict_good : {depth most : ℕ} {context : Context} {command : CommandRecord} {set : List ℕ} → IsGood depth most context command set → IsOfContext context command → Verdict depth most context command set false good
verdict_good g of = record { elements = g.elements; first = inr (of, inr (g.fault_free, inr (g.class, inr (g.instance, inr (refl, refl))))) }

verdict_unfiled : {depth most : ℕ} {context : Context} {command : CommandRecord} {set : List ℕ} → IsGood depth most context command set → IsOfContext context command → Verdict depth most context command set true (failure out_of_resources)
verdict_unfiled g of = record { elements = g.elements; first = inr (of, inr (g.fault_free, inr (g.class, inr (g.instance, inl ((λ e. cc), refl))))) }

unfiled_fails : (finding : Finding) → finding ≡ failure out_of_resources → finding.status ≡ success → ⊥
unfiled_fails finding e k = let z : out_of_resources ≡ success = sym (ap (λ (f : Finding). f.status) e) ∙ k in absurd (omega (arith, z))

committed_walk : {V D : ℕ} (w : Walker V D) (command : CommandRecord) (finding : Finding) (old new : Store) (drafting : Bool) (context : Context) (depth most : ℕ) (set : List ℕ) → drafting ≡ true → IsGood depth most context command set → Commits finding old new → EndsStore depth most context command set drafting finding old new
committed_walk w command finding old new drafting context depth most set e g (done is step) = record {
  failed_then = false;
  draft = ends.filed e (ap (λ (f : Finding). f.status) is) step;
  verdict = λ of. rw e (rw is (verdict_good g of));
}
committed_walk w command finding old new drafting context depth most set e g (undone is step) = record {
  failed_then = true;
  draft = ends.commit_failed e step;
  verdict = λ of. rw is (verdict_unfiled g of);
}

pub ends_committed : (command : CommandRecord) (finding : Finding) (old new : Store) (stored : Stored) → drafting_in stored ≡ true → HasVerdict command stored (Ok tt) → Commits finding old new → EndsAs command finding old new stored
ends_committed command finding old new Nothing e k c = tt
ends_committed command finding old new (Walking w drafting) e k c = λ context depth most set accepts. committed_walk w command finding old new drafting context depth most set e (k context depth most set accepts) c

pub ends_unfiled : (command : CommandRecord) (finding : Finding) (store : Store) (stored : Stored) → drafting_in stored ≡ false → HasVerdict command stored (Ok tt) → finding ≡ failure out_of_resources → EndsAs command finding store store stored
ends_unfiled command finding store Nothing e k is = tt
ends_unfiled command finding store (Walking w drafting) e k is = λ context depth most set accepts. record {
  failed_then = false;
  draft = ends.dropped (unfiled_fails finding is) (rw e refl);
  verdict = λ of. rw e (rw is (verdict_unfiled (k context depth most set accepts) of));
}

pub ends_failed : (command : CommandRecord) (s : StoreStatus) (old new : Store) (stored : Stored) → HasVerdict command stored (Err s) → Drops (drafting_in stored) old new → EndsAs command (finding_of s) old new stored
ends_failed command s old new Nothing k d = tt
ends_failed command s old new (Walking w drafting) k d = λ context depth most set accepts. record {
  failed_then = false;
  draft = ends.dropped k.0 d;
  verdict = λ of. k.1 context depth most set accepts of _;
}
