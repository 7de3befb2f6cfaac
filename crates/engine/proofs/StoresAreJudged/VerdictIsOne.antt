-- There is one verdict on each store, and no other (`a_verdict_is_one`). Stands on HeldBytes/HeldIsOne and the laws of
-- `sequence`.
use Rattle.std.proofs.Common.{◌≡◌, inl, inr, ℕ, Bool, List, [], ◌∷◌, sym, ap, subst, ◌∙◌}
use Rattle.sequence.specs.Transfer.{coding_in}
use Rattle.sequence.specs.declared.coding.Coding.{Coding}
use Rattle.sequence.specs.declared.fault.Fault.{Fault}
use Rattle.sequence.specs.Rules.{Limits}
use Rattle.sequence.specs.Tree.{Elements}
use Rattle.sequence.specs.FirstFault.{tag_of_tail}
use Rattle.sequence.specs.Ending.{Fails, breaks_rule, ends_early}
use Rattle.sequence.proofs.Public.{one_tree, one_path, one_fault}
use Rattle.dimse.specs.Command.{CommandRecord}
use Rattle.dimse.specs.Status.{cannot_understand}
use Rattle.negotiate.specs.declared.proposals.Context.{Context}
use Rattle.engine.specs.Timeline.{Finding}
use Rattle.engine.specs.Stores.{HasNoFault, Submitted, Check, OfContext, WholeSet, OwnClass, OwnInstance, Filed, Passes, FailsWith, FirstFinding, Verdict, limits, cause, of_fault}
use Rattle.engine.specs.StoreLaws.{AVerdictIsOne}
use Rattle.engine.proofs.HeldBytes.HeldIsOne.{no_fault}

-- ---- one check

faults_alike : (s : Coding) (lim : Limits) (b : List ℕ) (one other : Fault) → Fails s lim b one → Fails s lim b other → of_fault one ≡ of_fault other
faults_alike s lim b one other (breaks_rule {p = p} {u = u} {rule = rule} {tag = tag} f) (breaks_rule {p = p2} {u = u2} {rule = rule2} {tag = tag2} g) =
    let k = one_fault s lim b p p2 u u2 rule rule2 tag tag2 f g in λ i. of_fault (record { number = k.2 i; offset = 0; tag = k.3 i })
faults_alike s lim b one other (breaks_rule f) (ends_early g) = absurd (no_fault g.unbroken f)
faults_alike s lim b one other (ends_early f) (breaks_rule g) = absurd (no_fault f.unbroken g)
faults_alike s lim b one other (ends_early f) (ends_early g) =
    let same = one_path s b f.elements g.elements f.path g.path f.last g.last f.tail g.tail f.front g.front in
    ap (cause cannot_understand 20) (f.tagged ∙ ap tag_of_tail same.3 ∙ sym g.tagged)

whole_or_faulty : {s : Coding} {lim : Limits} {b : List ℕ} {es : Elements} (fault : Fault) → Fails s lim b fault → HasNoFault s lim b es → ⊥
whole_or_faulty fault (breaks_rule f) h = no_fault h.unbroken f
whole_or_faulty {es = es} fault (ends_early f) h = f.unfinished es h.whole

one_finding : (x : Submitted) (check : Check) (one other : Finding) → FailsWith x check one → FailsWith x check other → one ≡ other
one_finding x OfContext one other a b = a.1 ∙ sym b.1
one_finding x WholeSet one other a b = a.2 ∙ faults_alike (coding_in x.context.syntax) x.limits x.data_set a.0 b.0 a.1 b.1 ∙ sym b.2
one_finding x OwnClass one other a b = a.1 ∙ sym b.1
one_finding x OwnInstance one other a b = a.1 ∙ sym b.1
one_finding x Filed one other a b = a.1 ∙ sym b.1

fails_or_passes : (x : Submitted) (check : Check) (finding : Finding) → FailsWith x check finding → Passes x check → ⊥
fails_or_passes x OfContext finding f p = f.0 p
fails_or_passes x WholeSet finding f p = whole_or_faulty f.0 f.1 p
fails_or_passes x OwnClass finding f p = f.0 p
fails_or_passes x OwnInstance finding f p = f.0 p
fails_or_passes x Filed finding f p = f.0 p

-- ---- all of them

one_first : (x : Submitted) (checks : List Check) (one other : Finding) → FirstFinding x checks one → FirstFinding x checks other → one ≡ other
one_first x [] one other a b = a ∙ sym b
one_first x (check ∷ later) one other (inl a) (inl b) = one_finding x check one other a b
one_first x (check ∷ later) one other (inl a) (inr b) = absurd (fails_or_passes x check one a b.0)
one_first x (check ∷ later) one other (inr a) (inl b) = absurd (fails_or_passes x check other b a.0)
one_first x (check ∷ later) one other (inr a) (inr b) = one_first x later one other a.1 b.1

pub same_finding : (depth most : ℕ) (context : Context) (command : CommandRecord) (set : List ℕ) (failed : Bool) (one other : Finding)
    → Verdict depth most context command set failed one → Verdict depth most context command set failed other → one ≡ other
same_finding depth most context command set failed one other v w = by v.first w.first
  where
    x : Elements → Submitted
    x es = record { context = context; command = command; data_set = set; limits = limits depth most; elements = es; failed = failed }

    by : FirstFinding (x v.elements) (OfContext ∷ WholeSet ∷ OwnClass ∷ OwnInstance ∷ Filed ∷ []) one → FirstFinding (x w.elements) (OfContext ∷ WholeSet ∷ OwnClass ∷ OwnInstance ∷ Filed ∷ []) other → one ≡ other
    by (inl a) (inl b) = one_finding (x v.elements) OfContext one other a b
    by (inl a) (inr b) = absurd (a.0 b.0)
    by (inr a) (inl b) = absurd (b.0 a.0)
    by (inr (p, inl a)) (inr (q, inl b)) = one_finding (x v.elements) WholeSet one other a b
    by (inr (p, inl a)) (inr (q, inr b)) = absurd (whole_or_faulty a.0 a.1 b.0)
    by (inr (p, inr a)) (inr (q, inl b)) = absurd (whole_or_faulty b.0 b.1 a.0)
    by (inr (p, inr a)) (inr (q, inr b)) =
        let same : w.elements ≡ v.elements = one_tree (coding_in context.syntax) 0 w.elements v.elements set b.0.whole a.0.whole in
        one_first (x v.elements) (OwnClass ∷ OwnInstance ∷ Filed ∷ []) one other a.1 (subst (λ es. FirstFinding (x es) (OwnClass ∷ OwnInstance ∷ Filed ∷ []) other) same b.1)

pub a_verdict_is_one : AVerdictIsOne
a_verdict_is_one depth most context command set failed one other bytes v w = same_finding depth most context command set failed one other v w
