-- A walk along a piece goes to its end (`walks_whole`) or fails as the data set does (`walks_fails`). A fault of a
-- file header (`header_check`), or of a walk over the whole text (`text_fails`, `data_set_check`), is the fault that a
-- check returns. Stands on the laws of `dictionary` and `sequence`.
use Rattle.std.proofs.Common.{append_assoc, true, ◌≡◌, ℕ, ◌≤◌, Bool, Some, None, arith, if◌then◌else◌, List, ◌≢◌, ◌+◌, ◌-◌, length, refl, ap, subst, ◌∙◌, zero, suc, [], ◌∷◌, ◌++◌, take, drop, sym, not, ◌&&◌, nat_eq, nat_lt, nat_le, ◌%◌}
use Rattle.element.specs.declared.size.Need.{Need}
use Rattle.element.specs.declared.syntax.Syntax.{Syntax}
use Rattle.element.specs.declared.syntax.Syntax.TheVariants as syntaxes
use Rattle.sequence.specs.Shape.{is_undefined, shape}
use Rattle.sequence.specs.Coding.{layout}
use Rattle.sequence.specs.declared.coding.Coding.{Coding}
use Rattle.element.specs.declared.tag.Tag.{Tag}
use Rattle.element.specs.declared.header.Header.{Header}
use Rattle.element.specs.Header.{tag_at, need, is_marker}
use Rattle.sequence.specs.declared.fault.Fault.{Fault}
use Rattle.sequence.specs.declared.spot.Spot.{Spot}
use Rattle.sequence.specs.Ending.{Fails, breaks_rule, ends_early}
use Rattle.sequence.specs.Rules.{Limits, Broken, broken_tag, broken_need, broken_header, broken, ◌or_else◌, no_tag, is_long_mark, is_not_allowed, is_endless, passes, counted_length, is_too_long, opens}
use Rattle.std.proofs.lemmas.Bool.Decides.{nat_tests}
use Rattle.std.proofs.lemmas.Grind.{common_steps}
use Rattle.std.specs.Bool.{◌==◌}
use Rattle.std.proofs.lemmas.List.{take_rest, length-append, append-nil, length-drop, drop-drop, take-append-drop}
use Rattle.sequence.specs.declared.coding.Coding.TheVariants.{Explicit}
use Rattle.dictionary.specs.Syntaxes.{syntax_uid}
use Rattle.dictionary.specs.Transfers.{native, syntax_in, transfer_uid}
use Rattle.dictionary.proofs.Public.{native_uid}
use Rattle.part10.specs.declared.meta.Meta.{Meta}
use Rattle.part10.specs.declared.meta_fault.MetaFault.{MetaFault}
use Rattle.part10.specs.declared.meta_fault.MetaFault.TheVariants.{NotPart10, BadMeta, OtherSyntax, ReadFailed}
use Rattle.part10.specs.MetaText.{meta_values_of, ConsumesMeta, FailsToRead}
use Rattle.dicomdir.specs.declared.fault.DirFault.{DirFault}
use Rattle.dicomdir.specs.DirFault.{CheckFault, check_limits, HasHeader, IsAtNone, in_header, in_syntax, in_data_set, at_the_end}
use Rattle.dicomdir.specs.machine.Faults.{header_fault_of, refusal_of}
use Rattle.dicomdir.specs.Walking.{IsGoing, IsSameSet, FailsIn}
use Rattle.element.specs.Numbers.{IsBytes}
use Rattle.sequence.specs.declared.step.Step.{Step}
use Rattle.sequence.specs.FirstFault.{IsUnbroken}
use Rattle.sequence.specs.Walk.{Report, Reports, going, refused}
use Rattle.sequence.specs.declared.step.Step.TheVariants.{Refused}
use Rattle.sequence.specs.Answering.{IsRun, Answers, no_piece, continues, element, opened, closed, runs, refuses, stays}
use Rattle.sequence.specs.declared.walker.Walker.{Walker}
use Rattle.sequence.specs.Consumed.{StandsAt, walker_syntax, limits_of, fault_of}
use Rattle.dicomdir.specs.Laws.{WalkersStartWithoutFault}
use Rattle.sequence.proofs.Public.{fault_stays, nothing_unbroken}

-- a rule, if any is broken
abbrev IsRule : Broken → Type 0
IsRule o = (n : ℕ) (t : Tag) → o ≡ Some (n, t) → n ≤ 21

none_rule : IsRule None
none_rule n t e = absurd cc

some_rule : (k : ℕ) (u : Tag) → k ≤ 21 → IsRule (Some (k, u))
some_rule k u le n t e = grind (arith, common_steps)

if_rule : (b : Bool) (x y : Broken) → IsRule x → IsRule y → IsRule (if b then x else y)
if_rule v1 x y p q = grind (arith, nat_tests)

or_rule : (x y : Broken) → IsRule x → IsRule y → IsRule (x or_else y)
or_rule v1 y p q = grind (arith, nat_tests)

tag_rule : (spot : Spot) (t : Tag) → IsRule (broken_tag spot t)
unfolding broken_tag
tag_rule spot t = grind (arith, common_steps, some_rule 15 t (omega arith), some_rule 13 t (omega arith), some_rule 12 t (omega arith))

need_rule : (spot : Spot) (n : Need) (t : Tag) → IsRule (broken_need spot n t)
need_rule spot v2 t = grind (arith, nat_tests)

header_rule : (lim : Limits) (spot : Spot) (size : ℕ) (h : Header) → IsRule (broken_header lim spot size h)
unfolding broken_header
header_rule lim spot size h =
    if_rule (is_long_mark h) _ _ (some_rule 16 h.tag (omega arith))
    (if_rule (not (is_marker h.tag) && is_not_allowed (shape spot.syntax h)) _ _ (some_rule 14 h.tag (omega arith))
    (if_rule (is_endless spot h) _ _ (some_rule 14 h.tag (omega arith))
    (if_rule (not (is_undefined h.length) && nat_eq (h.length % 2) 1) _ _ (some_rule 11 h.tag (omega arith))
    (if_rule (not (is_undefined h.length) && passes spot.near (size + h.length)) _ _ (some_rule 17 h.tag (omega arith))
    (if_rule (nat_lt lim.bytes (spot.offset + size + counted_length h.length)) _ _ (some_rule 19 h.tag (omega arith))
    (if_rule (is_too_long lim spot h) _ _ (some_rule 21 h.tag (omega arith))
    (if_rule (opens spot h && nat_le lim.depth spot.depth) _ None (some_rule 18 h.tag (omega arith)) none_rule)))))))

broken_rule : (lim : Limits) (spot : Spot) (t : List ℕ) → IsRule (broken lim spot t)
unfolding broken
broken_rule lim spot t = grind (arith, common_steps, tag_rule spot (tag_at t), need_rule spot (need (layout spot.syntax) t) (tag_at t), header_rule, if_rule, none_rule, or_rule)

pub fault_number : {s : Coding} {lim : Limits} {b : List ℕ} {fault : Fault} → Fails s lim b fault → fault.number ≤ 21
fault_number {lim = lim} (breaks_rule {u = u} {rule = rule} {tag = tag} first) = broken_rule lim _ u rule tag first.breaks.breaks
fault_number (ends_early end) = omega arith

pub fault_at_none : {s : Coding} {lim : Limits} {b : List ℕ} {fault : Fault} → Fails s lim b fault → fault.number ≡ 67 → ⊥
fault_at_none fails e = let le = fault_number fails in omega (arith, le, e)

-- ---- what a file header says of a check

pub header_check : (file : List ℕ) (fault : MetaFault) → FailsToRead fault (Some file) → (header_fault_of fault).number ≢ 67
    → CheckFault file (header_fault_of fault).number (header_fault_of fault).offset (header_fault_of fault).tag
header_check file NotPart10 r some = in_header NotPart10 r
header_check file BadMeta r some = in_header BadMeta r
header_check file OtherSyntax r some = in_header OtherSyntax r
header_check file ReadFailed r some = absurd (some refl)

pub header_at_none : (fault : MetaFault) (f : DirFault) → f ≡ header_fault_of fault → IsAtNone f
header_at_none v1 f is e = grind (arith, nat_tests)

-- the identifier of a native transfer syntax
said_native : (meta : Meta) (s : Syntax) → meta.syntax ≡ native (syntax_in meta.syntax) → syntax_in meta.syntax ≡ s → transfer_uid meta.syntax ≡ syntax_uid s
said_native meta s native_is is = ap transfer_uid native_is ∙ native_uid (syntax_in meta.syntax) ∙ ap syntax_uid is

pub implicit_check : (file rest : List ℕ) (meta : Meta) → ConsumesMeta (meta_values_of meta) (Some file) (Some rest) → meta.syntax ≡ native (syntax_in meta.syntax) → syntax_in meta.syntax ≡ syntaxes.Implicit
    → CheckFault file 53 132 no_tag
implicit_check file rest meta accepts native_is is =
    in_syntax (record { front = accepts.0; back = rest; whole = accepts.2; spelled = accepts.1 }) (said_native meta syntaxes.Implicit native_is is)

pub explicit_check : (file rest : List ℕ) (meta : Meta) → ConsumesMeta (meta_values_of meta) (Some file) (Some rest) → meta.syntax ≡ native (syntax_in meta.syntax) → syntax_in meta.syntax ≡ syntaxes.Explicit
    → HasHeader file rest
explicit_check file rest meta accepts native_is is = grind (arith, common_steps, said_native meta syntaxes.Explicit native_is is)

pub header_before : {file back : List ℕ} → HasHeader file back → length back ≤ length file
header_before {file = file} {back = back} h = grind (arith, common_steps, length-append h.front back)

pub data_set_check : {file back : List ℕ} (h : HasHeader file back) (fault : Fault) (start : ℕ) → start ≡ length file - length back → Fails Explicit check_limits back fault
    → CheckFault file fault.number (start + fault.offset) fault.tag
data_set_check {file = file} {back = back} h fault start from (breaks_rule {p = p} {rule = rule} {tag = tag} first) =
    let whole = ap length h.explicit.whole ∙ length-append h.front back in
    let offset : length h.front + length p ≡ start + length p = omega (arith, whole, from) in
    subst (λ z. CheckFault file rule z tag) offset (in_data_set h.explicit first)
data_set_check {file = file} {back = back} h fault start from (ends_early {tag = tag} end) =
    let whole = ap length h.explicit.whole ∙ length-append h.front back in
    let offset : length file ≡ start + length back = omega (arith, whole, from) in
    subst (λ z. CheckFault file 20 z tag) offset (at_the_end h.explicit end)

-- ---- a walk over a whole text, step by step

-- where nothing is refused, no rule is broken
pub unrefused : {s : Coding} {lim : Limits} {b piece consumed : List ℕ} {step : Step} → Answers s lim b piece consumed step → refusal_of step ≡ None → IsUnbroken s lim (b ++ consumed)
unrefused {s = s} {lim = lim} {b = b} (no_piece unbroken p t) e = subst (λ z. IsUnbroken s lim z) (sym (ap (λ z. b ++ z) t ∙ append-nil b)) unbroken
unrefused (continues unbroken part all) e = unbroken
unrefused (element unbroken ends mark) e = unbroken
unrefused (opened unbroken ends mark same) e = unbroken
unrefused (closed unbroken ends mark same) e = unbroken
unrefused (runs unbroken ends run) e = unbroken
unrefused (refuses unbroken fault whole at) e = absurd cc
unrefused (stays fault none) e = absurd cc

runs_none : (bytes : List ℕ) (step : Step) → IsRun bytes step → refusal_of step ≡ None
runs_none bytes v2 r = grind (arith, nat_tests)

-- and else a rule is broken, in any text that continues from there
pub refused_fails : {s : Coding} {lim : Limits} {b piece consumed : List ℕ} {step : Step} (more text : List ℕ) (fault : Fault) → Answers s lim b piece consumed step → refusal_of step ≡ Some fault
    → IsBytes text → text ≡ (b ++ consumed) ++ more → Fails s lim text fault
refused_fails more text fault (no_piece unbroken p t) e bytes whole = absurd cc
refused_fails more text fault (continues unbroken part all) e bytes whole = absurd cc
refused_fails more text fault (element unbroken ends mark) e bytes whole = absurd cc
refused_fails more text fault (opened unbroken ends mark same) e bytes whole = absurd cc
refused_fails more text fault (closed unbroken ends mark same) e bytes whole = absurd cc
refused_fails {consumed = consumed} more text fault (runs {step = step} unbroken ends run) e bytes whole = let none = runs_none consumed step run in absurd cc
refused_fails {s = s} {lim = lim} {b = b} {consumed = consumed} more text fault (refuses {p = p} {u = u} {rule = rule} {tag = tag} unbroken first it at) e bytes whole =
    let same : record { number = rule; offset = length p; tag = tag } ≡ fault = cc in
    let stays_first = fault_stays s lim (b ++ consumed) more p u rule tag (subst (λ z. IsBytes z) whole bytes) first in
    subst (λ z. Fails s lim text z) same (subst (λ z. Fails s lim z (record { number = rule; offset = length p; tag = tag })) (sym whole) (breaks_rule stays_first))
refused_fails {s = s} {lim = lim} {b = b} {consumed = consumed} more text fault (stays {p = p} {u = u} {rule = rule} {tag = tag} first none) e bytes whole =
    let same : record { number = rule; offset = length p; tag = tag } ≡ fault = cc in
    let all : text ≡ b ++ more = whole ∙ ap (λ z. z ++ more) (ap (λ z. b ++ z) none ∙ append-nil b) in
    let stays_first = fault_stays s lim b more p u rule tag (subst (λ z. IsBytes z) all bytes) first in
    subst (λ z. Fails s lim text z) same (subst (λ z. Fails s lim z (record { number = rule; offset = length p; tag = tag })) (sym all) (breaks_rule stays_first))

-- what is reported where no rule is broken is no fault
pub reports_none : {s : Coding} {lim : Limits} {b : List ℕ} {reported : Report} → Reports s lim b reported → IsUnbroken s lim b → reported.fault ≡ None
reports_none (going unbroken front) u = refl
reports_none (refused {p = p} {u = t} {rule = rule} {tag = tag} first front) u = absurd (u p t first.rest rule tag first.text first.breaks)

pub failed_text : {s : Coding} {lim : Limits} (s2 : Coding) (lim2 : Limits) (text : List ℕ) (fault : Fault) → s ≡ s2 → lim ≡ lim2 → Fails s lim text fault → Fails s2 lim2 text fault
failed_text {s = s} {lim = lim} s2 lim2 text fault e f w = grind (arith, common_steps)

-- one step farther along the text

pub further_take : (a n : ℕ) (text : List ℕ) → n ≤ length (drop a text) → take a text ++ take n (drop a text) ≡ take (a + n) text
further_take zero n text fits = let same : zero + n ≡ n = omega arith in ap (λ z. take z text) (sym same)
further_take (suc a) n [] fits = grind (arith, common_steps)
further_take (suc a) n (x ∷ text) fits =
    let more : suc a + n ≡ suc (a + n) = omega arith in
    ap (λ z. x ∷ z) (further_take a n text fits) ∙ ap (λ z. take z (x ∷ text)) (sym more)

pub record Farther (text rest : List ℕ) (n : ℕ) : Type 0 where
  pub fits : length (drop n rest) ≤ length text
  pub is_rest : drop n rest ≡ drop (length text - length (drop n rest)) text
  pub consumed : take (length text - length rest) text ++ take n rest ≡ take (length text - length (drop n rest)) text
  pub whole : text ≡ (take (length text - length rest) text ++ take n rest) ++ drop n rest

pub farther : (text rest : List ℕ) (n : ℕ) → length rest ≤ length text → rest ≡ drop (length text - length rest) text → n ≤ length rest → Farther text rest n
farther text rest n fits is within =
    let a : ℕ = length text - length rest in
    let inside : n ≤ length (drop a text) = subst (λ z. n ≤ length z) is within in
    grind (arith, common_steps, length-drop n rest, drop-drop n a text, further_take a n text inside, take-append-drop (a + n) text)

-- a fault stands in the text
pub fault_within : {s : Coding} {lim : Limits} {b : List ℕ} {fault : Fault} → Fails s lim b fault → fault.offset ≤ length b
fault_within {b = b} (breaks_rule {p = p} {u = u} first) = grind (arith, common_steps, length-append p u)
fault_within (ends_early end) = omega arith

pub not_refused : (step : Step) → ((x : Fault) → step ≡ Refused x → ⊥) → refusal_of step ≡ None
not_refused v1 other = grind (arith, nat_tests)

-- ---- a walk along a piece

-- a walk along a piece, of which this is left
pub record Walks {V D : ℕ} (w0 w : Walker V D) (piece rest : List ℕ) : Type 0 where
  pub fits : length rest ≤ length piece
  pub is_rest : rest ≡ drop (length piece - length rest) piece
  pub along : (b : List ℕ) → StandsAt w0 b → StandsAt w (b ++ take (length piece - length rest) piece)
  pub good : fault_of w ≡ None
  pub same : IsSameSet w0 w

pub walks_first : {V D : ℕ} (w : Walker V D) (piece : List ℕ) → fault_of w ≡ None → Walks w w piece piece
walks_first w piece good = grind (arith, common_steps)

pub walks_on : {V D : ℕ} (w0 w v : Walker V D) (piece rest : List ℕ) (n : ℕ) (step : Step) → IsGoing w0 → Walks w0 w piece rest → n ≤ length rest
    → ((b : List ℕ) → StandsAt w b → StandsAt v (b ++ take n rest))
    → ((b : List ℕ) → StandsAt w b → Answers (walker_syntax w) (limits_of w) b rest (take n rest) step)
    → walker_syntax v ≡ walker_syntax w → limits_of v ≡ limits_of w → refusal_of step ≡ None → Walks w0 v piece (drop n rest)
walks_on w0 w v piece rest n step goes g within stands answers syntax limits none =
    let far = farther piece rest n g.fits g.is_rest within in
    let a : ℕ = length piece - length rest in
    let b : List ℕ = goes.0 ++ take a piece in
    let here = g.along goes.0 goes.1 in
    let there = stands b here in
    let unbroken = unrefused (answers b here) none in
    let moved : IsUnbroken (walker_syntax v) (limits_of v) (b ++ take n rest) = subst (λ z. IsUnbroken z (limits_of v) (b ++ take n rest)) (sym syntax) (subst (λ z. IsUnbroken (walker_syntax w) z (b ++ take n rest)) (sym limits) unbroken) in
    record {
      fits = far.fits;
      is_rest = far.is_rest;
      along = λ c at. subst (λ z. StandsAt v z) (append_assoc c (take a piece) (take n rest) ∙ ap (λ z. c ++ z) far.consumed) (stands (c ++ take a piece) (g.along c at));
      good = reports_none there.reports moved;
      same = (syntax ∙ g.same.0, limits ∙ g.same.1);
    }

pub walks_next : {V D : ℕ} (w0 w v : Walker V D) (piece rest : List ℕ) (n : ℕ) (step : Step) → IsGoing w0 → Walks w0 w piece rest → n ≤ length rest
    → ((b : List ℕ) → StandsAt w b → StandsAt v (b ++ take n rest))
    → ((b : List ℕ) → StandsAt w b → Answers (walker_syntax w) (limits_of w) b rest (take n rest) step)
    → walker_syntax v ≡ walker_syntax w → limits_of v ≡ limits_of w → ((x : Fault) → step ≡ Refused x → ⊥) → Walks w0 v piece (take (length rest - n) (drop n rest))
walks_next w0 w v piece rest n step goes g within stands answers syntax limits other = grind (arith, common_steps, take_rest rest n, walks_on w0 w v piece rest n step goes g within stands answers syntax limits (not_refused step other))

-- nothing is left of the piece
pub walks_whole : {V D : ℕ} (w0 w : Walker V D) (piece rest : List ℕ) → Walks w0 w piece rest → true ≡ (length rest == 0) → (b : List ℕ) → StandsAt w0 b → StandsAt w (b ++ piece)
walks_whole w0 w piece rest g none b stands = grind (arith, common_steps, g.along b stands)

-- the text up to the end of the piece, and what follows
regrouped : (b piece more front consumed behind : List ℕ) → piece ≡ (front ++ consumed) ++ behind → (b ++ piece) ++ more ≡ ((b ++ front) ++ consumed) ++ (behind ++ more)
regrouped b piece more front consumed behind e = ap (λ z. (b ++ z) ++ more) e ∙ simp append_assoc refl

pub walks_fails : {V D : ℕ} (w0 w : Walker V D) (piece rest : List ℕ) (n : ℕ) (step : Step) (fault : Fault) → Walks w0 w piece rest → n ≤ length rest
    → ((b : List ℕ) → StandsAt w b → Answers (walker_syntax w) (limits_of w) b rest (take n rest) step)
    → refusal_of step ≡ Some fault → FailsIn w0 piece fault
walks_fails w0 w piece rest n step fault g within answers was b more stands bytes =
    let far = farther piece rest n g.fits g.is_rest within in
    let a : ℕ = length piece - length rest in
    let front : List ℕ = b ++ take a piece in
    let text : List ℕ = (b ++ piece) ++ more in
    let whole : text ≡ (front ++ take n rest) ++ (drop n rest ++ more) = regrouped b piece more (take a piece) (take n rest) (drop n rest) far.whole in
    failed_text (walker_syntax w0) (limits_of w0) text fault g.same.0 g.same.1 (refused_fails (drop n rest ++ more) text fault (answers front (g.along b stands)) was bytes whole)

-- ---- a walk over a whole text as one piece

pub starts_good : WalkersStartWithoutFault
starts_good V D w stands = reports_none stands.reports (nothing_unbroken (walker_syntax w) (limits_of w))

pub going_first : {V D : ℕ} (w : Walker V D) → StandsAt w [] → IsGoing w
going_first {V = V} {D = D} w stands = ([], stands, starts_good V D w stands)

pub text_fails : {V D : ℕ} (w : Walker V D) (text : List ℕ) (fault : Fault) → StandsAt w [] → walker_syntax w ≡ Explicit → limits_of w ≡ check_limits → IsBytes text
    → FailsIn w text fault → Fails Explicit check_limits text fault
text_fails w text fault stands syntax limits bytes fails =
    let whole = append-nil text in
    failed_text Explicit check_limits text fault syntax limits
    (subst (λ z. Fails (walker_syntax w) (limits_of w) z fault) whole (fails [] [] stands (subst (λ z. IsBytes z) (sym whole) bytes)))
