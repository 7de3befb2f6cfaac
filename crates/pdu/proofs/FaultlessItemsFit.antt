-- Items of which none has a fault fit a request (`faultless_fits`), and those that fit have none (`fit_faultless`).
-- Stands on the definitions alone.
use Rattle.std.proofs.Common.{◌⊎◌, ◌≡◌, ℕ, zero, suc, ◌+◌, ◌≤◌, Bool, true, false, ◌&&◌, nat_eq, List, [], ◌∷◌, length, Option, Some, None, refl, sym, ap, subst, ◌∙◌, arith, inl, inr, if◌then◌else◌}
use Rattle.std.proofs.lemmas.Bool.{cases_Bool, eqb-true, eqb-false, ne_eqb, or_parts, or_from, and_right, and_from, and_parts, true≢false}
use Rattle.std.specs.List.{AllByRecursion, list_any}
use Rattle.std.specs.Option.{option_or}
use Rattle.pdu.specs.declared.fault.PduFault.{PduFault}
use Rattle.pdu.specs.declared.fault.PduFault.TheVariants.{BadItem, DoubleContext, Missing}
use Rattle.pdu.specs.Items.{is_kind, of_kind, kind, item_content}
use Rattle.pdu.specs.Refusal.{application_fault, information_part_fault, information_fault, id_of, context_part_fault, context_fault, has_id, item_fault, has_all, ending_fault, list_fault}

abbrev pub IsFresh : List (List ℕ) → List ℕ → Type 0
IsFresh before i = list_any (has_id (id_of i)) before ≡ false

abbrev pub IsOther : List ℕ → List ℕ → Type 0
IsOther i j = id_of j ≡ id_of i → ⊥

abbrev pub Distinct : List (List ℕ) → Type 0
Distinct [] = Unit {0}
Distinct (i ∷ is) = AllByRecursion (IsOther i) is × Distinct is

-- what these items are to a request, after those before them
pub record Fit (before items : List (List ℕ)) : Type 0 where
  pub application : length (of_kind 0x10 before) + length (of_kind 0x10 items) ≡ 1
  pub information : length (of_kind 0x50 before) + length (of_kind 0x50 items) ≡ 1
  pub some : 1 ≤ length (of_kind 0x20 before) + length (of_kind 0x20 items)
  pub informed : AllByRecursion (λ i. information_part_fault (item_content i) ≡ None) (of_kind 0x50 items)
  pub proposed : AllByRecursion (λ i. context_part_fault i ≡ None) (of_kind 0x20 items)
  pub fresh : AllByRecursion (IsFresh before) (of_kind 0x20 items)
  pub distinct : Distinct (of_kind 0x20 items)

-- ---- one more item

pub of_yes : (k : ℕ) (i : List ℕ) (is : List (List ℕ)) → is_kind k i ≡ true → of_kind k (i ∷ is) ≡ i ∷ of_kind k is
of_yes k i is e = rw e refl

pub of_no : (k : ℕ) (i : List ℕ) (is : List (List ℕ)) → is_kind k i ≡ false → of_kind k (i ∷ is) ≡ of_kind k is
of_no k i is e = rw e refl

pub record Which (i : List ℕ) (a b c : Bool) : Type 0 where
  pub application : is_kind 0x10 i ≡ a
  pub context : is_kind 0x20 i ≡ b
  pub information : is_kind 0x50 i ≡ c

at_kind : (k : ℕ) (i : List ℕ) → kind i ≡ k → Which i (nat_eq k 0x10) (nat_eq k 0x20) (nat_eq k 0x50)
at_kind k i e = record { application = ap (λ (n : ℕ). nat_eq n 0x10) e; context = ap (λ (n : ℕ). nat_eq n 0x20) e; information = ap (λ (n : ℕ). nat_eq n 0x50) e }

pub which : (i : List ℕ) → Which i true false false ⊎ (Which i false true false ⊎ (Which i false false true ⊎ Which i false false false))
which i =
    elim (cases_Bool (is_kind 0x10 i)) [
      | inl a ↦ inl (at_kind 0x10 i (eqb-true (kind i) 0x10 a))
      | inr a ↦ elim (cases_Bool (is_kind 0x20 i)) [
        | inl b ↦ inr (inl (at_kind 0x20 i (eqb-true (kind i) 0x20 b)))
        | inr b ↦ elim (cases_Bool (is_kind 0x50 i)) [
          | inl c ↦ inr (inr (inl (at_kind 0x50 i (eqb-true (kind i) 0x50 c))))
          | inr c ↦ inr (inr (inr (record { application = a; context = b; information = c })))
        ]
      ]
    ]

-- ---- tests and numbers

any_none : (k : ℕ) (is : List (List ℕ)) → length (of_kind k is) ≡ 0 → list_any (is_kind k) is ≡ false
any_none k [] e = refl
any_none k (i ∷ is) e =
    elim (cases_Bool (is_kind k i)) [
      | inl held ↦ absurd (omega (arith, e, ap length (of_yes k i is held)))
      | inr failed ↦ or_from (is_kind k i) (list_any (is_kind k) is) failed (any_none k is (sym (ap length (of_no k i is failed)) ∙ e))
    ]

none_any : (k : ℕ) (is : List (List ℕ)) → list_any (is_kind k) is ≡ false → length (of_kind k is) ≡ 0
none_any k [] e = refl
none_any k (i ∷ is) e =
    let h = or_parts (is_kind k i) (list_any (is_kind k) is) e in
    ap length (of_no k i is h.0) ∙ none_any k is h.1

any_some : (k : ℕ) (is : List (List ℕ)) → 1 ≤ length (of_kind k is) → list_any (is_kind k) is ≡ true
any_some k is le =
    elim (cases_Bool (list_any (is_kind k) is)) [
      | inl held ↦ held
      | inr failed ↦ absurd (omega (arith, none_any k is failed))
    ]

some_any : (k : ℕ) (is : List (List ℕ)) → list_any (is_kind k) is ≡ true → 1 ≤ length (of_kind k is)
some_any k is held =
    elim (nat_cases (length (of_kind k is))) [
      | inl zero_is ↦ absurd (true≢false (sym held ∙ any_none k is zero_is))
      | inr le ↦ le
    ]
  where
    nat_cases : (n : ℕ) → (n ≡ 0) ⊎ (1 ≤ n)
    nat_cases zero = inl refl
    nat_cases (suc n) = inr (omega arith)

if_none : (b : Bool) (f : PduFault) → (if b then Some f else None) ≡ None → b ≡ false
if_none true f e = absurd cc
if_none false f e = refl

or_none : (a b : Option PduFault) → option_or a b ≡ None → (a ≡ None) × (b ≡ None)
or_none None b e = (refl, e)
or_none (Some f) b e = absurd cc

-- ---- the fault of an item of each type

fault_application : (before : List (List ℕ)) (i : List ℕ) → Which i true false false → item_fault before i ≡ application_fault before
unfolding item_fault
fault_application before i w = rw w.application refl

fault_context : (before : List (List ℕ)) (i : List ℕ) → Which i false true false → item_fault before i ≡ context_fault before i
unfolding item_fault
fault_context before i w = rw (w.application, w.context) refl

fault_information : (before : List (List ℕ)) (i : List ℕ) → Which i false false true → item_fault before i ≡ information_fault before i
unfolding item_fault
fault_information before i w = rw (w.application, w.context, w.information) refl

fault_other : (before : List (List ℕ)) (i : List ℕ) → Which i false false false → item_fault before i ≡ None
unfolding item_fault
fault_other before i w = rw (w.application, w.context, w.information) refl

-- ---- ids that are fresh

fresh_other : (i : List ℕ) (before is : List (List ℕ)) → is_kind 0x20 i ≡ false → AllByRecursion (IsFresh before) is → AllByRecursion (IsFresh (i ∷ before)) is
fresh_other i before [] failed all = tt
fresh_other i before (j ∷ is) failed all = (rw failed all.0, fresh_other i before is failed all.1)

fresh_back : (i : List ℕ) (before is : List (List ℕ)) → is_kind 0x20 i ≡ false → AllByRecursion (IsFresh (i ∷ before)) is → AllByRecursion (IsFresh before) is
fresh_back i before [] failed all = tt
fresh_back i before (j ∷ is) failed all = (rw failed at all.0, fresh_back i before is failed all.1)

fresh_more : (i : List ℕ) (before is : List (List ℕ)) → AllByRecursion (IsFresh before) is → AllByRecursion (IsOther i) is → AllByRecursion (IsFresh (i ∷ before)) is
fresh_more i before [] all others = tt
fresh_more i before (j ∷ is) all others = (
  or_from (has_id (id_of j) i) (list_any (has_id (id_of j)) before)
      (and_right (is_kind 0x20 i) (nat_eq (id_of i) (id_of j)) (ne_eqb (id_of i) (id_of j) (λ e. others.0 (sym e)))) all.0,
  fresh_more i before is all.1 others.1,
)

fresh_apart : (i : List ℕ) (before is : List (List ℕ)) → is_kind 0x20 i ≡ true → AllByRecursion (IsFresh (i ∷ before)) is → AllByRecursion (IsFresh before) is × AllByRecursion (IsOther i) is
fresh_apart i before [] held all = (tt, tt)
fresh_apart i before (j ∷ is) held all =
    let h = or_parts (has_id (id_of j) i) (list_any (has_id (id_of j)) before) all.0 in
    let ne : nat_eq (id_of i) (id_of j) ≡ false = rw held at h.0 in
    let more = fresh_apart i before is held all.1 in
    ((h.1, more.0), (λ e. eqb-false (id_of i) (id_of j) ne (sym e), more.1))

-- ---- one more item fits

pub fit_next : (before : List (List ℕ)) (i : List ℕ) (is : List (List ℕ)) → Fit before (i ∷ is) → (item_fault before i ≡ None) × Fit (i ∷ before) is
fit_next before i is f =
    elim (which i) [
      | inl w ↦
          let b1 = of_yes 0x10 i before w.application in let a1 = of_yes 0x10 i is w.application in
          let b2 = of_no 0x20 i before w.context in let a2 = of_no 0x20 i is w.context in
          let b3 = of_no 0x50 i before w.information in let a3 = of_no 0x50 i is w.information in
          let first : list_any (is_kind 0x10) before ≡ false = any_none 0x10 before (omega (arith, f.application, ap length a1)) in (
            fault_application before i w ∙ rw first refl,
            record {
              application = omega (arith, f.application, ap length a1, ap length b1);
              information = omega (arith, f.information, ap length a3, ap length b3);
              some = omega (arith, f.some, ap length a2, ap length b2);
              informed = subst (AllByRecursion (λ j. information_part_fault (item_content j) ≡ None)) a3 f.informed;
              proposed = subst (AllByRecursion (λ j. context_part_fault j ≡ None)) a2 f.proposed;
              fresh = fresh_other i before (of_kind 0x20 is) w.context (subst (AllByRecursion (IsFresh before)) a2 f.fresh);
              distinct = subst Distinct a2 f.distinct;
            },
          )
      | inr (inl w) ↦
          let b1 = of_no 0x10 i before w.application in let a1 = of_no 0x10 i is w.application in
          let b2 = of_yes 0x20 i before w.context in let a2 = of_yes 0x20 i is w.context in
          let b3 = of_no 0x50 i before w.information in let a3 = of_no 0x50 i is w.information in
          let proposed = subst (AllByRecursion (λ j. context_part_fault j ≡ None)) a2 f.proposed in
          let fresh = subst (AllByRecursion (IsFresh before)) a2 f.fresh in
          let distinct = subst Distinct a2 f.distinct in
          let part : context_part_fault i ≡ None = proposed.0 in
          let here : list_any (has_id (id_of i)) before ≡ false = fresh.0 in (
            fault_context before i w ∙ ap (λ (o : Option PduFault). option_or o (if list_any (has_id (id_of i)) before then Some DoubleContext else None)) part ∙ rw here refl,
            record {
              application = omega (arith, f.application, ap length a1, ap length b1);
              information = omega (arith, f.information, ap length a3, ap length b3);
              some = omega (arith, f.some, ap length a2, ap length b2);
              informed = subst (AllByRecursion (λ j. information_part_fault (item_content j) ≡ None)) a3 f.informed;
              proposed = proposed.1;
              fresh = fresh_more i before (of_kind 0x20 is) fresh.1 distinct.0;
              distinct = distinct.1;
            },
          )
      | inr (inr (inl w)) ↦
          let b1 = of_no 0x10 i before w.application in let a1 = of_no 0x10 i is w.application in
          let b2 = of_no 0x20 i before w.context in let a2 = of_no 0x20 i is w.context in
          let b3 = of_yes 0x50 i before w.information in let a3 = of_yes 0x50 i is w.information in
          let first : list_any (is_kind 0x50) before ≡ false = any_none 0x50 before (omega (arith, f.information, ap length a3)) in
          let informed = subst (AllByRecursion (λ j. information_part_fault (item_content j) ≡ None)) a3 f.informed in
          let part : information_part_fault (item_content i) ≡ None = informed.0 in (
            fault_information before i w ∙ ap (λ (o : Option PduFault). option_or o (if list_any (is_kind 0x50) before then Some BadItem else None)) part ∙ rw first refl,
            record {
              application = omega (arith, f.application, ap length a1, ap length b1);
              information = omega (arith, f.information, ap length a3, ap length b3);
              some = omega (arith, f.some, ap length a2, ap length b2);
              informed = informed.1;
              proposed = subst (AllByRecursion (λ j. context_part_fault j ≡ None)) a2 f.proposed;
              fresh = fresh_other i before (of_kind 0x20 is) w.context (subst (AllByRecursion (IsFresh before)) a2 f.fresh);
              distinct = subst Distinct a2 f.distinct;
            },
          )
      | inr (inr (inr w)) ↦
          let b1 = of_no 0x10 i before w.application in let a1 = of_no 0x10 i is w.application in
          let b2 = of_no 0x20 i before w.context in let a2 = of_no 0x20 i is w.context in
          let b3 = of_no 0x50 i before w.information in let a3 = of_no 0x50 i is w.information in (
            fault_other before i w,
            record {
              application = omega (arith, f.application, ap length a1, ap length b1);
              information = omega (arith, f.information, ap length a3, ap length b3);
              some = omega (arith, f.some, ap length a2, ap length b2);
              informed = subst (AllByRecursion (λ j. information_part_fault (item_content j) ≡ None)) a3 f.informed;
              proposed = subst (AllByRecursion (λ j. context_part_fault j ≡ None)) a2 f.proposed;
              fresh = fresh_other i before (of_kind 0x20 is) w.context (subst (AllByRecursion (IsFresh before)) a2 f.fresh);
              distinct = subst Distinct a2 f.distinct;
            },
          )
    ]

pub fit_faultless : (before items : List (List ℕ)) → Fit before items → list_fault before items [] ≡ None
fit_faultless before [] f =
    let all : has_all before ≡ true = and_from (list_any (is_kind 0x10) before) (list_any (is_kind 0x20) before && list_any (is_kind 0x50) before)
    (any_some 0x10 before (omega (arith, f.application)))
    (and_from (list_any (is_kind 0x20) before) (list_any (is_kind 0x50) before) (any_some 0x20 before (omega (arith, f.some))) (any_some 0x50 before (omega (arith, f.information)))) in
    rw all refl
fit_faultless before (i ∷ is) f =
    let h = fit_next before i is f in
    ap (λ (o : Option PduFault). option_or o (list_fault (i ∷ before) is [])) h.0 ∙ fit_faultless (i ∷ before) is h.1

-- ---- and back

-- at most one of each so far
pub record Once (before : List (List ℕ)) : Type 0 where
  pub application : length (of_kind 0x10 before) ≤ 1
  pub information : length (of_kind 0x50 before) ≤ 1

once_next : (before : List (List ℕ)) (i : List ℕ) → item_fault before i ≡ None → Once before → Once (i ∷ before)
once_next before i none o =
    elim (which i) [
      | inl w ↦
          let empty = none_any 0x10 before (if_none (list_any (is_kind 0x10) before) BadItem (sym (fault_application before i w) ∙ none)) in
          record { application = omega (arith, empty, ap length (of_yes 0x10 i before w.application)); information = omega (arith, o.information, ap length (of_no 0x50 i before w.information)) }
      | inr (inl w) ↦ record { application = omega (arith, o.application, ap length (of_no 0x10 i before w.application)); information = omega (arith, o.information, ap length (of_no 0x50 i before w.information)) }
      | inr (inr (inl w)) ↦
          let parts = or_none (information_part_fault (item_content i)) (if list_any (is_kind 0x50) before then Some BadItem else None) (sym (fault_information before i w) ∙ none) in
          let empty = none_any 0x50 before (if_none (list_any (is_kind 0x50) before) BadItem parts.1) in
          record { application = omega (arith, o.application, ap length (of_no 0x10 i before w.application)); information = omega (arith, empty, ap length (of_yes 0x50 i before w.information)) }
      | inr (inr (inr w)) ↦ record { application = omega (arith, o.application, ap length (of_no 0x10 i before w.application)); information = omega (arith, o.information, ap length (of_no 0x50 i before w.information)) }
    ]

fit_back : (before : List (List ℕ)) (i : List ℕ) (is : List (List ℕ)) → item_fault before i ≡ None → Fit (i ∷ before) is → Fit before (i ∷ is)
fit_back before i is none f =
    elim (which i) [
      | inl w ↦
          let b1 = of_yes 0x10 i before w.application in let a1 = of_yes 0x10 i is w.application in
          let b2 = of_no 0x20 i before w.context in let a2 = of_no 0x20 i is w.context in
          let b3 = of_no 0x50 i before w.information in let a3 = of_no 0x50 i is w.information in
          record {
            application = omega (arith, f.application, ap length a1, ap length b1);
            information = omega (arith, f.information, ap length a3, ap length b3);
            some = omega (arith, f.some, ap length a2, ap length b2);
            informed = subst (AllByRecursion (λ j. information_part_fault (item_content j) ≡ None)) (sym a3) f.informed;
            proposed = subst (AllByRecursion (λ j. context_part_fault j ≡ None)) (sym a2) f.proposed;
            fresh = subst (AllByRecursion (IsFresh before)) (sym a2) (fresh_back i before (of_kind 0x20 is) w.context f.fresh);
            distinct = subst Distinct (sym a2) f.distinct;
          }
      | inr (inl w) ↦
          let b1 = of_no 0x10 i before w.application in let a1 = of_no 0x10 i is w.application in
          let b2 = of_yes 0x20 i before w.context in let a2 = of_yes 0x20 i is w.context in
          let b3 = of_no 0x50 i before w.information in let a3 = of_no 0x50 i is w.information in
          let parts = or_none (context_part_fault i) (if list_any (has_id (id_of i)) before then Some DoubleContext else None) (sym (fault_context before i w) ∙ none) in
          let here = if_none (list_any (has_id (id_of i)) before) DoubleContext parts.1 in
          let apart = fresh_apart i before (of_kind 0x20 is) w.context f.fresh in
          record {
            application = omega (arith, f.application, ap length a1, ap length b1);
            information = omega (arith, f.information, ap length a3, ap length b3);
            some = omega (arith, f.some, ap length a2, ap length b2);
            informed = subst (AllByRecursion (λ j. information_part_fault (item_content j) ≡ None)) (sym a3) f.informed;
            proposed = subst (AllByRecursion (λ j. context_part_fault j ≡ None)) (sym a2) (parts.0, f.proposed);
            fresh = subst (AllByRecursion (IsFresh before)) (sym a2) (here, apart.0);
            distinct = subst Distinct (sym a2) (apart.1, f.distinct);
          }
      | inr (inr (inl w)) ↦
          let b1 = of_no 0x10 i before w.application in let a1 = of_no 0x10 i is w.application in
          let b2 = of_no 0x20 i before w.context in let a2 = of_no 0x20 i is w.context in
          let b3 = of_yes 0x50 i before w.information in let a3 = of_yes 0x50 i is w.information in
          let parts = or_none (information_part_fault (item_content i)) (if list_any (is_kind 0x50) before then Some BadItem else None) (sym (fault_information before i w) ∙ none) in
          record {
            application = omega (arith, f.application, ap length a1, ap length b1);
            information = omega (arith, f.information, ap length a3, ap length b3);
            some = omega (arith, f.some, ap length a2, ap length b2);
            informed = subst (AllByRecursion (λ j. information_part_fault (item_content j) ≡ None)) (sym a3) (parts.0, f.informed);
            proposed = subst (AllByRecursion (λ j. context_part_fault j ≡ None)) (sym a2) f.proposed;
            fresh = subst (AllByRecursion (IsFresh before)) (sym a2) (fresh_back i before (of_kind 0x20 is) w.context f.fresh);
            distinct = subst Distinct (sym a2) f.distinct;
          }
      | inr (inr (inr w)) ↦
          let b1 = of_no 0x10 i before w.application in let a1 = of_no 0x10 i is w.application in
          let b2 = of_no 0x20 i before w.context in let a2 = of_no 0x20 i is w.context in
          let b3 = of_no 0x50 i before w.information in let a3 = of_no 0x50 i is w.information in
          record {
            application = omega (arith, f.application, ap length a1, ap length b1);
            information = omega (arith, f.information, ap length a3, ap length b3);
            some = omega (arith, f.some, ap length a2, ap length b2);
            informed = subst (AllByRecursion (λ j. information_part_fault (item_content j) ≡ None)) (sym a3) f.informed;
            proposed = subst (AllByRecursion (λ j. context_part_fault j ≡ None)) (sym a2) f.proposed;
            fresh = subst (AllByRecursion (IsFresh before)) (sym a2) (fresh_back i before (of_kind 0x20 is) w.context f.fresh);
            distinct = subst Distinct (sym a2) f.distinct;
          }
    ]

end_fits : (before : List (List ℕ)) (rest : List ℕ) → ending_fault before rest ≡ None → Once before → (rest ≡ []) × Fit before []
end_fits before [] none o =
    elim (cases_Bool (has_all before)) [
      | inl all ↦
          let a = and_parts (list_any (is_kind 0x10) before) (list_any (is_kind 0x20) before && list_any (is_kind 0x50) before) all in
          let b = and_parts (list_any (is_kind 0x20) before) (list_any (is_kind 0x50) before) a.1 in (
            refl,
            record {
              application = omega (arith, o.application, some_any 0x10 before a.0);
              information = omega (arith, o.information, some_any 0x50 before b.1);
              some = omega (arith, some_any 0x20 before b.0);
              informed = tt;
              proposed = tt;
              fresh = tt;
              distinct = tt;
            },
          )
      | inr lacks ↦ let missing : Some Missing ≡ None = rw lacks at none in absurd cc
    ]
end_fits before (x ∷ rest) none o = absurd cc

pub faultless_fits : (before items : List (List ℕ)) (rest : List ℕ) → list_fault before items rest ≡ None → Once before → (rest ≡ []) × Fit before items
faultless_fits before [] rest none o = end_fits before rest none o
faultless_fits before (i ∷ is) rest none o =
    let h = or_none (item_fault before i) (list_fault (i ∷ before) is rest) none in
    let more = faultless_fits (i ∷ before) is rest h.1 (once_next before i h.0 o) in
    (more.0, fit_back before i is h.0 more.1)
