-- A body without a fault spells the request that is read of it (`request_text`), no other (`one_request`,
-- `request_is`), and one that spells a request has no fault (`request_fits`). Stands on ContextIdsAreFew,
-- FaultlessItemsFit, FaultlessPartsAreSpelled and ItemsSpellTheContexts.
use Rattle.std.proofs.Common.{◌≡◌, ℕ, ◌+◌, ◌≤◌, nat_lt, eqb, List, [], ◌∷◌, ◌++◌, length, take, drop, Option, Some, None, Ok, Err, refl, sym, ap, subst, ◌∙◌, arith, inl, inr}
use Rattle.std.proofs.lemmas.Bool.{cases_Bool, ltb-false, le-ltb}
use Rattle.std.proofs.lemmas.List.{length-append, length-map, length-take, length-drop, take-append-drop, drop-drop, take_at, drop_at}
use Rattle.std.specs.List.{AllByRecursion, IsDistinct}
use Rattle.element.specs.Numbers.{IsBytes}
use Rattle.byteorder.specs.Endian.{big_number}
use Rattle.pdu.specs.declared.fault.PduFault.{PduFault}
use Rattle.pdu.specs.declared.fault.PduFault.TheVariants.{BadLength}
use Rattle.pdu.specs.Record.{RequestRecord, ids}
use Rattle.pdu.specs.Pieces.{joined}
use Rattle.pdu.specs.Items.{items_of, remainder, of_kind, first_or_none, item_content, identifier, proposal_of, proposals, four_or_none, maximum_in, request_record}
use Rattle.pdu.specs.Request.{One, InformationText, ContextTexts, RequestText, IsRequest}
use Rattle.pdu.specs.Refusal.{information_part_fault, items_fault, request_fault, as_result}
use Rattle.pdu.proofs.ContextIdsAreFew.{bytes_past, bytes_each, bytes_kind}
use Rattle.pdu.proofs.FaultlessPartsAreSpelled.{whole_is, items_joined, remaining_joined, one_from, one_length, one_first, information_text, information_fits, information_is}
use Rattle.pdu.proofs.FaultlessItemsFit.{Fit, IsFresh, fit_faultless, faultless_fits}
use Rattle.pdu.proofs.ItemsSpellTheContexts.{ids_odd, texts_from, texts_are, texts_fit, kinds_are, proposals_are, distinct_from, distinct_back}

-- ---- no fault: the request that is read

record Faultless (text : List ℕ) : Type 0 where
  pub nothing : remainder text ≡ []
  pub fits : Fit [] (items_of text)

faultless_is : (text : List ℕ) → items_fault text ≡ None → Faultless text
unfolding items_fault
faultless_is text none =
    let h = faultless_fits [] (items_of text) (remainder text) none (record { application = omega arith; information = omega arith }) in
    record { nothing = h.0; fits = h.1 }

record Laid (b : List ℕ) : Type 0 where
  pub long : 68 ≤ length b
  pub none : items_fault (drop 68 b) ≡ None

laid : (b : List ℕ) → request_fault b ≡ None → Laid b
laid b e =
    elim (cases_Bool (nat_lt (length b) 68)) [
      | inl short ↦ let bad : Some BadLength ≡ None = rw short at e in absurd cc
      | inr long ↦ record { long = ltb-false (length b) 68 long; none = rw long at e }
    ]

cut : (n m : ℕ) (b : List ℕ) → drop n b ≡ take m (drop n b) ++ drop (n + m) b
cut n m b = sym (take-append-drop m (drop n b)) ∙ ap (λ (x : List ℕ). take m (drop n b) ++ x) (drop-drop m n b)

parts_of : (b : List ℕ) → b ≡ take 2 b ++ (take 2 (drop 2 b) ++ (take 16 (drop 4 b) ++ (take 16 (drop 20 b) ++ (take 32 (drop 36 b) ++ drop 68 b))))
parts_of b =
    sym (take-append-drop 2 b) ∙ ap (λ (x : List ℕ). take 2 b ++ x)
    (cut 2 2 b ∙ ap (λ (x : List ℕ). take 2 (drop 2 b) ++ x)
    (cut 4 16 b ∙ ap (λ (x : List ℕ). take 16 (drop 4 b) ++ x)
    (cut 20 16 b ∙ ap (λ (x : List ℕ). take 16 (drop 20 b) ++ x)
    (cut 36 32 b))))

two_same : (b : List ℕ) → 2 ≤ length b → big_number 2 b ≡ big_number 2 (take 2 b)
two_same [] le = absurd (omega arith)
two_same (x ∷ []) le = absurd (omega arith)
two_same (x ∷ y ∷ b) le = refl

pub request_text : (b : List ℕ) → request_fault b ≡ None → RequestText (request_record b) b
request_text b none =
    let l = laid b none in
    let text = drop 68 b in
    let j = faultless_is text l.none in
    let w = whole_is text j.nothing in
    let f = j.fits in
    let is = items_of text in
    let long : 68 ≤ length b = l.long in
    let same = proposals_are is f.proposed in
    record {
      version = take 2 b;
      unused = take 2 (drop 2 b);
      items = is;
      whole = parts_of b ∙ ap (λ (x : List ℕ). take 2 b ++ (take 2 (drop 2 b) ++ (take 16 (drop 4 b) ++ (take 16 (drop 20 b) ++ (take 32 (drop 36 b) ++ x))))) w.whole;
      version_size = omega (arith, length-take 2 b);
      unused_size = omega (arith, length-take 2 (drop 2 b), length-drop 2 b);
      called_size = omega (arith, length-take 16 (drop 4 b), length-drop 4 b);
      calling_size = omega (arith, length-take 16 (drop 20 b), length-drop 20 b);
      reserved_size = omega (arith, length-take 32 (drop 36 b), length-drop 36 b);
      version_is = two_same b (omega arith);
      each = w.each;
      application = one_from (λ i. (request_record b).application_context ≡ identifier i) (of_kind 0x10 is) (omega (arith, f.application)) refl;
      information = informed is f;
      contexts = subst (λ ps. ContextTexts ps (of_kind 0x20 is)) (sym same) (texts_from (of_kind 0x20 is) f.proposed);
      some = omega (arith, f.some, ap length same, length-map (of_kind 0x20 is) proposal_of);
      distinct = subst (λ ps. IsDistinct eqb (ids ps)) (sym same) (distinct_from (of_kind 0x20 is) f.distinct);
    }
  where
    informed_list : (us : List (List ℕ)) → length us ≡ 1 → AllByRecursion (λ i. information_part_fault (item_content i) ≡ None) us
        → One (InformationText (four_or_none (item_content (first_or_none (of_kind 0x51 (items_of (item_content (first_or_none us)))))))) us
    informed_list [] e all = absurd (omega arith)
    informed_list (u ∷ []) e all = information_text u all.0
    informed_list (u ∷ v ∷ us) e all = absurd (omega arith)

    informed : (items : List (List ℕ)) → Fit [] items → One (InformationText (maximum_in items)) (of_kind 0x50 items)
    informed items g = informed_list (of_kind 0x50 items) (omega (arith, g.information)) g.informed

-- ---- a request: no fault

record Placed (r : RequestRecord) (b : List ℕ) (t : RequestText r b) : Type 0 where
  pub long : 68 ≤ length b
  pub version : take 2 b ≡ t.version
  pub called : take 16 (drop 4 b) ≡ r.called
  pub calling : take 16 (drop 20 b) ≡ r.calling
  pub reserved : take 32 (drop 36 b) ≡ r.reserved
  pub items : drop 68 b ≡ joined t.items

placed_in : (v u c d e x : List ℕ) → length v ≡ 2 → length u ≡ 2 → length c ≡ 16 → length d ≡ 16 → length e ≡ 32 → (b : List ℕ) → b ≡ v ++ (u ++ (c ++ (d ++ (e ++ x))))
    → (68 ≤ length b) × ((take 2 b ≡ v) × ((take 16 (drop 4 b) ≡ c) × ((take 16 (drop 20 b) ≡ d) × ((take 32 (drop 36 b) ≡ e) × (drop 68 b ≡ x)))))
placed_in v u c d e x vs us cs ds es b whole =
    let lv = length-append v (u ++ (c ++ (d ++ (e ++ x)))) in
    let lu = length-append u (c ++ (d ++ (e ++ x))) in
    let lc = length-append c (d ++ (e ++ x)) in
    let ld = length-append d (e ++ x) in
    let le = length-append e x in
    let d2 : drop 2 b ≡ u ++ (c ++ (d ++ (e ++ x))) = ap (drop 2) whole ∙ drop_at v (u ++ (c ++ (d ++ (e ++ x)))) 2 vs in
    let d4 : drop 4 b ≡ c ++ (d ++ (e ++ x)) = sym (drop-drop 2 2 b) ∙ ap (drop 2) d2 ∙ drop_at u (c ++ (d ++ (e ++ x))) 2 us in
    let d20 : drop 20 b ≡ d ++ (e ++ x) = sym (drop-drop 16 4 b) ∙ ap (drop 16) d4 ∙ drop_at c (d ++ (e ++ x)) 16 cs in
    let d36 : drop 36 b ≡ e ++ x = sym (drop-drop 16 20 b) ∙ ap (drop 16) d20 ∙ drop_at d (e ++ x) 16 ds in
    let d68 : drop 68 b ≡ x = sym (drop-drop 32 36 b) ∙ ap (drop 32) d36 ∙ drop_at e x 32 es in (
      omega (arith, ap length whole, lv, lu, lc, ld, le),
      (
        ap (take 2) whole ∙ take_at v (u ++ (c ++ (d ++ (e ++ x)))) 2 vs,
        (
          ap (take 16) d4 ∙ take_at c (d ++ (e ++ x)) 16 cs,
          (
            ap (take 16) d20 ∙ take_at d (e ++ x) 16 ds,
            (ap (take 32) d36 ∙ take_at e x 32 es, d68),
          ),
        ),
      ),
    )

placed : (r : RequestRecord) (b : List ℕ) (t : RequestText r b) → Placed r b t
placed r b t =
    let p = placed_in t.version t.unused r.called r.calling r.reserved (joined t.items) t.version_size t.unused_size t.called_size t.calling_size t.reserved_size b t.whole in
    record { long = p.0; version = p.1.0; called = p.1.1.0; calling = p.1.1.1.0; reserved = p.1.1.1.1.0; items = p.1.1.1.1.1 }

fresh_all : (is : List (List ℕ)) → AllByRecursion (IsFresh []) is
fresh_all [] = tt
fresh_all (i ∷ is) = (refl, fresh_all is)

informed_all : (n : ℕ) (us : List (List ℕ)) → One (InformationText n) us → AllByRecursion (λ i. information_part_fault (item_content i) ≡ None) us
informed_all n [] o = absurd o
informed_all n (u ∷ []) o = (information_fits n u o, tt)
informed_all n (u ∷ v ∷ us) o = absurd o

fits : (r : RequestRecord) (b : List ℕ) (t : RequestText r b) → Fit [] t.items
fits r b t =
    let are = texts_are r.contexts (of_kind 0x20 t.items) t.contexts in
    record {
      application = omega (arith, one_length (λ i. r.application_context ≡ identifier i) (of_kind 0x10 t.items) t.application);
      information = omega (arith, one_length (InformationText r.maximum) (of_kind 0x50 t.items) t.information);
      some = omega (arith, t.some, ap length are, length-map (of_kind 0x20 t.items) proposal_of);
      informed = informed_all r.maximum (of_kind 0x50 t.items) t.information;
      proposed = texts_fit r.contexts (of_kind 0x20 t.items) (kinds_are 0x20 t.items) t.contexts;
      fresh = fresh_all (of_kind 0x20 t.items);
      distinct = distinct_back (of_kind 0x20 t.items) (subst (λ ps. IsDistinct eqb (ids ps)) (sym are) t.distinct);
    }

pub request_fits : (r : RequestRecord) (b : List ℕ) → RequestText r b → request_fault b ≡ None
unfolding items_fault
request_fits r b t =
    let p = placed r b t in
    let is : items_of (drop 68 b) ≡ t.items = ap items_of p.items ∙ items_joined t.items t.each in
    let nothing : remainder (drop 68 b) ≡ [] = ap remainder p.items ∙ remaining_joined t.items t.each in
    rw (le-ltb (length b) 68 p.long, is, nothing) (fit_faultless [] t.items (fits r b t))

pub request_is : (r : RequestRecord) (b : List ℕ) → RequestText r b → r ≡ request_record b
request_is r b t =
    let p = placed r b t in
    let is : items_of (drop 68 b) ≡ t.items = ap items_of p.items ∙ items_joined t.items t.each in
    let f = fits r b t in
    let version : r.version ≡ big_number 2 b = t.version_is ∙ ap (λ (x : List ℕ). big_number 2 x) (sym p.version) ∙ sym (two_same b (omega (arith, p.long))) in
    let application : r.application_context ≡ identifier (first_or_none (of_kind 0x10 t.items)) = one_first (λ i. r.application_context ≡ identifier i) (of_kind 0x10 t.items) t.application in
    let maximum : r.maximum ≡ maximum_in t.items = information_is r.maximum (first_or_none (of_kind 0x50 t.items)) (one_first (InformationText r.maximum) (of_kind 0x50 t.items) t.information) in
    let contexts : proposals t.items ≡ r.contexts = proposals_are t.items f.proposed ∙ texts_are r.contexts (of_kind 0x20 t.items) t.contexts in
    rw (is, ← version, p.called, p.calling, p.reserved, ← application, contexts, ← maximum) refl

-- no body spells two requests
pub one_request : (r q : RequestRecord) (b : List ℕ) → RequestText r b → RequestText q b → r ≡ q
one_request r q b t u = request_is r b t ∙ sym (request_is q b u)

-- a body with a fault spells none
pub none_where_fault : (b : List ℕ) (f : PduFault) → request_fault b ≡ Some f → (r : RequestRecord) → RequestText r b → ⊥
none_where_fault b f e r t = let none = request_fits r b t in absurd cc

-- ---- what its type keeps

-- a request that is spelled by bytes has IDs of one byte
pub request_kept : (r : RequestRecord) (b : List ℕ) → IsBytes b → RequestText r b → IsRequest r
request_kept r b bytes t =
    let p = placed r b t in
    let tail : IsBytes (joined t.items) = subst IsBytes p.items (bytes_past 68 b bytes) in
    record {
      reserved_size = t.reserved_size;
      ids_odd = ids_odd r.contexts (of_kind 0x20 t.items) (bytes_kind 0x20 t.items (bytes_each t.items tail)) t.contexts;
      ids_distinct = t.distinct;
    }

-- ---- what the check of the items gives for the body

as_ok : (o : Option PduFault) → Ok tt ≡ as_result o → o ≡ None
as_ok None e = refl
as_ok (Some f) e = absurd cc

as_err : (f : PduFault) (o : Option PduFault) → Err f ≡ as_result o → o ≡ Some f
as_err f None e = absurd cc
as_err f (Some g) e = let same : f ≡ g = cc in ap (λ (x : PduFault). Some x) (sym same)

pub request_ok : (b text : List ℕ) → 68 ≤ length b → text ≡ drop 68 b → Ok tt ≡ as_result (items_fault text) → request_fault b ≡ None
request_ok b text long e given = rw (le-ltb (length b) 68 long, ← e) (as_ok (items_fault text) given)

pub request_err : (b text : List ℕ) (f : PduFault) → 68 ≤ length b → text ≡ drop 68 b → Err f ≡ as_result (items_fault text) → request_fault b ≡ Some f
request_err b text f long e given = rw (le-ltb (length b) 68 long, ← e) (as_err f (items_fault text) given)
