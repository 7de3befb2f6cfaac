-- The elements of group 0002 that are read, one after the other, spell the front of the group (`grouped_then`), and no
-- elements spell it where none follows (`no_group`). Stands on OneHeader and the laws of `element`.
use Rattle.std.proofs.Common.{◌≡◌, ℕ, ◌+◌, ◌-◌, ◌<◌, ◌≤◌, Bool, true, false, List, [], ◌∷◌, ◌++◌, length, take, drop, Option, refl, sym, ap, subst, ◌∙◌, arith, append_assoc, length-append, length-take, length-drop, take-append-drop, eqb-true, nat_eq, if◌then◌else◌}
use Rattle.std.proofs.lemmas.List.{append-nil}
use Rattle.std.specs.Io.KnownBytes.{Consumes}
use Rattle.std.proofs.KnownBytes.{Consumes-trans}
use Rattle.element.specs.declared.syntax.Syntax.TheVariants.{Explicit}
use Rattle.element.specs.declared.header.Header.{Header}
use Rattle.element.specs.Uid.{uid_of}
use Rattle.element.proofs.Public.{one_spelling}
use Rattle.part10.specs.declared.reading.Element.{Element}
use Rattle.part10.specs.declared.reading.Found.{Found}
use Rattle.part10.specs.MetaText.{MetaElement, meta_element_of, MetaElements, no_more, element_then, uid_at}
use Rattle.part10.specs.machine.Reading.{IsElement, ElementRead, NoElement, NoGroup, IsFound, noted}
use Rattle.part10.proofs.OneHeader.{same_front, not_nothing}

-- the number of the last element
abbrev pub last_of : ℕ → List MetaElement → ℕ
last_of last [] = last
last_of last (e ∷ es) = last_of e.number es

-- the part of a group that was read, and what is left of it
pub record Grouped (size remaining last : ℕ) (found : Found) (old now : Option (List ℕ)) : Type 0 where
  pub text : List ℕ
  pub elements : List MetaElement
  pub consumed : Consumes old now text
  pub counted : length text + remaining ≡ size
  pub spelled : MetaElements 0 elements text
  pub ends : last_of 0 elements ≡ last
  pub is : IsFound found elements

-- one more element

then_elements : (l : ℕ) (es fs : List MetaElement) (b c : List ℕ) → MetaElements l es b → MetaElements (last_of l es) fs c → MetaElements l (es ++ fs) (b ++ c)
then_elements l _ fs _ c no_more more = more
then_elements l _ fs _ c (element_then {h = h} {hb = hb} {v = v} {es = es} {b = b} spells group rises even size rest) more =
    let P : List ℕ → Type 0 = λ text. MetaElements l (meta_element_of h v ∷ (es ++ fs)) text in
    let inner : b ++ c ≡ b ++ c = refl in
    let regroup : hb ++ (v ++ (b ++ c)) ≡ (hb ++ (v ++ b)) ++ c = simp append_assoc refl in
    subst P regroup (element_then spells group rises even size (then_elements h.tag.1 es fs b c rest more))

pub one_element : (last : ℕ) (h : Header) (bytes value : List ℕ) → IsElement last h bytes value → MetaElements last (meta_element_of h value ∷ []) (bytes ++ value)
one_element last h bytes value is =
    let P : List ℕ → Type 0 = λ text. MetaElements last (meta_element_of h value ∷ []) (bytes ++ text) in
    subst P (append-nil value) (element_then is.spells is.group is.rises is.even is.size no_more)

last_then : (l : ℕ) (es : List MetaElement) (e : MetaElement) → last_of l (es ++ e ∷ []) ≡ e.number
last_then l [] e = refl
last_then l (x ∷ es) e = last_then x.number es e

last_rises : (l : ℕ) (es : List MetaElement) (b : List ℕ) → MetaElements l es b → l ≤ last_of l es
last_rises l _ _ no_more = omega arith
last_rises l _ _ (element_then {h = h} {es = es} {b = b} spells group rises even size rest) =
    let more : h.tag.1 ≤ last_of h.tag.1 es = last_rises h.tag.1 es b rest in
    omega (arith, rises, more)

-- of two tests of which at most one holds, either may come first
swap : {A : Type 0} (p q : Bool) (x y z : A) → (p ≡ true → q ≡ true → ⊥) → (if p then x else (if q then y else z)) ≡ (if q then y else (if p then x else z))
swap true true x y z not_both = absurd (not_both refl refl)
swap true false x y z not_both = refl
swap false q x y z not_both = refl

uid_then : (n l : ℕ) (es : List MetaElement) (b : List ℕ) (e : MetaElement) → MetaElements l es b → last_of l es < e.number
    → uid_at n (es ++ e ∷ []) ≡ if nat_eq e.number n then uid_of e.value else uid_at n es
uid_then n l _ _ e no_more above = refl
uid_then n l _ _ e (element_then {h = h} {v = v} {es = es} {b = b} spells group rises even size rest) above =
    let here : h.tag.1 < e.number = omega (arith, last_rises h.tag.1 es b rest, above) in
    ap (λ z. if nat_eq h.tag.1 n then uid_of v else z) (uid_then n h.tag.1 es b e rest above)
    ∙ swap (nat_eq h.tag.1 n) (nat_eq e.number n) (uid_of v) (uid_of e.value) (uid_at n es) (λ p q. absurd (omega (arith, eqb-true _ _ p, eqb-true _ _ q, here)))

noted_then : (n number : ℕ) (uid held : Option (List ℕ)) (l : ℕ) (es : List MetaElement) (b : List ℕ) (e : MetaElement) → MetaElements l es b → last_of l es < e.number
    → number ≡ e.number → uid ≡ uid_of e.value → held ≡ uid_at n es → (if nat_eq number n then uid else held) ≡ uid_at n (es ++ e ∷ [])
noted_then n number uid held l es b e spelled above same is before = rw (same, is, before) (sym (uid_then n l es b e spelled above))

pub grouped_then : (size remaining last : ℕ) (found : Found) (e : Element) (old mid new : Option (List ℕ)) → Grouped size remaining last found old mid → ElementRead last remaining e mid new
    → Grouped size (remaining - e.size) e.number (noted e.number e.uid found) old new
grouped_then size remaining last found e old mid new so_far more =
    let x : MetaElement = meta_element_of more.header more.value in
    let text = so_far.text in
    let above : last_of 0 so_far.elements < more.header.tag.1 = omega (arith, so_far.ends, more.is.rises) in
    let one : MetaElements (last_of 0 so_far.elements) (x ∷ []) (more.bytes ++ more.value) = subst (λ z. MetaElements z (x ∷ []) (more.bytes ++ more.value)) (sym so_far.ends) (one_element last more.header more.bytes more.value more.is) in
    record {
      text = so_far.text ++ (more.bytes ++ more.value);
      elements = so_far.elements ++ x ∷ [];
      consumed = Consumes-trans old mid new so_far.text (more.bytes ++ more.value) so_far.consumed more.consumed;
      counted = rw (length-append, length-append) (omega (arith, so_far.counted, more.counted, more.within));
      spelled = then_elements 0 so_far.elements (x ∷ []) so_far.text (more.bytes ++ more.value) so_far.spelled one;
      ends = last_then 0 so_far.elements x ∙ sym more.number;
      is = record {
        class = noted_then 0x0002 e.number e.uid found.class 0 so_far.elements so_far.text x so_far.spelled above more.number more.uid so_far.is.class;
        instance = noted_then 0x0003 e.number e.uid found.instance 0 so_far.elements so_far.text x so_far.spelled above more.number more.uid so_far.is.instance;
        syntax = noted_then 0x0010 e.number e.uid found.syntax 0 so_far.elements so_far.text x so_far.spelled above more.number more.uid so_far.is.syntax;
      };
    }

-- the elements after those that were read

pub rest_elements : (l : ℕ) (es gs : List MetaElement) (b c t : List ℕ) → MetaElements l es b → MetaElements l gs t → t ≡ b ++ c → (fs : List MetaElement) × MetaElements (last_of l es) fs c
rest_elements l _ gs _ c t no_more all same = (gs, subst (λ z. MetaElements l gs z) same all)
rest_elements l _ _ _ c _ (element_then {h = h} {hb = hb} {v = v} {b = b} spells group rises even size rest) no_more same =
    absurd (not_nothing h hb ((v ++ b) ++ c) spells (same ∙ append_assoc hb (v ++ b) c))
rest_elements l _ _ _ c _ (element_then {h = h} {hb = hb} {v = v} {es = es} {b = b} spells group rises even size rest) (element_then {h = k} {hb = kb} {v = w} {es = gs} {b = d} others group2 rises2 even2 size2 more) same =
    let regroup : (hb ++ (v ++ b)) ++ c ≡ hb ++ (v ++ (b ++ c)) = simp append_assoc refl in
    let all = sym regroup ∙ sym same in
    let header = one_spelling Explicit h k hb kb (v ++ (b ++ c)) (w ++ d) spells others all in
    let after = same_front hb kb (v ++ (b ++ c)) (w ++ d) header.1 all in
    let sizes : length v ≡ length w = size ∙ (ap (λ z. z.length) header.0 ∙ sym size2) in
    let values = same_front v w (b ++ c) d sizes after.1 in
    rest_elements h.tag.1 es gs b c d rest (subst (λ z. MetaElements z.tag.1 gs d) (sym header.0) more) (sym values.1)

pub no_first : (last remaining : ℕ) (fs : List MetaElement) (c rest back : List ℕ) → 0 < remaining → length c ≡ remaining → rest ≡ c ++ back → NoElement last remaining rest → ¬ MetaElements last fs c
no_first last remaining _ _ rest back some count same none no_more = absurd (omega (arith, some, count))
no_first last remaining _ _ rest back some count same none (element_then {h = h} {hb = hb} {v = v} {b = b} spells group rises even size more) =
    let regroup : (hb ++ (v ++ b)) ++ back ≡ (hb ++ v) ++ (b ++ back) = simp append_assoc refl in
    let sum : length (hb ++ (v ++ b)) ≡ length hb + (length v + length b) = simp length-append refl in
    none h hb v (b ++ back) (record { spells = spells; group = group; rises = rises; even = even; size = size }) (same ∙ regroup) (omega (arith, count, sum))

pub no_group : (size remaining last : ℕ) (found : Found) (old mid : Option (List ℕ)) (so_far : Grouped size remaining last found old mid) (rest : List ℕ) → 0 < remaining → NoElement last remaining rest → NoGroup size (so_far.text ++ rest)
no_group size remaining last found old mid so_far rest some none gs group back same count spelled =
    let text = so_far.text in
    let n : ℕ = length so_far.text in
    let front : length so_far.text ≡ length (take n group) = omega (arith, length-take n group, count, so_far.counted) in
    let whole : (take n group ++ drop n group) ++ back ≡ group ++ back = ap (λ z. z ++ back) (take-append-drop n group) in
    let parts = same_front so_far.text (take n group) rest (drop n group ++ back) front (same ∙ (sym whole ∙ append_assoc (take n group) (drop n group) back)) in
    let all : group ≡ so_far.text ++ drop n group = sym (take-append-drop n group) ∙ ap (λ z. z ++ drop n group) (sym parts.0) in
    let more = rest_elements 0 so_far.elements gs so_far.text (drop n group) group so_far.spelled spelled all in
    let remaining_size : length (drop n group) ≡ remaining = omega (arith, length-drop n group, count, so_far.counted) in
    no_first last remaining more.0 (drop n group) rest back some remaining_size parts.1 none (subst (λ z. MetaElements z more.0 (drop n group)) so_far.ends more.1)
