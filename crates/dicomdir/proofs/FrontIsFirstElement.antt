-- At the front of a text that spells elements or items stands the first of them (`element_here`, `item_here`), or none
-- is left (`no_elements_here`, `no_items_here`). Stands on the laws of `element` and `sequence`.
use Rattle.std.proofs.Common.{◌≡◌, ℕ, ◌≤◌, Bool, true, List, ◌++◌, length, Some, None, refl, arith, nat_le, if◌then◌else◌, ◌≢◌, ◌+◌, false, [], drop, sym, ap, ◌∙◌, append_assoc, length-append, eqb-true, eq-eqb, not, ◌&&◌, nat_eq, lit<, subst}
use Rattle.std.proofs.lemmas.Bool.Decides.{nat_tests}
use Rattle.element.specs.declared.syntax.Syntax.{Syntax}
use Rattle.sequence.specs.Coding.{layout, is_native}
use Rattle.sequence.specs.declared.coding.Coding.{Coding}
use Rattle.element.specs.declared.header.Header.{Header}
use Rattle.element.specs.declared.size.Need.{Need}
use Rattle.element.specs.declared.size.Need.TheVariants.{More, Size, BadVr}
use Rattle.element.specs.Header.{need, is_whole, header_at, SpellsHeader, number, is_marker, is_plain, IsTag, plain, item_end_tag, sequence_end_tag, item_tag}
use Rattle.element.proofs.Public.{spelled_need, spelled_header}
use Rattle.sequence.proofs.Public.{need_least, native_inside, native_holds}
use Rattle.dicomdir.specs.declared.found.Head.{Head}
use Rattle.dicomdir.specs.machine.Texts.{nothing_after, end_after, head_by, head_at, ElementsThen, ItemsThen, IsContent, of_value, of_items, IsItemContent, of_elements, IsAfter}
use Rattle.std.proofs.lemmas.Grind.{common_steps}
use Rattle.std.proofs.lemmas.Bool.{cond-true, cond-false}
use Rattle.std.proofs.Math.Seq.{drop-append_seam}
use Rattle.element.specs.declared.tag.Tag.{Tag}
use Rattle.sequence.specs.Shape.{undefined_length, is_undefined}
use Rattle.sequence.specs.Rules.{same_tag}
use Rattle.sequence.specs.Tree.{Elements, no_elements, Items, no_items, item, delimitation, Ended, counted, delimited, DataSet, nothing, value_then, sequence_then, ItemList, no_more, item_then, fragment_then}
use Rattle.dicomdir.specs.Directory.{Found, value_at, items_at, found, header_size, end_size, size_of, size_of_items}

pub head_whole : (s : Coding) (b : List ℕ) (k : ℕ) → need (layout s) b ≡ Size k → k ≤ length b → is_whole (layout s) b ≡ true
unfolding is_whole
head_whole s b k e fits = grind (arith, common_steps)

when_fits : (p : Bool) (x r : Head) → (if p then Some x else None) ≡ Some r → (p ≡ true) × (x ≡ r)
when_fits v1 x r e = grind (arith, nat_tests)

head_size : (s : Coding) (b : List ℕ) (n : Need) (r : Head) → need (layout s) b ≡ n → head_by s b n ≡ Some r → (8 ≤ r.size) × (r.size ≤ length b)
head_size s b More r is e = absurd cc
head_size s b BadVr r is e = absurd cc
head_size s b (Size k) r is e = grind (arith, common_steps, when_fits (nat_le k (length b)) (record { header = header_at (layout s) b; size = k }) r e, need_least s b k is)

pub head_some : (s : Coding) (b : List ℕ) (r : Head) → head_at s b ≡ Some r → (8 ≤ r.size) × (r.size ≤ length b)
head_some s b r e = head_size s b (need (layout s) b) r refl e

pub head_read : (s : Coding) (h : Header) (front rest b : List ℕ) → SpellsHeader (layout s) h front → b ≡ front ++ rest → head_at s b ≡ Some (record { header = h; size = length front })
head_read s h front rest b spelled whole = grind (arith, common_steps, spelled_need (layout s) h front rest b spelled whole, spelled_header (layout s) h front rest b spelled whole, length-append front rest)

-- ---- sizes

pub header_length : {s : Syntax} {h : Header} {b : List ℕ} → SpellsHeader s h b → length b ≡ header_size h
header_length v1 = grind (arith, nat_tests)

not_undefined : (n : ℕ) → n ≢ undefined_length → is_undefined n ≡ false
not_undefined n other = grind (arith, nat_tests)

pub ended_size : {mark : Tag} {n : ℕ} {b c : List ℕ} → Ended mark n b c → length c ≡ length b + end_size n
ended_size (counted {b = b} n other even size) = grind (arith, common_steps, not_undefined n other)
ended_size {mark = mark} (delimited {b = b}) = length-append b (delimitation mark)

mutual
  pub elements_length : {s : Coding} {last : ℕ} {es : Elements} {b : List ℕ} → DataSet s last es b → length b ≡ size_of es
  elements_length nothing = refl
  elements_length (value_then {hb = hb} {v = v} {b = b} e sh val rest) =
      let a = header_length e.spelled in
      let r = elements_length rest in
      let x = length-append hb (v ++ b) in
      let y = length-append v b in
      omega (arith, a, r, x, y)
  elements_length (sequence_then {hb = hb} {ib = ib} {cb = cb} {b = b} e sh items end rest) =
      let a = header_length e.spelled in
      let i = items_length items in
      let n = ended_size end in
      let r = elements_length rest in
      let x = length-append hb (cb ++ b) in
      let y = length-append cb b in
      omega (arith, a, i, n, r, x, y)

  pub items_length : {s : Coding} {is : Items} {b : List ℕ} → ItemList s is b → length b ≡ size_of_items is
  items_length no_more = refl
  items_length (item_then {hb = hb} {cb = cb} {b = b} e elements end rest) =
      let a = header_length e.spelled in
      let i = elements_length elements in
      let n = ended_size end in
      let r = items_length rest in
      let x = length-append hb (cb ++ b) in
      let y = length-append cb b in
      omega (arith, a, i, n, r, x, y)
  items_length (fragment_then {hb = hb} {v = v} {b = b} e val rest) =
      let a = header_length e.spelled in
      let r = items_length rest in
      let x = length-append hb (v ++ b) in
      let y = length-append v b in
      omega (arith, a, r, x, y)

-- ---- the header there

marker_plain : (s : Coding) (t : Tag) → is_marker t ≡ true → is_plain (layout s) t ≡ true
marker_plain v1 t e = grind (arith, nat_tests)

pub mark_head : (s : Coding) (mark : Tag) (rest text : List ℕ) → is_marker mark ≡ true → IsTag mark → text ≡ delimitation mark ++ rest
    → head_at s text ≡ Some (record { header = record { tag = mark; vr = None; length = 0 }; size = 8 })
mark_head s mark rest text marks fits e = head_read s (record { tag = mark; vr = None; length = 0 }) (delimitation mark) rest text (plain mark 0 fits (marker_plain s mark marks) (lit< tt)) e

-- the header that is read there
pub marked_head : (s : Coding) (mark : Tag) (rest text : List ℕ) (head : Head) → is_marker mark ≡ true → IsTag mark → text ≡ delimitation mark ++ rest → head_at s text ≡ Some head
    → record { header = record { tag = mark; vr = None; length = 0 }; size = 8 } ≡ head
marked_head s mark rest text head marks fits e read = grind (arith, common_steps, mark_head s mark rest text marks fits e)

pub no_head : (s : Coding) (text : List ℕ) → text ≡ [] → head_at s text ≡ None
unfolding need
no_head s text e = ap (head_at s) e

-- after the elements of an item, or the items of a sequence, its delimitation is read
pub tag_after : (s : Coding) (mark : Tag) (more text : List ℕ) (head : Head) → is_marker mark ≡ true → IsTag mark → IsAfter mark more → text ≡ more → head_at s text ≡ Some head
    → head.header.tag ≡ mark
tag_after s mark more text head marks fits (nothing_after) whole read = let none = no_head s text whole in absurd cc
tag_after s mark more text head marks fits (end_after rest) whole read = ap (λ z. z.header.tag) (sym (marked_head s mark rest text head marks fits whole read))

-- the bytes after a delimitation that was read, and one is always read
pub after_mark : (s : Coding) (mark : Tag) (rest text : List ℕ) (head : Head) → is_marker mark ≡ true → IsTag mark → text ≡ delimitation mark ++ rest → head_at s text ≡ Some head
    → drop head.size text ≡ rest
after_mark s mark rest text head marks fits whole read =
    ap (λ z. drop z.size text) (sym (marked_head s mark rest text head marks fits whole read)) ∙ ap (λ z. drop 8 z) whole

pub always_mark : (s : Coding) (mark : Tag) (rest text : List ℕ) → is_marker mark ≡ true → IsTag mark → text ≡ delimitation mark ++ rest → head_at s text ≡ None → ⊥
always_mark s mark rest text marks fits whole read = let there = mark_head s mark rest text marks fits whole in absurd cc

pub fits_end : IsTag item_end_tag
fits_end = (lit< tt, lit< tt)

pub fits_sequence_end : IsTag sequence_end_tag
fits_sequence_end = (lit< tt, lit< tt)

pub spelled_tag : {s : Syntax} {h : Header} {b : List ℕ} → SpellsHeader s h b → IsTag h.tag
spelled_tag v1 = grind (arith, nat_tests)

-- ---- the first element, and the first item

-- behind a header that was read, the first of these elements, before the others and `more`
pub record ElementHere (s : Coding) (head : Head) (more text : List ℕ) (es : Elements) : Type 0 where
  pub content : List ℕ
  pub rest : List ℕ
  pub others : Elements
  pub stands : ℕ → Found
  pub size : head.size ≡ header_size head.header
  pub is_tag : IsTag head.header.tag
  pub content_is : (offset : ℕ) → IsContent s head.header offset (stands offset) content
  pub rest_is : drop head.size text ≡ content ++ rest
  pub long : length text ≡ head.size + (length content + length rest)
  pub spelled : ElementsThen s (number head.header.tag) others more rest
  pub here : (tag offset : ℕ) → nat_eq (number head.header.tag) tag ≡ true → found tag offset es ≡ stands offset
  pub there : (tag offset : ℕ) → nat_eq (number head.header.tag) tag ≡ false → found tag offset es ≡ found tag (offset + head.size + length content) others

data Front (s : Coding) (more text : List ℕ) (es : Elements) : Type 0 where
  at_end : es ≡ no_elements → text ≡ more → Front s more text es
  at_element : (head : Head) → head_at s text ≡ Some head → is_marker head.header.tag ≡ false → ElementHere s head more text es → Front s more text es

regrouped : (a b c more text : List ℕ) → text ≡ (a ++ (b ++ c)) ++ more → text ≡ a ++ (b ++ (c ++ more))
regrouped a b c more text e = e ∙ (append_assoc a (b ++ c) more ∙ ap (λ z. a ++ z) (append_assoc b c more))

length_of : (a b c text : List ℕ) → text ≡ a ++ (b ++ c) → length text ≡ length a + (length b + length c)
length_of a b c text e = ap length e ∙ (length-append a (b ++ c) ∙ ap (λ n. length a + n) (length-append b c))

dropped : (a b text : List ℕ) → text ≡ a ++ b → drop (length a) text ≡ b
dropped a b text e = ap (λ z. drop (length a) z) e ∙ drop-append_seam a b

front_of : {s : Coding} {last : ℕ} {es : Elements} {b : List ℕ} (more text : List ℕ) → is_native s ≡ true → DataSet s last es b → text ≡ b ++ more → Front s more text es
front_of more text native nothing whole = at_end refl whole
front_of {s = s} more text native (value_then {h = h} {hb = hb} {v = v} {es = es} {b = b} e sh val rest) whole =
    let parts = regrouped hb v b more text whole in
    at_element (record { header = h; size = length hb }) (head_read s h hb (v ++ (b ++ more)) text e.spelled parts) e.no_marker (record {
      content = v;
      rest = b ++ more;
      others = es;
      stands = λ offset. value_at offset v;
      size = header_length e.spelled;
      is_tag = spelled_tag e.spelled;
      content_is = λ offset. of_value sh val;
      rest_is = dropped hb (v ++ (b ++ more)) text parts;
      long = length_of hb v (b ++ more) text parts;
      spelled = record { native = native; bytes = b; data_set = rest; whole = refl };
      here = λ tag offset same. cond-true (nat_eq (number h.tag) tag) (value_at offset v) (found tag (offset + header_size h + length v) es) same;
      there = λ tag offset other.
          cond-false (nat_eq (number h.tag) tag) (value_at offset v) (found tag (offset + header_size h + length v) es) other
          ∙ ap (λ n. found tag (offset + n + length v) es) (sym (header_length e.spelled));
    })
front_of {s = s} more text native (sequence_then {h = h} {hb = hb} {inner = inner} {is = is} {ib = ib} {cb = cb} {es = es} {b = b} e sh items end rest) whole =
    let size : length cb ≡ size_of_items is + end_size h.length = let i = items_length items in let n = ended_size end in omega (arith, i, n) in
    let parts = regrouped hb cb b more text whole in
    at_element (record { header = h; size = length hb }) (head_read s h hb (cb ++ (b ++ more)) text e.spelled parts) e.no_marker (record {
      content = cb;
      rest = b ++ more;
      others = es;
      stands = λ offset. items_at offset h is;
      size = header_length e.spelled;
      is_tag = spelled_tag e.spelled;
      content_is = λ offset. of_items (native_inside s inner h native sh) sh items end;
      rest_is = dropped hb (cb ++ (b ++ more)) text parts;
      long = length_of hb cb (b ++ more) text parts;
      spelled = record { native = native; bytes = b; data_set = rest; whole = refl };
      here = λ tag offset same. cond-true (nat_eq (number h.tag) tag) (items_at offset h is) (found tag (offset + header_size h + size_of_items is + end_size h.length) es) same;
      there = λ tag offset other.
          let a = header_length e.spelled in
          let at : offset + header_size h + size_of_items is + end_size h.length ≡ offset + length hb + length cb = omega (arith, a, size) in
          cond-false (nat_eq (number h.tag) tag) (items_at offset h is) (found tag (offset + header_size h + size_of_items is + end_size h.length) es) other
          ∙ ap (λ n. found tag n es) at;
    })

-- where a header was read that is no delimitation, an element stands there
pub element_here : {s : Coding} {last : ℕ} {more text : List ℕ} {es : Elements} (head : Head) → IsAfter item_end_tag more → ElementsThen s last es more text → head_at s text ≡ Some head
    → is_marker head.header.tag ≡ false → ElementHere s head more text es
element_here {s = s} {more = more} {text = text} {es = es} head after spelled read no_mark = by (front_of more text spelled.native spelled.data_set spelled.whole)
  where
    by : Front s more text es → ElementHere s head more text es
    by (at_end none whole) =
        let marks : true ≡ false = ap is_marker (sym (tag_after s item_end_tag more text head refl fits_end after whole read)) ∙ no_mark in
        absurd cc
    by (at_element other there no_marker e) = let same : other ≡ head = cc in subst (λ z. ElementHere s z more text es) same e

-- where there is none, or a delimitation, no elements are left
pub no_elements_here : {s : Coding} {last : ℕ} {more text : List ℕ} {es : Elements} → ElementsThen s last es more text
    → ((head : Head) → head_at s text ≡ Some head → is_marker head.header.tag ≡ false → ⊥) → (es ≡ no_elements) × (text ≡ more)
no_elements_here {s = s} {more = more} {text = text} {es = es} spelled other = grind (arith, common_steps, front_of more text spelled.native spelled.data_set spelled.whole)

pub record ItemHere (s : Coding) (head : Head) (more text : List ℕ) (is : Items) : Type 0 where
  pub content : List ℕ
  pub rest : List ℕ
  pub elements : Elements
  pub others : Items
  pub size : head.size ≡ header_size head.header
  pub content_is : IsItemContent s head.header elements content
  pub content_size : length content ≡ size_of elements + end_size head.header.length
  pub rest_is : drop head.size text ≡ content ++ rest
  pub long : length text ≡ head.size + (length content + length rest)
  pub spelled : ItemsThen s others more rest
  pub first : is ≡ item head.header elements others

data FrontOfItems (s : Coding) (more text : List ℕ) (is : Items) : Type 0 where
  no_item : is ≡ no_items → text ≡ more → FrontOfItems s more text is
  at_item : (head : Head) → head_at s text ≡ Some head → head.header.tag ≡ item_tag → ItemHere s head more text is → FrontOfItems s more text is

front_of_items : {s : Coding} {is : Items} {b : List ℕ} (more text : List ℕ) → is_native s ≡ true → ItemList s is b → text ≡ b ++ more → FrontOfItems s more text is
front_of_items more text native no_more whole = no_item refl whole
front_of_items {s = s} more text native (item_then {h = h} {hb = hb} {es = es} {eb = eb} {cb = cb} {is = is} {b = b} e elements end rest) whole =
    let parts = regrouped hb cb b more text whole in
    at_item (record { header = h; size = length hb }) (head_read s h hb (cb ++ (b ++ more)) text e.spelled parts) e.tagged (record {
      content = cb;
      rest = b ++ more;
      elements = es;
      others = is;
      size = header_length e.spelled;
      content_is = of_elements native elements end;
      content_size = let i = elements_length elements in let n = ended_size end in omega (arith, i, n);
      rest_is = dropped hb (cb ++ (b ++ more)) text parts;
      long = length_of hb cb (b ++ more) text parts;
      spelled = record { native = native; bytes = b; items = rest; whole = refl };
      first = refl;
    })
front_of_items {s = s} more text native (fragment_then e val rest) whole = absurd (native_holds s native e.holds)

-- where the header of an item was read, an item stands there
pub item_here : {s : Coding} {more text : List ℕ} {is : Items} (head : Head) → IsAfter sequence_end_tag more → ItemsThen s is more text → head_at s text ≡ Some head
    → head.header.tag ≡ item_tag → ItemHere s head more text is
item_here {s = s} {more = more} {text = text} {is = is} head after spelled read tagged = by (front_of_items more text spelled.native spelled.items spelled.whole)
  where
    by : FrontOfItems s more text is → ItemHere s head more text is
    by (no_item none whole) =
        let tags : 0xe0dd ≡ 0xe000 = ap (λ t. t.1) (sym (tag_after s sequence_end_tag more text head refl fits_sequence_end after whole read) ∙ tagged) in
        absurd (omega (arith, tags))
    by (at_item other there its_tag e) = let same : other ≡ head = cc in subst (λ z. ItemHere s z more text is) same e

-- where none was, no items are left
pub no_items_here : {s : Coding} {more text : List ℕ} {is : Items} → ItemsThen s is more text → ((head : Head) → head_at s text ≡ Some head → head.header.tag ≡ item_tag → ⊥)
    → (is ≡ no_items) × (text ≡ more)
no_items_here {s = s} {more = more} {text = text} {is = is} spelled other = grind (arith, common_steps, front_of_items more text spelled.native spelled.items spelled.whole)

-- ---- tags

both_equal : (t u : Tag) (a b : Bool) → nat_eq t.0 u.0 ≡ a → nat_eq t.1 u.1 ≡ b → not (a && b) ≡ false → t ≡ u
both_equal t u true true e f g = grind (arith, common_steps, eqb-true t.0 u.0 e, eqb-true t.1 u.1 f)
both_equal t u true false e f g = absurd cc
both_equal t u false b e f g = absurd cc

pub same_tags : (t u : Tag) → not (same_tag t u) ≡ false → t ≡ u
same_tags t u e = both_equal t u (nat_eq t.0 u.0) (nat_eq t.1 u.1) refl refl e

pub other_tag : (t u : Tag) → not (same_tag t u) ≡ true → t ≢ u
other_tag t u e same = grind (arith, common_steps, eq-eqb)
