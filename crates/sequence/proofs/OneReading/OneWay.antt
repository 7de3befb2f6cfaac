-- Header by header a text is read in one way at most: it gives one list of elements, one path and one tail (`reads_once`).
-- Stands on GrammarLeads/TreesRun and the laws of `element`.
use Rattle.std.proofs.Common.{◌≡◌, ℕ, ◌-◌, ◌<◌, ◌≤◌, ◌≢◌, Bool, true, false, List, [], ◌∷◌, ◌++◌, length, Some, None, refl, sym, ap, subst, ◌∙◌, arith, append-nil, length-append, ne_eqb, le-leb, lit<}
use Rattle.std.proofs.lemmas.List.{nil_from_length, append_cancel_left}
use Rattle.sequence.specs.Coding.{layout, has_fragments}
use Rattle.sequence.specs.declared.coding.Coding.{Coding}
use Rattle.element.specs.declared.syntax.Syntax.{Syntax}
use Rattle.element.specs.declared.tag.Tag.{Tag}
use Rattle.element.specs.declared.header.Header.{Header}
use Rattle.element.specs.declared.size.Need.TheVariants.{Size}
use Rattle.element.specs.Header.{number, is_marker, is_whole, has_size, SpellsHeader, plain, item_tag, item_end_tag, sequence_end_tag}
use Rattle.element.proofs.Public.{spelled_need, one_spelling}
use Rattle.sequence.specs.Shape.{undefined_length, shape}
use Rattle.sequence.specs.declared.shape.Shape.{Shape}
use Rattle.sequence.specs.declared.shape.Shape.TheVariants.{Value, Sequence}
use Rattle.sequence.specs.Tree.{delimitation, Elements, no_elements, value, sequence, Items, no_items, item, fragment, IsElement}
use Rattle.sequence.specs.Open.{PathEntry, Tail, in_header, in_value, remaining_of, sequence_entry, item_entry, IsUnfinishedHeader, IsOpenLevel, IsInnermost}
use Rattle.sequence.proofs.GrammarLeads.TreesRun.{sequence_end_mark, item_end_mark, IsMark}

-- where a reading ends: in a tail, or at a delimitation, after which this text stands
pub data End : Type 0 where
  in_tail : Tail → End
  at_mark : List ℕ → End

mutual
  -- x is elements above the tag `last`, and what is open after them
  pub data Reads : Coding → ℕ → List ℕ → Elements → List PathEntry → ℕ → End → Type 0 where
    ends : {s : Coding} {last : ℕ} {t : List ℕ} → IsUnfinishedHeader s t → Reads s last t no_elements [] last (in_tail (in_header t))
    marked : {s : Coding} {last : ℕ} {b : List ℕ} → Reads s last (delimitation item_end_tag ++ b) no_elements [] last (at_mark b)
    element : {s : Coding} {last : ℕ} {h : Header} {hb x : List ℕ} {es : Elements} {path : List PathEntry} {l : ℕ} {e : End}
        → IsElement s last h hb → Behind (shape s h) s last h x es path l e → Reads s last (hb ++ x) es path l e

  -- the same of what stands after a header of this shape
  pub data Behind : Shape → Coding → ℕ → Header → List ℕ → Elements → List PathEntry → ℕ → End → Type 0 where
    value_ends : {s : Coding} {last : ℕ} {h : Header} {v : List ℕ} → length v < h.length → Behind Value s last h v no_elements [] last (in_tail (in_value h v))
    value_on : {s : Coding} {last : ℕ} {h : Header} {v b : List ℕ} {es : Elements} {path : List PathEntry} {l : ℕ} {e : End}
        → length v ≡ h.length → Reads s (number h.tag) b es path l e → Behind Value s last h (v ++ b) (value h v es) path l e
    open_sequence : {s inner : Coding} {last : ℕ} {h : Header} {x : List ℕ} {is : Items} {path : List PathEntry} {tail : Tail}
        → IsOpenLevel h.length (length x) → ReadsItems inner x is path (in_tail tail)
        → Behind (Sequence inner) s last h x no_elements (path ++ sequence_entry inner h.length (length x) ∷ []) (number h.tag) (in_tail tail)
    counted_sequence : {s inner : Coding} {last : ℕ} {h : Header} {x b : List ℕ} {is : Items} {es : Elements} {path : List PathEntry} {l : ℕ} {e : End}
        → h.length ≢ undefined_length → length x ≡ h.length → ReadsItems inner x is [] (in_tail (in_header [])) → Reads s (number h.tag) b es path l e
        → Behind (Sequence inner) s last h (x ++ b) (sequence h is es) path l e
    delimited_sequence : {s inner : Coding} {last : ℕ} {h : Header} {x b : List ℕ} {is : Items} {es : Elements} {path : List PathEntry} {l : ℕ} {e : End}
        → h.length ≡ undefined_length → ReadsItems inner x is [] (at_mark b) → Reads s (number h.tag) b es path l e
        → Behind (Sequence inner) s last h x (sequence h is es) path l e

  -- the same of items
  pub data ReadsItems : Coding → List ℕ → Items → List PathEntry → End → Type 0 where
    items_end : {s : Coding} {t : List ℕ} → IsUnfinishedHeader s t → ReadsItems s t no_items [] (in_tail (in_header t))
    items_marked : {s : Coding} {b : List ℕ} → ReadsItems s (delimitation sequence_end_tag ++ b) no_items [] (at_mark b)
    one_item : {s : Coding} {h : Header} {hb x : List ℕ} {is : Items} {path : List PathEntry} {e : End}
        → SpellsHeader (layout s) h hb → h.tag ≡ item_tag → InItem (has_fragments s) s h x is path e → ReadsItems s (hb ++ x) is path e

  -- the same of what stands after the header of an item, or of a fragment
  pub data InItem : Bool → Coding → Header → List ℕ → Items → List PathEntry → End → Type 0 where
    fragment_ends : {s : Coding} {h : Header} {v : List ℕ} → length v < h.length → InItem true s h v no_items [] (in_tail (in_value h v))
    fragment_on : {s : Coding} {h : Header} {v b : List ℕ} {is : Items} {path : List PathEntry} {e : End}
        → length v ≡ h.length → ReadsItems s b is path e → InItem true s h (v ++ b) (fragment h v is) path e
    open_item : {s : Coding} {h : Header} {x : List ℕ} {es : Elements} {path : List PathEntry} {l : ℕ} {tail : Tail}
        → IsOpenLevel h.length (length x) → Reads s 0 x es path l (in_tail tail) → InItem false s h x no_items (path ++ item_entry s h.length (length x) l ∷ []) (in_tail tail)
    counted_item : {s : Coding} {h : Header} {x b : List ℕ} {es : Elements} {is : Items} {path : List PathEntry} {l : ℕ} {e : End}
        → h.length ≢ undefined_length → length x ≡ h.length → Reads s 0 x es [] l (in_tail (in_header [])) → ReadsItems s b is path e → InItem false s h (x ++ b) (item h es is) path e
    delimited_item : {s : Coding} {h : Header} {x b : List ℕ} {es : Elements} {is : Items} {path : List PathEntry} {l : ℕ} {e : End}
        → h.length ≡ undefined_length → Reads s 0 x es [] l (at_mark b) → ReadsItems s b is path e → InItem false s h x (item h es is) path e

-- the parts of a text

pub same_front : (a b x y : List ℕ) → a ++ x ≡ b ++ y → length a ≡ length b → (a ≡ b) × (x ≡ y)
same_front [] [] x y e n = (refl, e)
same_front [] (w ∷ b) x y e n = absurd (omega arith)
same_front (z ∷ a) [] x y e n = absurd (omega arith)
same_front (z ∷ a) (w ∷ b) x y e n =
    let same : z ≡ w = cc in
    let on : a ++ x ≡ b ++ y = cc in
    let k = same_front a b x y on (omega arith) in
    (λ i. same i ∷ k.0 i, k.1)

mark_spells : (s : Coding) (t : Tag) → IsMark t → SpellsHeader (layout s) (record { tag = t; vr = None; length = 0 }) (delimitation t)
mark_spells s t mark = plain t 0 mark.0 (mark.1 s) (lit< tt)

-- no header stands at the front of an unfinished one
whole_front : (s : Coding) (h : Header) (hb x t : List ℕ) → SpellsHeader (layout s) h hb → t ≡ hb ++ x → is_whole (layout s) t ≡ true
unfolding is_whole
whole_front s h hb x t e same = rw (spelled_need (layout s) h hb x t e same) (long (omega (arith, ap length same, length-append hb x)))
  where
    long : length hb ≤ length t → has_size (Size (length hb)) (length t) ≡ true
    long le = le-leb (length hb) (length t) le

unfinished_not : {s : Coding} {h : Header} {hb t : List ℕ} {A : Type 0} (x : List ℕ) → IsUnfinishedHeader s t → SpellsHeader (layout s) h hb → t ≡ hb ++ x → A
unfinished_not {s} {h} {hb} {t} x u e same = absurd (let k : true ≡ false = sym (whole_front s h hb x t e same) ∙ u.part in cc)

-- the header of an element is that of no delimitation, and the header of an item neither
element_not : {s : Coding} {last : ℕ} {h : Header} {hb : List ℕ} {A : Type 0} (x b : List ℕ) → IsElement s last h hb → delimitation item_end_tag ++ b ≡ hb ++ x → A
element_not {s} {last} {h} {hb} x b el same =
    let k = one_spelling (layout s) (record { tag = item_end_tag; vr = None; length = 0 }) h (delimitation item_end_tag) hb b x (mark_spells s item_end_tag item_end_mark) el.spelled same in
    absurd (let m : true ≡ false = ap (λ (z : Header). is_marker z.tag) k.0 ∙ el.no_marker in cc)

item_not : (s : Coding) {h : Header} {hb : List ℕ} {A : Type 0} (x b : List ℕ) → SpellsHeader (layout s) h hb → h.tag ≡ item_tag → delimitation sequence_end_tag ++ b ≡ hb ++ x → A
item_not s {h} {hb} x b sp tagged same =
    let k = one_spelling (layout s) (record { tag = sequence_end_tag; vr = None; length = 0 }) h (delimitation sequence_end_tag) hb b x (mark_spells s sequence_end_tag sequence_end_mark) sp same in
    absurd (let m : 0xe0dd ≡ 0xe000 = ap (λ (z : Header). z.tag.1) k.0 ∙ ap (λ (z : Tag). z.1) tagged in omega (arith, m))

record SameHeader (h h2 : Header) (hb hb2 x x2 : List ℕ) : Type 0 where
  header : h ≡ h2
  bytes : hb ≡ hb2
  rest : x ≡ x2

header_once : {s : Syntax} {h h2 : Header} {hb hb2 x x2 : List ℕ} → SpellsHeader s h hb → SpellsHeader s h2 hb2 → hb ++ x ≡ hb2 ++ x2 → SameHeader h h2 hb hb2 x x2
header_once {s} {h} {h2} {hb} {hb2} {x} {x2} e f same =
    let k = one_spelling s h h2 hb hb2 x x2 e f same in
    let parts = same_front hb hb2 x x2 same k.1 in
    record { header = k.0; bytes = parts.0; rest = parts.1 }

-- an open level that is whole is not the innermost one
front_innermost : (path : List PathEntry) (e : PathEntry) → IsInnermost (path ++ e ∷ []) → IsInnermost path
front_innermost [] e h = tt
front_innermost (d ∷ path) e h = h

whole_not : {path : List PathEntry} {A : Type 0} (e : PathEntry) → IsInnermost (path ++ e ∷ []) → path ≡ [] → e.remaining ≡ Some 0 → A
whole_not {path} e h nil remaining = absurd (subst (λ z. IsInnermost (z ++ e ∷ [])) nil h remaining)

none_remaining : (n received : ℕ) → n ≢ undefined_length → n ≤ received → remaining_of n received ≡ Some 0
none_remaining n received defined le = rw (ne_eqb n undefined_length defined) (ap Some (let z : n - received ≡ 0 = omega arith in z))

-- what two readings have in common

pub record SameReads (es es2 : Elements) (path path2 : List PathEntry) (l l2 : ℕ) (e e2 : End) : Type 0 where
  pub elements : es ≡ es2
  pub path-is : path ≡ path2
  pub last : l ≡ l2
  pub end : e ≡ e2

pub record SameItems (is is2 : Items) (path path2 : List PathEntry) (e e2 : End) : Type 0 where
  pub items : is ≡ is2
  pub path-is : path ≡ path2
  pub end : e ≡ e2

-- a level whose length counts the whole rest of the text is the whole rest
counted_all : (n : ℕ) (x y b : List ℕ) → n ≢ undefined_length → IsOpenLevel n (length x) → length y ≡ n → x ≡ y ++ b → x ≡ y
counted_all n x y b defined level size same =
    let w = level.within defined in
    let none : length b ≡ 0 = omega (arith, w, size, ap length same, length-append y b) in
    same ∙ ap (λ z. y ++ z) (nil_from_length b none) ∙ append-nil y

mutual
  pub reads_once : {s : Coding} {last : ℕ} {x x2 : List ℕ} {es es2 : Elements} {path path2 : List PathEntry} {l l2 : ℕ} {e e2 : End} → Reads s last x es path l e → Reads s last x2 es2 path2 l2 e2 → x ≡ x2 → IsInnermost path → IsInnermost path2 → SameReads es es2 path path2 l l2 e e2
  reads_once (ends u) (ends u2) same i j = record { elements = refl; path-is = refl; last = refl; end = ap (λ z. in_tail (in_header z)) same }
  reads_once (ends {s = s} u) (marked) same i j = unfinished_not _ u (mark_spells s item_end_tag item_end_mark) same
  reads_once (ends u) (element el b) same i j = unfinished_not _ u el.spelled same
  reads_once (marked {s = s}) (ends u) same i j = unfinished_not _ u (mark_spells s item_end_tag item_end_mark) (sym same)
  reads_once (marked {b = b}) (marked {b = b2}) same i j = record { elements = refl; path-is = refl; last = refl; end = ap at_mark (append_cancel_left (delimitation item_end_tag) b b2 same) }
  reads_once marked (element el b) same i j = element_not _ _ el same
  reads_once (element el b) (ends u) same i j = unfinished_not _ u el.spelled (sym same)
  reads_once (element el b) marked same i j = element_not _ _ el (sym same)
  reads_once (element {s = s} {last = last} {h = h} el b) (element {x = x2} {es = es2} {path = path2} {l = l2} {e = e2} el2 b2) same i j =
      let k = header_once el.spelled el2.spelled same in
      behind_once b (subst (λ (z : Header). Behind (shape s z) s last z x2 es2 path2 l2 e2) (sym k.header) b2) k.rest i j

  behind_once : {sh : Shape} {s : Coding} {last : ℕ} {h : Header} {x x2 : List ℕ} {es es2 : Elements} {path path2 : List PathEntry} {l l2 : ℕ} {e e2 : End} → Behind sh s last h x es path l e → Behind sh s last h x2 es2 path2 l2 e2 → x ≡ x2 → IsInnermost path → IsInnermost path2 → SameReads es es2 path path2 l l2 e e2
  behind_once (value_ends {h = h} lt) (value_ends lt2) same i j = record { elements = refl; path-is = refl; last = refl; end = ap (λ z. in_tail (in_value h z)) same }
  behind_once (value_ends lt) (value_on {v = v} {b = b} size r) same i j = absurd (omega (arith, lt, size, ap length same, length-append v b))
  behind_once (value_on {v = v} {b = b} size r) (value_ends lt) same i j = absurd (omega (arith, lt, size, ap length same, length-append v b))
  behind_once (value_on {h = h} {v = v} {b = b} size r) (value_on {v = v2} {b = b2} size2 r2) same i j =
      let parts = same_front v v2 b b2 same (size ∙ sym size2) in
      let k = reads_once r r2 parts.1 i j in
      record { elements = λ n. value h (parts.0 n) (k.elements n); path-is = k.path-is; last = k.last; end = k.end }
  behind_once (open_sequence {inner = inner} {h = h} {x = x} {path = path} level r) (open_sequence {x = x2} {path = path2} level2 r2) same i j =
      let k = items_once r r2 same (front_innermost path _ i) (front_innermost path2 _ j) in
      record { elements = refl; path-is = λ n. k.path-is n ++ sequence_entry inner h.length (length (same n)) ∷ []; last = refl; end = k.end }
  behind_once (open_sequence {h = h} {x = x} {path = path} level r) (counted_sequence {x = x2} {b = b2} defined size r2 on) same i j =
      let all = counted_all h.length x x2 b2 defined level size same in
      let k = items_once r r2 all (front_innermost path _ i) tt in
      whole_not _ i k.path-is (none_remaining h.length (length x) defined (omega (arith, size, ap length all)))
  behind_once (open_sequence {path = path} level r) (delimited_sequence undefined r2 on) same i j =
      let k = items_once r r2 same (front_innermost path _ i) tt in
      absurd (let m = k.end in cc)
  behind_once (counted_sequence {x = x} {b = b} defined size r on) (open_sequence {h = h} {x = x2} {path = path2} level r2) same i j =
      let all = counted_all h.length x2 x b defined level size (sym same) in
      let k = items_once r r2 (sym all) tt (front_innermost path2 _ j) in
      whole_not _ j (sym k.path-is) (none_remaining h.length (length x2) defined (omega (arith, size, ap length all)))
  behind_once (counted_sequence {h = h} {x = x} {b = b} defined size r on) (counted_sequence {x = x2} {b = b2} defined2 size2 r2 on2) same i j =
      let parts = same_front x x2 b b2 same (size ∙ sym size2) in
      let k = items_once r r2 parts.0 tt tt in
      let m = reads_once on on2 parts.1 i j in
      record { elements = λ n. sequence h (k.items n) (m.elements n); path-is = m.path-is; last = m.last; end = m.end }
  behind_once (counted_sequence defined size r on) (delimited_sequence undefined r2 on2) same i j = absurd (defined undefined)
  behind_once (delimited_sequence undefined r on) (open_sequence {path = path2} level r2) same i j =
      let k = items_once r r2 same tt (front_innermost path2 _ j) in
      absurd (let m = k.end in cc)
  behind_once (delimited_sequence undefined r on) (counted_sequence defined size r2 on2) same i j = absurd (defined undefined)
  behind_once (delimited_sequence {h = h} {b = b} undefined r on) (delimited_sequence {b = b2} undefined2 r2 on2) same i j =
      let k = items_once r r2 same tt tt in
      let rest : b ≡ b2 = let z = k.end in cc in
      let m = reads_once on on2 rest i j in
      record { elements = λ n. sequence h (k.items n) (m.elements n); path-is = m.path-is; last = m.last; end = m.end }

  items_once : {s : Coding} {x x2 : List ℕ} {is is2 : Items} {path path2 : List PathEntry} {e e2 : End} → ReadsItems s x is path e → ReadsItems s x2 is2 path2 e2 → x ≡ x2 → IsInnermost path → IsInnermost path2 → SameItems is is2 path path2 e e2
  items_once (items_end u) (items_end u2) same i j = record { items = refl; path-is = refl; end = ap (λ z. in_tail (in_header z)) same }
  items_once (items_end {s = s} u) items_marked same i j = unfinished_not _ u (mark_spells s sequence_end_tag sequence_end_mark) same
  items_once (items_end u) (one_item sp tagged b) same i j = unfinished_not _ u sp same
  items_once (items_marked {s = s}) (items_end u) same i j = unfinished_not _ u (mark_spells s sequence_end_tag sequence_end_mark) (sym same)
  items_once (items_marked {b = b}) (items_marked {b = b2}) same i j = record { items = refl; path-is = refl; end = ap at_mark (append_cancel_left (delimitation sequence_end_tag) b b2 same) }
  items_once items_marked (one_item {s = s} sp tagged b) same i j = item_not s _ _ sp tagged same
  items_once (one_item sp tagged b) (items_end u) same i j = unfinished_not _ u sp (sym same)
  items_once (one_item {s = s} sp tagged b) items_marked same i j = item_not s _ _ sp tagged (sym same)
  items_once (one_item {s = s} sp tagged b) (one_item {x = x2} {is = is2} {path = path2} {e = e2} sp2 tagged2 b2) same i j =
      let k = header_once sp sp2 same in
      item_once b (subst (λ (z : Header). InItem (has_fragments s) s z x2 is2 path2 e2) (sym k.header) b2) k.rest i j

  item_once : {k : Bool} {s : Coding} {h : Header} {x x2 : List ℕ} {is is2 : Items} {path path2 : List PathEntry} {e e2 : End} → InItem k s h x is path e → InItem k s h x2 is2 path2 e2 → x ≡ x2 → IsInnermost path → IsInnermost path2 → SameItems is is2 path path2 e e2
  item_once (fragment_ends {h = h} lt) (fragment_ends lt2) same i j = record { items = refl; path-is = refl; end = ap (λ z. in_tail (in_value h z)) same }
  item_once (fragment_ends lt) (fragment_on {v = v} {b = b} size r) same i j = absurd (omega (arith, lt, size, ap length same, length-append v b))
  item_once (fragment_on {v = v} {b = b} size r) (fragment_ends lt) same i j = absurd (omega (arith, lt, size, ap length same, length-append v b))
  item_once (fragment_on {h = h} {v = v} {b = b} size r) (fragment_on {v = v2} {b = b2} size2 r2) same i j =
      let parts = same_front v v2 b b2 same (size ∙ sym size2) in
      let k = items_once r r2 parts.1 i j in
      record { items = λ n. fragment h (parts.0 n) (k.items n); path-is = k.path-is; end = k.end }
  item_once (open_item {s = s} {h = h} {x = x} {path = path} level r) (open_item {x = x2} {path = path2} level2 r2) same i j =
      let k = reads_once r r2 same (front_innermost path _ i) (front_innermost path2 _ j) in
      record { items = refl; path-is = λ n. k.path-is n ++ item_entry s h.length (length (same n)) (k.last n) ∷ []; end = k.end }
  item_once (open_item {h = h} {x = x} {path = path} level r) (counted_item {x = x2} {b = b2} defined size r2 on) same i j =
      let all = counted_all h.length x x2 b2 defined level size same in
      let k = reads_once r r2 all (front_innermost path _ i) tt in
      whole_not _ i k.path-is (none_remaining h.length (length x) defined (omega (arith, size, ap length all)))
  item_once (open_item {path = path} level r) (delimited_item undefined r2 on) same i j =
      let k = reads_once r r2 same (front_innermost path _ i) tt in
      absurd (let m = k.end in cc)
  item_once (counted_item {x = x} {b = b} defined size r on) (open_item {h = h} {x = x2} {path = path2} level r2) same i j =
      let all = counted_all h.length x2 x b defined level size (sym same) in
      let k = reads_once r r2 (sym all) tt (front_innermost path2 _ j) in
      whole_not _ j (sym k.path-is) (none_remaining h.length (length x2) defined (omega (arith, size, ap length all)))
  item_once (counted_item {h = h} {x = x} {b = b} defined size r on) (counted_item {x = x2} {b = b2} defined2 size2 r2 on2) same i j =
      let parts = same_front x x2 b b2 same (size ∙ sym size2) in
      let k = reads_once r r2 parts.0 tt tt in
      let m = items_once on on2 parts.1 i j in
      record { items = λ n. item h (k.elements n) (m.items n); path-is = m.path-is; end = m.end }
  item_once (counted_item defined size r on) (delimited_item undefined r2 on2) same i j = absurd (defined undefined)
  item_once (delimited_item undefined r on) (open_item {path = path2} level r2) same i j =
      let k = reads_once r r2 same tt (front_innermost path2 _ j) in
      absurd (let m = k.end in cc)
  item_once (delimited_item undefined r on) (counted_item defined size r2 on2) same i j = absurd (defined undefined)
  item_once (delimited_item {h = h} {b = b} undefined r on) (delimited_item {b = b2} undefined2 r2 on2) same i j =
      let k = reads_once r r2 same tt tt in
      let rest : b ≡ b2 = let z = k.end in cc in
      let m = items_once on on2 rest i j in
      record { items = λ n. item h (k.elements n) (m.items n); path-is = m.path-is; end = m.end }
