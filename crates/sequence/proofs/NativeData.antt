-- No Pixel Data of a data set in Implicit or Explicit is encapsulated (`syntaxes_native`), nor does anything inside it hold
-- fragments (`native_inner`, `native_holds`); what is a data set in Explicit is one where Pixel Data may be encapsulated
-- (`explicit_also`). Stands on MachineStands/SoundHeader.
use Rattle.std.proofs.Common.{◌≡◌, ℕ, Bool, true, false, ◌&&◌, ◌||◌, List, Option, Some, None, get_or, refl, sym, ap, subst, ◌∙◌, codes, if◌then◌else◌, eqb-true}
use Rattle.element.specs.declared.header.Header.{Header}
use Rattle.element.specs.declared.tag.Tag.{Tag}
use Rattle.element.specs.declared.syntax.Syntax.TheVariants as syntaxes
use Rattle.element.specs.Header.{SpellsHeader}
use Rattle.dictionary.specs.Tags.{vr_of}
use Rattle.sequence.specs.declared.coding.Coding.{Coding}
use Rattle.sequence.specs.declared.coding.Coding.TheVariants.{Implicit, Explicit, Encapsulated, Fragments}
use Rattle.sequence.specs.declared.shape.Shape.TheVariants.{Value, Sequence, NotAllowed}
use Rattle.sequence.specs.Coding.{layout, has_fragments, is_native}
use Rattle.sequence.specs.Shape.{is_undefined, is_vr, is_pixel_data, shape_by, implicit_shape}
use Rattle.sequence.specs.Tree.{Elements, Items, IsElement, IsItem, DataSet, nothing, value_then, sequence_then, ItemList, no_more, item_then, fragment_then}
use Rattle.sequence.proofs.MachineStands.SoundHeader.{and_true}
use Rattle.sequence.specs.Laws.{AreNative, AreNativeItems, NativeInside, NativeHasNone, SyntaxesAreNative, ExplicitIsEncapsulated}

explicit_by : (a b u : Bool) (inner : Coding) → (if a then Sequence Explicit else (if u then (if b then Sequence Implicit else NotAllowed) else Value)) ≡ Sequence inner → is_native inner ≡ true
explicit_by true b u inner e = let same : Explicit ≡ inner = cc in ap (λ z. is_native z) (sym same)
explicit_by false true true inner e = let same : Implicit ≡ inner = cc in ap (λ z. is_native z) (sym same)
explicit_by false false true inner e = absurd cc
explicit_by false b false inner e = absurd cc

implicit_by : (k : Option (List ℕ)) (u : Bool) (inner : Coding) → implicit_shape k u ≡ Sequence inner → is_native inner ≡ true
implicit_by None true inner e = let same : Implicit ≡ inner = cc in ap (λ z. is_native z) (sym same)
implicit_by None false inner e = absurd cc
implicit_by (Some v) u inner e = known (is_vr (codes "SQ") v) u e
  where
    known : (a u : Bool) → (if a then Sequence Implicit else (if u then NotAllowed else Value)) ≡ Sequence inner → is_native inner ≡ true
    known true u e = let same : Implicit ≡ inner = cc in ap (λ z. is_native z) (sym same)
    known false true e = absurd cc
    known false false e = absurd cc

native_by : (s : Coding) (t : Tag) (v k : Option (List ℕ)) (u : Bool) (inner : Coding) → is_native s ≡ true → shape_by s t v k u ≡ Sequence inner → is_native inner ≡ true
native_by Explicit t (Some v) k u inner native e = explicit_by (is_vr (codes "SQ") v) (is_vr (codes "UN") v) u inner e
native_by Explicit t None k u inner native e = absurd cc
native_by Implicit t v k u inner native e = implicit_by k u inner e
native_by Encapsulated t v k u inner native e = absurd cc
native_by Fragments t v k u inner native e = absurd cc

pub native_inner : NativeInside
native_inner s inner h native e = native_by s h.tag h.vr (vr_of h.tag) (is_undefined h.length) inner native e

pub native_holds : NativeHasNone
native_holds Implicit native holds = cc
native_holds Explicit native holds = cc
native_holds Encapsulated native holds = cc
native_holds Fragments native holds = cc

mutual
  set_native : {s : Coding} {last : ℕ} {es : Elements} {b : List ℕ} → DataSet s last es b → is_native s ≡ true → AreNative es
  set_native nothing native = tt
  set_native (value_then el sh val rest) native = set_native rest native
  set_native (sequence_then {s = s} {h = h} {inner = inner} el sh items closed rest) native = (list_native items (native_inner s inner h native sh), set_native rest native)

  list_native : {s : Coding} {is : Items} {b : List ℕ} → ItemList s is b → is_native s ≡ true → AreNativeItems is
  list_native no_more native = tt
  list_native (item_then it set closed rest) native = (set_native set native, list_native rest native)
  list_native (fragment_then {s = s} it val rest) native = native_holds s native it.holds

pub syntaxes_native : SyntaxesAreNative
syntaxes_native syntaxes.Implicit last es b set = set_native set refl
syntaxes_native syntaxes.Explicit last es b set = set_native set refl

-- the same with Pixel Data that may be encapsulated

abbrev opened : Coding → Coding
opened Implicit = Implicit
opened Explicit = Encapsulated
opened Encapsulated = Encapsulated
opened Fragments = Fragments

value_also : (a b p u : Bool) → (if a then Sequence Explicit else (if u then (if b then Sequence Implicit else NotAllowed) else Value)) ≡ Value
    → (if a then Sequence Encapsulated else (if u && p then Sequence Fragments else (if a then Sequence Explicit else (if u then (if b then Sequence Implicit else NotAllowed) else Value)))) ≡ Value
value_also true b p u e = absurd cc
value_also false true p true e = absurd cc
value_also false false p true e = absurd cc
value_also false b p false e = refl

un_only : (v : List ℕ) → is_vr (codes "UN") v ≡ true → (is_vr (codes "OB") v || is_vr (codes "OW") v) ≡ false
un_only v e = let first : get_or v 0 0 ≡ 85 = eqb-true _ _ (and_true _ _ e).0 in rw first refl

sequence_also : (a b p u : Bool) (inner : Coding) → (b ≡ true → p ≡ false) → (if a then Sequence Explicit else (if u then (if b then Sequence Implicit else NotAllowed) else Value)) ≡ Sequence inner
    → (if a then Sequence Encapsulated else (if u && p then Sequence Fragments else (if a then Sequence Explicit else (if u then (if b then Sequence Implicit else NotAllowed) else Value)))) ≡ Sequence (opened inner)
sequence_also true b p u inner no_both e = let same : Explicit ≡ inner = cc in ap (λ z. Sequence (opened z)) same
sequence_also false true p true inner no_both e = let same : Implicit ≡ inner = cc in let none = no_both refl in rw none (ap (λ z. Sequence (opened z)) same)
sequence_also false false p true inner no_both e = absurd cc
sequence_also false b p false inner no_both e = absurd cc

no_pixels : (p b : Bool) → b ≡ false → (p && b) ≡ false
no_pixels true b e = e
no_pixels false b e = refl

implicit_only : (k : Option (List ℕ)) (u : Bool) (inner : Coding) → implicit_shape k u ≡ Sequence inner → Implicit ≡ inner
implicit_only None true inner e = cc
implicit_only None false inner e = absurd cc
implicit_only (Some v) u inner e = known (is_vr (codes "SQ") v) u e
  where
    known : (a u : Bool) → (if a then Sequence Implicit else (if u then NotAllowed else Value)) ≡ Sequence inner → Implicit ≡ inner
    known true u e = cc
    known false true e = absurd cc
    known false false e = absurd cc

sequence_by : (s : Coding) (t : Tag) (v k : Option (List ℕ)) (u : Bool) (inner : Coding) → is_native s ≡ true → shape_by s t v k u ≡ Sequence inner → shape_by (opened s) t v k u ≡ Sequence (opened inner)
sequence_by Explicit t (Some v) k u inner native e = sequence_also (is_vr (codes "SQ") v) (is_vr (codes "UN") v) (is_pixel_data t && (is_vr (codes "OB") v || is_vr (codes "OW") v)) u inner (λ un. no_pixels (is_pixel_data t) _ (un_only v un)) e
sequence_by Explicit t None k u inner native e = absurd cc
sequence_by Implicit t v k u inner native e = let same = implicit_only k u inner e in subst (λ z. implicit_shape k u ≡ Sequence (opened z)) same (subst (λ z. implicit_shape k u ≡ Sequence z) (sym same) e)
sequence_by Encapsulated t v k u inner native e = absurd cc
sequence_by Fragments t v k u inner native e = absurd cc

value_by : (s : Coding) (t : Tag) (v k : Option (List ℕ)) (u : Bool) → is_native s ≡ true → shape_by s t v k u ≡ Value → shape_by (opened s) t v k u ≡ Value
value_by Explicit t (Some v) k u native e = value_also (is_vr (codes "SQ") v) (is_vr (codes "UN") v) (is_pixel_data t && (is_vr (codes "OB") v || is_vr (codes "OW") v)) u e
value_by Explicit t None k u native e = absurd cc
value_by Implicit t v k u native e = e
value_by Encapsulated t v k u native e = absurd cc
value_by Fragments t v k u native e = absurd cc

same_layout : (s : Coding) → layout s ≡ layout (opened s)
same_layout Implicit = refl
same_layout Explicit = refl
same_layout Encapsulated = refl
same_layout Fragments = refl

same_items : (s : Coding) → has_fragments (opened s) ≡ has_fragments s
same_items Implicit = refl
same_items Explicit = refl
same_items Encapsulated = refl
same_items Fragments = refl

element_also : {s : Coding} {last : ℕ} {h : Header} {hb : List ℕ} → IsElement s last h hb → IsElement (opened s) last h hb
element_also {s} {last} {h} {hb} el = record { spelled = subst (λ z. SpellsHeader z h hb) (same_layout s) el.spelled; rising = el.rising; no_marker = el.no_marker; no_command = el.no_command; no_file = el.no_file }

item_also : {s : Coding} {h : Header} {hb : List ℕ} → IsItem s h hb → IsItem (opened s) h hb
item_also {s} {h} {hb} it = record { spelled = subst (λ z. SpellsHeader z h hb) (same_layout s) it.spelled; tagged = it.tagged; nests = same_items s ∙ it.nests }

mutual
  set_also : {s : Coding} {last : ℕ} {es : Elements} {b : List ℕ} → DataSet s last es b → is_native s ≡ true → DataSet (opened s) last es b
  set_also nothing native = nothing
  set_also (value_then {s = s} {h = h} el sh val rest) native = value_then (element_also el) (value_by s h.tag h.vr (vr_of h.tag) (is_undefined h.length) native sh) val (set_also rest native)
  set_also (sequence_then {s = s} {h = h} {inner = inner} el sh items closed rest) native = sequence_then (element_also el) (sequence_by s h.tag h.vr (vr_of h.tag) (is_undefined h.length) inner native sh) (list_also items (native_inner s inner h native sh)) closed (set_also rest native)

  list_also : {s : Coding} {is : Items} {b : List ℕ} → ItemList s is b → is_native s ≡ true → ItemList (opened s) is b
  list_also no_more native = no_more
  list_also (item_then it set closed rest) native = item_then (item_also it) (set_also set native) closed (list_also rest native)
  list_also (fragment_then {s = s} it val rest) native = absurd (native_holds s native it.holds)

pub explicit_also : ExplicitIsEncapsulated
explicit_also last es b set = set_also set refl
