-- A text has one tree (`one_tree`), and a front of a data set one path and one tail (`one_path`). Stands on OneWay and
-- MachineStands/HeaderDue.
use Rattle.std.proofs.Common.{◌≡◌, ℕ, Bool, List, [], ◌∷◌, ◌++◌, length, refl, sym, subst, append_assoc, append-nil}
use Rattle.sequence.specs.declared.coding.Coding.{Coding}
use Rattle.element.specs.declared.header.Header.{Header}
use Rattle.element.specs.Header.{number, item_end_tag, sequence_end_tag}
use Rattle.sequence.specs.Coding.{has_fragments}
use Rattle.sequence.specs.Shape.{shape}
use Rattle.sequence.specs.declared.shape.Shape.{Shape}
use Rattle.sequence.specs.declared.shape.Shape.TheVariants.{Sequence}
use Rattle.sequence.specs.Tree.{delimitation, Elements, no_elements, value, sequence, Items, no_items, item, fragment, Ended, counted, delimited, IsElement, IsItem, DataSet, nothing, value_then, sequence_then, ItemList, no_more, item_then, fragment_then}
use Rattle.sequence.specs.Open.{last_of, PathEntry, Tail, in_header, item_entry, text_of, entry_of, IsTail, header_tail, value_tail, IsItemTail, header_of_item, value_of_fragment, Nested, at_elements, in_sequence_of, in_item_of, Open}
use Rattle.sequence.proofs.MachineStands.HeaderDue.{no_header}
use Rattle.sequence.proofs.OneReading.OneWay.{End, in_tail, at_mark, Reads, ends, marked, element, Behind, value_ends, value_on, open_sequence, counted_sequence, delimited_sequence, ReadsItems, items_end, items_marked, one_item, InItem, fragment_ends, fragment_on, open_item, counted_item, delimited_item, reads_once}

-- a header that has this shape
behind_is : {s : Coding} {last : ℕ} {h : Header} {sh : Shape} {x : List ℕ} {es : Elements} {path : List PathEntry} {l : ℕ} {e : End} → shape s h ≡ sh → Behind sh s last h x es path l e → Behind (shape s h) s last h x es path l e
behind_is {s} {last} {h} {sh} {x} {es} {path} {l} {e} same b = subst (λ z. Behind z s last h x es path l e) (sym same) b

-- an item that holds elements, or bytes
in_item_is : {k : Bool} {s : Coding} {h : Header} {x : List ℕ} {is : Items} {path : List PathEntry} {e : End} → has_fragments s ≡ k → InItem k s h x is path e → InItem (has_fragments s) s h x is path e
in_item_is {k} {s} {h} {x} {is} {path} {e} same b = subst (λ z. InItem z s h x is path e) (sym same) b

three : (a b c d : List ℕ) → (a ++ (b ++ c)) ++ d ≡ a ++ (b ++ (c ++ d))
three a b c d = simp append_assoc

four : (a b m c d : List ℕ) → (a ++ ((b ++ m) ++ c)) ++ d ≡ a ++ (b ++ (m ++ (c ++ d)))
four a b m c d = simp append_assoc

-- a sequence and an item with their ends, in front of the rest of a text

sequence_reads : {s : Coding} {last : ℕ} {h : Header} {inner : Coding} {is : Items} {ib cb : List ℕ} {es : Elements} {path : List PathEntry} {l : ℕ} {e : End} (hb b t : List ℕ) → IsElement s last h hb → shape s h ≡ Sequence inner
    → ((more : List ℕ) (end : End) → ReadsItems inner more no_items [] end → ReadsItems inner (ib ++ more) is [] end) → Ended sequence_end_tag h.length ib cb → Reads s (number h.tag) (b ++ t) es path l e
    → Reads s last ((hb ++ (cb ++ b)) ++ t) (sequence h is es) path l e
sequence_reads {s} {last} {h} {inner} {is} {ib} {cb} {es} {path} {l} {e} hb b t el sh items (counted n defined even size) r =
    subst (λ z. Reads s last z (sequence h is es) path l e) (sym (three hb ib b t))
    (element el (behind_is sh (counted_sequence defined size (subst (λ z. ReadsItems inner z is [] (in_tail (in_header []))) (append-nil ib) (items [] (in_tail (in_header [])) (items_end (no_header inner)))) r)))
sequence_reads {s} {last} {h} {inner} {is} {ib} {cb} {es} {path} {l} {e} hb b t el sh items delimited r =
    subst (λ z. Reads s last z (sequence h is es) path l e) (sym (four hb ib (delimitation sequence_end_tag) b t))
    (element el (behind_is sh (delimited_sequence refl (items (delimitation sequence_end_tag ++ (b ++ t)) (at_mark (b ++ t)) items_marked) r)))

item_reads : {s : Coding} {h : Header} {es : Elements} {eb cb : List ℕ} {is : Items} {path : List PathEntry} {e : End} (hb b t : List ℕ) → IsItem s h hb
    → ((more : List ℕ) (end : End) → Reads s (last_of 0 es) more no_elements [] (last_of 0 es) end → Reads s 0 (eb ++ more) es [] (last_of 0 es) end) → Ended item_end_tag h.length eb cb → ReadsItems s (b ++ t) is path e
    → ReadsItems s ((hb ++ (cb ++ b)) ++ t) (item h es is) path e
item_reads {s} {h} {es} {eb} {cb} {is} {path} {e} hb b t it set (counted n defined even size) r =
    subst (λ z. ReadsItems s z (item h es is) path e) (sym (three hb eb b t))
    (one_item it.spelled it.tagged (in_item_is it.nests (counted_item defined size (subst (λ z. Reads s 0 z es [] (last_of 0 es) (in_tail (in_header []))) (append-nil eb) (set [] (in_tail (in_header [])) (ends (no_header s)))) r)))
item_reads {s} {h} {es} {eb} {cb} {is} {path} {e} hb b t it set delimited r =
    subst (λ z. ReadsItems s z (item h es is) path e) (sym (four hb eb (delimitation item_end_tag) b t))
    (one_item it.spelled it.tagged (in_item_is it.nests (delimited_item refl (set (delimitation item_end_tag ++ (b ++ t)) (at_mark (b ++ t)) marked) r)))

-- whole elements, after which the rest t of the text stands
mutual
  set_reads : {s : Coding} {last : ℕ} {es : Elements} {b : List ℕ} {path : List PathEntry} {l : ℕ} {e : End} (t : List ℕ) → DataSet s last es b → Reads s (last_of last es) t no_elements path l e → Reads s last (b ++ t) es path l e
  set_reads t nothing r = r
  set_reads {s = s} {last = last} {path = path} {l = l} {e = e} t (value_then {h = h} {hb = hb} {v = v} {es = es} {b = b} el sh val rest) r =
      subst (λ z. Reads s last z (value h v es) path l e) (sym (three hb v b t)) (element el (behind_is sh (value_on val.size (set_reads t rest r))))
  set_reads t (sequence_then {hb = hb} {b = b} el sh items closed rest) r = sequence_reads hb b t el sh (λ more end k. list_reads more items k) closed (set_reads t rest r)

  list_reads : {s : Coding} {is : Items} {b : List ℕ} {path : List PathEntry} {e : End} (t : List ℕ) → ItemList s is b → ReadsItems s t no_items path e → ReadsItems s (b ++ t) is path e
  list_reads t no_more r = r
  list_reads t (item_then {hb = hb} {b = b} it set closed rest) r = item_reads hb b t it (λ more end k. set_reads more set k) closed (list_reads t rest r)
  list_reads {path = path} {e = e} t (fragment_then {s = s} {h = h} {hb = hb} {v = v} {is = is} {b = b} it val rest) r =
      subst (λ z. ReadsItems s z (fragment h v is) path e) (sym (three hb v b t)) (one_item it.spelled it.tagged (in_item_is it.holds (fragment_on val.size (list_reads t rest r))))

-- a front of a data set

tail_reads : {s : Coding} {last : ℕ} {tail : Tail} {t : List ℕ} → IsTail s last tail t → Reads s last t no_elements [] last (in_tail tail)
tail_reads (header_tail part) = ends part
tail_reads (value_tail v el sh lt) = element el (behind_is sh (value_ends lt))

item_tail_reads : {s : Coding} {tail : Tail} {t : List ℕ} → IsItemTail s tail t → ReadsItems s t no_items [] (in_tail tail)
item_tail_reads (header_of_item part) = items_end part
item_tail_reads (value_of_fragment v it lt) = one_item it.spelled it.tagged (in_item_is it.holds (fragment_ends lt))

nested_reads : {s : Coding} {b : List ℕ} {es : Elements} {path : List PathEntry} {last : ℕ} {tail : Tail} → Nested s b es path last tail → Reads s 0 b es path last (in_tail tail)
nested_reads (at_elements {t = t} set tail) = set_reads t set (tail_reads tail)
nested_reads (in_sequence_of q {t = t} level tail) = set_reads (q.spelling ++ (q.item_bytes ++ t)) q.elements-are (element q.header-is (behind_is q.shaped (open_sequence level (list_reads t q.items-are (item_tail_reads tail)))))
nested_reads (in_item_of {s = s} q {k = k} {kb = kb} {b2 = b2} {path = path} {last = last} {tail = tail} level it level2 deeper) =
    subst (λ z. Reads s 0 (text_of q (kb ++ b2)) q.elements z (number q.header.tag) (in_tail tail))
    (append_assoc path (item_entry q.inner k.length (length b2) last ∷ []) (entry_of q (kb ++ b2) ∷ []))
    (set_reads (q.spelling ++ (q.item_bytes ++ (kb ++ b2))) q.elements-are (element q.header-is (behind_is q.shaped (open_sequence level (list_reads (kb ++ b2) q.items-are (one_item it.spelled it.tagged (in_item_is it.nests (open_item level2 (nested_reads deeper)))))))))

pub one_path : (s : Coding) (b : List ℕ) (es es2 : Elements) (path path2 : List PathEntry) (last last2 : ℕ) (tail tail2 : Tail) → Open s b es path last tail → Open s b es2 path2 last2 tail2 → (es ≡ es2) × (path ≡ path2) × (last ≡ last2) × (tail ≡ tail2)
one_path s b es es2 path path2 last last2 tail tail2 o o2 =
    let k = reads_once (nested_reads o.nested) (nested_reads o2.nested) refl o.innermost o2.innermost in
    (k.elements, k.path-is, k.last, (let e : in_tail tail ≡ in_tail tail2 = k.end in cc))

whole_reads : {s : Coding} {last : ℕ} {es : Elements} {b : List ℕ} → DataSet s last es b → Reads s last (b ++ []) es [] (last_of last es) (in_tail (in_header []))
whole_reads {s} set = set_reads [] set (ends (no_header s))

pub one_tree : (s : Coding) (last : ℕ) (es es2 : Elements) (b : List ℕ) → DataSet s last es b → DataSet s last es2 b → es ≡ es2
one_tree s last es es2 b d d2 = let k = reads_once (whole_reads d) (whole_reads d2) refl tt tt in k.elements
