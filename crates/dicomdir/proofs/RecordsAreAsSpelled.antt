-- What is read of the records, one after the other, is what their elements say (`read_next`, `read_to_end`), or the
-- first fault (`read_fails`). Stands on ElementsFoundByTag and FrontIsFirstElement.
use Rattle.std.proofs.Common.{◌≡◌, ℕ, Bool, true, false, not, ◌&&◌, ◌||◌, List, [], ◌∷◌, length, Option, Some, None, is_some, refl, sym, ap, ◌∙◌, nat_eq, if◌then◌else◌, arith, ◌≢◌, suc, ◌+◌, ◌-◌, ◌≤◌, ◌++◌, drop, subst, append_assoc}
use Rattle.std.specs.Str.{bytes_eq}
use Rattle.sequence.specs.Tree.{Elements, Items, no_items, item, fragment}
use Rattle.dicomdir.specs.declared.found.Element.{Element}
use Rattle.dicomdir.specs.declared.records.ReadRecord.{ReadRecord}
use Rattle.dicomdir.specs.Directory.{Found, found, number_in, kind_in, file_id_in, is_missing, is_in_use, is_use_flag, carried_node, next_offset, lower_offset, has_file_id, or_zero, Record, header_size, size_of, end_size, records_at}
use Rattle.dicomdir.specs.machine.Trail.{EntrySays, use_flag, entry_has_file_id, FailsAs, IsEntry, AreEntries, no_entries, entry_then, Rise}
use Rattle.dicomdir.specs.machine.Texts.{Finds, shown, got_none, ItemsThen, IsAfter, HasElements, HasItems, IsItemContent, content_at, head_at}
use Rattle.std.proofs.lemmas.Bool.Decides.{nat_tests}
use Rattle.std.proofs.lemmas.Grind.{common_steps}
use Rattle.element.specs.Header.{item_tag, sequence_end_tag}
use Rattle.std.proofs.lemmas.List.{append-nil}
use Rattle.sequence.specs.declared.coding.Coding.{Coding}
use Rattle.dicomdir.specs.declared.fault.DirFault.{DirFault}
use Rattle.dicomdir.specs.declared.found.Head.{Head}
use Rattle.dicomdir.specs.DirFault.{◌or_else◌, record_fault, each_fault}
use Rattle.dicomdir.proofs.FrontIsFirstElement.{item_here, no_items_here}
use Rattle.dicomdir.proofs.ElementsFoundByTag.{item_content}

pub finds_number : (n : ℕ) (e : Element) (f : Found) → Finds e f → number_in n (shown e) ≡ number_in n f
finds_number n v2 f is = grind (arith, nat_tests)

pub finds_kind : (e : Element) (f : Found) → Finds e f → kind_in (shown e) ≡ kind_in f
finds_kind v1 f is = grind (arith, nat_tests)

pub finds_file_id : (e : Element) (f : Found) → Finds e f → file_id_in (shown e) ≡ file_id_in f
finds_file_id v1 f is = grind (arith, nat_tests)

pub finds_missing : (e : Element) (f : Found) → Finds e f → got_none e ≡ is_missing f
finds_missing v1 f is = grind (arith, nat_tests)

-- ---- a record with all that it must have

flag_in_use : (flag : ℕ) (a b used : Bool) → nat_eq flag 0xffff ≡ a → nat_eq flag 0 ≡ b → (if a then Some true else (if b then Some false else None)) ≡ Some used
    → (used ≡ nat_eq flag 0xffff) × ((nat_eq flag 0xffff || nat_eq flag 0) ≡ true)
flag_in_use flag v2 b used e f is = grind (arith, nat_tests)

use_is : (o : Option ℕ) (used : Bool) → use_flag o ≡ Some used → (used ≡ is_in_use o) × (is_use_flag o ≡ true)
use_is None used is = absurd cc
use_is (Some flag) used is = flag_in_use flag (nat_eq flag 0xffff) (nat_eq flag 0) used refl refl is

some_is : (o : Option ℕ) (n : ℕ) → o ≡ Some n → is_some o ≡ true
some_is o n e = ap is_some e

pub not_empty : (xs : List ℕ) (b : Bool) → b ≡ nat_eq (length xs) 0 → b ≡ false → bytes_eq xs [] ≡ false
not_empty [] b is e = absurd cc
not_empty (x ∷ xs) b is e = refl

pub entry_is : (offset : ℕ) (es : Elements) (e : ReadRecord) → next_offset es ≡ Some e.next → use_flag (number_in 2 (found 0x00041410 0 es)) ≡ Some e.in_use
    → lower_offset es ≡ Some e.lower → e.kind.now ≡ kind_in (found 0x00041430 0 es) → bytes_eq e.kind.now [] ≡ false → e.file_id ≡ file_id_in (found 0x00041500 0 es)
    → e.offset ≡ offset → EntrySays e (record { offset = offset; elements = es })
entry_is offset es e next flag lower kind some file_id at =
    let used = use_is (number_in 2 (found 0x00041410 0 es)) e.in_use flag in
    let some_kind : bytes_eq (kind_in (found 0x00041430 0 es)) [] ≡ false = ap (λ k. bytes_eq k []) (sym kind) ∙ some in
    let a = some_is (next_offset es) e.next next in
    let b = some_is (lower_offset es) e.lower lower in
    let c = used.1 in
    record {
      offset = at;
      next = sym (ap or_zero next);
      lower = sym (ap or_zero lower);
      carries = λ i. record { in_use = used.0 i; kind = kind i; file_id = file_id i };
      has_record = four_true (is_some (next_offset es)) (is_use_flag (number_in 2 (found 0x00041410 0 es))) (is_some (lower_offset es)) (bytes_eq (carried_node es).kind []) a c b some_kind;
    }
  where
    four_true : (a b c d : Bool) → a ≡ true → b ≡ true → c ≡ true → d ≡ false → ((a && b) && (c && not d)) ≡ true
    four_true a b c d e f g h = rw (e, f, g, h) refl

-- ---- its file ID

pub file_id_as : (offset : ℕ) (es : Elements) (e : ReadRecord) (found_id : Element) → EntrySays e (record { offset = offset; elements = es }) → Finds found_id (found 0x00041500 0 es)
    → entry_has_file_id e found_id ≡ has_file_id es
file_id_as offset es e found_id is finds = grind (arith, common_steps, finds_missing found_id (found 0x00041500 0 es) finds)

-- ---- entries and their faults

are_more : {es : List ReadRecord} {rs : List Record} {e : ReadRecord} {r : Record} → AreEntries es rs → IsEntry e r → AreEntries (es ++ e ∷ []) (rs ++ r ∷ [])
are_more (no_entries) last = entry_then last no_entries
are_more (entry_then first rest) last = entry_then first (are_more rest last)

no_fault : {e : ReadRecord} {r : Record} → IsEntry e r → record_fault r ≡ None
no_fault {r = r} is = grind (arith, nat_tests)

pub entries_good : {es : List ReadRecord} {rs : List Record} → AreEntries es rs → each_fault rs ≡ None
entries_good (no_entries) = refl
entries_good (entry_then {r = r} {rs = rs} first rest) = ap (λ f. f or_else each_fault rs) (no_fault first) ∙ entries_good rest

each_append : (xs ys : List Record) → each_fault xs ≡ None → each_fault (xs ++ ys) ≡ each_fault ys
each_append [] ys e = refl
each_append (x ∷ xs) ys e = grind (arith, nat_tests, each_append xs ys)

-- ---- one item after the other

pub record ReadUpTo (s : Coding) (first : ℕ) (items : Items) (text rest : List ℕ) (old now : List ReadRecord) : Type 0 where
  pub done : List Record
  pub remaining : Items
  pub more : List ℕ
  pub after : IsAfter sequence_end_tag more
  pub spelled : ItemsThen s remaining more rest
  pub entries_are : (before : List Record) → AreEntries old before → AreEntries now (before ++ done)
  pub good : each_fault done ≡ None
  pub all : records_at first items ≡ done ++ records_at (first + (length text - length rest)) remaining

pub read_none : (s : Coding) (first : ℕ) (items : Items) (text : List ℕ) (old : List ReadRecord) → HasItems s items text → ReadUpTo s first items text text old old
read_none s first items text old has =
    let none : first ≡ first + (length text - length text) = omega arith in
    record {
      done = [];
      remaining = items;
      more = has.more;
      after = has.after;
      spelled = has.spelled;
      entries_are = λ before are. subst (λ z. AreEntries old z) (sym (append-nil before)) are;
      good = refl;
      all = ap (λ n. records_at n items) none;
    }

pub read_next : (s : Coding) (first : ℕ) (items : Items) (text rest after : List ℕ) (old now new : List ReadRecord) (head : Head) (e : ReadRecord) → length rest ≤ length text
    → ReadUpTo s first items text rest old now → head_at s rest ≡ Some head → head.header.tag ≡ item_tag
    → ((es : Elements) → HasElements s es (content_at head.header (drop head.size rest)) → IsEntry e (record { offset = first + (length text - length rest); elements = es }))
    → ((es : Elements) (c more : List ℕ) → IsItemContent s head.header es c → drop head.size rest ≡ c ++ more → after ≡ more)
    → new ≡ now ++ e ∷ []
    → ReadUpTo s first items text after old new
read_next s first items text rest after old now new head e fits r read tagged entry passes pushed =
    let f = item_here head r.after r.spelled read tagged in
    let is : after ≡ f.rest = passes f.elements f.content f.rest f.content_is f.rest_is in
    let here : ℕ = first + (length text - length rest) in
    let one : Record = record { offset = here; elements = f.elements } in
    let entered : IsEntry e one = entry f.elements (item_content s head.header f.elements f.content f.rest (drop head.size rest) f.content_is f.rest_is) in
    let next_position : ℕ = here + header_size head.header + size_of f.elements + end_size head.header.length in
    let positions : next_position ≡ first + (length text - length after) = omega (arith, f.long, f.size, f.content_size, ap length is, fits) in
    record {
      done = r.done ++ one ∷ [];
      remaining = f.others;
      more = r.more;
      after = r.after;
      spelled = subst (λ z. ItemsThen s f.others r.more z) (sym is) f.spelled;
      entries_are = λ before are.
          subst (λ z. AreEntries z (before ++ (r.done ++ one ∷ []))) (sym pushed)
          (subst (λ z. AreEntries (now ++ e ∷ []) z) (append_assoc before r.done (one ∷ [])) (are_more (r.entries_are before are) entered));
      good = each_append r.done (one ∷ []) r.good ∙ ap (λ o. o or_else None) (no_fault entered);
      all = r.all
          ∙ (ap (λ z. r.done ++ records_at here z) f.first
          ∙ (ap (λ n. r.done ++ (one ∷ records_at n f.others)) positions
          ∙ sym (append_assoc r.done (one ∷ []) (records_at (first + (length text - length after)) f.others))));
    }

-- ---- the first record with a fault

pub read_fails : (s : Coding) (first : ℕ) (items : Items) (text rest : List ℕ) (old now : List ReadRecord) (head : Head) (f : DirFault)
    → ReadUpTo s first items text rest old now → head_at s rest ≡ Some head → head.header.tag ≡ item_tag
    → ((es : Elements) → HasElements s es (content_at head.header (drop head.size rest)) → FailsAs (record_fault (record { offset = first + (length text - length rest); elements = es })) f)
    → FailsAs (each_fault (records_at first items)) f
read_fails s first items text rest old now head f r read tagged fails =
    let i = item_here head r.after r.spelled read tagged in
    let here : ℕ = first + (length text - length rest) in
    let one : Record = record { offset = here; elements = i.elements } in
    let others : List Record = records_at (here + header_size head.header + size_of i.elements + end_size head.header.length) i.others in
    grind (arith, common_steps, item_here head r.after r.spelled read tagged, item_content s head.header i.elements i.content i.rest (drop head.size rest) i.content_is i.rest_is, each_append r.done (one ∷ others) r.good)

-- ---- all records

all_read : (s : Coding) (first : ℕ) (items : Items) (text rest : List ℕ) (old now : List ReadRecord) (before : List Record) (r : ReadUpTo s first items text rest old now) → r.remaining ≡ no_items
    → AreEntries old before → AreEntries now (before ++ records_at first items)
all_read s first items text rest old now before r none are = grind (arith, common_steps)

pub read_to_mark : (s : Coding) (first : ℕ) (items : Items) (text rest : List ℕ) (old now : List ReadRecord) (before : List Record) (head : Head) → ReadUpTo s first items text rest old now
    → head_at s rest ≡ Some head → head.header.tag ≢ item_tag → AreEntries old before → AreEntries now (before ++ records_at first items)
read_to_mark s first items text rest old now before head r read other are =
    all_read s first items text rest old now before r (no_items_here r.spelled (λ one there tagged. other (let same : one ≡ head = cc in ap (λ z. z.header.tag) (sym same) ∙ tagged))).0 are

pub read_to_end : (s : Coding) (first : ℕ) (items : Items) (text rest : List ℕ) (old now : List ReadRecord) (before : List Record) → ReadUpTo s first items text rest old now
    → head_at s rest ≡ None → AreEntries old before → AreEntries now (before ++ records_at first items)
read_to_end s first items text rest old now before r read are = all_read s first items text rest old now before r (no_items_here r.spelled (λ one there tagged. absurd cc)).0 are

-- ---- their offsets rise

pub records_rise : (least offset : ℕ) (items : Items) → least ≤ offset → Rise least (records_at offset items)
records_rise least offset no_items fits = tt
records_rise least offset (item h es is) fits = (fits, records_rise (suc offset) (offset + header_size h + size_of es + end_size h.length) is (omega arith))
records_rise least offset (fragment h v is) fits = records_rise least (offset + header_size h + length v) is (omega arith)
