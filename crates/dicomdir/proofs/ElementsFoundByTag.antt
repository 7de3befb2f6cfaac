-- Passing over what a header announces continues with the next element (`next_elements`, `next_items`), and finds what
-- stands under a tag (`stands_here`, `finds_value`, `finds_items`), or that nothing does (`missing_at_end`). Stands on
-- FrontIsFirstElement.
use Rattle.std.proofs.Common.{◌≡◌, ◌≢◌, ℕ, ◌%◌, true, false, List, ◌++◌, length, drop, Some, None, refl, sym, ap, subst, ◌∙◌, arith, append_assoc, ◌+◌, ◌-◌, ◌≤◌, ◌<◌, not, [], ◌⊎◌, length-append, eqb-true, eq-eqb, nat_eq, take, nat_le, le-leb, ne_eqb}
use Rattle.std.proofs.Math.Seq.{drop-append_seam, take-append_seam}
use Rattle.sequence.specs.declared.coding.Coding.{Coding}
use Rattle.element.specs.declared.tag.Tag.{Tag}
use Rattle.element.specs.declared.header.Header.{Header}
use Rattle.element.specs.Header.{number, is_marker, IsTag, item_tag, item_end_tag, sequence_end_tag}
use Rattle.sequence.specs.declared.shape.Shape.TheVariants.{Sequence, Value, NotAllowed}
use Rattle.sequence.specs.Shape.{undefined_length, is_undefined, shape}
use Rattle.sequence.specs.Tree.{Elements, Items, delimitation, IsValue, Ended, counted, delimited, no_elements}
use Rattle.dicomdir.specs.declared.found.Head.{Head}
use Rattle.dicomdir.specs.Directory.{Found, missing, value_at, found, header_size}
use Rattle.dicomdir.specs.machine.Texts.{head_at, ElementsThen, ItemsThen, IsContent, of_value, of_items, IsItemContent, of_elements, IsAfter, nothing_after, end_after, HasElements, content_at, FindsItems}
use Rattle.dicomdir.proofs.FrontIsFirstElement.{same_tags, element_here, after_mark, always_mark, item_here, no_elements_here, fits_end, fits_sequence_end, no_items_here}
use Rattle.std.proofs.lemmas.Bool.Decides.{nat_tests}
use Rattle.std.proofs.lemmas.Bool.{cond-true}
use Rattle.std.proofs.lemmas.List.{append-nil}
use Rattle.sequence.specs.declared.shape.Shape.{Shape}
use Rattle.sequence.specs.Rules.{same_tag}
use Rattle.std.proofs.lemmas.Grind.{common_steps}

-- ---- a defined length

dropped : (n : ℕ) (b rest text : List ℕ) → length b ≡ n → text ≡ b ++ rest → drop n text ≡ rest
dropped n b rest text size whole = ap (λ k. drop k text) (sym size) ∙ (ap (λ z. drop (length b) z) whole ∙ drop-append_seam b rest)

ended_drop : {mark : Tag} {n : ℕ} {b c : List ℕ} (rest text : List ℕ) → n ≢ undefined_length → Ended mark n b c → text ≡ c ++ rest → drop n text ≡ rest
ended_drop rest text other (counted {b = b} n defined even size) whole = dropped n b rest text size whole
ended_drop rest text other (delimited) whole = absurd (other refl)

pub content_drop : (s : Coding) (h : Header) (offset : ℕ) (f : Found) (c rest text : List ℕ) → h.length ≢ undefined_length → IsContent s h offset f c → text ≡ c ++ rest
    → drop h.length text ≡ rest
content_drop s h offset f c rest text other (of_value {v = v} sh val) whole = dropped h.length v rest text val.size whole
content_drop s h offset f c rest text other (of_items native sh items end) whole = ended_drop rest text other end whole

pub item_drop : (s : Coding) (h : Header) (es : Elements) (c rest text : List ℕ) → h.length ≢ undefined_length → IsItemContent s h es c → text ≡ c ++ rest
    → drop h.length text ≡ rest
item_drop s h es c rest text other (of_elements native elements end) whole = ended_drop rest text other end whole

-- ---- an undefined one

pub is_delimited : {mark : Tag} {n : ℕ} {b c : List ℕ} → Ended mark n b c → n ≡ undefined_length → c ≡ b ++ delimitation mark
is_delimited v1 e = grind (arith, nat_tests)

pub delimited_text : {mark : Tag} {n : ℕ} {b c : List ℕ} (rest text : List ℕ) → Ended mark n b c → n ≡ undefined_length → text ≡ c ++ rest → text ≡ b ++ (delimitation mark ++ rest)
delimited_text {mark = mark} {b = b} rest text end e whole = whole ∙ (ap (λ z. z ++ rest) (is_delimited end e) ∙ append_assoc b (delimitation mark) rest)

pub odd : (n : ℕ) → n % 2 ≡ 0 → n ≡ undefined_length → ⊥
odd n even e = let none : undefined_length % 2 ≡ 0 = ap (λ z. z % 2) (sym e) ∙ even in absurd cc

pub record SomeItems (s : Coding) (more text : List ℕ) : Type 0 where
  pub items : Items
  pub spelled : ItemsThen s items more text

pub record SomeElements (s : Coding) (more text : List ℕ) : Type 0 where
  pub last : ℕ
  pub elements : Elements
  pub spelled : ElementsThen s last elements more text

pub content_items : (s inner : Coding) (h : Header) (offset : ℕ) (f : Found) (c rest text : List ℕ) → h.length ≡ undefined_length → shape s h ≡ Sequence inner → IsContent s h offset f c
    → text ≡ c ++ rest → SomeItems inner (delimitation sequence_end_tag ++ rest) text
content_items s inner h offset f c rest text unsized is (of_value sh val) whole = absurd (odd h.length val.even unsized)
content_items s inner h offset f c rest text unsized is (of_items {inner = other} {is = items} {b = b} native sh list end) whole = grind (arith, common_steps, delimited_text rest text end unsized whole)

pub item_elements : (s : Coding) (h : Header) (es : Elements) (c rest text : List ℕ) → h.length ≡ undefined_length → IsItemContent s h es c → text ≡ c ++ rest
    → ElementsThen s 0 es (delimitation item_end_tag ++ rest) text
item_elements s h es c rest text unsized (of_elements {b = b} native elements end) whole = record { native = native; bytes = b; data_set = elements; whole = delimited_text rest text end unsized whole }

-- ---- one element after the other, up to a delimitation

pub next_elements : (s : Coding) (head : Head) (rest after text : List ℕ) → SomeElements s (delimitation item_end_tag ++ rest) text → head_at s text ≡ Some head
    → is_marker head.header.tag ≡ false
    → ((offset : ℕ) (f : Found) (c more : List ℕ) → IsContent s head.header offset f c → drop head.size text ≡ c ++ more → after ≡ more)
    → SomeElements s (delimitation item_end_tag ++ rest) after
next_elements s head rest after text some read plain passes =
    let f = element_here head (end_after rest) some.spelled read plain in
    let is : after ≡ f.rest = passes 0 (f.stands 0) f.content f.rest (f.content_is 0) f.rest_is in
    record { last = number head.header.tag; elements = f.others; spelled = subst (λ z. ElementsThen s (number head.header.tag) f.others (delimitation item_end_tag ++ rest) z) (sym is) f.spelled }

pub end_of_elements : (s : Coding) (head : Head) (rest text : List ℕ) → SomeElements s (delimitation item_end_tag ++ rest) text → head_at s text ≡ Some head
    → is_marker head.header.tag ≡ true → drop head.size text ≡ rest
end_of_elements s head rest text some read marks = after_mark s item_end_tag rest text head refl fits_end (no_elements_here some.spelled (λ other there plain. absurd cc)).1 read

pub always_elements : (s : Coding) (rest text : List ℕ) → SomeElements s (delimitation item_end_tag ++ rest) text → head_at s text ≡ None → ⊥
always_elements s rest text some read = always_mark s item_end_tag rest text refl fits_end (no_elements_here some.spelled (λ other there plain. absurd cc)).1 read

-- ---- one item after the other

pub next_items : (s : Coding) (head : Head) (rest after text : List ℕ) → SomeItems s (delimitation sequence_end_tag ++ rest) text → head_at s text ≡ Some head
    → head.header.tag ≡ item_tag
    → ((es : Elements) (c more : List ℕ) → IsItemContent s head.header es c → drop head.size text ≡ c ++ more → after ≡ more)
    → SomeItems s (delimitation sequence_end_tag ++ rest) after
next_items s head rest after text some read tagged passes = grind (arith, common_steps, item_here head (end_after rest) some.spelled read tagged)

pub end_of_items : (s : Coding) (head : Head) (rest text : List ℕ) → SomeItems s (delimitation sequence_end_tag ++ rest) text → head_at s text ≡ Some head
    → head.header.tag ≢ item_tag → drop head.size text ≡ rest
end_of_items s head rest text some read other = after_mark s sequence_end_tag rest text head refl fits_sequence_end (no_items_here some.spelled (λ one there tagged. other (let same : one ≡ head = cc in ap (λ z. z.header.tag) (sym same) ∙ tagged))).1 read

pub always_items : (s : Coding) (rest text : List ℕ) → SomeItems s (delimitation sequence_end_tag ++ rest) text → head_at s text ≡ None → ⊥
always_items s rest text some read = always_mark s sequence_end_tag rest text refl fits_sequence_end (no_items_here some.spelled (λ one there tagged. absurd cc)).1 read

-- ---- what a length announces

defined_content : (h : Header) (b more text : List ℕ) → h.length ≢ undefined_length → length b ≡ h.length → text ≡ b ++ more → content_at h text ≡ b
defined_content h b more text other size whole = grind (arith, common_steps, length-append b more, take-append_seam b more, cond-true, eqb-true)

open_content : (h : Header) (text : List ℕ) → h.length ≡ undefined_length → content_at h text ≡ text
open_content h text unsized = grind (arith, common_steps, eq-eqb h.length undefined_length unsized)

-- the text is this one, and continues by nothing or by the end of the level
pub record EndsAs (mark : Tag) (b text : List ℕ) : Type 0 where
  pub more : List ℕ
  pub after : IsAfter mark more
  pub whole : text ≡ b ++ more

pub ended_content : {mark : Tag} {n : ℕ} {b c : List ℕ} (h : Header) (more text : List ℕ) → Ended mark n b c → n ≡ h.length → text ≡ c ++ more → EndsAs mark b (content_at h text)
ended_content h more text (counted {b = b} n defined even size) same whole =
    let other : h.length ≢ undefined_length = λ e. defined (same ∙ e) in
    record { more = []; after = nothing_after; whole = defined_content h b more text other (size ∙ same) whole ∙ sym (append-nil b) }
ended_content {mark = mark} h more text (delimited {b = b}) same whole =
    record {
      more = delimitation mark ++ more;
      after = end_after more;
      whole = open_content h text (sym same) ∙ (whole ∙ append_assoc b (delimitation mark) more);
    }

pub item_content : (s : Coding) (h : Header) (es : Elements) (c more text : List ℕ) → IsItemContent s h es c → text ≡ c ++ more → HasElements s es (content_at h text)
item_content s h es c more text (of_elements {b = b} native elements end) whole = grind (arith, common_steps, ended_content h more text end refl whole)

pub finds_items : (s inner : Coding) (h : Header) (offset size : ℕ) (f : Found) (c more text there : List ℕ) → size ≡ header_size h → shape s h ≡ Sequence inner → IsContent s h offset f c
    → text ≡ c ++ more → there ≡ content_at h text → FindsItems offset (offset + size) inner there f
finds_items s inner h offset size f c more text there sized is (of_value sh val) whole at = absurd cc
finds_items s inner h offset size f c more text there sized is (of_items {inner = other} {is = items} {b = b} native sh list end) whole at = grind (arith, common_steps, ended_content h more text end refl whole)

pub no_sequence : (s : Coding) (h : Header) (r : Shape) → (r ≡ Value) ⊎ (r ≡ NotAllowed) → r ≡ shape s h → (inner : Coding) → shape s h ≡ Sequence inner → ⊥
no_sequence s h r v4 same inner is = grind (arith, nat_tests)

value_consumed : (h : Header) (v more text : List ℕ) → IsValue h.length v → text ≡ v ++ more → content_at h text ≡ v
value_consumed h v more text val whole =
    let defined : is_undefined h.length ≡ false = ne_eqb h.length undefined_length (λ same. odd h.length val.even same) in
    let fits : nat_le h.length (length text) ≡ true = le-leb h.length (length text) (omega (arith, val.size, ap length whole, length-append v more)) in
    let consumed : take h.length text ≡ v = ap (λ n. take n text) (sym val.size) ∙ ap (take (length v)) whole ∙ take-append_seam v more in
    rw (defined, fits) consumed

-- where no sequence is, the value
pub finds_value : (s : Coding) (h : Header) (r : Shape) → (r ≡ Value) ⊎ (r ≡ NotAllowed) → r ≡ shape s h → (offset : ℕ) (f : Found) (c more text there : List ℕ) → IsContent s h offset f c → text ≡ c ++ more → there ≡ content_at h text
    → f ≡ value_at offset there
finds_value s h r some same offset f c more text there (of_value {v = v} sh val) whole is = ap (value_at offset) (sym (is ∙ value_consumed h v more text val whole))
finds_value s h r some same offset f c more text there (of_items {inner = inner} native sh items end) whole is = absurd (no_sequence s h r some same inner sh)

-- ---- tags

pub same_number : (t u : Tag) → same_tag t u ≡ true → nat_eq (number t) (number u) ≡ true
same_number t u e = let same : t ≡ u = same_tags t u (ap not e) in eq-eqb (number t) (number u) (ap number same)

pub other_number : (t u : Tag) → IsTag t → u.1 < 65536 → same_tag t u ≡ false → nat_eq (number t) (number u) ≡ false
other_number t u fits low e = grind (arith, nat_tests)

-- ---- one element after the other

-- what is left to look through: elements among which the tag is found as among all
pub record RemainingOf (s : Coding) (tag offset : ℕ) (es : Elements) (text rest : List ℕ) : Type 0 where
  pub last : ℕ
  pub others : Elements
  pub more : List ℕ
  pub after : IsAfter item_end_tag more
  pub spelled : ElementsThen s last others more rest
  pub same : found tag offset es ≡ found tag (offset + (length text - length rest)) others

pub all_remaining : (s : Coding) (tag offset : ℕ) (es : Elements) (text : List ℕ) → HasElements s es text → RemainingOf s tag offset es text text
all_remaining s tag offset es text has = grind (arith, common_steps)

pub remaining_after : (s : Coding) (tag offset : ℕ) (es : Elements) (text rest after : List ℕ) (head : Head) → length rest ≤ length text → RemainingOf s tag offset es text rest
    → head_at s rest ≡ Some head → is_marker head.header.tag ≡ false → (IsTag head.header.tag → nat_eq (number head.header.tag) tag ≡ false)
    → ((p : ℕ) (f : Found) (c more : List ℕ) → IsContent s head.header p f c → drop head.size rest ≡ c ++ more → after ≡ more)
    → RemainingOf s tag offset es text after
remaining_after s tag offset es text rest after head fits remaining read plain other passes = grind (arith, common_steps, element_here head remaining.after remaining.spelled read plain)

none_remaining : (s : Coding) (tag offset : ℕ) (es : Elements) (text rest : List ℕ) (remaining : RemainingOf s tag offset es text rest) → remaining.others ≡ no_elements → found tag offset es ≡ missing
none_remaining s tag offset es text rest remaining none = remaining.same ∙ ap (λ z. found tag (offset + (length text - length rest)) z) none

pub missing_at_mark : (s : Coding) (tag offset : ℕ) (es : Elements) (text rest : List ℕ) (head : Head) → RemainingOf s tag offset es text rest → head_at s rest ≡ Some head
    → is_marker head.header.tag ≡ true → found tag offset es ≡ missing
missing_at_mark s tag offset es text rest head remaining read marks = none_remaining s tag offset es text rest remaining (no_elements_here remaining.spelled (λ other there plain. absurd cc)).0

pub missing_at_end : (s : Coding) (tag offset : ℕ) (es : Elements) (text rest : List ℕ) → RemainingOf s tag offset es text rest → head_at s rest ≡ None → found tag offset es ≡ missing
missing_at_end s tag offset es text rest remaining read = none_remaining s tag offset es text rest remaining (no_elements_here remaining.spelled (λ other there plain. absurd cc)).0

-- the element with the tag: what stands there, and what its header announces
pub record Stands (s : Coding) (head : Head) (offset : ℕ) (text : List ℕ) (f : Found) : Type 0 where
  pub content : List ℕ
  pub more : List ℕ
  pub size : head.size ≡ header_size head.header
  pub is : IsContent s head.header offset f content
  pub whole : text ≡ content ++ more

pub stands_here : (s : Coding) (tag offset at : ℕ) (es : Elements) (text rest next : List ℕ) (head : Head) → RemainingOf s tag offset es text rest → head_at s rest ≡ Some head
    → is_marker head.header.tag ≡ false → nat_eq (number head.header.tag) tag ≡ true → at ≡ offset + (length text - length rest) → next ≡ drop head.size rest
    → Stands s head at next (found tag offset es)
stands_here s tag offset at es text rest next head remaining read plain same at_is next_is = grind (arith, common_steps, element_here head remaining.after remaining.spelled read plain)
