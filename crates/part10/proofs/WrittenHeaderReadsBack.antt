-- The file header that is written is one that is read (`head_is_read`), with the unique identifiers that were given
-- (`uid_back`). Stands on Bounds and the laws of `element`.
use Rattle.std.proofs.Common.{◌≡◌, ℕ, ◌+◌, ◌%◌, ◌<◌, ◌≤◌, Bool, true, false, not, ◌&&◌, ◌||◌, List, [], ◌∷◌, ◌++◌, length, replicate, Some, refl, sym, subst, arith, append_assoc, length-append, eqb-true, leb-true, nat_eq, nat_lt, nat_le, if◌then◌else◌, codes}
use Rattle.std.specs.List.{list_all}
use Rattle.std.proofs.lemmas.Bool.{and_parts}
use Rattle.std.proofs.lemmas.List.{append-nil}
use Rattle.std.proofs.lemmas.Bool.Decides.{nat_tests}
use Rattle.element.specs.declared.syntax.Syntax.TheVariants.{Explicit}
use Rattle.dictionary.specs.declared.transfer.Transfer.{Transfer}
use Rattle.dictionary.specs.declared.transfer.Transfer.TheVariants as transfers
use Rattle.element.specs.Vr.{is_capital, is_short}
use Rattle.element.specs.Header.{SpellsHeader, header_bytes}
use Rattle.element.specs.Padding.{is_padding, is_empty, kept_before, without_trailing}
use Rattle.element.specs.Title.{title_text}
use Rattle.element.specs.Uid.{is_uid_character, is_uid, uid_of}
use Rattle.element.proofs.Public.{written_spells}
use Rattle.dictionary.specs.Implementation.{implementation_class_uid, implementation_version_name}
use Rattle.dictionary.specs.Transfers.{transfer_uid}
use Rattle.part10.specs.declared.meta.Meta.{Meta}
use Rattle.element.specs.Padding.{padded}
use Rattle.part10.specs.File.{meta_element, uid_element, identity_elements, implementation_elements, title_element, meta_group, head}
use Rattle.part10.specs.MetaText.{MetaElement, MetaElements, no_more, element_then, SpellsMeta, meta_values_of}
use Rattle.part10.proofs.Bounds.{title_text_short}

-- values

padded_even : (padding : ℕ) (v : List ℕ) → length (padded padding v) % 2 ≡ 0
padded_even padding v = by (nat_eq (length v % 2) 0) refl
  where
    by : (b : Bool) → nat_eq (length v % 2) 0 ≡ b → length (if b then v else v ++ padding ∷ []) % 2 ≡ 0
    by true e = eqb-true _ _ e
    by false e =
        let odd : length v % 2 ≡ 1 = grind (arith, nat_tests) in
        rw length-append (omega (arith, odd))

padded_short : (padding : ℕ) (v : List ℕ) → length (padded padding v) ≤ length v + 1
padded_short padding v = by (nat_eq (length v % 2) 0)
  where
    by : (b : Bool) → length (if b then v else v ++ padding ∷ []) ≤ length v + 1
    by true = omega arith
    by false = rw length-append (omega arith)

no_padding : (c : ℕ) → is_uid_character c ≡ true → is_padding c ≡ false
no_padding c e = grind (arith, nat_tests)

kept : (x : ℕ) (rest : List ℕ) → is_padding x ≡ false → kept_before is_padding x rest ≡ x ∷ rest
kept x [] e = rw e refl
kept x (y ∷ rest) e = refl

-- the text of an identifier ends in nothing that is dropped
pub text_kept : (text : List ℕ) → list_all is_uid_character text ≡ true → without_trailing is_padding text ≡ text
text_kept [] e = refl
text_kept (x ∷ xs) e =
    let parts = and_parts (is_uid_character x) (list_all is_uid_character xs) e in
    rw (text_kept xs parts.1) (kept x xs (no_padding x parts.0))

zero_dropped : (text : List ℕ) → list_all is_uid_character text ≡ true → without_trailing is_padding (text ++ 0 ∷ []) ≡ text
zero_dropped [] e = refl
zero_dropped (x ∷ xs) e =
    let parts = and_parts (is_uid_character x) (list_all is_uid_character xs) e in
    rw (zero_dropped xs parts.1) (kept x xs (no_padding x parts.0))

pub uid_back : (text : List ℕ) → is_uid text ≡ true → uid_of (padded 0 text) ≡ Some text
uid_back text e = by (nat_eq (length text % 2) 0)
  where
    characters : list_all is_uid_character text ≡ true
    characters = (and_parts (nat_le 1 (length text) && nat_le (length text) 64) (list_all is_uid_character text) e).1

    by : (b : Bool) → uid_of (if b then text else text ++ 0 ∷ []) ≡ Some text
    by true = rw (text_kept text characters, e) refl
    by false = rw (zero_dropped text characters, e) refl

syntax_is_uid : (t : Transfer) → is_uid (transfer_uid t) ≡ true
syntax_is_uid transfers.Implicit = refl
syntax_is_uid _ = refl

-- elements

or_true : (b : Bool) → (b || true) ≡ true
or_true true = refl
or_true false = refl

meta_spells : (n a b : ℕ) (v : List ℕ) → n < 65536 → (is_capital a && is_capital b) ≡ true → length v < 65536
    → SpellsHeader Explicit (record { tag = record { 0 = 2; 1 = n }; vr = Some (a ∷ b ∷ []); length = length v }) (header_bytes (record { tag = record { 0 = 2; 1 = n }; vr = Some (a ∷ b ∷ []); length = length v }))
meta_spells n a b v number capital short =
    let few : nat_lt (length v) 65536 ≡ true = grind (arith, nat_tests) in
    let fits : (not (is_short a b) || nat_lt (length v) 65536) ≡ true = rw few (or_true (not (is_short a b))) in
    written_spells Explicit (record { tag = record { 0 = 2; 1 = n }; vr = Some (a ∷ b ∷ []); length = length v })
    (omega arith, omega arith) (omega arith) (capital, refl) fits

meta_then : (last n a b : ℕ) (v : List ℕ) (es : List MetaElement) (rest : List ℕ) → last < n → n < 65536 → (is_capital a && is_capital b) ≡ true
    → length v < 65536 → length v % 2 ≡ 0 → MetaElements n es rest
    → MetaElements last (record { number = n; value = v } ∷ es) (meta_element n (a ∷ b ∷ []) v ++ rest)
meta_then last n a b v es rest rises number capital short even more =
    let header : List ℕ = header_bytes (record { tag = record { 0 = 2; 1 = n }; vr = Some (a ∷ b ∷ []); length = length v }) in
    let P : List ℕ → Type 0 = λ text. MetaElements last (record { number = n; value = v } ∷ es) text in
    let here : P (header ++ (v ++ rest)) = element_then (meta_spells n a b v number capital short) refl rises even refl more in
    subst P (sym (append_assoc header v rest)) here

meta_last : (last n a b : ℕ) (v : List ℕ) → last < n → n < 65536 → (is_capital a && is_capital b) ≡ true
    → length v < 65536 → length v % 2 ≡ 0 → MetaElements last (record { number = n; value = v } ∷ []) (meta_element n (a ∷ b ∷ []) v)
meta_last last n a b v rises number capital short even =
    let header : List ℕ = header_bytes (record { tag = record { 0 = 2; 1 = n }; vr = Some (a ∷ b ∷ []); length = length v }) in
    let P : List ℕ → Type 0 = λ text. MetaElements last (record { number = n; value = v } ∷ []) text in
    subst P (append-nil (header ++ v)) (meta_then last n a b v [] [] rises number capital short even no_more)

-- the group

title_elements : Bool → List ℕ → List MetaElement
title_elements true text = []
title_elements false text = record { number = 0x0016; value = padded 32 text } ∷ []

title_read : (text : List ℕ) → length text ≤ 16 → MetaElements 0x0013 (title_elements (is_empty text) text) (title_element text)
unfolding title_element title_elements
title_read text short = by (is_empty text)
  where
    few : length (padded 32 text) < 65536
    few = omega (arith, padded_short 32 text, short)

    by : (b : Bool) → MetaElements 0x0013 (title_elements b text) (if b then [] else meta_element 0x0016 (codes "AE") (padded 32 text))
    by true = no_more
    by false = meta_last 0x0013 0x0016 65 69 (padded 32 text) (omega arith) (omega arith) refl few (padded_even 32 text)

uid_elements : Meta → List MetaElement → List MetaElement
uid_elements meta after =
    record { number = 0x0001; value = 0 ∷ 1 ∷ [] }
    ∷ record { number = 0x0002; value = padded 0 meta.class }
    ∷ record { number = 0x0003; value = padded 0 meta.instance }
    ∷ record { number = 0x0010; value = padded 0 (transfer_uid meta.syntax) }
    ∷ after

implementation : List MetaElement → List MetaElement
implementation after =
    record { number = 0x0012; value = padded 0 implementation_class_uid }
    ∷ record { number = 0x0013; value = implementation_version_name }
    ∷ after

uid_short : (text : List ℕ) → is_uid text ≡ true → length (padded 0 text) < 65536
uid_short text e =
    let size = and_parts (nat_le 1 (length text)) (nat_le (length text) 64) (and_parts (nat_le 1 (length text) && nat_le (length text) 64) (list_all is_uid_character text) e).0 in
    let most : length text ≤ 64 = leb-true _ _ size.1 in
    omega (arith, padded_short 0 text, most)

implementation_read : (es : List MetaElement) (rest : List ℕ) → MetaElements 0x0013 es rest → MetaElements 0x0010 (implementation es) (implementation_elements ++ rest)
unfolding implementation implementation_elements is_short
implementation_read es rest more =
    let inner = meta_then 0x0012 0x0013 83 72 implementation_version_name es rest (omega arith) (omega arith) refl (omega arith) refl more in
    meta_then 0x0010 0x0012 85 73 (padded 0 implementation_class_uid) _ (meta_element 0x0013 (codes "SH") implementation_version_name ++ rest) (omega arith) (omega arith) refl (omega arith) refl inner

pub uid_then : (last n : ℕ) (text : List ℕ) (es : List MetaElement) (rest : List ℕ) → last < n → n < 65536 → is_uid text ≡ true → MetaElements n es rest
    → MetaElements last (record { number = n; value = padded 0 text } ∷ es) (uid_element n text ++ rest)
uid_then last n text es rest rises number e more =
    meta_then last n 85 73 (padded 0 text) es rest rises number refl (uid_short text e) (padded_even 0 text) more

regroup : (a b c d rest : List ℕ) → a ++ (b ++ (c ++ (d ++ rest))) ≡ (a ++ b ++ c ++ d) ++ rest
regroup a b c d rest = simp append_assoc refl

instance_read : (meta : Meta) (es : List MetaElement) (rest : List ℕ) → is_uid meta.class ≡ true → is_uid meta.instance ≡ true
    → MetaElements 0x0010 es rest → MetaElements 0 (uid_elements meta es) (identity_elements meta ++ rest)
unfolding uid_elements identity_elements
instance_read meta es rest class instance more =
    let syntax = uid_then 0x0003 0x0010 (transfer_uid meta.syntax) es rest (omega arith) (omega arith) (syntax_is_uid meta.syntax) more in
    let named = uid_then 0x0002 0x0003 meta.instance (record { number = 0x0010; value = padded 0 (transfer_uid meta.syntax) } ∷ es) (uid_element 0x0010 (transfer_uid meta.syntax) ++ rest) (omega arith) (omega arith) instance syntax in
    let classed = uid_then 0x0001 0x0002 meta.class (record { number = 0x0003; value = padded 0 meta.instance } ∷ record { number = 0x0010; value = padded 0 (transfer_uid meta.syntax) } ∷ es) (uid_element 0x0003 meta.instance ++ (uid_element 0x0010 (transfer_uid meta.syntax) ++ rest)) (omega arith) (omega arith) class named in
    let all = meta_then 0 0x0001 79 66 (0 ∷ 1 ∷ []) (record { number = 0x0002; value = padded 0 meta.class } ∷ record { number = 0x0003; value = padded 0 meta.instance } ∷ record { number = 0x0010; value = padded 0 (transfer_uid meta.syntax) } ∷ es) (uid_element 0x0002 meta.class ++ (uid_element 0x0003 meta.instance ++ (uid_element 0x0010 (transfer_uid meta.syntax) ++ rest))) (omega arith) (omega arith) refl (omega arith) refl classed in
    let P : List ℕ → Type 0 = λ text. MetaElements 0 (uid_elements meta es) text in
    subst P (regroup (meta_element 0x0001 (codes "OB") (0 ∷ 1 ∷ [])) (uid_element 0x0002 meta.class) (uid_element 0x0003 meta.instance) (uid_element 0x0010 (transfer_uid meta.syntax)) rest) all

-- what is written is read
pub head_is_read : (meta : Meta) → is_uid meta.class ≡ true → is_uid meta.instance ≡ true → length meta.calling.0 ≡ 16 → length (meta_group meta) ≤ 360
    → SpellsMeta (meta_values_of meta) (head meta)
unfolding uid_elements
head_is_read meta class instance sixteen few =
    let title : length (title_text meta.calling.0) ≤ 16 = omega (arith, title_text_short meta.calling.0, sixteen) in
    let last = title_elements (is_empty (title_text meta.calling.0)) (title_text meta.calling.0) in
    let read = instance_read meta (implementation last) (implementation_elements ++ title_element (title_text meta.calling.0)) class instance
    (implementation_read last (title_element (title_text meta.calling.0)) (title_read (title_text meta.calling.0) title)) in
    let P : List ℕ → Type 0 = λ text. MetaElements 0 (uid_elements meta (implementation last)) text in
    record {
      preamble = replicate 128 0;
      group = meta_group meta;
      elements = uid_elements meta (implementation last);
      preamble_size = refl;
      group_size = omega (arith, few);
      whole = refl;
      spelled = subst P (sym (append_assoc (identity_elements meta) implementation_elements (title_element (title_text meta.calling.0)))) read;
      class = uid_back meta.class class;
      instance = uid_back meta.instance instance;
      syntax = uid_back (transfer_uid meta.syntax) (syntax_is_uid meta.syntax);
    }
