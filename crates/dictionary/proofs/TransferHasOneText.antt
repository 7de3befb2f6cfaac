-- A text that names a transfer syntax is its text (`named_text`, `not_named`), and the two that are native among them
-- are the native syntaxes (`native_same`, `native_uid`, `native_layout`). Stands on TransferNames.
use Rattle.std.proofs.Common.{◌≡◌, ◌≢◌, ℕ, Bool, true, false, ◌&&◌, List, [], ◌∷◌, Option, Some, None, option_and_then, if◌then◌else◌, refl, sym, ap, subst, ◌∙◌}
use Rattle.std.proofs.lemmas.Slice.Eq.{bytes_eq-Decides}
use Rattle.std.specs.List.{find, list_all}
use Rattle.element.specs.Padding.{is_padding, without_trailing}
use Rattle.element.specs.declared.syntax.Syntax.{Syntax}
use Rattle.element.specs.declared.syntax.Syntax.TheVariants as layout
use Rattle.dictionary.specs.declared.transfer.Transfer.{Transfer}
use Rattle.dictionary.specs.declared.transfer.Transfer.TheVariants.{Implicit, Explicit}
use Rattle.dictionary.specs.Syntaxes.{syntax_named, syntax_of, syntax_uid}
use Rattle.dictionary.specs.Transfers.{all_transfers, is_text_of, native, native_of, syntax_in, transfer_named, transfer_of, transfer_uid}
use Rattle.dictionary.proofs.TransferNames as names

found_passes : {A : Type 0} (p : A → Bool) (xs : List A) (x : A) → find p xs ≡ Some x → p x ≡ true
found_passes p [] x e = absurd cc
found_passes p (y ∷ ys) x e = by (p y) refl (found_passes p ys x) e where
  by : (t : Bool) → p y ≡ t → (find p ys ≡ Some x → p x ≡ true) → (if t then Some y else find p ys) ≡ Some x → p x ≡ true
  by true is later e = let same : y ≡ x = cc in subst (λ z. p z ≡ true) same is
  by false is later e = later e

pub named_text : (text : List ℕ) (t : Transfer) → transfer_named text ≡ Some t → text ≡ transfer_uid t
unfolding transfer_named
named_text text t e = sym ((bytes_eq-Decides (transfer_uid t) text).0 (found_passes (is_text_of text) all_transfers t e))

pub not_named : (text : List ℕ) → transfer_named text ≡ None → (t : Transfer) → text ≢ transfer_uid t
not_named text e t same =
    let both : ◌≡◌ {A = Option Transfer} (Some t) None = sym (names.named_back t) ∙ ap transfer_named (sym same) ∙ e in absurd cc

-- ---- the two that are native

abbrev is_foreign : Transfer → Bool
is_foreign Implicit = false
is_foreign Explicit = false
is_foreign _ = true

foreign_is : (t : Transfer) → is_foreign t ≡ true → native_of t ≡ None
foreign_is Implicit e = absurd cc
foreign_is Explicit e = absurd cc
foreign_is _ e = refl

none_native : (p : Transfer → Bool) (xs : List Transfer) → list_all is_foreign xs ≡ true → option_and_then native_of (find p xs) ≡ None
none_native p [] all = refl
none_native p (x ∷ xs) all = by (p x) (is_foreign x) refl (none_native p xs) all where
  by : (t f : Bool) → is_foreign x ≡ f → (list_all is_foreign xs ≡ true → option_and_then native_of (find p xs) ≡ None) → (f && list_all is_foreign xs) ≡ true →
      option_and_then native_of (if t then Some x else find p xs) ≡ None
  by t false is later all = absurd cc
  by true true is later all = foreign_is x is
  by false true is later all = later all

abbrev but_two : List Transfer → List Transfer
but_two (x ∷ y ∷ rest) = rest
but_two rest = []

native_named : (text : List ℕ) → option_and_then native_of (transfer_named text) ≡ syntax_named text
unfolding transfer_named syntax_named
native_named text = by (is_text_of text Implicit) (is_text_of text Explicit) (find (is_text_of text) (but_two all_transfers)) (none_native (is_text_of text) (but_two all_transfers) refl) where
  by : (a b : Bool) (o : Option Transfer) → option_and_then native_of o ≡ None →
      option_and_then native_of (if a then Some Implicit else (if b then Some Explicit else o)) ≡ (if a then Some layout.Implicit else (if b then Some layout.Explicit else None))
  by true b o e = refl
  by false true o e = refl
  by false false o e = e

pub native_same : (bytes : List ℕ) → option_and_then native_of (transfer_of bytes) ≡ syntax_of bytes
native_same bytes = native_named (without_trailing is_padding bytes)

pub native_uid : (s : Syntax) → transfer_uid (native s) ≡ syntax_uid s
native_uid layout.Implicit = refl
native_uid layout.Explicit = refl

pub native_layout : (s : Syntax) → syntax_in (native s) ≡ s
native_layout layout.Implicit = refl
native_layout layout.Explicit = refl
