-- A native transfer syntax is chosen where one is proposed (`agreed_native`), else the first proposed that is accepted
-- (`agreed_additional`); with none accepted the native two decide (`native_result`, `native_context`). Stands on the laws
-- of `dictionary`.
use Rattle.std.proofs.Common.{◌≡◌, ℕ, Bool, true, false, ◌||◌, cond, List, [], ◌∷◌, Option, Some, None, option_map, option_and_then, if◌then◌else◌, refl, ap, sym, ◌∙◌}
use Rattle.std.specs.List.{filter, list_any}
use Rattle.element.specs.declared.syntax.Syntax.{Syntax}
use Rattle.element.specs.declared.syntax.Syntax.TheVariants as layout
use Rattle.dictionary.specs.declared.transfer.Transfer.{Transfer}
use Rattle.dictionary.specs.declared.transfer.Transfer.TheVariants.{Implicit, Explicit}
use Rattle.dictionary.specs.Syntaxes.{syntax_of}
use Rattle.dictionary.specs.Transfers.{native, native_of, transfer_of}
use Rattle.dictionary.proofs.Public.{native_same}
use Rattle.pdu.specs.Record.{Proposal}
use Rattle.negotiate.specs.Contexts.{accepted, accepted_by, agreed, agreed_by, carried, carried_by, chosen, first_known, is_explicit, is_implicit, is_allowed, proposes_explicit, proposes_implicit, result_by, result_of, seen, service_of, allowed_syntax, allowed_transfers}
use Rattle.negotiate.specs.Allowed.{Allowed}

-- ---- a native one is always accepted

native_kept : (allowed : List Transfer) (o : Option Transfer) (s : Syntax) → option_and_then native_of o ≡ Some s → is_allowed allowed o ≡ true
native_kept allowed None s e = absurd cc
native_kept allowed (Some Implicit) s e = refl
native_kept allowed (Some Explicit) s e = refl
native_kept allowed (Some _) s e = absurd cc

named_kept : (allowed : List Transfer) (uid : List ℕ) (s : Syntax) → syntax_of uid ≡ Some s → is_allowed allowed (transfer_of uid) ≡ true
named_kept allowed uid s e = native_kept allowed (transfer_of uid) s (native_same uid ∙ e)

explicit_is : (o : Option Syntax) → is_explicit o ≡ true → o ≡ Some layout.Explicit
explicit_is None e = absurd cc
explicit_is (Some layout.Explicit) e = refl
explicit_is (Some layout.Implicit) e = absurd cc

implicit_is : (o : Option Syntax) → is_implicit o ≡ true → o ≡ Some layout.Implicit
implicit_is None e = absurd cc
implicit_is (Some layout.Implicit) e = refl
implicit_is (Some layout.Explicit) e = absurd cc

any_filter : {A : Type 0} (q p : A → Bool) (xs : List A) → ((x : A) → q x ≡ true → p x ≡ true) → list_any q (filter p xs) ≡ list_any q xs
any_filter q p [] h = refl
any_filter q p (x ∷ xs) h = by (p x) refl (q x) refl (any_filter q p xs h) where
  by : (t : Bool) → p x ≡ t → (u : Bool) → q x ≡ u → list_any q (filter p xs) ≡ list_any q xs →
      list_any q (cond t (x ∷ filter p xs) (filter p xs)) ≡ (u || list_any q xs)
  by true e u f later = rw f (ap (λ b. u || b) later)
  by false e true f later = let wrong : false ≡ true = sym e ∙ h x f in absurd cc
  by false e false f later = later

abbrev chosen_by : Bool → Bool → Option Syntax
chosen_by a b = if a then Some layout.Explicit else (if b then Some layout.Implicit else None)

chosen_kept : (allowed : List Transfer) (uids : List (List ℕ)) → chosen (allowed_transfers allowed uids) ≡ chosen uids
chosen_kept allowed uids =
    ap (λ a. chosen_by a (proposes_implicit (allowed_transfers allowed uids)))
    (any_filter (λ uid. is_explicit (syntax_of uid)) (λ uid. is_allowed allowed (transfer_of uid)) uids (λ uid e. named_kept allowed uid layout.Explicit (explicit_is (syntax_of uid) e)))
    ∙ ap (λ b. chosen_by (proposes_explicit uids) b)
    (any_filter (λ uid. is_implicit (syntax_of uid)) (λ uid. is_allowed allowed (transfer_of uid)) uids (λ uid e. named_kept allowed uid layout.Implicit (implicit_is (syntax_of uid) e)))

pub agreed_native : (allowed : List Transfer) (uids : List (List ℕ)) (s : Syntax) → chosen uids ≡ Some s → agreed (allowed_transfers allowed uids) ≡ Some (native s)
agreed_native allowed uids s e = ap (λ o. agreed_by o (allowed_transfers allowed uids)) (chosen_kept allowed uids ∙ e)

pub agreed_additional : (allowed : List Transfer) (uids : List (List ℕ)) → chosen uids ≡ None → agreed (allowed_transfers allowed uids) ≡ first_known (allowed_transfers allowed uids)
agreed_additional allowed uids e = ap (λ o. agreed_by o (allowed_transfers allowed uids)) (chosen_kept allowed uids ∙ e)

-- ---- the first that is accepted

pub allowed_here : (allowed : List Transfer) (uid : List ℕ) (uids : List (List ℕ)) (t : Transfer) → transfer_of uid ≡ Some t → is_allowed allowed (Some t) ≡ true →
    first_known (allowed_transfers allowed (uid ∷ uids)) ≡ Some t
allowed_here allowed uid uids t named is = rw (named, is, named) refl

pub not_here : (allowed : List Transfer) (uid : List ℕ) (uids : List (List ℕ)) (o : Option Transfer) → transfer_of uid ≡ o → is_allowed allowed o ≡ false →
    first_known (allowed_transfers allowed (uid ∷ uids)) ≡ first_known (allowed_transfers allowed uids)
not_here allowed uid uids o named is = rw (named, is) refl

-- ---- by default

neither : (o : Option Transfer) (s : Option Syntax) → option_and_then native_of o ≡ s → is_explicit s ≡ false → is_implicit s ≡ false → is_allowed [] o ≡ false
neither None s e a b = refl
neither (Some Implicit) s e a b = let wrong : true ≡ false = ap is_implicit e ∙ b in absurd cc
neither (Some Explicit) s e a b = let wrong : true ≡ false = ap is_explicit e ∙ a in absurd cc
neither (Some _) s e a b = refl

none_additional : (uids : List (List ℕ)) → proposes_explicit uids ≡ false → proposes_implicit uids ≡ false → allowed_transfers [] uids ≡ []
none_additional [] a b = refl
none_additional (uid ∷ uids) a b = by (is_explicit (syntax_of uid)) refl (is_implicit (syntax_of uid)) refl (none_additional uids) a b where
  by : (t : Bool) → is_explicit (syntax_of uid) ≡ t → (u : Bool) → is_implicit (syntax_of uid) ≡ u →
      (proposes_explicit uids ≡ false → proposes_implicit uids ≡ false → allowed_transfers [] uids ≡ []) →
      (t || proposes_explicit uids) ≡ false → (u || proposes_implicit uids) ≡ false → allowed_transfers [] (uid ∷ uids) ≡ []
  by true e u f later a b = absurd cc
  by false e true f later a b = absurd cc
  by false e false f later a b = rw (neither (transfer_of uid) (syntax_of uid) (native_same uid) e f) (later a b)

default_agreed : (uids : List (List ℕ)) → agreed (allowed_transfers [] uids) ≡ option_map native (chosen uids)
default_agreed uids = by (proposes_explicit uids) refl (proposes_implicit uids) refl where
  by : (a : Bool) → proposes_explicit uids ≡ a → (b : Bool) → proposes_implicit uids ≡ b → agreed (allowed_transfers [] uids) ≡ option_map native (chosen uids)
  by true e b f = let is : chosen uids ≡ Some layout.Explicit = rw e refl in agreed_native [] uids layout.Explicit is ∙ sym (ap (option_map native) is)
  by false e true f = let is : chosen uids ≡ Some layout.Implicit = rw (e, f) refl in agreed_native [] uids layout.Implicit is ∙ sym (ap (option_map native) is)
  by false e false f =
      let is : chosen uids ≡ None = rw (e, f) refl in
      agreed_additional [] uids is ∙ ap first_known (none_additional uids e f) ∙ sym (ap (option_map native) is)

pub default_transfer : (additional : Allowed) (p : Proposal) → additional.transfers ≡ [] → agreed (seen additional p).transfer_syntaxes ≡ option_map native (chosen p.transfer_syntaxes)
default_transfer additional p e = ap (λ ts. agreed (allowed_transfers ts p.transfer_syntaxes)) e ∙ default_agreed p.transfer_syntaxes

pub native_result : (additional : Allowed) (p : Proposal) → additional.transfers ≡ [] →
    result_of (seen additional p) ≡ result_by (service_of (allowed_syntax additional.classes p.abstract_syntax)) (chosen p.transfer_syntaxes)
native_result additional p e =
    ap (λ t. result_by (service_of (allowed_syntax additional.classes p.abstract_syntax)) t) (default_transfer additional p e)
    ∙ by (service_of (allowed_syntax additional.classes p.abstract_syntax)) (chosen p.transfer_syntaxes) where
      by : {A : Type 0} (service : Option A) (s : Option Syntax) → result_by service (option_map native s) ≡ result_by service s
      by None s = refl
      by (Some class) None = refl
      by (Some class) (Some s) = refl

pub native_context : (additional : Allowed) (p : Proposal) → additional.transfers ≡ [] →
    accepted (seen additional p) ≡ accepted_by (service_of (allowed_syntax additional.classes p.abstract_syntax)) (option_map native (chosen p.transfer_syntaxes))
native_context additional p e = ap (λ t. accepted_by (service_of (allowed_syntax additional.classes p.abstract_syntax)) t) (default_transfer additional p e)

pub native_carried : (additional : Allowed) (p : Proposal) → additional.transfers ≡ [] →
    carried (seen additional p) ≡ carried_by (service_of (allowed_syntax additional.classes p.abstract_syntax)) (option_map native (chosen p.transfer_syntaxes))
native_carried additional p e = ap (λ t. carried_by (service_of (allowed_syntax additional.classes p.abstract_syntax)) t) (default_transfer additional p e)

pub native_first : (additional : Allowed) (p : Proposal) (s : Syntax) → chosen p.transfer_syntaxes ≡ Some s → agreed (seen additional p).transfer_syntaxes ≡ Some (native s)
native_first additional p s e = agreed_native additional.transfers p.transfer_syntaxes s e
