-- By default the dictionary decides (`default_result`, `default_context`): the service of an abstract syntax is the
-- class that it names (`known_service`), a further one (`placed_service`), or none (`unread_service`,
-- `unplaced_service`), also in a table's rows (`context_kept`). Stands on NativeSyntaxesArePreferred.
use Rattle.std.proofs.Common.{◌≡◌, ℕ, zero, suc, ◌+◌, ◌≤◌, Bool, true, false, ◌&&◌, ◌||◌, cond, List, [], ◌∷◌, length, drop, map, nat_eq, Option, Some, None, option_map, option_and_then, slice_get, if◌then◌else◌, arith, refl, ap, sym, subst, ◌∙◌}
use Rattle.std.proofs.lemmas.Bool.Decides.{nat_tests}
use Rattle.std.specs.Cmp.Lexicographic.{pointwise}
use Rattle.std.specs.List.{find, list_any, position_from}
use Rattle.element.specs.Padding.{is_empty, is_padding, kept_before, without_trailing}
use Rattle.element.specs.Uid.{if_uid, is_uid, uid_of}
use Rattle.element.specs.declared.syntax.Syntax.{Syntax}
use Rattle.dictionary.specs.declared.transfer.Transfer.{Transfer}
use Rattle.dictionary.specs.Transfers.{native}
use Rattle.dictionary.specs.declared.class.Class.{Class}
use Rattle.dictionary.specs.Classes.{class_named, class_of}
use Rattle.pdu.specs.Record.{Proposal, RequestRecord}
use Rattle.negotiate.specs.declared.proposals.Context.{Context}
use Rattle.negotiate.specs.declared.proposals.Service.{Service}
use Rattle.negotiate.specs.declared.proposals.Service.TheVariants.{Known, Additional}
use Rattle.negotiate.specs.ContextLaws.{accepted_by_default}
use Rattle.negotiate.specs.Contexts.{accepted, accepted_by, agreed, chosen, context_of, additional_by, is_among_additional, is_text, offered, result_by, result_of, seen, service_by, service_of, allowed_by, allowed_syntax}
use Rattle.negotiate.specs.Allowed.{Allowed, nothing_additional}
use Rattle.negotiate.proofs.NativeSyntaxesArePreferred.{default_transfer}
use Rattle.negotiate.specs.ContextRows.{class_in_row, context_by, or_first, index_of, row_with, service_at, service_in}

-- ---- an identifier is read as itself

trimmed : (xs : List ℕ) → without_trailing is_padding (without_trailing is_padding xs) ≡ without_trailing is_padding xs
trimmed [] = refl
trimmed (x ∷ xs) = by (without_trailing is_padding xs) (trimmed xs) (is_empty (without_trailing is_padding xs) && is_padding x) refl where
  by : (w : List ℕ) → without_trailing is_padding w ≡ w → (t : Bool) → (is_empty w && is_padding x) ≡ t →
      without_trailing is_padding (kept_before is_padding x w) ≡ kept_before is_padding x w
  by w e true is = rw is refl
  by w e false is = rw (is, e, is) refl

uid_again : (bytes uid : List ℕ) → uid_of bytes ≡ Some uid → uid_of uid ≡ Some uid
uid_again bytes uid e = by (is_uid (without_trailing is_padding bytes)) refl where
  by : (t : Bool) → is_uid (without_trailing is_padding bytes) ≡ t → uid_of uid ≡ Some uid
  by true is =
      let read : uid_of bytes ≡ Some (without_trailing is_padding bytes) = rw is refl in
      let both : ◌≡◌ {A = Option (List ℕ)} (Some uid) (Some (without_trailing is_padding bytes)) = sym e ∙ read in
      let same : uid ≡ without_trailing is_padding bytes = cc in
      let again : uid_of (without_trailing is_padding bytes) ≡ Some (without_trailing is_padding bytes) = ap if_uid (trimmed bytes) ∙ read in
      subst (λ u. uid_of u ≡ Some u) (sym same) again
  by false is =
      let none : uid_of bytes ≡ None = rw is refl in
      let both : ◌≡◌ {A = Option (List ℕ)} (Some uid) None = sym e ∙ none in absurd cc

same_text : (xs ys : List ℕ) → pointwise nat_eq xs ys ≡ true → xs ≡ ys
same_text [] [] h = refl
same_text [] (y ∷ ys) h = absurd cc
same_text (x ∷ xs) [] h = absurd cc
same_text (x ∷ xs) (y ∷ ys) h = by (nat_eq x y) refl h (λ k. same_text xs ys k) where
  by : (t : Bool) → nat_eq x y ≡ t → (t && pointwise nat_eq xs ys) ≡ true → (pointwise nat_eq xs ys ≡ true → xs ≡ ys) → x ∷ xs ≡ y ∷ ys
  by true e k later = let first : x ≡ y = grind (arith, nat_tests) in let rest = later k in cc
  by false e k later = absurd cc

-- ---- positions

pub at_some : {A : Type 0} (t : A → Bool) (xs : List A) (n k : ℕ) (x : A) → slice_get xs n ≡ Some x →
    position_from t k (drop n xs) ≡ cond (t x) (Some k) (position_from t (k + 1) (drop (suc n) xs))
at_some t [] n k x e = absurd cc
at_some t (y ∷ xs) zero k x e = let same : y ≡ x = cc in ap (λ z. cond (t z) (Some k) (position_from t (k + 1) xs)) same
at_some t (y ∷ xs) (suc n) k x e = at_some t xs n k x e

pub at_none : {A : Type 0} (t : A → Bool) (xs : List A) (n k : ℕ) → slice_get xs n ≡ None → position_from t k (drop n xs) ≡ None
at_none t [] zero k e = refl
at_none t [] (suc n) k e = refl
at_none t (y ∷ xs) zero k e = absurd cc
at_none t (y ∷ xs) (suc n) k e = at_none t xs n k e

pub past_end : {A : Type 0} (xs : List A) (n : ℕ) → length xs ≤ n → slice_get xs n ≡ None
past_end [] n h = refl
past_end (x ∷ xs) zero h = absurd (omega (arith, h))
past_end (x ∷ xs) (suc n) h = past_end xs n (omega (arith, h))

pub record IsAt {A : Type 0} (t : A → Bool) (xs : List A) (k : ℕ) : Type 0 where
  pub index : ℕ
  pub item : A
  pub found : position_from t k xs ≡ Some (k + index)
  pub there : slice_get xs index ≡ Some item
  pub passes : t item ≡ true

pub is_at : {A : Type 0} (t : A → Bool) (xs : List A) (k : ℕ) → list_any t xs ≡ true → IsAt t xs k
is_at t [] k h = absurd cc
is_at {A} t (x ∷ xs) k h = by (t x) refl (λ any. is_at t xs (k + 1) any) where
  by : (b : Bool) → t x ≡ b → (list_any t xs ≡ true → IsAt t xs (k + 1)) → IsAt t (x ∷ xs) k
  by true e rest =
      let here : k ≡ k + 0 = omega arith in
      record { index = 0; item = x; found = ap (λ b. cond b (Some k) (position_from t (k + 1) xs)) e ∙ ap (λ n. Some n) here; there = refl; passes = e }
  by false e rest =
      let later = rest (sym (ap (λ b. b || list_any t xs) e) ∙ h) in
      let next : k + 1 + later.index ≡ k + suc later.index = omega arith in
      record { index = suc later.index; item = later.item; found = ap (λ b. cond b (Some k) (position_from t (k + 1) xs)) e ∙ later.found ∙ ap (λ n. Some n) next; there = later.there; passes = later.passes }

pub any_found : {A : Type 0} (t : A → Bool) (xs : List A) (k n : ℕ) → position_from t k xs ≡ Some n → list_any t xs ≡ true
any_found t [] k n e = absurd cc
any_found t (x ∷ xs) k n e = by (t x) refl (λ later. any_found t xs (k + 1) n later) where
  by : (b : Bool) → t x ≡ b → (position_from t (k + 1) xs ≡ Some n → list_any t xs ≡ true) → list_any t (x ∷ xs) ≡ true
  by true is rest = rw is refl
  by false is rest = rw is (rest (sym (ap (λ b. cond b (Some k) (position_from t (k + 1) xs)) is) ∙ e))

pub none_found : {A : Type 0} (t : A → Bool) (xs : List A) (k : ℕ) → position_from t k xs ≡ None → list_any t xs ≡ false
none_found t [] k e = refl
none_found t (x ∷ xs) k e = by (t x) refl (λ later. none_found t xs (k + 1) later) where
  by : (b : Bool) → t x ≡ b → (position_from t (k + 1) xs ≡ None → list_any t xs ≡ false) → list_any t (x ∷ xs) ≡ false
  by true is rest = let wrong : ◌≡◌ {A = Option ℕ} (Some k) None = sym (ap (λ b. cond b (Some k) (position_from t (k + 1) xs)) is) ∙ e in absurd cc
  by false is rest = rw is (rest (sym (ap (λ b. cond b (Some k) (position_from t (k + 1) xs)) is) ∙ e))

-- ---- what is accepted

no_service : service_of [] ≡ None
unfolding class_named
no_service = refl

-- the service of an abstract syntax that the dictionary does not have
other_service : (additional : List (List ℕ)) (bytes : List ℕ) (uid : Option (List ℕ)) (t : Bool) → class_of bytes ≡ None → uid_of bytes ≡ uid → is_among_additional additional uid ≡ t →
    service_of (allowed_syntax additional bytes) ≡ (if t then additional_by uid else None)
other_service additional bytes uid t none read among =
    ap (λ c. service_of (allowed_by c additional bytes)) none ∙ by t (ap (is_among_additional additional) read ∙ among) where
      by : (b : Bool) → is_among_additional additional (uid_of bytes) ≡ b → service_of (if is_among_additional additional (uid_of bytes) then bytes else []) ≡ (if b then additional_by uid else None)
      by true e = rw e (ap (λ c. service_by c bytes) none ∙ ap additional_by read)
      by false e = rw e no_service

pub known_service : (additional : List (List ℕ)) (bytes : List ℕ) (class : Class) → class_of bytes ≡ Some class → service_of (allowed_syntax additional bytes) ≡ Some (Known class)
known_service additional bytes class e = ap (λ c. service_of (allowed_by c additional bytes)) e ∙ ap (λ c. service_by c bytes) e

pub unread_service : (additional : List (List ℕ)) (bytes : List ℕ) → class_of bytes ≡ None → uid_of bytes ≡ None → service_of (allowed_syntax additional bytes) ≡ None
unread_service additional bytes none unread = other_service additional bytes None false none unread refl

pub placed_service : (additional : List (List ℕ)) (bytes uid : List ℕ) (index : ℕ) → class_of bytes ≡ None → uid_of bytes ≡ Some uid → index_of additional uid ≡ Some index →
    service_of (allowed_syntax additional bytes) ≡ Some (Additional uid)
placed_service additional bytes uid index none read found = other_service additional bytes (Some uid) true none read (any_found (is_text uid) additional 0 index found)

pub unplaced_service : (additional : List (List ℕ)) (bytes uid : List ℕ) → class_of bytes ≡ None → uid_of bytes ≡ Some uid → index_of additional uid ≡ None →
    service_of (allowed_syntax additional bytes) ≡ None
unplaced_service additional bytes uid none read found = other_service additional bytes (Some uid) false none read (none_found (is_text uid) additional 0 found)

-- by default the dictionary's classes are accepted, and nothing else
default_service : (bytes : List ℕ) → service_of (allowed_syntax [] bytes) ≡ option_map Known (class_of bytes)
default_service bytes = by (class_of bytes) refl where
  among : (o : Option (List ℕ)) → is_among_additional [] o ≡ false
  among None = refl
  among (Some uid) = refl

  by : (o : Option Class) → class_of bytes ≡ o → service_of (allowed_syntax [] bytes) ≡ option_map Known o
  by (Some class) e = known_service [] bytes class e
  by None e = other_service [] bytes (uid_of bytes) false e refl (among (uid_of bytes))

pub default_result : (p : Proposal) → result_of (seen nothing_additional p) ≡ result_by (class_of p.abstract_syntax) (chosen p.transfer_syntaxes)
default_result p =
    ap (λ s. result_by s (agreed (seen nothing_additional p).transfer_syntaxes)) (default_service p.abstract_syntax)
    ∙ ap (λ t. result_by (option_map Known (class_of p.abstract_syntax)) t) (default_transfer nothing_additional p refl)
    ∙ of_class (class_of p.abstract_syntax) (chosen p.transfer_syntaxes) where
      of_class : (class : Option Class) (syntax : Option Syntax) → result_by (option_map Known class) (option_map native syntax) ≡ result_by class syntax
      of_class None syntax = refl
      of_class (Some class) None = refl
      of_class (Some class) (Some syntax) = refl

pub default_context : (r : RequestRecord) (id : ℕ) → context_of (offered nothing_additional r) id ≡ option_and_then accepted_by_default (find (λ p. nat_eq p.id id) r.contexts)
default_context r id = go r.contexts where
  go : (ps : List Proposal) → option_and_then accepted (find (λ p. nat_eq p.id id) (map (seen nothing_additional) ps)) ≡ option_and_then accepted_by_default (find (λ p. nat_eq p.id id) ps)
  go [] = refl
  go (p ∷ ps) = by (nat_eq p.id id) refl (go ps) where
    by : (t : Bool) → nat_eq p.id id ≡ t →
        option_and_then accepted (find (λ q. nat_eq q.id id) (map (seen nothing_additional) ps)) ≡ option_and_then accepted_by_default (find (λ q. nat_eq q.id id) ps) →
        option_and_then accepted (find (λ q. nat_eq q.id id) (map (seen nothing_additional) (p ∷ ps))) ≡ option_and_then accepted_by_default (find (λ q. nat_eq q.id id) (p ∷ ps))
    by true e later = rw e (ap (λ s. accepted_by s (agreed (seen nothing_additional p).transfer_syntaxes)) (default_service p.abstract_syntax)
        ∙ ap (λ t. accepted_by (option_map Known (class_of p.abstract_syntax)) t) (default_transfer nothing_additional p refl))
    by false e later = rw e later

-- ---- what stands in a row

further_kept : (additional : Allowed) (uid : List ℕ) → uid_of uid ≡ Some uid → list_any (is_text uid) additional.classes ≡ true → service_in additional (class_in_row additional (Additional uid)) ≡ Some (Additional uid)
further_kept additional uid read any =
    let at = is_at (is_text uid) additional.classes 0 any in
    let same : at.item ≡ uid = same_text at.item uid at.passes in
    let plain : 0 + at.index ≡ at.index = omega arith in
    ap (λ o. service_at (slice_get additional.classes (or_first o))) at.found ∙ ap (λ n. service_at (slice_get additional.classes n)) plain ∙ ap service_at (at.there ∙ ap (λ u. Some u) same) ∙ ap additional_by read

service_kept : (additional : Allowed) (bytes : List ℕ) (service : Service) → service_of (allowed_syntax additional.classes bytes) ≡ Some service → service_in additional (class_in_row additional service) ≡ Some service
service_kept additional bytes service is = by (class_of bytes) refl (uid_of bytes) refl where
  by : (o : Option Class) → class_of bytes ≡ o → (u : Option (List ℕ)) → uid_of bytes ≡ u → service_in additional (class_in_row additional service) ≡ Some service
  by (Some class) e u read =
      let both : ◌≡◌ {A = Option Service} (Some service) (Some (Known class)) = sym is ∙ known_service additional.classes bytes class e in
      let same : service ≡ Known class = cc in
      subst (λ s. service_in additional (class_in_row additional s) ≡ Some s) (sym same) refl
  by None e None read = let both : ◌≡◌ {A = Option Service} (Some service) None = sym is ∙ unread_service additional.classes bytes e read in absurd cc
  by None e (Some uid) read = allowed (list_any (is_text uid) additional.classes) refl where
    allowed : (t : Bool) → list_any (is_text uid) additional.classes ≡ t → service_in additional (class_in_row additional service) ≡ Some service
    allowed true any =
        let both : ◌≡◌ {A = Option Service} (Some service) (Some (Additional uid)) = sym is ∙ other_service additional.classes bytes (Some uid) true e read any in
        let same : service ≡ Additional uid = cc in
        subst (λ s. service_in additional (class_in_row additional s) ≡ Some s) (sym same) (further_kept additional uid (uid_again bytes uid read) any)
    allowed false any = let both : ◌≡◌ {A = Option Service} (Some service) None = sym is ∙ other_service additional.classes bytes (Some uid) false e read any in absurd cc

kept_by : (additional : Allowed) (id : ℕ) (service : Option Service) (syntax : Option Transfer) (c : Context) → ((s : Service) → service ≡ Some s → service_in additional (class_in_row additional s) ≡ Some s) →
    accepted_by service syntax ≡ Some c → context_by additional (row_with additional id c) ≡ Some c
kept_by additional id None syntax c kept e = absurd cc
kept_by additional id (Some s) None c kept e = absurd cc
kept_by additional id (Some s) (Some syntax) c kept e =
    let same : ◌≡◌ {A = Context} (record { class = s; syntax = syntax }) c = cc in
    subst (λ (x : Context). context_by additional (row_with additional id x) ≡ Some x) same (rw (kept s refl) refl)

-- an accepted context is what its row says
pub context_kept : (additional : Allowed) (p : Proposal) (id : ℕ) (c : Context) → accepted (seen additional p) ≡ Some c → context_by additional (row_with additional id c) ≡ Some c
context_kept additional p id c e =
    kept_by additional id (service_of (allowed_syntax additional.classes p.abstract_syntax)) (agreed (seen additional p).transfer_syntaxes) c (service_kept additional p.abstract_syntax) e
