-- The table has just the accepted contexts of the request (`context_in-table`), as many as there are (`length-table`).
-- Stands on DictionaryDecidesByDefault.
use Rattle.std.proofs.Common.{◌≡◌, ℕ, ◌+◌, Bool, true, false, cond, eqb, List, [], ◌∷◌, ◌++◌, length, nat_eq, Option, Some, None, option_map, option_and_then, map, arith, refl, ap, sym, ◌∙◌}
use Rattle.std.proofs.lemmas.Bool.{eqb-false}
use Rattle.std.proofs.lemmas.Bool.Decides.{nat_tests}
use Rattle.std.proofs.lemmas.List.{append-nil}
use Rattle.std.proofs.lemmas.List.Recursion.{is_count_by}
use Rattle.std.specs.List.{AllByRecursion, IsDistinct, cons_option, filter_map, find}
use Rattle.dictionary.specs.declared.transfer.Transfer.{Transfer}
use Rattle.pdu.specs.Record.{RequestRecord, Proposal, ids}
use Rattle.negotiate.specs.declared.proposals.Context.{Context}
use Rattle.negotiate.specs.declared.proposals.Service.{Service}
use Rattle.negotiate.specs.declared.table.ContextRow.{ContextRow}
use Rattle.negotiate.specs.Contexts.{accepted, accepted_by, agreed, context_of, offered, result_by, result_of, seen, service_of}
use Rattle.negotiate.specs.ContextRows.{accepted_count, context_by, context_in, context_rows, row_of, row_with}
use Rattle.negotiate.specs.Allowed.{Allowed}
use Rattle.negotiate.proofs.DictionaryDecidesByDefault.{context_kept}

-- ---- a row for each accepted context

one_more : (additional : Allowed) (id : ℕ) (class : Option Service) (syntax : Option Transfer) (rows : List ContextRow) →
    length (cons_option (option_map (row_with additional id) (accepted_by class syntax)) rows) ≡ cond (nat_eq (result_by class syntax) 0) (1 + length rows) (length rows)
one_more additional id None syntax rows = refl
one_more additional id (Some class) None rows = refl
one_more additional id (Some class) (Some syntax) rows = omega arith

pub length-context_rows : (additional : Allowed) (r : RequestRecord) → length (context_rows additional r) ≡ accepted_count r
length-context_rows additional r =
    is_count_by (λ ps. length (filter_map (row_of additional) ps)) (λ p. nat_eq (result_of p) 0) refl
    (λ p ps. one_more additional p.id (service_of p.abstract_syntax) (agreed p.transfer_syntaxes) (filter_map (row_of additional) ps)) r.contexts

-- ---- a context of a table is that of its request

differs : (a b : ℕ) → eqb b a ≡ false → nat_eq a b ≡ false
differs a b h = by (nat_eq a b) refl where
  by : (t : Bool) → nat_eq a b ≡ t → nat_eq a b ≡ false
  by true e = let same : b ≡ a = grind (arith, nat_tests) in absurd (eqb-false b a h same)
  by false e = e

passed : (additional : Allowed) (id other : ℕ) (o : Option Context) (rows : List ContextRow) → nat_eq other id ≡ false →
    context_in additional (cons_option (option_map (row_with additional other) o) rows) id ≡ context_in additional rows id
passed additional id other None rows e = refl
passed additional id other (Some c) rows e = rw e refl

-- the IDs are others than this one
abbrev IsNew : ℕ → List ℕ → Type 0
IsNew id ns = AllByRecursion (λ n. eqb id n ≡ false) ns

none_of : (additional : Allowed) (id : ℕ) (ps : List Proposal) → IsNew id (ids ps) → context_in additional (filter_map (row_of additional) (map (seen additional) ps)) id ≡ None
none_of additional id [] new = refl
none_of additional id (p ∷ ps) (head, tail) =
    passed additional id p.id (accepted (seen additional p)) (filter_map (row_of additional) (map (seen additional) ps)) (differs p.id id head) ∙ none_of additional id ps tail

found : (additional : Allowed) (id other : ℕ) (o : Option Context) (rows : List ContextRow) → ((c : Context) → o ≡ Some c → context_by additional (row_with additional other c) ≡ Some c) →
    nat_eq other id ≡ true → context_in additional rows id ≡ None → context_in additional (cons_option (option_map (row_with additional other) o) rows) id ≡ o
found additional id other None rows kept e none = none
found additional id other (Some c) rows kept e none = rw e (kept c refl)

first : (additional : Allowed) (t : Bool) (id : ℕ) (p : Proposal) (ps : List Proposal) → nat_eq p.id id ≡ t → IsNew p.id (ids ps) →
    context_in additional (filter_map (row_of additional) (map (seen additional) ps)) id ≡ option_and_then accepted (find (λ q. nat_eq q.id id) (map (seen additional) ps)) →
    context_in additional (filter_map (row_of additional) (map (seen additional) (p ∷ ps))) id ≡ option_and_then accepted (find (λ q. nat_eq q.id id) (map (seen additional) (p ∷ ps)))
first additional true id p ps e new later =
    let same : p.id ≡ id = grind (arith, nat_tests) in
    let none : context_in additional (filter_map (row_of additional) (map (seen additional) ps)) id ≡ None = rw (← same) (none_of additional p.id ps new) in
    rw e (found additional id p.id (accepted (seen additional p)) (filter_map (row_of additional) (map (seen additional) ps)) (context_kept additional p p.id) e none)
first additional false id p ps e new later =
    rw e (passed additional id p.id (accepted (seen additional p)) (filter_map (row_of additional) (map (seen additional) ps)) e ∙ later)

in_order : (additional : Allowed) (id : ℕ) (ps : List Proposal) → IsDistinct eqb (ids ps) →
    context_in additional (filter_map (row_of additional) (map (seen additional) ps)) id ≡ option_and_then accepted (find (λ p. nat_eq p.id id) (map (seen additional) ps))
unfolding IsDistinct
in_order additional id [] d = refl
in_order additional id (p ∷ ps) (new, d) = first additional (nat_eq p.id id) id p ps refl new (in_order additional id ps d)

pub context_in-context_rows : (additional : Allowed) (r : RequestRecord) → IsDistinct eqb (ids r.contexts) → (id : ℕ) →
    context_in additional (context_rows additional (offered additional r)) id ≡ context_of (offered additional r) id
context_in-context_rows additional r d id = in_order additional id r.contexts d

-- ---- a table that is filled row by row, when no context is left

whole : (additional : Allowed) (r : RequestRecord) (table : List ContextRow) (remaining : List Proposal) → table ++ filter_map (row_of additional) (map (seen additional) remaining) ≡ context_rows additional (offered additional r) →
    remaining ≡ [] → table ≡ context_rows additional (offered additional r)
whole additional r table remaining e none = sym (append-nil table) ∙ ap (λ ps. table ++ filter_map (row_of additional) (map (seen additional) ps)) (sym none) ∙ e

pub length-table : (additional : Allowed) (r : RequestRecord) (table : List ContextRow) (remaining : List Proposal) → table ++ filter_map (row_of additional) (map (seen additional) remaining) ≡ context_rows additional (offered additional r) →
    remaining ≡ [] → length table ≡ accepted_count (offered additional r)
length-table additional r table remaining e none = ap length (whole additional r table remaining e none) ∙ length-context_rows additional (offered additional r)

pub context_in-table : (additional : Allowed) (r : RequestRecord) (table : List ContextRow) (remaining : List Proposal) → table ++ filter_map (row_of additional) (map (seen additional) remaining) ≡ context_rows additional (offered additional r) →
    remaining ≡ [] → IsDistinct eqb (ids r.contexts) → (id : ℕ) → context_in additional table id ≡ context_of (offered additional r) id
context_in-table additional r table remaining e none d id =
    ap (λ rows. context_in additional rows id) (whole additional r table remaining e none) ∙ context_in-context_rows additional r d id
