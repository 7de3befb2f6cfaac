-- A request has more bytes than the rows of its accepted contexts need (`few_rows`). Stands on the definitions alone.
use Rattle.std.proofs.Common.{◌≡◌, ℕ, ◌+◌, ◌*◌, ◌≤◌, List, [], ◌∷◌, ◌++◌, length, ap, arith, map}
use Rattle.std.proofs.lemmas.Grind.{common_steps}
use Rattle.std.proofs.lemmas.List.{length-append}
use Rattle.std.proofs.lemmas.List.Sums.{length-filter, count_by-le-length}
use Rattle.std.specs.List.{AllByRecursion}
use Rattle.pdu.specs.Types.{proposed_context_item}
use Rattle.pdu.specs.Record.{RequestRecord, Proposal}
use Rattle.pdu.specs.Pieces.{IsWholePiece, joined}
use Rattle.pdu.specs.Items.{item, is_kind, of_kind}
use Rattle.pdu.specs.Request.{ContextTexts, RequestText}
use Rattle.negotiate.specs.ContextRows.{accepted_count}
use Rattle.negotiate.specs.Contexts.{offered, result_of, seen}
use Rattle.std.proofs.Common.{nat_eq}
use Rattle.negotiate.specs.Allowed.{Allowed}

-- an item has four bytes at least
items_size : (items : List (List ℕ)) → AllByRecursion (IsWholePiece item) items → 4 * length items ≤ length (joined items)
items_size [] all = omega arith
items_size (i ∷ is) all = omega (arith, all.0.headed, items_size is all.1, length-append i (joined is))

-- each context is one of them
contexts_items : (ps : List Proposal) (is : List (List ℕ)) → ContextTexts ps is → length ps ≡ length is
contexts_items [] [] h = omega arith
contexts_items [] (i ∷ is) h = absurd h
contexts_items (p ∷ ps) [] h = absurd h
contexts_items (p ∷ ps) (i ∷ is) h = omega (arith, contexts_items ps is h.1)

seen_length : (additional : Allowed) (ps : List Proposal) → length (map (seen additional) ps) ≡ length ps
seen_length additional ps = grind (arith, common_steps)

pub few_rows : (additional : Allowed) (r : RequestRecord) (b : List ℕ) → RequestText r b → 68 + 4 * accepted_count (offered additional r) ≤ length b
few_rows additional r b h =
    let rest = joined h.items in
    let size = ap length h.whole in
    let fixed : length (joined (h.version ∷ h.unused ∷ r.called ∷ r.calling ∷ r.reserved ∷ h.items)) ≡ 68 + length rest =
    omega (
      arith,
      length-append h.version (h.unused ++ (r.called ++ (r.calling ++ (r.reserved ++ rest)))),
      length-append h.unused (r.called ++ (r.calling ++ (r.reserved ++ rest))),
      length-append r.called (r.calling ++ (r.reserved ++ rest)),
      length-append r.calling (r.reserved ++ rest),
      length-append r.reserved rest,
      h.version_size,
      h.unused_size,
      h.called_size,
      h.calling_size,
      h.reserved_size,
    ) in
    let few = count_by-le-length (λ (p : Proposal). nat_eq (result_of p) 0) (map (seen additional) r.contexts) in
    let proposed = seen_length additional r.contexts in
    let same = contexts_items r.contexts (of_kind proposed_context_item h.items) h.contexts in
    let kinds = length-filter (is_kind proposed_context_item) h.items in
    let some = count_by-le-length (is_kind proposed_context_item) h.items in
    omega (arith, size, fixed, few, proposed, same, kinds, some, items_size h.items h.each)
