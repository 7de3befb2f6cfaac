-- An A-ASSOCIATE-AC has 4,620 bytes at most (`accepts_short`). Stands on the laws of `dictionary` and `pdu`.
use Rattle.std.proofs.Common.{◌≡◌, ℕ, ◌+◌, ◌*◌, ◌≤◌, List, [], ◌∷◌, ◌++◌, length, drop, None, arith}
use Rattle.std.specs.List.{flat_map}
use Rattle.std.proofs.lemmas.List.{length-append, length-map, length-take}
use Rattle.element.specs.Numbers.{IsBytes}
use Rattle.dictionary.proofs.Public.{transfer_short}
use Rattle.pdu.specs.Record.{Proposal, RequestRecord}
use Rattle.pdu.specs.Items.{request_record}
use Rattle.pdu.specs.Refusal.{request_fault}
use Rattle.pdu.proofs.Public.{request_text, request_kept, few_ids}
use Rattle.dictionary.specs.Syntaxes.{application_context}
use Rattle.negotiate.specs.Accept.{item_text, context_text, user_text, before_contexts, accept_text, longest_accept}
use Rattle.negotiate.specs.Contexts.{carried, offered, seen}
use Rattle.negotiate.specs.Settings.{Settings}

context_short : (p : Proposal) → length (context_text p) ≤ 35
context_short p = omega (arith, transfer_short (carried p))

contexts_short : (ps : List Proposal) → length (flat_map context_text ps) ≤ 35 * length ps
contexts_short [] = omega arith
contexts_short (p ∷ ps) = omega (arith, length-append (context_text p) (flat_map context_text ps), context_short p, contexts_short ps)

front_short : (r : RequestRecord) → length r.called ≤ 16 → length r.calling ≤ 16 → length r.reserved ≤ 32 → length (before_contexts r) ≤ 93
front_short r called calling reserved =
    let name = item_text 0x10 application_context in
    omega (arith, length-append r.called r.calling, length-append (r.called ++ r.calling) r.reserved, length-append (r.called ++ r.calling ++ r.reserved) name, called, calling, reserved)

three_lengths : (a b c : List ℕ) → length (a ++ b ++ c) ≡ length a + length b + length c
three_lengths a b c = omega (arith, length-append (a ++ b) c, length-append a b)

accept_short : (s : Settings) (r : RequestRecord) → length r.called ≤ 16 → length r.calling ≤ 16 → length r.reserved ≤ 32 → length (accept_text s r) ≤ 140 + 35 * length r.contexts
accept_short s r called calling reserved =
    let offers = (offered s.additional r).contexts in
    omega (arith, three_lengths (before_contexts r) (flat_map context_text offers) (user_text s.max_pdu), front_short r called calling reserved, contexts_short offers, length-map r.contexts (seen s.additional))

few_contexts : (body : List ℕ) → IsBytes body → request_fault body ≡ None → length (request_record body).contexts ≤ 128
few_contexts body bytes none =
    let r = request_record body in
    let kept = request_kept r body bytes (request_text body none) in
    omega (arith, few_ids _ kept.ids_odd kept.ids_distinct, length-map r.contexts (λ (p : Proposal). p.id))

pub accepts_short : (s : Settings) (body : List ℕ) → IsBytes body → request_fault body ≡ None → length (accept_text s (request_record body)) ≤ longest_accept
accepts_short s body bytes none =
    let short = accept_short s (request_record body) (omega (arith, length-take 16 (drop 4 body))) (omega (arith, length-take 16 (drop 20 body))) (omega (arith, length-take 32 (drop 36 body))) in
    omega (arith, short, few_contexts body bytes none)
