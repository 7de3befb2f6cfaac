-- There is one number of bytes that are held, and no other, wherever inputs have led (`held_is_one`). Stands on the laws of
-- `sequence`.
use Rattle.std.proofs.Common.{◌≡◌, ℕ, List, [], Option, Some, refl, sym, ap, subst, ◌∙◌, arith}
use Rattle.sequence.specs.Transfer.{coding_in}
use Rattle.sequence.specs.declared.coding.Coding.{Coding}
use Rattle.element.specs.declared.tag.Tag.{Tag}
use Rattle.sequence.specs.Open.{in_header, Open}
use Rattle.sequence.specs.Rules.{Limits}
use Rattle.sequence.specs.Wanted.{held_of}
use Rattle.sequence.specs.FirstFault.{IsUnbroken, FirstFault}
use Rattle.sequence.proofs.Public.{one_path, one_fault}
use Rattle.engine.specs.Requested.{Requested, request_record}
use Rattle.negotiate.specs.declared.proposals.Context.{Context}
use Rattle.negotiate.specs.Contexts.{context_of}
use Rattle.negotiate.specs.Settings.{Settings}
use Rattle.dimse.specs.Messages.{Started, InSet}
use Rattle.engine.specs.Stores.{limits}
use Rattle.engine.specs.Run.{Rooms}
use Rattle.engine.specs.Fair.{InStore}
use Rattle.engine.specs.Held.{IsHeldOfSet, unbroken, faulty, IsHeldOfMessage, walked, not_walked}
use Rattle.engine.specs.Reached.{message_so_far}
use Rattle.engine.specs.HeldLaws.{HeldIsOne}

pub no_fault : {s : Coding} {lim : Limits} {b p u : List ℕ} {rule : ℕ} {tag : Tag} → IsUnbroken s lim b → FirstFault s lim b p u rule tag → ⊥
no_fault {p = p} {u = u} {rule = rule} {tag = tag} whole f = whole p u f.rest rule tag f.text f.breaks

-- of the data of one store
of_one_set : (syntax : Coding) (lim : Limits) (b : List ℕ) (n m : ℕ) → IsHeldOfSet syntax lim b n → IsHeldOfSet syntax lim b m → n ≡ m
of_one_set syntax lim b n m (unbroken {es = es} {path = path} {last = last} {tail = tail} whole front) (unbroken {es = es2} {path = path2} {last = last2} {tail = tail2} whole2 front2) =
    let same = one_path syntax b es es2 path path2 last last2 tail tail2 front front2 in
    λ i. held_of lim.wanted (same.0 i) (same.1 i) (same.3 i)
of_one_set syntax lim b n m (unbroken whole front) (faulty fault front2) = absurd (no_fault whole fault)
of_one_set syntax lim b n m (faulty fault front) (unbroken whole front2) = absurd (no_fault whole fault)
of_one_set syntax lim b n m (faulty {p = p} {u = u} {rule = rule} {tag = tag} {es = es} {path = path} {last = last} fault front) (faulty {p = p2} {u = u2} {rule = rule2} {tag = tag2} {es = es2} {path = path2} {last = last2} fault2 front2) =
    let offset = (one_fault syntax lim b p p2 u u2 rule rule2 tag tag2 fault fault2).0 in
    let same = one_path syntax p es es2 path path2 last last2 (in_header []) (in_header []) front (subst (λ (x : List ℕ). Open syntax x es2 path2 last2 (in_header [])) (sym offset) front2) in
    λ i. held_of lim.wanted (same.0 i) (same.1 i) (in_header [])

in_set : (id id2 : ℕ) (command command2 set set2 : List ℕ) → InSet id command set ≡ InSet id2 command2 set2 → (id ≡ id2) × (set ≡ set2)
in_set id id2 command command2 set set2 e = (cc, cc)

same_some : (x y : Context) → ◌≡◌ {A = Option Context} (Some x) (Some y) → x ≡ y
same_some x y e = cc

-- the message is of one store alone
of_one_store : (rooms : Rooms) (s : Settings) (request : Requested) (received : Started) (n m : ℕ) (a b : InStore request received)
    → IsHeldOfSet (coding_in a.context.syntax) (limits rooms.depth s.max_data) a.set n → IsHeldOfSet (coding_in b.context.syntax) (limits rooms.depth s.max_data) b.set m → n ≡ m
of_one_store rooms s request received n m a b h k =
    let same = in_set a.id b.id a.command b.command a.set b.set (sym a.started ∙ b.started) in
    let accepted = same_some a.context b.context (sym a.accepted ∙ ap (λ (id : ℕ). context_of (request_record request) id) same.0 ∙ b.accepted) in
    of_one_set (coding_in a.context.syntax) (limits rooms.depth s.max_data) a.set n m h
    (subst (λ (x : Context). IsHeldOfSet (coding_in x.syntax) (limits rooms.depth s.max_data) a.set m) (sym accepted)
    (subst (λ (x : List ℕ). IsHeldOfSet (coding_in b.context.syntax) (limits rooms.depth s.max_data) x m) (sym same.1) k))

of_one_message : (rooms : Rooms) (s : Settings) (request : Requested) (received : Started) (n m : ℕ) → IsHeldOfMessage rooms s request received n → IsHeldOfMessage rooms s request received m → n ≡ m
of_one_message rooms s request received n m (walked a h) (walked b k) = of_one_store rooms s request received n m a b h k
of_one_message rooms s request received n m (walked a h) (not_walked none) = absurd (none a)
of_one_message rooms s request received n m (not_walked none) (walked b k) = absurd (none b)
of_one_message rooms s request received n m (not_walked none) (not_walked none2) = refl

pub held_is_one : HeldIsOne
held_is_one rooms s r n m h k = omega (arith, h.sum, k.sum, of_one_message rooms s r.progress.request (message_so_far r) h.of_set k.of_set h.walked k.walked)
