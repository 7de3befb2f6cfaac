-- The messages of one list of values after another are those of both (`messages_then`), and the fragments of a
-- message, put together, are it (`message_is`). Stands on FragmentsBringMore.
use Rattle.std.proofs.Common.{◌≡◌, ℕ, ◌+◌, ◌-◌, ◌≤◌, Bool, true, false, cond, List, [], ◌∷◌, ◌++◌, length, Option, Some, None, Result, Ok, refl, sym, ap, subst, ◌∙◌, append_assoc, arith, eq-eqb}
use Rattle.std.proofs.lemmas.Bool.{le-leb}
use Rattle.std.proofs.lemmas.List.{append-nil, length-append}
use Rattle.pdu.specs.Heads.{is_command, is_last}
use Rattle.dimse.specs.declared.fault.DimseFault.{DimseFault}
use Rattle.dimse.specs.Command.{CommandRecord}
use Rattle.dimse.specs.Reading.{command_in}
use Rattle.dimse.specs.Messages.{Pdv, Message, IsFragment, AreFragments, fragments_of, IsSet, IsMessage, Started, NoMessage, InCommand, InSet, if_room, if_context, refusal, Brought, Goes, Ends, Refuses, with_command, brought, Messages, unless_refused, next, with_message, with_later, messages_from, messages}
use Rattle.dimse.specs.MessageLaws.{and_then}
use Rattle.dimse.proofs.FragmentsBringMore.{in_command, in_set, command_row, set_row}

-- ---- one list after another

by_refused : (m : Message) (whole : List Message) (started : Started) (fault : Option DimseFault) (b : Messages)
    → with_message m (and_then (record { whole = whole; started = started; fault = fault }) b) ≡ and_then (record { whole = m ∷ whole; started = started; fault = fault }) b
by_refused m whole started None b = refl
by_refused m whole started (Some fault) b = refl

later_then : (m : Message) (a b : Messages) → with_message m (and_then a b) ≡ and_then (with_message m a) b
later_then m a b = by_refused m a.whole a.started a.fault b

brings_then : (room : ℕ) (x : Brought) (ps qs : List Pdv) → ((b : Started) → messages_from room b (ps ++ qs) ≡ and_then (messages_from room b ps) (messages_from room (messages_from room b ps).started qs))
    → with_later x (λ b. messages_from room b (ps ++ qs))
    ≡ and_then (with_later x (λ b. messages_from room b ps)) (messages_from room (with_later x (λ b. messages_from room b ps)).started qs)
brings_then room (Goes b) ps qs again = again b
brings_then room (Ends m) ps qs again =
    ap (with_message m) (again NoMessage) ∙ later_then m (messages_from room NoMessage ps) (messages_from room (messages_from room NoMessage ps).started qs)
brings_then room (Refuses fault) ps qs again = refl

pub messages_then : (room : ℕ) (b : Started) (ps qs : List Pdv) → messages_from room b (ps ++ qs) ≡ and_then (messages_from room b ps) (messages_from room (messages_from room b ps).started qs)
unfolding messages_from
messages_then room b [] qs = refl
messages_then room b (p ∷ ps) qs = brings_then room (next room b p) ps qs (λ more. messages_then room more ps qs)

-- ---- the fragments of a message

same_context : (first context : ℕ) (other : Option DimseFault) → context ≡ first → if_context first context other ≡ other
same_context first context other e = rw (eq-eqb context first e) refl

has_room : (room size : ℕ) → size ≤ room → if_room room size ≡ None
has_room room size le = rw (le-leb size room le) refl

command_consumed : (room context : ℕ) (acc : List ℕ) (p : Pdv) → IsFragment context true p → length acc + length p.fragment ≤ room → refusal room (InCommand context acc) (length p.fragment + 2) p.context p.control ≡ None
command_consumed room context acc p h le =
    let size : length acc + (length p.fragment + 2 - 2) ≤ room = omega arith in
    same_context context p.context _ h.0 ∙ rw h.1 (has_room room (length acc + (length p.fragment + 2 - 2)) size)

next_command : (room context : ℕ) (acc : List ℕ) (p : Pdv) (last : Bool) → IsFragment context true p → is_last p.control ≡ last → length acc + length p.fragment ≤ room
    → next room (InCommand context acc) p ≡ in_command context (acc ++ p.fragment) last
next_command room context acc p last h e le =
    ap (λ (o : Option DimseFault). unless_refused o (brought (InCommand context acc) p)) (command_consumed room context acc p h le)
    ∙ command_row context acc p last e

next_set : (room context : ℕ) (command acc : List ℕ) (p : Pdv) (last : Bool) → IsFragment context false p → is_last p.control ≡ last → next room (InSet context command acc) p ≡ in_set context command (acc ++ p.fragment) last
next_set room context command acc p last h e =
    let consumed : refusal room (InSet context command acc) (length p.fragment + 2) p.context p.control ≡ None = same_context context p.context _ h.0 ∙ rw h.1 refl in
    ap (λ (o : Option DimseFault). unless_refused o (brought (InSet context command acc) p)) consumed ∙ set_row context command acc p last e

-- a first fragment is like a later one after nothing
next_first : (room : ℕ) (p : Pdv) → is_command p.control ≡ true → next room NoMessage p ≡ next room (InCommand p.context []) p
next_first room p h =
    let n : ℕ = length p.fragment + 2 in
    let none : n - 2 ≡ 0 + (n - 2) = omega arith in
    let same : refusal room NoMessage n p.context p.control ≡ refusal room (InCommand p.context []) n p.context p.control =
    rw h (ap (if_room room) none ∙ sym (same_context p.context p.context (if_room room (0 + (n - 2))) refl)) in
    ap (λ (o : Option DimseFault). unless_refused o (brought NoMessage p)) same

walk_command : (room context : ℕ) (acc : List ℕ) (commands more : List Pdv) → AreFragments context true commands → length acc + length (fragments_of commands) ≤ room
    → messages_from room (InCommand context acc) (commands ++ more)
    ≡ with_later (with_command context (acc ++ fragments_of commands) (command_in (acc ++ fragments_of commands))) (λ b. messages_from room b more)
unfolding messages_from
walk_command room context acc [] more h le = absurd h
walk_command room context acc (p ∷ []) more h le =
    let size : length acc + length p.fragment ≤ room = omega (arith, le, length-append p.fragment []) in
    ap (λ (x : Brought). with_later x (λ b. messages_from room b more)) (next_command room context acc p true h.0 h.1 size)
    ∙ ap (λ (t : List ℕ). with_later (with_command context (acc ++ t) (command_in (acc ++ t))) (λ b. messages_from room b more)) (sym (append-nil p.fragment))
walk_command room context acc (p ∷ q ∷ ps) more h le =
    let size : length acc + length p.fragment ≤ room = omega (arith, le, length-append p.fragment (fragments_of (q ∷ ps))) in
    let all : length (acc ++ p.fragment) + length (fragments_of (q ∷ ps)) ≤ room = omega (arith, le, length-append acc p.fragment, length-append p.fragment (fragments_of (q ∷ ps))) in
    ap (λ (x : Brought). with_later x (λ b. messages_from room b ((q ∷ ps) ++ more))) (next_command room context acc p false h.0 h.1 size)
    ∙ walk_command room context (acc ++ p.fragment) (q ∷ ps) more h.2 all
    ∙ ap (λ (t : List ℕ). with_later (with_command context t (command_in t)) (λ b. messages_from room b more)) (append_assoc acc p.fragment (fragments_of (q ∷ ps)))

walk_set : (room context : ℕ) (command acc : List ℕ) (sets more : List Pdv) → AreFragments context false sets
    → messages_from room (InSet context command acc) (sets ++ more) ≡ with_message (record { context = context; command = command; set = acc ++ fragments_of sets }) (messages_from room NoMessage more)
unfolding messages_from
walk_set room context command acc [] more h = absurd h
walk_set room context command acc (p ∷ []) more h =
    ap (λ (x : Brought). with_later x (λ b. messages_from room b more)) (next_set room context command acc p true h.0 h.1)
    ∙ ap (λ (t : List ℕ). with_message (record { context = context; command = command; set = acc ++ t }) (messages_from room NoMessage more)) (sym (append-nil p.fragment))
walk_set room context command acc (p ∷ q ∷ ps) more h =
    ap (λ (x : Brought). with_later x (λ b. messages_from room b ((q ∷ ps) ++ more))) (next_set room context command acc p false h.0 h.1)
    ∙ walk_set room context command (acc ++ p.fragment) (q ∷ ps) more h.2
    ∙ ap (λ (t : List ℕ). with_message (record { context = context; command = command; set = t }) (messages_from room NoMessage more)) (append_assoc acc p.fragment (fragments_of (q ∷ ps)))

first_of : (context : ℕ) (command : Bool) (p : Pdv) (ps : List Pdv) → AreFragments context command (p ∷ ps) → IsFragment context command p
first_of context command p [] h = h.0
first_of context command p (q ∷ ps) h = h.0

starts : (room context : ℕ) (commands more : List Pdv) → AreFragments context true commands → messages_from room NoMessage (commands ++ more) ≡ messages_from room (InCommand context []) (commands ++ more)
unfolding messages_from
starts room context [] more h = absurd h
starts room context (p ∷ ps) more h =
    let f = first_of context true p ps h in
    ap (λ (x : Brought). with_later x (λ b. messages_from room b (ps ++ more))) (next_first room p f.1 ∙ ap (λ (c : ℕ). next room (InCommand c []) p) f.0)

finishes : (room : ℕ) (m : Message) (b : Bool) (sets more : List Pdv) → IsSet b m sets
    → with_later (cond b (Goes (InSet m.context m.command [])) (Ends (record { context = m.context; command = m.command; set = [] }))) (λ b. messages_from room b (sets ++ more))
    ≡ with_message m (messages_from room NoMessage more)
finishes room m false sets more h =
    ap (λ (ps : List Pdv). with_message (record { context = m.context; command = m.command; set = [] }) (messages_from room NoMessage (ps ++ more))) h.0
    ∙ ap (λ (t : List ℕ). with_message (record { context = m.context; command = m.command; set = t }) (messages_from room NoMessage more)) (sym h.1)
finishes room m true sets more h =
    walk_set room m.context m.command [] sets more h.0
    ∙ ap (λ (t : List ℕ). with_message (record { context = m.context; command = m.command; set = t }) (messages_from room NoMessage more)) (sym h.1)

-- the fragments of a message are put together to it
pub message_is : (room : ℕ) (m : Message) (commands sets more : List Pdv) → IsMessage room m commands sets → messages room ((commands ++ sets) ++ more) ≡ with_message m (messages room more)
unfolding messages
message_is room m commands sets more h =
    let fits : 0 + length (fragments_of commands) ≤ room = omega (arith, subst (λ (t : List ℕ). length t ≤ room) h.joined h.fits) in
    let read : command_in (fragments_of commands) ≡ Ok h.command = ap command_in (sym h.joined) ∙ h.spells in
    ap (messages_from room NoMessage) (append_assoc commands sets more)
    ∙ starts room m.context commands (sets ++ more) h.fragments
    ∙ walk_command room m.context [] commands (sets ++ more) h.fragments fits
    ∙ ap (λ (r : Result CommandRecord DimseFault). with_later (with_command m.context (fragments_of commands) r) (λ b. messages_from room b (sets ++ more))) read
    ∙ ap (λ (t : List ℕ). with_later (with_command m.context t (Ok h.command)) (λ b. messages_from room b (sets ++ more))) (sym h.joined)
    ∙ finishes room m h.command.with_data sets more h.set
