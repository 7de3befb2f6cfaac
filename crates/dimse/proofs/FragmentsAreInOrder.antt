-- Each message that is put together has its fragments in the list, before those of the later ones (`begins_with`).
-- Stands on FragmentsBringMore.
use Rattle.std.proofs.Common.{◌≡◌, ℕ, ◌+◌, ◌-◌, ◌≤◌, Bool, true, false, cond, leb, eqb, List, [], ◌∷◌, ◌++◌, length, Option, Some, None, Result, Ok, Err, refl, sym, ap, subst, ◌∙◌, append_assoc, arith}
use Rattle.std.proofs.lemmas.Bool.{eqb-true, leb-true}
use Rattle.std.proofs.lemmas.List.{append-nil, length-append}
use Rattle.pdu.specs.Heads.{is_command, is_last}
use Rattle.dimse.specs.declared.fault.DimseFault.{DimseFault}
use Rattle.dimse.specs.declared.fault.DimseFault.TheVariants.{CommandTooLong, WrongKind, OtherContext}
use Rattle.dimse.specs.Command.{CommandRecord}
use Rattle.dimse.specs.Reading.{command_in}
use Rattle.dimse.specs.Messages.{Pdv, Message, IsFragment, AreFragments, fragments_of, IsSet, IsMessage, Started, NoMessage, InCommand, InSet, refusal, Brought, Goes, Ends, Refuses, with_command, brought, unless_refused, next, with_later, messages_from, messages}
use Rattle.dimse.specs.MessageLaws.{BeginsWith}
use Rattle.dimse.proofs.FragmentsBringMore.{in_command, in_set, command_row, set_row}

-- fragments before the last one
abbrev NoneLast : ℕ → Bool → List Pdv → Type 0
NoneLast context command [] = Unit {0}
NoneLast context command (p ∷ ps) = IsFragment context command p × (is_last p.control ≡ false) × NoneLast context command ps

one_more : (context : ℕ) (command : Bool) (ps : List Pdv) (p : Pdv) → NoneLast context command ps → IsFragment context command p → is_last p.control ≡ false → NoneLast context command (ps ++ p ∷ [])
one_more context command [] p h f e = (f, e, tt)
one_more context command (q ∷ qs) p h f e = (h.0, h.1, one_more context command qs p h.2 f e)

the_last : (context : ℕ) (command : Bool) (ps : List Pdv) (p : Pdv) → NoneLast context command ps → IsFragment context command p → is_last p.control ≡ true → AreFragments context command (ps ++ p ∷ [])
the_last context command [] p h f e = (f, e)
the_last context command (q ∷ []) p h f e = (h.0, h.1, (f, e))
the_last context command (q ∷ r ∷ qs) p h f e = (h.0, h.1, the_last context command (r ∷ qs) p h.2 f e)

bytes_then : (ps : List Pdv) (p : Pdv) → fragments_of (ps ++ p ∷ []) ≡ fragments_of ps ++ p.fragment
bytes_then [] p = append-nil p.fragment
bytes_then (q ∷ qs) p = ap (λ (t : List ℕ). q.fragment ++ t) (bytes_then qs p) ∙ sym (append_assoc q.fragment (fragments_of qs) p.fragment)

-- ---- what has come, by its fragments

record CommandReceived (room context : ℕ) (command : List ℕ) (done : List Pdv) : Type 0 where
  pub fragments : NoneLast context true done
  pub joined : command ≡ fragments_of done

record SetReceived (room context : ℕ) (command set : List ℕ) (done : List Pdv) : Type 0 where
  pub commands : List Pdv
  pub sets : List Pdv
  pub parts : done ≡ commands ++ sets
  pub fragments : AreFragments context true commands
  pub fits : length command ≤ room
  pub joined : command ≡ fragments_of commands
  pub read : CommandRecord
  pub spells : command_in command ≡ Ok read
  pub due : read.with_data ≡ true
  pub set_fragments : NoneLast context false sets
  pub set_joined : set ≡ fragments_of sets

abbrev HasReceived : ℕ → Started → List Pdv → Type 0
HasReceived room NoMessage done = done ≡ []
HasReceived room (InCommand context command) done = CommandReceived room context command done
HasReceived room (InSet context command set) done = SetReceived room context command set done

abbrev Outcome : ℕ → List Pdv → Brought → Type 0
Outcome room done (Goes b) = HasReceived room b done
Outcome room done (Ends m) = (commands : List Pdv) × (sets : List Pdv) × (done ≡ commands ++ sets) × IsMessage room m commands sets
Outcome room done (Refuses fault) = Unit {0}

-- ---- a fragment of a command set

due_outcome : (room context : ℕ) (command : List ℕ) (done : List Pdv) (read : CommandRecord) (b : Bool) → read.with_data ≡ b → AreFragments context true done → length command ≤ room → command ≡ fragments_of done
    → command_in command ≡ Ok read → Outcome room done (cond b (Goes (InSet context command [])) (Ends (record { context = context; command = command; set = [] })))
due_outcome room context command done read true due all fits joined spells =
    record { commands = done; sets = []; parts = sym (append-nil done); fragments = all; fits = fits; joined = joined; read = read; spells = spells; due = due; set_fragments = tt; set_joined = refl }
due_outcome room context command done read false due all fits joined spells =
    let m : Message = record { context = context; command = command; set = [] } in
    let none : IsSet false m [] = (refl, refl) in
    (done, [], sym (append-nil done), record { command = read; fragments = all; fits = fits; joined = joined; spells = spells; set = subst (λ (x : Bool). IsSet x m []) (sym due) none })

whole_outcome : (room context : ℕ) (command : List ℕ) (done : List Pdv) (r : Result CommandRecord DimseFault) → command_in command ≡ r → AreFragments context true done → length command ≤ room → command ≡ fragments_of done
    → Outcome room done (with_command context command r)
whole_outcome room context command done (Err fault) e all fits joined = tt
whole_outcome room context command done (Ok read) e all fits joined = due_outcome room context command done read read.with_data refl all fits joined e

command_outcome : (room context : ℕ) (acc : List ℕ) (done : List Pdv) (p : Pdv) (last : Bool) → is_last p.control ≡ last → CommandReceived room context acc done → IsFragment context true p → length (acc ++ p.fragment) ≤ room
    → Outcome room (done ++ p ∷ []) (in_command context (acc ++ p.fragment) last)
command_outcome room context acc done p false e h f fits =
    record { fragments = one_more context true done p h.fragments f e; joined = ap (λ (t : List ℕ). t ++ p.fragment) h.joined ∙ sym (bytes_then done p) }
command_outcome room context acc done p true e h f fits =
    let joined : acc ++ p.fragment ≡ fragments_of (done ++ p ∷ []) = ap (λ (t : List ℕ). t ++ p.fragment) h.joined ∙ sym (bytes_then done p) in
    whole_outcome room context (acc ++ p.fragment) (done ++ p ∷ []) (command_in (acc ++ p.fragment)) refl (the_last context true done p h.fragments f e) fits joined

set_outcome : (room context : ℕ) (command acc : List ℕ) (done : List Pdv) (p : Pdv) (last : Bool) → is_last p.control ≡ last → SetReceived room context command acc done → IsFragment context false p
    → Outcome room (done ++ p ∷ []) (in_set context command (acc ++ p.fragment) last)
set_outcome room context command acc done p false e h f =
    record {
      commands = h.commands;
      sets = h.sets ++ p ∷ [];
      parts = ap (λ (t : List Pdv). t ++ p ∷ []) h.parts ∙ append_assoc h.commands h.sets (p ∷ []);
      fragments = h.fragments;
      fits = h.fits;
      joined = h.joined;
      read = h.read;
      spells = h.spells;
      due = h.due;
      set_fragments = one_more context false h.sets p h.set_fragments f e;
      set_joined = ap (λ (t : List ℕ). t ++ p.fragment) h.set_joined ∙ sym (bytes_then h.sets p);
    }
set_outcome room context command acc done p true e h f =
    let m : Message = record { context = context; command = command; set = acc ++ p.fragment } in
    let whole : IsSet true m (h.sets ++ p ∷ []) = (the_last context false h.sets p h.set_fragments f e, ap (λ (t : List ℕ). t ++ p.fragment) h.set_joined ∙ sym (bytes_then h.sets p)) in (
      h.commands,
      h.sets ++ p ∷ [],
      ap (λ (t : List Pdv). t ++ p ∷ []) h.parts ∙ append_assoc h.commands h.sets (p ∷ []),
      record { command = h.read; fragments = h.fragments; fits = h.fits; joined = h.joined; spells = h.spells; set = subst (λ (x : Bool). IsSet x m (h.sets ++ p ∷ [])) (sym h.due) whole },
    )

-- ---- heads that are not refused

in_context : (same : Bool) (other : Option DimseFault) → cond same other (Some OtherContext) ≡ None → (same ≡ true) × (other ≡ None)
in_context true other e = (refl, e)
in_context false other e = absurd cc

of_command : (kind fits : Bool) → cond kind (cond fits None (Some CommandTooLong)) (Some WrongKind) ≡ None → (kind ≡ true) × (fits ≡ true)
of_command true true e = (refl, refl)
of_command true false e = absurd cc
of_command false fits e = absurd cc

of_set : (kind : Bool) → cond {A = Option DimseFault} kind (Some WrongKind) None ≡ None → kind ≡ false
of_set true e = absurd cc
of_set false e = refl

command_by : (room context : ℕ) (acc : List ℕ) (done : List Pdv) (p : Pdv) (r : Option DimseFault) → refusal room (InCommand context acc) (length p.fragment + 2) p.context p.control ≡ r → CommandReceived room context acc done
    → Outcome room (done ++ p ∷ []) (unless_refused r (brought (InCommand context acc) p))
command_by room context acc done p (Some fault) e h = tt
command_by room context acc done p None e h =
    let n : ℕ = length p.fragment + 2 in
    let c = in_context (eqb p.context context) _ e in
    let k = of_command (is_command p.control) (leb (length acc + (n - 2)) room) c.1 in
    let fits : length acc + (n - 2) ≤ room = leb-true _ _ k.1 in
    let size : length (acc ++ p.fragment) ≤ room = omega (arith, fits, length-append acc p.fragment) in
    subst (Outcome room (done ++ p ∷ [])) (sym (command_row context acc p (is_last p.control) refl)) (command_outcome room context acc done p (is_last p.control) refl h (eqb-true _ _ c.0, k.0) size)

set_by : (room context : ℕ) (command acc : List ℕ) (done : List Pdv) (p : Pdv) (r : Option DimseFault) → refusal room (InSet context command acc) (length p.fragment + 2) p.context p.control ≡ r → SetReceived room context command acc done
    → Outcome room (done ++ p ∷ []) (unless_refused r (brought (InSet context command acc) p))
set_by room context command acc done p (Some fault) e h = tt
set_by room context command acc done p None e h =
    let c = in_context (eqb p.context context) _ e in
    let k = of_set (is_command p.control) c.1 in
    subst (Outcome room (done ++ p ∷ [])) (sym (set_row context command acc p (is_last p.control) refl)) (set_outcome room context command acc done p (is_last p.control) refl h (eqb-true _ _ c.0, k))

first_by : (room : ℕ) (p : Pdv) (r : Option DimseFault) → refusal room NoMessage (length p.fragment + 2) p.context p.control ≡ r → Outcome room (p ∷ []) (unless_refused r (brought NoMessage p))
first_by room p (Some fault) e = tt
first_by room p None e =
    let n : ℕ = length p.fragment + 2 in
    let k = of_command (is_command p.control) (leb (n - 2) room) e in
    let fits : n - 2 ≤ room = leb-true _ _ k.1 in
    let size : length p.fragment ≤ room = omega arith in
    let is : brought NoMessage p ≡ in_command p.context ([] ++ p.fragment) (is_last p.control) = refl in
    subst (Outcome room (p ∷ [])) (sym is) (command_outcome room p.context [] [] p (is_last p.control) refl (record { fragments = tt; joined = refl }) (refl, k.0) size)

outcome : (room : ℕ) (b : Started) (done : List Pdv) (p : Pdv) → HasReceived room b done → Outcome room (done ++ p ∷ []) (next room b p)
outcome room NoMessage done p h = rw h (first_by room p (refusal room NoMessage (length p.fragment + 2) p.context p.control) refl)
outcome room (InCommand context acc) done p h = command_by room context acc done p (refusal room (InCommand context acc) (length p.fragment + 2) p.context p.control) refl h
outcome room (InSet context command acc) done p h = set_by room context command acc done p (refusal room (InSet context command acc) (length p.fragment + 2) p.context p.control) refl h

-- ---- the first message of a list

abbrev Goal : ℕ → Started → List Pdv → Message → List Message → Type 0
Goal room b ps m later = (done : List Pdv) → HasReceived room b done → (messages_from room b ps).whole ≡ m ∷ later → BeginsWith room m later (done ++ ps)

by_outcome : (room : ℕ) (x : Brought) (done ps : List Pdv) (m : Message) (later : List Message) → Outcome room done x → ((b : Started) → Goal room b ps m later)
    → (with_later x (λ b. messages_from room b ps)).whole ≡ m ∷ later → BeginsWith room m later (done ++ ps)
unfolding messages
by_outcome room (Goes b) done ps m later h again e = again b done h e
by_outcome room (Ends n) done ps m later h again e =
    let same : n ≡ m = cc in
    let rest : (messages_from room NoMessage ps).whole ≡ later = cc in
    record { commands = h.0; sets = h.1; more = ps; parts = ap (λ (t : List Pdv). t ++ ps) h.2; message = subst (λ (x : Message). IsMessage room x h.0 h.1) same h.3; rest = rest }
by_outcome room (Refuses fault) done ps m later h again e = absurd cc

goes : (room : ℕ) (ps : List Pdv) (m : Message) (later : List Message) (b : Started) → Goal room b ps m later
unfolding messages_from
goes room [] m later b done h e = absurd cc
goes room (p ∷ ps) m later b done h e =
    subst (BeginsWith room m later) (append_assoc done (p ∷ []) ps) (by_outcome room (next room b p) (done ++ p ∷ []) ps m later (outcome room b done p h) (goes room ps m later) e)

pub begins_with : (room : ℕ) (ps : List Pdv) (m : Message) (later : List Message) → (messages room ps).whole ≡ m ∷ later → BeginsWith room m later ps
unfolding messages
begins_with room ps m later e = goes room ps m later NoMessage [] refl e
