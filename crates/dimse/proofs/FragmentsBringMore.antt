-- A fragment brings more of a command (`command_row`) or of a data set (`set_row`), and ends it where it is the last
-- one. Stands on the definitions alone.
use Rattle.std.proofs.Common.{◌≡◌, ℕ, Bool, cond, List, ◌++◌, ap}
use Rattle.pdu.specs.Heads.{is_last}
use Rattle.dimse.specs.Messages.{Pdv, InCommand, InSet, Brought, Goes, completed, brought}

abbrev pub in_command : ℕ → List ℕ → Bool → Brought
in_command context command last = cond last (completed (InCommand context command)) (Goes (InCommand context command))

abbrev pub in_set : ℕ → List ℕ → List ℕ → Bool → Brought
in_set context command set last = cond last (completed (InSet context command set)) (Goes (InSet context command set))

pub command_row : (context : ℕ) (command : List ℕ) (p : Pdv) (last : Bool) → is_last p.control ≡ last → brought (InCommand context command) p ≡ in_command context (command ++ p.fragment) last
command_row context command p last e = ap (in_command context (command ++ p.fragment)) e

pub set_row : (context : ℕ) (command set : List ℕ) (p : Pdv) (last : Bool) → is_last p.control ≡ last → brought (InSet context command set) p ≡ in_set context command (set ++ p.fragment) last
set_row context command set p last e = ap (in_set context command (set ++ p.fragment)) e
