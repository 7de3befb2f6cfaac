-- The state of an association as contracts see it, from its fields.
use Rattle.std.specs.Prelude.{ℕ, ◌+◌, Bool}
use Rattle.acceptor.specs.declared.state.State.{State}
use Rattle.pdu.specs.Deframed.{position_of}
use Rattle.pdu.specs.Deframing.{bytes_held}
use Rattle.negotiate.specs.Settings.{Settings, settings_of}
use Rattle.decisions.specs.declared.decision.Decision.{Decision}
use Rattle.engine.specs.declared.association.Association.{Association}
use Rattle.engine.specs.Kept.{kept_of, held_by}
use Rattle.engine.specs.Phases.{state_in, stored_in}
use Rattle.engine.specs.StoredData.{drafting_in}
use Rattle.engine.specs.FrameFields.{Fields}

abbrev pub fields_of : {A C V D : ℕ} → Association A C V D → Fields
fields_of a = record { position = position_of a.deframer; kept = kept_of a.provider }

-- How many received bytes the fields hold: those of an unfinished head and of the body of a request; 20, and 4 for
-- each presentation context, of an accepted request; those of the command set of a message, and what the walker holds
-- of its data set.
abbrev pub held_in : Fields → ℕ
held_in f = bytes_held f.position + held_by f.kept

-- the state of the acceptor that an association is in
abbrev pub state_of : {A C V D : ℕ} → Association A C V D → State
state_of a = state_in a.provider.phase

-- the settings of an association
abbrev pub settings_in : {A C V D : ℕ} → Association A C V D → Settings
settings_in a = settings_of a.provider.config.now

-- what the association decided last
abbrev pub decided_in : {A C V D : ℕ} → Association A C V D → Decision
decided_in a = a.provider.decided

-- whether the association has a draft in the filing
abbrev pub drafting_of : {A C V D : ℕ} → Association A C V D → Bool
drafting_of a = drafting_in (stored_in a.provider.phase)
